pub mod Settled
pub mod Going
pub mod Numbering
pub mod Assumed
pub mod Renewals
pub mod Parting
