pub mod ListingLaws
pub mod ReportLaws
pub mod OnceLaws
pub mod AcceptLaws
pub mod OutcomeLaws
pub mod ExistLaws
pub mod Verdicts
pub mod SealedLaws
