pub mod Loop
pub mod PartLaws
pub mod NumeralLaws
pub mod LexemeLaws
pub mod ManyLaws
pub mod NoteParts
pub mod NoteLaws
pub mod FirstLaws
