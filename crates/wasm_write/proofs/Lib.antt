mod Written
mod NumberTexts
mod TypeTexts
mod CodeTexts
mod SectionTexts
mod Builds
mod ModuleTexts
mod ShortestLaws
