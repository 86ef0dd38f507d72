pub mod SizesInWords
pub mod FilesInWords
pub mod OutcomeLaws
pub mod VerdictOfTile
pub mod StepLaws
