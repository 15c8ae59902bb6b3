pub mod Progressions
pub mod Images
pub mod Parts
pub mod Limits
pub mod ProgressionLaws
pub mod PartLaws
pub mod ImageLaws
