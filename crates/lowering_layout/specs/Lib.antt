-- The files of this folder.
pub mod Declared
pub mod DeclaredLaws
-- Names in a lowered program.
pub mod Lists
pub mod ListLaws
pub mod Texts
pub mod TextLaws
pub mod Spelled
pub mod Differ
pub mod DifferLaws
pub mod Places
pub mod PlaceLaws
pub mod NameTexts
pub mod NameTextLaws
pub mod Checked
pub mod CheckedLaws
pub mod PartFrames
pub mod PartFrameLaws
pub mod Frames
pub mod Views
pub mod ViewLaws
pub mod FrameLaws
