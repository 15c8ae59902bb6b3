-- The files of this folder.
pub mod Views
pub mod Afterwards
pub mod SwitchMarks
pub mod Arguments
pub mod ValueParts
pub mod Controls
pub mod Braces
pub mod Plain
