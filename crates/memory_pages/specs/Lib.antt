-- The files of this folder.
pub mod KeptBytes
pub mod Slots
pub mod Pages
pub mod Rooms
