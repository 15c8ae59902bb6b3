-- The files of this folder.
mod Reading
mod Lying
mod Tellings
mod ArmLists
