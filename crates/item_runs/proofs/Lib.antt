-- The files of this folder.
mod Cutting
mod Doing
mod Functions
mod Naming
mod Checked
mod Tracks
