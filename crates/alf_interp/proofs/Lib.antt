-- The files of this folder.
mod Moving
mod Returning
mod Rooms
mod Stores
mod Typing
-- Shared lemmas.
pub mod Placing
pub mod Turning
