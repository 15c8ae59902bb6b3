-- The files of this folder.
mod Placing
mod Beside
mod Spreading
mod Joining
mod Choosing
mod Exits
mod Stepping
mod Moves
