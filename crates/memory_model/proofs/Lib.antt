-- The files of this folder.
mod Held
mod Lattice
mod Stored
