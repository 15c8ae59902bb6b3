-- The files of this folder.
pub mod Doing
pub mod Filling
pub mod Machines
pub mod Stepping
pub mod Telling
pub mod Turns
pub mod Typed
pub mod Traces
pub mod Counts
