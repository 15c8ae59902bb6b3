-- The files of this folder.
pub mod Addresses
pub mod Blank
pub mod EachLoads
pub mod Events
pub mod Functions
pub mod Loads
pub mod Standing
pub mod Writes
