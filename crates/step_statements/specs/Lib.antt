-- The files here, each after those that it cites.
pub mod Typed
pub mod Found
pub mod Rooms
pub mod Arguments
