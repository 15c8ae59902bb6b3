-- The files here, each after those that it cites.
pub mod Shaping
pub mod Objecting
pub mod Checks
pub mod Accepted
pub mod MetLaws
pub mod CountLaws
pub mod PathLaws
pub mod SoundLaws
pub mod OneLaws
pub mod OwnLaws
pub mod Worked
