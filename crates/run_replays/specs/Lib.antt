-- The files of this folder.
pub mod Replays
pub mod OneReplay
pub mod Walks
pub mod Tests
pub mod Worked
