-- The files here, each after those that it cites.
pub mod Silence
pub mod SilenceLaws
pub mod Seen
pub mod Watching
pub mod Answers
