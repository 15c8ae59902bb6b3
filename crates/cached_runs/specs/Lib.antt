-- The files here, each after those that it cites.
pub mod Answers
pub mod CachedRuns
