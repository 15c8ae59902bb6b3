-- The files here, each after those that it cites.
pub mod Held
pub mod Jobs
pub mod JobLaws
pub mod LeaveLaws
pub mod Worked
