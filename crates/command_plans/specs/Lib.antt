-- The files of this folder.
-- Exit codes, outcomes, what was read, work, what code does beside it, and a run of the whole.
pub mod Code
pub mod Outcome
pub mod Log
pub mod Roles
pub mod Steps
pub mod OneAnswer
pub mod Readings
pub mod Work
pub mod WorkLaws
pub mod ReadingLaws
pub mod Works
pub mod Lines
pub mod Run
