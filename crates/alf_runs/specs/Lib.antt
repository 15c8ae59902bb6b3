-- The files of this folder.
pub mod Entering
pub mod Expressions
pub mod LeadLaws
pub mod Outcomes
pub mod PlaceLaws
pub mod Places
pub mod RunLaws
pub mod Runs
pub mod SizeLaws
pub mod Starts
pub mod Statements
pub mod Steps
pub mod StoreLaws
pub mod Worked
