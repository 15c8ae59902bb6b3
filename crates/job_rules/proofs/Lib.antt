-- The files here.
pub mod Sequences
pub mod WorkedJobs
