-- The files that a command reads, and what they mean.

-- the program, with the scopes of its graph
pub mod Scopes
pub mod LaidOut
-- tables
pub mod Tables
pub mod TaskFiles
pub mod Values
-- reports
pub mod ReportFiles
-- what the code's values stand for
pub mod Seen
-- laws
pub mod Laws
