-- The files of this folder.
-- Numbers of calls.
pub mod Numbering
-- Rows of functions.
mod Rows
-- Trees of statements.
mod Trees
mod Marked
mod UnderWay
mod Pairs
pub mod Definitions
pub mod Going
pub mod Roots
