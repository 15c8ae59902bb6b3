-- The files of this folder.
-- Forms, their exactness, rules, loops, and the ways between trees and tokens.
pub mod Form
pub mod Exact
pub mod ExactLaws
pub mod Rule
pub mod Reading
pub mod Rows
pub mod RowLaws
pub mod Each
pub mod Writing
pub mod WritingLaws
pub mod Keeping
pub mod KeepingLaws
-- Chains, and how they are read.
pub mod Chain
pub mod Turns
pub mod TurnLaws
pub mod Worked
