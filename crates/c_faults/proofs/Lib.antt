-- The files of this folder.
-- Conditions in pairs.
mod Pairs
-- Assignments with an operator.
mod Updates
mod LocalUnderWay
mod GlobalUnderWay
pub mod FileLemmas
