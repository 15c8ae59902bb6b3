-- The files of this folder.
-- Expressions of a lowered program.
pub mod Terms
pub mod Constants
pub mod Values
-- Items of a lowered program.
pub mod Effects
-- Lowered programs pass the checks of ALF.
pub mod Functions
pub mod Returns
pub mod Faultless
