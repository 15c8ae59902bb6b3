-- The files of this folder.
-- Sizes of a counted unit.
pub mod Objects
pub mod ObjectLaws
pub mod Bytes
pub mod ByteLaws
pub mod Counted
pub mod LabelSpelled
-- What the rules of C count.
pub mod Taking
pub mod Measuring
pub mod Depths
pub mod Spending
pub mod Effects
pub mod Statements
pub mod PlainSpelled
