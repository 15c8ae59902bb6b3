-- The files here, each after those that it cites.
pub mod Lines
pub mod LineLaws
pub mod PartLines
pub mod PartLineLaws
pub mod Lru
pub mod Sure
pub mod Covered
pub mod CoveredLaws
pub mod RowLaws
pub mod Traced
pub mod LruLaws
pub mod MissRules
pub mod MissLaws
pub mod Worked
