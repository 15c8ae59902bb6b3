-- The files here, each after those that it cites.
pub mod InputRows
pub mod InputCosts
pub mod PathBounds
pub mod PathBounding
-- laws
pub mod InputRowLaws
pub mod FoundBounds
pub mod FoundBoundLaws
pub mod PathBoundingLaws
