-- The files of this folder.
pub mod Counts
pub mod ByOperatorLaws
pub mod DistinctLaws
pub mod LabelLaws
pub mod Places
pub mod PlaceLaws
pub mod Leaves
pub mod Functions
pub mod Outcomes
pub mod Related
pub mod Plain
pub mod Laws
pub mod Correct
pub mod Lowering
