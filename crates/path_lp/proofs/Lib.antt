-- The files of this folder.
pub mod HandingLaws
pub mod StepLaws
pub mod FractionLaws
pub mod RunLaws
pub mod Floors
pub mod BoundLaws
pub mod RightLaws
pub mod OpeningCostLemmas
