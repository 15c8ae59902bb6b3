-- The files of this folder.
pub mod Handing
pub mod Stepping
pub mod Fractions
pub mod Solving
pub mod Bounding
pub mod GroupLaws
pub mod OpeningCosts
pub mod OpeningCostLaws
pub mod Holding
