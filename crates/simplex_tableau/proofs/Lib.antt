-- The files of this folder.
-- The files of lemmas here, each after those that it cites.
pub mod MergeLaws
pub mod Freed
pub mod Turned
pub mod Shown
pub mod FreedRows
pub mod Exchange
pub mod TurnedFactors
pub mod Choices
pub mod Pivots
pub mod FirstLaws
pub mod NarrowSteps
pub mod OpeningSteps
pub mod DivisorLaws
pub mod FittedLaws
pub mod ReducingLaws
pub mod RowStepLemmas
pub mod StepLaws
pub mod TermLemmas
pub mod TermsFromLemmas
