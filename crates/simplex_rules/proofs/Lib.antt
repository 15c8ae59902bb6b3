-- The files of this folder.
pub mod BasicPointLaws
pub mod FallingLaws
pub mod FirstLineLemmas
pub mod FirstTableauLemmas
pub mod HandedLaws
pub mod HandedOutLemmas
pub mod NarrowOpeningLaws
pub mod OpeningLemmas
pub mod OpeningPlaceLemmas
pub mod OpeningValueLaws
pub mod OutlineOpeningLaws
pub mod PromiseLaws
pub mod ReadOffLaws
pub mod RunLemmas
pub mod SystemLemmas
