-- The files of this folder.
-- The files here, each after those that it cites.
pub mod Merging
pub mod Reducing
pub mod Turning
pub mod Shown
pub mod TermLaws
pub mod Sparse
pub mod Stepped
pub mod Choosing
pub mod TermsFromLaws
pub mod FirstTerms
pub mod Started
pub mod RowStepLaws
