-- The files of this folder.
pub mod AgreeLaws
pub mod BoundToldLemmas
pub mod BoundedLemmas
pub mod LineLemmas
pub mod LineProofs
pub mod NumberLaws
pub mod NumberLemmas
pub mod RunLemmas
pub mod WritableLaws
