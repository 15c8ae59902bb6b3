-- The files here, each after those that it cites.
pub mod CodeAccesses
pub mod Sound
pub mod SoundLaws
pub mod Analyses
