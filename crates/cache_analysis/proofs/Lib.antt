-- The files here.
pub mod Explored
pub mod NotedLaws
pub mod OneAnswerLaws
pub mod SoundLemmas
