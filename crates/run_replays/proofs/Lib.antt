-- Proofs that files of goals share.
pub mod WalkSteps
pub mod BookRuns
pub mod Telling
pub mod Allowing
pub mod Held
pub mod OneReplayLaws
