-- The files of this folder.
pub mod StandingCells
pub mod Places
-- The files here, each after those that it cites.
pub mod LoadedResults
pub mod LoadLaws
pub mod FrameJoins
