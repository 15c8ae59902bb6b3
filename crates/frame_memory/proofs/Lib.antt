-- The files of this folder.
mod SlotFrames
mod Steps
mod Stores
mod Changes
mod Sizes
pub mod ByteLaws
pub mod ByteWords
pub mod LoadLemmas
pub mod Results
mod SlotJoins
mod FrameSteps
