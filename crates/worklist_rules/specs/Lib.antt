-- The files of this folder.
-- The files here, each after those that it cites.
pub mod Positions
pub mod PositionLaws
pub mod Pools
pub mod FaultTestLaws
pub mod Events
pub mod Policies
pub mod Runs
pub mod Kept
pub mod PlaceLaws
pub mod Successors
pub mod SuccessorLaws
pub mod StepLaws
pub mod MergeLaws
pub mod EventLaws
pub mod RunLaws
pub mod EndedRuns
pub mod SummedLaws
pub mod PolicyLaws
pub mod Sharp
pub mod SharpLaws
pub mod Worked
