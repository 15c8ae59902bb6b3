-- The files of this folder.
-- The files here.
mod WorkedRows
pub mod MachineLemmas
pub mod MachinesOverLaws
pub mod PointLemmas
pub mod SteppingLemmas
pub mod TransferLemmas
