-- The files of this folder.
pub mod Standing
pub mod Operands
pub mod EarliestFaults
pub mod Reading
pub mod FaultLists
pub mod FaultParts
pub mod FaultItems
