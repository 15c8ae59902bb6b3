-- The files of this folder.
pub mod Places
pub mod PlaceLaws
pub mod Table
pub mod Fault
pub mod TermSizes
pub mod Returns
pub mod Duplicates
pub mod Unknowns
pub mod Sizes
pub mod Faults
pub mod FoundFaults
pub mod NoFault
pub mod NoFaultLaws
pub mod Scopes
pub mod Worked
