-- The files of this folder.
pub mod Cells
pub mod Fitting
pub mod LoadsAndStores
pub mod Modular
pub mod NamedOperators
pub mod Operators
pub mod Origins
pub mod OutcomeSizes
pub mod Rotations
pub mod SpanLemmas
pub mod Values
pub mod WordByteLemmas
pub mod WordReadings
