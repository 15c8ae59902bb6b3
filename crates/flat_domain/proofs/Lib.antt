-- The files of this folder.
mod Operands
mod Fitting
mod Written
pub mod FlatLemmas
