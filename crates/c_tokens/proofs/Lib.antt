-- The files of this folder.
pub mod Ending
pub mod Fitting
pub mod Longest
pub mod Passing
pub mod Pieces
pub mod Prefixes
pub mod Printing
pub mod Spaced
-- Large numbers.
pub mod Large
