-- The files of this folder.
-- The files here, each after those that it cites.
pub mod Flats
pub mod OperatorSizeLaws
pub mod FlatLaws
pub mod Fits
