-- The files of this folder.
pub mod Uses
pub mod Params
pub mod Tells
pub mod Known
pub mod Files
pub mod FileLaws
