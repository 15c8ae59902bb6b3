-- The files of this folder.
-- Texts of ranges.
pub mod Texts
