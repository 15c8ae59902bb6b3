-- The files of this folder.
pub mod TextPrinting
-- Shared lemmas: which programs some text spells.
pub mod Meaning
pub mod Decimals
pub mod Named
pub mod Written
pub mod Needs
pub mod Kept
pub mod TextCanonicalLaws
