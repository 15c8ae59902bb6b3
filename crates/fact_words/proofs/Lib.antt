-- The files of this folder.
-- The first token of a text, and printed texts.
pub mod Cutting
pub mod Printed
-- What the printer rests on.
pub mod Printing
-- The parts of names.
pub mod NameParts
pub mod DigitLemmas
