-- The files of this folder.
-- Tokens, cursors, printed texts, and what these promise.
pub mod Tokens
pub mod Ahead
pub mod Printed
pub mod Laws
-- The text of a report, and how it is put together.
pub mod Canonical
pub mod Printing
-- Numbers and names, what holds of them, and what answers tell.
pub mod Numbers
pub mod DigitLaws
pub mod Names
pub mod NameLaws
pub mod Answers
