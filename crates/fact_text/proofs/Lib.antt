-- The files of this folder.
-- Meanings, texts of reports, and the reports that texts spell.
pub mod Meaning
pub mod Written
pub mod Kept
pub mod Lasts
-- What words a spelling takes, combinator by combinator and rule by rule, and the texts that follow.
mod Spelling
mod NumberWords
mod Rules
mod Texts
