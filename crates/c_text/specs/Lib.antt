-- The files of this folder.
-- What tokens that spell a unit promise.
pub mod SpellingLaws
-- The rules stand in `c_grammar`, and what the reader stands for in `c_reader`.
-- What texts mean, and what that promises.
pub mod Language
pub mod Laws
