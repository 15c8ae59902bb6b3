-- The files of this folder.
-- What rules take, and what tokens are.
pub mod Taking
pub mod TypesTake
pub mod ExpressionsTake
pub mod StatementsTake
pub mod UnitsTake
pub mod Numbered
-- No lemmas of its own.
-- Meanings, and what is printed.
pub mod Meaning
pub mod Again
