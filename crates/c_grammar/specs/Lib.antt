-- The files of this folder.
-- Symbols, the words of a type, and the rules.
pub mod Symbols
pub mod Words
pub mod Tokens
pub mod Expressions
pub mod Types
pub mod Statements
pub mod Units
-- One induction over the rules.
pub mod WalkLaws
pub mod TypeWalkLaws
pub mod ExpressionWalkLaws
pub mod StatementWalkLaws
pub mod UnitWalkLaws
pub mod Worked
