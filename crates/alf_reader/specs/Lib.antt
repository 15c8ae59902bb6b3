-- The grammar up to expressions, what the reader stands for, and words of a size.
pub mod Grammar
pub mod Reading
pub mod Signed
pub mod SignedLaws
pub mod Worked
