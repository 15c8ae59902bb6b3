-- What the reader stands for.
pub mod Names
pub mod Reading
