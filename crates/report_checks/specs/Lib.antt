-- What the private code of the crate stands for.
pub mod Applied
pub mod Marks
pub mod Tests
