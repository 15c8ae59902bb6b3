-- Programs, and which of them some text spells.
pub mod Tree
pub mod Writable
