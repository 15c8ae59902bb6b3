-- Bytes, tokens, cursors, printed texts, and what these promise.
pub mod Bytes
pub mod Tokens
pub mod Ahead
pub mod Printed
pub mod Laws
