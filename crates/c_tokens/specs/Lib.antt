-- The files of this folder.
-- Bytes, what texts are as wholes, tokens, and what these promise.
pub mod Bytes
pub mod Ends
pub mod Numbers
pub mod Punctuators
pub mod Keywords
pub mod Kinds
pub mod Tokens
pub mod Cutting
pub mod Ahead
pub mod Printed
pub mod Laws
-- What constants are worth.
pub mod Worth
