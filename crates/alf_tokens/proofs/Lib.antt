-- Pieces, ends of comments, and printed texts.
pub mod Closing
pub mod Pieces
pub mod Printed
