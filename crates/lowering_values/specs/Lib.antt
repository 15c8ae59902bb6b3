-- The files of this folder.
pub mod Embedding
pub mod EmbeddingLaws
pub mod OperatorLaws
pub mod Frames
pub mod Agreement
