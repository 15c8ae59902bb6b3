-- The files of this folder.
pub mod AlikeCheckLaws
pub mod CheckingLaws
pub mod SoundLaws
pub mod TwinCheckLaws
