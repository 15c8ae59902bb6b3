-- The files of this folder.
pub mod DepthLaws
pub mod KeepingLaws
pub mod MoreTurnLaws
