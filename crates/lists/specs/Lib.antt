-- The files of this folder.
pub mod FindingLaws
pub mod ImageLaws
pub mod MemberLaws
pub mod TestLaws
