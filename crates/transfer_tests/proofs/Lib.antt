-- The files of this folder.
pub mod SideLaws
pub mod SlotLaws
pub mod StatementLaws
