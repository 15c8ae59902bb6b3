-- The files of this folder.
pub mod Views
pub mod Rows
pub mod Cuts
-- What a check tells.
pub mod FirstFault
-- Laws of it.
pub mod FirstFaultLaws
pub mod Numbers
pub mod Table
