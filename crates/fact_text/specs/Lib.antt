-- The files of this folder.
-- The grammar, what a text means, what the reader stands for, and what reports promise.
pub mod Grammar
pub mod Language
pub mod Reading
pub mod Laws
-- What the texts of reports promise.
pub mod ReportLaws
