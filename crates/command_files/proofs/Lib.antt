-- The files of this folder.
pub mod JudgedTables
pub mod JudgedTaskFiles
pub mod JudgedValues
pub mod JudgedScopes
pub mod JudgedReportFiles
