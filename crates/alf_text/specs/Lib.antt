-- The files of this folder.
pub mod Canonical
pub mod Printing
-- Programs and their canonical text, the grammar of items, functions and programs, what a text means, and what printing
-- back promises.
pub use Rattle.alf_program.specs.Tree
pub use Rattle.alf_text.specs.Canonical
pub mod Grammar
pub mod Language
pub mod CanonicalLaws
