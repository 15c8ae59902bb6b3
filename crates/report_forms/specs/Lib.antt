-- The files of this folder.
pub mod Migrating
pub mod MigratingLaws
pub mod Worked
