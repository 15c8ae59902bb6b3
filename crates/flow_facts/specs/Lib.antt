-- The files here, each after those that it cites.
pub mod Facts
pub mod Reports
pub mod Writable
pub mod OrderLaws
pub mod Walking
