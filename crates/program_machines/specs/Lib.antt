-- The files here, each after those that it cites.
pub mod NodeCosts
pub mod Rankings
pub mod ProgramRuns
pub mod ProgramRunLaws
pub mod Starts
pub mod StartLaws
