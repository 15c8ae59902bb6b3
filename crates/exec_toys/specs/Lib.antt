-- The files of this folder.
-- The files here, each after those that it cites.
pub mod Charts
pub mod ChartLaws
pub mod Silence
pub mod SilenceLaws
