-- The files of this folder.
pub mod Walking
pub mod KnownHeads
mod Labels
mod Plain
pub mod Made
pub mod MeasuredLaws
