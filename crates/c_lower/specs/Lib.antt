-- The files of this folder.
pub mod Walk
pub mod Heads
-- Counted units are measured.
pub mod Measured
pub mod Passing
pub mod Lowering
pub mod Outcomes
