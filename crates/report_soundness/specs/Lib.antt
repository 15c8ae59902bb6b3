-- The files of this folder.
pub mod BookTold
pub mod BookToldLaws
-- The files here, each after those that it cites.
pub mod ReportTold
pub mod Lines
pub mod Runs
pub mod BelowLaws
pub mod AscentLaws
pub mod LineLaws
pub mod CostLaws
pub mod CollectedLaws
pub mod SoundLaws
pub mod EventLaws
pub mod Numbers
pub mod Exact
pub mod PointLaws
pub mod ExactLaws
pub mod LoneLaws
pub mod BoundTold
pub mod BoundToldLaws
pub mod RunLaws
pub mod Bounded
pub mod Certified
pub mod CertifiedLaws
pub mod BoundedLaws
