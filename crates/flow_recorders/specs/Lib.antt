-- The files of this folder.
pub mod Climbs
pub mod ClimbLaws
pub mod BothRules
pub mod BothLaws
pub mod SmallCounts
pub mod SpanLists
pub mod Chained
pub mod Walked
pub mod Ledgers
pub mod TallyKeys
pub mod TallyKeyLaws
