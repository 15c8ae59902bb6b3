pub mod Handed
pub mod Ended
pub mod Parted
pub mod Pathed
pub mod ScopesIn
pub mod Rows
pub mod PathSteps
pub mod Formed
