pub mod Small
pub mod Systems
pub mod Fitting
pub mod Constraints
pub mod Terms
pub mod Places
pub mod Openings
pub mod Worked
