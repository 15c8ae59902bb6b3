-- The files of this folder: response times and their laws, schedules and their laws, and what private code stands for.
pub mod Responses
pub mod ResponseLaws
pub mod Schedules
pub mod ScheduleLaws
pub mod Events
pub mod EventLaws
pub mod ReachLaws
pub mod Worked
pub mod Shares
