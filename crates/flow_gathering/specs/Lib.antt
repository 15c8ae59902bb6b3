-- What was collected, as the code holds it.
pub mod Gathering
-- Laws that turns of loops cite.
pub mod TakeLaws
