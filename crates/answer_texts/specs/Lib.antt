-- What texts tell, and lines of refusal.

-- lines that name faults, nodes and scopes
pub mod FaultWords
pub mod ScopeLines
-- what is told of a run
pub mod RunText
-- what is told of boxes of inputs
pub mod WorstText
-- what is told of a cache
pub mod CacheText
-- what is told of response times
pub mod ResponseText
-- the program that is made, and what is told of its report
pub mod MadeProgram
pub mod SummaryText
-- lines about reports and table files that are read
pub mod NoLines
pub mod ReportFaultLines
pub mod TableLines
-- what lines are worked out of
pub mod Worked
