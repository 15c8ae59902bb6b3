-- Lines of refusals, the program that a file gives, and what told files say that it is.

-- lines
pub mod FaultLines
pub mod CheckLines
pub mod UnitLines
pub mod RefusalLines
-- programs of ALF and units of C
pub mod Programs
pub mod Units
-- the program of a command
pub mod Expanding
pub mod Told
pub mod Seen
