-- The files of this folder.
pub mod Faults
pub mod Types
pub mod Names
pub mod Expressions
pub mod Calls
pub mod Statements
pub mod Units
pub mod Recursion
pub mod Programs
pub mod Typed
pub mod TypedLaws
pub mod Standing
pub mod StandingLaws
pub mod UnitsStand
pub mod UnitsStandLaws
pub mod Worked
-- What the trees of a unit keep that some text spells.
pub mod SpelledExpressions
pub mod Counts
pub mod SpelledUnits
