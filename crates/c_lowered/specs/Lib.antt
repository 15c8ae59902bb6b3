pub mod Names
pub mod Values
pub mod Conditions
pub mod Effects
pub mod Statements
pub mod Frames
pub mod Programs
pub mod Worked
