pub mod Values
pub mod Objects
pub mod Expressions
pub mod Endings
pub mod Statements
pub mod Programs
pub mod Worked
pub mod WorkedOperators
