pub mod Divisors
pub mod Operands
