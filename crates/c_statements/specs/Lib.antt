-- The rules stand in `c_grammar`, and what the reader stands for in `c_reader`.
pub mod Heads
