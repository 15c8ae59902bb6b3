-- Words, commands, and the laws of answers.

-- words
pub mod Words
-- the program that is made, as a file
pub mod MadeFile
-- commands, a file each, and their table
pub mod Task
pub mod LeftLines
pub mod Legends
pub mod Counting
pub mod Analyse
pub mod Print
pub mod PrintC
pub mod Lower
pub mod Run
pub mod Tasks
pub mod Exact
pub mod Worst
pub mod Check
pub mod Migrate
pub mod Replay
pub mod SeenBounders
pub mod Cache
pub mod Generate
pub mod Table
-- the top of the program
pub mod Top
-- laws
pub mod Laws
