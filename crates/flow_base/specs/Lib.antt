-- Places and digits, and the outside: counts and files, shelves, sinks, and those in memory.
pub mod Places
pub mod Digits
pub mod Outside
pub mod Shelves
pub mod Sinks
pub mod Streams
pub mod Held
pub mod MemoryShelf
pub mod MemorySink
pub mod Sure
