-- The files of this folder.
pub mod Order
pub mod Among
pub mod Targets
pub mod Leading
pub mod Growing
pub mod Searching
pub mod Listing
pub mod Whole
pub mod OneList
pub mod OneGraph
pub mod PathFunctions
pub mod Expanding
pub mod Naming
pub mod GraphNames
pub mod EdgeLemmas
