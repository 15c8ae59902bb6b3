-- The files of this folder.
mod Origins
mod Loads
mod SameWords
mod Outcomes
mod Tests
mod Sizes
mod Given
mod Constants
mod Fitting
mod Agreeing
mod Stores
mod Calls
mod Lower
