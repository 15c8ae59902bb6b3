mod PartLists
mod PlaceRules
mod Placed
mod WordLists
