-- The files of this folder.
mod Comes
mod Conditions
mod RunCalls
mod RunEffects
mod Loops
mod RunStatements
mod Functions
mod RunPrograms
mod Callees
mod Scopes
mod Leaves
mod LeafCalls
mod LeafEffects
mod LeafStatements
mod LeafPrograms
mod Placed
mod Inputs
pub mod DistinctLemmas
pub mod LabelLemmas
pub mod PlaceLemmas
