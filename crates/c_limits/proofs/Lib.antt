-- The files of this folder.
mod NameTokens
mod Objects
mod Callees
mod Calls
mod Given
mod NameUnits
mod Spending
mod LabelExpressions
mod LabelStatements
mod LabelUnits
mod Keeping
mod TypesKeep
mod PlainExpressions
mod PlainStatements
mod PlainTokens
mod Depths
mod ShallowStatements
mod PlainUnits
pub mod CountSpelledLaws
pub mod DepthLaws
pub mod EffectLaws
pub mod ExternalLaws
pub mod MeasuringLaws
pub mod ParameterLaws
pub mod SpendingLaws
pub mod StartLaws
pub mod StatementLaws
pub mod TakingLaws
pub mod TypesTakeLaws
