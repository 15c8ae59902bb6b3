-- The files of this folder.
pub mod ConditionLaws
pub mod ConstantLaws
pub mod DeclarationLaws
pub mod EffectLaws
pub mod FaultlessLaws
pub mod FunctionLaws
pub mod GlobalLaws
pub mod OperatorLaws
pub mod PassingLaws
pub mod ReturnLaws
pub mod SizeLaws
pub mod StandingLaws
pub mod StatementLaws
pub mod TermLaws
pub mod ValueLaws
