-- The files here, each after those that it cites.
pub mod AbstractValues
pub mod Choices
pub mod Covering
pub mod ValueLaws
pub mod RuleLaws
pub mod ChoiceLaws
pub mod ApplyLaws
