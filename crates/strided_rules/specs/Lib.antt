-- The files here, each after those that it cites.
pub mod Strides
pub mod Joins
pub mod Rules
pub mod Members
pub mod Operators
pub mod Domains
pub mod PlacedLaws
pub mod JoinLaws
pub mod RuleLaws
pub mod MemberLaws
pub mod OperatorLaws
pub mod DomainLaws
pub mod AssumedLaws
pub mod StrideLaws
