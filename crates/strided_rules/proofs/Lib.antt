mod WorkedRows
pub mod DomainLemmas
