-- Tables of bounds, and that they keep the laws of bounders.
pub mod BoundTables
pub mod BoundTableLaws
