-- The layout of code, and what holds of it.
pub mod Layouts
pub mod LayoutLaws
pub mod Worked
