pub mod Numbers
pub mod MultipleLaws
pub mod ProductLaws
pub mod DivisionLaws
pub mod GcdLaws
