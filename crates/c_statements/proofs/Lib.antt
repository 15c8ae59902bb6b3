-- What statements are read by at each level, and by their heads.
pub mod Levels
pub mod HeadsLaws
