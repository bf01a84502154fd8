-- What is promised of writing out.
pub mod Unique
