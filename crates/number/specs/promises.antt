-- What is promised of the helpers.
pub mod Unique
