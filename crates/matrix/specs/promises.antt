-- What is promised of factoring and solving.
pub mod Unique
