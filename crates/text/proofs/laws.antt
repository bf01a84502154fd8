-- What holds of numbers as bytes, for those who write them.
pub mod WordLaws
