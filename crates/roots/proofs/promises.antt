-- What is promised of the two roots: what they mean, and where the inverse root is infinite.
pub mod Meaning
pub mod Overflow
