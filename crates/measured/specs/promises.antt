-- The measured lines that are proved.
pub mod Measured
