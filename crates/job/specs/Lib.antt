-- What a job file says, what a form is written as, and what a job's right side is.
pub mod Types
pub mod Packed
pub mod Reading
pub mod Writing
pub mod JobFile
pub mod Right
pub mod laws
pub mod promises
