-- What is promised of lines: the contracts leave no choice, and what they give at a job of docs/JOB-FORMAT.md.
pub mod Unique
pub mod Examples
