-- What a job's run prints.
pub mod Types
pub mod Lines
-- ---- a line as the code puts it
pub mod Fields
pub mod laws
pub mod promises
