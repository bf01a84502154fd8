-- What the proofs of this crate share.
pub mod Flushing
pub mod Saying
