-- What the renderer writes.
pub mod Times
pub mod Sampled
pub mod laws
