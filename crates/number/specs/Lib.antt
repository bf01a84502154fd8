-- What the four helpers give.
pub mod Helpers
pub mod laws
pub mod promises
