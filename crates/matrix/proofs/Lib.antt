-- Laws of the definitions, those of lengths and pivots in laws/. Those that are `pub` are for callers too.
mod Magnitude
pub mod Size
mod Stages
mod Writes
mod Commuting
mod Rows
mod Zeros
mod Columns
pub mod laws
