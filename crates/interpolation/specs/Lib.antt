-- What the interpolation computes.
pub mod Interpolate
pub mod laws
pub mod promises
