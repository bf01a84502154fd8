-- What is promised of the interpolation: it ends on its first coefficient.
pub mod InterpolationLaw
