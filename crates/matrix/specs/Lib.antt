-- What factoring a matrix and solving with its factors mean: the sizes that are served, magnitude, the two functions; and the order
-- in which the code goes.
pub mod Size
pub mod Magnitude
pub mod Lu
pub mod Linear
-- ---- the code's own order
pub mod Rows
pub mod promises
