-- What the two roots give; then the words of the code's own steps towards them.
pub mod Roots
-- ---- the steps
pub mod Numeral
pub mod Scaled
pub mod Quick
pub mod WholeRoot
pub mod promises
