-- Rounded operations on doubles as whole numbers of units. There is no code here, so nothing is promised.
pub mod Units
pub mod laws
