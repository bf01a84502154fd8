-- What holds of digits, of notations and of pages, for those who write them; and of the fronts of slices, for those who lend them.
pub mod DigitLaws
pub mod Fronts
pub mod Notations
pub mod PageLaws
