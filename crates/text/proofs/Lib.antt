-- What holds of digits and of a page, for the proofs of the functions that write them; and of numbers as bytes, in laws/ and promises/.
mod Spelling
mod Putting
pub mod laws
pub mod promises
mod Counting
