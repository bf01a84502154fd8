-- What the proofs on rows of digits use.
mod Multiplied
mod NumeralLaws
mod Rows
