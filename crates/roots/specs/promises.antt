-- What is promised of the two roots' contracts: nothing else meets them. What the roots mean stands in proofs/promises/.
pub mod Unique
