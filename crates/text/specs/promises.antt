-- What is promised of text: its contracts leave no choice, and what they give at numbers that are easily got wrong. That a word and its eight
-- bytes are each other's way back stands in proofs/promises/.
pub mod Unique
pub mod Examples
