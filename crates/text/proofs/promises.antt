-- What is promised of text: a word and its eight bytes are each other's way back.
pub mod RoundTrip
