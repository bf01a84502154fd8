-- What is promised of the last two lines of the output.
pub mod LastLine
