-- What this crate's functions read and write: digits, a page of text, a word of bytes.
pub mod Digits
pub mod Page
pub mod Words
pub mod laws
pub mod promises
