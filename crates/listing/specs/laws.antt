-- What holds of replies, lines and listings, for our own proofs.
pub mod ReplyLaws
pub mod PutLaws
pub mod FilledLaws
pub mod LengthLaws
pub mod TellingLaws
pub mod ShortLaws
pub mod FitsLaws
pub mod YieldLaws
