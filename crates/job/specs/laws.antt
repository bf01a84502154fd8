-- What holds of a job that was read, for our own proofs and those of the job program; of heads, words and forms as bytes, and of the
-- beginning's checks of a job.
pub mod ReadingLaws
pub mod HeadLaws
pub mod JoinedLaws
pub mod LaidLaws
pub mod FitLaws
pub mod BeginLaws
pub mod BeginningLaws
pub mod JudgedLaws
