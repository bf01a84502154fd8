-- The rules of the solver: what its functions compute, each in the order of operations of the Rust. The words in which
-- more is said of them are in laws/; what holds of them for our own proofs is in proofs/laws/, what a buyer reads, of single stages and of
-- whole runs, in proofs/promises/.

-- ---- types and words: the code's types, the state 'the same but for', the workspace's places, the tables, and the kinds of answers
pub mod Types
pub mod State
pub mod Places
pub mod Moves
pub mod Literals
pub mod Tables
pub mod Settings
pub mod Statuses
pub mod Counters
pub mod Replies
pub mod Refusals
pub mod Answers
-- ---- the stages of a run
pub mod Rescale
pub mod Starting
pub mod Predict
pub mod Factor
pub mod Newton
pub mod Norm
pub mod Judge
pub mod Order
pub mod Attempt
pub mod Step
pub mod Reply
-- ---- the run: a beginning and a going on, with their checks; both as one thing with what is handed to them; a whole exchange, and
-- what its caller knows of x and y
pub mod Checks
pub mod Begin
pub mod GoOn
pub mod Calls
pub mod History
pub mod Known
pub mod Bounds
-- ---- guarded and unguarded runs beside each other
pub mod Beside
pub mod Guarding
pub mod laws
