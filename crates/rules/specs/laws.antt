-- The words in which it is said what holds of the rules: what the code asks of its callers, and what the laws and promises are about.

-- ---- what the code asks of its callers
pub mod Ready
-- ---- what each stage does to the counters, whatever the floats are
pub mod Moved
pub mod Said
-- ---- what the question slice and the workspace can change
pub mod Agree
-- ---- the counters over whole exchanges, place by place; a state that is not damaged
pub mod Standing
-- ---- why an end comes, and that the state is where the caller knows it to be, over whole exchanges
pub mod Leading
