-- What holds of the rules, for our own proofs.

-- ---- of slices, tables and single stages
pub mod TableBits
pub mod LentLaws
pub mod PartLaws
pub mod NewtonLaws
pub mod OrderLaws
pub mod RescaleLaws
pub mod FactorLaws
pub mod AsideLaws
pub mod LengthLaws
-- ---- what the code asks of its callers
pub mod ReadyLaws
pub mod NeededLaws
-- ---- what each stage does to the counters, whatever the floats are
pub mod MovedLaws
pub mod AttemptLaws
pub mod MainLoopLaws
pub mod StepLaws
pub mod ReplyLaws
-- ---- the checks: what each passes and refuses
pub mod PassedLaws
pub mod CheckLaws
pub mod DamageLaws
pub mod GoOnLaws
pub mod CallLaws
-- ---- what the question slice and the workspace can change
pub mod QuestionLaws
pub mod SpeakLaws
pub mod AgreeLaws
-- ---- that no stage sees what it does not read; guarded and unguarded calls beside each other
pub mod BlindLaws
pub mod GuardLaws
pub mod NanLaws
-- ---- the counters over whole exchanges, place by place; a state that is not damaged
pub mod HistoryLaws
pub mod StandingLaws
pub mod PlaceLaws
pub mod ExchangeLaws
pub mod UndamagedLaws
pub mod SoundLaws
-- ---- why an end comes, and that the state is where the caller knows it to be, over whole exchanges
pub mod YLaws
pub mod ToldLaws
pub mod EndLaws
pub mod KnownLaws
pub mod LastLaws
