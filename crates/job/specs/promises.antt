-- What is promised of a job: doubles are read as their bits; no job's run is guarded; the contracts leave no choice; and what they give at
-- the first job of docs/JOB-FORMAT.md and at files and forms that are easily judged wrongly. That reader and writer are each other's way
-- back, and accept the same, stands in proofs/RoundTrip.antt.
pub mod Values
pub mod Unguarded
pub mod Unique
pub mod Examples
pub mod WrittenExamples
