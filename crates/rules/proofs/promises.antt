-- What is promised of the rules.

-- ---- what an end means: why it came, that it is the only one, and that x and y are where the caller knows them to be
pub mod EndMeans
-- ---- of whole runs: the counters, no damage, that they end, what a workspace cannot change, what a call leaves alone
pub mod Demand3
pub mod NeverDamaged
pub mod RunEnds
pub mod Workspace
pub mod Beyond
-- ---- of the guard: a NaN error is no pass, and what it leaves alone
pub mod Guarded
-- ---- of refusals: nothing is changed, and the numbers are those of the table
pub mod RefusalLaws
pub mod RefusalTable
-- ---- of single stages: what rescaling means, and what a slip would change
pub mod RowSumLaw
pub mod PlausibleSlips
-- ---- of what is bought beside the run
pub mod Outcomes
-- ---- of the contracts: they leave no choice, they compute what is printed of a job, and no impostor meets them; that nothing of it is empty
pub mod Unique
pub mod Solver
pub mod AnySolver
pub mod Printed
pub mod Impostors
pub mod Witnesses
pub mod NanStep
