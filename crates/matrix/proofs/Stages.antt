-- How the stages of LU go on: a stage with a zero pivot ends them, any other leaves the ones after it, and none is left at n - 1.
use mathlib.Core.Path.{◌≡◌}
use mathlib.Core.Bool.{true, false}
use mathlib.Core.List.{List}
use Prim.Native.Nat.{ℕ, suc, ◌+◌, ◌-◌, ◌≤◌, ◌<◌}
use native.Mathlib.Omega.{arith}
use lib.ListN.{set}
use lib.Ieee.{Float, eq}
use Rattle.loops.specs.laws.ChoiceLaws.{when_true, when_false}
use Rattle.loops.specs.Cell.{cell}
use Rattle.loops.specs.Refusal.{refuses}
use Rattle.loops.specs.Arithmetic.{+0}
use Rattle.matrix.specs.Lu.{LuOutcome, pivot_of, stage_of, last_of, stages_of}

module _ (n k : ℕ) (a : List Float) (ip : List ℕ) where
  -- the stages from k on
  abbrev pub from : LuOutcome
  from = stages_of n (n - 1 - k) k a ip

  pub no_stage_left : n - 1 ≤ k → from ≡ last_of n a ip
  unfolding stages_of
  no_stage_left h = let e : n - 1 - k ≡ 0 = omega arith in rw e

  pub stage_fails : (m : ℕ) → k < n - 1 → m ≡ pivot_of n a k → eq (cell n a m k) +0 ≡ true → from ≡ (refuses 15, a, set ip k m)
  unfolding stages_of
  stage_fails m h p t = let e : n - 1 - k ≡ suc (n - 1 - (k + 1)) = omega arith in rw (e, ← p) (when_true _ _ t)

  pub stage_passes : (m : ℕ) → k < n - 1 → m ≡ pivot_of n a k → eq (cell n a m k) +0 ≡ false
      → from ≡ stages_of n (n - 1 - (k + 1)) (k + 1) (stage_of n m k a) (set ip k m)
  unfolding stages_of
  stage_passes m h p t = let e : n - 1 - k ≡ suc (n - 1 - (k + 1)) = omega arith in rw (e, ← p) (when_false _ _ t)
