-- `roots::root_test::greatest_reaching`: the invariant and the measure of its loop.
use mathlib.Core.Path.{◌≡◌}
use mathlib.Core.Bool.{true, false}
use Prim.Native.Nat.{ℕ, ◌+◌, ◌-◌, ◌^◌, ◌≤◌, ◌<◌}
use Rattle.roots.specs.Roots.{infinity_bits}
use Rattle.roots.specs.Scaled.{reaches_root}
use Rattle.roots.proofs.root_test.greatest_reaching.Given as goal

pub record Bracketed (k digits places lo hi : ℕ) : Type 0 where
  pub apart : lo < hi
  pub in_range : hi ≤ infinity_bits + 1
  pub passes : reaches_root k digits places lo ≡ true
  pub fails : reaches_root k digits places hi ≡ false

abbrev pub invariant-loop-lo : goal.invariant-loop-lo
invariant-loop-lo l =
    Bracketed l.k l.x.digits l.x.places l.lo l.hi × (l.stride < 2 ^ 34)

abbrev pub decreases-loop-lo : goal.decreases-loop-lo
decreases-loop-lo l = l.hi - l.lo
