-- `roots::whole_root::search`: the invariant and the measure of its loop.
use Prim.Native.Nat.{ℕ, ◌+◌, ◌-◌, ◌*◌, ◌^◌, ◌≤◌, ◌<◌}
use Rattle.roots.proofs.whole_root.search.Given as goal

pub record Bracket (n lo hi : ℕ) : Type 0 where
  pub apart : lo < hi
  pub below : hi ≤ 2 ^ 53
  pub reached : lo * lo < n * 2 ^ 52 + lo
  pub missed : n * 2 ^ 52 + hi ≤ hi * hi

abbrev pub invariant-loop-lo : goal.invariant-loop-lo
invariant-loop-lo l = Bracket l.n l.lo l.hi

abbrev pub decreases-loop-lo : goal.decreases-loop-lo
decreases-loop-lo l = l.hi - l.lo
