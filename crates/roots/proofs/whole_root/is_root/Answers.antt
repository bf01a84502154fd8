-- `roots::whole_root::is_root` meets its contract: m is reached, and m + 1 is not.
-- Assumes nothing.
use mathlib.Core.Path.{sym, ◌∙◌}
use Prim.Native.Nat.{ℕ, ◌+◌, ◌*◌, ◌^◌, ◌≤◌, ◌<◌}
use native.Mathlib.Omega.{arith}
use borrow.Author.Tests.{ltb-true, ltb-false, not-true}
use Rattle.roots.specs.WholeRoot.{NearestWhole}
use Rattle.roots.proofs.whole_root.is_root.Goals as goal

between : (n m : ℕ) → m * m < n * 2 ^ 52 + m → n * 2 ^ 52 + (m + 1) ≤ (m + 1) * (m + 1) → NearestWhole n m
between n m reached missed = record { reached = reached; last = omega arith }

pub returns-then-reached : goal.returns-then-reached
returns-then-reached c passed =
    between _ _ (ltb-true _ _ (sym c.reached.ensures ∙ c.if-reached.true))
    (ltb-false _ _ (sym c.reached-then-reached.ensures ∙ not-true _ passed))
