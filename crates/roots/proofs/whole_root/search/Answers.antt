-- `roots::whole_root::search` meets its contract. The invariant: lo is reached and hi is not. They begin at the ends of the
-- range of roots, and where they are neighbours lo is the root. The measure is their distance.
-- Assumes nothing.
use mathlib.Core.Path.{◌≡◌, sym, ◌∙◌}
use Prim.Native.Nat.{ℕ, ◌+◌, ◌*◌, ◌^◌, ◌≤◌, ◌<◌}
use native.Mathlib.Nat.{mul-le-mul_right}
use native.Mathlib.Omega.{arith}
use borrow.Author.Tests.{ltb-false}
use Rattle.roots.specs.WholeRoot.{NearestWhole}
use Rattle.roots.proofs.whole_root.search.Invariants.{Bracket}
use Rattle.roots.proofs.whole_root.search.Goals as goal

-- 2 ^ 52 and 2 ^ 53 as p and 2 p
whole_range : (n p : ℕ) → 0 < p → p ≤ n → n + 2 ≤ 4 * p → (p * p < n * p + p) × (n * p + 2 * p ≤ 2 * p * (2 * p))
whole_range n p hp low high = omega (arith, mul-le-mul_right p low, mul-le-mul_right p high)

neighbours : (n lo hi : ℕ) → Bracket n lo hi → hi ≤ lo + 1 → NearestWhole n lo
neighbours n lo hi b h =
    let next : hi ≡ lo + 1 = omega (arith, b.apart) in
    let missed : n * 2 ^ 52 + (lo + 1) ≤ (lo + 1) * (lo + 1) = rw next at b.missed in
    record { reached = b.reached; last = omega arith }

pub loop-lo-init : goal.loop-lo-init
loop-lo-init c =
    let range = whole_range c.args.n (2 ^ 52) (omega arith) c.requires.0 c.requires.1 in
    record { apart = omega arith; below = omega arith; reached = range.0; missed = range.1 }

pub loop-lo-preserved : goal.loop-lo-preserved
loop-lo-preserved c =
    let inv = c.loop-lo.invariant in
    record { apart = omega arith; below = omega arith; reached = inv.reached; missed = ltb-false _ _ (sym c.reached.ensures ∙ c.if-reached.false) }

pub returns : goal.returns
returns c = neighbours _ _ _ c.loop-lo.invariant c.loop-lo-test.false
