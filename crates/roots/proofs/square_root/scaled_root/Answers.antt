-- `roots::square_root::scaled_root` meets its contract. The whole root of the significand with the odd exponent's 2 is the root's
-- significand, of 53 bits, so that with its exponent it is a finite pattern.
-- Assumes nothing.
use mathlib.Core.Path.{◌≡◌}
use Prim.Native.Nat.{ℕ, ◌+◌, ◌*◌, ◌%◌, ◌^◌, ◌≤◌, ◌<◌}
use native.Mathlib.Omega.{arith}
use Rattle.roots.specs.WholeRoot.{NearestWhole}
use Rattle.roots.proofs.Number.{pattern_is_number}
use Rattle.roots.proofs.laws.ScaledRoot.{root_range, scaled_range, scaled_root_is}
use Rattle.roots.proofs.square_root.scaled_root.Goals as goal

-- the range of what `whole_root` is asked, and of what it gives
asked : (a e n : ℕ) → 2 ^ 52 ≤ a → a < 2 ^ 53 → n ≡ a * 2 ^ (e % 2) → (2 ^ 52 ≤ n) × (n + 2 ≤ 2 ^ 54)
asked a e n low high is = rw is (scaled_range a (e % 2) (omega arith) low high)

given : (a e n m : ℕ) → 2 ^ 52 ≤ a → a < 2 ^ 53 → n ≡ a * 2 ^ (e % 2) → NearestWhole n m → m < 2 ^ 53
given a e n m low high is r = let range = asked a e n low high is in (root_range n m range.0 range.1 r).1

pub whole_root-r-requires : goal.whole_root-r-requires
whole_root-r-requires c =
    let pre = c.requires in
    let range = asked _ c.args.e _ pre.0 pre.1 c.even.ensures in
    (range.0, range.1, pre.4)

pub overflow_add-result : goal.overflow_add-result
overflow_add-result c =
    let pre = c.requires in
    omega (arith, given _ c.args.e _ _ pre.0 pre.1 c.even.ensures c.whole_root-r.ensures)

pub float_from_bits-result : goal.float_from_bits-result
float_from_bits-result c =
    let pre = c.requires in
    let small = given _ c.args.e _ _ pre.0 pre.1 c.even.ensures c.whole_root-r.ensures in
    pattern_is_number _ (omega arith)

pub returns : goal.returns
returns c =
    let a = c.args in
    let pre = c.requires in
    scaled_root_is a.a a.e c.whole_root-r.result pre.0 pre.1 pre.2 pre.3 (rw c.even.ensures at c.whole_root-r.ensures)
