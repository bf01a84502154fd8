-- `roots::root_quick::settle` meets its contract: where the limit lies close above the middle's upper part, or close below, the guess or the pattern
-- below it is the root. Assumes nothing.
use mathlib.Core.Path.{◌≡◌, ◌∙◌}
use Prim.Native.Nat.{ℕ, ◌+◌, ◌-◌, ◌*◌, ◌/◌, ◌^◌, ◌≤◌, ◌<◌}
use native.Mathlib.Nat.{div-mul-le_self}
use native.Mathlib.Omega.{arith}
use Rattle.roots.specs.Roots.{infinity_bits}
use Rattle.roots.specs.Scaled.{Scaled, Asked, nearest_root}
use Rattle.roots.specs.Quick.{Near, LimitIs, IsPlaced}
use Rattle.std.specs.Prelude.{Some}
use Rattle.roots.specs.declared.root_quick.Place.TheVariants.{Above, Below}
use Rattle.roots.proofs.root_quick.QuickLaws.{small_reach}
use Rattle.roots.proofs.root_quick.QuickRoot.{root_above, root_below}
use Rattle.roots.proofs.root_quick.settle.Goals as goal

-- the two ways to be sure, whatever the numbers are called
module _
    {k b m q n g p h : ℕ}
    (read : Scaled (b - 1) m q)
    (asked : Asked k n g)
    (above : 2 ^ 52 < b)
    (below : b < infinity_bits)
    (limit : LimitIs k q g p)
    (near : Near (((2 * m + 1) * 2 ^ 10) ^ k * (n * 2 ^ 11)) k h)
  where
    reach : p / (2 * m + 1 + 2 * k) * (2 * m + 1 + 2 * k) ≤ p
    reach = div-mul-le_self p (2 * m + 1 + 2 * k)

    is_above : IsPlaced h p (3 * k) (2 * k * (p / (2 * m + 1 + 2 * k))) (Some Above) → b ≡ nearest_root k n g
    is_above (over, close) =
        let back : b ≡ b - 1 + 1 = omega arith in
        back ∙ root_above k (b - 1) m q n g p h (p / (2 * m + 1 + 2 * k)) read asked (omega arith) limit near reach over close

    is_below : IsPlaced h p (3 * k) (2 * k * (p / (2 * m + 1 + 2 * k))) (Some Below) → 2 ^ 52 < m → b - 1 ≡ nearest_root k n g
    is_below (under, close) inner =
        root_below k (b - 1) m q n g p h (p / (2 * m + 1 + 2 * k)) read asked (omega arith) limit near reach inner under close

-- the distance to the next middle is a number of the code
pub overflow_mul-reach-3 : goal.overflow_mul-reach-3
overflow_mul-reach-3 c =
    let small = small_reach c.in_ok-p.p (2 * c.units_of-r.result.digits + 1 + 2 * c.args.k) (2 * c.args.k) c.in_ok-p.ensures.0 (omega (arith, c.if-r-le-HIDDEN.false)) (omega (arith, c.requires.upto)) in
    record { fits = omega (arith, small) }

pub returns-in-Above : goal.returns-in-Above
returns-in-Above c =
    is_above c.units_of-r.ensures c.requires c.if-b-le-HIDDEN.false c.if-b-ge-INFINITY_BITS.false c.in_ok-p.ensures.1 c.upper-h.ensures
    (rw c.in-Above.is at c.in_ok-place_of.ensures)

pub returns-in-Below : goal.returns-in-Below
returns-in-Below c =
    is_below c.units_of-r.ensures c.requires c.if-b-le-HIDDEN.false c.if-b-ge-INFINITY_BITS.false c.in_ok-p.ensures.1 c.upper-h.ensures
    (rw c.in-Below.is at c.in_ok-place_of.ensures) c.if-r-le-HIDDEN.false
