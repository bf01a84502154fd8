-- `roots::inverse::inverse_root_of` meets its contract: each test settles one kind of double, and what is left is finite and above 0. Assumes nothing.
use mathlib.Core.Bool.{true}
use mathlib.Core.Path.{◌≡◌, sym, ap, ◌∙◌, subst}
use Prim.Native.Nat.{ℕ, ◌≤◌, ◌<◌}
use lib.Dec.{T}
use lib.Ieee.{Float, binary64, fits, of_bits}
use Rattle.roots.proofs.laws.RootLaws.{rounded_in_range}
use Rattle.roots.specs.Scaled.{Scaled, Asked}
use Rattle.roots.proofs.Number.{pattern_is_number}
use Rattle.roots.proofs.Doubles.{told_by, nan_root, zero_root, negative_root, infinity_root, pattern_above_zero, finite_root}
use Rattle.roots.proofs.inverse.inverse_root_of.Goals as goal

asked : {k b digits places : ℕ} → 1 ≤ k → k ≤ 7 → 0 < b → Scaled b digits places → Asked k digits places
asked from upto some s = record { from = from; upto = upto; some = s.some some; small = s.small; low = s.low }

held : (x : Float) → fits binary64 x ≡ true → T (fits binary64 x)
held x f = subst T (sym f) tt

pub returns-then-is_nan : goal.returns-then-is_nan
returns-then-is_nan c = nan_root _ _ (told_by _ c.is_nan.ensures.value c.if-is_nan.true)

pub returns-then-x : goal.returns-then-x
returns-then-x c = zero_root _ _ c.if-x.true

pub returns-then-x-2 : goal.returns-then-x-2
returns-then-x-2 c = negative_root _ _ c.if-x-2.true

pub returns-then-b-ge-INFINITY_BITS : goal.returns-then-b-ge-INFINITY_BITS
returns-then-b-ge-INFINITY_BITS c =
    infinity_root _ _ (held _ c.well_formed.1.0.1) (told_by _ c.is_nan.ensures.value c.if-is_nan.false) c.if-x.false c.if-x-2.false c.if-b-ge-INFINITY_BITS.true

pub pattern_of_root-requires : goal.pattern_of_root-requires
pattern_of_root-requires c =
    asked c.requires.0 c.requires.1 (pattern_above_zero _ (held _ c.well_formed.1.0.1) c.if-x.false) c.units_of-units.ensures

pub float_from_bits-result : goal.float_from_bits-result
float_from_bits-result c =
    pattern_is_number _ (rw c.pattern_of_root.ensures (rounded_in_range _ _ _ c.requires.0))

pub returns : goal.returns
returns c =
    ap (of_bits binary64) c.pattern_of_root.ensures
    ∙ finite_root _ _ _ _ (held _ c.well_formed.1.0.1) (told_by _ c.is_nan.ensures.value c.if-is_nan.false) c.if-x.false c.if-x-2.false c.if-b-ge-INFINITY_BITS.false c.units_of-units.ensures
