-- `number::abs` meets its contract: a NaN comes back as it is, and of any other value the sign's bit is cleared. Assumes nothing.
use mathlib.Core.Path.{◌≡◌, sym, ap, ◌∙◌, subst}
use mathlib.Core.Bool.{false, not}
use Prim.Native.Nat.{◌-◌, ◌^◌}
use lib.Bits.{bit_and, and_mask}
use lib.Dec.{T}
use lib.Ieee.{Float, binary64, ne, fits, nan_bits, of_bits, to_bits}
use lib.Ieee.Bits.{nan_bits_is}
use Rattle.number.specs.Helpers.{abs_of}
use Rattle.loops.specs.laws.FloatLaws.{is_nan_lem, is_number}
use Rattle.number.specs.laws.Sign.{cleared, magnitude_is_number}
use Rattle.number.proofs.helpers.abs.Goals as goal

masked : (x : Float) → T (fits binary64 x) → ne x x ≡ false → of_bits binary64 (bit_and (to_bits binary64 x) (2 ^ 63 - 1)) ≡ abs_of x
masked x f e = ap (of_bits binary64) (and_mask (to_bits binary64 x) 63) ∙ cleared x f (is_number x e)

-- what is read back is no NaN, the magnitude of a number being none
masked_is_number : (x : Float) → T (fits binary64 x) → ne x x ≡ false → T (not (nan_bits binary64 (bit_and (to_bits binary64 x) (2 ^ 63 - 1))))
masked_is_number x f e = rw (nan_bits_is, masked x f e) (magnitude_is_number x (is_number x e))

pub returns-then-x : goal.returns-then-x
unfolding abs_of
returns-then-x c = rw (is_nan_lem _ c.if-x.true)

pub float_to_bits-result : goal.float_to_bits-result
float_to_bits-result c = is_number _ c.if-x.false

pub float_from_bits-result : goal.float_from_bits-result
float_from_bits-result c = masked_is_number _ (subst T (sym c.well_formed.0.1) tt) c.if-x.false

pub returns : goal.returns
returns c = masked _ (subst T (sym c.well_formed.0.1) tt) c.if-x.false
