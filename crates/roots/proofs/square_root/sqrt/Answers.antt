-- `roots::square_root::sqrt` meets its contract. x is what its pattern stands for, and each way out is a case of `sqrt_of` by the pattern.
-- Assumes nothing.
use mathlib.Core.Path.{◌≡◌, refl, sym, subst, ap, ◌∙◌}
use mathlib.Core.Bool.{true}
use Prim.Native.Nat.{ℕ, ◌^◌, ◌<◌}
use native.Mathlib.Omega.{arith}
use lib.Dec.{T}
use lib.Ieee.{Float, nan, binary64, fits, to_bits, of_bits}
use lib.Ieee.Bits.{of_bits-to_bits}
use Rattle.roots.specs.Roots.{infinity_bits, sqrt_of}
use Rattle.loops.specs.laws.FloatLaws.{is_nan_lem}
use Rattle.roots.proofs.Doubles.{told_by}
use Rattle.roots.proofs.laws.SqrtLaws.{sqrt_of_rest, own_root, nan_own, infinity_own, negative_zero_own}
use Rattle.roots.proofs.square_root.sqrt.Goals as goal

is_pattern : (x : Float) → fits binary64 x ≡ true → x ≡ of_bits binary64 (to_bits binary64 x)
is_pattern x f = sym (of_bits-to_bits binary64 x (subst T (sym f) tt))

-- NaN, as the code names it
nan_is : of_bits binary64 0x7ff8_0000_0000_0000 ≡ nan
unfolding of_bits
nan_is = refl

at_pattern : (x : Float) (b : ℕ) → fits binary64 x ≡ true → to_bits binary64 x ≡ b → x ≡ of_bits binary64 b
at_pattern x b f e = is_pattern x f ∙ ap (of_bits binary64) e

pub returns-then-is_nan : goal.returns-then-is_nan
returns-then-is_nan c = nan_own _ (is_nan_lem c.args.x (told_by _ c.is_nan.ensures.value c.if-is_nan.true))

pub returns-then-b-lt-INFINITY_BITS : goal.returns-then-b-lt-INFINITY_BITS
returns-then-b-lt-INFINITY_BITS c =
    c.normal.ensures ∙ ap sqrt_of (sym (is_pattern c.args.x c.well_formed.0.1))

pub returns-in-9218868437227405312 : goal.returns-in-9218868437227405312
returns-in-9218868437227405312 c =
    own_root _ infinity_bits (at_pattern c.args.x infinity_bits c.well_formed.0.1 c.in-9218868437227405312.is) infinity_own

pub returns-in-9223372036854775808 : goal.returns-in-9223372036854775808
returns-in-9223372036854775808 c =
    own_root _ (2 ^ 63) (at_pattern c.args.x (2 ^ 63) c.well_formed.0.1 c.in-9223372036854775808.is) negative_zero_own

pub returns-in_default-3 : goal.returns-in_default-3
returns-in_default-3 c =
    let above : infinity_bits < to_bits binary64 c.args.x = omega arith in
    nan_is ∙ sym (sqrt_of_rest c.args.x (subst T (sym c.well_formed.0.1) tt) above (λ e. omega (arith, e)))

pub small-requires : goal.small-requires
small-requires c = (c.if-b-lt-HIDDEN.true, is_pattern c.args.x c.well_formed.0.1)
