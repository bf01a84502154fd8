-- Which patterns are no NaN's: those up to infinity's.
use mathlib.Core.Path.{sym, ◌∙◌, subst}
use mathlib.Core.Bool.{Bool, not}
use Prim.Native.Nat.{ℕ, ◌%◌, ◌^◌, ◌≤◌}
use native.Mathlib.Nat.{le_trans, mod-le}
use lib.Dec.{T}
use lib.Ieee.{binary64, nan_bits}
use lib.Ieee.Bits.{nan_bits_above}
use borrow.Author.Tests.{le-ltb}
use Rattle.roots.specs.Roots.{infinity_bits}

pub pattern_is_number : (b : ℕ) → b ≤ infinity_bits → T (not (nan_bits binary64 b))
pattern_is_number b h =
    subst (λ (t : Bool). T (not t)) (sym (nan_bits_above binary64 b ∙ le-ltb infinity_bits (b % 2 ^ 63) (le_trans (mod-le b (2 ^ 63)) h))) tt
