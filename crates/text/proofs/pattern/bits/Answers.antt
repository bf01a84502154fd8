-- `text::pattern::bits` meets its contract: only a NaN differs from itself, and `to_bits` writes the code's pattern for it.
-- Assumes nothing.
use mathlib.Core.Path.{◌≡◌, sym, ap, subst}
use mathlib.Core.Bool.{false, not}
use lib.Dec.{T}
use lib.Ieee.{Float, nan, inf, fin, binary64, to_bits, is_nan, ne}
use lib.Ieee.Compare.{differs_from_itself}
use Rattle.text.proofs.pattern.bits.Goals as goal

-- what equals itself is no NaN
equals_itself : (x : Float) → ne x x ≡ false → T (not (is_nan x))
unfolding is_nan ne
equals_itself nan e = subst T e tt
equals_itself (inf s) e = tt
equals_itself (fin s m e) q = tt

pub returns-then-x : goal.returns-then-x
unfolding to_bits
returns-then-x c = sym (ap (to_bits binary64) (differs_from_itself _ (subst T (sym c.if-x.true) tt)))

pub float_to_bits-result : goal.float_to_bits-result
float_to_bits-result c = equals_itself _ c.if-x.false
