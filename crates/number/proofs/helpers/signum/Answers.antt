-- `number::signum` meets its contract: a NaN comes back as it is, and of any other value the sign's bit decides. Assumes nothing.
use mathlib.Core.Path.{sym, subst}
use lib.Dec.{T}
use lib.Ieee.{neg, of_bits}
use Rattle.number.specs.Helpers.{signum_of}
use Rattle.loops.specs.laws.FloatLaws.{is_nan_lem, is_number}
use Rattle.number.specs.laws.Sign.{sign_clear, sign_set}
use Rattle.number.proofs.helpers.signum.Goals as goal

pub returns-then-x : goal.returns-then-x
unfolding signum_of
returns-then-x c = rw (is_nan_lem _ c.if-x.true)

pub float_to_bits-x : goal.float_to_bits-x
float_to_bits-x c = is_number _ c.if-x.false

pub returns-then-x-lt9223372036854775808 : goal.returns-then-x-lt9223372036854775808
unfolding of_bits
returns-then-x-lt9223372036854775808 c = sym (sign_clear _ (subst T (sym c.well_formed.0.1) tt) (is_number _ c.if-x.false) c.if-x-lt9223372036854775808.true)

pub returns-else-x-lt9223372036854775808 : goal.returns-else-x-lt9223372036854775808
unfolding neg of_bits
returns-else-x-lt9223372036854775808 c = sym (sign_set _ (subst T (sym c.well_formed.0.1) tt) (is_number _ c.if-x.false) c.if-x-lt9223372036854775808.false)
