-- `discharge::decimal::millionths` is safe. What the cast asks, a number above -1 and below 2^64, is what the two tests before it say, once their
-- literals are read from their bits. Assumes nothing.
use Rattle.std.proofs.Common.{T, sym, subst}
use lib.Ieee.{of_bits, neg}
use Rattle.discharge.proofs.decimal.millionths.Goals as goal

pub truncating_f64_to_u64-requires : goal.truncating_f64_to_u64-requires
unfolding of_bits neg
truncating_f64_to_u64-requires c = record { lower_bound = subst T (sym c.if-n.true) tt; upper_bound = subst T (sym c.if-n-2.true) tt }
