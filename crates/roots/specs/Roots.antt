-- The square root and the inverse k-th root of a double, by one search over bit patterns and one exact test on whole numbers.
-- A pattern here has its sign clear, so a greater pattern is a greater value. Values are counted in units of 2 ^ -1074, the
-- smallest double, so that each is a whole number and nothing is rounded before the answer.
-- What the two roots mean, with no search in the statements, is proved in `Meaning`, and where the inverse root is infinite in `Overflow`.
use Rattle.std.specs.Prelude.{Result, Ok, Err, Bool, true, false, ◌&&◌, ℕ, zero, suc, ◌+◌, ◌-◌, ◌*◌, ◌/◌, ◌^◌, leb, Float, pos}
use Rattle.std.specs.Float.{nan, inf, fin, binary64}
use Rattle.std.specs.Float.Ieee.{of_bits, up, down}
use Rattle.loops.specs.Choice.{when◌then◌else◌}
use Rattle.loops.specs.Refusal.{Outcome, gives, refuses}
use Rattle.roots.specs.declared.KOutside.{KOutside}

-- The magnitude of a double in units of 2 ^ -1074. An infinity counts as 2 ^ 1024, the value that would follow the largest finite one:
-- so the middle above that one, from which on a value is rounded to infinity, is where IEEE 754 has it.
unfoldable pub units_of : Float → ℕ
units_of nan = 0
units_of (inf s) = 2 ^ 2098
units_of (fin s m e) = m * up e * 2 ^ 1074 / down e

-- the value of a pattern up to infinity's, in those units
unfoldable pub val : ℕ → ℕ
unfolding units_of
val b = units_of (of_bits binary64 b)

-- the least pattern that is not finite: +infinity's
abbrev pub infinity_bits : ℕ
infinity_bits = 0x7ff0_0000_0000_0000

-- From which value on a pattern is the answer, in half units: the middle between its value and that of the pattern below. No root lies on a
-- middle (`Meaning`), so that 'ties to even' has no case.
unfoldable pub edge : ℕ → ℕ
unfolding val
edge b = val (b - 1) + val b

-- the greatest number that passes p, of those reached from b by setting bits n - 1 .. 0, the highest first; for a p that passes at
-- all numbers below one at which it passes
unfoldable pub greatest : (ℕ → Bool) → ℕ → ℕ → ℕ
greatest p zero b = b
greatest p (suc n) b = greatest p n (when p (b + 2 ^ n) then b + 2 ^ n else b)

-- whether the pattern b is no NaN's and its edge lies at or below the k-th root of c / a
unfoldable pub reaches : ℕ → ℕ → ℕ → ℕ → Bool
unfolding edge
reaches k a c b = leb b infinity_bits && leb (edge b ^ k * a) c

-- the k-th root of c / a, in half units, rounded to the nearest pattern, infinity's too
unfoldable pub rounded : ℕ → ℕ → ℕ → ℕ
unfolding greatest reaches
rounded k a c = greatest (reaches k a c) 63 0

-- IEEE 754's squareRoot, to the nearest: of u units the root is that of u * 2 ^ 1074 in units, of 4 u * 2 ^ 1074 in half units
unfoldable pub sqrt_of : Float → Float
unfolding rounded
sqrt_of nan = nan
sqrt_of (inf true) = nan
sqrt_of (inf false) = inf false
sqrt_of (fin s zero e) = fin s zero e
sqrt_of (fin true (suc m) e) = nan
sqrt_of (fin false (suc m) e) = of_bits binary64 (rounded 2 1 (4 * units_of (fin false (suc m) e) * 2 ^ 1074))

-- x to the power -1 / k, to the nearest: in half units the true root r of u units has r ^ k * u = 2 ^ (1075 k + 1074)
unfoldable pub inverse_root : ℕ → Float → Float
unfolding rounded
inverse_root k nan = nan
inverse_root k (inf true) = nan
inverse_root k (inf false) = fin false 0 (pos 0)
inverse_root k (fin s zero e) = inf false
inverse_root k (fin true (suc m) e) = nan
inverse_root k (fin false (suc m) e) = of_bits binary64 (rounded k (units_of (fin false (suc m) e)) (2 ^ (1075 * k + 1074)))

-- by the numbers of docs/RULES.md: k outside 1 to 7 is refusal 14
unfoldable pub root_said : Result Float KOutside → Outcome Float
root_said (Ok r) = gives r
root_said (Err _) = refuses 14

unfoldable pub inverse_root_of : ℕ → Float → Outcome Float
unfolding inverse_root
inverse_root_of k x = when leb 1 k && leb k 7 then gives (inverse_root k x) else refuses 14
