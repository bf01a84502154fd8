-- Whole numbers up to 2 ^ 53 are doubles: they have no more digits than one (`whole_float`), so rounding leaves them (`whole_grid`).
use Rattle.std.specs.Prelude.{◌≡◌, true, false, ℕ, ◌*◌, ◌/◌, ◌^◌, ◌≤◌, ◌<◌, T, Float}
use Rattle.std.proofs.Common.{sym, ap, ◌∙◌, mul_right_comm, mul-one, mul-div_cancel, arith}
use Rattle.std.specs.Float.{nan, inf, fin, binary64}
use Rattle.std.specs.Float.Ieee.{up, down, round, of_int, fits}
use Rattle.std.specs.Float.Ieee.Fits.{down_pos, round-fits}
use Rattle.std.specs.Float.Ieee.Exact.{HasValue}
use Rattle.std.specs.Float.Ieee.Back.{round_whole}
use Rattle.loops.specs.Arithmetic.{float}
use Rattle.roots.specs.Roots.{units_of}
use Rattle.floats.specs.Units.{grid_of, Whole}
use Rattle.floats.specs.laws.Rounding.{grid_fixed, units_bound}
use Rattle.floats.specs.laws.Products.{clear_finite}

value_whole : (x : Float) (n : ℕ) → T (fits binary64 x) → HasValue x false n 1 → Whole x n
unfolding units_of
value_whole nan n f h = absurd h
value_whole (inf t) n f h = absurd h
value_whole (fin true m e) n f h = absurd (let z : ◌≡◌ {A = ℕ} 0 1 = cc h.0 in omega arith)
value_whole (fin false m e) n f h =
    let is = ap (λ (k : ℕ). k * 2 ^ 1074) (sym (mul-one (m * up e)) ∙ h.1) in
    record {
      clear = f;
      worth = ap (λ (k : ℕ). k / down e) (is ∙ mul_right_comm n (down e) (2 ^ 1074)) ∙ mul-div_cancel (n * 2 ^ 1074) (down_pos e);
    }

pub whole_float : (n : ℕ) → n ≤ 2 ^ 53 → Whole (float n) n
unfolding of_int
whole_float n h = value_whole (round binary64 false n 1) n (round-fits binary64 false n 1) (round_whole binary64 false n h)

-- ---- a whole number of units

pub whole_grid : (n : ℕ) → n ≤ 2 ^ 53 → grid_of (n * 2 ^ 1074) (2 ^ 1074) ≡ n * 2 ^ 1074
whole_grid n h = let w = whole_float n h in rw (← w.worth) (grid_fixed (float n) (clear_finite (float n) w.clear))

pub whole_bound : (n : ℕ) → n ≤ 2 ^ 53 → n * 2 ^ 1074 < 2 ^ 2098
whole_bound n h = let w = whole_float n h in rw (← w.worth) (units_bound (float n) (clear_finite (float n) w.clear))
