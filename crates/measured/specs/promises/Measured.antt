-- The lines of docs/RULES.md that were measured on the bench and are marked P, as one list under a single proof: each is
-- what the definitions compute. The list is the second edition's: one line differs from the first's, and says so. A number is
-- written `fin s m e`, the number m * 2 ^ e, negative where s is true; `negsuc k` is the exponent -(k + 1).
use Rattle.std.specs.Prelude.{◌≡◌, refl, true, false, [], ◌∷◌, ℕ, pos, negsuc, Float}
use Rattle.std.specs.Float.{nan, inf, fin, binary64}
use Rattle.std.specs.Float.Ieee.{of_bits, of_int, add, sub, mul, div, neg, eq, ne, lt, is_nan}
use Rattle.loops.specs.Choice.{when◌then◌else◌}
use Rattle.loops.specs.Loop.{loop, turns}
use Rattle.loops.specs.Refusal.{gives, refuses}
use Rattle.number.specs.Helpers.{abs_of}
use Rattle.roots.specs.Roots.{sqrt_of, inverse_root_of}
use Rattle.matrix.specs.Size.{sized_of}
use Rattle.matrix.specs.Magnitude.{magnitude_of}
use Rattle.matrix.specs.Lu.{pivot_turn, pivot_of, exchanged_of, scale_turn, eliminate_turn, column_turn, stage_of, last_of, stages_of, single_of, lu_decomp_of}
use Rattle.matrix.specs.Linear.{inside_turn, inside_of, lower_turn, forward_turn, divided_of, upper_turn, back_turn, solved_of, lin_solve_of}
use Rattle.rules.specs.Moves.{load_turn, loaded}
use Rattle.rules.specs.Rescale.{first_row, m_turn, m_row, m_table, r_turn, r_row, r_table, compute_r, scaled_turn, add_scaled, product_turn, product_row, matmul, new_row_turn, new_row, new_rows, rescaled, change_d}
use Rattle.interpolation.specs.Interpolate.{order_of}

-- a whole number of one binary digit or few, odd * 2 ^ e
abbrev plus : ℕ → ℕ → Float
plus m e = fin false m (pos e)

abbrev half : Float
half = fin false 1 (negsuc 0)

pub record Measured : Type 0 where
  -- square root of 2.25 is 1.5; of 2^-1074 is 2^-537
  pub sqrt_2·25 : sqrt_of (fin false 9 (negsuc 1)) ≡ fin false 3 (negsuc 0)
  pub sqrt_least : sqrt_of (fin false 1 (negsuc 1073)) ≡ fin false 1 (negsuc 536)
  -- inverse root: (0.25, 2) 2; (8, 3) 0.5; (10, 1) 3FB999999999999A, to the nearest since the second edition (02 §4), where the
  -- first has 3FB9999999999999, rounded down; (0, 4) +infinity
  pub root_quarter : inverse_root_of 2 (fin false 1 (negsuc 1)) ≡ gives (plus 1 1)
  pub root_eight : inverse_root_of 3 (plus 1 3) ≡ gives half
  pub root_ten : inverse_root_of 1 (plus 5 1) ≡ gives (of_bits binary64 0x3FB9_9999_9999_999A)
  pub root_zero : inverse_root_of 4 (plus 0 0) ≡ gives (inf false)
  -- k 0 and 8 refuse 14, k 7 does not
  pub root_k_0 : inverse_root_of 0 (plus 1 0) ≡ refuses 14
  pub root_k_8 : inverse_root_of 8 (plus 1 0) ≡ refuses 14
  pub root_k_7 : inverse_root_of 7 (plus 1 0) ≡ gives (plus 1 0)
  -- rescale by 0.5: order 1, D 3, 4 gives 3, 2; order 2, D 3, 4, 8 gives 3, 3, 2
  pub rescale_1 : change_d 1 1 half (plus 3 0 ∷ plus 1 2 ∷ []) ≡ plus 3 0 ∷ plus 1 1 ∷ []
  pub rescale_2 : change_d 1 2 half (plus 3 0 ∷ plus 1 2 ∷ plus 1 3 ∷ []) ≡ plus 3 0 ∷ plus 3 0 ∷ plus 1 1 ∷ []
  -- LU of rows 2 1 and 4 6: rows 4 6 and -0.5 -2, ip[0] 1
  pub lu : lu_decomp_of (plus 1 1 ∷ plus 1 0 ∷ plus 1 2 ∷ plus 3 1 ∷ []) (0 ∷ 0 ∷ []) ≡
      (gives tt, plus 1 2 ∷ plus 3 1 ∷ fin true 1 (negsuc 0) ∷ fin true 1 (pos 1) ∷ [], 1 ∷ 0 ∷ [])
  -- solving 5, 14 gives 2, 1
  pub solve : lin_solve_of (plus 1 2 ∷ plus 3 1 ∷ fin true 1 (negsuc 0) ∷ fin true 1 (pos 1) ∷ []) (plus 5 0 ∷ plus 7 1 ∷ []) (1 ∷ 0 ∷ []) ≡
      (gives tt, plus 1 1 ∷ plus 1 0 ∷ [])
  -- the 1 by 1 zero matrix refuses 15
  pub lu_zero : lu_decomp_of (plus 0 0 ∷ []) (7 ∷ []) ≡ (refuses 15, plus 0 0 ∷ [], 7 ∷ [])
  -- marks 1.25, 1.5, 9 and NaN read as 1, 2, 5, 0
  pub mark_1·25 : order_of (fin false 5 (negsuc 1)) ≡ 1
  pub mark_1·5 : order_of (fin false 3 (negsuc 0)) ≡ 2
  pub mark_9 : order_of (plus 9 0) ≡ 5
  pub mark_nan : order_of nan ≡ 0

pub measured : Measured
unfolding when◌then◌else◌ loop turns of_bits of_int add sub mul div neg eq ne lt is_nan sqrt_of inverse_root_of sized_of abs_of magnitude_of pivot_turn pivot_of exchanged_of scale_turn eliminate_turn column_turn stage_of last_of stages_of single_of lu_decomp_of inside_turn inside_of lower_turn forward_turn divided_of upper_turn back_turn solved_of lin_solve_of first_row m_turn m_row m_table r_turn r_row r_table compute_r scaled_turn add_scaled product_turn product_row matmul new_row_turn new_row new_rows load_turn loaded rescaled change_d order_of
measured =
    record {
      sqrt_2·25 = refl;
      sqrt_least = refl;
      root_quarter = refl;
      root_eight = refl;
      root_ten = refl;
      root_zero = refl;
      root_k_0 = refl;
      root_k_8 = refl;
      root_k_7 = refl;
      rescale_1 = refl;
      rescale_2 = refl;
      lu = refl;
      solve = refl;
      lu_zero = refl;
      mark_1·25 = refl;
      mark_1·5 = refl;
      mark_9 = refl;
      mark_nan = refl;
    }
