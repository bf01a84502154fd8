-- The table is what `compute_r` yields at factor 1.0, for every order and to the bit, the signs of its zeros among it; and rescaling by
-- it is rescaling by the routine. Why: the routine's own definition is computed, order by order; and rescaling reads no more of the
-- table than the rows and columns of its order.
use Rattle.std.specs.Prelude.{◌≡◌, refl, List, ℕ, ◌+◌, ◌*◌, ◌≤◌, Float}
use Rattle.std.proofs.Common.{arith}
use Rattle.std.specs.Float.Ieee.{of_bits, of_int, add, sub, mul, div}
use Rattle.loops.specs.Loop.{loop, turns}
use Rattle.loops.specs.Cell.{cell}
use Rattle.loops.specs.Arithmetic.{one}
use Rattle.rules.specs.Tables.{max_order}
use Rattle.rules.specs.Moves.{loaded}
use Rattle.rules.specs.Rescale.{first_row, m_turn, m_row, m_table, r_turn, r_row, r_table, compute_r, matmul, new_rows, rescaled}
use Rattle.unit.specs.Unit.{unit_r, rows_of, corner}
use Rattle.unit.proofs.laws.ByOrder.{by_order}
use Rattle.unit.proofs.laws.CornerLaws.{corner_cells}
use Rattle.unit.proofs.laws.ProductLaws.{product_by_either}

-- the computed test: an order's rows and columns of the table are the routine's
pub unit_is_compute_r : (order : ℕ) → order ≤ max_order → corner (order + 1) unit_r ≡ corner (order + 1) (compute_r order one)
unfolding unit_r rows_of compute_r r_table r_row r_turn m_table m_row m_turn first_row loop turns of_bits of_int add sub mul div
unit_is_compute_r = by_order (λ order. corner (order + 1) unit_r ≡ corner (order + 1) (compute_r order one)) refl refl refl refl refl refl

-- entry by entry
pub entry_is_compute_r : (order : ℕ) → order ≤ max_order → (i j : ℕ) → i ≤ order → j ≤ order → cell 6 unit_r i j ≡ cell 6 (compute_r order one) i j
entry_is_compute_r order h i j below within =
    corner_cells (order + 1) unit_r (compute_r order one) (unit_is_compute_r order h) i j (omega arith) (omega arith)

-- ru = R · U
pub product_by_the_table : (order : ℕ) (r : List Float) → order ≤ max_order → matmul r unit_r (order + 1) ≡ matmul r (compute_r order one) (order + 1)
product_by_the_table order r h =
    product_by_either (order + 1) unit_r (compute_r order one) (λ k j below within. entry_is_compute_r order h k j (omega arith) (omega arith)) r

pub rescaled_by_the_table :
    (n order : ℕ) (factor : Float) (d : List Float) → order ≤ max_order →
    rescaled n order factor d ≡ loaded (new_rows n (matmul (compute_r order factor) unit_r (order + 1)) d (order + 1)) 0 0 ((order + 1) * n) d
unfolding rescaled
rescaled_by_the_table n order factor d h = rw (product_by_the_table order (compute_r order factor) h)
