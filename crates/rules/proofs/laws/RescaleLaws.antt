-- What holds of rescaling whatever the numbers are: D keeps its length, and the rows above the order stay.
use Rattle.std.specs.Prelude.{◌≡◌, refl, List, ℕ, ◌+◌, ◌*◌, ◌≤◌, min, Float, length}
use Rattle.std.proofs.Common.{mul-le-mul_right, arith}
use Rattle.std.proofs.Math.Nat.{min-le_left}
use Rattle.loops.specs.laws.ChoiceLaws.{either}
use Rattle.loops.specs.Cell.{at}
use Rattle.loops.specs.Arithmetic.{one}
use Rattle.rules.specs.Tables.{max_order}
use Rattle.loops.specs.laws.LoopLaws.{stored_length, stored_beyond}
use Rattle.rules.specs.Rescale.{new_rows, matmul, compute_r, rescaled, change_d}
use Rattle.rules.proofs.laws.PartLaws.{loaded_front}

-- the new rows, before they are put back
abbrev scratch : ℕ → ℕ → Float → List Float → List Float
scratch n order factor d = new_rows n (matmul (compute_r order factor) (compute_r order one) (order + 1)) d (order + 1)

rescaled_length : (n order : ℕ) (factor : Float) (d : List Float) → length (rescaled n order factor d) ≡ length d
unfolding rescaled
rescaled_length n order factor d = rw (loaded_front (scratch n order factor d) ((order + 1) * n) d) (stored_length ((order + 1) * n) (at (scratch n order factor d)) d)

pub change_d_length : (n order : ℕ) (factor : Float) (d : List Float) → length (change_d n order factor d) ≡ length d
unfolding change_d
change_d_length n order factor d =
    either (λ (t : List Float). length t ≡ length d) _ (λ _. refl) (λ _. rescaled_length n (min order max_order) factor d)

rescaled_above : (n order : ℕ) (factor : Float) (d : List Float) (j : ℕ) → (order + 1) * n ≤ j → at (rescaled n order factor d) j ≡ at d j
unfolding rescaled
rescaled_above n order factor d j h =
    rw (loaded_front (scratch n order factor d) ((order + 1) * n) d) (stored_beyond ((order + 1) * n) (at (scratch n order factor d)) d j h)

-- place j lies in a row above the order
pub rows_above_stay : (n order : ℕ) (factor : Float) (d : List Float) (j : ℕ) → (order + 1) * n ≤ j → at (change_d n order factor d) j ≡ at d j
unfolding change_d
rows_above_stay n order factor d j h =
    let fewer : (min order max_order + 1) * n ≤ (order + 1) * n = mul-le-mul_right n (omega (arith, min-le_left order max_order)) in
    either (λ (t : List Float). at t j ≡ at d j) _ (λ _. refl) (λ _. rescaled_above n (min order max_order) factor d j (omega arith))
