-- What holds of the interpolation's definitions whatever the numbers are.
use Rattle.std.specs.Prelude.{◌≡◌, Bool, true, false, ℕ, ◌≤◌, Float}
use Rattle.std.proofs.Common.{arith}
use Rattle.loops.specs.Choice.{when◌then◌else◌}
use Rattle.loops.specs.laws.ChoiceLaws.{either}
use Rattle.interpolation.specs.Interpolate.{order_of}

-- an order reads as 5 at most
pub order_at_most_5 : (mark : Float) → order_of mark ≤ 5
unfolding order_of
order_at_most_5 mark =
    small (λ _. omega arith) (λ _. small (λ _. omega arith) (λ _. small (λ _. omega arith) (λ _. small (λ _. omega arith) (λ _. small (λ _. omega arith) (λ _. omega arith)))))
  where
    small : {b : Bool} {m n : ℕ} → (b ≡ true → m ≤ 5) → (b ≡ false → n ≤ 5) → (when b then m else n) ≤ 5
    small {b} f g = either (λ k. k ≤ 5) b f g
