-- The order that is chosen stays between 1 and 5.
use Rattle.std.specs.Prelude.{◌≡◌, ℕ, ◌≤◌, eqb, Float}
use Rattle.std.proofs.Common.{arith, ltb-true}
use Rattle.loops.specs.laws.ChoiceLaws.{either, and_second}
use Rattle.rules.specs.Order.{new_order, choice_of}
use Rattle.rules.specs.declared.stages.Choice.{Choice}

-- it is lowered only above 1, and raised only below 5
new_order_within : (order best : ℕ) → 1 ≤ order → order ≤ 5 → (1 ≤ new_order order best) × (new_order order best ≤ 5)
unfolding new_order
new_order_within order best first fifth =
    either (λ (k : ℕ). (1 ≤ k) × (k ≤ 5)) _
    (λ e. let above = and_second (eqb best 0) _ e in (omega (arith, ltb-true), omega (arith, ltb-true)))
    (λ _. either (λ (k : ℕ). (1 ≤ k) × (k ≤ 5)) _
    (λ e. let below = and_second (eqb best 2) _ e in (omega (arith, ltb-true), omega (arith, ltb-true)))
    (λ _. (first, fifth)))

pub choice_within :
    (order : ℕ) (safety m e p : Float) {c : Choice} → c ≡ choice_of order safety m e p → 1 ≤ order → order ≤ 5 →
    (1 ≤ c.order) × (c.order ≤ 5)
unfolding choice_of
choice_within order safety m e p same first fifth = rw same (new_order_within order _ first fifth)
