-- The first k past x, for an x in range: a k lies past x exactly from that one on, so to count those that do not is to subtract.
use Rattle.std.specs.Prelude.{◌≡◌, true, false, not, ℕ, min, zero, suc, ◌+◌, ◌-◌, ◌^◌, ◌≤◌, ◌<◌, Float}
use Rattle.std.proofs.Common.{sym, ap, ◌∙◌, inl, inr, zero-le, le_refl, arith}
use Rattle.std.proofs.Math.Nat.{min-eq_left, min-eq_right}
use Rattle.std.proofs.lemmas.Bool.{not-true, not-false}
use Rattle.loops.specs.laws.ChoiceLaws.{either}
use Rattle.render.specs.Times.{past, first_past, counted}
use Rattle.render.specs.laws.Clock.{Good}
use Rattle.render.specs.laws.SoughtLaws.{First, sought_first}
use Rattle.render.specs.laws.FirstLaws.{le_or_lt, clash, not_past}
use Rattle.render.specs.laws.TimeLaws.{clock}
use Rattle.render.specs.laws.EdgeLaws.{past_edge}

first_past_lem : (x : Float) → Good x → First (λ k. not (past x k)) (first_past x)
unfolding first_past
first_past_lem x g =
    sought_first (λ k. not (past x k)) (λ j k h e. ap not (not_past clock x j k g h (not-true (past x k) e))) 32 0
    (ap not (past_edge x (2 ^ 32 - 1) g (le_refl (2 ^ 32 - 1)))) (λ j h. absurd (omega arith))

pub past_first : (x : Float) → Good x → past x (first_past x) ≡ true
past_first x g = not-false (past x (first_past x)) (first_past_lem x g).fails

pub past_before : (x : Float) (k : ℕ) → Good x → k < first_past x → past x k ≡ false
past_before x k g h = not-true (past x k) ((first_past_lem x g).below k h)

pub past_from : (x : Float) (k : ℕ) → Good x → first_past x ≤ k → past x k ≡ true
past_from x k g h = clock.rises x (first_past x) k g h (past_first x g)

-- and the other way
pub from_past : (x : Float) (k : ℕ) → Good x → past x k ≡ true → first_past x ≤ k
from_past x k g e = elim (le_or_lt (first_past x) k) [
  | inl h ↦ h
  | inr h ↦ clash e (past_before x k g h)
]

pub before_past : (x : Float) (k : ℕ) → Good x → past x k ≡ false → k < first_past x
before_past x k g e = elim (le_or_lt (first_past x) k) [
  | inl h ↦ clash (past_from x k g h) e
  | inr h ↦ h
]

pub past_small : (x : Float) → Good x → first_past x ≤ 2 ^ 32 - 1
past_small x g = from_past x (2 ^ 32 - 1) g (past_edge x (2 ^ 32 - 1) g (le_refl (2 ^ 32 - 1)))

-- ---- counting

min_next : (m n : ℕ) → suc (min m n) ≡ min (suc m) (suc n)
min_next m n = elim (le_or_lt m n) [
  | inl h ↦ ap suc (min-eq_left h) ∙ sym (min-eq_left (let e : suc m ≤ suc n = omega arith in e))
  | inr h ↦ ap suc (min-eq_right (let e : n ≤ m = omega arith in e)) ∙ sym (min-eq_right (let e : suc n ≤ suc m = omega arith in e))
]

pub counted_is : (x : Float) (m k : ℕ) → Good x → counted x m k ≡ min m (first_past x - k)
unfolding counted
counted_is x zero k g = sym (min-eq_left zero-le)
counted_is x (suc m) k g =
    either (λ (c : ℕ). c ≡ min (suc m) (first_past x - k)) (past x k)
    (λ e. let none : first_past x - k ≡ 0 = omega (arith, from_past x k g e) in sym (ap (min (suc m)) none ∙ min-eq_right zero-le))
    (λ e.
    let some : first_past x - k ≡ suc (first_past x - (k + 1)) = omega (arith, before_past x k g e) in
    ap suc (counted_is x m (k + 1) g) ∙ min_next m (first_past x - (k + 1)) ∙ ap (min (suc m)) (sym some))

pub counted_none : (x : Float) (m k : ℕ) → Good x → first_past x ≤ k → counted x m k ≡ 0
counted_none x m k g h = let none : first_past x - k ≡ 0 = omega arith in counted_is x m k g ∙ ap (min m) none ∙ min-eq_right zero-le
