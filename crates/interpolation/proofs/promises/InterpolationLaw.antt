-- THE INTERPOLATION LAW: where h is not 0, coefficients and shifted factors are finite, and xi equals xold + h, each yi equals its
-- first coefficient in value.
-- Why: xi is a zero away from x_new, so the first shifted factor is a zero, so each product of factors is one (a finite number times
-- a zero), so each sum adds zeros alone. Only the sign of a zero can change, which is why the law speaks of values.
-- An order of 0, which a NaN mark reads as, gives the first coefficient as it is: the law holds there too and needs no premise on the order.
use Rattle.std.specs.Prelude.{◌≡◌, refl, Bool, true, false, List, ℕ, ◌+◌, ◌*◌, ◌≤◌, ◌<◌, T, Float, length}
use Rattle.std.proofs.Common.{inl, add-zero, arith, ne_eqb}
use Rattle.std.specs.Float.Ieee
use Rattle.std.specs.Float.{binary64}
use Rattle.std.specs.Float.Ieee.{fits}
use Rattle.std.specs.Float.Ieee.Fits.{add-fits}
use Rattle.std.specs.Float.Ieee.Scale.{finite}
use Rattle.loops.specs.Choice.{when◌then◌else◌}
use Rattle.loops.specs.Cell.{at}
use Rattle.loops.specs.Refusal.{gives, refuses}
use Rattle.loops.specs.Arithmetic.{◌⊕◌, +0}
use Rattle.loops.specs.laws.LoopLaws.{loop_induction, stored_at}
use Rattle.interpolation.specs.laws.ZeroLaws.{Zero, times_zero}
use Rattle.interpolation.specs.laws.ValueLaws.{Kept, kept_more, kept_equal}
use Rattle.interpolation.specs.laws.FactorLaws.{Ending, products_zero}
use Rattle.interpolation.specs.Interpolate.{order_of, x_factor, products, sum_at, sum_turn, evaluated, values_at, says, interpolation}
use Rattle.interpolation.specs.laws.InterpolateLaws.{order_at_most_5}

-- a finite f64
abbrev pub FiniteNumber : Float → Type 0
FiniteNumber x = T (fits binary64 x) × T (finite x)

-- the law's premises, for n components
pub record AtStepEnd (xi : Float) (cont : List Float) (xold h : Float) (n : ℕ) : Type 0 where
  -- h is not 0
  pub moves : Ieee.eq h +0 ≡ false
  -- the coefficients up to the order are finite
  pub coefficients : (i k : ℕ) → i < n → k ≤ order_of (at cont 6) → FiniteNumber (at cont (i * 7 + k))
  -- the shifted factors are finite
  pub factors : (k : ℕ) → k < order_of (at cont 6) → T (finite (x_factor xi (xold ⊕ h) h k))
  -- xi equals xold + h
  pub ends : Ieee.eq xi (xold ⊕ h) ≡ true

-- sums of zeros keep the first coefficient
sum_keeps : (cont p : List Float) (order i : ℕ) → ((k : ℕ) → k ≤ order → FiniteNumber (at cont (i * 7 + k))) → ((k : ℕ) → k < order → Zero (at p k))
    → Kept (at cont (i * 7)) (sum_at cont p order i)
unfolding Kept sum_at sum_turn
sum_keeps cont p order i c z =
    loop_induction (λ _ sum. Kept (at cont (i * 7)) sum) order (sum_turn cont p (i * 7)) (at cont (i * 7)) (inl refl)
    (λ k sum b kept.
    kept_more binary64 (at cont (i * 7)) sum first.0 first.1 kept (times_zero binary64 (at cont (i * 7 + 1 + k)) (finite_at k b) (z k b)))
  where
    first : FiniteNumber (at cont (i * 7))
    first = rw add-zero at (c 0 (omega arith))

    finite_at : (k : ℕ) → k < order → T (finite (at cont (i * 7 + 1 + k)))
    finite_at k b = let place : i * 7 + 1 + k ≡ i * 7 + (k + 1) = omega arith in rw place (c (k + 1) (omega arith)).1

-- what is given is the values, and not a refusal
given_values : (a b : Bool) (yi values ys : List Float)
    → (when a then says (refuses 1) yi else when b then says (gives tt) values else says (refuses 13) yi) ≡ says (gives tt) ys → ys ≡ values
unfolding when◌then◌else◌
given_values true b yi values ys e = absurd (let z : ◌≡◌ {A = ℕ} 0 1 = cc in omega arith)
given_values false true yi values ys e = cc
given_values false false yi values ys e = absurd (let z : ◌≡◌ {A = ℕ} 0 1 = cc in omega arith)

-- the values, past the tests for a step of 0 and for no components
values_are : (xi : Float) (yi cont : List Float) (xold h : Float) → Ieee.eq h +0 ≡ false → 0 < length yi
    → values_at xi yi cont xold h ≡ evaluated cont (products xi (xold ⊕ h) h (order_of (at cont 6))) (order_of (at cont 6)) yi
unfolding values_at when◌then◌else◌
values_are xi yi cont xold h e some = rw (e, ne_eqb (length yi) 0 (λ z. omega arith))

value_at : (cont p : List Float) (order : ℕ) (yi : List Float) (i : ℕ) → i < length yi → at (evaluated cont p order yi) i ≡ sum_at cont p order i
unfolding evaluated
value_at cont p order yi i b = (stored_at (length yi) (sum_at cont p order) yi (omega arith)).holds i b

pub interpolation_law : (xi : Float) (yi cont : List Float) (xold h : Float) → AtStepEnd xi cont xold h (length yi)
    → (ys : List Float) → interpolation xi yi cont xold h ≡ says (gives tt) ys
    → (i : ℕ) → i < length yi → Ieee.eq (at ys i) (at cont (i * 7)) ≡ true
unfolding interpolation
interpolation_law xi yi cont xold h r ys e i b =
    let order = order_of (at cont 6) in
    let p = products xi (xold ⊕ h) h order in
    let is : ys ≡ values_at xi yi cont xold h = given_values _ _ yi (values_at xi yi cont xold h) ys e in
    let ending : Ending xi (xold ⊕ h) h order = record { held = add-fits binary64 xold h; ends = r.ends; factors = r.factors } in
    let zeros : (k : ℕ) → k < order → Zero (at p k) = products_zero xi (xold ⊕ h) h order (order_at_most_5 (at cont 6)) ending in
    let kept : Kept (at cont (i * 7)) (sum_at cont p order i) = sum_keeps cont p order i (λ k l. r.coefficients i k b l) zeros in
    let first : T (finite (at cont (i * 7))) = rw add-zero at (r.coefficients i 0 b (omega arith)).1 in
    rw (is, values_are xi yi cont xold h r.moves (omega arith), value_at cont p order yi i b) (kept_equal (at cont (i * 7)) (sum_at cont p order i) first kept)
