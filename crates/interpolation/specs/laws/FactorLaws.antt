-- At the end of a step the first shifted factor is a zero, and with it every product of factors.
use Rattle.std.specs.Prelude.{◌≡◌, refl, Bool, true, false, List, ◌⊎◌, ℕ, ◌+◌, ◌-◌, ◌≤◌, ◌<◌, pos, T, eqb, Float, length, set, replicate}
use Rattle.std.proofs.Common.{sym, ap, ◌∙◌, subst, inl, inr, eq-or-lt_of_le, le_of_suc-le-suc, lt_irrefl, not-suc-le-zero, add-one, arith, eqb-true, length-set, get_or-set_same, get_or-set_other}
use Rattle.std.specs.Bool.{beq}
use Rattle.std.proofs.lemmas.Bool.{false≢true, eqb-false}
use Rattle.std.specs.Float.Ieee
use Rattle.std.specs.Float.{nan, inf, fin, binary64}
use Rattle.std.specs.Float.Ieee.{fits}
use Rattle.std.specs.Float.Ieee.Scale.{finite}
use Rattle.loops.specs.laws.ChoiceLaws.{either}
use Rattle.loops.specs.Cell.{at}
use Rattle.loops.specs.Arithmetic.{◌⊕◌, ◌⊖◌, ◌⊗◌, ◌⊘◌, float, +0, one}
use Rattle.loops.specs.laws.LoopLaws.{loop_induction}
use Rattle.interpolation.specs.laws.ZeroLaws.{Zero, signed, zero_finite, neg_zero, zeros_equal, times_zero, zero_times, zero_over}
use Rattle.interpolation.specs.laws.ValueLaws.{Kept, kept_more, equals_differ_by_zero, equals_zero}
use Rattle.interpolation.specs.Interpolate.{t_shift, x_factor, product_at, products_turn, products}

-- ---- a NaN goes through

minus_nan : (x : Float) → x ⊖ nan ≡ nan
unfolding Ieee.sub
minus_nan nan = refl
minus_nan (inf s) = refl
minus_nan (fin s m e) = refl

nan_minus : (x : Float) → nan ⊖ x ≡ nan
unfolding Ieee.sub
nan_minus x = refl

nan_over : (x : Float) → nan ⊘ x ≡ nan
unfolding Ieee.div
nan_over x = refl

-- a factor whose shift is a NaN is one
shift_nan : (xi y t : Float) → t ≡ nan → T (finite ((xi ⊖ t) ⊘ y)) → ⊥
shift_nan xi y t e h = simp (e, minus_nan, nan_over) at h

-- ---- the first factor

-- a step that is not finite leaves no finite factor: h * 0.0 is a NaN
no_step : (h : Float) → (h ⊗ float 0 ≡ nan) ⊎ T (finite h)
unfolding Ieee.mul Ieee.of_int
no_step nan = inl refl
no_step (inf s) = inl refl
no_step (fin s m e) = inr tt

-- `0 as Float` is a zero
zero_float : Zero (float 0)
unfolding Ieee.of_int
zero_float = signed false (pos 0)

sub_is_add : (x y : Float) → x ⊖ y ≡ x ⊕ Ieee.neg y
unfolding Ieee.sub
sub_is_add x y = refl

-- so the first shift is x_new, in value
shift_kept : (x_new h : Float) → T (fits binary64 x_new) → T (finite x_new) → T (finite h) → Kept x_new (t_shift x_new h 0)
unfolding Kept
shift_kept x_new h fx hx hh = rw sub_is_add (kept_more binary64 x_new x_new fx hx (inl refl) (neg_zero (times_zero binary64 h hh zero_float)))

kept_finite : (x t : Float) → T (finite x) → Kept x t → T (finite t)
unfolding Kept
kept_finite x t h (inl e) = rw e h
kept_finite x t h (inr z) = zero_finite z.1

-- what equals x equals what x was kept as
equals_kept : (y x t : Float) → T (finite y) → Kept x t → Ieee.eq y x ≡ true → Ieee.eq y t ≡ true
unfolding Kept
equals_kept y x t hy (inl e) h = rw e h
equals_kept y x t hy (inr z) h = zeros_equal (equals_zero y hy z.0 h) z.1

-- and xi is a zero away from it
away : (xi x_new h : Float) → T (fits binary64 x_new) → T (finite xi) → T (finite x_new) → T (finite h) → Ieee.eq xi x_new ≡ true → Zero (xi ⊖ t_shift x_new h 0)
away xi x_new h fx hi hn hh e =
    let k = shift_kept x_new h fx hn hh in
    equals_differ_by_zero binary64 xi (t_shift x_new h 0) hi (kept_finite x_new (t_shift x_new h 0) hn k) (equals_kept xi x_new (t_shift x_new h 0) hi k e)

-- an infinite end leaves no finite factor: infinity less infinity is a NaN
inf_minus_zero : (t : Bool) {z : Float} → Zero z → inf t ⊖ z ≡ inf t
unfolding Ieee.sub
inf_minus_zero t (signed s e) = refl

inf_minus_inf : (s t : Bool) → beq s t ≡ true → inf s ⊖ inf t ≡ nan
unfolding Ieee.sub
inf_minus_inf true true h = refl
inf_minus_inf false false h = refl
inf_minus_inf true false h = absurd (false≢true h)
inf_minus_inf false true h = absurd (false≢true h)

no_far_end : (s t : Bool) (y : Float) {z : Float} → beq s t ≡ true → Zero z → T (finite ((inf s ⊖ (inf t ⊖ z)) ⊘ y)) → ⊥
no_far_end s t y e z h = rw (inf_minus_zero t z, inf_minus_inf s t e, nan_over) at h

ends_finite : (xi x_new h : Float) → T (finite h) → Ieee.eq xi x_new ≡ true → T (finite (x_factor xi x_new h 0)) → T (finite xi) × T (finite x_new)
unfolding x_factor Ieee.eq
ends_finite nan y h hh e f = absurd (false≢true e)
ends_finite (inf s) nan h hh e f = absurd (false≢true e)
ends_finite (inf s) (inf t) h hh e f = absurd (no_far_end s t (h ⊗ (float 0 ⊕ one)) e (times_zero binary64 h hh zero_float) f)
ends_finite (inf s) (fin t n d) h hh e f = absurd (false≢true e)
ends_finite (fin s m e') nan h hh e f = absurd (false≢true e)
ends_finite (fin s m e') (inf t) h hh e f = absurd (false≢true e)
ends_finite (fin s m e') (fin t n d) h hh e f = (tt, tt)

pub first_factor_zero : (xi x_new h : Float) → T (fits binary64 x_new) → Ieee.eq xi x_new ≡ true → T (finite (x_factor xi x_new h 0)) → Zero (x_factor xi x_new h 0)
unfolding x_factor
first_factor_zero xi x_new h fx e f = by (no_step h)
  where
    by : (h ⊗ float 0 ≡ nan) ⊎ T (finite h) → Zero ((xi ⊖ t_shift x_new h 0) ⊘ (h ⊗ (float 0 ⊕ one)))
    by (inl z) = absurd (shift_nan xi (h ⊗ (float 0 ⊕ one)) (t_shift x_new h 0) (ap (λ (y : Float). x_new ⊖ y) z ∙ minus_nan x_new) f)
    by (inr hh) =
        let g = ends_finite xi x_new h hh e f in
        zero_over binary64 (h ⊗ (float 0 ⊕ one)) (away xi x_new h fx g.0 g.1 hh e) f

-- ---- the products

-- the products below n are zeros
record Zeros (n : ℕ) (p : List Float) : Type 0 where
  pub long : length p ≡ 5
  pub zeros : (k : ℕ) → k < n → Zero (at p k)

-- finite shifted factors, of a point that equals the step's end
pub record Ending (xi x_new h : Float) (order : ℕ) : Type 0 where
  pub held : T (fits binary64 x_new)
  pub ends : Ieee.eq xi x_new ≡ true
  pub factors : (k : ℕ) → k < order → T (finite (x_factor xi x_new h k))

product_zero : (xi x_new h : Float) (order : ℕ) → Ending xi x_new h order → (k : ℕ) (p : List Float) → k < order → Zeros k p
    → Zero (product_at p k (x_factor xi x_new h k))
unfolding product_at
product_zero xi x_new h order r k p b z =
    either Zero (eqb k 0)
    (λ e. subst (λ (j : ℕ). Zero (x_factor xi x_new h j)) (sym (eqb-true k 0 e))
    (first_factor_zero xi x_new h r.held r.ends (r.factors 0 (omega arith))))
    (λ e. zero_times binary64 (x_factor xi x_new h k) (z.zeros (k - 1) (let d = eqb-false k 0 e in omega arith)) (r.factors k b))

products_turn_lem : (xi x_new h : Float) (order : ℕ) → order ≤ 5 → Ending xi x_new h order → (k : ℕ) (p : List Float) → k < order → Zeros k p
    → Zeros (k + 1) (products_turn xi x_new h k p)
unfolding products_turn
products_turn_lem xi x_new h order o r k p b z =
    record { long = length-set p k _ ∙ z.long; zeros = λ i l. below i (eq-or-lt_of_le (le_of_suc-le-suc (rw add-one at l))) }
  where
    v : Float
    v = product_at p k (x_factor xi x_new h k)

    below : (i : ℕ) → (i ≡ k) ⊎ (i < k) → Zero (at (set p k v) i)
    below i (inl e) = rw (e, get_or-set_same p k v nan (omega (arith, z.long))) (product_zero xi x_new h order r k p b z)
    below i (inr l) = rw (get_or-set_other p k i v nan (λ e. lt_irrefl k (rw e at l))) (z.zeros i l)

pub products_zero : (xi x_new h : Float) (order : ℕ) → order ≤ 5 → Ending xi x_new h order → (k : ℕ) → k < order → Zero (at (products xi x_new h order) k)
unfolding products
products_zero xi x_new h order o r =
    (loop_induction Zeros order (products_turn xi x_new h) (replicate 5 +0)
    (record { long = refl; zeros = λ k l. absurd (not-suc-le-zero l) })
    (λ k p b z. products_turn_lem xi x_new h order o r k p b z)).zeros
