-- The beginning's checks of a job, test by test: its tolerances are one number each, so 4 cannot come, and 5 comes by the first component
-- or by none.
use Rattle.std.specs.Prelude.{◌≡◌, Bool, true, false, ◌||◌, [], ℕ, zero, suc, ◌+◌, ◌<◌, ltb, eqb, None, Some, Result, Ok, ⊤}
use Rattle.std.proofs.Math.Path.{refl, sym}
use Rattle.std.proofs.Common.{◌∙◌, arith, ne_eqb}
use Rattle.std.specs.Float.Ieee
use Rattle.std.specs.Float.Ieee.{Float}
use Rattle.rules.specs.declared.types.Refusal.{Refusal}
use Rattle.loops.specs.Arithmetic.{◌⊖◌, +0}
use Rattle.loops.specs.Choice.{when◌then◌else◌}
use Rattle.loops.specs.Refusal.{Outcome, gives, refuses}
use Rattle.loops.specs.laws.ChoiceLaws.{when_true, when_false, through}
use Rattle.number.specs.Helpers.{signum_of}
use Rattle.rules.specs.Refusals.{number_of}
use Rattle.rules.specs.Checks.{zero_step, negative, limited, or_else, tolerances_checked}
use Rattle.job.specs.declared.form.Form.{Form}
use Rattle.job.specs.Types.{Scalar}
use Rattle.job.specs.Packed.{value_of}
use Rattle.job.specs.Reading.{first_step_of, job_of, settings_of}
use Rattle.job.specs.Writing.{begins_of, begun_of}

-- ---- the tests, last ones first

given_begun : (long : ℕ) (h direction : Float) → (when Ieee.eq h +0 then refuses 8 else gives long) ≡ begun_of long (zero_step (Some h) direction)
unfolding number_of
given_begun long h direction = through (begun_of long) refl (λ _. refl) (λ _. refl)

zero_start_begun :
    (long : ℕ) (automatic : Bool) (h direction : Float) →
    (when automatic then gives long else when Ieee.eq h +0 then refuses 8 else gives long) ≡ begun_of long (zero_step (when automatic then None else Some h) direction)
unfolding when◌then◌else◌
zero_start_begun long true h direction = refl
zero_start_begun long false h direction = given_begun long h direction

-- neither tolerance is below 0: no component has one that is
none_negative : (r a : Float) (left i : ℕ) → Ieee.lt r +0 ≡ false → Ieee.lt a +0 ≡ false → negative (Scalar r) [] (Scalar a) [] left i ≡ Ok tt
unfolding negative
none_negative r a zero i p q = refl
none_negative r a (suc left) i p q = when_false _ _ p ∙ when_false _ _ q ∙ none_negative r a left (i + 1) p q

negative_begun :
    (long : ℕ) (r a : Float) (left : ℕ) (later : Result ⊤ Refusal) {l : Outcome ℕ} → 0 < left → l ≡ begun_of long later →
    (when Ieee.lt r +0 then refuses 5 else when Ieee.lt a +0 then refuses 5 else l) ≡ begun_of long (or_else (negative (Scalar r) [] (Scalar a) [] left 0) later)
unfolding negative number_of
negative_begun long r a zero later some e = absurd (omega arith)
negative_begun long r a (suc left) later some e =
    through by refl (λ _. refl) (λ p. through by refl (λ _. refl) (λ q. rw (none_negative r a left 1 p q) e))
  where
    by : Result ⊤ Refusal → Outcome ℕ
    by k = begun_of long (or_else k later)

-- ---- all of them

module _ (f : Form) (long : ℕ) where
  pub begun_of_nothing : f.n ≡ 0 → begun_of long (begins_of (job_of f)) ≡ gives long
  unfolding begins_of job_of when◌then◌else◌
  begun_of_nothing e = rw e

  -- with a component
  pub begun_by_tests :
      0 < f.n →
      (when Ieee.lt (value_of f.rtol) +0 then refuses 5
      else when Ieee.lt (value_of f.atol) +0 then refuses 5
      else when eqb f.max_steps 0 then refuses 6
      else when (ltb 1000000 f.max_steps || ltb 64 f.newton_maxiter) then refuses 7
      else when f.automatic then gives long
      else when Ieee.eq (value_of f.first_step) +0 then refuses 8
      else gives long) ≡
      begun_of long (begins_of (job_of f))
  unfolding begins_of job_of first_step_of tolerances_checked limited number_of
  begun_by_tests some =
      let direction : Float = signum_of (value_of f.xend ⊖ value_of f.x0) in
      negative_begun long (value_of f.rtol) (value_of f.atol) f.n (limited (settings_of (job_of f)) direction) some
      (through (begun_of long) refl (λ _. refl) (λ _. through (begun_of long) refl (λ _. refl) (λ _. zero_start_begun long f.automatic (value_of f.first_step) direction)))
      ∙ sym (rw (when_false _ _ (ne_eqb f.n 0 (λ e. omega arith))) (rw (when_true _ _ refl) refl))
