-- What holds of the beginning's checks: a tolerance that reaches n components reaches each of them, the search for a negative
-- one goes index by index, and checks that passed leave enough room.
use Rattle.std.specs.Prelude.{◌≡◌, refl, List, true, false, ◌&&◌, ◌||◌, ltb, eqb, length, Float, Result, Ok, Err, ⊤}
use Prim.Native.Nat.{ℕ, suc, ◌+◌, ◌-◌, ◌*◌, ◌≤◌, ◌<◌}
use native.Mathlib.Omega.{arith}
use Rattle.std.specs.Float.Ieee
use Rattle.std.proofs.Common.{leb-true, le-leb, ltb-false}
use Rattle.std.proofs.lemmas.Bool.{eqb-false}
use Rattle.loops.specs.Choice.{when◌then◌else◌}
use Rattle.loops.specs.laws.ChoiceLaws.{and_first, and_second}
use Rattle.rules.specs.Types.{Tolerance, Scalar, Vector, Relative, Absolute, NegativeTolerance, Refusal}
use Rattle.loops.specs.Arithmetic.{+0}
use Rattle.rules.specs.Places.{need}
use Rattle.rules.specs.Checks.{entry, reaches, negative, limited, or_else, tolerances_checked, checked}
use Rattle.rules.proofs.laws.PassedLaws.{refusal_is_no_pass, passed_test, passed_rest, passed_condition, passed_way, or_first, or_second}
use Rattle.rules.specs.declared.settings.BDF.{BDF}

-- ---- tolerances

pub reaches_each : (t : Tolerance) (values : List Float) {n i : ℕ} → reaches t values n ≡ true → i < n → reaches t values (i + 1) ≡ true
reaches_each (Scalar x) values h l = refl
reaches_each Vector values {n} {i} h l = le-leb (i + 1) (length values) (omega (arith, leb-true n (length values) h))

pub vector_reaches : {t : Tolerance} (values : List Float) (n : ℕ) → t ≡ Vector → reaches t values n ≡ true → n ≤ length values
vector_reaches values n e h = leb-true n (length values) (rw e at h)

-- ---- the search for a negative one, n - i indexes to go at index i

module _ (r : Tolerance) (rs : List Float) (a : Tolerance) (als : List Float) {n i : ℕ} where
  pub relative_found :
      {v : Float} → i < n → v ≡ entry r rs i → Ieee.lt v +0 ≡ true → negative r rs a als (n - i) i ≡ Err (NegativeTolerance Relative i v)
  unfolding negative when◌then◌else◌
  relative_found l e t = let s : n - i ≡ suc (n - (i + 1)) = omega arith in rw (s, ← e, t)

  pub absolute_found : {v w : Float} → i < n → v ≡ entry r rs i → Ieee.lt v +0 ≡ false → w ≡ entry a als i → Ieee.lt w +0 ≡ true
      → negative r rs a als (n - i) i ≡ Err (NegativeTolerance Absolute i w)
  unfolding negative when◌then◌else◌
  absolute_found l e t f u = let s : n - i ≡ suc (n - (i + 1)) = omega arith in rw (s, ← e, t, ← f, u)

  pub none_negative_here : {v w : Float} → i < n → v ≡ entry r rs i → Ieee.lt v +0 ≡ false → w ≡ entry a als i → Ieee.lt w +0 ≡ false
      → negative r rs a als (n - i) i ≡ negative r rs a als (n - (i + 1)) (i + 1)
  unfolding negative when◌then◌else◌
  none_negative_here l e t f u = let s : n - i ≡ suc (n - (i + 1)) = omega arith in rw (s, ← e, t, ← f, u)

  pub none_left : n ≤ i → negative r rs a als (n - i) i ≡ Ok tt
  unfolding negative
  none_left l = let s : n - i ≡ 0 = omega arith in rw s

-- ---- the checks

-- what passing them leaves: slices that are long enough, and tolerances for every component
pub record Cleared (n : ℕ) (r : Tolerance) (rs : List Float) (a : Tolerance) (als : List Float) (room questions : ℕ) : Type 0 where
  pub works : need n ≤ room
  pub asks : 8 * n ≤ questions
  pub relative : reaches r rs n ≡ true
  pub absolute : reaches a als n ≡ true

pub cleared : (s : BDF) (n : ℕ) (direction : Float) (r : Tolerance) (rs : List Float) (a : Tolerance) (als : List Float) (room questions : ℕ)
    → checked s n direction r rs a als room questions ≡ Ok tt → Cleared n r rs a als room questions
unfolding checked tolerances_checked
cleared s n direction r rs a als room questions e =
    let past_room = passed_rest (ltb room (need n)) _ _ e in
    let past-questions = passed_rest (ltb questions (8 * n)) _ _ past_room in
    let both = passed_condition (reaches r rs n && reaches a als n) _ _ past-questions in
    record {
      works = ltb-false room (need n) (passed_test (ltb room (need n)) _ _ e);
      asks = ltb-false questions (8 * n) (passed_test (ltb questions (8 * n)) _ _ past_room);
      relative = and_first (reaches r rs n) (reaches a als n) both;
      absolute = and_second (reaches r rs n) (reaches a als n) both;
    }

-- and limits that are some, and not too large
pub record Bounded (s : BDF) : Type 0 where
  pub some : 1 ≤ s.max_steps
  pub patient : s.max_steps ≤ 1000000
  pub patience : s.newton_maxiter ≤ 64

limits_bounded : (s : BDF) (direction : Float) → limited s direction ≡ Ok tt → Bounded s
unfolding limited
limits_bounded s direction e =
    let past-none = passed_rest (eqb s.max_steps 0) _ _ e in
    let small = passed_test (ltb 1000000 s.max_steps || ltb 64 s.newton_maxiter) _ _ past-none in
    record {
      some = omega (arith, eqb-false s.max_steps 0 (passed_test (eqb s.max_steps 0) _ _ e));
      patient = ltb-false 1000000 s.max_steps (or_first (ltb 1000000 s.max_steps) _ small);
      patience = ltb-false 64 s.newton_maxiter (or_second (ltb 1000000 s.max_steps) _ small);
    }

passed_both : (k l : Result ⊤ Refusal) → or_else k l ≡ Ok tt → l ≡ Ok tt
passed_both (Ok tt) l e = e
passed_both (Err why) l e = absurd (refusal_is_no_pass why e)

pub bounded : (s : BDF) (n : ℕ) (direction : Float) (r : Tolerance) (rs : List Float) (a : Tolerance) (als : List Float) (room questions : ℕ)
    → checked s n direction r rs a als room questions ≡ Ok tt → Bounded s
unfolding checked tolerances_checked
bounded s n direction r rs a als room questions e =
    let past_room = passed_rest (ltb room (need n)) _ _ e in
    let past-questions = passed_rest (ltb questions (8 * n)) _ _ past_room in
    let past-tolerances = passed_way (reaches r rs n && reaches a als n) _ _ past-questions in
    limits_bounded s direction (passed_both (negative r rs a als n 0) (limited s direction) past-tolerances)
