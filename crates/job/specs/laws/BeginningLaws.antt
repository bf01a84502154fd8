-- A beginning with a job, in slices that are long enough, is refused exactly as the checks say that a writer goes by (`begins_of`).
use Rattle.std.specs.Prelude.{◌≡◌, Bool, true, false, List, ℕ, ◌*◌, ◌≤◌, eqb, length, Float, Result, Ok, Err, ⊤}
use Rattle.std.proofs.Math.Path.{refl, ap}
use Rattle.std.proofs.Common.{sym, ◌∙◌, le-ltb}
use Rattle.std.proofs.Math.Option.{Option, none, some, some-ne-none}
use Rattle.loops.specs.Refusal.{refuses}
use Rattle.loops.specs.laws.ChoiceLaws.{when_true, when_false}
use Rattle.rules.specs.Places.{need}
use Rattle.rules.specs.State.{After}
use Rattle.rules.specs.declared.types.Turn.{Turn}
use Rattle.rules.specs.declared.types.Answer.TheVariants.{Refused}
use Rattle.rules.specs.declared.types.Refusal.{Refusal}
use Rattle.rules.specs.Refusals.{Told, told, number_of, refusal_of}
use Rattle.rules.specs.Checks.{checked, tolerances_checked}
use Rattle.rules.specs.Begin.{ask_first, begin_run, begin_of}
use Rattle.rules.specs.Calls.{Configuration, direction, beginning, beginning_checked, beginning_turn}
use Rattle.job.specs.declared.reader.Job.{Job}
use Rattle.job.specs.Types.{max_n}
use Rattle.job.specs.Reading.{configuration_of}
use Rattle.job.specs.Writing.{begins_of, begun_of}

-- what a check tells
abbrev told_by : Result ⊤ Refusal → Option Told
told_by (Ok tt) = none
told_by (Err why) = some (told why)

passed_tells_nothing : (k : Result ⊤ Refusal) → told_by k ≡ none → k ≡ Ok tt
passed_tells_nothing (Ok tt) e = refl
passed_tells_nothing (Err why) e = absurd (some-ne-none (told why) e)

-- what an outcome tells of refusing
abbrev refusal : After Turn → Option Told
refusal g = refusal_of g.is.answer

turn_tells : (c : Configuration) (k : Result ⊤ Refusal) (ws q : List Float) → refusal (beginning_turn c k ws q) ≡ told_by k
unfolding begin_run ask_first
turn_tells c (Ok tt) ws q = refl
turn_tells c (Err why) ws q = refl

module _ (j : Job) (y0 ws q : List Float) (long : length y0 ≡ j.n) (few : j.n ≤ max_n) (works : need j.n ≤ length ws) (asks : 8 * j.n ≤ length q) where
  beginning_tells : refusal (beginning (configuration_of j y0) ws q) ≡ told_by (begins_of j)
  unfolding begin_of begins_of checked
  beginning_tells = by_test (eqb j.n 0) refl
    where
      c : Configuration
      c = configuration_of j y0

      by_test : (b : Bool) → eqb j.n 0 ≡ b → refusal (beginning (configuration_of j y0) ws q) ≡ told_by (begins_of j)
      by_test true t =
          ap refusal (when_false _ _ (le-ltb max_n (length y0) (rw long few)) ∙ when_true _ _ (rw long t)) ∙ sym (ap told_by (when_true _ _ t))
      by_test false t =
          ap refusal (when_false _ _ (le-ltb max_n (length y0) (rw long few)) ∙ when_false _ _ (rw long t))
          ∙ turn_tells c (beginning_checked c ws q) ws q
          ∙ ap told_by (when_false _ _ (le-ltb (length ws) (need (length y0)) (rw long works)) ∙ when_false _ _ (le-ltb (length q) (8 * length y0) (rw long asks)))
          ∙ ap (λ (n : ℕ). told_by (tolerances_checked c.settings n (direction c) c.rtol c.rtols c.atol c.atols)) long
          ∙ sym (ap told_by (when_false _ _ t))

  pub passed_begins : begins_of j ≡ Ok tt → refusal_of (beginning (configuration_of j y0) ws q).is.answer ≡ none
  passed_begins e = beginning_tells ∙ ap told_by e

  pub begins_passed : refusal_of (beginning (configuration_of j y0) ws q).is.answer ≡ none → begins_of j ≡ Ok tt
  begins_passed e = passed_tells_nothing (begins_of j) (sym beginning_tells ∙ e)

  pub refused_begins : (why : Refusal) (long : ℕ) → (beginning (configuration_of j y0) ws q).is.answer ≡ Refused why → begun_of long (begins_of j) ≡ refuses (number_of why)
  unfolding number_of
  refused_begins why long e = begun_refused long (begins_of j) (sym beginning_tells ∙ ap refusal_of e)
    where
      begun_refused : (l : ℕ) (k : Result ⊤ Refusal) → told_by k ≡ some (told why) → begun_of l k ≡ refuses (number_of why)
      begun_refused l (Ok tt) t = absurd (some-ne-none (told why) (sym t))
      begun_refused l (Err w) t = let same : told w ≡ told why = cc in ap (λ (x : Told). refuses x.0) same
