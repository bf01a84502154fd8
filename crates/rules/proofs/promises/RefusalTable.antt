-- The table of refusals of docs/RULES.md, row by row; and that the answer of a beginning and of going on, whole and whatever is handed
-- over, is refused as the first row says that applies, with its number and its values, and not refused where none applies.
use Rattle.std.specs.Prelude.{◌≡◌, List, [], ◌∷◌, ◌++◌, Bool, true, false, not, ◌&&◌, ◌||◌, ℕ, zero, suc, ◌+◌, ◌*◌, ◌≤◌, leb, eqb, Float, Option, Some, None, Result, Ok, Err, ⊤}
use Rattle.std.proofs.Math.Path.{refl}
use Rattle.std.proofs.Common.{sym, ◌∙◌, true≢false, arith, leb-true, leb-false, lt-ltb, le-ltb}
use Rattle.std.proofs.Math.Option.{Option as Maybe, none, some, some-ne-none}
use Rattle.std.proofs.Math.Dec.{ltb}
use Rattle.std.proofs.Math.ListN.{length}
use Rattle.std.specs.Float.Ieee
use Rattle.loops.specs.Choice.{when◌then◌else◌}
use Rattle.loops.specs.Arithmetic.{◌⊖◌, +0}
use Rattle.number.specs.Helpers.{signum_of}
use Rattle.rules.specs.Types.{Tolerance, Scalar, Vector, Relative, Absolute, Answer, Derivative, Jacobian, Start, Step, End, Refused, Success, Ended, Run, Turn, Refusal}
use Rattle.rules.specs.Answers.{is_refused}
use Rattle.rules.specs.Places.{need}
use Rattle.rules.specs.State.{turn, After, after}
use Rattle.rules.specs.Refusals.{Carried, bare, tolerance, first_step, Told, told, refusal_of}
use Rattle.rules.specs.Replies.{is_ended, wants}
use Rattle.rules.specs.Checks.{entry, reaches, negative, zero_step, limited, or_else, tolerances_checked, checked}
use Rattle.rules.specs.Begin.{kept, nothing, ask_first, begin_run, begin_of}
use Rattle.rules.specs.GoOn.{damaged, count_checked, go_checked, go_on_of}
use Rattle.rules.specs.Calls.{Configuration, beginning, beginning_checked, beginning_turn, Call, going_on, going_on_checked, going_on_turn, going_on_passed}
use Rattle.rules.proofs.laws.CallLaws.{beginning_cases}
use Rattle.rules.proofs.promises.RefusalLaws.{passed_answers}

-- ---- a table, and how it is read

-- a row: whether it applies, its number, and the values that it carries
pub record Row : Type 0 where
  pub applies : Bool
  pub tells : Told

abbrev pub row : Bool → ℕ → Carried → Row
row applies number carried = record { applies = applies; tells = (number, carried) }

-- from the top down: the first row that applies, or nothing
abbrev pub first_of : List Row → Maybe Told
first_of [] = none
first_of (r ∷ rows) = when r.applies then some r.tells else first_of rows

-- ---- 1 to 8, at a beginning

-- 4: a vector has fewer than n entries
abbrev pub too_few : Tolerance → List Float → ℕ → Bool
too_few (Scalar t) values n = false
too_few Vector values n = ltb (length values) n

-- 5: a tolerance is below 0; two rows for each of the `left` indexes from i on, the relative one first
unfoldable pub tolerance_rows : Tolerance → List Float → Tolerance → List Float → ℕ → ℕ → List Row
tolerance_rows r rs a als zero i = []
tolerance_rows r rs a als (suc left) i =
    row (Ieee.lt (entry r rs i) +0) 5 (tolerance Relative i (entry r rs i)) ∷
    row (Ieee.lt (entry a als i) +0) 5 (tolerance Absolute i (entry a als i)) ∷
    tolerance_rows r rs a als left (i + 1)

-- 8: a given `first_step` is +0 or -0; an unset one has no row
abbrev pub first_step_rows : Option Float → Float → List Row
first_step_rows None direction = []
first_step_rows (Some h) direction = row (Ieee.eq h +0) 8 (first_step h direction) ∷ []

-- 6 to 8
abbrev pub limit_rows : Configuration → List Row
limit_rows c =
    row (eqb c.settings.max_steps 0) 6 bare ∷
    row (ltb 1000000 c.settings.max_steps || ltb 64 c.settings.newton_maxiter) 7 bare ∷
    first_step_rows c.settings.first_step (signum_of (c.xend ⊖ c.x0))

-- 2 to 8, with `room` numbers of workspace and `questions` of question slice
abbrev pub check_rows : Configuration → ℕ → ℕ → List Row
check_rows c room questions =
    let n = length c.y0 in
    row (ltb room (need n)) 2 bare ∷
    row (ltb questions (8 * n)) 3 bare ∷
    row (too_few c.rtol c.rtols n || too_few c.atol c.atols n) 4 bare ∷
    tolerance_rows c.rtol c.rtols c.atol c.atols n 0 ++ limit_rows c

-- the whole: with n = 0 it ends before 2 to 8
abbrev pub begin_table : Configuration → ℕ → ℕ → List Row
begin_table c room questions =
    row (ltb 32 (length c.y0)) 1 bare ∷ (when eqb (length c.y0) 0 then [] else check_rows c room questions)

-- ---- 9 to 12, at going on

-- 11: the reply's kind does not suit the question
abbrev pub unsuited : Option ℕ → Bool
unsuited None = true
unsuited (Some k) = false

-- 12: how long the reply slice must be
abbrev pub wanted : Option ℕ → ℕ
wanted None = 0
wanted (Some k) = k

-- the whole: of workspace, question slice and reply slice the lengths count
abbrev pub go_table : Run → Call → List Row
go_table run call =
    let n = run.at.n in
    let bring = wants n run.awaited call.reply in
    row (damaged run.awaited run.at) 9 bare ∷
    row (is_ended run.awaited) 10 bare ∷
    row (unsuited bring) 11 bare ∷
    row (ltb (length call.ws) (need n) || (ltb (length call.q) (8 * n) || ltb (length call.values) (wanted bring))) 12 bare ∷ []

-- ---- the checks go by the table

-- what a check tells
abbrev tells : Result ⊤ Refusal → Maybe Told
tells (Ok tt) = none
tells (Err why) = some (told why)

-- a choice tells what the way tells that it takes
choice_tells :
    {A : Type 0} (says : A → Maybe Told) (b : Bool) (x y : A) {m n : Maybe Told} → says x ≡ m → says y ≡ n →
    says (when b then x else y) ≡ (when b then m else n)
unfolding when◌then◌else◌
choice_tells says true x y p q = p
choice_tells says false x y p q = q

-- two conditions that must hold both are a row that applies where one fails
condition_tells :
    (b c : Bool) (x y : Result ⊤ Refusal) {m n : Maybe Told} → tells x ≡ m → tells y ≡ n →
    tells (when b && c then x else y) ≡ (when (not b || not c) then n else m)
unfolding when◌then◌else◌
condition_tells true true x y p q = p
condition_tells true false x y p q = q
condition_tells false c x y p q = q

too_few_is_short : (t : Tolerance) (values : List Float) (n : ℕ) → not (reaches t values n) ≡ too_few t values n
too_few_is_short (Scalar t) values n = refl
too_few_is_short Vector values n = by_test (leb n (length values)) refl
  where
    by_test : (b : Bool) → leb n (length values) ≡ b → not b ≡ ltb (length values) n
    by_test true e = sym (le-ltb (length values) n (leb-true n (length values) e))
    by_test false e = sym (lt-ltb (length values) n (leb-false n (length values) e))

tolerances_tell :
    (r : Tolerance) (rs : List Float) (a : Tolerance) (als : List Float) (left i : ℕ) (later : Result ⊤ Refusal) (rows : List Row) →
    tells later ≡ first_of rows →
    tells (or_else (negative r rs a als left i) later) ≡ first_of (tolerance_rows r rs a als left i ++ rows)
unfolding negative tolerance_rows
tolerances_tell r rs a als zero i later rows p = p
tolerances_tell r rs a als (suc left) i later rows p =
    choice_tells says (Ieee.lt (entry r rs i) +0) _ _ refl
    (choice_tells says (Ieee.lt (entry a als i) +0) _ _ refl (tolerances_tell r rs a als left (i + 1) later rows p))
  where
    says : Result ⊤ Refusal → Maybe Told
    says k = tells (or_else k later)

first_step_tells : (first : Option Float) (direction : Float) → tells (zero_step first direction) ≡ first_of (first_step_rows first direction)
first_step_tells None direction = refl
first_step_tells (Some h) direction = choice_tells tells (Ieee.eq h +0) _ _ refl refl

module _ (c : Configuration) (ws q : List Float) where
  limits_tell : tells (limited c.settings (signum_of (c.xend ⊖ c.x0))) ≡ first_of (limit_rows c)
  unfolding limited
  limits_tell =
      choice_tells tells (eqb c.settings.max_steps 0) _ _ refl
      (choice_tells tells (ltb 1000000 c.settings.max_steps || ltb 64 c.settings.newton_maxiter) _ _ refl
      (first_step_tells c.settings.first_step (signum_of (c.xend ⊖ c.x0))))

  checks_tell : tells (beginning_checked c ws q) ≡ first_of (check_rows c (length ws) (length q))
  unfolding checked tolerances_checked
  checks_tell =
      let n = length c.y0 in
      choice_tells tells (ltb (length ws) (need n)) _ _ refl
      (choice_tells tells (ltb (length q) (8 * n)) _ _ refl
      (rw (← too_few_is_short c.rtol c.rtols n, ← too_few_is_short c.atol c.atols n)
      (condition_tells (reaches c.rtol c.rtols n) (reaches c.atol c.atols n) _ _
      (tolerances_tell c.rtol c.rtols c.atol c.atols n 0 _ (limit_rows c) limits_tell) refl)))

reply_tells :
    (v : Option ℕ) (n values room questions : ℕ) →
    tells (count_checked v n values room questions) ≡
    (when unsuited v then some (11, bare)
    else when (ltb room (need n) || (ltb questions (8 * n) || ltb values (wanted v))) then some (12, bare)
    else none)
unfolding when◌then◌else◌
reply_tells None n values room questions = refl
reply_tells (Some k) n values room questions = choice_tells tells (ltb room (need n) || (ltb questions (8 * n) || ltb values k)) _ _ refl refl

-- ---- a beginning

-- what an outcome tells of refusing
abbrev pub refusal : After Turn → Maybe Told
refusal g = refusal_of g.is.answer

-- rows that do not count where a test passes
rows_chosen : (b : Bool) (x y : After Turn) (rows : List Row) → refusal x ≡ none → refusal y ≡ first_of rows →
    refusal (when b then x else y) ≡ first_of (when b then [] else rows)
unfolding when◌then◌else◌
rows_chosen true x y rows p q = p
rows_chosen false x y rows p q = q

begin_tells : (c : Configuration) (k : Result ⊤ Refusal) (ws q : List Float) → refusal (beginning_turn c k ws q) ≡ tells k
unfolding begin_run ask_first
begin_tells c (Ok tt) ws q = refl
begin_tells c (Err why) ws q = refl

pub beginning_is_refused_by_the_table :
    (c : Configuration) (ws q : List Float) → refusal_of (beginning c ws q).is.answer ≡ first_of (begin_table c (length ws) (length q))
unfolding begin_of
beginning_is_refused_by_the_table c ws q =
    choice_tells refusal (ltb 32 (length c.y0)) _ _ refl
    (rows_chosen (eqb (length c.y0) 0) _ _ (check_rows c (length ws) (length q)) refl
    (begin_tells c (beginning_checked c ws q) ws q ∙ checks_tell c ws q))

-- with n = 0 it has ended at once, whatever 2 to 8 would say: Success, step size 0, and the slices as they were
pub beginning_of_nothing_ends :
    (c : Configuration) (ws q : List Float) → length c.y0 ≡ 0 → beginning c ws q ≡ after (turn (End Success +0) Ended nothing) ws q
unfolding begin_of when◌then◌else◌
beginning_of_nothing_ends c ws q empty = rw empty

-- with n above 0 and no row that applies it asks the first derivative
pub beginning_asks_unless_refused :
    (c : Configuration) (ws q : List Float) → 1 ≤ length c.y0 → first_of (begin_table c (length ws) (length q)) ≡ none →
    (beginning c ws q).is.answer ≡ Derivative c.x0
unfolding begin_run ask_first kept
beginning_asks_unless_refused c ws q few free =
    beginning_cases Asks c ws q (λ why r. absurd (some-ne-none (told why) r)) (λ empty _. absurd (omega (arith, empty, few))) (λ _ _ _ _. refl)
    (beginning_is_refused_by_the_table c ws q ∙ free)
  where
    Asks : After Turn → Type 0
    Asks g = refusal g ≡ none → g.is.answer ≡ Derivative c.x0

-- ---- going on

no_refusal_tells_nothing : (a : Answer) → is_refused a ≡ false → refusal_of a ≡ none
no_refusal_tells_nothing (Derivative x) e = refl
no_refusal_tells_nothing (Jacobian x) e = refl
no_refusal_tells_nothing (Start x) e = refl
no_refusal_tells_nothing (Step old new start h) e = refl
no_refusal_tells_nothing (End status h) e = refl
no_refusal_tells_nothing (Refused why) e = absurd (true≢false e)

go_tells : (run : Run) (call : Call) (k : Result ⊤ Refusal) → going_on_checked run call ≡ k → refusal (going_on_turn run call k) ≡ tells k
go_tells run call (Ok tt) e = no_refusal_tells_nothing (going_on_passed run call).is.answer (passed_answers run call e)
go_tells run call (Err why) e = refl

go_checks_tell : (run : Run) (call : Call) → tells (going_on_checked run call) ≡ first_of (go_table run call)
unfolding go_checked
go_checks_tell run call =
    choice_tells tells (damaged run.awaited run.at) _ _ refl
    (choice_tells tells (is_ended run.awaited) _ _ refl
    (reply_tells (wants run.at.n run.awaited call.reply) run.at.n _ _ _))

pub going_on_is_refused_by_the_table : (run : Run) (call : Call) → refusal_of (going_on run call).is.answer ≡ first_of (go_table run call)
unfolding go_on_of
going_on_is_refused_by_the_table run call = go_tells run call (going_on_checked run call) refl ∙ go_checks_tell run call
