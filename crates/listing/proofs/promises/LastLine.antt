-- The last two lines of the output of a job with one component or more. The line before the end's is a notice's, `I` or `S`, and its y
-- is what the workspace holds as y at the end. Where the end's line tells Success, its x lies at xend or beyond it in the run's direction.
use Rattle.std.specs.Prelude.{◌≡◌, refl, true, false, List, [], ◌∷◌, ◌++◌, ◌⊎◌, ℕ, ◌≤◌, length, take, Float}
use Rattle.std.proofs.Common.{sym, ◌∙◌, true≢false, append-nil, inl, inr, arith}
use Rattle.loops.specs.Refusal.{gives}
use Rattle.lines.specs.Types.{Status, Success}
use Rattle.lines.specs.Lines.{line, hexes, end_line}
use Rattle.rules.specs.Places.{vector, y as y_row}
use Rattle.rules.specs.Answers.{is_end, is_refused}
use Rattle.rules.specs.State.{After}
use Rattle.rules.specs.Begin.{ask_first, begin_run}
use Rattle.rules.specs.Calls.{Configuration, direction, beginning, going_on, size}
use Rattle.rules.specs.History.{Exchange, begins, goes_on, is_refused_call, tally, start_notices}
use Rattle.rules.specs.Known.{Arrived, told_y, last_told_x, last_told_y, leaves}
use Rattle.rules.proofs.laws.CallLaws.{beginning_cases}
use Rattle.rules.proofs.laws.ExchangeLaws.{Kept, idle, works, exchange_kept}
use Rattle.rules.proofs.promises.EndMeans.{an_end_has_a_start, only_the_last_ends, y_is_told}
use Rattle.listing.specs.Types.{Answer, Derivative, Jacobian, Start, Step, End, Refused, Steps, Evals, Run, Turn, Job}
use Rattle.listing.specs.Printed.{answer_line, reading, printed}
use Rattle.listing.specs.Telling.{lines_of, Ours, Ran}
use Rattle.listing.specs.promises.Whole.{configured, beginning_of, with_components, success_is_the_end}

-- ---- the statement

-- t ends in the line of a notice, by its letter, that tells x and y
pub record EndsIn (x : Float) (y : List Float) (t : List ℕ) : Type 0 where
  pub before : List ℕ
  pub letter : ℕ
  pub notice : (letter ≡ 73) ⊎ (letter ≡ 83)
  pub is : t ≡ before ++ line letter (hexes (x ∷ y))

-- ---- a notice is the last that has a line before the end

-- one answer more, that is no end and no refusal: n components, of which q tells the first places
ends_still :
    (a : Answer) (h : List Answer) (n : ℕ) (x0 : Float) (v : List Float) (t : List ℕ) (q : List Float) (steps : Steps) (evals : Evals) →
    is_end a ≡ false → is_refused a ≡ false → (1 ≤ start_notices h → EndsIn (last_told_x h x0) v t) → 1 ≤ start_notices (a ∷ h) →
    EndsIn (last_told_x (a ∷ h) x0) (told_y n a q v) (t ++ answer_line a (take n q) steps evals)
ends_still (Derivative z) h n x0 v t q steps evals e f so some = rw (append-nil t) (so (omega arith))
ends_still (Jacobian z) h n x0 v t q steps evals e f so some = rw (append-nil t) (so (omega arith))
ends_still (Start z) h n x0 v t q steps evals e f so some = record { before = t; letter = 73; notice = inl refl; is = refl }
ends_still (Step old new start z) h n x0 v t q steps evals e f so some = record { before = t; letter = 83; notice = inr refl; is = refl }
ends_still (End status z) h n x0 v t q steps evals e f so some = absurd (true≢false e)
ends_still (Refused why) h n x0 v t q steps evals e f so some = absurd (true≢false f)

-- among answers of which none is an end
no_end_among : (a : Answer) (h : List Answer) → tally is_end (a ∷ h) ≡ 0 → (is_end a ≡ false) × (tally is_end h ≡ 0)
no_end_among (Derivative z) h none = (refl, omega arith)
no_end_among (Jacobian z) h none = (refl, omega arith)
no_end_among (Start z) h none = (refl, omega arith)
no_end_among (Step old new start z) h none = (refl, omega arith)
no_end_among (End status z) h none = absurd (omega arith)
no_end_among (Refused why) h none = (refl, omega arith)

-- the state of an exchange has the configuration's components
kept_size : {c : Configuration} {run : Run} {h : List Answer} → Kept c run h → run.at.n ≡ length c.y0
kept_size (idle none) = sym none
kept_size (works set i t) = set.same_n

-- a beginning tells no start
no_start_at_first : (c : Configuration) (ws q : List Float) → start_notices ((beginning c ws q).is.answer ∷ []) ≡ 0
unfolding begin_run ask_first
no_start_at_first c ws q =
    beginning_cases (λ (g : After Turn). start_notices (g.is.answer ∷ []) ≡ 0) c ws q (λ why. refl) (λ none. refl) (λ some few e. refl)

-- so where a start was told, the lines so far end in a notice's, which tells what was told last
notices_last :
    {c : Configuration} {run : Run} {h : List Answer} (x : Exchange c run h) → tally is_end h ≡ 0 → 1 ≤ start_notices h →
    EndsIn (last_told_x h c.x0) (last_told_y x) (lines_of x)
notices_last {c} (begins ws q e) none some = absurd (omega (arith, no_start_at_first c ws q))
notices_last {c} (goes_on {run = run} {h = h} x call e) none some =
    let g = going_on run call in
    let among = no_end_among g.is.answer h none in
    let all = kept_size (exchange_kept (goes_on x call e)) in
    rw all
    (ends_still g.is.answer h (length c.y0) c.x0 (last_told_y x) (lines_of x) g.q _ _ among.0 e
    (λ start. notices_last x among.1 start) some)
notices_last (is_refused_call x call e) none some = notices_last x none some

-- ---- and then the end

-- an end tells no y
end_tells_none : (n : ℕ) (a : Answer) (q v : List Float) → is_end a ≡ true → told_y n a q v ≡ v
end_tells_none n (Derivative z) q v e = refl
end_tells_none n (Jacobian z) q v e = refl
end_tells_none n (Start z) q v e = absurd (true≢false (sym e))
end_tells_none n (Step old new start z) q v e = absurd (true≢false (sym e))
end_tells_none n (End status z) q v e = refl
end_tells_none n (Refused why) q v e = refl

-- the lines of an exchange of ours whose last answer is an end, after a start
record EndsWith (x : Float) (y : List Float) (last t : List ℕ) : Type 0 where
  front : List ℕ
  told : EndsIn x y front
  all : t ≡ front ++ last

ends_with :
    {c : Configuration} {run : Run} {a : Answer} {past : List Answer} (m : List Float) (x : Exchange c run (a ∷ past)) → Ours m x →
    is_end a ≡ true → tally is_end past ≡ 0 → 1 ≤ start_notices past →
    (v : List Float) × EndsWith (last_told_x past c.x0) (last_told_y x) (answer_line a v run.at.steps run.at.evals) (lines_of x)
ends_with m (begins ws q e) ours end none some = absurd (omega arith)
ends_with {c} m (goes_on {run = run} x call e) ours end none some =
    let g = going_on run call in (
      take (size g) g.q,
      record {
        front = lines_of x;
        told = rw (end_tells_none (length c.y0) g.is.answer g.q (last_told_y x) end) (notices_last x none some);
        all = refl;
      },
    )
ends_with m (is_refused_call x call e) ours end none some = absurd ours

-- ---- the output of a job with components

-- its last two lines: the notice's x and y; y is what the workspace holds at the end, and x has arrived where the end's line says so
pub record LastLines (s : List ℕ) (c : Configuration) (status : Status) (work : List Float) (last : List ℕ) : Type 0 where
  pub x : Float
  pub y : List Float
  pub front : List ℕ
  pub told : EndsIn x y front
  pub all : printed s ≡ front ++ last
  pub held : vector (length c.y0) work y_row ≡ y
  pub reached : status ≡ Success → Arrived (direction c) c.xend x

pub last_lines :
    (s : List ℕ) (j : Job) → (reading s).0 ≡ gives j → 1 ≤ j.n → let c = configured (reading s) j in
    (r : Ran c (reading s).2 (beginning_of (reading s) j) [] (printed s)) →
    LastLines s c r.status (leaves r.exchange).ws (end_line r.status r.h r.run.at.steps r.run.at.evals)
last_lines s j e some r =
    let all = with_components s j e in
    let starts = an_end_has_a_start r.exchange (omega arith) in
    let with-end = (ends_with (reading s).2 r.exchange r.ours refl (only_the_last_ends r.exchange) (omega arith)).1 in
    record {
      x = last_told_x r.past j.x0;
      y = last_told_y r.exchange;
      front = with-end.front;
      told = with-end.told;
      all = r.lines ∙ with-end.all;
      held = y_is_told (omega arith) r.exchange r.alone r.still;
      reached = success_is_the_end s j e some r;
    }
