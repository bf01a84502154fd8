-- Lengths that stay. A beginning and a call write numbers in place: the workspace and the question slice are as long after them as
-- before, whatever is handed over. So is what the reader of a file leaves of the arrays for y0 and A, and A y is as long as y.
use Rattle.std.specs.Prelude.{◌≡◌, refl, List, ◌++◌, ℕ, ◌+◌, ◌*◌, ◌≤◌, length, take, drop, replicate, Float}
use Rattle.std.proofs.Common.{sym, ◌∙◌, arith, length-take-le}
use Rattle.std.proofs.lemmas.List.{length-replicate}
use Rattle.std.proofs.Math.Seq.{length_front}
use Rattle.loops.specs.Arithmetic.{+0}
use Rattle.loops.specs.Refusal.{Outcome, gives, refuses}
use Rattle.loops.specs.laws.LoopLaws.{stored_length}
use Rattle.text.specs.laws.Fronts.{squared}
use Rattle.matrix.specs.Size.{max_n}
use Rattle.rules.specs.Answers.{written}
use Rattle.rules.specs.Places.{need}
use Rattle.rules.specs.State.{After, after}
use Rattle.rules.specs.Begin.{begin_run}
use Rattle.rules.specs.GoOn.{go_within}
use Rattle.rules.specs.Calls.{Configuration, beginning, Call, going_on}
use Rattle.rules.proofs.laws.CheckLaws.{cleared}
use Rattle.rules.proofs.laws.GoOnLaws.{handed}
use Rattle.rules.proofs.laws.QuestionLaws.{Speaks, Says}
use Rattle.rules.proofs.laws.SpeakLaws.{replied_speaks, ask_first_speaks}
use Rattle.rules.proofs.laws.CallLaws.{beginning_cases, going_on_cases}
use Rattle.job.specs.Right.{row_sum, right_turn, right_of}
use Rattle.job.specs.declared.form.Form.{Form}
use Rattle.job.specs.Packed.{doubles_of}
use Rattle.job.specs.Reading.{ReadOutcome, form_read, placed, read_of}
use Rattle.job.specs.laws.ReadingLaws.{doubles_long}
use Rattle.job.proofs.Serving.{form_serves}
use Rattle.listing.specs.Types.{Answer, Derivative, Jacobian, Start, Step, End, Refused, Run, Turn}
use Rattle.listing.specs.Replies.{times_of}

-- ---- the workspace and the question slice

-- g left both as long as they were
abbrev pub KeepsLengths : List Float → List Float → After Turn → Type 0
KeepsLengths ws q g = (length g.ws ≡ length ws) × (length g.q ≡ length q)

-- no answer writes more than a step's notice
few_written : (n : ℕ) (a : Answer) → written n a ≤ 8 * n
few_written n (Derivative x) = omega arith
few_written n (Jacobian x) = omega arith
few_written n (Start x) = omega arith
few_written n (Step old new start h) = omega arith
few_written n (End status h) = omega arith
few_written n (Refused why) = omega arith

-- past the checks: the needed places of the workspace and the first of the slice are put anew, by as many
stage_keeps :
    {n : ℕ} {f : List Float → After Turn} (ws q : List Float) → Speaks (Says n) n f → need n ≤ length ws → 8 * n ≤ length q →
    KeepsLengths ws q (after (f q).is ((f q).ws ++ drop (need n) ws) (f q).q)
stage_keeps {n} ws q s works asks =
    let few : length s.asked ≤ length q = omega (arith, s.fits.0, few_written n s.is.answer) in
    rw (s.says q asks) (
      length_front ws s.ws (need n) (s.long ∙ sym (length-take-le (need n) ws works)),
      length_front q s.asked (length s.asked) (sym (length-take-le (length s.asked) q few)),
    )

-- a call, whatever state is handed over
pub call_keeps_lengths : (run : Run) (call : Call) → KeepsLengths call.ws call.q (going_on run call)
unfolding go_within
call_keeps_lengths run call =
    let n = run.at.n in
    going_on_cases (KeepsLengths call.ws call.q) run call
    (λ why. (refl, refl))
    (λ e. let passed = handed run.awaited run.at call.reply call.values call.ws call.q e in
    let exact = length-take-le (need n) call.ws passed.works in
    let s = replied_speaks run.at call.values (take (need n) call.ws) exact run.awaited call.reply in
    stage_keeps call.ws call.q s passed.works passed.ready.asks)

-- a beginning
pub beginning_keeps_lengths : (c : Configuration) (ws q : List Float) → KeepsLengths ws q (beginning c ws q)
unfolding begin_run
beginning_keeps_lengths c ws q =
    let n = length c.y0 in
    beginning_cases (KeepsLengths ws q) c ws q
    (λ why. (refl, refl))
    (λ none. (refl, refl))
    (λ some few e. let passed = cleared _ n _ _ _ _ _ (length ws) (length q) e in
    let exact = length-take-le (need n) ws passed.works in
    let s = ask_first_speaks c.settings c.x0 c.xend c.y0 c.rtol c.rtols c.atol c.atols (take (need n) ws) exact in
    stage_keeps ws q s passed.works passed.asks)

-- ---- A y

-- it is as long as y
pub times_long : (a y : List Float) → length (times_of a y) ≡ length y
unfolding right_of right_turn
times_long a y = stored_length (length y) (row_sum a y) (replicate (length y) +0) ∙ length-replicate (length y) +0

-- ---- the arrays for y0 and A

-- a reading left both as long as they are for the greatest job
abbrev pub Sized : ReadOutcome → Type 0
Sized r = (length r.1 ≡ max_n) × (length r.2 ≡ max_n * max_n)

-- doubles over the first places of a list
fronted_long : (s : List ℕ) (i count : ℕ) (l : List Float) → count ≤ length l → length (doubles_of s i count ++ drop count l) ≡ length l
fronted_long s i count l h = length_front l (doubles_of s i count) count (doubles_long s i count ∙ sym (length-take-le count l h))

-- also where it refuses
module _ (s : List ℕ) (y0 a : List Float) (long : length y0 ≡ max_n) (wide : length a ≡ max_n * max_n) where
  placed_sized : (o : Outcome Form) → ((f : Form) → o ≡ gives f → f.n ≤ max_n) → Sized (placed s o y0 a)
  placed_sized (refuses number) few = (long, wide)
  placed_sized (gives f) few =
      let n = f.n in
      let small = few f refl in
      (fronted_long s 5 n y0 (omega arith) ∙ long, fronted_long s (5 + n) (n * n) a (omega (arith, squared n max_n small)) ∙ wide)

  pub read_sized : Sized (read_of s y0 a)
  unfolding read_of
  read_sized = placed_sized (form_read s) (λ f e. (form_serves s f e).few)
