-- The definition's number of answers, `lines_from`, is enough for a run that began. Every reply of ours is in kind, so each is taken, and no
-- exchange has more than `most` questions and notices: the row comes to the end within it.
use Rattle.std.specs.Prelude.{◌≡◌, refl, true, false, take, Float}
use Rattle.std.proofs.Common.{sym, ◌∙◌, true≢false, arith, length-take-le}
use Rattle.std.proofs.Math.Path.{ap}
use mathlib.Core.List.{List, [], ◌∷◌, ◌++◌, append_assoc, append-nil}
use Rattle.std.proofs.Math.Logic.{inr}
use Prim.Native.Nat.{ℕ, zero, suc, ◌+◌, ◌*◌, ◌≤◌}
use Rattle.std.proofs.Math.ListN.{length}
use Rattle.std.proofs.lemmas.List.{length-replicate}
use Rattle.loops.specs.Arithmetic.{+0}
use Rattle.loops.specs.laws.ChoiceLaws.{either, when_false}
use Rattle.text.specs.laws.Fronts.{squared}
use Rattle.matrix.specs.Size.{max_n}
use Rattle.rules.specs.Answers.{is_refused, is_question_or_notice}
use Rattle.rules.specs.Places.{need}
use Rattle.rules.specs.State.{After, after}
use Rattle.rules.specs.Calls.{Configuration, beginning, going_on, size}
use Rattle.rules.specs.History.{begun, Exchange, begins, goes_on, questions_and_notices}
use Rattle.rules.specs.Known.{is_modified, StillAsTold, leaves, LeftAlone}
use Rattle.rules.proofs.laws.GoOnLaws.{few_undamaged}
use Rattle.rules.proofs.laws.HistoryLaws.{last_taken}
use Rattle.rules.proofs.promises.NeverDamaged.{never_damaged, RepliesTo, in_kind_is_taken}
use Rattle.rules.specs.Bounds.{most}
use Rattle.rules.proofs.promises.RunEnds.{no_longer}
use Rattle.listing.specs.Types.{Answer, Derivative, Jacobian, Start, Step, End, Refused, Run, Turn}
use Rattle.listing.specs.Replies.{reply_to, replying, replied}
use Rattle.listing.specs.Printed.{line_of, lines_from, blank_work, blank_question, run_lines}
use Rattle.listing.specs.Telling.{last, more, lines_of, Ours, Ran}
use Rattle.listing.specs.laws.LengthLaws.{beginning_keeps_lengths, call_keeps_lengths, times_long}

-- where the first answer is the last, `lines_from` is its line
pub only_line : (a : List Float) (k : ℕ) (g : After Turn) → is_question_or_notice g.is.answer ≡ false → lines_from (suc k) a g ≡ line_of g
unfolding lines_from
only_line a k g e = rw (when_false (lines_from k a (replied a g)) [] e) (append-nil (line_of g))

-- ---- our replies

-- none modifies
unmodified : (answer : Answer) → is_modified (reply_to answer) ≡ false
unmodified (Derivative x) = refl
unmodified (Jacobian x) = refl
unmodified (Start x) = refl
unmodified (Step old new start h) = refl
unmodified (End status h) = refl
unmodified (Refused why) = refl

module _ (a : List Float) (wide : length a ≡ max_n * max_n) where
  -- each brings what is asked for
  in_kind :
      (answer : Answer) (run : Run) (ws q : List Float) → run.at.n ≤ max_n → length q ≡ 8 * max_n → is_question_or_notice answer ≡ true →
      RepliesTo run.at.n answer (replying a (after (record { answer = answer; run = run }) ws q))
  in_kind (Derivative x) run ws q few asks e =
      let n = run.at.n in
      let y = take n q in
      record { count = n; kind = refl; enough = omega (arith, times_long (take (n * n) a) y, length-take-le n q (omega arith)) }
  in_kind (Jacobian x) run ws q few asks e =
      let n = run.at.n in
      let fits : n * n ≤ length a = omega (arith, squared n max_n few) in
      record { count = n * n; kind = refl; enough = omega (arith, length-take-le (n * n) a fits) }
  in_kind (Start x) run ws q few asks e = record { count = 0; kind = refl; enough = omega arith }
  in_kind (Step old new start h) run ws q few asks e = record { count = 0; kind = refl; enough = omega arith }
  in_kind (End status h) run ws q few asks e = absurd (true≢false (sym e))
  in_kind (Refused why) run ws q few asks e = absurd (true≢false (sym e))

-- ---- from answer to answer

-- an exchange of ours has come as far as g, and printed `before` up to there
pub record Come (c : Configuration) (a : List Float) (g : After Turn) (before : List ℕ) (past : List Answer) : Type 0 where
  pub exchange : Exchange c g.is.run (g.is.answer ∷ past)
  pub left : leaves exchange ≡ g
  pub ours : Ours a exchange
  pub still : StillAsTold exchange
  pub alone : LeftAlone exchange
  pub lines : lines_of exchange ≡ before ++ line_of g
  pub works : length g.ws ≡ need max_n
  pub asks : length g.q ≡ 8 * max_n

module _ {c : Configuration} (a : List Float) (wide : length a ≡ max_n * max_n) where
  -- past a question or a notice comes one more answer
  pub come_on :
      (g : After Turn) (before : List ℕ) (past : List Answer) → Come c a g before past → is_question_or_notice g.is.answer ≡ true →
      Come c a (replied a g) (before ++ line_of g) (g.is.answer ∷ past)
  unfolding replied
  come_on g before past come e =
      let x = come.exchange in
      let run = g.is.run in
      let n = size g in
      let call = replying a g in
      let few : n ≤ max_n = few_undamaged run.awaited run.at (never_damaged x) in
      let room : need n ≤ length g.ws = omega (arith, squared n max_n few, come.works) in
      let kind = in_kind a wide g.is.answer run g.ws g.q few come.asks e in
      let taken = in_kind_is_taken x call kind room (omega (arith, come.asks)) in
      let kept = call_keeps_lengths run call in
      record {
        exchange = goes_on x call taken;
        left = refl;
        ours = (come.ours, rw come.left);
        still = inr (come.still, unmodified g.is.answer);
        alone = (come.alone, rw come.left (room, refl));
        lines = ap (λ (t : List ℕ). t ++ line_of (going_on run call)) come.lines;
        works = kept.0 ∙ come.works;
        asks = kept.1 ∙ come.asks;
      }

  -- the end prints its line, and nothing comes after it
  come_to_end :
      (answer : Answer) (run : Run) (ws q : List Float) (before : List ℕ) (past : List Answer) →
      let g : After Turn = after (record { answer = answer; run = run }) ws q in
      Come c a g before past → is_question_or_notice answer ≡ false → Ran c a g before (line_of g ++ [])
  come_to_end (Derivative x) run ws q before past come e = absurd (true≢false e)
  come_to_end (Jacobian x) run ws q before past come e = absurd (true≢false e)
  come_to_end (Start x) run ws q before past come e = absurd (true≢false e)
  come_to_end (Step old new start h) run ws q before past come e = absurd (true≢false e)
  come_to_end (End status h) run ws q before past come e =
      record {
        tells = rw append-nil (last refl);
        run = run;
        status = status;
        h = h;
        past = past;
        exchange = come.exchange;
        ours = come.ours;
        still = come.still;
        alone = come.alone;
        lines = rw append-nil (sym come.lines);
        front = [];
        whole = append-nil _;
      }
  come_to_end (Refused why) run ws q before past come e = absurd (true≢false (last_taken come.exchange))

  -- what runs from the next answer on runs from this one on
  one_before :
      (g : After Turn) (before t : List ℕ) → is_question_or_notice g.is.answer ≡ true → Ran c a (replied a g) (before ++ line_of g) t →
      Ran c a g before (line_of g ++ t)
  one_before g before t e r =
      record {
        tells = more e r.tells;
        run = r.run;
        status = r.status;
        h = r.h;
        past = r.past;
        exchange = r.exchange;
        ours = r.ours;
        still = r.still;
        alone = r.alone;
        lines = sym (append_assoc before (line_of g) t) ∙ r.lines;
        front = line_of g ++ r.front;
        whole = ap (λ (u : List ℕ). line_of g ++ u) r.whole ∙ sym (append_assoc (line_of g) r.front _);
      }

  -- k answers more are enough, where they are as many as an exchange can still have
  come_through :
      (k : ℕ) (g : After Turn) (before : List ℕ) (past : List Answer) → Come c a g before past → most c ≤ questions_and_notices past + k →
      Ran c a g before (lines_from (suc k) a g)
  unfolding lines_from
  come_through zero g before past come enough =
      either (λ (t : List ℕ). Ran c a g before (line_of g ++ t)) (is_question_or_notice g.is.answer)
      (λ e. let counted = rw e at (no_longer come.exchange) in absurd (omega arith))
      (λ e. come_to_end g.is.answer g.is.run g.ws g.q before past come e)
  come_through (suc k) g before past come enough =
      either (λ (t : List ℕ). Ran c a g before (line_of g ++ t)) (is_question_or_notice g.is.answer)
      (λ e. let longer : questions_and_notices (g.is.answer ∷ past) ≡ 1 + questions_and_notices past = rw e in
      one_before g before _ e (come_through k (replied a g) (before ++ line_of g) (g.is.answer ∷ past) (come_on g before past come e) (omega arith)))
      (λ e. come_to_end g.is.answer g.is.run g.ws g.q before past come e)

  -- an exchange of a configuration that is accepted has come as far as its beginning
  pub come_to_begin : is_refused (begun c blank_work blank_question).answer ≡ false → Come c a (beginning c blank_work blank_question) [] []
  come_to_begin taken =
      let kept = beginning_keeps_lengths c blank_work blank_question in
      record {
        exchange = begins blank_work blank_question taken;
        left = refl;
        ours = (refl, refl);
        still = tt;
        alone = tt;
        lines = refl;
        works = kept.0 ∙ length-replicate (need max_n) +0;
        asks = kept.1 ∙ length-replicate (8 * max_n) +0;
      }

  -- so the whole run of it
  pub begun_runs : is_refused (begun c blank_work blank_question).answer ≡ false → Ran c a (beginning c blank_work blank_question) [] (run_lines c a)
  begun_runs taken = come_through (most c) (beginning c blank_work blank_question) [] [] (come_to_begin taken) (omega arith)
