-- Solvers that only look like one, and why none of them meets the contracts: each is a property of a solver's two functions, and
-- each is refuted by an exchange that the contracts fix, one of those in Printed.antt; invented counters by demand 3 besides.
use Rattle.std.specs.Prelude.{◌≡◌, refl, true, List, [], ◌∷◌, ◌⊎◌, ℕ, get_or, Float}
use Rattle.std.proofs.Common.{sym, ap, ◌∙◌, subst, inl, inr, arith}
use Rattle.std.proofs.lemmas.Bool.{false≢true}
use Rattle.std.specs.Float.{nan, inf, fin}
use Rattle.rules.specs.Types.{Evals, Steps, Answer, Derivative, Jacobian, Start, Step, End, Refused, Run}
use Rattle.rules.specs.Answers.{is_step, is_end, is_refused, NoticeOrEnd}
use Rattle.rules.specs.Calls.{Configuration, Call}
use Rattle.rules.proofs.promises.Solver.{Solver, Meets, Replied, Line, ours, later, transcript, transcript_same}
use Rattle.rules.proofs.promises.Demand3.{Counted, StartShown}
use Rattle.rules.proofs.promises.AnySolver.{ExchangeWith, every_solver_counts, every_solver_shows_the_start}
use Rattle.rules.proofs.promises.Printed.{nought, one, job, transcript_of_job, replies, lines, fewer, fewer_lines, rising_lines, computed}

-- what stands past a transcript's end: neither a step nor an end, so that nothing is claimed of it
abbrev no_line : Line
no_line =
    record {
      answer = Derivative nought;
      y = [];
      evals = record { ode = 0; jac = 0; lu = 0; start = 0 };
      steps = record { total = 0; accepted = 0; rejected = 0 };
    }

-- line k of a transcript
abbrev pub line_at : ℕ → List Line → Line
line_at k l = get_or l k no_line

module _ {o : Solver} (m : Meets o) where
  -- the printed exchanges are those of every solver that meets the contracts
  as_printed : transcript_of_job o 100000 (replies nought) ≡ lines
  as_printed = transcript_same m (job 100000) _ _ (replies nought) ∙ computed.printed

  as_printed_one_step : transcript_of_job o 1 fewer ≡ fewer_lines
  as_printed_one_step = transcript_same m (job 1) _ _ fewer ∙ computed.one_step

  as_rising : transcript_of_job o 100000 (replies one) ≡ rising_lines
  as_rising = transcript_same m (job 100000) _ _ (replies one) ∙ computed.rising

-- ---- a refuser of everything

abbrev pub RefusesBeginnings : Solver → Type 0
RefusesBeginnings o = (c : Configuration) (ws q : List Float) → is_refused (o.begins c ws q).is.answer ≡ true

abbrev pub RefusesReplies : Solver → Type 0
RefusesReplies o = (run : Run) (call : Call) → is_refused (o.goes_on run call).is.answer ≡ true

pub no_refuser_of_beginnings : {o : Solver} → Meets o → RefusesBeginnings o → ⊥
no_refuser_of_beginnings m r = false≢true (sym (ap (λ (l : List Line). is_refused (line_at 0 l).answer) (as_printed m)) ∙ r (job 100000) _ _)

pub no_refuser_of_replies : {o : Solver} → Meets o → RefusesReplies o → ⊥
unfolding later
no_refuser_of_replies m r = false≢true (sym (ap (λ (l : List Line). is_refused (line_at 1 l).answer) (as_printed m)) ∙ r _ _)

-- ---- a stand-still: the state comes back as it was handed in, whatever is answered and written

abbrev pub StandsStill : Solver → Type 0
StandsStill o = (run : Run) (call : Call) → (o.goes_on run call).is.run ≡ run

-- the first derivative is counted
pub no_stand_still : {o : Solver} → Meets o → StandsStill o → ⊥
unfolding later
no_stand_still {o} m still =
    let at_first = ap (λ (l : List Line). (line_at 0 l).evals.ode) (as_printed m) in
    let then_one = ap (λ (l : List Line). (line_at 1 l).evals.ode) (as_printed m) in
    let same = ap (λ (r : Run). r.at.evals.ode) (still (o.begins (job 100000) _ _).is.run _) in
    let impossible : ◌≡◌ {A = ℕ} 0 1 = sym at_first ∙ sym same ∙ then_one in
    omega arith

-- ---- a fixed reply: one answer to whatever it does not refuse

abbrev pub OneOrRefused : Answer → Answer → Type 0
OneOrRefused a b = (b ≡ a) ⊎ (is_refused b ≡ true)

abbrev pub FixedReply : Solver → Type 0
FixedReply o = (a : Answer) × ((run : Run) (call : Call) → OneOrRefused a (o.goes_on run call).is.answer)

-- the first derivative's values are answered by the Jacobian's question, the Jacobian's by the start notice
pub no_fixed_reply : {o : Solver} → Meets o → FixedReply o → ⊥
unfolding later
no_fixed_reply m (a, fixed) = differ (fits 1 (as_printed m) (fixed _ _)) (fits 2 (as_printed m) (fixed _ _))
  where
    fits : (k : ℕ) {l n : List Line} → l ≡ n → OneOrRefused a (line_at k l).answer → OneOrRefused a (line_at k n).answer
    fits k e f = subst (λ (l : List Line). OneOrRefused a (line_at k l).answer) e f

    jacobian_is_no_notice : Jacobian nought ≡ Start nought → ⊥
    jacobian_is_no_notice e = let z : ◌≡◌ {A = ℕ} 0 1 = cc in omega arith

    differ : OneOrRefused a (Jacobian nought) → OneOrRefused a (Start nought) → ⊥
    differ (inl e) (inl f) = jacobian_is_no_notice (e ∙ sym f)
    differ (inl e) (inr f) = false≢true f
    differ (inr e) f = false≢true e

-- ---- one that solves the first attempt and tells its values again: in one exchange all step notices tell the same

-- `told` is what is told again: the answer's x and h, or y
abbrev pub Repeats : {A : Type 0} → (Line → A) → Solver → Type 0
Repeats told o =
    (c : Configuration) (ws q : List Float) (replies : List Replied) (j k : ℕ) →
    let l = transcript o c ws q replies in
    is_step (line_at j l).answer ≡ true → is_step (line_at k l).answer ≡ true → told (line_at j l) ≡ told (line_at k l)

-- so the two steps of the rising job would tell the same
repeated : {A : Type 0} {o : Solver} (told : Line → A) → Meets o → Repeats told o → told (line_at 4 rising_lines) ≡ told (line_at 6 rising_lines)
repeated told m r =
    subst (λ (l : List Line). is_step (line_at 4 l).answer ≡ true → is_step (line_at 6 l).answer ≡ true → told (line_at 4 l) ≡ told (line_at 6 l))
    (as_rising m) (r (job 100000) _ _ (replies one) 4 6) refl refl

-- the digits of a number
abbrev digits : Float → ℕ
digits nan = 0
digits (inf s) = 0
digits (fin s m e) = m

-- where a step started; of the others any number
abbrev start : Answer → Float
start (Derivative x) = x
start (Jacobian x) = x
start (Start x) = x
start (Step old new from h) = from
start (End status h) = h
start (Refused why) = nought

pub no_repeater_of_times : {o : Solver} → Meets o → Repeats (λ l. l.answer) o → ⊥
no_repeater_of_times m r = let same : ◌≡◌ {A = ℕ} 0 1 = ap (λ (a : Answer). digits (start a)) (repeated (λ l. l.answer) m r) in omega arith

pub no_repeater_of_values : {o : Solver} → Meets o → Repeats (λ l. l.y) o → ⊥
no_repeater_of_values m r = let same : ◌≡◌ {A = ℕ} 3 1 = ap (λ (v : List Float). digits (get_or v 0 nan)) (repeated (λ l. l.y) m r) in omega arith

-- ---- invented counters

-- one that tells counters which are not demand 3's, or a `start` that is not the history's, at a notice or at an end of some exchange
pub record Miscounts (o : Solver) : Type 0 where
  pub configuration : Configuration
  pub run : Run
  pub last : Answer
  pub before : List Answer
  pub exchange : ExchangeWith o configuration run (last ∷ before)
  pub told : NoticeOrEnd last
  pub wrong : Counted configuration run (last ∷ before) → StartShown configuration run (last ∷ before) → ⊥

pub no_miscounter : {o : Solver} → Meets o → Miscounts o → ⊥
no_miscounter m x = x.wrong (every_solver_counts m x.exchange x.told) (every_solver_shows_the_start m x.exchange)

-- where a solver meets the contracts, its counters are ours at every line of every exchange
pub counters_are_ours : {o : Solver} → Meets o → (c : Configuration) (ws q : List Float) (replies : List Replied) (k : ℕ)
    → let l = transcript o c ws q replies in let n = transcript ours c ws q replies in
    ((line_at k l).evals ≡ (line_at k n).evals) × ((line_at k l).steps ≡ (line_at k n).steps)
counters_are_ours m c ws q replies k =
    let same = transcript_same m c ws q replies in
    (ap (λ (l : List Line). (line_at k l).evals) same, ap (λ (l : List Line). (line_at k l).steps) same)

-- an inventor has the same ones at every end, whatever was asked; `counters` reads the evaluations or the steps
abbrev pub Invents : {A : Type 0} → (Line → A) → Solver → Type 0
Invents {A} counters o =
    (always : A) × ((c : Configuration) (ws q : List Float) (replies : List Replied) (k : ℕ) →
    let l = transcript o c ws q replies in is_end (line_at k l).answer ≡ true → counters (line_at k l) ≡ always)

-- so the job's two ends, after two steps and after one, would have the same
invented : {A : Type 0} {o : Solver} (counters : Line → A) → Meets o → Invents counters o
    → counters (line_at 7 lines) ≡ counters (line_at 5 fewer_lines)
invented {A} counters m (always, same) =
    subst (At 7) (as_printed m) (same (job 100000) _ _ (replies nought) 7) refl
    ∙ sym (subst (At 5) (as_printed_one_step m) (same (job 1) _ _ fewer 5) refl)
  where
    At : ℕ → List Line → Type 0
    At k l = is_end (line_at k l).answer ≡ true → counters (line_at k l) ≡ always

pub no_inventor_of_evaluations : {o : Solver} → Meets o → Invents (λ l. l.evals) o → ⊥
no_inventor_of_evaluations m i = let same : ◌≡◌ {A = ℕ} 3 2 = ap (λ (e : Evals). e.ode) (invented (λ l. l.evals) m i) in omega arith

pub no_inventor_of_steps : {o : Solver} → Meets o → Invents (λ l. l.steps) o → ⊥
no_inventor_of_steps m i = let same : ◌≡◌ {A = ℕ} 2 1 = ap (λ (t : Steps). t.total) (invented (λ l. l.steps) m i) in omega arith
