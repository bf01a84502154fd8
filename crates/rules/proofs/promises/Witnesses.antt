-- That nothing is promised of what cannot be: the first job of docs/JOB-FORMAT.md is an exchange with every solver that meets the contracts,
-- with demand 3's counters at its end; two callers of it whose slices differ are twins from the beginning to that end, and a guarded and an
-- unguarded one stay abreast to it; and a solver that invents its counters can be had, so that to rule it out says something.
use Rattle.std.specs.Prelude.{◌≡◌, refl, List, [], ◌∷◌, true, ℕ, ◌*◌, ◌≤◌, ltb, length, replicate}
use Rattle.std.proofs.Common.{sym, ap, ◌∙◌, subst, arith}
use Rattle.std.proofs.lemmas.List.{length-replicate}
use Rattle.std.specs.Float.{nan}
use Rattle.rules.specs.Types.{Answer, Derivative, Jacobian, Start, Step, End, Success, Ended, Run, Turn}
use Rattle.rules.specs.Places.{need}
use Rattle.rules.specs.State.{total+1, turn, After, after}
use Rattle.rules.specs.Answers.{is_refused}
use Rattle.rules.specs.Begin.{nothing}
use Rattle.rules.specs.GoOn.{go_on_of}
use Rattle.rules.specs.Calls.{Configuration, beginning, going_on, size}
use Rattle.rules.specs.History.{Exchange}
use Rattle.rules.specs.laws.Agree.{Alike}
use Rattle.rules.proofs.promises.Demand3.{Counted}
use Rattle.rules.proofs.promises.Workspace.{Twins, begin, go_on, workspace_changes_no_answer}
use Rattle.rules.specs.Beside.{call_beside}
use Rattle.rules.specs.Guarding.{guarded_as}
use Rattle.rules.proofs.promises.Guarded.{Abreast, both_begin, both_go_on, abreast_agrees, same_until_a_nan}
use Rattle.rules.proofs.promises.Solver.{Solver, Meets, ours, Line, line, Replied, next, transcript_same}
use Rattle.rules.proofs.promises.AnySolver.{ExchangeWith, has_begun, exchange_is_ours, every_solver_counts, last_of, answers_of, AllTaken, transcript_is_exchanged, last_line, last_is_told}
use Rattle.rules.proofs.promises.Printed.{nought, half, one, job, transcript_of_job, replies, lines, NoNan, computed}
use Rattle.rules.proofs.promises.Impostors.{line_at, Miscounts, no_miscounter}

pub ours_meets : Meets ours
ours_meets = record { begins = λ c ws q. refl; goes_on = λ run call. refl }

-- ---- the printed job as an exchange

-- its answers, the last one first
abbrev pub history : List Answer
history =
    End Success half ∷
    Step half one half half ∷
    Derivative one ∷
    Step nought half nought half ∷
    Derivative half ∷
    Start nought ∷
    Jacobian nought ∷
    Derivative nought ∷ []

-- its end: the exchange, the counters as docs/JOB-FORMAT.md prints them, and that they are demand 3's
pub record PrintedExchange (o : Solver) : Type 0 where
  pub run : Run
  pub exchange : ExchangeWith o (job 100000) run history
  pub one_of_ours : Exchange (job 100000) run history
  pub evals : run.at.evals ≡ record { ode = 3; jac = 1; lu = 1; start = 0 }
  pub steps : run.at.steps ≡ record { total = 2; accepted = 2; rejected = 0 }
  pub counted : Counted (job 100000) run history

pub printed_exchange : {o : Solver} → Meets o → PrintedExchange o
printed_exchange {o} m =
    let first = o.begins (job 100000) (replicate 35 nan) (replicate 8 nan) in
    let as_printed : transcript_of_job o 100000 (replies nought) ≡ lines =
    transcript_same m (job 100000) _ _ (replies nought) ∙ computed.printed in
    let taken = subst AllTaken (sym as_printed) (refl, (refl, (refl, (refl, (refl, (refl, (refl, (refl, tt)))))))) in
    let run = (last_of o first (replies nought)).is.run in
    let x = subst (λ (l : List Line). ExchangeWith o (job 100000) run (answers_of l [])) as_printed (transcript_is_exchanged o _ _ (replies nought) taken) in
    let last = last_is_told o first (replies nought) ∙ ap (λ (l : List Line). last_line (line first) l) as_printed in
    record {
      run = run;
      exchange = x;
      one_of_ours = exchange_is_ours m x;
      evals = ap (λ (l : Line). l.evals) last;
      steps = ap (λ (l : Line). l.steps) last;
      counted = every_solver_counts m x refl;
    }

-- ---- two callers of it

-- what the second caller has after the replies: it hands back its own state and workspace, and lends at every call a question slice
-- of ones, as long as the first caller's
abbrev pub second_of : After Turn → After Turn → List Replied → After Turn
second_of g h [] = h
second_of g h (r ∷ replies) = second_of (next ours g r) (go_on_of h.is.run r.0 r.1 h.ws (replicate (length g.q) one)) replies

-- whatever is replied, they stay twins
pub twins_stay : {c : Configuration} {g h : After Turn} → Twins c g h → (replies : List Replied) → Twins c (last_of ours g replies) (second_of g h replies)
twins_stay t [] = t
twins_stay {c} {g} {h} t (r ∷ replies) =
    let a = workspace_changes_no_answer c t in
    let ones = replicate (length g.q) one in
    let room' = subst (λ (u : Turn). need u.run.at.n ≤ length h.ws) a.turns a.room' in
    let alike : Alike (size g) g.q ones = ap (λ (k : ℕ). ltb k (8 * size g)) (sym (length-replicate (length g.q) one)) in
    twins_stay {c = c} {g = next ours g r} {h = go_on_of h.is.run r.0 r.1 h.ws ones} (go_on r.0 r.1 g.ws h.ws g.q ones t (a.room, refl) (room', refl) alike) replies

-- the first begins with 35 and 8 numbers that are NaN, as `transcript_of_job` does; the second with 40 and 8 ones
abbrev pub first_begun : After Turn
first_begun = beginning (job 100000) (replicate 35 nan) (replicate 8 nan)

abbrev pub second_begun : After Turn
second_begun = beginning (job 100000) (replicate 40 one) (replicate 8 one)

-- twins at the job's end, and both are told the same end
pub record PrintedTwins : Type 0 where
  pub twins : Twins (job 100000) (last_of ours first_begun (replies nought)) (second_of first_begun second_begun (replies nought))
  pub first_ends : (last_of ours first_begun (replies nought)).is.answer ≡ End Success half
  pub second_ends : (second_of first_begun second_begun (replies nought)).is.answer ≡ End Success half

pub printed_twins : PrintedTwins
printed_twins =
    let begun : Twins (job 100000) first_begun second_begun =
    begin (replicate 35 nan) (replicate 40 one) (replicate 8 nan) (replicate 8 one) (omega arith) (omega arith) refl in
    let t = twins_stay begun (replies nought) in
    let last = last_is_told ours first_begun (replies nought) ∙ ap (λ (l : List Line). last_line (line first_begun) l) computed.printed in
    let ends = ap (λ (l : Line). l.answer) last in
    record {
      twins = t;
      first_ends = ends;
      second_ends = sym (ap (λ (u : Turn). u.answer) (workspace_changes_no_answer (job 100000) t).turns) ∙ ends;
    }

-- ---- two callers of it, the second guarded

-- whatever is replied, they stay abreast as long as no norm is NaN
pub abreast_stay :
    {c : Configuration} {g h : After Turn} → Abreast c g h → (replies : List Replied) → NoNan g replies →
    Abreast c (last_of ours g replies) (second_of g h replies)
unfolding call_beside
abreast_stay b [] none = b
abreast_stay {c} {g} {h} b (r ∷ replies) none =
    let a = abreast_agrees c b in
    let ones = replicate (length g.q) one in
    let room' = subst (λ (u : Turn). need u.run.at.n ≤ length h.ws) a.turns a.room' in
    let alike : Alike (size g) g.q ones = ap (λ (k : ℕ). ltb k (8 * size g)) (sym (length-replicate (length g.q) one)) in
    abreast_stay {c = c} {g = next ours g r} {h = go_on_of h.is.run r.0 r.1 h.ws ones} (both_go_on r.0 r.1 g.ws h.ws g.q ones b (a.room, refl) (room', refl) alike none.0) replies none.1

abbrev pub guarded_begun : After Turn
guarded_begun = beginning (guarded_as true (job 100000)) (replicate 40 one) (replicate 8 one)

-- abreast at the job's end, and both are told the same end
pub record PrintedAbreast : Type 0 where
  pub abreast : Abreast (job 100000) (last_of ours first_begun (replies nought)) (second_of first_begun guarded_begun (replies nought))
  pub first_ends : (last_of ours first_begun (replies nought)).is.answer ≡ End Success half
  pub guarded_ends : (second_of first_begun guarded_begun (replies nought)).is.answer ≡ End Success half

pub printed_abreast : PrintedAbreast
printed_abreast =
    let taken = ap (λ (l : List Line). is_refused (line_at 0 l).answer) computed.printed in
    let begun : Abreast (job 100000) first_begun guarded_begun =
    both_begin (replicate 35 nan) (replicate 40 one) (replicate 8 nan) (replicate 8 one) (omega arith) (omega arith) refl taken in
    let b = abreast_stay begun (replies nought) computed.no_nan in
    let ends = printed_twins.first_ends in
    record {
      abreast = b;
      first_ends = ends;
      guarded_ends = sym (same_until_a_nan (job 100000) b).answers ∙ ends;
    }

-- ---- an inventor

-- it ends every beginning at once, and tells of an attempt that was neither accepted nor rejected
abbrev pub inventor : Solver
inventor = record { begins = λ c ws q. after (turn (End Success nought) Ended (total+1 nothing)) ws q; goes_on = going_on }

pub inventor_miscounts : Miscounts inventor
inventor_miscounts =
    record {
      configuration = job 100000;
      run = record { awaited = Ended; at = total+1 nothing };
      last = End Success nought;
      before = [];
      exchange = has_begun [] [] refl;
      told = refl;
      wrong = λ counted shown. omega (arith, counted.attempts);
    }

-- so it does not meet the contracts
pub inventor_falls : Meets inventor → ⊥
inventor_falls m = no_miscounter m inventor_miscounts
