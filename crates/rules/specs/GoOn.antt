-- Going on: the checks on what is handed back, in their order, then the run from the reply to its next answer.
use Rattle.std.specs.Prelude.{List, ◌++◌, Bool, true, false, not, ◌&&◌, ◌||◌, ℕ, ◌+◌, ◌-◌, ◌*◌, leb, ltb, eqb, length, take, drop, get_or, Float, Option, Some, None, Result, Ok, Err, ⊤}
use Rattle.loops.specs.Choice.{when◌then◌else◌}
use Rattle.loops.specs.Loop.{loop}
use Rattle.rules.specs.Types.{Reply, Awaited, Damaged, HasEnded, WrongReply, SliceShort, Progress, Run, Turn, Refused, Refusal}
use Rattle.matrix.specs.Size.{max_n}
use Rattle.rules.specs.Places.{need}
use Rattle.rules.specs.State.{After, after}
use Rattle.rules.specs.Replies.{awaits_newton, is_ended, wants}
use Rattle.rules.specs.Reply.{replied}

-- ---- damage, exactly the list of docs/RULES.md

-- one of the first n - 1 pivots at or above n
unfoldable pub pivot_turn : ℕ → List ℕ → ℕ → Bool → Bool
pivot_turn n pivot i found = found || leb n (get_or pivot i 0)

unfoldable pub pivot_outside : ℕ → List ℕ → Bool
pivot_outside n pivot = loop 0 (n - 1) (pivot_turn n pivot) false

-- limits outside 1..1,000,000 and 1..64
unfoldable pub limits_damaged : Progress → Bool
limits_damaged p =
    not (leb 1 p.limits.steps && leb p.limits.steps 1000000) || not (leb 1 p.limits.newton && leb p.limits.newton 64)

-- T above the limit; A + rejected above T
unfoldable pub steps_damaged : Progress → Bool
steps_damaged p = ltb p.limits.steps p.steps.total || ltb p.steps.total (p.steps.accepted + p.steps.rejected)

-- besides: equal steps above A; factorings above T; Jacobians above 2 + T; derivatives above 2 + m T + A; `start` above 1
unfoldable pub counters_damaged : Progress → Bool
counters_damaged p =
    steps_damaged p ||
    (ltb p.steps.accepted p.pace.equal_steps ||
    (ltb p.steps.total p.evals.lu ||
    (ltb (2 + p.steps.total) p.evals.jac ||
    (ltb (2 + p.limits.newton * p.steps.total + p.steps.accepted) p.evals.ode ||
    ltb 1 p.evals.start))))

-- for n above 0
unfoldable pub damaged_above0 : Awaited → Progress → Bool
damaged_above0 w p =
    not (leb 1 p.order && leb p.order 5) ||
    (limits_damaged p ||
    (pivot_outside p.n p.pivot ||
    (counters_damaged p ||
    (awaits_newton w && leb p.limits.newton p.newton.iters))))

unfoldable pub damaged : Awaited → Progress → Bool
damaged w p = when ltb max_n p.n then true else when eqb p.n 0 then not (is_ended w) else damaged_above0 w p

-- ---- the checks and the whole

-- the reply's kind, then the slices
abbrev pub count_checked : Option ℕ → ℕ → ℕ → ℕ → ℕ → Result ⊤ Refusal
count_checked None n values room questions = Err WrongReply
count_checked (Some k) n values room questions =
    when (ltb room (need n) || (ltb questions (8 * n) || ltb values k)) then Err SliceShort else Ok tt

unfoldable pub go_checked : Awaited → Progress → Reply → ℕ → ℕ → ℕ → Result ⊤ Refusal
go_checked w p r values room questions =
    when damaged w p then Err Damaged
    else when is_ended w then Err HasEnded
    else count_checked (wants p.n w r) p.n values room questions

-- the run from the reply to its next answer, on the needed places alone: what lies beyond them stays
unfoldable pub go_within : Awaited → Progress → Reply → List Float → List Float → List Float → After Turn
go_within w p r values ws q =
    let g = replied w p r values (take (need p.n) ws) q in
    after g.is (g.ws ++ drop (need p.n) ws) g.q

-- a refusal hands back the state that it was given
abbrev pub go_turn : Run → Reply → List Float → Result ⊤ Refusal → List Float → List Float → After Turn
go_turn run r values (Err why) ws q = after (record { answer = Refused why; run = run }) ws q
go_turn run r values (Ok tt) ws q = go_within run.awaited run.at r values ws q

unfoldable pub go_on_of : Run → Reply → List Float → List Float → List Float → After Turn
go_on_of run r values ws q = go_turn run r values (go_checked run.awaited run.at r (length values) (length ws) (length q)) ws q
