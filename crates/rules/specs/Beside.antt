-- A state beside another: the same but for what its stages do not read, or only one of them. Of the fields of a state that is `guarded`
-- alone, which only the judgement of a step reads; a further field of that kind goes here.
use Rattle.std.specs.Prelude.{Bool, ℕ}
use Rattle.rules.specs.Types.{Progress, Run, Turn}
use Rattle.rules.specs.State.{After, after}
use Rattle.rules.specs.Attempt.{Tried, rejected, says}
use Rattle.rules.specs.Begin.{guard_of}

-- what becomes of each such field
pub record Unread : Type 0 where
  pub guarded : ℕ → ℕ

abbrev pub guard_set_to : Bool → Unread
guard_set_to b = record { guarded = λ _. guard_of b }

-- ---- the state so changed, and the same in a run, in a turn, in what an attempt came to

abbrev pub beside : Unread → Progress → Progress
beside u p =
    record {
      n = p.n;
      limits = record { steps = p.limits.steps; newton = p.limits.newton; guarded = u.guarded p.limits.guarded };
      span = p.span;
      evals = p.evals;
      steps = p.steps;
      order = p.order;
      x = p.x;
      pace = p.pace;
      aim = p.aim;
      current_c = p.current_c;
      newton = p.newton;
      pivot = p.pivot;
    }

abbrev pub run_beside : Unread → Run → Run
run_beside u r = record { awaited = r.awaited; at = beside u r.at }

abbrev pub turn_beside : Unread → Turn → Turn
turn_beside u t = record { answer = t.answer; run = run_beside u t.run }

abbrev pub tried_beside : Unread → Tried → Tried
tried_beside u (rejected p) = rejected (beside u p)
tried_beside u (says t) = says (turn_beside u t)

-- ---- and in what a stage or a call leaves: both slices are the same

unfoldable pub attempt_beside : Unread → After Tried → After Tried
attempt_beside u a = after (tried_beside u a.is) a.ws a.q

unfoldable pub call_beside : Unread → After Turn → After Turn
call_beside u g = after (turn_beside u g.is) g.ws g.q
