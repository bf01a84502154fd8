-- What the workspace held before the beginning, what stands beyond the needed places, and what the question slice holds at any
-- call changes no answer.
use Rattle.std.specs.Prelude.{List, ◌≤◌, length, Float}
use Rattle.rules.specs.Types.{Turn, Reply}
use Rattle.rules.specs.Places.{need}
use Rattle.rules.specs.State.{After}
use Rattle.rules.specs.laws.Agree.{Alike, Agree}
use Rattle.rules.proofs.laws.AgreeLaws.{begin_agrees, go_on_agrees}
use Rattle.rules.specs.GoOn.{go_on_of}
use Rattle.rules.specs.Calls.{Configuration, beginning, size, Untouched}

module _ (c : Configuration) where
  -- Two callers of the same configuration, call by call, and what each has in hand. They begin with any two workspaces that are long
  -- enough, of one length or not; then each hands back the state that it was left and the workspace, its needed places untouched,
  -- both with the same reply and values. A refused call is a call like any other.
  pub data Twins : After Turn → After Turn → Type 0 where
    begin : (ws ws' q q' : List Float) → need (length c.y0) ≤ length ws → need (length c.y0) ≤ length ws' → Alike (length c.y0) q q'
        → Twins (beginning c ws q) (beginning c ws' q')
    go_on : {g h : After Turn} (r : Reply) (values ws ws' q q' : List Float) → Twins g h → Untouched g ws → Untouched h ws' → Alike (size g) q q'
        → Twins (go_on_of g.is.run r values ws q) (go_on_of h.is.run r values ws' q')

  -- after every call they have the same answer, the same state, the same needed places and the same question
  pub workspace_changes_no_answer : {g h : After Turn} → Twins g h → Agree g h
  workspace_changes_no_answer (begin ws ws' q q' long long' alike) = begin_agrees c ws ws' q q' long long' alike
  workspace_changes_no_answer (go_on r values ws ws' q q' before kept kept' alike) =
      go_on_agrees r values ws ws' q q' (workspace_changes_no_answer before) kept kept' alike
