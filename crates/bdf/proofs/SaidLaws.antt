-- What a stage that may be rejected leaves: a state that is ready for the next attempt, and what is left to do.
use Rattle.std.proofs.Common.{◌≡◌, List, length, Option, Some, None, Float, ap, refl}
use Rattle.rules.specs.declared.types.Progress.{Progress}
use Rattle.rules.specs.State.{After, after}
use Rattle.rules.specs.laws.Ready.{Ready, Awake}
use Rattle.rules.specs.Attempt.{Tried, attempt, rest}
use Rattle.rules.specs.Step.{newton_replied}
use Rattle.rules.specs.Reply.{newton_turn}
use Rattle.rules.proofs.laws.MainLoopLaws.{ready_after}
use Rattle.rules.proofs.laws.ReplyLaws.{replied_ready}
use Rattle.bdf.specs.declared.said.Said.{Said}
use Rattle.bdf.specs.Said.{tried, left_over, Prepared}

-- a Newton reply
pub newton_prepared :
    {p : Progress} {ws q v u : List Float} (o : Option Said) (r : Progress) (values : List Float) → Ready p ws q → Awake p →
    after (tried o r) v u ≡ newton_replied p values ws q → length v ≡ length ws → length u ≡ length q → Prepared o r v u
newton_prepared None r values i w e f g = replied_ready i w values e f g
newton_prepared (Some s) r values i w e f g = tt

pub newton_rest :
    {v u : List Float} (o : Option Said) (p r : Progress) (values ws q : List Float) → after (tried o r) v u ≡ newton_replied p values ws q →
    left_over o r v u ≡ newton_turn p values ws q
unfolding newton_turn
newton_rest o p r values ws q e = ap (λ (a : After Tried). rest a.is a.ws a.q) e

-- an attempt
pub attempt_prepared :
    {p : Progress} {ws q v u : List Float} (o : Option Said) (r : Progress) → Ready p ws q → after (tried o r) v u ≡ attempt p ws q →
    length v ≡ length ws → length u ≡ length q → Prepared o r v u
attempt_prepared None r i e f g = ready_after i e refl f g
attempt_prepared (Some s) r i e f g = tt
