-- What a Newton derivative's reply does to a state's numbers where the attempt is rejected, whatever the floats are.
use Rattle.std.specs.Prelude.{◌≡◌, List, Float}
use Rattle.std.proofs.Common.{arith}
use Rattle.loops.specs.laws.ChoiceLaws.{either}
use Rattle.rules.specs.Types.{Progress}
use Rattle.rules.specs.State.{ode+1, After}
use Rattle.rules.specs.laws.Moved.{Moved}
use Rattle.rules.proofs.laws.MovedLaws.{moved_on, pace_moves, rejected_moves, ode_moves}
use Rattle.rules.specs.Attempt.{Tried, rejected, says}
use Rattle.rules.specs.Step.{error_rejected, step_accepted, judged, newton_failed, newton_again, iterated, newton_replied}

-- an attempt that goes back to the main loop was rejected once more
abbrev Back : Progress → Tried → Type 0
Back p (rejected r) = Moved p r 0 0 0 0 0 1 p.order
Back p (says t) = Unit

back : {p : Progress} {a : Tried} {r : Progress} → Back p a → a ≡ rejected r → Moved p r 0 0 0 0 0 1 p.order
back {a = a} b e = rw e at b

-- only the error's test rejects: an accepted step says something
judged_back : (p : Progress) (ws q : List Float) → Back p (judged p ws q).is
unfolding judged error_rejected step_accepted
judged_back p ws q = either (λ (a : After Tried). Back p a.is) _ (λ _. moved_on (pace_moves p (omega arith)) (rejected_moves _)) (λ _. tt)

-- as do another iteration and the Jacobian's question
iterated_back : (p : Progress) (norm : Float) (ws q : List Float) → Back p (iterated p norm ws q).is
unfolding iterated newton_failed newton_again
iterated_back p norm ws q =
    either (λ (a : After Tried). Back p a.is) _
    (λ _. judged_back p ws q)
    (λ _. either (λ (a : After Tried). Back p a.is) _ (λ _. tt) (λ _. tt))

-- the reply is counted
pub reply_back :
    (p : Progress) (values ws q : List Float) {r : Progress} → (newton_replied p values ws q).is ≡ rejected r → Moved p r 1 0 0 0 0 1 p.order
unfolding newton_replied
reply_back p values ws q e = moved_on (ode_moves p) (back (iterated_back (ode+1 p) _ _ q) e)
