-- `reply::first_step`: by whether the first step is given. Assumes nothing.
use Rattle.std.proofs.Common.{◌≡◌, List, Option, Some, None, Float}
use Rattle.number.specs.Helpers.{abs_of}
use Rattle.rules.specs.declared.types.Progress.{Progress}
use Rattle.rules.specs.declared.types.Turn.{Turn}
use Rattle.rules.specs.State.{After}
use Rattle.rules.specs.Reply.{first_step, hinit_asks, started}
use Rattle.bdf.proofs.reply.first_step.Goals as goal

-- the two ways, over a setting that is a variable
when_unset : (p : Progress) (ws q : List Float) {s : Option Float} {a : After Turn} → s ≡ None → a ≡ hinit_asks p ws q → a ≡ first_step p s ws q
unfolding first_step
when_unset p ws q e h = rw e h

when_given : (p : Progress) (ws q : List Float) {s : Option Float} {h : Float} {a : After Turn} → s ≡ Some h → a ≡ started p (abs_of h) ws q → a ≡ first_step p s ws q
unfolding first_step
when_given p ws q e h = rw e h

pub returns-in-None : goal.returns-in-None
returns-in-None c = when_unset _ _ _ c.in-None.is c.hinit_asks.ensures

pub returns-in-Some : goal.returns-in-Some
returns-in-Some c = when_given _ _ _ c.in-Some.is (rw c.abs.ensures at c.start.ensures)
