-- What a stage says, as the definitions have it: with the state that it left.
use Rattle.std.specs.Prelude.{List, Float, Option, Some, None}
use Rattle.rules.specs.declared.types.Progress.{Progress}
use Rattle.rules.specs.declared.types.Turn.{Turn}
use Rattle.rules.specs.State.{After}
use Rattle.rules.specs.laws.Ready.{Ready}
use Rattle.rules.specs.Attempt.{Tried, rejected, says, rest}
use Rattle.bdf.specs.declared.said.Said.{Said}

-- the turn of a stage that always says something
abbrev pub turn_of : Said → Progress → Turn
turn_of s p = record { answer = s.answer; run = record { awaited = s.awaited; at = p } }

-- rejected where nothing was said
abbrev pub tried : Option Said → Progress → Tried
tried None p = rejected p
tried (Some s) p = says (turn_of s p)

-- what is left to do after it
abbrev pub left_over : Option Said → Progress → List Float → List Float → After Turn
left_over o p ws q = rest (tried o p) ws q

-- where nothing was said the state is ready for the next attempt
abbrev pub Prepared : Option Said → Progress → List Float → List Float → Type 0
Prepared None p ws q = Ready p ws q
Prepared (Some s) p ws q = Unit
