-- What is handed over to a beginning and to a call, and what comes back: a configuration and a call as one thing each, for what is
-- said of whole runs.
use Rattle.std.specs.Prelude.{◌≡◌, List, ℕ, ◌≤◌, length, take, Float, Result, ⊤}
use Rattle.loops.specs.Arithmetic.{◌⊖◌}
use Rattle.number.specs.Helpers.{signum_of}
use Rattle.rules.specs.Types.{Tolerance, Reply, Run, Turn, Refusal}
use Rattle.rules.specs.Places.{need}
use Rattle.rules.specs.State.{After}
use Rattle.rules.specs.Checks.{checked}
use Rattle.rules.specs.Begin.{begin_run, begin_turn, begin_of}
use Rattle.rules.specs.GoOn.{go_checked, go_within, go_turn, go_on_of}
use Rattle.rules.specs.declared.settings.BDF.{BDF}

-- ---- beginning

-- a configuration: all that a beginning is given besides the workspace and the question slice
pub record Configuration : Type 0 where
  pub settings : BDF
  pub x0 : Float
  pub y0 : List Float
  pub xend : Float
  pub rtol : Tolerance
  pub rtols : List Float
  pub atol : Tolerance
  pub atols : List Float

-- the way that it goes, as 1.0 or -1.0: the sign of xend - x0 (NaN where that is NaN)
abbrev pub direction : Configuration → Float
direction c = signum_of (c.xend ⊖ c.x0)

-- the turn and both slices that a beginning leaves
abbrev pub beginning : Configuration → List Float → List Float → After Turn
beginning c ws q = begin_of c.settings c.x0 c.y0 c.xend c.rtol c.rtols c.atol c.atols ws q

-- what the checks say to it; what it leaves, by what they say; and where they pass
abbrev pub beginning_checked : Configuration → List Float → List Float → Result ⊤ Refusal
beginning_checked c ws q =
    checked c.settings (length c.y0) (direction c) c.rtol c.rtols c.atol c.atols (length ws) (length q)

abbrev pub beginning_turn : Configuration → Result ⊤ Refusal → List Float → List Float → After Turn
beginning_turn c k ws q = begin_turn c.settings c.x0 c.y0 c.xend c.rtol c.rtols c.atol c.atols k ws q

abbrev pub beginning_passed : Configuration → List Float → List Float → After Turn
beginning_passed c ws q = begin_run c.settings c.x0 c.y0 c.xend c.rtol c.rtols c.atol c.atols ws q

-- ---- going on

-- a call: all that going on is given besides the state
pub record Call : Type 0 where
  pub reply : Reply
  pub values : List Float
  pub ws : List Float
  pub q : List Float

abbrev pub going_on : Run → Call → After Turn
going_on run call = go_on_of run call.reply call.values call.ws call.q

abbrev pub going_on_checked : Run → Call → Result ⊤ Refusal
going_on_checked run call = go_checked run.awaited run.at call.reply (length call.values) (length call.ws) (length call.q)

abbrev pub going_on_turn : Run → Call → Result ⊤ Refusal → After Turn
going_on_turn run call k = go_turn run call.reply call.values k call.ws call.q

abbrev pub going_on_passed : Run → Call → After Turn
going_on_passed run call = go_within run.awaited run.at call.reply call.values call.ws call.q

-- ---- from one call to the next

-- how many components the state of a turn has, and how many places of the workspace it needs
abbrev pub size : After Turn → ℕ
size g = g.is.run.at.n

abbrev pub needed : After Turn → ℕ
needed g = need (size g)

-- a workspace handed back after g: its needed places are as g left them. What stands beyond, and how much, is the caller's
abbrev pub Untouched : After Turn → List Float → Type 0
Untouched g ws = (needed g ≤ length ws) × (take (needed g) ws ≡ take (needed g) g.ws)
