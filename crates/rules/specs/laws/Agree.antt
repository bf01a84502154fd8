-- When two outcomes of a call are the same to their callers, whatever else the lent slices held.
use Rattle.std.specs.Prelude.{◌≡◌, List, ℕ, ◌*◌, ◌≤◌, ltb, length, take, Float}
use Rattle.rules.specs.Types.{Turn}
use Rattle.rules.specs.Answers.{written}
use Rattle.rules.specs.State.{After}
use Rattle.rules.specs.Calls.{size, needed}

-- how many places of the question slice the answer of a turn wrote
abbrev pub written_by : After Turn → ℕ
written_by g = written (size g) g.is.answer

-- two question slices for n components: both long enough, or both too short. What they hold is free
abbrev pub Alike : ℕ → List Float → List Float → Type 0
Alike n q q' = ltb (length q) (8 * n) ≡ ltb (length q') (8 * n)

-- the same answer and the same state; the same numbers in the needed places of the workspace, of which both have enough; and
-- the same numbers in the places of the question slice that the answer wrote
pub record Agree (g h : After Turn) : Type 0 where
  pub turns : g.is ≡ h.is
  pub room : needed g ≤ length g.ws
  pub room' : needed g ≤ length h.ws
  pub places : take (needed g) g.ws ≡ take (needed g) h.ws
  pub questions : take (written_by g) g.q ≡ take (written_by g) h.q
