-- What a caller knows of where a run is, from what was told and given; and when a run has arrived, and when its step is stuck. The
-- words in which proofs/promises/EndMeans.antt says what an end means.
--
-- x and y are known by what said them last: the configuration (x0 and y0), a notice, which tells them, or a reply Modified, which
-- gives them. Questions, ends and refusals say nothing of them: a derivative is asked at other places than where the run is.
use Rattle.std.specs.Prelude.{◌≡◌, List, [], ◌∷◌, Bool, true, false, ◌⊎◌, ℕ, length, take, Float}
use Rattle.std.specs.Float.Ieee
use Rattle.number.specs.Helpers.{abs_of}
use Rattle.loops.specs.Arithmetic.{◌⊕◌, ◌⊖◌, ◌⊗◌, +0}
use Rattle.rules.specs.Types.{Turn, Run, Reply, Values, Continue, Interrupt, Modified, Answer, Derivative, Jacobian, Start, Step, End, Refused}
use Rattle.rules.specs.Literals.{min_positive, tenth}
use Rattle.rules.specs.State.{After}
use Rattle.rules.specs.Answers.{is_notice}
use Rattle.rules.specs.Calls.{Configuration, beginning, going_on, Untouched}
use Rattle.rules.specs.History.{called, Exchange, begins, goes_on, is_refused_call}

-- ---- after one answer, one reply

-- x after an answer, where it was x before: a notice tells it
abbrev pub told_x : Answer → Float → Float
told_x (Derivative z) x = x
told_x (Jacobian z) x = x
told_x (Start z) x = z
told_x (Step old new start h) x = new
told_x (End status h) x = x
told_x (Refused why) x = x

-- y of n components, where it was v before: a notice tells it in the first n places of the question slice q
abbrev pub told_y : ℕ → Answer → List Float → List Float → List Float
told_y n (Derivative z) q v = v
told_y n (Jacobian z) q v = v
told_y n (Start z) q v = take n q
told_y n (Step old new start h) q v = take n q
told_y n (End status h) q v = v
told_y n (Refused why) q v = v

-- x after a reply: a modification gives it
abbrev pub given_x : Reply → Float → Float
given_x Values x = x
given_x Continue x = x
given_x Interrupt x = x
given_x (Modified z) x = z

-- y after a reply: a modification gives it in its first n values
abbrev pub given_y : ℕ → Reply → List Float → List Float → List Float
given_y n Values values v = v
given_y n Continue values v = v
given_y n Interrupt values v = v
given_y n (Modified z) values v = take n values

abbrev pub is_modified : Reply → Bool
is_modified Values = false
is_modified Continue = false
is_modified Interrupt = false
is_modified (Modified z) = true

-- ---- over a whole exchange. A refused call says nothing, whatever was handed over with it

-- x as it was last told or given
abbrev pub known_x : {c : Configuration} {run : Run} {h : List Answer} → Exchange c run h → Float
known_x {c} (begins ws q e) = c.x0
known_x (goes_on {run = run} ex call e) = told_x (called run call).answer (given_x call.reply (known_x ex))
known_x (is_refused_call ex call e) = known_x ex

-- y as it was last told or given
abbrev pub known_y : {c : Configuration} {run : Run} {h : List Answer} → Exchange c run h → List Float
known_y {c} (begins ws q e) = c.y0
known_y {c} (goes_on {run = run} ex call e) =
    let n = length c.y0 in
    told_y n (called run call).answer (going_on run call).q (given_y n call.reply call.values (known_y ex))
known_y (is_refused_call ex call e) = known_y ex

-- x as the last notice of a history told it, and x0 before there was one
abbrev pub last_told_x : List Answer → Float → Float
last_told_x [] x0 = x0
last_told_x (a ∷ h) x0 = told_x a (last_told_x h x0)

-- y as the last notice told it, and y0 before there was one
abbrev pub last_told_y : {c : Configuration} {run : Run} {h : List Answer} → Exchange c run h → List Float
last_told_y {c} (begins ws q e) = c.y0
last_told_y {c} (goes_on {run = run} ex call e) = told_y (length c.y0) (called run call).answer (going_on run call).q (last_told_y ex)
last_told_y (is_refused_call ex call e) = last_told_y ex

-- nothing was modified since the last notice
abbrev pub StillAsTold : {c : Configuration} {run : Run} {h : List Answer} → Exchange c run h → Type 0
StillAsTold (begins ws q e) = Unit
StillAsTold (goes_on {run = run} ex call e) =
    (is_notice (called run call).answer ≡ true) ⊎ (StillAsTold ex × (is_modified call.reply ≡ false))
StillAsTold (is_refused_call ex call e) = StillAsTold ex

-- the reply of the last call that was not refused is r
abbrev pub LastReply : {c : Configuration} {run : Run} {h : List Answer} → Exchange c run h → Reply → Type 0
LastReply (begins ws q e) r = ⊥
LastReply (goes_on ex call e) r = call.reply ≡ r
LastReply (is_refused_call ex call e) r = LastReply ex r

-- ---- the workspace

-- what the last call left: its turn and both slices
abbrev pub leaves : {c : Configuration} {run : Run} {h : List Answer} → Exchange c run h → After Turn
leaves {c} (begins ws q e) = beginning c ws q
leaves (goes_on {run = run} ex call e) = going_on run call
leaves (is_refused_call {run = run} ex call e) = going_on run call

-- every call was handed the workspace as the one before left it, as far as it is needed; a refused call too, since it hands back the
-- workspace that it was given
abbrev pub LeftAlone : {c : Configuration} {run : Run} {h : List Answer} → Exchange c run h → Type 0
LeftAlone (begins ws q e) = Unit
LeftAlone (goes_on ex call e) = LeftAlone ex × Untouched (leaves ex) call.ws
LeftAlone (is_refused_call ex call e) = LeftAlone ex × Untouched (leaves ex) call.ws

-- ---- why a run ends

-- x lies at xend or beyond it, in the direction of the run; or nothing is left of the way from x to xend. Each difference is
-- rounded, as the solver computes it
abbrev pub Arrived : Float → Float → Float → Type 0
Arrived direction xend x = (Ieee.le +0 (direction ⊗ (x ⊖ xend)) ≡ true) ⊎ (Ieee.eq (abs_of (xend ⊖ x)) +0 ≡ true)

-- the step's size is below MIN_POSITIVE, 2^-1022; or a tenth of the step h is so small that x does not move by it
abbrev pub Stuck : Float → Float → Float → Type 0
Stuck size h x = (Ieee.lt size min_positive ≡ true) ⊎ (Ieee.eq (x ⊕ tenth ⊗ abs_of h) x ≡ true)
