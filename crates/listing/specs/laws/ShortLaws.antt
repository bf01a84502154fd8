-- How long the line of an answer is: a question has none, a notice's has 17 bytes for each component and 19 besides, and a count has
-- at most 20 digits. So no line is longer than 1024 bytes, where there are at most 32 components.
use Rattle.std.specs.Prelude.{◌≡◌, true, false, List, ℕ, ◌≤◌, length, take, Float}
use Rattle.std.proofs.Common.{sym, true≢false, arith, length-take}
use Rattle.text.specs.laws.DigitLaws.{places_at_most_20}
use Rattle.matrix.specs.Size.{max_n}
use Rattle.lines.specs.Lines.{refusal_line}
use Rattle.lines.specs.laws.FieldLaws.{length_state, length_refusal, length_end}
use Rattle.rules.specs.Refusals.{number_of}
use Rattle.rules.specs.Answers.{is_question_or_notice}
use Rattle.rules.specs.State.{After}
use Rattle.rules.specs.Calls.{size}
use Rattle.listing.specs.Types.{Answer, Derivative, Jacobian, Start, Step, End, Refused, Steps, Evals, Turn}
use Rattle.listing.specs.Printed.{answer_line, line_of}

-- bytes that are room for any line: the longest has 563
abbrev pub ample : ℕ
ample = 1024

-- a line that a page of `ample` bytes has room for, and that is not empty
abbrev pub Short : List ℕ → Type 0
Short t = (1 ≤ length t) × (length t ≤ ample)

pub refusal_short : (number : ℕ) → Short (refusal_line number)
refusal_short number =
    let long = length_refusal number in
    let few = places_at_most_20 number in
    (omega arith, omega arith)

-- an answer after which nothing comes has a line
last_answer_short :
    (answer : Answer) (y : List Float) (steps : Steps) (evals : Evals) → is_question_or_notice answer ≡ false →
    Short (answer_line answer y steps evals)
last_answer_short (Derivative x) y steps evals e = absurd (true≢false e)
last_answer_short (Jacobian x) y steps evals e = absurd (true≢false e)
last_answer_short (Start x) y steps evals e = absurd (true≢false e)
last_answer_short (Step old new start h) y steps evals e = absurd (true≢false e)
last_answer_short (End status h) y steps evals e =
    let long = length_end status h steps evals in
    let total = places_at_most_20 steps.total in
    let accepted = places_at_most_20 steps.accepted in
    let rejected = places_at_most_20 steps.rejected in
    let ode = places_at_most_20 evals.ode in
    let jac = places_at_most_20 evals.jac in
    let lu = places_at_most_20 evals.lu in
    let start = places_at_most_20 evals.start in
    (omega arith, omega arith)
last_answer_short (Refused why) y steps evals e = refusal_short (number_of why)

pub last_line_short : (g : After Turn) → is_question_or_notice g.is.answer ≡ false → Short (line_of g)
last_line_short g e = last_answer_short g.is.answer (take (size g) g.q) g.is.run.at.steps g.is.run.at.evals e

-- the line of any other tells at most 32 components
answer_short :
    (answer : Answer) (y : List Float) (steps : Steps) (evals : Evals) → is_question_or_notice answer ≡ true → length y ≤ max_n →
    length (answer_line answer y steps evals) ≤ ample
answer_short (Derivative x) y steps evals e few = omega arith
answer_short (Jacobian x) y steps evals e few = omega arith
answer_short (Start x) y steps evals e few = omega (arith, length_state 73 x y)
-- (as long whichever of the two x it tells)
answer_short (Step old new start h) y steps evals e few = omega (arith, length_state 83 old y, length_state 83 new y)
answer_short (End status h) y steps evals e few = absurd (true≢false (sym e))
answer_short (Refused why) y steps evals e few = absurd (true≢false (sym e))

pub line_short : (g : After Turn) → is_question_or_notice g.is.answer ≡ true → size g ≤ max_n → length (line_of g) ≤ ample
line_short g e few =
    answer_short g.is.answer (take (size g) g.q) g.is.run.at.steps g.is.run.at.evals e (omega (arith, length-take (size g) g.q))
