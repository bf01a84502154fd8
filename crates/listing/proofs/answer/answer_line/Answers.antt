-- `answer::answer_line` meets its contract: nothing is put for a question. Assumes nothing.
use Rattle.std.specs.Prelude.{◌≡◌, refl, ◌⊎◌, List, [], ℕ, ltb, length, take, Float}
use Rattle.std.proofs.Common.{sym, ap, ◌∙◌, inl, inr}
use Rattle.loops.specs.Choice.{when◌then◌else◌}
use Rattle.text.specs.Page.{Sheet as Put, puts, seen}
use Rattle.lines.specs.Lines.{step_line}
use Rattle.listing.specs.Types.{Answer, Derivative, Jacobian, Step, Steps, Evals}
use Rattle.listing.specs.Printed.{answer_line}
use Rattle.listing.specs.laws.PutLaws.{nothing_put, taken_within}
use Rattle.listing.proofs.answer.answer_line.Goals as goal

no_line :
    (answer : Answer) (y : List Float) (steps : Steps) (evals : Evals) →
    ((x : Float) × (answer ≡ Derivative x)) ⊎ ((x : Float) × (answer ≡ Jacobian x)) → answer_line answer y steps evals ≡ []
no_line answer y steps evals (inl d) = ap (λ (a : Answer). answer_line a y steps evals) d.1
no_line answer y steps evals (inr j) = ap (λ (a : Answer). answer_line a y steps evals) j.1

-- why a step's arm holds, which the check finds alone: of the new x and of as many places as there are
step_line_lem :
    (n : ℕ) (q : List Float) (steps : Steps) (evals : Evals) (page : Put) (answer : Answer) {old new start h : Float} {k : ℕ} {p : Put} →
    answer ≡ Step old new start h → k ≡ (when ltb n (length q) then n else length q) → p ≡ puts (step_line new (take k q)) page →
    p ≡ puts (answer_line answer (take n q) steps evals) page
step_line_lem n q steps evals page answer e cut put = put ∙ rw (e, cut, taken_within n q) refl

pub returns-in-Derivative-clause-put : goal.returns-in-Derivative-clause-put
returns-in-Derivative-clause-put c =
    let none = no_line c.args.turn.now.answer (take c.args.turn.now.run.at.n c.args.q.now) c.args.turn.now.run.at.steps c.args.turn.now.run.at.evals c.in-Derivative.is in
    sym (ap (λ (t : List ℕ). puts t (seen c.args.page.now)) none ∙ nothing_put (seen c.args.page.now) c.requires)
