-- The contracts of this crate leave no choice: two outcomes that meet one of them, from the same call, are the same answer and the
-- same bytes left in the lent page. `MeetsNumberOf` is the equation that the code's contract states; a line's is `text`'s
-- `MeetsPut` of that line.
use Rattle.std.specs.Prelude.{◌≡◌, List, ℕ, Float, Option}
use Rattle.std.proofs.Common.{sym, ◌∙◌}
use Rattle.text.specs.Page.{Sheet}
use Rattle.text.specs.promises.Unique.{MeetsPut, put_unique}
use Rattle.rules.specs.declared.types.Refusal.{Refusal}
use Rattle.lines.specs.Types.{Status, Steps, Evals, number_of}
use Rattle.lines.specs.Lines.{start_line, step_line, end_line, refusal_line}

-- ---- number_of

abbrev pub MeetsNumberOf : Refusal → ℕ → Type 0
MeetsNumberOf why r = r ≡ number_of why

pub number_of_unique : (why : Refusal) {r s : ℕ} → MeetsNumberOf why r → MeetsNumberOf why s → r ≡ s
number_of_unique why m o = m ∙ sym o

-- ---- the lines

-- a page on which t was put, twice, is one page
abbrev Same : Sheet → List ℕ → Type 0
Same page t = (r s : Option ℕ) (out other : List ℕ) → MeetsPut t page r out → MeetsPut t page s other → (r ≡ s) × (out ≡ other)

line_unique : (page : Sheet) (t : List ℕ) → Same page t
line_unique page t r s out other m o = put_unique page t m o

pub start_line_unique : (page : Sheet) (x : Float) (y : List Float) → Same page (start_line x y)
start_line_unique page x y = line_unique page (start_line x y)

pub step_line_unique : (page : Sheet) (x : Float) (y : List Float) → Same page (step_line x y)
step_line_unique page x y = line_unique page (step_line x y)

pub end_line_unique : (page : Sheet) (status : Status) (h : Float) (steps : Steps) (evals : Evals) → Same page (end_line status h steps evals)
end_line_unique page status h steps evals = line_unique page (end_line status h steps evals)

pub refusal_line_unique : (page : Sheet) (number : ℕ) → Same page (refusal_line number)
refusal_line_unique page number = line_unique page (refusal_line number)
