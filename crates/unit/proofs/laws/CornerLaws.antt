-- Tables with the same corner have the same entries there. Why: row i of a corner is the part of the table from i * 6 on.
use Rattle.std.specs.Prelude.{◌≡◌, refl, List, [], ℕ, zero, suc, ◌+◌, ◌*◌, ◌<◌, Float, get_or, take, drop}
use Rattle.std.proofs.Common.{sym, ap, ◌∙◌, le_of_suc-le-suc, not-suc-le-zero, arith, get_or-drop, get_or-take, drop-drop}
use Rattle.std.specs.Float.{nan}
use Rattle.loops.specs.Cell.{cell}
use Rattle.loops.specs.Part.{part}
use Rattle.unit.specs.Unit.{rows_of, corner}

row_is_part : (size k : ℕ) (t : List Float) (i : ℕ) → i < k → get_or (rows_of size k t) i [] ≡ part (i * 6) size t
unfolding rows_of
row_is_part size zero t i h = absurd (not-suc-le-zero h)
row_is_part size (suc k) t zero h = refl
row_is_part size (suc k) t (suc i) h =
    let e : 6 + i * 6 ≡ suc i * 6 = omega arith in
    row_is_part size k (drop 6 t) i (le_of_suc-le-suc h) ∙ ap (take size) (drop-drop (i * 6) 6 t ∙ ap (λ (p : ℕ). drop p t) e)

cell_of_part : (size : ℕ) (t : List Float) (i j : ℕ) → j < size → get_or (part (i * 6) size t) j nan ≡ cell 6 t i j
cell_of_part size t i j h = get_or-take size (drop (i * 6) t) j nan h ∙ get_or-drop (i * 6) t j nan

pub corner_cells : (size : ℕ) (t u : List Float) → corner size t ≡ corner size u → (i j : ℕ) → i < size → j < size → cell 6 t i j ≡ cell 6 u i j
corner_cells size t u e i j below within =
    let row : part (i * 6) size t ≡ part (i * 6) size u =
    sym (row_is_part size size t i below) ∙ ap (λ (rows : List (List Float)). get_or rows i []) e ∙ row_is_part size size u i below in
    sym (cell_of_part size t i j within) ∙ ap (λ (r : List Float). get_or r j nan) row ∙ cell_of_part size u i j within
