-- `lu::stage` meets its contract: its calls are the stage by rows, which is the stage by columns. Assumes nothing.
use mathlib.Core.Path.{◌≡◌, ◌∙◌}
use mathlib.Core.List.{List}
use Prim.Native.Nat.{ℕ, ◌+◌, ◌*◌, ◌<◌}
use lib.ListN.{length}
use lib.Ieee.{Float}
use Rattle.loops.specs.Cell.{cell}
use Rattle.loops.specs.Loop.{loop}
use Rattle.loops.specs.Arithmetic.{◌⊘◌, one}
use Rattle.matrix.specs.Lu.{exchanged_of, stage_of}
use Rattle.matrix.specs.Rows.{row_turn, stage_by_rows}
use Rattle.matrix.proofs.Rows.{stage_by_rows_lem}
use Rattle.matrix.proofs.lu.stage.Goals as goal

in_order : (n m k : ℕ) (a b d : List Float) {pivot : Float} → k < n → length a ≡ n * n → pivot ≡ cell n a m k → b ≡ loop k n (exchanged_of n m k) a
    → d ≡ loop (k + 1) n (row_turn n k (one ⊘ pivot)) b → d ≡ stage_of n m k a
unfolding stage_by_rows
in_order n m k a b d h s e₁ e₂ e₃ = e₃ ∙ rw (e₂, e₁) (stage_by_rows_lem n m k h a s)

pub returns : goal.returns
returns c = let asked = c.requires in
    let the-get = c.get-pivot in
    let the-exchange-rows = c.exchange_rows in
    in_order _ _ _ _ _ _ asked.1 asked.2 the-get.ensures the-exchange-rows.ensures c.rows.ensures
