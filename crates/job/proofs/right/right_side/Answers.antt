-- `right::right_side` meets its contract: where the sizes agree the rows are computed, and else nothing is written.
-- Assumes nothing.
use mathlib.Core.Path.{◌≡◌, sym, ◌∙◌}
use mathlib.Core.Bool.{Bool, true, false}
use mathlib.Core.List.{List}
use Prim.Native.Nat.{ℕ, ◌*◌, ◌≤◌}
use lib.Dec.{leb, eqb}
use lib.ListN.{length}
use lib.Ieee.{Float}
use borrow.Author.Tests.{leb-true, eqb-true}
use Rattle.loops.specs.laws.ChoiceLaws.{when_true, when_false, and_first, and_second}
use Rattle.std.specs.Prelude.{Result, Ok, Err}
use Rattle.job.specs.declared.right.WrongLength.{WrongLength}
use Rattle.job.specs.Types.{max_n}
use Rattle.job.specs.Right.{sized_of, right_of, right_side_of}
use Rattle.job.proofs.right.right_side.Goals as goal

sized_means : (n cells places : ℕ) → sized_of n cells places ≡ true → (n ≤ max_n) × ((cells ≡ n * n) × (places ≡ n))
unfolding sized_of
sized_means n cells places t =
    let rest = and_second (leb n max_n) _ t in (
      leb-true n max_n (and_first (leb n max_n) _ t),
      (eqb-true cells (n * n) (and_first (eqb cells (n * n)) _ rest), eqb-true places n (and_second (eqb cells (n * n)) _ rest)),
    )

module _ (a y dy : List Float) {r : Bool} (e : r ≡ sized_of (length y) (length a) (length dy)) where
  wrong_sizes : r ≡ false → ◌≡◌ {A = Result Unit WrongLength × List Float} (Err (record {}), dy) (right_side_of a y dy)
  unfolding right_side_of
  wrong_sizes t = sym (when_false _ _ (sym e ∙ t))

  right_sizes : {d : List Float} → r ≡ true → d ≡ right_of a y dy → ◌≡◌ {A = Result Unit WrongLength × List Float} (Ok tt, d) (right_side_of a y dy)
  unfolding right_side_of
  right_sizes t f = rw f (sym (when_true _ _ (sym e ∙ t)))

pub returns-then-not-sized : goal.returns-then-not-sized
returns-then-not-sized c = wrong_sizes _ _ _ c.sized.ensures c.if-not-sized.true

pub rows-requires : goal.rows-requires
rows-requires c = sized_means _ _ _ (sym c.sized.ensures ∙ c.if-not-sized.false)

pub returns : goal.returns
returns c = right_sizes _ _ _ c.sized.ensures c.if-not-sized.false c.rows.ensures
