-- `lu::exchange` meets its contract: both cells are read before either is written. Where m is k both are one cell, which takes
-- the number that it had. Assumes nothing.
use mathlib.Core.Path.{◌≡◌, refl, ◌∙◌}
use mathlib.Core.List.{List}
use Prim.Native.Nat.{ℕ, ◌+◌, ◌*◌}
use borrow.Author.Tests.{eqb-true}
use lib.Dec.{eqb}
use lib.Seq.{set-get_or}
use lib.Ieee.{Float, nan}
use Rattle.loops.specs.laws.ChoiceLaws.{either}
use Rattle.loops.specs.Cell.{cell, stored}
use Rattle.matrix.specs.Lu.{exchanged_of}
use Rattle.matrix.proofs.lu.exchange.Goals as goal

module _ (n m k j : ℕ) (a : List Float) where
  -- the two writes
  abbrev both : List Float
  both = stored n (stored n a m j (cell n a k j)) k j (cell n a m j)

  -- the number of one cell, written back twice
  written_back : m ≡ k → both ≡ a
  written_back e = rw (e, set-get_or a (k * n + j) nan, set-get_or a (k * n + j) nan)

  exchanged : both ≡ exchanged_of n m k j a
  unfolding exchanged_of
  exchanged = either (λ x. both ≡ x) (eqb m k) (λ t. written_back (eqb-true m k t)) (λ f. refl)

-- two reads and two writes are the exchange
both_written : (n m k j : ℕ) (a b d : List Float) {tmp other : Float} → tmp ≡ cell n a m j → other ≡ cell n a k j
    → b ≡ stored n a m j other → d ≡ stored n b k j tmp → d ≡ exchanged_of n m k j a
both_written n m k j a b d e₁ e₂ e₃ e₄ = e₄ ∙ rw (e₃, e₁, e₂) (exchanged n m k j a)

pub returns : goal.returns
returns c = let the-get = c.get-tmp in
    let the-get2 = c.get-other in
    let the-put = c.put in
    both_written _ _ _ _ _ _ _ the-get.ensures the-get2.ensures the-put.ensures c.put-2.ensures
