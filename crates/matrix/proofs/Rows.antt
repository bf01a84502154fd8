-- A stage by rows is the stage by columns: the steps that commute (Commuting.antt) let the exchanges go first, the scaling of a row
-- join the row, and the double loop of the elimination go by rows.
use mathlib.Core.Path.{◌≡◌, sym, ◌∙◌, ap}
use mathlib.Core.Bool.{true, false}
use mathlib.Core.List.{List}
use Prim.Native.Nat.{ℕ, ◌+◌, ◌*◌, ◌≤◌, ◌<◌}
use native.Mathlib.Omega.{arith}
use borrow.Author.Tests.{eqb-true}
use lib.Dec.{eqb}
use lib.ListN.{length, length-set}
use lib.Seq.{get_or-set_same, get_or-set_other, set-get_or}
use lib.Ieee.{Float, nan, ne}
use Rattle.loops.specs.laws.ChoiceLaws.{either, when_true, when_false}
use Rattle.loops.specs.Loop.{loop}
use Rattle.loops.specs.laws.Order.{loop_first, loop_idle, loop_same, loop_keeps, loop_pass, loop_split, loop_swap}
use Rattle.loops.specs.Cell.{cell, stored}
use Rattle.loops.specs.laws.RowLaws.{inside}
use Rattle.loops.specs.Arithmetic.{◌⊘◌, +0, one}
use Rattle.matrix.specs.Lu.{exchanged_of, scale_turn, eliminate_turn, column_turn, stage_of}
use Rattle.matrix.specs.Rows.{added_of, cell_turn, row_turn, stage_by_rows}
use Rattle.matrix.proofs.laws.LengthLaws.{exchanged_long}
use Rattle.matrix.proofs.Writes.{rows_apart}
use Rattle.matrix.proofs.Commuting.{cells_commute, scale_passes_cell, exchange_passes_cell, exchange_passes_scale}

-- the lists that are a matrix of n rows
abbrev Square : ℕ → List Float → Type 0
Square n a = length a ≡ n * n

module _ (n m k : ℕ) (small : k < n) where
  -- ---- a column

  -- the elimination down column j
  abbrev down : ℕ → List Float → List Float
  down j = loop (k + 1) n (λ i. cell_turn n k i j)

  -- the pivot row's number is not among the cells that are written
  pivot_stays : (i j : ℕ) (x : Float) (s : List Float) → k < i → j < n → cell n (stored n s i j x) k j ≡ cell n s k j
  pivot_stays i j x s h hj = get_or-set_other s (i * n + j) (k * n + j) x nan (rows_apart n k i j j hj hj (λ e. omega arith))

  -- after the exchange the multiplier stands in the pivot row
  multiplier : (j : ℕ) (a : List Float) → j < n → Square n a → cell n (exchanged_of n m k j a) k j ≡ cell n a m j
  unfolding exchanged_of
  multiplier j a h s =
      either (λ b. cell n b k j ≡ cell n a m j) (eqb m k)
      (λ t. ap (λ (r : ℕ). cell n a r j) (sym (eqb-true m k t)))
      (λ f. get_or-set_same (stored n a m j (cell n a k j)) (k * n + j) (cell n a m j) nan (simp length-set (rw s (inside small h))))

  module _ (j : ℕ) (tj : Float) (h : j < n) where
    -- the states in which tj stands in the pivot row
    abbrev Held : List Float → Type 0
    Held s = cell n s k j ≡ tj

    turn_adds : ne tj +0 ≡ true → (i : ℕ) (s : List Float) → Held s → eliminate_turn n k j tj i s ≡ cell_turn n k i j s
    unfolding eliminate_turn cell_turn added_of
    turn_adds t i s p = rw p (ap (stored n s i j) (sym (when_true _ _ t)))

    turn_skips : ne tj +0 ≡ false → (i : ℕ) (s : List Float) → Held s → cell_turn n k i j s ≡ s
    unfolding cell_turn added_of
    turn_skips f i s p = rw (p, when_false _ _ f) (set-get_or s (i * n + j) nan)

    still_held : (i : ℕ) (s : List Float) → k + 1 ≤ i → Held s → Held (cell_turn n k i j s)
    unfolding cell_turn
    still_held i s from p = pivot_stays i j _ s (omega arith) h ∙ p

    down_adds : (b : List Float) → Held b → ne tj +0 ≡ true → loop (k + 1) n (eliminate_turn n k j tj) b ≡ down j b
    down_adds b p t =
        sym (loop_same Held (k + 1) n (λ i. cell_turn n k i j) (eliminate_turn n k j tj) b
        (λ i s from below q. (sym (turn_adds t i s q), still_held i s from q)) p).0

    down_skips : (b : List Float) → Held b → ne tj +0 ≡ false → b ≡ down j b
    down_skips b p f =
        sym ((loop_same Held (k + 1) n (λ i. cell_turn n k i j) (λ i s. s) b (λ i s from below q. (turn_skips f i s q, still_held i s from q)) p).0
        ∙ loop_idle (k + 1) n b)

  column_down : (j : ℕ) (a : List Float) → j < n → Square n a → column_turn n m k j a ≡ down j (exchanged_of n m k j a)
  unfolding column_turn
  column_down j a h s =
      let tj = cell n a m j in
      let b = exchanged_of n m k j a in
      let held = multiplier j a h s in
      either (λ d. d ≡ down j b) (ne tj +0) (down_adds j tj h b held) (down_skips j tj h b held)

  -- ---- the stage

  -- row i's elimination
  abbrev along : ℕ → List Float → List Float
  along i = loop (k + 1) n (cell_turn n k i)

  abbrev exchanges : ℕ → List Float → List Float
  exchanges = exchanged_of n m k

  down_square : (j : ℕ) (a : List Float) → Square n a → Square n (down j a)
  unfolding cell_turn
  down_square j a s = loop_keeps (Square n) (k + 1) n (λ i. cell_turn n k i j) a (λ i a from below s. simp length-set s) s

  columns_down : (a : List Float) → Square n a → loop (k + 1) n (column_turn n m k) a ≡ loop (k + 1) n (λ j s. down j (exchanges j s)) a
  columns_down a s =
      (loop_same (Square n) (k + 1) n (column_turn n m k) (λ j s. down j (exchanges j s)) a
      (λ j b from below q. let e = column_down j b below q in (e, rw e (down_square j _ (exchanged_long (n * n) n m k j b q)))) s).0

  -- the exchanges first, then the eliminations
  exchanges_first : (a : List Float) → loop (k + 1) n (λ j s. down j (exchanges j s)) a ≡ loop (k + 1) n down (loop (k + 1) n exchanges a)
  exchanges_first a =
      loop_split (k + 1) n down exchanges a
      (λ j j' from order below s. loop_pass (k + 1) n (exchanges j') (λ i. cell_turn n k i j) s
      (λ i from' below'. exchange_passes_cell n k small m i j j' (omega arith) (omega arith) (omega arith) below (λ e. omega arith)))

  -- by rows instead of by columns
  rows_first : (a : List Float) → loop (k + 1) n down a ≡ loop (k + 1) n along a
  rows_first a =
      loop_swap (k + 1) n (k + 1) n (λ j i. cell_turn n k i j) a
      (λ j j' i i' from order below from' below' from'' below'' ni.
      cells_commute n k small i i' j j' (omega arith) (omega arith) (omega arith) (omega arith) (omega arith) below ni (λ e. omega arith))

  module _ (t : Float) where
    abbrev scales : ℕ → List Float → List Float
    scales = scale_turn n k t

    scaled_square : (a : List Float) → Square n a → Square n (loop (k + 1) n scales a)
    unfolding scale_turn
    scaled_square a s = loop_keeps (Square n) (k + 1) n scales a (λ i a from below s. simp length-set s) s

    scales_last : (a : List Float) → loop (k + 1) n exchanges (loop (k + 1) n scales a) ≡ loop (k + 1) n scales (loop (k + 1) n exchanges a)
    scales_last a =
        loop_pass (k + 1) n (loop (k + 1) n exchanges) scales a
        (λ i from below s. sym (loop_pass (k + 1) n (scales i) exchanges s
        (λ j from' below' s. sym (exchange_passes_scale n k small m t i j (omega arith) below' s))))

    scale_in_row : (a : List Float) → loop (k + 1) n along (loop (k + 1) n scales a) ≡ loop (k + 1) n (row_turn n k t) a
    unfolding row_turn
    scale_in_row a =
        sym (loop_split (k + 1) n along scales a
        (λ i i' from order below s. loop_pass (k + 1) n (scales i') (cell_turn n k i) s
        (λ j from' below'. scale_passes_cell n k small t i i' j (omega arith) (omega arith) below' (λ e. omega arith))))

  pub stage_by_rows_lem : (a : List Float) → Square n a → stage_by_rows n m k a ≡ stage_of n m k a
  unfolding stage_by_rows stage_of
  stage_by_rows_lem a s =
      let t = one ⊘ cell n a m k in
      let swapped = exchanges k a in
      let scaled = loop (k + 1) n (scales t) swapped in
      let square : Square n scaled = scaled_square t swapped (exchanged_long (n * n) n m k k a s) in
      sym (columns_down scaled square
      ∙ exchanges_first scaled
      ∙ rows_first (loop (k + 1) n exchanges scaled)
      ∙ ap (loop (k + 1) n along) (scales_last t swapped)
      ∙ scale_in_row t (loop (k + 1) n exchanges swapped)
      ∙ ap (loop (k + 1) n (row_turn n k t)) (sym (loop_first k n exchanges a small)))
