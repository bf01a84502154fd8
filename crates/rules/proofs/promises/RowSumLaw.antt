-- What rescaling means, place by place: new row i is the sum over k, from +0 on, of ru[k][i] * D[k], coefficients of 0 passed over.
-- Why: a loop over a row touches its row alone, each place once, so every place goes its own way through the loops.
use Rattle.std.specs.Prelude.{◌≡◌, refl, List, ◌⊎◌, ℕ, ◌+◌, ◌*◌, ◌≤◌, ◌<◌, Float, length, set, replicate}
use Rattle.std.proofs.Common.{sym, ap, ◌∙◌, inl, inr, eq-or-lt_of_le, le_of_suc-le-suc, not-suc-le-zero, add-one, arith, length-set, get_or-set_same, get_or-set_other}
use Rattle.std.specs.Float.Ieee
use Rattle.std.specs.Float.{nan}
use Rattle.std.proofs.lemmas.List.{length-replicate, get_or-replicate}
use Rattle.loops.specs.Choice.{when◌then◌else◌}
use Rattle.loops.specs.laws.ChoiceLaws.{either, when_true, when_false}
use Rattle.loops.specs.Loop.{loop}
use Rattle.loops.specs.laws.Turned.{loop_none, loop_more}
use Rattle.loops.specs.Cell.{at, cell}
use Rattle.loops.specs.Arithmetic.{◌⊕◌, ◌⊗◌, +0, one}
use Rattle.matrix.specs.Size.{max_n}
use Rattle.loops.specs.laws.RowLaws.{row_within}
use Rattle.loops.specs.laws.LoopLaws.{loop_induction, stored_at}
use Rattle.rules.proofs.laws.PartLaws.{loaded_front}
use Rattle.rules.specs.Rescale.{scaled_turn, add_scaled, new_row_turn, new_row, new_rows, rescaled, compute_r, matmul}

-- ---- the meaning

-- sum += ru[k][i] * d[k][j]
unfoldable pub row_sum_turn : ℕ → List Float → List Float → ℕ → ℕ → ℕ → Float → Float
row_sum_turn n ru d i j k sum = when Ieee.eq (cell 6 ru k i) +0 then sum else sum ⊕ cell 6 ru k i ⊗ cell n d k j

unfoldable pub row_sum : ℕ → List Float → List Float → ℕ → ℕ → ℕ → Float
row_sum n ru d size i j = loop 0 size (row_sum_turn n ru d i j) +0

-- ---- a loop over the places from r on, that stores g j of what stands at r + j

-- after m turns: the first m places are done, the others are as they were
record Done (g : ℕ → Float → Float) (s : List Float) (r m : ℕ) (t : List Float) : Type 0 where
  long : length t ≡ length s
  done : (j : ℕ) → j < m → at t (r + j) ≡ g j (at s (r + j))
  rest : (p : ℕ) → (p < r) ⊎ (r + m ≤ p) → at t p ≡ at s p

done_more : (g : ℕ → Float → Float) (s : List Float) (r m : ℕ) (t : List Float) → r + m < length s → Done g s r m t
    → Done g s r (m + 1) (set t (r + m) (g m (at t (r + m))))
done_more g s r m t h d =
    record {
      long = length-set t (r + m) _ ∙ d.long;
      done = λ j k. below j (eq-or-lt_of_le (le_of_suc-le-suc (rw add-one at k)));
      rest = λ p w. get_or-set_other t (r + m) p _ nan (away p w) ∙ d.rest p (before p w);
    }
  where
    below : (j : ℕ) → (j ≡ m) ⊎ (j < m) → at (set t (r + m) (g m (at t (r + m)))) (r + j) ≡ g j (at s (r + j))
    below j (inl e) =
        rw e (get_or-set_same t (r + m) (g m (at t (r + m))) nan (omega (arith, d.long)) ∙ ap (g m) (d.rest (r + m) (inr (omega arith))))
    below j (inr k) = get_or-set_other t (r + m) (r + j) (g m (at t (r + m))) nan (λ e. omega arith) ∙ d.done j k

    away : (p : ℕ) → (p < r) ⊎ (r + (m + 1) ≤ p) → p ≡ r + m → ⊥
    away p (inl k) e = omega arith
    away p (inr k) e = omega arith

    before : (p : ℕ) → (p < r) ⊎ (r + (m + 1) ≤ p) → (p < r) ⊎ (r + m ≤ p)
    before p (inl k) = inl k
    before p (inr k) = inr (omega arith)

row_done :
    (g : ℕ → Float → Float) (s : List Float) (r n : ℕ) → r + n ≤ length s → Done g s r n (loop 0 n (λ j t. set t (r + j) (g j (at t (r + j)))) s)
row_done g s r n h =
    loop_induction (Done g s r) n (λ j t. set t (r + j) (g j (at t (r + j)))) s
    (record { long = refl; done = λ j k. absurd (not-suc-le-zero k); rest = λ p w. refl })
    (λ j t k d. done_more g s r j t (omega arith) d)

-- ---- a row times a coefficient, added to row i

record Added (n : ℕ) (c : Float) (d : List Float) (k i : ℕ) (s t : List Float) : Type 0 where
  long : length t ≡ length s
  row : (j : ℕ) → j < n → at t (i * n + j) ≡ (when Ieee.eq c +0 then at s (i * n + j) else at s (i * n + j) ⊕ c ⊗ cell n d k j)
  rest : (p : ℕ) → (p < i * n) ⊎ (i * n + n ≤ p) → at t p ≡ at s p

added : (n : ℕ) (c : Float) (d : List Float) (k i : ℕ) (s : List Float) → i * n + n ≤ length s → Added n c d k i s (add_scaled n n c d k i s)
unfolding add_scaled scaled_turn
added n c d k i s h =
    let r = row_done (λ j x. x ⊕ c ⊗ cell n d k j) s (i * n) n h in
    either (Added n c d k i s) (Ieee.eq c +0)
    (λ e. record { long = refl; row = λ j b. sym (when_true _ _ e); rest = λ p w. refl })
    (λ e. record { long = r.long; row = λ j b. r.done j b ∙ sym (when_false _ _ e); rest = r.rest })

-- ---- the sum of the rows below m, in row i

record Summed (n : ℕ) (ru d : List Float) (i : ℕ) (s : List Float) (m : ℕ) (t : List Float) : Type 0 where
  long : length t ≡ length s
  row : (j : ℕ) → j < n → at t (i * n + j) ≡ loop 0 m (row_sum_turn n ru d i j) (at s (i * n + j))
  rest : (p : ℕ) → (p < i * n) ⊎ (i * n + n ≤ p) → at t p ≡ at s p

summed_more : (n : ℕ) (ru d : List Float) (i : ℕ) (s : List Float) (m : ℕ) (t : List Float) → i * n + n ≤ length s → Summed n ru d i s m t
    → Summed n ru d i s (m + 1) (new_row_turn n ru d i m t)
unfolding new_row_turn row_sum_turn
summed_more n ru d i s m t h r =
    let a = added n (cell 6 ru m i) d m i t (omega (arith, r.long)) in
    record {
      long = a.long ∙ r.long;
      row =
          λ j b. a.row j b ∙ ap (row_sum_turn n ru d i j m) (r.row j b)
          ∙ sym (loop_more 0 m (row_sum_turn n ru d i j) (at s (i * n + j)) (omega arith));
      rest = λ p w. a.rest p w ∙ r.rest p w;
    }

summed : (n : ℕ) (ru d : List Float) (size i : ℕ) (s : List Float) → i * n + n ≤ length s → Summed n ru d i s size (new_row n ru d size i s)
unfolding new_row
summed n ru d size i s h =
    loop_induction (Summed n ru d i s) size (new_row_turn n ru d i) s
    (record { long = refl; row = λ j b. sym (loop_none 0 0 (row_sum_turn n ru d i j) (at s (i * n + j)) (omega arith)); rest = λ p w. refl })
    (λ m t k r. summed_more n ru d i s m t h r)

-- ---- the rows below m are sums, and what stands past them is still +0

record Rows (n : ℕ) (ru d : List Float) (size m : ℕ) (t : List Float) : Type 0 where
  long : length t ≡ 6 * max_n
  sums : (i j : ℕ) → i < m → j < n → at t (i * n + j) ≡ row_sum n ru d size i j
  clear : (p : ℕ) → m * n ≤ p → p < 6 * max_n → at t p ≡ +0

rows_more :
    (n : ℕ) (ru d : List Float) (size m : ℕ) (t : List Float) → n ≤ max_n → m < 6 → Rows n ru d size m t →
    Rows n ru d size (m + 1) (new_row n ru d size m t)
unfolding row_sum
rows_more n ru d size m t few b r =
    let room : m * n + n ≤ 6 * n = row_within n b in
    let a = summed n ru d size m t (omega (arith, r.long)) in
    record {
      long = a.long ∙ r.long;
      sums = λ i j k l. at_row a room i j (eq-or-lt_of_le (le_of_suc-le-suc (rw add-one at k))) l;
      clear = λ p k l. a.rest p (inr (omega arith)) ∙ r.clear p (omega arith) l;
    }
  where
    at_row : Summed n ru d m t size (new_row n ru d size m t) → m * n + n ≤ 6 * n → (i j : ℕ) → (i ≡ m) ⊎ (i < m) → j < n
        → at (new_row n ru d size m t) (i * n + j) ≡ loop 0 size (row_sum_turn n ru d i j) +0
    at_row a room i j (inl e) l = rw e (a.row j l ∙ ap (loop 0 size (row_sum_turn n ru d m j)) (r.clear (m * n + j) (omega arith) (omega arith)))
    at_row a room i j (inr k) l = let above : i * n + n ≤ m * n = row_within n k in a.rest (i * n + j) (inl (omega arith)) ∙ r.sums i j k l

rows : (n : ℕ) (ru d : List Float) (size : ℕ) → n ≤ max_n → size ≤ 6 → Rows n ru d size size (new_rows n ru d size)
unfolding new_rows
rows n ru d size few b =
    loop_induction (Rows n ru d size) size (new_row n ru d size) (replicate (6 * max_n) +0)
    (record {
      long = length-replicate (6 * max_n) +0;
      sums = λ i j k l. absurd (not-suc-le-zero k);
      clear = λ p k l. get_or-replicate (6 * max_n) p +0 nan l;
    })
    (λ m t k r. rows_more n ru d size m t few (omega arith) r)

-- ---- the law

-- ru, the product of the tables at the factor and at 1.0
abbrev pub ru_of : ℕ → Float → List Float
ru_of order factor = matmul (compute_r order factor) (compute_r order one) (order + 1)

pub new_row_is_the_sum : (n order : ℕ) (factor : Float) (d : List Float) → n ≤ max_n → order ≤ 5 → (order + 1) * n ≤ length d
    → (i j : ℕ) → i ≤ order → j < n → at (rescaled n order factor d) (i * n + j) ≡ row_sum n (ru_of order factor) d (order + 1) i j
unfolding rescaled
new_row_is_the_sum n order factor d few small long i j b c =
    let within : i * n + n ≤ (order + 1) * n = row_within n (omega arith) in
    let scratch = new_rows n (ru_of order factor) d (order + 1) in
    ap (λ (t : List Float). at t (i * n + j)) (loaded_front scratch ((order + 1) * n) d)
    ∙ (stored_at ((order + 1) * n) (λ p. at scratch p) d long).holds (i * n + j) (omega arith)
    ∙ (rows n (ru_of order factor) d (order + 1) few (omega arith)).sums i j (omega arith) c
