-- What holds of counted loops: induction over the turns, and what a loop that stores one place a turn leaves at each place.
use Rattle.std.specs.Prelude.{◌≡◌, refl, List, ◌⊎◌, ℕ, zero, suc, ◌+◌, ◌≤◌, ◌<◌, Float, length, set}
use Rattle.std.proofs.Common.{◌∙◌, subst, inl, inr, eq-or-lt_of_le, le_of_suc-le-suc, lt_irrefl, not-suc-le-zero, add-one, arith, length-set, get_or-set_same, get_or-set_other}
use Rattle.std.specs.Float.{nan}
use Rattle.loops.specs.Loop.{loop}
use Rattle.loops.specs.laws.Turned.{loop_none, loop_more}
use Rattle.loops.specs.Cell.{at}

-- what holds before the first turn, and after a turn where it held before, holds after the loop
pub loop_induction : {A : Type 0} (P : ℕ → A → Type 0) (hi : ℕ) (f : ℕ → A → A) (s : A) → P 0 s
    → ((i : ℕ) (t : A) → i < hi → P i t → P (i + 1) (f i t)) → P hi (loop 0 hi f s)
loop_induction P zero f s b h = rw (loop_none 0 0 f s (omega arith)) b
loop_induction P (suc n) f s b h =
    subst (λ (k : ℕ). P k (loop 0 k f s)) (add-one n)
    (rw (loop_more 0 n f s (omega arith)) (h n (loop 0 n f s) (omega arith) (loop_induction P n f s b (λ i t k. h i t (omega arith)))))

-- what stands in a list after the first n turns of `for i in 0..hi { l[i] = g(i) }`
pub record Stored (g : ℕ → Float) (l : List Float) (n : ℕ) (t : List Float) : Type 0 where
  pub long : length t ≡ length l
  pub holds : (i : ℕ) → i < n → at t i ≡ g i

store_more : (g : ℕ → Float) (l : List Float) (n : ℕ) (t : List Float) → n < length l → Stored g l n t → Stored g l (n + 1) (set t n (g n))
store_more g l n t h r = record { long = length-set t n (g n) ∙ r.long; holds = λ i k. below i (eq-or-lt_of_le (le_of_suc-le-suc (rw add-one at k))) }
  where
    below : (i : ℕ) → (i ≡ n) ⊎ (i < n) → at (set t n (g n)) i ≡ g i
    below i (inl e) = rw e (get_or-set_same t n (g n) nan (omega (arith, r.long)))
    below i (inr k) = get_or-set_other t n i (g n) nan (λ e. lt_irrefl n (rw e at k)) ∙ r.holds i k

pub stored_at : (hi : ℕ) (g : ℕ → Float) (l : List Float) → hi ≤ length l → Stored g l hi (loop 0 hi (λ i t. set t i (g i)) l)
stored_at hi g l h =
    loop_induction (Stored g l) hi (λ i t. set t i (g i)) l
    (record { long = refl; holds = λ i k. absurd (not-suc-le-zero k) })
    (λ i t k r. store_more g l i t (omega arith) r)

-- the places past the loop stay, and so does the length
pub stored_beyond : (hi : ℕ) (g : ℕ → Float) (l : List Float) (j : ℕ) → hi ≤ j → at (loop 0 hi (λ i t. set t i (g i)) l) j ≡ at l j
stored_beyond hi g l j h =
    loop_induction (λ _ t. at t j ≡ at l j) hi (λ i t. set t i (g i)) l refl
    (λ i t k e. get_or-set_other t i j (g i) nan (λ same. lt_irrefl j (omega arith)) ∙ e)

pub stored_length : (hi : ℕ) (g : ℕ → Float) (l : List Float) → length (loop 0 hi (λ i t. set t i (g i)) l) ≡ length l
stored_length hi g l = loop_induction (λ _ t. length t ≡ length l) hi (λ i t. set t i (g i)) l refl (λ i t k e. length-set t i (g i) ∙ e)
