-- The search by halving finds the least number that fails; counting stops at the first k past x.
use Rattle.std.specs.Prelude.{◌≡◌, refl, Bool, true, false, Float}
use Rattle.std.proofs.Common.{sym, ap, ◌∙◌, true≢false, inl, inr, eq-or-lt_of_le}
use Prim.Native.Nat.{ℕ, zero, suc, ◌+◌, ◌-◌, ◌^◌, ◌≤◌, ◌<◌}
use Rattle.std.proofs.Math.Nat.{add-zero}
use native.Mathlib.Omega.{arith}
use Rattle.std.proofs.Math.Pow.{pow_pos}
use Rattle.loops.specs.laws.ChoiceLaws.{either}
use Rattle.render.specs.Times.{past, sought, counted}

-- k is the least that fails
pub record First (p : ℕ → Bool) (k : ℕ) : Type 0 where
  pub fails : p k ≡ false
  pub below : (j : ℕ) → j < k → p j ≡ true

module _ (p : ℕ → Bool) (falls : (j k : ℕ) → j ≤ k → p k ≡ true → p j ≡ true) where
  pub sought_first : (f lo : ℕ) → p (lo + (2 ^ f - 1)) ≡ false → ((j : ℕ) → j < lo → p j ≡ true) → First p (sought p f lo)
  unfolding sought
  sought_first zero lo h b = record { fails = rw add-zero at h; below = b }
  sought_first (suc f) lo h b =
      let some = pow_pos f in
      let double : lo + (2 ^ suc f - 1) ≡ lo + 2 ^ f + (2 ^ f - 1) = omega arith in
      either (First p) (p (lo + (2 ^ f - 1)))
      (λ e. sought_first f (lo + 2 ^ f) (rw double at h) (λ j below. falls j (lo + (2 ^ f - 1)) (omega arith) e))
      (λ e. sought_first f lo e b)

-- those counted do not lie past x
pub counted_upto : (x : Float) (m k j : ℕ) → k ≤ j → j < k + counted x m k → past x j ≡ false
unfolding counted
counted_upto x zero k j from below = absurd (omega arith)
counted_upto x (suc m) k j from below =
    either (λ (c : ℕ). j < k + c → past x j ≡ false) (past x k)
    (λ e below. absurd (omega arith))
    (λ e below. elim (eq-or-lt_of_le from) [
      | inl is ↦ rw (← is) e
      | inr more ↦ counted_upto x m (k + 1) j (omega arith) (omega arith)
    ])
    below

-- and where the next does not either, the room is full
pub counted_full : (x : Float) (m k : ℕ) → past x (k + counted x m k) ≡ false → counted x m k ≡ m
unfolding counted
counted_full x zero k e = refl
counted_full x (suc m) k e =
    either (λ (c : ℕ). past x (k + c) ≡ false → c ≡ suc m) (past x k)
    (λ t f. absurd (true≢false (sym t ∙ (rw add-zero at f))))
    (λ t f.
    let shift : k + suc (counted x m (k + 1)) ≡ k + 1 + counted x m (k + 1) = omega arith in
    ap suc (counted_full x m (k + 1) (rw shift at f)))
    e

pub counted_room : (x : Float) (m k : ℕ) → counted x m k ≤ m
unfolding counted
counted_room x zero k = omega arith
counted_room x (suc m) k = either (λ (c : ℕ). c ≤ suc m) (past x k) (λ e. omega arith) (λ e. omega (arith, counted_room x m (k + 1)))

-- with room, a k that is still due is written
pub counted_some : (x : Float) (m k : ℕ) → past x k ≡ false → 0 < m → 0 < counted x m k
unfolding counted
counted_some x zero k e h = h
counted_some x (suc m) k e h = either (λ (c : ℕ). 0 < c) (past x k) (λ t. absurd (true≢false (sym t ∙ e))) (λ t. omega arith)
