-- The invariant of a counted loop, and its three uses in a proof: before the first turn, from turn to turn, after the last.
use Rattle.std.specs.Prelude.{◌≡◌, ℕ, suc, ◌+◌, ◌-◌, ◌≤◌, ◌<◌}
use Rattle.std.proofs.Common.{sym, ap, ◌∙◌, arith}
use Rattle.loops.specs.Loop.{turns, loop}

-- THE invariant of a counted loop: before the turn at i the state t is what the turns below i made of s
pub record Turned {A : Type 0} (lo hi : ℕ) (f : ℕ → A → A) (s : A) (i : ℕ) (t : A) : Type 0 where
  pub from : lo ≤ i
  pub upto : i ≤ hi
  pub is : t ≡ loop lo i f s

pub loop_none : {A : Type 0} (lo hi : ℕ) (f : ℕ → A → A) (s : A) → hi ≤ lo → loop lo hi f s ≡ s
unfolding loop turns
loop_none lo hi f s h = let e : hi - lo ≡ 0 = omega arith in rw e

pub loop_more : {A : Type 0} (lo i : ℕ) (f : ℕ → A → A) (s : A) → lo ≤ i → loop lo (i + 1) f s ≡ f i (loop lo i f s)
unfolding loop turns
loop_more lo i f s h =
    let e : (i + 1) - lo ≡ suc (i - lo) = omega arith in
    let g : lo + (i - lo) ≡ i = omega arith in
    rw (e, turns, g)

pub turn_none : {A : Type 0} {lo hi : ℕ} {f : ℕ → A → A} {s : A} → lo ≤ hi → Turned lo hi f s lo s
turn_none {lo = lo} {f = f} {s = s} h = record { from = omega arith; upto = h; is = sym (loop_none lo lo f s (omega arith)) }

pub turn_more : {A : Type 0} {lo hi : ℕ} {f : ℕ → A → A} {s : A} {i : ℕ} {t u : A} → Turned lo hi f s i t → i < hi → u ≡ f i t → Turned lo hi f s (i + 1) u
turn_more {lo = lo} {f = f} {s = s} {i = i} r h e =
    record { from = omega (arith, r.from); upto = omega arith; is = e ∙ ap (f i) r.is ∙ sym (loop_more lo i f s r.from) }

pub turn_all : {A : Type 0} {lo hi : ℕ} {f : ℕ → A → A} {s : A} {i : ℕ} {t : A} → Turned lo hi f s i t → hi ≤ i → t ≡ loop lo hi f s
turn_all {lo = lo} {hi = hi} {f = f} {s = s} {i = i} r h =
    let e : i ≡ hi = omega (arith, r.upto) in
    rw e at r.is
