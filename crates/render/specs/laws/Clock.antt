-- What is asked of the times: they rise with k, equal x have the same times past them, and for an x in range the 32 halvings suffice.
use Rattle.std.specs.Prelude.{◌≡◌, true, false, ℕ, ◌-◌, ◌^◌, ◌≤◌, T, Float}
use Rattle.std.proofs.Common.{sym, subst}
use Rattle.std.specs.Float.Ieee
use Rattle.std.specs.Float.{binary64}
use Rattle.std.specs.Float.Ieee.{fits}
use Rattle.render.specs.Times.{past, short, within}

pub record Good (x : Float) : Type 0 where
  pub fitting : T (fits binary64 x)
  pub inside : within x ≡ true

pub good : (x : Float) → fits binary64 x ≡ true → within x ≡ true → Good x
good x f w = record { fitting = subst T (sym f) tt; inside = w }

pub record Clock : Type 0 where
  pub rises : (x : Float) (j k : ℕ) → Good x → j ≤ k → past x j ≡ true → past x k ≡ true
  pub falls : (x : Float) (j k : ℕ) → Good x → j ≤ k → short x k ≡ true → short x j ≡ true
  pub same : (x y : Float) (k : ℕ) → Good x → Good y → Ieee.eq x y ≡ true → past x k ≡ past y k
  pub before : (x y : Float) (k : ℕ) → Good x → Good y → Ieee.lt y x ≡ false → past y k ≡ true → past x k ≡ true
  pub reaches : (x : Float) → Good x → short x (2 ^ 32 - 1) ≡ false
