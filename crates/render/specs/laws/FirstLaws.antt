-- The first k from x on, by any clock: a k lies at or above x exactly from that one on.
use Rattle.std.specs.Prelude.{◌≡◌, refl, Bool, true, false, ◌⊎◌, ℕ, ◌≤◌, ◌<◌, leb, Float}
use Rattle.std.proofs.Common.{sym, ◌∙◌, true≢false, inl, inr, arith, leb-true, leb-false}
use Rattle.render.specs.Times.{past, short, first_from}
use Rattle.render.specs.laws.Clock.{Good, Clock}
use Rattle.render.specs.laws.SoughtLaws.{First, sought_first}

pub le_or_lt : (a b : ℕ) → (a ≤ b) ⊎ (b < a)
le_or_lt a b = go (leb a b) refl
  where
    go : (t : Bool) → leb a b ≡ t → (a ≤ b) ⊎ (b < a)
    go true e = inl (leb-true a b e)
    go false e = inr (leb-false a b e)

pub clash : {A : Type 0} {b : Bool} → b ≡ true → b ≡ false → A
clash p q = absurd (true≢false (sym p ∙ q))

pub false_from : (b c : Bool) → (b ≡ true → c ≡ true) → c ≡ false → b ≡ false
false_from true c f e = clash (f refl) e
false_from false c f e = refl

module _ (clock : Clock) where
  -- the least k from x on
  pub first_first : (x : Float) → Good x → First (short x) (first_from x)
  unfolding first_from
  first_first x g = sought_first (short x) (λ j k. clock.falls x j k g) 32 0 (clock.reaches x g) (λ j h. absurd (omega arith))

  -- not short of x is from first_from on
  pub from_first : (x : Float) (k : ℕ) → Good x → short x k ≡ false → first_from x ≤ k
  from_first x k g e = elim (le_or_lt (first_from x) k) [
    | inl h ↦ h
    | inr h ↦ clash ((first_first x g).below k h) e
  ]

  pub first_from_lem : (x : Float) (k : ℕ) → Good x → first_from x ≤ k → short x k ≡ false
  first_from_lem x k g h = false_from (short x k) (short x (first_from x)) (clock.falls x (first_from x) k g h) (first_first x g).fails

  pub not_past : (x : Float) (j k : ℕ) → Good x → j ≤ k → past x k ≡ false → past x j ≡ false
  not_past x j k g h e = false_from (past x j) (past x k) (clock.rises x j k g h) e
