-- Equal doubles, and a double at or below another, in units: finite ones are equal where neither lies below the other.
use Rattle.std.specs.Prelude.{◌≡◌, refl, Bool, true, false, not, ◌&&◌, ◌||◌, ℕ, ◌+◌, ◌*◌, ◌≤◌, ◌<◌, eqb, Float}
use Rattle.std.proofs.Common.{sym, ap, ◌∙◌, le_antisymm, arith, eqb-true, ltb-true, ltb-false, le-ltb, eq-eqb}
use Rattle.std.specs.Bool.{beq}
use Rattle.std.proofs.lemmas.Bool.{false≢true}
use Rattle.std.specs.Float.{nan, inf, fin}
use Rattle.std.specs.Float.Ieee.{up, down, below, level, lt, eq, le}
use Rattle.loops.specs.laws.ChoiceLaws.{and_first, and_second}
use Rattle.roots.proofs.laws.Units.{SignClear}
use Rattle.loops.specs.Arithmetic.{◌⊕◌}
use Rattle.floats.specs.Units.{Finite, over, under}
use Rattle.floats.specs.laws.Sums.{lt_signed, clear_over, sum_below}
use Rattle.floats.specs.laws.Products.{clear_finite}

level_below : (s : Bool) (a : ℕ) (t : Bool) (b : ℕ) → level s a t b ≡ true → below s a t b ≡ false
level_below true a true b e = let h = eqb-true a b (and_first (eqb a b) true e) in le-ltb b a (omega arith)
level_below true a false b e =
    let h = eqb-true a b (and_first (eqb a b) (eqb a 0) e) in
    let z = eqb-true a 0 (and_second (eqb a b) (eqb a 0) e) in
    le-ltb 0 (a + b) (omega arith)
level_below false a true b e = refl
level_below false a false b e = let h = eqb-true a b (and_first (eqb a b) true e) in le-ltb a b (omega arith)

level_above : (s : Bool) (a : ℕ) (t : Bool) (b : ℕ) → level s a t b ≡ true → below t b s a ≡ false
level_above true a true b e = let h = eqb-true a b (and_first (eqb a b) true e) in le-ltb a b (omega arith)
level_above true a false b e = refl
level_above false a true b e =
    let h = eqb-true a b (and_first (eqb a b) (eqb a 0) e) in
    let z = eqb-true a 0 (and_second (eqb a b) (eqb a 0) e) in
    le-ltb 0 (b + a) (omega arith)
level_above false a false b e = let h = eqb-true a b (and_first (eqb a b) true e) in le-ltb b a (omega arith)

equal_below : (x y : Float) → Finite x → Finite y → eq x y ≡ true → (lt x y ≡ false) × (lt y x ≡ false)
unfolding eq lt
equal_below nan y p q e = absurd p
equal_below (inf s) y p q e = absurd p
equal_below (fin s m k) nan p q e = absurd q
equal_below (fin s m k) (inf t) p q e = absurd q
equal_below (fin s m k) (fin t n d) p q e =
    (level_below s (m * up k * down d) t (n * up d * down k) e, level_above s (m * up k * down d) t (n * up d * down k) e)

pub not_lt : (x y : Float) → Finite x → Finite y → lt x y ≡ false → over y + under x ≤ over x + under y
not_lt x y p q e = ltb-false (over x + under y) (over y + under x) (sym (lt_signed x y p q) ∙ e)

pub is_lt : (x y : Float) → Finite x → Finite y → lt x y ≡ true → over x + under y < over y + under x
is_lt x y p q e = ltb-true (over x + under y) (over y + under x) (sym (lt_signed x y p q) ∙ e)

pub equal_units : (x y : Float) → Finite x → Finite y → eq x y ≡ true → over x + under y ≡ over y + under x
equal_units x y p q e =
    let b = equal_below x y p q e in
    le_antisymm (not_lt y x q p b.1) (not_lt x y p q b.0)

pub le_units : (x y : Float) → Finite x → Finite y → le x y ≡ true → over x + under y ≤ over y + under x
unfolding le
le_units x y p q e = go (lt x y) (eq x y) refl refl e
  where
    go : (b c : Bool) → lt x y ≡ b → eq x y ≡ c → (b || c) ≡ true → over x + under y ≤ over y + under x
    go true c l m e = let h = is_lt x y p q l in omega arith
    go false true l m e = let h = equal_units x y p q m in omega arith
    go false false l m e = absurd (false≢true e)

-- ---- and back: what is neither below nor above is equal

below_level : (s : Bool) (a : ℕ) (t : Bool) (b : ℕ) → below s a t b ≡ false → below t b s a ≡ false → level s a t b ≡ true
below_level true a true b p q = let e : a ≡ b = omega (arith, ltb-false b a p, ltb-false a b q) in rw (eq-eqb a b e)
below_level true a false b p q =
    let z : a + b ≤ 0 = ltb-false 0 (a + b) p in
    rw (eq-eqb a b (let e : a ≡ b = omega arith in e), eq-eqb a 0 (let e : a ≡ 0 = omega arith in e))
below_level false a true b p q =
    let z : b + a ≤ 0 = ltb-false 0 (b + a) q in
    rw (eq-eqb a b (let e : a ≡ b = omega arith in e), eq-eqb a 0 (let e : a ≡ 0 = omega arith in e))
below_level false a false b p q = let e : a ≡ b = omega (arith, ltb-false a b p, ltb-false b a q) in rw (eq-eqb a b e)

beside_equal : (x y : Float) → Finite x → Finite y → lt x y ≡ false → lt y x ≡ false → eq x y ≡ true
unfolding eq lt
beside_equal nan y p q e g = absurd p
beside_equal (inf s) y p q e g = absurd p
beside_equal (fin s m k) nan p q e g = absurd q
beside_equal (fin s m k) (inf t) p q e g = absurd q
beside_equal (fin s m k) (fin t n d) p q e g = below_level s (m * up k * down d) t (n * up d * down k) e g

-- of finite doubles, at or below is not above
pub le_not_above : (x y : Float) → Finite x → Finite y → le x y ≡ not (lt y x)
unfolding le
le_not_above x y p q = go (lt y x) (lt x y) refl refl
  where
    go : (b c : Bool) → lt y x ≡ b → lt x y ≡ c → (lt x y || eq x y) ≡ not b
    go b true l m = rw m (sym (ap not (sym l ∙ asym)))
      where
        asym : lt y x ≡ false
        asym = let h = is_lt x y p q m in lt_signed y x q p ∙ le-ltb (over y + under x) (over x + under y) (omega arith)
    go true false l m = rw m (neither (eq x y) (λ e. (equal_below x y p q e).1) l)
      where
        neither : (c : Bool) → (c ≡ true → lt y x ≡ false) → lt y x ≡ true → c ≡ false
        neither true f l = sym l ∙ f refl
        neither false f l = refl
    go false false l m = rw (m, beside_equal x y p q m l)

-- a step with h not below 0 leads to no smaller x
pub step_forward : (x h : Float) → Finite x → SignClear h → lt (x ⊕ h) x ≡ false
step_forward x h p c = go (lt (x ⊕ h) x) refl
  where
    go : (b : Bool) → lt (x ⊕ h) x ≡ b → b ≡ false
    go true e =
        let k = clear_over h c in
        let s = sum_below x h x p (clear_finite h c) p (rw e tt) in
        absurd (omega arith)
    go false e = refl

-- of any two doubles, equal ones are not apart
same_signs : (s t : Bool) → beq s t ≡ true → (t && not s) ≡ false
same_signs true true e = refl
same_signs true false e = refl
same_signs false true e = sym e
same_signs false false e = refl

pub equal_above : (x y : Float) → eq x y ≡ true → lt y x ≡ false
unfolding eq lt
equal_above nan y e = absurd (false≢true e)
equal_above (inf s) nan e = absurd (false≢true e)
equal_above (inf s) (inf t) e = same_signs s t e
equal_above (inf s) (fin t n d) e = absurd (false≢true e)
equal_above (fin s m k) nan e = absurd (false≢true e)
equal_above (fin s m k) (inf t) e = absurd (false≢true e)
equal_above (fin s m k) (fin t n d) e = level_above s (m * up k * down d) t (n * up d * down k) e

-- nothing lies above infinity
pub none_above : (v : Float) → lt (inf false) v ≡ false
unfolding lt
none_above nan = refl
none_above (inf t) = refl
none_above (fin t m e) = refl
