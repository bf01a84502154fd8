-- What holds of a choice by a test, and of rows of tests.
use Rattle.std.specs.Prelude.{◌≡◌, refl, Bool, true, false, ◌&&◌}
use Rattle.loops.specs.Choice.{when◌then◌else◌}

-- what holds of either way holds of the choice
pub either : {A : Type 0} (P : A → Type 0) (b : Bool) {x y : A} → (b ≡ true → P x) → (b ≡ false → P y) → P (when b then x else y)
unfolding when◌then◌else◌
either P true f g = f refl
either P false f g = g refl

-- the way that a test takes
pub when_true : {A : Type 0} {b : Bool} (x y : A) → b ≡ true → (when b then x else y) ≡ x
unfolding when◌then◌else◌
when_true x y t = rw t

pub when_false : {A : Type 0} {b : Bool} (x y : A) → b ≡ false → (when b then x else y) ≡ y
unfolding when◌then◌else◌
when_false x y t = rw t

-- a function of a choice is the choice of its values by the same test; each way may use how the test went
pub through :
    {A B : Type 0} (m : A → B) {b b' : Bool} {x y : A} {x' y' : B} → b' ≡ b → (b ≡ true → x' ≡ m x) → (b ≡ false → y' ≡ m y) →
    (when b' then x' else y') ≡ m (when b then x else y)
unfolding when◌then◌else◌
through m {b = true} t e f = rw t (e refl)
through m {b = false} t e f = rw t (f refl)

-- a test that cannot pass fails
pub false_unless : (b : Bool) → (b ≡ true → ⊥) → b ≡ false
false_unless true f = absurd (f refl)
false_unless false f = refl

-- a row of tests joined by `&&` fails where its second half fails whenever its first half passed
pub and_fails : (b : Bool) {c : Bool} → (b ≡ true → c ≡ false) → (b && c) ≡ false
and_fails true f = f refl
and_fails false f = refl

pub and_passes : {b c : Bool} → b ≡ true → c ≡ true → (b && c) ≡ true
and_passes p q = rw (p, q)

-- and where it passes, so do both halves
pub and_first : (b c : Bool) → (b && c) ≡ true → b ≡ true
and_first true c t = refl
and_first false c t = t

pub and_second : (b c : Bool) → (b && c) ≡ true → c ≡ true
and_second true c t = t
and_second false true t = refl
and_second false false t = t
