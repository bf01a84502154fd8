-- What a row of checks that passed says: each test of it was false, each condition of it held.
use Rattle.std.specs.Prelude.{◌≡◌, refl, Bool, true, false, ◌||◌, ℕ, Result, Ok, Err, ⊤}
use Rattle.std.proofs.Common.{arith}
use Rattle.loops.specs.Choice.{when◌then◌else◌}
use Rattle.rules.specs.Types.{Refusal}

pub refusal_is_no_pass : (why : Refusal) → ◌≡◌ {A = Result ⊤ Refusal} (Err why) (Ok tt) → ⊥
refusal_is_no_pass why e = let z : ◌≡◌ {A = ℕ} 0 1 = cc in omega arith

-- a check that refuses on a test: passed, the test was false, and what comes after passed
pub passed_test : (b : Bool) (why : Refusal) (x : Result ⊤ Refusal) → (when b then Err why else x) ≡ Ok tt → b ≡ false
unfolding when◌then◌else◌
passed_test true why x e = absurd (refusal_is_no_pass why e)
passed_test false why x e = refl

pub passed_rest : (b : Bool) (why : Refusal) (x : Result ⊤ Refusal) → (when b then Err why else x) ≡ Ok tt → x ≡ Ok tt
unfolding when◌then◌else◌
passed_rest true why x e = absurd (refusal_is_no_pass why e)
passed_rest false why x e = e

-- a check that refuses unless a condition holds
pub passed_condition : (b : Bool) (why : Refusal) (x : Result ⊤ Refusal) → (when b then x else Err why) ≡ Ok tt → b ≡ true
unfolding when◌then◌else◌
passed_condition true why x e = refl
passed_condition false why x e = absurd (refusal_is_no_pass why e)

pub passed_way : (b : Bool) (why : Refusal) (x : Result ⊤ Refusal) → (when b then x else Err why) ≡ Ok tt → x ≡ Ok tt
unfolding when◌then◌else◌
passed_way true why x e = e
passed_way false why x e = absurd (refusal_is_no_pass why e)

-- of tests joined by `||` that are false together, each is false
pub or_first : (b c : Bool) → (b || c) ≡ false → b ≡ false
or_first true c e = e
or_first false c e = refl

pub or_second : (b c : Bool) → (b || c) ≡ false → c ≡ false
or_second true true e = e
or_second true false e = refl
or_second false c e = e
