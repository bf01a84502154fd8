-- Loading a row of values into a list, one after another: the places passed hold the row so far.
use Rattle.std.specs.Prelude.{◌≡◌, List, [], ◌∷◌, ◌++◌, ℕ, suc, ◌+◌, ◌<◌, length, take, set}
use Rattle.std.proofs.Common.{sym, ◌∙◌, arith}
use native.Mathlib.Numerals.{add-one}
use lib.ListN.{length-set}
use lib.Seq.{take-suc-set, take_all}

pub record Loaded {A : Type 0} (row : ℕ → List A) (k : ℕ) (to : List A) : Type 0 where
  pub passed : take k to ≡ row k

module _ {A : Type 0} (row : ℕ → List A) where
  pub none_loaded : (to : List A) → row 0 ≡ [] → Loaded row 0 to
  none_loaded to e = record { passed = sym e }

  pub one_more : (k : ℕ) (to : List A) (v : A) → Loaded row k to → k < length to → row (suc k) ≡ row k ++ (v ∷ []) → Loaded row (k + 1) (set to k v)
  one_more k to v r h e = rw add-one record { passed = take-suc-set to k v h ∙ rw (r.passed, e) }

  pub all_loaded : (k : ℕ) (to : List A) → k ≡ length to → Loaded row k to → to ≡ row (length to)
  all_loaded k to e r = rw (← e, ← r.passed) (sym (take_all k to (omega arith)))
