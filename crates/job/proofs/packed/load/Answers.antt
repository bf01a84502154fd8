-- `packed::load` meets its contract. The invariant: the places passed hold their numbers. Assumes nothing.
use Rattle.std.specs.Prelude.{◌≡◌, refl, List, [], ◌∷◌, ◌++◌, map, ℕ, suc, ◌+◌}
use Rattle.std.proofs.Common.{arith}
use Rattle.std.proofs.lemmas.List.{map-append}
use Rattle.job.specs.Packed.{word_of, words_of}
use Rattle.job.proofs.Loading.{none_loaded, one_more, all_loaded}
use Rattle.job.proofs.packed.load.Goals as goal

module _ {A : Type 0} (of_word : ℕ → A) (s : List ℕ) (i : ℕ) where
  none_yet : map of_word (words_of s i 0) ≡ []
  unfolding words_of
  none_yet = refl

  next : (k : ℕ) {w : ℕ} {v : A} → w ≡ word_of s (i + k) → v ≡ of_word w → map of_word (words_of s i (suc k)) ≡ map of_word (words_of s i k) ++ (v ∷ [])
  unfolding words_of
  next k e f = rw (f, e) (map-append of_word (words_of s i k) (word_of s (i + k) ∷ []))

pub loop-k-init : goal.loop-k-init
loop-k-init g c = none_loaded _ _ (none_yet _ _ _)

pub loop-k-preserved : goal.loop-k-preserved
loop-k-preserved g c = one_more _ _ _ _ c.loop-k.invariant (omega (arith, c.loop-k.auto.to)) (next _ _ _ _ c.word.ensures c.of_word.ensures)

pub returns : goal.returns
returns g c = let size = c.loop-k.auto.to in rw (← size) (all_loaded _ _ _ (omega arith) c.loop-k.invariant)
