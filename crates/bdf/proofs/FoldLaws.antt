-- A fold of a closure over a range is the counted loop whose turn the closure takes.
use Rattle.std.specs.Prelude.{◌≡◌, refl, ℕ, zero, suc, ◌+◌, ◌-◌, [], ◌∷◌}
use Rattle.std.proofs.Common.{sym, ap, ◌∙◌, arith}
use Rattle.std.specs.List.{fold, range_with_len}
use Rattle.std.specs.Fn.{Called, Mut}
use Rattle.std.specs.Iterator.{FoldsItems}
use Rattle.std.specs.declared.ops.Range.{Range}
use Rattle.std.proofs.iter.Yields.{nat_range_steps}
use Rattle.std.proofs.lemmas.Fn.{fold_over}
use Rattle.std.proofs.lemmas.List.Sums.{fold-append}
use Rattle.std.proofs.lemmas.Iterator.{YieldsList-from_range}
use Rattle.loops.specs.Loop.{turns, loop}

turns_first : {A : Type 0} (f : ℕ → A → A) (lo k : ℕ) (s : A) → turns lo f (suc k) s ≡ turns (lo + 1) f k (f lo s)
unfolding turns
turns_first f lo zero s =
    let place : lo + 0 ≡ lo = omega arith in
    ap (λ i. f i s) place
turns_first f lo (suc k) s =
    let place : lo + suc k ≡ (lo + 1) + k = omega arith in
    ap (λ i. f i (turns lo f (suc k) s)) place ∙ ap (f ((lo + 1) + k)) (turns_first f lo k s)

fold_turns : {A : Type 0} (f : ℕ → A → A) (lo k : ℕ) (s : A) → fold (λ a i. f i a) s (range_with_len lo k) ≡ turns lo f k s
unfolding turns
fold_turns f lo zero s = refl
fold_turns f lo (suc k) s = fold_turns f (lo + 1) k (f lo s) ∙ sym (turns_first f lo k s)

-- what `fold` over lo..hi ensures, where a call at a and i gives what turn i makes of a
pub folded :
    {A F : Type 0} (g : Mut F (A × (ℕ × Unit {0})) A) (turn : ℕ → A → A) (lo hi : ℕ) (s : Range ℕ) (callee : F) (first r : A) → s ≡ record { start = lo; end = hi } →
    ((a : A) (i : ℕ) (b : A) (after : F) → Called g callee (a, (i, tt)) b after → (after ≡ callee) × (b ≡ turn i a)) →
    FoldsItems nat_range_steps g s callee first r → r ≡ loop lo hi turn first
unfolding loop
folded g turn lo hi s callee first r from says ran =
    fold_over nat_range_steps (λ x. x) g (λ ys a. a ≡ fold (λ a i. turn i a) first ys) callee
    (λ ys a x b after held call.
    let said = says a x b after call in
    (said.1 ∙ ap (turn x) held ∙ sym (fold-append (λ a i. turn i a) first ys (x ∷ [])), said.0))
    s (range_with_len lo (hi - lo)) first r (YieldsList-from_range lo hi (hi - lo) from refl).runs refl ran
    ∙ fold_turns turn lo (hi - lo) first
