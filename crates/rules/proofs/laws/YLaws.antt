-- y's row survives what is written aside of it: before it or beyond it in the workspace. So every stage but an accepted step and a
-- modification leaves y alone (`AsideLaws`).
use Rattle.std.specs.Prelude.{◌≡◌, List, ◌++◌, ◌⊎◌, ℕ, ◌+◌, ◌-◌, ◌≤◌, ◌<◌, length, set, take, drop, Float}
use Rattle.std.proofs.Common.{sym, ap, ◌∙◌, append_assoc, inl, inr, arith, length-append, length-take, take-append-drop, drop-set-lt}
use Rattle.std.proofs.Math.Nat.{min-le_left}
use Rattle.std.proofs.Math.Seq.{drop-append-add}
use Rattle.std.proofs.lemmas.List.{take-set-le, drop-set-add}
use Rattle.loops.specs.Part.{part, over}
use Rattle.rules.specs.Places.{row, vector, y}
use Rattle.rules.proofs.laws.AsideLaws.{Survives}

-- ---- a part of a list, and what is written before it or beyond it

set_aside : (a n : ℕ) (l : List Float) (i : ℕ) (x : Float) → (i < a) ⊎ (a + n ≤ i) → part a n (set l i x) ≡ part a n l
set_aside a n l i x (inl before) = ap (take n) (drop-set-lt a l i x before)
set_aside a n l i x (inr beyond) =
    let e : a + (i - a) ≡ i = omega arith in
    let there = rw e at (drop-set-add a l (i - a) x) in
    ap (take n) there ∙ take-set-le n (drop a l) (i - a) x (omega arith)

-- past the first of two lists, the first may be any of its length
drop_past : (b : ℕ) (s t r : List Float) → length s ≡ length t → length s ≤ b → drop b (s ++ r) ≡ drop b (t ++ r)
drop_past b s t r e h =
    let past-s : length s + (b - length s) ≡ b = omega arith in
    let past-t : length t + (b - length s) ≡ b = omega arith in
    rw past-s at (drop-append-add s r (b - length s)) ∙ sym (rw past-t at (drop-append-add t r (b - length s)))

-- a part that is put anew and keeps its length leaves alone what lies beyond it
part_beyond :
    (a m b n : ℕ) (g : List Float → List Float) (l : List Float) → a + m ≤ b → length (g (part a m l)) ≡ length (part a m l) →
    part b n (over a m g l) ≡ part b n l
part_beyond a m b n g l h e =
    let rest = drop m (drop a l) in
    let same : length (take a l ++ g (part a m l)) ≡ length (take a l ++ part a m l) =
    rw (length-append (take a l) (g (part a m l)), length-append (take a l) (part a m l), e) in
    let short : length (take a l ++ g (part a m l)) ≤ b =
    rw (length-append (take a l) (g (part a m l)), e, length-take a l, length-take m (drop a l))
    (omega (arith, min-le_left a (length l), min-le_left m (length (drop a l)))) in
    let whole : (take a l ++ part a m l) ++ rest ≡ l = rw (append_assoc, take-append-drop, take-append-drop) in
    let past = drop_past b (take a l ++ g (part a m l)) (take a l ++ part a m l) rest same short in
    ap (take n) (rw (append_assoc (take a l) (g (part a m l)) rest) at past ∙ ap (drop b) whole)

-- ---- of y

-- 'the y of a workspace of n components is v' survives
pub y_survives : (n : ℕ) (v : List Float) → Survives n (λ (ws : List Float). vector n ws y ≡ v)
y_survives n v =
    record {
      set_aside = λ ws i x aside s. set_aside (row n y) n ws i x aside ∙ s;
      over_before = λ a m g ws before e s. part_beyond a m (row n y) n g ws before e ∙ s;
    }
