-- What holds of lines put on a page: nothing put leaves the page, the place stays within it, and the bytes before it are those that
-- stood there and the line.
use Rattle.std.specs.Prelude.{◌≡◌, refl, true, List, [], ◌++◌, ℕ, ◌+◌, ◌≤◌, leb, ltb, length, take, Float, None, Some}
use Rattle.std.proofs.Common.{true≢false, sym, ◌∙◌, arith, take-append-drop, take_all, leb-true, ltb-true, ltb-false}
use Rattle.std.proofs.Math.Seq.{take-length}
use Rattle.loops.specs.Choice.{when◌then◌else◌}
use Rattle.loops.specs.laws.ChoiceLaws.{either}
use Rattle.text.specs.Page.{Sheet as Put, puts, room_for}
use Rattle.text.specs.laws.PageLaws.{puts_whole, before_next, length_laid}

pub nothing_put : (p : Put) → room_for 0 p.0 (length p.1) ≡ true → puts [] p ≡ p
nothing_put (None, out) room = absurd (true≢false (sym room))
nothing_put (Some at, out) room =
    let inside : at + 0 ≤ length out = leb-true (at + 0) (length out) room in
    let none : at + length {A = ℕ} [] ≡ at = omega arith in
    puts_whole [] at out (omega arith) ∙ rw (none, take-append-drop at out) refl

-- where a text was put, at `at` on the page `out`: the next place lies within it, and before it stand what stood there and the text.
-- Where it had no room the page is as it was
abbrev pub PutAt : List ℕ → ℕ → List ℕ → Put → Type 0
PutAt t at out (Some next, page) = (next ≤ length page) × (take next page ≡ take at out ++ t)
PutAt t at out (None, page) = page ≡ out

pub put_at : (t : List ℕ) (at : ℕ) (out : List ℕ) → PutAt t at out (puts t (Some at, out))
unfolding puts
put_at t at out =
    either (PutAt t at out) (leb (at + length t) (length out))
    (λ e. let room = leb-true (at + length t) (length out) e in (omega (arith, length_laid t at out room), before_next t at out room))
    (λ _. refl)

-- a part that is cut at the lesser of a number and the length
pub taken_within : (n : ℕ) (l : List Float) → take (when ltb n (length l) then n else length l) l ≡ take n l
taken_within n l =
    either (λ (k : ℕ). take k l ≡ take n l) (ltb n (length l)) (λ _. refl)
    (λ e. take-length l ∙ sym (take_all n l (ltb-false n (length l) e)))

-- the lesser of a number and a length is within the length
pub lesser_within : (n len : ℕ) {r : ℕ} → r ≡ (when ltb n len then n else len) → r ≤ len
lesser_within n len e =
    rw e (either (λ (k : ℕ). k ≤ len) (ltb n len) (λ less. omega (arith, ltb-true n len less)) (λ _. omega arith))
