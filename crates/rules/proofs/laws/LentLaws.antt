-- A part of a slice that was lent and came back: the slice is then as it was, with what the borrower made of the part in its place.
use Rattle.std.specs.Prelude.{◌≡◌, List, ℕ}
use Rattle.loops.specs.Part.{part, over}

-- k places from a on were lent, and ys came back: g of what they held
pub came_back :
    {A : Type 0} {a k b m : ℕ} {ys : List A} (g : List A → List A) (l : List A) →
    a ≡ b → k ≡ m → ys ≡ g (part a k l) → over a k (λ _. ys) l ≡ over b m g l
came_back g l e f h = rw (h, e, f)
