-- What the question slice tells is the workspace's y, and a modification's values are the workspace's y afterwards: n places are
-- loaded whole, and what is loaded after them lies beyond.
use Rattle.std.specs.Prelude.{◌≡◌, refl, List, ℕ, ◌+◌, ◌*◌, ◌≤◌, length, take, drop, Float}
use Rattle.std.proofs.Common.{sym, ap, ◌∙◌, arith, length-drop, length-take-le, take_at, drop_at}
use Rattle.loops.specs.Part.{part}
use Rattle.rules.specs.Places.{need, row, cont, y, vector}
use Rattle.rules.specs.Moves.{loaded}
use Rattle.rules.specs.Attempt.{told}
use Rattle.rules.specs.Reply.{differences}
use Rattle.rules.proofs.laws.PartLaws.{loaded_over}
use Rattle.rules.proofs.laws.AsideLaws.{differences_keep}
use Rattle.rules.proofs.laws.LengthLaws.{long_survives, loaded_long}

-- the vector at a row, in the first n places
told_first : (n v : ℕ) (ws q : List Float) → row n v + n ≤ length ws → n ≤ length q → take n (told n v ws q) ≡ part (row n v) n ws
told_first n v ws q h k =
    let long : length (part (row n v) n ws) ≡ n = length-take-le n (drop (row n v) ws) (rw (length-drop (row n v) ws) (omega arith)) in
    rw (loaded_over ws (row n v) 0 n q h (omega arith)) (take_at (part (row n v) n ws) _ n long)

-- and on a step's notice the coefficients after it
pub notice_first :
    (n v : ℕ) (ws q : List Float) → row n v + n ≤ length ws → row n cont + 7 * n ≤ length ws → 8 * n ≤ length q →
    take n (loaded ws (row n cont) n (7 * n) (told n v ws q)) ≡ part (row n v) n ws
notice_first n v ws q h k room =
    let kept : length (told n v ws q) ≡ length q = loaded_long (length q) ws (row n v) 0 n q refl in
    rw (loaded_over ws (row n cont) n (7 * n) (told n v ws q) k (omega arith))
    (take_at (take n (told n v ws q)) _ n (length-take-le n (told n v ws q) (omega arith)))
    ∙ told_first n v ws q h (omega arith)

-- y at a start, beside its differences
pub differences_told :
    (n : ℕ) (size direction : Float) (ws q : List Float) → length ws ≡ need n → 8 * n ≤ length q →
    let w = differences n size direction ws in vector n w y ≡ take n (told n y w q)
differences_told n size direction ws q long asks =
    let wide = differences_keep (long_survives (need n) n) size direction ws long in
    sym (told_first n y (differences n size direction ws) q (omega arith) (omega arith))

-- values that are stored as y
pub loaded_is :
    (values : List Float) (n : ℕ) (ws : List Float) → n ≤ length values → row n y + n ≤ length ws →
    vector n (loaded values 0 (row n y) n ws) y ≡ take n values
loaded_is values n ws h k =
    let front : length (take (row n y) ws) ≡ row n y = length-take-le (row n y) ws (omega arith) in
    rw (loaded_over values 0 (row n y) n ws (omega arith) k)
    (ap (take n) (drop_at (take (row n y) ws) _ (row n y) front) ∙ take_at (take n values) _ n (length-take-le n values h))
