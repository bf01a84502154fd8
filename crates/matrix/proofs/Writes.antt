-- When steps on a list of floats commute: a step that writes one place, and one that exchanges two, pass each other where neither
-- writes what the other reads or writes. Here also: when two cells of a matrix are different places.
use mathlib.Core.Path.{◌≡◌, refl, sym}
use mathlib.Core.Bool.{Bool, true, false}
use mathlib.Core.List.{List}
use mathlib.Core.Logic.{⊎_elim}
use Prim.Native.Nat.{ℕ, ◌+◌, ◌-◌, ◌*◌, ◌≤◌, ◌<◌}
use native.Mathlib.Nat.{mul-le-mul_right, eq-zero-or-pos}
use native.Mathlib.Omega.{arith}
use lib.ListN.{set}
use lib.Seq.{set_comm, get_or-set_other}
use lib.Ieee.{Float, nan}
use Rattle.loops.specs.Choice.{when◌then◌else◌}
use Rattle.loops.specs.Cell.{at}
use Rattle.loops.specs.laws.Order.{Commute}

-- ---- steps

-- the value at p becomes v of the list
abbrev pub write : ℕ → (List Float → Float) → List Float → List Float
write p v s = set s p (v s)

-- the values at p and q change places
abbrev pub exchange : ℕ → ℕ → List Float → List Float
exchange p q s = set (set s p (at s q)) q (at s p)

-- v does not read the place q
abbrev pub Blind : (List Float → Float) → ℕ → Type 0
Blind v q = (s : List Float) (x : Float) → v (set s q x) ≡ v s

abbrev pub Apart : ℕ → ℕ → Type 0
Apart p q = p ≡ q → ⊥

pub writes_commute : (p q : ℕ) (v w : List Float → Float) → Apart p q → Blind v q → Blind w p → Commute (write p v) (write q w)
writes_commute p q v w ne bv bw s = rw (bv s (w s), bw s (v s)) (set_comm s q p (w s) (v s) (λ e. ne (sym e)))

pub exchange_commutes : (p q r : ℕ) (v : List Float → Float) → Apart p q → Apart p r → Blind v q → Blind v r → Commute (exchange q r) (write p v)
exchange_commutes p q r v nq nr bq br s =
    rw (
      get_or-set_other s p r (v s) nan (λ e. nr (sym e)),
      get_or-set_other s p q (v s) nan (λ e. nq (sym e)),
      br (set s q (at s r)) (at s q),
      bq s (at s r),
      set_comm s p q (v s) (at s r) nq,
    )
    (set_comm (set s q (at s r)) p r (v s) (at s q) nr)

-- a step that is done only where a test fails
pub choice_commutes : (b : Bool) (f g : List Float → List Float) → Commute f g → Commute (λ s. when b then s else f s) g
unfolding when◌then◌else◌
choice_commutes true f g c s = refl
choice_commutes false f g c s = c s

-- ---- cells

-- a cell of an earlier row lies before every cell of a later one
row_before : (n : ℕ) {r r' c : ℕ} (c' : ℕ) → c < n → r < r' → r * n + c < r' * n + c'
row_before n {r} {r'} c' h o = let rows : (r + 1) * n ≤ r' * n = mul-le-mul_right n (omega arith) in omega arith

pub three_ways : {P : Type 0} (x y : ℕ) → (x < y → P) → (x ≡ y → P) → (y < x → P) → P
three_ways x y less same more =
    ⊎_elim (λ z. ⊎_elim (λ z'. same (omega arith)) (λ o. more (omega arith)) (eq-zero-or-pos (x - y))) (λ o. less (omega arith))
    (eq-zero-or-pos (y - x))

pub rows_apart : (n r r' c c' : ℕ) → c < n → c' < n → Apart r r' → Apart (r * n + c) (r' * n + c')
rows_apart n r r' c c' h h' ne e = three_ways r r' (λ o. omega (arith, row_before n c' h o)) ne (λ o. omega (arith, row_before n c h' o))

pub columns_apart : (n r r' c c' : ℕ) → c < n → c' < n → Apart c c' → Apart (r * n + c) (r' * n + c')
columns_apart n r r' c c' h h' ne e =
    three_ways r r' (λ o. omega (arith, row_before n c' h o))
    (λ same. ne (let f : r' * n + c ≡ r' * n + c' = rw same at e in omega arith))
    (λ o. omega (arith, row_before n c h' o))
