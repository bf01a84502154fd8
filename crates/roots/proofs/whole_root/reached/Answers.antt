-- `roots::whole_root::reached` meets its contract. With m = h * 2 ^ 26 + l its square is h * h * 2 ^ 52 + h * l * 2 ^ 27 + l * l, and
-- h * l * 2 ^ 27 is split at 2 ^ 52. Of two numbers of which one is a multiple of 2 ^ 52 the upper words tell which is less.
-- Assumes nothing.
use mathlib.Core.Path.{◌≡◌, refl, sym, ap, ◌∙◌}
use mathlib.Core.Bool.{Bool, true, false}
use Prim.Native.Nat.{ℕ, ◌+◌, ◌-◌, ◌*◌, ◌/◌, ◌%◌, ◌^◌, ◌≤◌, ◌<◌}
use native.Mathlib.Nat.{mul-le-mul, div-add-mod'}
use native.Mathlib.Omega.{arith}
use borrow.Author.Tests.{ltb-true, ltb-false, lt-ltb, le-ltb}
use lib.Dec.{ltb}
use Rattle.roots.proofs.whole_root.reached.Goals as goal

-- the two words of the square
abbrev high : ℕ → ℕ → ℕ
high h l = h * h + h * l / 2 ^ 25

abbrev low : ℕ → ℕ → ℕ
low h l = h * l % 2 ^ 25 * 2 ^ 27 + l * l

words : (h l : ℕ) → (h * 2 ^ 26 + l) * (h * 2 ^ 26 + l) ≡ high h l * 2 ^ 52 + low h l
words h l = omega arith

square : (m : ℕ) → m * m ≡ high (m / 2 ^ 26) (m % 2 ^ 26) * 2 ^ 52 + low (m / 2 ^ 26) (m % 2 ^ 26)
square m = ap (λ (x : ℕ). x * x) (sym (div-add-mod' m (2 ^ 26))) ∙ words (m / 2 ^ 26) (m % 2 ^ 26)

same_test : (a b c d : ℕ) → (a < b → c < d) → (b ≤ a → d ≤ c) → ltb a b ≡ ltb c d
same_test a b c d less more = by (ltb a b) refl
  where
    by : (t : Bool) → ltb a b ≡ t → ltb a b ≡ ltb c d
    by true e = e ∙ sym (lt-ltb c d (less (ltb-true a b e)))
    by false e = e ∙ sym (le-ltb c d (more (ltb-false a b e)))

upper_words : (h l m n : ℕ) → m ≤ 2 ^ 53 + 1 → ltb (h + (l + (3 * 2 ^ 52 - m)) / 2 ^ 52) (n + 3) ≡ ltb (h * 2 ^ 52 + l) (n * 2 ^ 52 + m)
upper_words h l m n small =
    same_test (h + (l + (3 * 2 ^ 52 - m)) / 2 ^ 52) (n + 3) (h * 2 ^ 52 + l) (n * 2 ^ 52 + m) (λ less. omega arith) (λ more. omega arith)

-- each product fits
record Small (h l : ℕ) : Type 0 where
  hl : h * l ≤ 2 ^ 53
  hh : h * h ≤ 2 ^ 54
  ll : l * l ≤ 2 ^ 52

small : (m : ℕ) → m ≤ 2 ^ 53 + 1 → Small (m / 2 ^ 26) (m % 2 ^ 26)
small m h =
    let upper : m / 2 ^ 26 ≤ 2 ^ 27 = omega arith in
    let lower : m % 2 ^ 26 ≤ 2 ^ 26 = omega arith in
    record { hl = mul-le-mul upper lower; hh = mul-le-mul upper upper; ll = mul-le-mul lower lower }

pub overflow_mul-p : goal.overflow_mul-p
overflow_mul-p c = omega (arith, (small c.args.m c.requires.0).hl)

pub overflow_mul-high : goal.overflow_mul-high
overflow_mul-high c = omega (arith, (small c.args.m c.requires.0).hh)

pub overflow_add-high : goal.overflow_add-high
overflow_add-high c = omega (arith, small c.args.m c.requires.0)

pub overflow_mul-low-2 : goal.overflow_mul-low-2
overflow_mul-low-2 c = omega (arith, (small c.args.m c.requires.0).ll)

pub overflow_add-low : goal.overflow_add-low
overflow_add-low c = omega (arith, small c.args.m c.requires.0)

pub overflow_add-result : goal.overflow_add-result
overflow_add-result c = omega (arith, small c.args.m c.requires.0)

pub overflow_add-result-2 : goal.overflow_add-result-2
overflow_add-result-2 c = omega (arith, small c.args.m c.requires.0)

pub returns : goal.returns
returns c =
    let m = c.args.m in
    let n = c.args.n in
    upper_words (high (m / 2 ^ 26) (m % 2 ^ 26)) (low (m / 2 ^ 26) (m % 2 ^ 26)) m n c.requires.0
    ∙ ap (λ (s : ℕ). ltb s (n * 2 ^ 52 + m)) (sym (square m))
