-- `BDF::interpolate`: the step's polynomial at xi, in the Rust's order of operations.
-- Component i of the coefficients has 7 numbers from i * 7 on: D[0], D[1] to D[5], and the mark of the order.
use Rattle.std.specs.Prelude.{Result, Ok, Err, List, ◌||◌, ℕ, ◌+◌, ◌-◌, ◌*◌, ltb, eqb, Float, set, replicate, length}
use Rattle.std.specs.Float.Ieee
use Rattle.std.specs.Float.{binary64}
use Rattle.loops.specs.Choice.{when◌then◌else◌}
use Rattle.loops.specs.Loop.{loop}
use Rattle.loops.specs.Cell.{at}
use Rattle.loops.specs.Refusal.{Outcome, gives, refuses}
use Rattle.loops.specs.Arithmetic.{◌⊕◌, ◌⊖◌, ◌⊗◌, ◌⊘◌, float, +0, one}
use Rattle.matrix.specs.Size.{max_n}
use Rattle.interpolation.specs.declared.polynomial.InterpolationError.{InterpolationError}
use Rattle.interpolation.specs.declared.polynomial.InterpolationError.TheVariants.{TooMany, WrongLength}

-- ---- the order, from the first component's mark: `round().clamp(1.0, 5.0) as usize`, which is 0 for a NaN

abbrev 1·5 : Float
1·5 = Ieee.of_bits binary64 0x3ff8_0000_0000_0000

abbrev 2·5 : Float
2·5 = Ieee.of_bits binary64 0x4004_0000_0000_0000

abbrev 3·5 : Float
3·5 = Ieee.of_bits binary64 0x400c_0000_0000_0000

abbrev 4·5 : Float
4·5 = Ieee.of_bits binary64 0x4012_0000_0000_0000

unfoldable pub order_of : Float → ℕ
order_of mark =
    when Ieee.is_nan mark then 0 else
    when Ieee.lt mark 1·5 then 1 else
    when Ieee.lt mark 2·5 then 2 else
    when Ieee.lt mark 3·5 then 3 else
    when Ieee.lt mark 4·5 then 4 else 5

-- ---- the products of the shifted factors

-- t_shift = x_new - h * k
abbrev pub t_shift : Float → Float → ℕ → Float
t_shift x_new h k = x_new ⊖ h ⊗ float k

-- x_factors[k] = (xi - t_shift) / (h * (k + 1.0))
unfoldable pub x_factor : Float → Float → Float → ℕ → Float
x_factor xi x_new h k = (xi ⊖ t_shift x_new h k) ⊘ (h ⊗ (float k ⊕ one))

-- p[0] = x_factors[0], p[k] = p[k - 1] * x_factors[k]
unfoldable pub product_at : List Float → ℕ → Float → Float
product_at p k factor = when eqb k 0 then factor else at p (k - 1) ⊗ factor

unfoldable pub products_turn : Float → Float → Float → ℕ → List Float → List Float
products_turn xi x_new h k p = set p k (product_at p k (x_factor xi x_new h k))

unfoldable pub products : Float → Float → Float → ℕ → List Float
products xi x_new h order = loop 0 order (products_turn xi x_new h) (replicate 5 +0)

-- ---- the sums

-- sum += cont[base + 1 + k] * p[k]
unfoldable pub sum_turn : List Float → List Float → ℕ → ℕ → Float → Float
sum_turn cont p base k sum = sum ⊕ at cont (base + 1 + k) ⊗ at p k

-- from cont[base], the first coefficient, on
unfoldable pub sum_at : List Float → List Float → ℕ → ℕ → Float
sum_at cont p order i = loop 0 order (sum_turn cont p (i * 7)) (at cont (i * 7))

unfoldable pub evaluated : List Float → List Float → ℕ → List Float → List Float
evaluated cont p order yi = loop 0 (length yi) (λ i yi. set yi i (sum_at cont p order i)) yi

-- ---- the whole: what is said, and what yi then holds

-- the numbers of the refusals
abbrev pub said_of : Result (Unit {0}) InterpolationError → Outcome (Unit {0})
said_of (Ok _) = gives tt
said_of (Err TooMany) = refuses 1
said_of (Err WrongLength) = refuses 13

pub data Interpolates : Type 0 where
  says : Outcome (Unit {0}) → List Float → Interpolates

unfoldable pub values_at : Float → List Float → List Float → Float → Float → List Float
values_at xi yi cont xold h =
    when Ieee.eq h +0 || eqb (length yi) 0 then yi else
    let order = order_of (at cont 6) in
    evaluated cont (products xi (xold ⊕ h) h order) order yi

unfoldable pub interpolation : Float → List Float → List Float → Float → Float → Interpolates
interpolation xi yi cont xold h =
    when ltb max_n (length yi) then says (refuses 1) yi else
    when eqb (length cont) (7 * length yi) then says (gives tt) (values_at xi yi cont xold h) else
    says (refuses 13) yi
