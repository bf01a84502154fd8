-- The contract of `interpolate` leaves no choice: two outcomes that meet it, from the same numbers, are the same answer and the
-- same yi.
use Rattle.std.specs.Prelude.{◌≡◌, refl, Result, Ok, Err, List, eqb, Float}
use Rattle.std.proofs.Common.{sym, ap, ◌∙◌}
use Rattle.loops.specs.Choice.{when◌then◌else◌}
use Rattle.loops.specs.Refusal.{Outcome, gives, refuses}
use Rattle.interpolation.specs.declared.polynomial.InterpolationError.{InterpolationError}
use Rattle.interpolation.specs.declared.polynomial.InterpolationError.TheVariants.{TooMany, WrongLength}
use Rattle.interpolation.specs.Interpolate.{Interpolates, says, said_of, interpolation}

-- the contract: answer r, with yi as the values after the call
abbrev pub MeetsInterpolate : Float → List Float → List Float → Float → Float → Result (Unit {0}) InterpolationError → List Float → Type 0
MeetsInterpolate xi yi₀ cont xold h r yi = says (said_of r) yi ≡ interpolation xi yi₀ cont xold h

-- what an outcome's two parts are, and the answer that its first part tells
abbrev saying : Interpolates → Outcome (Unit {0})
saying (says r yi) = r

abbrev leaving : Interpolates → List Float
leaving (says r yi) = yi

unfoldable told : Outcome (Unit {0}) → Result (Unit {0}) InterpolationError
told (gives _) = Ok tt
told (refuses k) = Err (when eqb k 1 then TooMany else WrongLength)

answer_read : (r : Result (Unit {0}) InterpolationError) → told (said_of r) ≡ r
unfolding told when◌then◌else◌
answer_read (Ok tt) = refl
answer_read (Err TooMany) = refl
answer_read (Err WrongLength) = refl

pub interpolate_unique :
    (xi : Float) (yi₀ cont : List Float) (xold h : Float) {r s : Result (Unit {0}) InterpolationError} {yi yj : List Float} →
    MeetsInterpolate xi yi₀ cont xold h r yi → MeetsInterpolate xi yi₀ cont xold h s yj → (r ≡ s) × (yi ≡ yj)
interpolate_unique xi yi₀ cont xold h {r} {s} m o =
    let same = m ∙ sym o in
    (sym (answer_read r) ∙ ap told (ap saying same) ∙ answer_read s, ap leaving same)
