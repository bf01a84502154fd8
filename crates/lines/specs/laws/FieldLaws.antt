-- What holds of fields put one after the other: where the page has room for the line, they are the line put at once; and
-- how long a line is.
use Rattle.std.specs.Prelude.{◌≡◌, refl, true, false, List, [], ◌∷◌, ◌++◌, ℕ, ◌+◌, ◌*◌, ◌≤◌, T, length, Float, Option, None, Some}
use Rattle.std.proofs.Common.{sym, subst, append_assoc, append-nil, arith, length-append, leb-true}
use Rattle.std.specs.Float.{binary64}
use Rattle.std.specs.Float.Ieee.{to_bits}
use Rattle.loops.specs.Choice.{when◌then◌else◌}
use Rattle.loops.specs.laws.ChoiceLaws.{when_false}
use Rattle.text.specs.Digits.{decimal, hexadecimal, places_within, places_of}
use Rattle.text.specs.laws.DigitLaws.{length_spelled}
use Rattle.text.specs.Page.{Sheet, puts, room_for}
use Rattle.text.specs.laws.PageLaws.{puts_joined}
use Rattle.lines.specs.Types.{Status, Success, UserInterrupt, NeedLargerNMax, StepSizeTooSmall, Steps, Evals}
use Rattle.lines.specs.Lines.{spaced, line, hexes, status_of, steps_fields, evals_fields, end_fields, end_line, refusal_line}
use Rattle.lines.specs.Fields.{puts_fields, puts_line}

-- ---- the line put at once

-- fields after the text t
fields_joined : (fs : List (List ℕ)) (t : List ℕ) (at : ℕ) (out : List ℕ) → at + length (t ++ spaced fs) ≤ length out
    → puts_fields fs (puts t (Some at, out)) ≡ puts (t ++ spaced fs) (Some at, out)
unfolding puts_fields spaced
fields_joined [] t at out room = rw append-nil
fields_joined (f ∷ fs) t at out room =
    let all : t ++ (32 ∷ (f ++ spaced fs)) ≡ ((t ++ (32 ∷ [])) ++ f) ++ spaced fs = rw (append_assoc, append_assoc) in
    let whole : at + length (((t ++ (32 ∷ [])) ++ f) ++ spaced fs) ≤ length out = rw all at room in
    let parted : length (((t ++ (32 ∷ [])) ++ f) ++ spaced fs) ≡ length ((t ++ (32 ∷ [])) ++ f) + length (spaced fs) =
    length-append ((t ++ (32 ∷ [])) ++ f) (spaced fs) in
    let first : length ((t ++ (32 ∷ [])) ++ f) ≡ length (t ++ (32 ∷ [])) + length f = length-append (t ++ (32 ∷ [])) f in
    rw (puts_joined t (32 ∷ []) at out (omega arith), puts_joined (t ++ (32 ∷ [])) f at out (omega arith), all)
    (fields_joined fs ((t ++ (32 ∷ [])) ++ f) at out whole)

line_joined : (letter : ℕ) (fs : List (List ℕ)) (at : ℕ) (out : List ℕ) → at + length (line letter fs) ≤ length out
    → puts_line letter fs (Some at, out) ≡ puts (line letter fs) (Some at, out)
unfolding puts_line line
line_joined letter fs at out room =
    let parted : length (spaced fs ++ (10 ∷ [])) ≡ length (spaced fs) + 1 = length-append (spaced fs) (10 ∷ []) in
    rw (fields_joined fs (letter ∷ []) at out (omega arith)) (puts_joined (letter ∷ spaced fs) (10 ∷ []) at out room)

-- ---- with the test for room

pub line_with_room : (letter : ℕ) (fs : List (List ℕ)) (place : Option ℕ) (out : List ℕ) (k : ℕ) → length (line letter fs) ≡ k
    → room_for k place (length out) ≡ true → puts_line letter fs (place, out) ≡ puts (line letter fs) (place, out)
line_with_room letter fs (Some at) out k e room = line_joined letter fs at out (omega (arith, leb-true (at + k) (length out) room))
line_with_room letter fs None out k e room = absurd (subst T (sym room) tt)

pub line_without_room : (t : List ℕ) (place : Option ℕ) (out : List ℕ) (k : ℕ) → length t ≡ k → room_for k place (length out) ≡ false
    → ◌≡◌ {A = Sheet} (None, out) (puts t (place, out))
unfolding puts
line_without_room t (Some at) out k e room = sym (when_false _ _ (rw e room))
line_without_room t None out k e room = refl

-- ---- how long lines are

pub length_line : (letter : ℕ) (fs : List (List ℕ)) → length (line letter fs) ≡ length (spaced fs) + 2
unfolding line
length_line letter fs =
    let parted : length (spaced fs ++ (10 ∷ [])) ≡ length (spaced fs) + 1 = length-append (spaced fs) (10 ∷ []) in
    omega arith

length_spaced : (f : List ℕ) (fs : List (List ℕ)) → length (spaced (f ∷ fs)) ≡ length f + length (spaced fs) + 1
unfolding spaced
length_spaced f fs = let parted : length (f ++ spaced fs) ≡ length f + length (spaced fs) = length-append f (spaced fs) in omega arith

length_none : length (spaced []) ≡ 0
unfolding spaced
length_none = refl

length_hexes : (xs : List Float) → length (spaced (hexes xs)) ≡ 17 * length xs
unfolding hexes
length_hexes [] = length_none
length_hexes (x ∷ xs) =
    let one : length (hexadecimal x) ≡ 16 = length_spelled 16 16 (to_bits binary64 x) in
    let rest : length (spaced (hexes xs)) ≡ 17 * length xs = length_hexes xs in
    let e = length_spaced (hexadecimal x) (hexes xs) in
    omega arith

pub length_state : (letter : ℕ) (x : Float) (y : List Float) → length (line letter (hexes (x ∷ y))) ≡ 19 + 17 * length y
length_state letter x y = omega (arith, length_line letter (hexes (x ∷ y)), length_hexes (x ∷ y))

-- one count as the next field
length_count : (n : ℕ) (fs : List (List ℕ)) → length (spaced (decimal n ∷ fs)) ≡ 1 + places_of n + length (spaced fs)
length_count n fs = omega (arith, length_spaced (decimal n) fs, length_spelled 10 (places_of n) n)

pub length_refusal : (number : ℕ) → length (refusal_line number) ≡ 3 + places_of number
length_refusal number = omega (arith, length_line 82 (decimal number ∷ []), length_count number [], length_none)

-- a status has one digit
status_digit : (status : Status) → places_of (status_of status) ≡ 1
unfolding places_within when◌then◌else◌
status_digit Success = refl
status_digit UserInterrupt = refl
status_digit NeedLargerNMax = refl
status_digit StepSizeTooSmall = refl

length_three : (a b c : ℕ) (fs : List (List ℕ))
    → length (spaced (decimal a ∷ decimal b ∷ decimal c ∷ fs)) ≡ 3 + places_of a + places_of b + places_of c + length (spaced fs)
length_three a b c fs = omega (arith, length_count a (decimal b ∷ decimal c ∷ fs), length_count b (decimal c ∷ fs), length_count c fs)

pub length_end : (status : Status) (h : Float) (steps : Steps) (evals : Evals)
    → length (end_line status h steps evals)
    ≡ 21 + (3 + places_of steps.total + places_of steps.accepted + places_of steps.rejected) + (4 + places_of evals.ode + places_of evals.jac + places_of evals.lu + places_of evals.start)
length_end status h steps evals =
    let of-line = length_line 69 (end_fields status h steps evals) in
    let of-status = length_count (status_of status) (hexadecimal h ∷ (steps_fields steps ++ evals_fields evals)) in
    let digit = status_digit status in
    let of-h = length_spaced (hexadecimal h) (steps_fields steps ++ evals_fields evals) in
    let sixteen = length_spelled 16 16 (to_bits binary64 h) in
    let of_steps = length_three steps.total steps.accepted steps.rejected (evals_fields evals) in
    let of-evals = length_three evals.ode evals.jac evals.lu (decimal evals.start ∷ []) in
    let of-start = length_count evals.start [] in
    let none = length_none in
    omega arith
