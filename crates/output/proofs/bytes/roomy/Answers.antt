-- `output::bytes::roomy` meets its contract: the code's two tests are the definition's one, taken apart so that no sum wraps.
-- Assumes nothing.
use mathlib.Core.Path.{◌≡◌, refl, sym, ◌∙◌}
use mathlib.Core.Bool.{false}
use Prim.Native.Nat.{ℕ, ◌+◌, ◌≤◌, ◌<◌, ◌-◌}
use Rattle.std.specs.Prelude.{Option, None, Some}
use native.Mathlib.Omega.{arith}
use borrow.Author.Tests.{le-leb, lt-leb}
use Rattle.loops.specs.laws.ChoiceLaws.{when_true, when_false}
use Rattle.output.specs.Output.{flushed, made_roomy, Flushed, MadeRoomy}
use Rattle.output.proofs.Saying.{given_up, same_place}
use Rattle.output.proofs.bytes.roomy.Goals as goal

stays : (len line at : ℕ) {place : Option ℕ} → place ≡ Some at → at ≤ len → line ≤ len - at → MadeRoomy len line place (Some at)
unfolding made_roomy
stays len line at p h g =
    let room : at + line ≤ len = omega arith in
    record { written = false; is = rw p (sym (when_true _ _ (le-leb (at + line) len room))) }

no_room : (len line at : ℕ) {place r : Option ℕ} → place ≡ Some at → len < at + line → Flushed len (Some at) r → MadeRoomy len line place r
unfolding made_roomy
no_room len line at p h f =
    record { written = f.written; is = rw p (f.is ∙ sym (when_false _ _ (lt-leb (at + line) len h))) }

too_long : (len line at : ℕ) {place r : Option ℕ} → place ≡ Some at → at ≤ len → len - at < line → Flushed len (Some at) r → MadeRoomy len line place r
too_long len line at p h g f = no_room len line at p (omega arith) f

beyond : (len line at : ℕ) {place : Option ℕ} → place ≡ Some at → len < at → MadeRoomy len line place None
unfolding flushed
beyond len line at p h =
    no_room len line at p (omega arith) (record { written = false; is = sym (when_false _ _ (lt-leb at len h)) })

stays_full : (len line : ℕ) {place : Option ℕ} → place ≡ None → MadeRoomy len line place None
unfolding made_roomy
stays_full len line p = record { written = false; is = rw p refl }

pub returns-then-at-out-clause-place : goal.returns-then-at-out-clause-place
returns-then-at-out-clause-place g c = beyond _ _ _ c.in-Some.is c.if-at-out.true

pub returns-then-out-at-clause-place : goal.returns-then-out-at-clause-place
returns-then-out-at-clause-place g c = too_long _ _ _ c.in-Some.is c.if-at-out.false c.if-out-at.true c.flush.ensures.place

pub returns-else-out-at-clause-place : goal.returns-else-out-at-clause-place
returns-else-out-at-clause-place g c = stays _ _ _ c.in-Some.is c.if-at-out.false c.if-out-at.false

pub returns-in-None-clause-place : goal.returns-in-None-clause-place
returns-in-None-clause-place g c = stays_full _ _ c.in-None.is

pub returns-then-at-out-clause-said : goal.returns-then-at-out-clause-said
returns-then-at-out-clause-said g c = given_up _ _ _

pub returns-then-out-at-clause-said : goal.returns-then-out-at-clause-said
returns-then-out-at-clause-said g c = rw c.in-Some.is c.flush.ensures.said

pub returns-else-out-at-clause-said : goal.returns-else-out-at-clause-said
returns-else-out-at-clause-said g c = rw c.in-Some.is (same_place _ _ (Some c.in-Some.at))

pub returns-in-None-clause-said : goal.returns-in-None-clause-said
returns-in-None-clause-said g c = given_up _ _ _
