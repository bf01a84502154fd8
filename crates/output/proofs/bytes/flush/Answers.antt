-- `output::bytes::flush` meets its contract: beyond the page, on a full one and after a failed write the page is full, otherwise it begins
-- anew. What is written is as long as the place says, since the place lies within. Assumes nothing.
use mathlib.Core.Path.{◌∙◌, ◌≡◌, refl, sym}
use mathlib.Core.Bool.{Bool, true, false}
use Prim.Native.Nat.{ℕ, ◌≤◌, ◌<◌}
use Rattle.std.specs.Prelude.{Option, None, Some}
use borrow.Author.Tests.{le-leb, lt-leb}
use Rattle.loops.specs.Choice.{when◌then◌else◌}
use Rattle.loops.specs.laws.ChoiceLaws.{when_true, when_false}
use Rattle.output.specs.Output.{flushed, Flushed}
use Rattle.output.proofs.Saying.{given_up, broken_off, written_out, of_ok}
use Rattle.output.proofs.bytes.flush.Goals as goal

beyond : (len at : ℕ) {place : Option ℕ} → place ≡ Some at → len < at → Flushed len place None
unfolding flushed
beyond len at p h = record { written = false; is = rw p (sym (when_false _ _ (lt-leb at len h))) }

-- within the page the write decides
decided : (len at : ℕ) (written : Bool) {place : Option ℕ} → place ≡ Some at → at ≤ len → (when written then Some 0 else None) ≡ flushed written len place
unfolding flushed
decided len at written p h = rw p (sym (when_true _ _ (le-leb at len h)))

begun_anew : (len at : ℕ) {place : Option ℕ} → place ≡ Some at → at ≤ len → Flushed len place (Some 0)
unfolding when◌then◌else◌
begun_anew len at p h = record { written = true; is = decided len at true p h }

failed : (len at : ℕ) {place : Option ℕ} → place ≡ Some at → at ≤ len → Flushed len place None
unfolding when◌then◌else◌
failed len at p h = record { written = false; is = decided len at false p h }

stays_full : (len : ℕ) {place : Option ℕ} → place ≡ None → Flushed len place None
unfolding flushed
stays_full len p = record { written = false; is = rw p refl }

pub returns-then-at-out-clause-place : goal.returns-then-at-out-clause-place
returns-then-at-out-clause-place g c = beyond _ _ c.in-Some.is c.if-at-out.true

pub returns-then-is_ok-clause-place : goal.returns-then-is_ok-clause-place
returns-then-is_ok-clause-place g c = begun_anew _ _ c.in-Some.is c.if-at-out.false

pub returns-else-is_ok-clause-place : goal.returns-else-is_ok-clause-place
returns-else-is_ok-clause-place g c = failed _ _ c.in-Some.is c.if-at-out.false

pub returns-in-None-clause-place : goal.returns-in-None-clause-place
returns-in-None-clause-place g c = stays_full _ c.in-None.is

pub returns-then-at-out-clause-said : goal.returns-then-at-out-clause-said
returns-then-at-out-clause-said g c = given_up _ _ _

pub returns-then-is_ok-clause-said : goal.returns-then-is_ok-clause-said
returns-then-is_ok-clause-said g c = written_out _ _ _ _ c.in-Some.is (of_ok _ (sym c.is_ok.ensures.value ∙ c.if-is_ok.true) c.write_all.ensures.bytes)

pub returns-else-is_ok-clause-said : goal.returns-else-is_ok-clause-said
returns-else-is_ok-clause-said g c = broken_off _ _ _ c.in-Some.is

pub returns-in-None-clause-said : goal.returns-in-None-clause-said
returns-in-None-clause-said g c = given_up _ _ _
