-- Where the next text goes once a page was flushed: as the definitions have it, whatever became of the write.
use Rattle.std.proofs.Common.{◌≡◌, refl, sym, ◌∙◌, true, false, List, ℕ, leb, length, Option, None, Some, le-leb}
use Rattle.loops.specs.Choice.{when◌then◌else◌}
use Rattle.loops.specs.laws.ChoiceLaws.{either, when_true, when_false}
use Rattle.text.specs.Page.{room_for, IsWritten}
use Rattle.output.specs.Output.{flushed, made_roomy, Flushed, MadeRoomy}

pub begun_anew : (place : Option ℕ) (out text : List ℕ) {r : Option ℕ} → IsWritten (place, out) text → r ≡ Some 0 → Flushed (length out) place r
unfolding flushed when◌then◌else◌
begun_anew (Some at) out text w e =
    record { written = true; is = e ∙ sym (when_true _ _ (le-leb at (length out) w.0)) }
begun_anew None out text w e = absurd w

pub closed : (len : ℕ) (place : Option ℕ) {r : Option ℕ} → r ≡ None → Flushed len place r
unfolding flushed when◌then◌else◌
closed len (Some at) e = record { written = false; is = e ∙ sym (either (λ p. p ≡ None) (leb at len) (λ _. refl) (λ _. refl)) }
closed len None e = record { written = false; is = e }

pub flushed_for_room : (len line : ℕ) (place : Option ℕ) {r : Option ℕ} → room_for line place len ≡ false → Flushed len place r → MadeRoomy len line place r
unfolding flushed made_roomy
flushed_for_room len line (Some at) h f = record { written = f.written; is = f.is ∙ sym (when_false _ _ h) }
flushed_for_room len line None h f = record { written = f.written; is = f.is }

pub has_room_already : (len line : ℕ) (place : Option ℕ) → room_for line place len ≡ true → MadeRoomy len line place place
unfolding made_roomy
has_room_already len line (Some at) h = record { written = false; is = sym (when_true _ _ h) }
has_room_already len line None h = record { written = false; is = refl }
