-- The contracts of this crate leave no choice but what became of the write: two outcomes that meet one of them, from the same call
-- and with writes that both were done or both failed, are the same place. And where there is room no write is asked.
use Rattle.std.specs.Prelude.{◌≡◌, Bool, ℕ, ◌+◌, ◌≤◌, Option, Some}
use Rattle.std.proofs.Common.{sym, ap, ◌∙◌, le-leb}
use Rattle.loops.specs.laws.ChoiceLaws.{when_true}
use Rattle.output.specs.Output.{flushed, made_roomy, Flushed, MadeRoomy}

pub flush_unique : (len : ℕ) (place : Option ℕ) {r s : Option ℕ} (m : Flushed len place r) (o : Flushed len place s) → m.written ≡ o.written → r ≡ s
flush_unique len place m o e = m.is ∙ ap (λ (w : Bool). flushed w len place) e ∙ sym o.is

pub roomy_unique : (len line : ℕ) (place : Option ℕ) {r s : Option ℕ} (m : MadeRoomy len line place r) (o : MadeRoomy len line place s) → m.written ≡ o.written → r ≡ s
roomy_unique len line place m o e = m.is ∙ ap (λ (w : Bool). made_roomy w len line place) e ∙ sym o.is

-- with room for the line the place stays, whatever a write would have come to
pub roomy_stays : (len line at : ℕ) {r : Option ℕ} → at + line ≤ len → MadeRoomy len line (Some at) r → r ≡ Some at
unfolding made_roomy
roomy_stays len line at h m = m.is ∙ when_true _ _ (le-leb (at + line) len h)
