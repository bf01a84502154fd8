-- `bdf::places::set_row`: the invariant and the measure of its loop.
use Rattle.std.specs.Prelude.{◌≡◌, ◌-◌, ℕ, List, Float, length}
use Rattle.loops.specs.laws.Turned.{Turned}
use Rattle.rules.specs.Places.{put}
use Rattle.bdf.proofs.places.set_row.Given as goal

abbrev pub invariant-loop-i : goal.invariant-loop-i
invariant-loop-i g l =
    (length l.ws ≡ length l.initial.ws)
    × ((h : List Float → ℕ → Float) → ((w : _) (i : ℕ) (x : Float) → goal.F-post g l.f w i x → x ≡ h w.now i) → Turned 0 l.n (λ i w. put l.n w l.v i (h w i)) l.initial.ws l.i l.ws)

abbrev pub decreases-loop-i : goal.decreases-loop-i
decreases-loop-i g l = l.n - l.i
