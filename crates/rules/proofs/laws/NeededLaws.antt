-- The needed places of a workspace: they have the room that the stages ask, and work on them leaves what lies beyond.
use Rattle.std.specs.Prelude.{◌≡◌, List, ◌++◌, ℕ, ◌*◌, ◌≤◌, length, take, Float}
use Rattle.std.proofs.Common.{ap, mul-le-mul, arith, length-take-le}
use Rattle.matrix.specs.Size.{max_n}
use Rattle.rules.specs.Places.{need}
use Rattle.rules.specs.laws.Ready.{Room}
use Rattle.rules.specs.State.{After, after}

pub room_needed : {n : ℕ} (ws : List Float) → 1 ≤ n → n ≤ max_n → need n ≤ length ws → Room n (take (need n) ws)
room_needed {n} ws some few long =
    let square : n * n ≤ 1024 = mul-le-mul few few in
    let exact : length (take (need n) ws) ≡ need n = length-take-le (need n) ws long in
    record { some = some; few = few; square = square; long = omega arith }

-- what a stage left of the needed places, put back before the rest
pub beyond_kept :
    {A : Type 0} {g h : After A} (rest : List Float) → g ≡ h → after g.is (g.ws ++ rest) g.q ≡ after h.is (h.ws ++ rest) h.q
beyond_kept {A} rest e = ap (λ (g : After A). after g.is (g.ws ++ rest) g.q) e
