-- What holds of the bounds of Ready.
use Rattle.std.specs.Prelude.{◌≡◌, List, ℕ, length, Float}
use Rattle.std.proofs.Common.{arith}
use Rattle.rules.specs.laws.Ready.{Room}

-- a workspace that kept its length kept its room
pub room_kept : {n : ℕ} {ws v : List Float} → Room n ws → length v ≡ length ws → Room n v
room_kept r e = record { some = r.some; few = r.few; square = r.square; long = omega (arith, r.long) }
