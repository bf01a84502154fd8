-- What the definitions give at the first job of docs/JOB-FORMAT.md and at files that are easily judged wrongly, by computation.
use Rattle.std.specs.Prelude.{◌≡◌, refl, false, [], ◌∷◌}
use Rattle.loops.specs.Choice.{when◌then◌else◌}
use Rattle.loops.specs.Loop.{turns, loop}
use Rattle.loops.specs.Refusal.{refuses}
use Rattle.job.specs.Packed.{head_bits, head_of}
use Rattle.job.specs.Reading.{accepted_of, head_read, form_read, read_of}

-- n 1, 100,000 steps, Newton 4, a given first step: 000001 00011000011010100000 0000100 0 000000
pub example_head : head_of (head_bits (0x04 ∷ 0x61 ∷ 0xA8 ∷ 0x02 ∷ 0x00 ∷ [])) ≡ record { n = 1; max_steps = 100000; newton_maxiter = 4; automatic = false; padding = 0 }
unfolding head_bits loop turns
example_head = refl

-- four bytes are no job, whatever they say
pub four_bytes : read_of (0xFF ∷ 0 ∷ 0 ∷ 0 ∷ []) [] [] ≡ (refuses 17, [], [])
unfolding read_of form_read when◌then◌else◌
four_bytes = refl

-- 33 components are too many before the length and the padding are judged
pub thirty_three : read_of (0x84 ∷ 0 ∷ 0 ∷ 0 ∷ 0x3F ∷ []) [] [] ≡ (refuses 1, [], [])
unfolding read_of form_read head_read head_bits loop turns when◌then◌else◌
thirty_three = refl

-- and 32 are not
pub thirty_two : read_of (0x80 ∷ 0 ∷ 0 ∷ 0 ∷ 0 ∷ []) [] [] ≡ (refuses 17, [], [])
unfolding read_of form_read head_read accepted_of head_bits loop turns when◌then◌else◌
thirty_two = refl
