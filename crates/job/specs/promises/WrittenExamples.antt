-- What the writer's definitions give, by computation: the first job of docs/JOB-FORMAT.md, a NaN that keeps its bits, and forms that are
-- easily judged wrongly.
use Rattle.std.specs.Prelude.{◌≡◌, refl, Bool, true, false, List, [], ◌∷◌, ℕ}
use Rattle.std.specs.Float.Ieee.{of_bits, lt, eq}
use Rattle.loops.specs.Choice.{when◌then◌else◌}
use Rattle.loops.specs.Loop.{turns, loop}
use Rattle.loops.specs.Refusal.{gives, refuses}
use Rattle.text.specs.Words.{word_from, bytes_of}
use Rattle.rules.specs.Refusals.{number_of}
use Rattle.rules.specs.Checks.{negative, limited, tolerances_checked}
use Rattle.job.specs.declared.form.Form.{Form}
use Rattle.job.specs.Packed.{head_bits, words_of}
use Rattle.job.specs.Reading.{accepted_of, form_of, head_read, form_read, read_form_of, first_step_of, job_of}
use Rattle.job.specs.Writing.{joined, packed_of, fits_of, begins_of, judged_of, write_of}

-- 1 and 1/2, 1e-3 and 1e-6
abbrev one : ℕ
one = 0x3FF0_0000_0000_0000

abbrev half : ℕ
half = 0x3FE0_0000_0000_0000

abbrev milli : ℕ
milli = 0x3F50_624D_D2F1_A9FC

abbrev micro : ℕ
micro = 0x3EB0_C6F7_A0B5_ED8D

-- n, the limits, whether the start is automatic, the first step and the relative tolerance; from 0 to 1, absolute tolerance 1e-6
abbrev form : ℕ → ℕ → ℕ → Bool → ℕ → ℕ → Form
form n steps newton automatic first rtol =
    record {
      n = n;
      max_steps = steps;
      newton_maxiter = newton;
      automatic = automatic;
      x0 = 0;
      xend = one;
      first_step = first;
      rtol = rtol;
      atol = micro;
    }

-- the first job of docs/JOB-FORMAT.md: one component, 100,000 steps, Newton 4, first step 0.5, y0 = 1, A = 0. The slice has two bytes more,
-- and they stay
abbrev slice : List ℕ
slice =
    7 ∷ 7 ∷ 7 ∷ 7 ∷ 7 ∷ 7 ∷ 7 ∷ 7 ∷ 7 ∷ 7 ∷ 7 ∷ 7 ∷ 7 ∷ 7 ∷ 7 ∷ 7 ∷ 7 ∷ 7 ∷ 7 ∷ 7 ∷ 7 ∷ 7 ∷ 7 ∷ 7 ∷ 7 ∷ 7 ∷ 7 ∷ 7 ∷ 7 ∷ 7 ∷ 7 ∷ 7 ∷
    7 ∷ 7 ∷ 7 ∷ 7 ∷ 7 ∷ 7 ∷ 7 ∷ 7 ∷ 7 ∷ 7 ∷ 7 ∷ 7 ∷ 7 ∷ 7 ∷ 7 ∷ 7 ∷ 7 ∷ 7 ∷ 7 ∷ 7 ∷ 7 ∷ 7 ∷ 7 ∷ 7 ∷ 7 ∷ 7 ∷ 7 ∷ 7 ∷ 7 ∷ 8 ∷ 9 ∷ []

pub first_job :
    write_of (form 1 100000 4 false half milli) (one ∷ []) (0 ∷ []) slice ≡ (
      gives 61,
      0x04 ∷ 0x61 ∷ 0xA8 ∷ 0x02 ∷ 0x00 ∷
          0 ∷ 0 ∷ 0 ∷ 0 ∷ 0 ∷ 0 ∷ 0 ∷ 0 ∷
          0x3F ∷ 0xF0 ∷ 0 ∷ 0 ∷ 0 ∷ 0 ∷ 0 ∷ 0 ∷
          0x3F ∷ 0xE0 ∷ 0 ∷ 0 ∷ 0 ∷ 0 ∷ 0 ∷ 0 ∷
          0x3F ∷ 0x50 ∷ 0x62 ∷ 0x4D ∷ 0xD2 ∷ 0xF1 ∷ 0xA9 ∷ 0xFC ∷
          0x3E ∷ 0xB0 ∷ 0xC6 ∷ 0xF7 ∷ 0xA0 ∷ 0xB5 ∷ 0xED ∷ 0x8D ∷
          0x3F ∷ 0xF0 ∷ 0 ∷ 0 ∷ 0 ∷ 0 ∷ 0 ∷ 0 ∷
          0 ∷ 0 ∷ 0 ∷ 0 ∷ 0 ∷ 0 ∷ 0 ∷ 0 ∷ 8 ∷ 9 ∷ [],
    )
unfolding write_of judged_of fits_of begins_of job_of first_step_of tolerances_checked negative limited number_of packed_of bytes_of joined when◌then◌else◌ of_bits lt eq
first_job = refl

-- a NaN of either sign and with a payload is written and read as it is
pub nan_keeps_its_bits :
    read_form_of (packed_of (form 1 500 4 true 0 milli) (0xFFF8_0000_0000_0001 ∷ []) (0x7FF0_0000_0000_0001 ∷ [])) [] [] ≡
    (gives (form 1 500 4 true 0 milli), 0xFFF8_0000_0000_0001 ∷ [], 0x7FF0_0000_0000_0001 ∷ [])
unfolding read_form_of form_read head_read accepted_of form_of words_of word_from head_bits packed_of bytes_of joined loop turns when◌then◌else◌
nan_keeps_its_bits = refl

-- ---- what is judged, in its order

pub record Judged : Type 0 where
  -- more components than are served come first, whatever else is wrong
  pub thirty_three : judged_of (form 33 0x10_0000 0x80 true 1 half) 0 0 ≡ refuses 1
  -- with no component the beginning's own are not checked; the fields are
  pub nothing_to_check : judged_of (form 0 0 127 false 0 0xBFF0_0000_0000_0000) 0 0 ≡ gives 45
  pub steps_too_wide : judged_of (form 0 0x10_0000 4 false half milli) 0 0 ≡ refuses 17
  pub newton_too_wide : judged_of (form 0 1 0x80 false half milli) 0 0 ≡ refuses 17
  -- a first_step that is not used: -0 is not taken for zero bits
  pub unused_minus_zero : judged_of (form 0 1 4 true 0x8000_0000_0000_0000 milli) 0 0 ≡ refuses 17
  -- y0 and A of a wrong length, before a tolerance below 0
  pub no_state : judged_of (form 1 1 4 true 0 0xBFF0_0000_0000_0000) 0 1 ≡ refuses 17
  pub no_matrix : judged_of (form 1 1 4 true 0 0xBFF0_0000_0000_0000) 1 0 ≡ refuses 17
  -- 5 to 8, each before the next; a tolerance of -0 or NaN is not below 0
  pub negative_tolerance : judged_of (form 1 0 65 false 0 0xBFF0_0000_0000_0000) 1 1 ≡ refuses 5
  pub no_steps : judged_of (form 1 0 65 false 0 0x8000_0000_0000_0000) 1 1 ≡ refuses 6
  pub newton_above_64 : judged_of (form 1 1 65 false 0 0xFFF8_0000_0000_0000) 1 1 ≡ refuses 7
  pub steps_above_a_million : judged_of (form 1 1000001 64 false 0 milli) 1 1 ≡ refuses 7
  pub first_step_minus_zero : judged_of (form 1 1000000 64 false 0x8000_0000_0000_0000 milli) 1 1 ≡ refuses 8
  -- and 25 after all of them
  pub short : write_of (form 1 1 4 true 0 milli) (one ∷ []) (0 ∷ []) (7 ∷ []) ≡ (refuses 25, 7 ∷ [])
  pub short_and_negative : write_of (form 1 1 4 true 0 0xBFF0_0000_0000_0000) (one ∷ []) (0 ∷ []) (7 ∷ []) ≡ (refuses 5, 7 ∷ [])

pub judged : Judged
unfolding write_of judged_of fits_of begins_of job_of first_step_of tolerances_checked negative limited number_of when◌then◌else◌ of_bits lt eq
judged =
    record {
      thirty_three = refl;
      nothing_to_check = refl;
      steps_too_wide = refl;
      newton_too_wide = refl;
      unused_minus_zero = refl;
      no_state = refl;
      no_matrix = refl;
      negative_tolerance = refl;
      no_steps = refl;
      newton_above_64 = refl;
      steps_above_a_million = refl;
      first_step_minus_zero = refl;
      short = refl;
      short_and_negative = refl;
    }
