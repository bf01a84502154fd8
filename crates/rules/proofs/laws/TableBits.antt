-- The bits of the tables: one computed test for each, that what the loops of `solve` come to is a list of constants.
use Rattle.std.specs.Prelude.{◌≡◌, refl, List, [], ◌∷◌, map, ℕ, Float}
use Rattle.std.specs.Float.{binary64}
use Rattle.std.specs.Float.Ieee.{of_bits, of_int, add, sub, mul, div, neg, round}
use Rattle.loops.specs.Loop.{loop, turns}
use Rattle.rules.specs.Tables.{kappa, gammas, alphas, error_consts}

-- the numbers that these bit patterns stand for
abbrev pub of_bits_all : List ℕ → List Float
of_bits_all = map (of_bits binary64)

pub gamma_bits :
    of_bits_all (0 ∷ 0x3ff0_0000_0000_0000 ∷ 0x3ff8_0000_0000_0000 ∷ 0x3ffd_5555_5555_5555 ∷ 0x4000_aaaa_aaaa_aaaa ∷ 0x4002_4444_4444_4444 ∷ [])
    ≡ gammas
unfolding gammas loop turns of_bits of_int add div
gamma_bits = refl

pub alpha_bits :
    of_bits_all (0 ∷ 0x3ff2_f5c2_8f5c_28f6 ∷ 0x3ffa_aaaa_aaaa_aaab ∷ 0x3fff_bf59_f9b8_2ef8 ∷ 0x4001_5bbb_bbbb_bbbb ∷ 0x4002_4444_4444_4444 ∷ [])
    ≡ alphas
unfolding alphas gammas kappa loop turns of_bits of_int add sub mul div neg round
alpha_bits = refl

pub error_bits :
    of_bits_all
    (0x3ff0_0000_0000_0000 ∷ 0x3fd4_28f5_c28f_5c29 ∷ 0x3fc5_5555_5555_5555 ∷ 0x3fb9_5fb5_b9d2_65dc ∷ 0x3fbd_1111_1111_1112 ∷
    0x3fc5_5555_5555_5555 ∷ [])
    ≡ error_consts
unfolding error_consts gammas kappa loop turns of_bits of_int add sub mul div neg round
error_bits = refl
