-- The Rust's literals and named constants, by their bits.
use Rattle.std.specs.Float.Ieee
use Rattle.std.specs.Prelude.{Float}
use Rattle.std.specs.Float.{binary64}

-- Float::MIN_POSITIVE, 2 ^ -1022
abbrev pub min_positive : Float
min_positive = Ieee.of_bits binary64 0x0010_0000_0000_0000

-- MIN_FACTOR, 0.2
abbrev pub min_factor : Float
min_factor = Ieee.of_bits binary64 0x3fc9_9999_9999_999a

-- MAX_FACTOR, 10.0
abbrev pub max_factor : Float
max_factor = Ieee.of_bits binary64 0x4024_0000_0000_0000

-- SAFETY_DEFAULT, 0.9
abbrev pub safety_default : Float
safety_default = Ieee.of_bits binary64 0x3fec_cccc_cccc_cccd

-- 0.1
abbrev pub tenth : Float
tenth = Ieee.of_bits binary64 0x3fb9_9999_9999_999a

-- 0.5
abbrev pub half : Float
half = Ieee.of_bits binary64 0x3fe0_0000_0000_0000

-- 2.0
abbrev pub two : Float
two = Ieee.of_bits binary64 0x4000_0000_0000_0000

-- 0.03
abbrev pub three_hundredths : Float
three_hundredths = Ieee.of_bits binary64 0x3f9e_b851_eb85_1eb8

-- 1e-9
abbrev pub nano : Float
nano = Ieee.of_bits binary64 0x3e11_2e0b_e826_d695

-- 10.0
abbrev pub ten : Float
ten = Ieee.of_bits binary64 0x4024_0000_0000_0000

-- 100.0
abbrev pub hundred : Float
hundred = Ieee.of_bits binary64 0x4059_0000_0000_0000

-- 0.01
abbrev pub hundredth : Float
hundredth = Ieee.of_bits binary64 0x3f84_7ae1_47ae_147b

-- 1e-3
abbrev pub milli : Float
milli = Ieee.of_bits binary64 0x3f50_624d_d2f1_a9fc

-- 1e-6
abbrev pub micro : Float
micro = Ieee.of_bits binary64 0x3eb0_c6f7_a0b5_ed8d

-- 1e-10
abbrev pub tenth_of_nano : Float
tenth_of_nano = Ieee.of_bits binary64 0x3ddb_7cdf_d9d7_bdbb

-- 1e-15
abbrev pub femto : Float
femto = Ieee.of_bits binary64 0x3cd2_03af_9ee7_5616
