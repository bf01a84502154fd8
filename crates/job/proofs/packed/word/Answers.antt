-- `packed::word` meets its contract: the caller's bytes reach as far as the word, so there is one. Assumes nothing.
use Rattle.std.specs.Prelude.{◌≡◌, List, ℕ, ◌+◌, ◌≤◌, length, Some}
use Rattle.std.proofs.Common.{arith, le-leb}
use Rattle.loops.specs.laws.ChoiceLaws.{when_true}
use Rattle.text.specs.Words.{word_at, word_from}
use Rattle.job.specs.Packed.{place}
use Rattle.job.proofs.packed.word.Goals as goal

is_there : (s : List ℕ) (at : ℕ) → at + 8 ≤ length s → word_at s at ≡ Some (word_from s at)
unfolding word_at
is_there s at there = when_true _ _ (le-leb (at + 8) (length s) there)

pub unwrap-requires : goal.unwrap-requires
unwrap-requires c =
    let there = is_there c.args.s.now (place c.args.i) (omega arith) in
    rw (c.word_at.ensures, there)

pub returns : goal.returns
returns c =
    let there = is_there c.args.s.now (place c.args.i) (omega arith) in
    let same = c.unwrap.ensures in
    let asked = c.word_at.ensures in
    cc
