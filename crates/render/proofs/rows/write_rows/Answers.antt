-- `write_rows` lays one sample after another. Assumes nothing.
use mathlib.Core.Path.{◌≡◌, refl, ◌∙◌}
use mathlib.Core.Bool.{true, false}
use mathlib.Core.List.{List}
use Prim.Native.Nat.{ℕ, ◌+◌, ◌-◌, ◌*◌, ◌≤◌, ◌<◌}
use native.Mathlib.Nat.{mul-le-mul_right, le_trans}
use native.Mathlib.Omega.{arith}
use lib.Dec.{ltb, eqb}
use lib.Ieee.{Float}
use lib.ListN.{length, take, drop, length-append, length-drop}
use lib.Seq.{length-take-le}
use borrow.Author.Tests.{le-ltb, eq-eqb}
use Rattle.loops.specs.laws.ChoiceLaws.{when_true, when_false}
use Rattle.loops.specs.laws.Turned.{Turned, turn_none, turn_more, turn_all}
use Rattle.loops.specs.Part.{over}
use Rattle.loops.specs.Refusal.{Outcome, gives}
use Rattle.matrix.specs.Size.{max_n}
use Rattle.interpolation.specs.Interpolate.{says, interpolation, values_at}
use Rattle.render.specs.declared.grid.Notice.{Notice}
use Rattle.render.specs.Times.{time_of}
use Rattle.render.specs.Sampled.{rows}
use Rattle.render.proofs.rows.write_rows.Invariants.{row_turn}
use Rattle.render.proofs.rows.write_rows.Goals as goal

inside : (i n count l : ℕ) → i < count → count * n ≤ l → i * n + n ≤ l
inside i n count l h room = le_trans (let e : i * n + n ≤ (i + 1) * n = omega arith in e) (le_trans (mul-le-mul_right n (let e : i + 1 ≤ count = omega arith in e)) room)

values : (o : Outcome (Unit {0})) (y yi cont : List Float) (t xold h : Float) (n : ℕ) → n ≤ max_n → length cont ≡ 7 * n → length yi ≡ n
    → says o y ≡ interpolation t yi cont xold h → y ≡ values_at t yi cont xold h
unfolding interpolation
values o y yi cont t xold h n a b l e =
    let s : ltb max_n (length yi) ≡ false = le-ltb max_n (length yi) (rw l a) in
    let r : eqb (length cont) (7 * length yi) ≡ true = eq-eqb (length cont) (7 * length yi) (rw l b) in
    let is : says o y ≡ says (gives tt) (values_at t yi cont xold h) = e ∙ when_false _ _ s ∙ when_true _ _ r in
    cc

cut : (a n : ℕ) → a + n - a ≡ n
cut a n = omega arith

step : (t : Notice) (cont : List Float) (n k i count m : ℕ) (out₀ out ys : List Float) (o : Outcome (Unit {0})) (tm : Float)
    → n ≤ max_n → length cont ≡ 7 * n → count * n ≤ length out₀ → i < count → m ≡ n → length out ≡ length out₀ → Turned 0 count (row_turn t n cont k) out₀ i out
    → tm ≡ time_of (k + i) → length ys ≡ length (take m (drop (i * n) out)) → says o ys ≡ interpolation tm (take m (drop (i * n) out)) cont t.start t.h
    → (length (over (i * n) m (λ _. ys) out) ≡ length out₀) × Turned 0 count (row_turn t n cont k) out₀ (i + 1) (over (i * n) m (λ _. ys) out)
step t cont n k i count m out₀ out ys o tm a b room h same l r is len e =
    let fit : i * n + n ≤ length out = rw l (inside i n count (length out₀) h room) in
    let part : length (take m (drop (i * n) out)) ≡ n = rw same (length-take-le n (drop (i * n) out) (rw length-drop (omega arith))) in
    let v : ys ≡ values_at tm (take m (drop (i * n) out)) cont t.start t.h = values o ys (take m (drop (i * n) out)) cont tm t.start t.h n a b part e in
    let front : length (take (i * n) out) ≡ i * n = length-take-le (i * n) out (omega arith) in (
      simp (length-append, length-drop) (omega arith),
      turn_more r h (rw (v, is, same)),
    )

pub loop-i-init : goal.loop-i-init
loop-i-init c = (refl, turn_none (omega arith))

pub loop-i-preserved : goal.loop-i-preserved
loop-i-preserved c =
    step c.args.notice c.args.cont.now c.args.n c.args.k c.loop-i.i c.args.count _ c.args.out.now c.loop-i.out c.interpolate.new.yi _ _
    c.requires.0 c.requires.1.0 c.requires.1.1.0 c.loop-i-test.true (cut (c.loop-i.i * c.args.n) c.args.n)
    c.loop-i.invariant.0 c.loop-i.invariant.1 c.time_of-t.ensures c.interpolate.auto.yi c.interpolate.ensures

pub returns : goal.returns
unfolding rows
returns c = turn_all c.loop-i.invariant.1 c.loop-i-test.false
