-- `sampling::write`: to count the k that do not lie past the notice's new x is to subtract (`counted_is`), and a k is past exactly from the
-- first one on. Assumes nothing.
use Rattle.std.specs.Prelude.{◌≡◌, refl, Bool, true, false, ◌&&◌, List, ℕ, zero, suc, ◌+◌, ◌-◌, ◌*◌, ◌^◌, ◌≤◌, ◌<◌, eqb, leb, length, Float}
use Rattle.std.proofs.Common.{sym, ◌∙◌, le_trans, mul-le-mul_right, arith, eqb-true, le-leb, leb-true, leb-false}
use Rattle.std.proofs.lemmas.Bool.{lt-leb}
use Rattle.std.proofs.Math.Nat.{div-mul-le_self}
use Rattle.std.specs.Float.{binary64}
use Rattle.std.specs.Float.Ieee
use Rattle.loops.specs.Arithmetic.{+0}
use Rattle.loops.specs.Choice.{when◌then◌else◌}
use Rattle.loops.specs.Refusal.{gives}
use Rattle.loops.specs.laws.ChoiceLaws.{either, and_second, when_true, when_false}
use Rattle.render.specs.declared.grid.Grid.{Grid}
use Rattle.render.specs.declared.grid.Grid.TheVariants.{Open, Closed}
use Rattle.render.specs.declared.grid.Notice.{Notice}
use Rattle.render.specs.Times.{past, within, first_past, counted}
use Rattle.render.specs.Sampled.{proper, due, due_from, room_for, rows, Renders, renders, written}
use Rattle.render.specs.laws.Clock.{Good, good}
use Rattle.render.specs.laws.PastLaws.{past_small, counted_is, past_from, past_before}
use Rattle.render.proofs.sampling.write.Goals as goal

proper_new : (t : Notice) → proper t ≡ true → within t.new ≡ true
proper_new t p = and_second (Ieee.lt +0 t.h && within t.start) (within t.new) p

new_good : (t : Notice) → Ieee.fits binary64 t.new ≡ true → proper t ≡ true → Good t.new
new_good t f p = good t.new f (proper_new t p)

-- a k lies past x from the first one on
past_is : (x : Float) → Good x → (k : ℕ) → leb (first_past x) k ≡ past x k
past_is x g k = go (leb (first_past x) k) refl
  where
    go : (b : Bool) → leb (first_past x) k ≡ b → b ≡ past x k
    go true e = sym (past_from x k g (leb-true (first_past x) k e))
    go false e = sym (past_before x k g (leb-false (first_past x) k e))

-- so many samples have room
room_holds : (n len c : ℕ) → c ≤ room_for n len → c * n ≤ len
room_holds n len c =
    either (λ (r : ℕ). c ≤ r → c * n ≤ len) (eqb n 0) (λ e (h : c ≤ 2 ^ 32). rw (eqb-true n 0 e) (omega arith))
    (λ e h. le_trans (mul-le-mul_right n h) (div-mul-le_self len n))

module _ (past room k c : ℕ) (is : c ≡ due past room k) where
  due_room : c ≤ room
  unfolding due
  due_room = omega arith

  due_past : 0 < c → k + c ≤ past
  unfolding due
  due_past h = omega arith

next_small : (k c p : ℕ) → k < 2 ^ 64 → (0 < c → k + c ≤ p) → p ≤ 2 ^ 32 - 1 → k + c < 2 ^ 64
next_small k zero p small h l = omega arith
next_small k (suc c) p small h l = let e : k + suc c ≤ p = h (omega arith) in omega arith

module _ (grid : Grid) (t : Notice) (n : ℕ) (cont out : List Float) (g : Good t.new) where
  count_is : (k : ℕ) {p r c : ℕ} → p ≡ first_past t.new → r ≡ room_for n (length out) → c ≡ due p r k → c ≡ counted t.new (room_for n (length out)) k
  unfolding due
  count_is k p r c = c ∙ rw (p, r) (sym (counted_is t.new (room_for n (length out)) k g))

  all : {k p r c : ℕ} {o : List Float} {placed : Grid} → k ≡ due_from grid t → p ≡ first_past t.new → r ≡ room_for n (length out) → c ≡ due p r k →
      o ≡ rows t n cont k c out → placed ≡ (when leb p (k + c) then Closed t (k + c) else Open t (k + c)) →
      ◌≡◌ {A = Renders} (renders (gives record { from = k; count = c; done = leb p (k + c) }) placed o) (written grid t n cont out)
  unfolding written
  all {k} {p} {r} {c} {o} first p_is r_is c_is o_is placed_is =
      let told : leb p (k + c) ≡ past t.new (k + c) = rw p_is (past_is t.new g (k + c)) in
      rw (placed_is, told, o_is, count_is k p_is r_is c_is, first)

pub write_rows-requires : goal.write_rows-requires
write_rows-requires c =
    let g = new_good c.args.notice c.well_formed.1.0.1.1.1.0.1 c.requires.1.1 in
    let few = due_room _ _ _ _ c.count_due-count.ensures in (
      c.requires.0,
      (
        c.requires.1.0,
        (
          room_holds _ _ _ (rw c.room_for.ensures at few),
          λ some. omega (arith, due_past _ _ _ _ c.count_due-count.ensures some, past_small _ g, c.first_past-past.ensures),
        ),
      ),
    )

pub overflow_add-next : goal.overflow_add-next
overflow_add-next c =
    let g = new_good c.args.notice c.well_formed.1.0.1.1.1.0.1 c.requires.1.1 in
    let small = past_small _ g in
    record { fits = next_small _ _ c.first_past-past.result c.due_from-from.type_inv (due_past _ _ _ _ c.count_due-count.ensures) (omega (arith, small, c.first_past-past.ensures)) }

pub returns-then-done : goal.returns-then-done
returns-then-done c =
    all c.args.grid.now c.args.notice c.args.n c.args.cont.now c.args.out.now
    (new_good c.args.notice c.well_formed.1.0.1.1.1.0.1 c.requires.1.1)
    c.due_from-from.ensures c.first_past-past.ensures c.room_for.ensures c.count_due-count.ensures c.write_rows.ensures
    (sym (when_true _ _ (le-leb _ _ c.if-done.true)))

pub returns-else-done : goal.returns-else-done
returns-else-done c =
    all c.args.grid.now c.args.notice c.args.n c.args.cont.now c.args.out.now
    (new_good c.args.notice c.well_formed.1.0.1.1.1.0.1 c.requires.1.1)
    c.due_from-from.ensures c.first_past-past.ensures c.room_for.ensures c.count_due-count.ensures c.write_rows.ensures
    (sym (when_false _ _ (lt-leb _ _ c.if-done.false)))
