-- `writer::pack` meets its contract: the four parts, put one after the other, are the job. Assumes nothing.
use Rattle.std.specs.Prelude.{◌≡◌, true, List, ◌++◌, ℕ, ◌*◌, ◌≤◌, length, drop, Some}
use Rattle.std.proofs.Common.{◌∙◌, arith, rules}
use Rattle.text.specs.Page.{Sheet, puts, room_for}
use Rattle.text.specs.Words.{bytes_of}
use Rattle.job.specs.declared.form.Form.{Form}
use Rattle.job.specs.Packed.{length_for}
use Rattle.job.specs.Writing.{head_for, joined, packed_of}
use Rattle.job.specs.laws.FitLaws.{test_fits}
use Rattle.job.specs.laws.JoinedLaws.{length_joined}
use Rattle.job.specs.laws.LaidLaws.{singles, first, second, third, first_long, second_long, third_long, room_after, put_after, packed_put}
use Rattle.job.proofs.writer.pack.Goals as goal

module _ (f : Form) (y0 a out : List ℕ) (long : length y0 ≡ f.n) (square : length a ≡ f.n * f.n) (room : length_for f.n ≤ length out) where
  module _ {w : ℕ} {blank p : Sheet} (is : w ≡ head_for f) (from : blank ≡ (Some 0, out)) (put : p ≡ puts (bytes_of 5 w) blank) where
    head_on : p ≡ puts (first f) (Some 0, out)
    head_on = rw (is, from) at put

    singles_room : room_for (8 * length (singles f)) p.0 (length p.1) ≡ true
    singles_room = room_after out (first f) head_on 40 (omega (arith, first_long f, room))

    module _ {q : Sheet} (put2 : q ≡ puts (joined (singles f)) p) where
      singles_on : q ≡ puts (second f) (Some 0, out)
      singles_on = put_after out (first f) head_on (joined (singles f)) (omega (arith, first_long f, length_joined (singles f), room)) put2

      state_room : room_for (8 * length y0) q.0 (length q.1) ≡ true
      state_room = room_after out (second f) singles_on (8 * length y0) (omega (arith, second_long f, long, room))

      module _ {r : Sheet} (put3 : r ≡ puts (joined y0) q) where
        state_on : r ≡ puts (third f y0) (Some 0, out)
        state_on = put_after out (second f) singles_on (joined y0) (omega (arith, second_long f, length_joined y0, long, room)) put3

        cells_room : room_for (8 * length a) r.0 (length r.1) ≡ true
        cells_room = room_after out (third f y0) state_on (8 * length a) (omega (arith, third_long f y0, long, square, room))

        cells_on : {t : Sheet} → t ≡ puts (joined a) r → t ≡ puts (third f y0 ++ joined a) (Some 0, out)
        cells_on put4 = put_after out (third f y0) state_on (joined a) (omega (arith, third_long f y0, length_joined a, long, square, room)) put4

pub head_for-requires : goal.head_for-requires
head_for-requires c = let s = test_fits _ _ _ c.requires.1.0 in (c.requires.0, (s.steps, s.newton))

pub put_words-requires : goal.put_words-requires
put_words-requires c =
    let s = test_fits _ _ _ c.requires.1.0 in
    singles_room c.args.f c.args.y0.now c.args.a.now _ s.long s.square c.requires.1.1 c.head_for.ensures c.new-page.ensures.seen c.put_word.ensures.put

pub put_words-requires-2 : goal.put_words-requires-2
put_words-requires-2 c =
    let s = test_fits _ _ _ c.requires.1.0 in
    state_room c.args.f c.args.y0.now c.args.a.now _ s.long s.square c.requires.1.1 c.head_for.ensures c.new-page.ensures.seen c.put_word.ensures.put c.put_words.ensures.put

pub put_words-requires-3 : goal.put_words-requires-3
put_words-requires-3 c =
    let s = test_fits _ _ _ c.requires.1.0 in
    cells_room c.args.f c.args.y0.now c.args.a.now _ s.long s.square c.requires.1.1 c.head_for.ensures c.new-page.ensures.seen c.put_word.ensures.put c.put_words.ensures.put c.put_words-2.ensures.put

pub returns : goal.returns
returns c =
    let s = test_fits _ _ _ c.requires.1.0 in
    let job : c.put_words-3.new.page.bytes.now ≡ packed_of c.args.f c.args.y0.now c.args.a.now ++ drop (length_for c.args.f.n) c.args.out.now =
    packed_put c.args.f c.args.y0.now c.args.a.now _ s.long s.square c.requires.1.1
    (cells_on c.args.f c.args.y0.now c.args.a.now _ s.long s.square c.requires.1.1 c.head_for.ensures c.new-page.ensures.seen c.put_word.ensures.put c.put_words.ensures.put c.put_words-2.ensures.put
    c.put_words-3.ensures.put) in
    let same = c.put_words-3.ensures.same ∙ c.put_words-2.ensures.same ∙ c.put_words.ensures.same ∙ c.put_word.ensures.same ∙ c.new-page.ensures.same in
    search rules
