-- What a call's first tests show.
-- Assumes nothing.
use mathlib.Core.Path.{◌≡◌, refl}
use mathlib.Core.Bool.{Bool, true, false}
use Prim.Native.Nat.{ℕ, ◌*◌}
use native.Mathlib.Omega.{arith}
use lib.Dec.{eqb, ltb}
use lib.ListN.{length}
use borrow.Author.Tests.{eq-eqb, eqb-true}
use Rattle.base.specs.Choice.{pick, and}
use Rattle.base.proofs.Choices.{and_left, and_right}
use Rattle.printer.specs.Printer.{paper_length}
use Rattle.records.specs.Records.{tape_length}
use Rattle.image.specs.Image.{images_length}
use Rattle.blocks.specs.Opening.{area_length}
use Rattle.wire.specs.Messages.{room_length}
use Rattle.layout.specs.Stick.{Stick, Lent}
use Rattle.damage.specs.Fits.{stick_fits}
use Rattle.calls.specs.Stick.{screen_length, lengths_fit, refusal_of, LengthsFit, Guarded}

module _ (l : Lent) where
  pub lengths_of : lengths_fit l ≡ true → LengthsFit l
  unfolding lengths_fit
  lengths_of e =
      let a = eqb (length l.rooms) (2 * room_length) in
      let b = eqb (length l.area) (2 * area_length) in
      let c = eqb (length l.screen) screen_length in
      let d = eqb (length l.paper) paper_length in
      let f = eqb (length l.tape) tape_length in
      let i = eqb (length l.images) images_length in
      let e1 = and_right a (and b (and c (and d (and f i)))) e in
      let e2 = and_right b (and c (and d (and f i))) e1 in
      let e3 = and_right c (and d (and f i)) e2 in
      let e4 = and_right d (and f i) e3 in
      record {
        rooms = eqb-true _ _ (and_left a (and b (and c (and d (and f i)))) e);
        area = eqb-true _ _ (and_left b (and c (and d (and f i))) e1);
        whole = record { all = eqb-true _ _ (and_left c (and d (and f i)) e2) };
        paper = eqb-true _ _ (and_left d (and f i) e3);
        tape = eqb-true _ _ (and_left f i e4);
        images = eqb-true _ _ (and_right f i e4);
      }

  pub fit_of_lem : LengthsFit l → lengths_fit l ≡ true
  unfolding lengths_fit
  fit_of_lem w =
      rw (
        eq-eqb (length l.rooms) (2 * room_length) w.rooms,
        eq-eqb (length l.area) (2 * area_length) w.area,
        eq-eqb (length l.screen) screen_length w.whole.all,
        eq-eqb (length l.paper) paper_length w.paper,
        eq-eqb (length l.tape) tape_length w.tape,
        eq-eqb (length l.images) images_length w.images,
      )

picked : (a b c : Bool) → ◌≡◌ {A = ℕ} (pick a (pick b (pick c 0 1) 3) 2) 0 → (a ≡ true) × (b ≡ true)
picked true true true e = (refl, refl)
picked true true false e = absurd (omega arith)
picked true false c e = absurd (omega arith)
picked false b c e = absurd (omega arith)

-- a call that is not refused
pub guarded_of : (s : Stick) (l : Lent) (port : ℕ) → refusal_of s l port ≡ 0 → Guarded s l
unfolding refusal_of
guarded_of s l port z =
    let p = picked (lengths_fit l) (stick_fits s l) (ltb port 2) z in
    record { lengths = lengths_of l p.0; fits = p.1 }
