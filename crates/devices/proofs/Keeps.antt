-- An undamaged group goes into its bytes, and an opening leaves it undamaged; so does SPECIAL.
-- Assumes nothing.
use mathlib.Core.Path.{◌≡◌, ◌∙◌}
use mathlib.Core.Bool.{true}
use Prim.Native.Nat.{ℕ, ◌<◌}
use native.Mathlib.Omega.{arith}
use lib.Dec.{leb, ltb}
use lib.Seq.{length-sets}
use borrow.Author.Tests.{eq-eqb, ne_eqb, ltb-true, leb-true}
use Rattle.base.specs.Choice.{and, within}
use Rattle.base.proofs.Choices.{by_eq, and_left, and_right}
use Rattle.handler.specs.declared.Asked.{Asked}
use Rattle.cells.specs.Modes.{shape_of, is_mode}
use Rattle.cells.proofs.Shapes.{shape_good}
use Rattle.std.specs.Prelude.{Option, None, Some}
use Rattle.console.specs.declared.state.Console.{Console}
use Rattle.console.specs.Fit.{cursor_fits, reading_fits, keys_fit, fit_of}
use Rattle.layout.specs.InBytes.{ReadingInBytes}
use Rattle.console.proofs.Keeps.{open_fit}
use Rattle.cassette.proofs.Keeps as cassette_keeps
use Rattle.disk.proofs.Keeps.{open_places}
use Rattle.devices.specs.declared.Owner.{Owner}
use Rattle.devices.specs.declared.Owner.TheVariants as owner
use Rattle.devices.specs.Groups.{Groups, Part, get_group, group_in, own_acts}
use Rattle.devices.specs.Fit.{FitPart, FitGroups, GoesIn}

pub fit_at : (o : Owner) (s : Groups) → FitGroups s → FitPart (group_in o) (get_group (group_in o) s)
fit_at (owner.Console h) s f = f.console
fit_at owner.Printer s f = f.printer
fit_at owner.Cassette s f = f.cassette
fit_at owner.Disk s f = f.disk

pub opens_fit : (o : Owner) (asked : Asked) (x : Part (group_in o)) → FitPart (group_in o) x → FitPart (group_in o) ((own_acts o asked).opens x).leaves
opens_fit (owner.Console h) asked x f = open_fit x f h asked.aux1 asked.aux2
opens_fit owner.Printer asked x f = f
opens_fit owner.Cassette asked x f = cassette_keeps.open_fit asked.aux1 x f
opens_fit owner.Disk asked x f = record { places = open_places asked x ∙ f.places; images = f.images }

pub specials_fit : (o : Owner) (asked : Asked) (x : Part (group_in o)) → FitPart (group_in o) x → FitPart (group_in o) ((own_acts o asked).specials x).leaves
specials_fit (owner.Console h) asked x f = f
specials_fit owner.Printer asked x f = f
specials_fit owner.Cassette asked x f = f
specials_fit owner.Disk asked x f = record { places = simp length-sets f.places; images = f.images }

row_in : (mode row column : ℕ) → cursor_fits mode row column ≡ true → row < 256
unfolding cursor_fits
row_in mode row column e =
    by_eq mode 0
    (λ z.
    let m : and (ltb row 24) (within 2 39 column) ≡ true = rw (eq-eqb mode 0 z) at e in
    omega (arith, ltb-true row 24 (and_left (ltb row 24) (within 2 39 column) m)))
    (λ z.
    let m : and (leb row (shape_of mode).rows) (ltb column (shape_of mode).columns) ≡ true = rw (ne_eqb mode 0 z) at e in
    omega (arith, (shape_good mode).high, leb-true row (shape_of mode).rows (and_left (leb row (shape_of mode).rows) (ltb column (shape_of mode).columns) m)))

reading_in_lem : (r : Option ℕ) → reading_fits r ≡ true → ReadingInBytes r
unfolding reading_fits
reading_in_lem None e = tt
reading_in_lem (Some column) e = omega (arith, leb-true column 40 (and_right (leb 2 column) (leb column 40) e))

module _ (c : Console) (e : fit_of c ≡ true) where
  pub console_row : c.row < 256
  unfolding fit_of
  console_row =
      let a = is_mode c.mode in
      let b = cursor_fits c.mode c.row c.column in
      let d = and (reading_fits c.reading) (keys_fit c.keyboard) in
      row_in c.mode c.row c.column (and_left b d (and_right a (and b d) e))

  pub console_reading : ReadingInBytes c.reading
  unfolding fit_of
  console_reading =
      let a = is_mode c.mode in
      let b = cursor_fits c.mode c.row c.column in
      let d = reading_fits c.reading in
      let f = keys_fit c.keyboard in
      reading_in_lem c.reading (and_left d f (and_right b (and d f) (and_right a (and b (and d f)) e)))

pub goes_in : (o : Owner) (x : Part (group_in o)) → FitPart (group_in o) x → GoesIn (group_in o) x
goes_in (owner.Console h) x f = (console_row x.console f.fit, console_reading x.console f.fit)
goes_in owner.Printer x f = tt
goes_in owner.Cassette x f = f.pending
goes_in owner.Disk x f = f.places
