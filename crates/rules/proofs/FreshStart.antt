-- Document 01, "Fresh: both ports gathering with no byte taken, no group held, blocks closed, areas zero, paper used 0 (its bytes
-- as lent), screen as after opening E with cells past 960 zero, no key, shift lock, inverse off, last character 0."
-- Assumes nothing.
use mathlib.Core.Path.{◌≡◌, refl}
use mathlib.Core.Bool.{true}
use Prim.Native.Nat.{ℕ, ◌*◌}
use lib.ListN.{replicate, length-replicate}
use Rattle.base.proofs.Choices.{choose_go}
use Rattle.cells.specs.Modes.{modes, row_of, shape_of, count_of}
use Rattle.cells.specs.Cells.{filled}
use Rattle.editor.specs.Text as editor
use Rattle.console.specs.Group.{group, fresh_console, fresh_group}
use Rattle.console.specs.Handlers.{open_e}
use Rattle.console.proofs.Keeps.{fresh_group_lem}
use Rattle.blocks.specs.Opening.{area_length}
use Rattle.wire.specs.Fits.{gather_fits}
use Rattle.wire.specs.Messages.{room_length}
use Rattle.layout.specs.Stick.{Stick, fresh_stick, Lent}
use Rattle.cassette.specs.Fit.{fits_cassette}
use Rattle.devices.specs.Marks.{marks_fit}
use Rattle.devices.specs.Placed.{places_fit}
use Rattle.damage.specs.Fits.{phase_fits, port_fits, stick_fits}
use Rattle.calls.specs.Stick.{Outcome, outcome, screen_length, lengths_fit, LengthsFit, Guarded}
use Rattle.calls.specs.Calls.{fresh_lent, fresh_call}
use Rattle.rules.proofs.Guards.{fit_of_lem}

-- "No state reached from fresh by these calls is damaged": not the fresh one
pub fresh_undamaged : (l : Lent) → stick_fits fresh_stick l ≡ true
unfolding stick_fits port_fits phase_fits gather_fits fits_cassette marks_fit places_fit
fresh_undamaged l = rw fresh_group_lem.fit

module _ (l : Lent) (w : LengthsFit l) where
  -- what it leaves in the lent buffers has their lengths
  pub fresh_lengths : LengthsFit (fresh_lent l)
  fresh_lengths = record { rooms = length-replicate {A = ℕ} (2 * room_length) 0; area = length-replicate {A = ℕ} (2 * area_length) 0; whole = fresh_group_lem.whole; paper = w.paper; tape = w.tape; images = w.images }

  -- "fresh start gives 0 or 2 only": from any state, damaged or not
  pub fresh_done : (s : Stick) → fresh_call s l ≡ outcome 0 0 fresh_stick (fresh_lent l)
  unfolding fresh_call
  fresh_done s = rw (fit_of_lem l w)

  pub fresh_guarded : (s : Stick) → Guarded (fresh_call s l).stick (fresh_call s l).lent
  fresh_guarded s = rw (fresh_done s) (record { lengths = fresh_lengths; fits = fresh_undamaged (fresh_lent l) })

-- "paper used 0 (its bytes as lent)", whatever the answer
pub fresh_paper : (s : Stick) (l : Lent) → (fresh_call s l).lent.paper ≡ l.paper
unfolding fresh_call
fresh_paper s l = choose_go (λ (o : Outcome). o.lent.paper ≡ l.paper) (lengths_fit l) _ _ (λ t. refl) (λ t. refl)

-- and the tape's bytes as lent
pub fresh_tape : (s : Stick) (l : Lent) → (fresh_call s l).lent.tape ≡ l.tape
unfolding fresh_call
fresh_tape s l = choose_go (λ (o : Outcome). o.lent.tape ≡ l.tape) (lengths_fit l) _ _ (λ t. refl) (λ t. refl)

-- "screen as after opening E with cells past 960 zero": E opened over a screen of zeros
pub fresh_opened : open_e (group fresh_console (replicate screen_length 0)) ≡ fresh_group
unfolding open_e editor.open_of filled count_of shape_of row_of modes
fresh_opened = refl
