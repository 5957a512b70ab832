-- Document 01, case 12: "Mode 8 fresh, GET RECORD n 1: count 1, $8D, 61,441 ticks after the start."
-- Assumes nothing.
use mathlib.Core.Path.{◌≡◌, ◌∙◌, refl, ap, subst}
use mathlib.Core.Bool.{Bool, true, false}
use mathlib.Core.List.{List, ◌∷◌}
use Prim.Native.Nat.{ℕ, zero, suc, ◌+◌, ◌-◌, ◌*◌, ◌≤◌, ◌<◌}
use native.Mathlib.Nat.{mod-lt, zero-mul}
use native.Mathlib.Omega.{arith}
use lib.Dec.{eqb}
use lib.ListN.{length, get_or, set}
use borrow.Author.Tests.{ne_eqb, eqb-false}
use Rattle.base.specs.Choice.{choose}
use Rattle.base.proofs.Choices.{pick_lt, choose_le}
use Rattle.handler.specs.declared.Asked.{Asked}
use Rattle.handler.specs.declared.Got.{Got}
use Rattle.handler.specs.declared.Got.TheVariants as got
use Rattle.handler.specs.Answer.{Answer, Gives, plain, warns}
use Rattle.handler.specs.Acts.{Acts, asks_on}
use Rattle.cells.specs.Modes.{modes, row_of, shape_of}
use Rattle.cells.specs.Cells.{place_of, cell_of}
use Rattle.graphics.specs.declared.Graphics.{Graphics}
use Rattle.graphics.specs.Picture.{onward, with_last, placed}
use Rattle.graphics.specs.Picture as graphics
use Rattle.console.specs.declared.Handler.TheVariants as console
use Rattle.console.specs.Group.{ConsoleGroup, graphics_of, fresh_group}
use Rattle.console.specs.Handlers.{open_s, open_of, prepare_s, prepare_of, read_s, read_of}
use Rattle.console.proofs.Keeps.{open_fit, fresh_group_lem}
use Rattle.blocks.specs.declared.Device.TheVariants.{S}
use Rattle.blocks.specs.declared.Kind.TheVariants.{Get}
use Rattle.blocks.specs.declared.Way.TheVariants.{Record}
use Rattle.blocks.specs.Opening.{area_length}
use Rattle.wire.specs.declared.Call.{Call}
use Rattle.replies.specs.Replies.{call_reply}
use Rattle.transfer.specs.Transfer.{eol, ends}
use Rattle.devices.specs.declared.Owner.TheVariants as owner
use Rattle.devices.specs.Groups.{own_acts}
use Rattle.plan.specs.declared.Job.{Job}
use Rattle.plan.specs.declared.Work.TheVariants as work
use Rattle.plan.specs.Plan.{job_of}
use Rattle.moves.specs.Move.{went}
use Rattle.alone.specs.Transfer.{Point, point, TransferEnd, next, drop_line, get_record, getting, transferred}
use Rattle.alone.specs.Left.{left_s, console_left}
use Rattle.alone.specs.Alone.{Local, AloneOn, alone_transfer, alone_work, alone_job}
use Rattle.alone.specs.Moves.{moves, RunsAt, begun_by}
use Rattle.alone.specs.Fit.{FitOwn}
use Rattle.alone.proofs.AloneIs.{device_ends}
use Rattle.alone.proofs.Ending.{on_got_lem}
use Rattle.alone.proofs.Lines.{owner_lines}

two : (mode : ℕ) → mode ≡ 8 → (shape_of mode).colours ≡ 2
unfolding shape_of row_of modes
two mode e = rw e

-- a character of mode 8 is no EOL, and the mode stays; a refusal is $8D, with no cell left
abbrev Heard : (m : ℕ) → Got → (mode : ℕ) → Type 0
Heard m (got.Character byte) mode = (eqb byte eol ≡ false) × (mode ≡ 8)
Heard m (got.Last byte) mode = ⊥
Heard m (got.Refused status) mode = (status ≡ 0x8D) × (m ≡ 0)

abbrev left_picture : Graphics → ℕ
left_picture g = ((shape_of g.mode).rows - g.row) * (shape_of g.mode).columns - g.column

cell_small : (g : Graphics) (cells : List ℕ) → g.mode ≡ 8 → cell_of (shape_of g.mode) g.row g.column cells ≡ eol → ⊥
unfolding cell_of
cell_small g cells e q =
    let c = two g.mode e in
    let h : cell_of (shape_of g.mode) g.row g.column cells < (shape_of g.mode).colours = mod-lt (get_or cells (place_of (shape_of g.mode) g.row g.column) 0) (omega arith) in
    omega arith

onward_mode : (g : Graphics) → g.mode ≡ 8 → (onward (shape_of g.mode) g).mode ≡ 8
unfolding onward
onward_mode g e = pick_lt (λ (y : Graphics). y.mode ≡ 8) (g.column + 1) (shape_of g.mode).columns (placed g.row (g.column + 1) g) (placed (g.row + 1) 0 g) (λ h. e) (λ h. e)

picture_heard : (cells : List ℕ) (g : Graphics) → g.mode ≡ 8 → let y = graphics.get_of cells g in Heard (left_picture g) y.says y.leaves.mode
unfolding graphics.get_of
picture_heard cells g e =
    choose_le (λ (y : Answer Got Graphics). Heard (left_picture g) y.says y.leaves.mode) (shape_of g.mode).rows g.row _ _
    (λ h. let z : (shape_of g.mode).rows - g.row ≡ 0 = omega arith in (refl, rw (z, zero-mul) (omega arith)))
    (λ h. (ne_eqb _ eol (cell_small g cells e), onward_mode (with_last _ g) e))

-- S, whatever it is asked for
abbrev screen : Asked → Acts ConsoleGroup
screen = own_acts (owner.Console console.S)

abbrev H : Acts ConsoleGroup
H = screen (asks_on 0 0)

abbrev left : ConsoleGroup → ℕ
left = console_left console.S

abbrev Fit8 : ConsoleGroup → Type 0
Fit8 g = FitOwn (owner.Console console.S) g × (g.console.mode ≡ 8)

console_heard : (g : ConsoleGroup) → g.console.mode ≡ 8 → let y = H.reads g in Heard (left g) y.says y.leaves.console.mode
unfolding read_of read_s console_left left_s
console_heard g e = picture_heard g.screen (graphics_of g.console) e

-- so many characters after the first, then the refusal
pub record Line (m count a : ℕ) (r : TransferEnd ConsoleGroup) : Type 0 where
  pub course : length r.course ≡ suc m
  pub status : r.status ≡ 0x8D
  pub counted : r.count ≡ count
  pub same : r.a ≡ a

false_true : {A : Type 0} → true ≡ false → A
false_true e = let z : ◌≡◌ {A = ℕ} 0 1 = cc in absurd (omega arith)

-- a read character is no EOL, and one fewer is left
heard_given : (m : ℕ) (says : Got) (status byte mode : ℕ) → Gives says status byte → Heard m says mode → (eqb byte eol ≡ false) × (mode ≡ 8)
heard_given m says status byte mode (plain e z) h = subst (λ (s : Got). Heard m s mode) e h
heard_given m says status byte mode (warns e z) h = absurd (subst (λ (s : Got). Heard m s mode) e h)

module _ (g : ConsoleGroup) (f : Fit8 g) (status byte : ℕ) (says : Gives (H.reads g).says status byte) where
  heard : (eqb byte eol ≡ false) × ((H.reads g).leaves.console.mode ≡ 8)
  heard = heard_given (left g) (H.reads g).says status byte (H.reads g).leaves.console.mode says (console_heard g f.1)

  no_eol : eqb byte eol ≡ false
  no_eol = heard.0

  after_fit : Fit8 (H.reads g).leaves
  after_fit = ((owner_lines (owner.Console console.S) 0 0).read_fit g f.0, heard.1)

  after_left : left g ≡ left (H.reads g).leaves + 1
  after_left = (owner_lines (owner.Console console.S) 0 0).falls g status byte f.0 says (eqb-false byte eol no_eol)

module _ (g : ConsoleGroup) (f : Fit8 g) (status : ℕ) (says : (H.reads g).says ≡ got.Refused status) where
  the_status : status ≡ 0x8D
  the_status = (subst (λ (s : Got). Heard (left g) s (H.reads g).leaves.console.mode) says (console_heard g f.1)).0

  none_more : left g ≡ 0
  none_more = (subst (λ (s : Got). Heard (left g) s (H.reads g).leaves.console.mode) says (console_heard g f.1)).1

not_eol : {m count a : ℕ} (t : Bool) (f g : Unit {0} → TransferEnd ConsoleGroup) → t ≡ false → Line m count a (g tt) → Line m count a (choose t f g)
not_eol true f g e h = false_true e
not_eol false f g e h = h

one_more : {m count a : ℕ} {r : TransferEnd ConsoleGroup} (p : Point ConsoleGroup) → Line m count a r → Line (suc m) count a (next p r)
one_more p h = record { course = ap suc h.course; status = h.status; counted = h.counted; same = h.same }

drop_8 : (m count a : ℕ) (area : List ℕ) (g : ConsoleGroup) → Fit8 g → left g ≡ m → Line m count a (drop_line H left a m count area g)
unfolding drop_line
drop_8 zero count a area g f z =
    on_got_lem (Line zero count a) (H.reads g).says _ _
    (λ status byte e. absurd (omega (arith, after_left g f status byte e)))
    (λ status e. record { course = refl; status = the_status g f status e; counted = refl; same = refl })
drop_8 (suc m) count a area g f z =
    on_got_lem (Line (suc m) count a) (H.reads g).says _ _
    (λ status byte e. not_eol (eqb byte eol) _ _ (no_eol g f status byte e)
    (one_more (point area (H.reads g).leaves count) (drop_8 m count a area (H.reads g).leaves (after_fit g f status byte e) (omega (arith, after_left g f status byte e)))))
    (λ status e. absurd (omega (arith, none_more g f status e)))

-- GET RECORD of one character: it, and then the line
record_8 : (m place a : ℕ) (area : List ℕ) (g : ConsoleGroup) → Fit8 g → left g ≡ suc m → Line (suc m) 1 a (get_record H left a 1 place 0 area g)
unfolding get_record
record_8 m place a area g f z =
    on_got_lem (Line (suc m) 1 a) (H.reads g).says _ _
    (λ status byte e.
    let w : left (H.reads g).leaves ≡ m = omega (arith, after_left g f status byte e) in
    not_eol (eqb byte eol) _ _ (no_eol g f status byte e)
    (one_more (point (set area place byte) (H.reads g).leaves 1)
    (rw w (drop_8 m 1 a (set area place byte) (H.reads g).leaves (after_fit g f status byte e) w))))
    (λ status e. absurd (omega (arith, none_more g f status e)))

-- the fresh console, opened in mode 8 with R
abbrev pub mode8 : ConsoleGroup
mode8 = (open_of console.S 0x04 8 fresh_group).leaves

is_8 : mode8.console.mode ≡ 8
unfolding open_of open_s graphics.open_of
is_8 = refl

pub mode8_fit : FitOwn (owner.Console console.S) mode8
unfolding open_of open_s graphics.open_of
mode8_fit = (open_fit fresh_group fresh_group_lem console.S 0x04 8, refl)

left_8 : left mode8 ≡ 61440
unfolding open_of open_s graphics.open_of console_left left_s shape_of row_of modes
left_8 = refl

pub case_12 : (place a : ℕ) (area : List ℕ) → Line 61440 1 a (get_record H left a 1 place 0 area mode8)
case_12 place a area = record_8 61439 place a area mode8 (mode8_fit, is_8) left_8

-- and so by moves: after 61,440 it runs, after 61,441 it is over
abbrev pub record_of_one_lem : Call → Job
record_of_one_lem c = job_of S (work.Transfer (Get Record)) c

module _ (c : Call) (l : Local) (n : c.length ≡ 1) where
  course_12 : Line 61440 1 c.a (transferred H left c.a (Get Record) c.length c.address 0 l.area mode8)
  unfolding transferred getting
  course_12 = rw n (case_12 c.address c.a l.area)

  abbrev pub alone12 : AloneOn ConsoleGroup
  alone12 = alone_job screen left (record_of_one_lem c) l mode8

  pub alone_12 : (length alone12.course ≡ 61441) × (alone12.reply ≡ call_reply 0x8D 1 c.a)
  unfolding alone_work alone_transfer prepare_of prepare_s open_of open_s graphics.open_of
  alone_12 = (course_12.course, rw (course_12.status, course_12.counted, course_12.same))

  pub case_12_moves : (d : Point ConsoleGroup) → c.address + 1 ≤ area_length
      → let b = begun_by screen (record_of_one_lem c) l mode8 in
      RunsAt (get_or (point l.area b.device 0 ∷ alone12.course) 61440 d) (moves screen l.number 61440 b.out l.area b.device)
      × (moves screen l.number 61441 b.out l.area b.device ≡ went alone12.local.area alone12.device (ends (call_reply 0x8D 1 c.a)))
  case_12_moves d h =
      let e = (device_ends (record_of_one_lem c) l mode8 mode8_fit.0 (omega arith, (omega arith, omega arith))).comes in (
        e.runs 61440 d (omega (arith, alone_12.0)),
        e.over 61441 (omega (arith, alone_12.0)) ∙ ap (λ (reply : List ℕ). went alone12.local.area alone12.device (ends reply)) alone_12.1,
      )
