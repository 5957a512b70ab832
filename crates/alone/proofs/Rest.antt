-- One character of a transfer: what is left after a move is the whole of the rest.
-- Assumes nothing.
use mathlib.Core.Path.{◌≡◌, ◌∙◌, refl, ap}
use mathlib.Core.Bool.{Bool, true, false}
use mathlib.Core.List.{List}
use Prim.Native.Nat.{ℕ, zero, suc, ◌+◌, ◌-◌, ◌<◌}
use native.Mathlib.Omega.{arith}
use lib.Dec.{eqb}
use lib.ListN.{get_or, set}
use borrow.Author.Tests.{ne_eqb, eqb-false}
use Rattle.base.specs.Choice.{pick, choose}
use Rattle.handler.specs.declared.Done.{Done}
use Rattle.handler.specs.declared.Done.TheVariants as done
use Rattle.handler.specs.declared.Got.{Got}
use Rattle.handler.specs.declared.Got.TheVariants as got
use Rattle.handler.specs.Answer.{Gives, plain, warns}
use Rattle.handler.specs.Acts.{Acts}
use Rattle.blocks.specs.declared.Device.{Device}
use Rattle.blocks.specs.declared.Kind.{Kind}
use Rattle.blocks.specs.declared.Kind.TheVariants.{Get, Put}
use Rattle.blocks.specs.declared.Run.{Run}
use Rattle.blocks.specs.declared.Way.{Way}
use Rattle.blocks.specs.declared.Way.TheVariants.{One, Characters, Record}
use Rattle.transfer.specs.declared.Next.{Next}
use Rattle.transfer.specs.declared.Next.TheVariants.{On, Off}
use Rattle.transfer.specs.Transfer.{Progress, progress, further_of, ended_of, onward_of, eol, record_of, got_character, got_of, sent_byte, sent_record, sent_next, sent_of, out_of}
use Rattle.moves.specs.Move.{Went, went, get_of, put_of, go_of}
use Rattle.alone.specs.Transfer.{point, TransferEnd, last, next, on_got, on_done, get_one, put_one, get_characters, drop_line, get_record, put_characters, put_record, getting, putting, transferred}
use Rattle.alone.specs.Moves.{whole_of, Lines}

-- a move, before its reply is made
pub record Stepped (D : Type 0) : Type 0 where
  pub area : List ℕ
  pub device : D
  pub next : Next

abbrev pub stepped : {D : Type 0} → List ℕ → D → Next → Stepped D
stepped area x next = record { area = area; device = x; next = next }

abbrev pub landing : {D : Type 0} → Stepped D → Went D
landing s = went s.area s.device (out_of s.next)

-- by what the handler says and leaves
abbrev pub got_step : {D : Type 0} → Way → Run → Got → List ℕ → D → Stepped D
got_step way run says area y = let p = got_of way run says area in stepped p.area y p.next

abbrev pub sent_step : {D : Type 0} → Way → Run → Done → List ℕ → D → Stepped D
sent_step way run says area y = stepped area y (sent_of way run (sent_byte way run area) says)

abbrev pub step_of : {D : Type 0} → Acts D → Kind → Run → List ℕ → D → Stepped D
step_of H (Get way) run area x = got_step way run (H.reads x).says area (H.reads x).leaves
step_of H (Put way) run area x = let y = H.writes (sent_byte way run area) x in sent_step way run y.says area y.leaves

pub go_is : {D : Type 0} (H : Acts D) (kind : Kind) (run : Run) (area : List ℕ) (x : D) → go_of H kind run area x ≡ landing (step_of H kind run area x)
unfolding go_of get_of put_of
go_is H (Get way) run area x = refl
go_is H (Put way) run area x = refl

-- the rest after a move, with the move's own point
module _ {D : Type 0} (H : Acts D) (left : D → ℕ) where
  abbrev pub rest_next : Next → List ℕ → D → TransferEnd D
  rest_next (On run) area y = next (point area y run.count) (whole_of H left run area y)
  rest_next (Off status count a) area y = last area y status count a

  abbrev pub rest_of : Stepped D → TransferEnd D
  rest_of s = rest_next s.next s.area s.device

abbrev pub run_by : Kind → Device → (iocb n place count a : ℕ) → Run
run_by kind device iocb n place count a = record { kind = kind; device = device; iocb = iocb; left = n; place = place; count = count; a = a }

-- a transfer of so many characters has one at least
abbrev pub Some : Way → ℕ → Type 0
Some One n = Unit {0}
Some Characters n = 0 < n
Some Record n = Unit {0}

abbrev pub SomeIn : Kind → ℕ → Type 0
SomeIn (Get way) n = Some way n
SomeIn (Put way) n = Some way n

-- a transfer's counting down, by zero and suc
module _ (kind : Kind) (device : Device) (iocb place count a : ℕ) where
  further_is : (n : ℕ) → further_of (run_by kind device iocb (suc n) place count a) ≡ run_by kind device iocb n (place + 1) (count + 1) a
  further_is n = let e : suc n - 1 ≡ n = omega arith in rw e

  abbrev onwards : (status n : ℕ) → Next
  onwards status zero = Off status (count + 1) a
  onwards status (suc n) = On (run_by kind device iocb (suc n) (place + 1) (count + 1) a)

  onward_by : (status n : ℕ) → onward_of (run_by kind device iocb n (place + 1) (count + 1) a) status ≡ onwards status n
  unfolding onward_of
  onward_by status zero = refl
  onward_by status (suc n) = rw (ne_eqb (suc n) 0 (λ e. omega arith))

  onward_is : (status n : ℕ) → onward_of (further_of (run_by kind device iocb (suc n) place count a)) status ≡ onwards status n
  onward_is status n = ap (λ (run : Run). onward_of run status) (further_is n) ∙ onward_by status n

  -- a record's next, by the test of its EOL
  abbrev recorded : Bool → (status n : ℕ) → Next
  recorded t status n = pick t (Off status (count + 1) a) (On (run_by kind device iocb n (place + 1) (count + 1) a))

  record_is : (n status byte : ℕ) → record_of (further_of (run_by kind device iocb (suc n) place count a)) status byte ≡ recorded (eqb byte eol) status n
  unfolding record_of
  record_is n status byte = ap (λ (run : Run). pick (eqb byte eol) (ended_of status run) (On run)) (further_is n)

  got_some : (n status byte : ℕ) (area : List ℕ) → got_character Record (run_by kind device iocb (suc n) place count a) status byte area ≡ progress (recorded (eqb byte eol) status n) (set area place byte)
  unfolding got_character
  got_some n status byte area = rw (ne_eqb (suc n) 0 (λ e. omega arith), record_is n status byte)

  got_none : (status byte : ℕ) (area : List ℕ)
      → got_character Record (run_by kind device iocb zero place count a) status byte area ≡ progress (pick (eqb byte eol) (Off 0x89 count a) (On (run_by kind device iocb zero place count a))) area
  unfolding got_character
  got_none status byte area = refl

  sent_some : (n byte : ℕ) → sent_record (run_by kind device iocb (suc n) place count a) byte ≡ recorded (eqb byte eol) 0x01 n
  unfolding sent_record
  sent_some n byte = rw (ne_eqb (suc n) 0 (λ e. omega arith)) (record_is n 0x01 byte)

  sent_none : (byte : ℕ) → sent_record (run_by kind device iocb zero place count a) byte ≡ Off 0x01 count a
  unfolding sent_record
  sent_none byte = refl

  byte_some : (n : ℕ) (area : List ℕ) → sent_byte Record (run_by kind device iocb (suc n) place count a) area ≡ get_or area place 0
  unfolding sent_byte
  byte_some n area = rw (ne_eqb (suc n) 0 (λ e. omega arith))

  byte_none : (area : List ℕ) → sent_byte Record (run_by kind device iocb zero place count a) area ≡ eol
  unfolding sent_byte
  byte_none area = refl

module _ {D : Type 0} (H : Acts D) (left : D → ℕ) (device : Device) (iocb a : ℕ) where
  -- what of `left` is known when the handler says this
  abbrev Falls : ℕ → Got → D → Type 0
  Falls m says y = (status byte : ℕ) → Gives says status byte → (byte ≡ eol → ⊥) → m ≡ left y + 1

  get_one_lem : (n place count : ℕ) (area : List ℕ) (says : Got) (y : D)
      → rest_of H left (got_step One (run_by (Get One) device iocb n place count a) says area y)
      ≡ on_got says (λ status byte. last area y status count byte) (λ status. last area y status count a)
  unfolding got_of got_character
  get_one_lem n place count area (got.Character byte) y = refl
  get_one_lem n place count area (got.Last byte) y = refl
  get_one_lem n place count area (got.Refused status) y = refl

  put_one_lem : (n place count : ℕ) (area : List ℕ) (says : Done) (y : D)
      → rest_of H left (sent_step One (run_by (Put One) device iocb n place count a) says area y)
      ≡ on_done says (λ u. last area y 0x01 count a) (λ status. last area y status count a)
  unfolding sent_of sent_next
  put_one_lem n place count area done.Success y = refl
  put_one_lem n place count area (done.Refused status) y = refl

  got_onwards : (status n place count : ℕ) (area : List ℕ) (y : D)
      → rest_next H left (onwards (Get Characters) device iocb place count a status n) area y
      ≡ next (point area y (count + 1)) (get_characters H left a status n (place + 1) (count + 1) area y)
  unfolding get_characters getting transferred
  got_onwards status zero place count area y = refl
  got_onwards status (suc n) place count area y = refl

  got_on : (status n place count byte : ℕ) (area : List ℕ) (y : D)
      → rest_next H left (onward_of (further_of (run_by (Get Characters) device iocb (suc n) place count a)) status) (set area place byte) y
      ≡ next (point (set area place byte) y (count + 1)) (get_characters H left a status n (place + 1) (count + 1) (set area place byte) y)
  got_on status n place count byte area y =
      ap (λ (m : Next). rest_next H left m (set area place byte) y) (onward_is (Get Characters) device iocb place count a status n)
      ∙ got_onwards status n place count (set area place byte) y

  get_characters_lem : (n place count : ℕ) (area : List ℕ) (says : Got) (y : D)
      → rest_of H left (got_step Characters (run_by (Get Characters) device iocb (suc n) place count a) says area y)
      ≡ on_got says
      (λ status byte. next (point (set area place byte) y (count + 1)) (get_characters H left a status n (place + 1) (count + 1) (set area place byte) y))
      (λ status. last area y status count a)
  unfolding got_of got_character
  get_characters_lem n place count area (got.Character byte) y = got_on 0x01 n place count byte area y
  get_characters_lem n place count area (got.Last byte) y = got_on 0x03 n place count byte area y
  get_characters_lem n place count area (got.Refused status) y = refl

  put_onwards : (n place count : ℕ) (area : List ℕ) (y : D)
      → rest_next H left (onwards (Put Characters) device iocb place count a 0x01 n) area y
      ≡ next (point area y (count + 1)) (put_characters H left a n (place + 1) (count + 1) area y)
  unfolding put_characters putting transferred
  put_onwards zero place count area y = refl
  put_onwards (suc n) place count area y = refl

  put_characters_lem : (n place count : ℕ) (area : List ℕ) (says : Done) (y : D)
      → rest_of H left (sent_step Characters (run_by (Put Characters) device iocb (suc n) place count a) says area y)
      ≡ on_done says
      (λ u. next (point area y (count + 1)) (put_characters H left a n (place + 1) (count + 1) area y))
      (λ status. last area y status count a)
  unfolding sent_of sent_next
  put_characters_lem n place count area done.Success y =
      ap (λ (m : Next). rest_next H left m area y) (onward_is (Put Characters) device iocb place count a 0x01 n) ∙ put_onwards n place count area y
  put_characters_lem n place count area (done.Refused status) y = refl

  get_recorded : (t : Bool) (status n place count : ℕ) (area : List ℕ) (y : D)
      → rest_next H left (recorded (Get Record) device iocb place count a t status n) area y
      ≡ choose t (λ u. last area y status (count + 1) a) (λ u. next (point area y (count + 1)) (get_record H left a n (place + 1) (count + 1) area y))
  unfolding getting transferred
  get_recorded true status n place count area y = refl
  get_recorded false status n place count area y = refl

  got_recorded : (status n place count byte : ℕ) (area : List ℕ) (y : D)
      → let p = got_character Record (run_by (Get Record) device iocb (suc n) place count a) status byte area in rest_next H left p.next p.area y
      ≡ choose (eqb byte eol)
      (λ u. last (set area place byte) y status (count + 1) a)
      (λ u. next (point (set area place byte) y (count + 1)) (get_record H left a n (place + 1) (count + 1) (set area place byte) y))
  got_recorded status n place count byte area y =
      ap (λ (p : Progress). rest_next H left p.next p.area y) (got_some (Get Record) device iocb place count a n status byte area)
      ∙ get_recorded (eqb byte eol) status n place count (set area place byte) y

  get_record_lem : (n place count : ℕ) (area : List ℕ) (says : Got) (y : D)
      → rest_of H left (got_step Record (run_by (Get Record) device iocb (suc n) place count a) says area y)
      ≡ on_got says
      (λ status byte. choose (eqb byte eol)
      (λ u. last (set area place byte) y status (count + 1) a)
      (λ u. next (point (set area place byte) y (count + 1)) (get_record H left a n (place + 1) (count + 1) (set area place byte) y)))
      (λ status. last area y status count a)
  unfolding got_of
  get_record_lem n place count area (got.Character byte) y = got_recorded 0x01 n place count byte area y
  get_record_lem n place count area (got.Last byte) y = got_recorded 0x03 n place count byte area y
  get_record_lem n place count area (got.Refused status) y = refl

  put_recorded : (t : Bool) (n place count : ℕ) (area : List ℕ) (y : D)
      → rest_next H left (recorded (Put Record) device iocb place count a t 0x01 n) area y
      ≡ choose t (λ u. last area y 0x01 (count + 1) a) (λ u. next (point area y (count + 1)) (put_record H left a n (place + 1) (count + 1) area y))
  unfolding putting transferred
  put_recorded true n place count area y = refl
  put_recorded false n place count area y = refl

  put_record_lem : (n place count byte : ℕ) (area : List ℕ) (says : Done) (y : D)
      → rest_next H left (sent_of Record (run_by (Put Record) device iocb (suc n) place count a) byte says) area y
      ≡ on_done says
      (λ u. choose (eqb byte eol)
      (λ u. last area y 0x01 (count + 1) a)
      (λ u. next (point area y (count + 1)) (put_record H left a n (place + 1) (count + 1) area y)))
      (λ status. last area y status count a)
  unfolding sent_of sent_next
  put_record_lem n place count byte area done.Success y =
      ap (λ (m : Next). rest_next H left m area y) (sent_some (Put Record) device iocb place count a n byte) ∙ put_recorded (eqb byte eol) n place count area y
  put_record_lem n place count byte area (done.Refused status) y = refl

  put_last : (place count byte : ℕ) (area : List ℕ) (says : Done) (y : D)
      → rest_next H left (sent_of Record (run_by (Put Record) device iocb zero place count a) byte says) area y
      ≡ on_done says (λ u. last area y 0x01 count a) (λ status. last area y status count a)
  unfolding sent_of sent_next
  put_last place count byte area done.Success y = ap (λ (m : Next). rest_next H left m area y) (sent_none (Put Record) device iocb place count a byte)
  put_last place count byte area (done.Refused status) y = refl

  -- dropping, by what the handler says and leaves
  abbrev dropped : ℕ → (count : ℕ) → List ℕ → Got → D → TransferEnd D
  dropped zero count area says y = on_got says (λ status byte. last area y 0x89 count a) (λ status. last area y status count a)
  dropped (suc m) count area says y =
      on_got says
      (λ status byte. choose (eqb byte eol) (λ u. last area y 0x89 count a) (λ u. next (point area y count) (drop_line H left a m count area y)))
      (λ status. last area y status count a)

  -- a character that is dropped, whichever its status
  abbrev dropped_by : ℕ → (count : ℕ) → List ℕ → (byte : ℕ) → D → TransferEnd D
  dropped_by m count area byte y = dropped m count area (got.Character byte) y

  drop_next : (m place count : ℕ) (area : List ℕ) (y : D) (byte : ℕ) (t : Bool) → eqb byte eol ≡ t → ((byte ≡ eol → ⊥) → m ≡ left y + 1)
      → rest_next H left (pick t (Off 0x89 count a) (On (run_by (Get Record) device iocb zero place count a))) area y ≡ dropped_by m count area byte y
  unfolding getting transferred get_record
  drop_next zero place count area y byte true e f = refl
  drop_next zero place count area y byte false e f = let z = f (eqb-false byte eol e) in absurd (omega arith)
  drop_next (suc m) place count area y byte true e f = rw e
  drop_next (suc m) place count area y byte false e f =
      let z = f (eqb-false byte eol e) in
      let w : left y ≡ m = omega arith in
      rw (e, w)

  drop_given : (m place count status byte : ℕ) (area : List ℕ) (y : D) → ((byte ≡ eol → ⊥) → m ≡ left y + 1)
      → let p = got_character Record (run_by (Get Record) device iocb zero place count a) status byte area in rest_next H left p.next p.area y ≡ dropped_by m count area byte y
  drop_given m place count status byte area y f =
      ap (λ (p : Progress). rest_next H left p.next p.area y) (got_none (Get Record) device iocb place count a status byte area)
      ∙ drop_next m place count area y byte (eqb byte eol) refl f

  drop_line_lem : (m place count : ℕ) (area : List ℕ) (says : Got) (y : D) → Falls m says y
      → rest_of H left (got_step Record (run_by (Get Record) device iocb zero place count a) says area y) ≡ dropped m count area says y
  unfolding got_of
  drop_line_lem m place count area (got.Character byte) y f = drop_given m place count 0x01 byte area y (f 0x01 byte (plain refl refl))
  drop_line_lem zero place count area (got.Last byte) y f = drop_given zero place count 0x03 byte area y (f 0x03 byte (warns refl refl))
  drop_line_lem (suc m) place count area (got.Last byte) y f = drop_given (suc m) place count 0x03 byte area y (f 0x03 byte (warns refl refl))
  drop_line_lem zero place count area (got.Refused status) y f = refl
  drop_line_lem (suc m) place count area (got.Refused status) y f = refl

  dropped_is : (m count : ℕ) (area : List ℕ) (x : D) → dropped m count area (H.reads x).says (H.reads x).leaves ≡ drop_line H left a m count area x
  unfolding drop_line
  dropped_is zero count area x = refl
  dropped_is (suc m) count area x = refl

  module _ (Fit : D → Type 0) (Z : Lines H left Fit) (x : D) (f : Fit x) (place count : ℕ) (area : List ℕ) where
    got_rest : (way : Way) (n : ℕ) → Some way n
        → rest_of H left (step_of H (Get way) (run_by (Get way) device iocb n place count a) area x) ≡ getting H left a way n place count area x
    unfolding getting get_one get_characters get_record
    got_rest One n s = get_one_lem n place count area (H.reads x).says (H.reads x).leaves
    got_rest Characters zero s = absurd (omega arith)
    got_rest Characters (suc n) s = get_characters_lem n place count area (H.reads x).says (H.reads x).leaves
    got_rest Record zero s =
        drop_line_lem (left x) place count area (H.reads x).says (H.reads x).leaves (λ status byte. Z.falls x status byte f) ∙ dropped_is (left x) count area x
    got_rest Record (suc n) s = get_record_lem n place count area (H.reads x).says (H.reads x).leaves

    sent_rest : (way : Way) (n : ℕ) → Some way n
        → rest_of H left (step_of H (Put way) (run_by (Put way) device iocb n place count a) area x) ≡ putting H left a way n place count area x
    unfolding putting put_one put_characters put_record sent_byte
    sent_rest One n s = put_one_lem n place count area (H.writes a x).says (H.writes a x).leaves
    sent_rest Characters zero s = absurd (omega arith)
    sent_rest Characters (suc n) s = put_characters_lem n place count area (H.writes (get_or area place 0) x).says (H.writes (get_or area place 0) x).leaves
    sent_rest Record zero s =
        ap (λ (byte : ℕ). rest_next H left (sent_of Record (run_by (Put Record) device iocb zero place count a) byte (H.writes byte x).says) area (H.writes byte x).leaves) (byte_none (Put Record) device iocb place count a area)
        ∙ put_last place count eol area (H.writes eol x).says (H.writes eol x).leaves
    sent_rest Record (suc n) s =
        ap (λ (byte : ℕ). rest_next H left (sent_of Record (run_by (Put Record) device iocb (suc n) place count a) byte (H.writes byte x).says) area (H.writes byte x).leaves) (byte_some (Put Record) device iocb place count a n area)
        ∙ put_record_lem n place count (get_or area place 0) area (H.writes (get_or area place 0) x).says (H.writes (get_or area place 0) x).leaves

    by_kind : (kind : Kind) (n : ℕ) → SomeIn kind n
        → rest_of H left (step_of H kind (run_by kind device iocb n place count a) area x) ≡ transferred H left a kind n place count area x
    unfolding transferred
    by_kind (Get way) n s = got_rest way n s
    by_kind (Put way) n s = sent_rest way n s

-- after a move of one character the rest is the whole
pub rest_is : {D : Type 0} (H : Acts D) (left : D → ℕ) (Fit : D → Type 0) → Lines H left Fit → (run : Run) (area : List ℕ) (x : D) → Fit x → SomeIn run.kind run.left
    → rest_of H left (step_of H run.kind run area x) ≡ whole_of H left run area x
rest_is H left Fit Z run area x f s = by_kind H left run.device run.iocb run.a Fit Z x f run.place run.count area run.kind run.left s
