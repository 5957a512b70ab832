-- What is written is read back, over whole requests.
-- Assumes nothing.
use mathlib.Core.Path.{◌≡◌, ◌∙◌, refl, sym, ap, subst}
use mathlib.Core.Logic.{◌⊎◌, inl, inr}
use mathlib.Core.Bool.{Bool, true, false}
use mathlib.Core.List.{List, [], ◌∷◌, ◌++◌}
use Prim.Native.Nat.{ℕ, zero, suc, ◌+◌, ◌<◌, ◌≤◌}
use native.Mathlib.Nat.{add-zero, zero-add}
use native.Mathlib.Numerals.{add-one}
use native.Mathlib.Omega.{arith}
use lib.Dec.{eqb, leb, ltb}
use lib.ListN.{length, get_or, set, take, drop, replicate, length-append, take-append-drop}
use lib.Seq.{sets, length-sets, take-add, length-take-le}
use borrow.Author.Tests.{le-ltb, le-leb, lt-leb, eq-eqb, ne_eqb}
use Rattle.std.specs.Prelude.{Result, Ok, Err}
use Rattle.base.specs.Choice.{or, bit}
use Rattle.base.proofs.Choices.{pick_go, choose_go, by_eq}
use Rattle.base.proofs.Parts.{cat, part_same}
use Rattle.names.specs.declared.NameError.{NameError}
use Rattle.names.specs.declared.NameError.TheVariants.{Past, Bad}
use Rattle.handler.specs.declared.Asked.{Asked}
use Rattle.handler.specs.declared.Done.{Done}
use Rattle.handler.specs.declared.Done.TheVariants as done
use Rattle.handler.specs.declared.Got.{Got}
use Rattle.handler.specs.declared.Got.TheVariants as got
use Rattle.handler.specs.Answer.{Answer}
use Rattle.handler.specs.Acts.{Acts, asks_on}
use Rattle.handler.specs.InOrder.{puts_of, gets_of}
use Rattle.cassette.specs.declared.Cassette.{Cassette}
use Rattle.cassette.specs.Cassette.{CassetteGroup, cassette_acts, mark_of, read_of, write_of}
use Rattle.cassette.specs.Cassette as cassette
use Rattle.cassette.specs.Fit.{FitCassette}
use Rattle.cassette.specs.Written.{put_on, written_of, last_warned, TapeRule}
use Rattle.cassette.proofs.Keeps.{close_closed}
use Rattle.cassette.proofs.Puts.{tape_rule}
use Rattle.blocks.specs.declared.BlockState.{BlockState}
use Rattle.blocks.specs.declared.BlockState.TheVariants as block
use Rattle.blocks.specs.declared.ControlBlock.{ControlBlock}
use Rattle.blocks.specs.declared.Device.{Device}
use Rattle.blocks.specs.declared.Device.TheVariants.{E, S, K, P, C, D}
use Rattle.blocks.specs.declared.Table.{Table}
use Rattle.blocks.specs.declared.Way.{Way}
use Rattle.blocks.specs.declared.Way.TheVariants.{One, Characters, Record}
use Rattle.blocks.specs.Blocks.{closed_block, open_block, block_at}
use Rattle.blocks.specs.Opening.{Reading, area_length, specification_of, offers_of}
use Rattle.blocks.specs.Specified.{Specified}
use Rattle.blocks.proofs.Keeps.{block_same, block_other}
use Rattle.blocks.proofs.Specified.{specifies}
use Rattle.commands.specs.declared.Command.{Command}
use Rattle.commands.specs.declared.Command.TheVariants as command
use Rattle.commands.specs.Commands.{command_of}
use Rattle.commands.specs.Numbers.{HasNumber, HasWay}
use Rattle.commands.proofs.Numbers.{command_number, way_has}
use Rattle.wire.specs.declared.Call.{Call}
use Rattle.replies.specs.Replies.{call_reply, bytes_at}
use Rattle.replies.proofs.Keeps.{bytes_part}
use Rattle.transfer.specs.Transfer.{eol}
use Rattle.devices.specs.declared.Group.TheVariants as group
use Rattle.devices.specs.Groups.{Groups, Part, get_group, put_group, group_of, device_acts}
use Rattle.devices.specs.Fit.{FitGroups}
use Rattle.plan.specs.declared.After.{After}
use Rattle.plan.specs.declared.After.TheVariants as after
use Rattle.plan.specs.declared.Errand.{Errand}
use Rattle.plan.specs.declared.Errand.TheVariants as errand
use Rattle.plan.specs.declared.Plan.{Plan}
use Rattle.plan.specs.declared.Plan.TheVariants as plan
use Rattle.plan.specs.declared.Work.{Work}
use Rattle.plan.specs.declared.Work.TheVariants as work
use Rattle.plan.specs.Plan.{named_for, named_plan, open_plan, area_plan, transfer_plan, block_plan, call_plan, plan_in, iocb_of, plan_of, group_needed, need_of}
use Rattle.cio.specs.Start.{opened_of, then_of}
use Rattle.alone.specs.Transfer.{TransferEnd, on_got, get_one, get_characters, put_one, put_characters, put_record, getting, putting, transferred}
use Rattle.alone.specs.Left.{device_left}
use Rattle.alone.specs.Alone.{Said, call, load, fetch, bad, asked_of, bytes_of, Local, Alone, AloneOn, alone, with_area, with_own_block, alone_opening, alone_transfer, alone_work, alone_errand, alone_plan, alone_of}
use Rattle.alone.specs.Fit.{FitLocal}
use Rattle.alone.proofs.Ending.{on_done_lem}
use Rattle.alone.proofs.Keeps.{alone_keeps}
use Rattle.rules.specs.Statuses.{reply_status}
use Rattle.rules.specs.ReadBack.{called_alone, AllSuccess, status_before, GetStatuses, ReadStatuses, OpensTape, record_sent, Sends, sends_a, sends_characters, sends_record, Wants, wants_a, wants_characters, brought_by, Between, Puts, put_none, put_next, Gets, get_none, get_next, OpenPuts, open_puts, OpenPutsClose, open_puts_close, OpenGets, open_gets, Over, ReadBack}

or_true : (t : Bool) → or t true ≡ true
or_true true = refl
or_true false = refl

-- characters that a device takes, one after the other, and the device behind them
module _ {D : Type 0} (put : ℕ → D → Answer Done D) where
  abbrev Takes : List ℕ → D → Type 0
  Takes [] x = Unit {0}
  Takes (byte ∷ bytes) x = ((put byte x).says ≡ done.Success) × Takes bytes (put byte x).leaves

  abbrev taken : List ℕ → D → D
  taken [] x = x
  taken (byte ∷ bytes) x = taken bytes (put byte x).leaves

  takes_split : (xs ys : List ℕ) (x : D) → Takes (xs ++ ys) x → Takes xs x × Takes ys (taken xs x)
  takes_split [] ys x t = (tt, t)
  takes_split (byte ∷ xs) ys x t = let q = takes_split xs ys (put byte x).leaves t.1 in ((t.0, q.0), q.1)

  taken_more : (xs ys : List ℕ) (x : D) → taken (xs ++ ys) x ≡ taken ys (taken xs x)
  taken_more [] ys x = refl
  taken_more (byte ∷ xs) ys x = taken_more xs ys (put byte x).leaves

  takes_all : (bytes : List ℕ) (x : D) → (puts_of put bytes x).says ≡ replicate (length bytes) done.Success → Takes bytes x
  unfolding puts_of
  takes_all [] x e = tt
  takes_all (byte ∷ bytes) x e = (
    ap (λ (l : List Done). get_or l 0 (done.Refused 0)) e,
    takes_all bytes (put byte x).leaves (ap (λ (l : List Done). drop 1 l) e),
  )

  taken_all : (bytes : List ℕ) (x : D) → (puts_of put bytes x).leaves ≡ taken bytes x
  unfolding puts_of
  taken_all [] x = refl
  taken_all (byte ∷ bytes) x = taken_all bytes (put byte x).leaves

-- a character with so many left behind it
abbrev pub before : (left byte : ℕ) → Got
before zero byte = got.Last byte
before (suc left) byte = got.Character byte

by_before : {R : Type 0} (Q : R → Type 0) (says : Got) (left byte : ℕ) (f : (status byte : ℕ) → R) (g : (status : ℕ) → R) → says ≡ before left byte → Q (f (status_before left) byte) → Q (on_got says f g)
by_before Q says zero byte f g e p = subst (λ (s : Got). Q (on_got s f g)) (sym e) p
by_before Q says (suc left) byte f g e p = subst (λ (s : Got). Q (on_got s f g)) (sym e) p

-- characters taken of a list, and those behind them
length_parts : (k : ℕ) (bytes : List ℕ) → length (take k bytes) + length (drop k bytes) ≡ length bytes
length_parts k bytes = sym (length-append (take k bytes) (drop k bytes)) ∙ ap length (take-append-drop k bytes)

parts_make : (k : ℕ) (bytes : List ℕ) → k ≤ length bytes → k + length (drop k bytes) ≡ length bytes
parts_make k bytes h = omega (arith, length_parts k bytes, length-take-le k bytes h)

-- characters that it gives, with so many left behind them
module _ {D : Type 0} (get : D → Answer Got D) where
  abbrev pub GivesAll : (left : ℕ) → List ℕ → D → Type 0
  GivesAll left [] x = Unit {0}
  GivesAll left (byte ∷ bytes) x = ((get x).says ≡ before (length bytes + left) byte) × GivesAll left bytes (get x).leaves

  abbrev pub given : List ℕ → D → D
  given [] x = x
  given (byte ∷ bytes) x = given bytes (get x).leaves

  pub gives_split : (k left : ℕ) (bytes : List ℕ) (x : D) → GivesAll left bytes x → GivesAll (length (drop k bytes) + left) (take k bytes) x × GivesAll left (drop k bytes) (given (take k bytes) x)
  gives_split zero left bytes x g = (tt, g)
  gives_split (suc k) left [] x g = (tt, tt)
  gives_split (suc k) left (byte ∷ bytes) x g =
      let q = gives_split k left bytes (get x).leaves g.1 in
      let n : length bytes + left ≡ length (take k bytes) + (length (drop k bytes) + left) = omega (arith, length_parts k bytes) in
      ((g.0 ∙ ap (λ (m : ℕ). before m byte) n, q.0), q.1)

  given_more : (xs ys : List ℕ) (x : D) → given (xs ++ ys) x ≡ given ys (given xs x)
  given_more [] ys x = refl
  given_more (byte ∷ xs) ys x = given_more xs ys (get x).leaves

  pub gives_all : (bytes : List ℕ) (x : D) → (gets_of get (length bytes) x).says ≡ last_warned bytes → GivesAll 0 bytes x
  unfolding gets_of
  gives_all [] x e = tt
  gives_all (byte ∷ []) x e = (ap (λ (l : List Got). get_or l 0 (got.Refused 0)) e, tt)
  gives_all (byte ∷ next ∷ bytes) x e = (
    ap (λ (l : List Got). get_or l 0 (got.Refused 0)) e ∙ ap (λ (m : ℕ). before m byte) (sym (add-zero (suc (length bytes)))),
    gives_all (next ∷ bytes) (get x).leaves (ap (λ (l : List Got). drop 1 l) e),
  )

  pub given_all : (bytes : List ℕ) (x : D) → (gets_of get (length bytes) x).leaves ≡ given bytes x
  unfolding gets_of
  given_all [] x = refl
  given_all (byte ∷ bytes) x = given_all bytes (get x).leaves

-- the first of a list, and the others
first_is : {x y : ℕ} {xs ys : List ℕ} → x ∷ xs ≡ y ∷ ys → x ≡ y
first_is e = ap (λ (l : List ℕ). get_or l 0 0) e

rest_is : {x y : ℕ} {xs ys : List ℕ} → x ∷ xs ≡ y ∷ ys → xs ≡ ys
rest_is e = ap (λ (l : List ℕ). drop 1 l) e

none_there : (xs : List ℕ) (y : ℕ) (ys : List ℕ) → ◌≡◌ {A = List ℕ} [] (xs ++ (y ∷ ys)) → ⊥
none_there xs y ys e = let n : 0 ≡ length (xs ++ (y ∷ ys)) = ap length e in omega (arith, n, length-append xs (y ∷ ys))

-- a transfer whose characters are all taken, or given
module _ {D : Type 0} (H : Acts D) (left : D → ℕ) (a : ℕ) where
  record Sent (sent : List ℕ) (x : D) (r : TransferEnd D) : Type 0 where
    status : r.status ≡ 0x01
    device : r.device ≡ taken H.writes sent x

  put_characters_lem : (n place count : ℕ) (area : List ℕ) (x : D) → Takes H.writes (bytes_at area place n) x → Sent (bytes_at area place n) x (put_characters H left a n place count area x)
  unfolding put_characters bytes_at
  put_characters_lem zero place count area x t = record { status = refl; device = refl }
  put_characters_lem (suc n) place count area x t =
      let y = (H.writes (get_or area place 0) x).leaves in
      let q = put_characters_lem n (place + 1) (count + 1) area y (rw (add-one place) t.1) in
      record {
        status = rw t.0 q.status;
        device = rw t.0 (q.device ∙ ap (λ (k : ℕ). taken H.writes (bytes_at area k n) y) (add-one place));
      }

  put_record_lem : (n place count : ℕ) (area : List ℕ) (x : D) → Takes H.writes (record_sent (bytes_at area place n)) x → Sent (record_sent (bytes_at area place n)) x (put_record H left a n place count area x)
  unfolding put_record bytes_at
  put_record_lem zero place count area x t = record { status = rw t.0 refl; device = rw t.0 refl }
  put_record_lem (suc n) place count area x t =
      let byte = get_or area place 0 in
      let y = (H.writes byte x).leaves in
      by_eq byte eol
      (λ e. record { status = rw (t.0, eq-eqb byte eol e) refl; device = rw (t.0, eq-eqb byte eol e) refl })
      (λ m.
      let z : Takes H.writes (record_sent (bytes_at area (suc place) n)) y = rw (ne_eqb byte eol m) at t.1 in
      let q = put_record_lem n (place + 1) (count + 1) area y (rw (add-one place) z) in
      record {
        status = rw (t.0, ne_eqb byte eol m) q.status;
        device = rw (t.0, ne_eqb byte eol m) (q.device ∙ ap (λ (k : ℕ). taken H.writes (record_sent (bytes_at area k n)) y) (add-one place));
      })

  -- a PUT refused behind its first characters
  record Refuses (first : List ℕ) (status count : ℕ) (r : TransferEnd D) : Type 0 where
    says : r.status ≡ status
    counts : r.count ≡ count + length first
    keeps : r.a ≡ a

  module _ (status byte : ℕ) (rest : List ℕ) where
    abbrev RefusedBehind : List ℕ → D → Type 0
    RefusedBehind first x = (H.writes byte (taken H.writes first x)).says ≡ done.Refused status

    put_over : (first : List ℕ) (n place count : ℕ) (area : List ℕ) (x : D) → bytes_at area place n ≡ first ++ (byte ∷ rest) → Takes H.writes first x → RefusedBehind first x
        → Refuses first status count (put_characters H left a n place count area x)
    unfolding put_characters bytes_at
    put_over first zero place count area x q t e = absurd (none_there first byte rest q)
    put_over [] (suc n) place count area x q t e =
        let b = first_is q in
        record { says = rw (b, e); counts = rw (b, e) (omega arith); keeps = rw (b, e) }
    put_over (next ∷ first) (suc n) place count area x q t e =
        let b = first_is q in
        let y = (H.writes next x).leaves in
        let d = put_over first n (place + 1) (count + 1) area y (rw (add-one place) (rest_is q)) t.1 e in
        record { says = rw (b, t.0) d.says; counts = rw (b, t.0) (omega (arith, d.counts)); keeps = rw (b, t.0) d.keeps }

    record_over : (first : List ℕ) (n place count : ℕ) (area : List ℕ) (x : D) → record_sent (bytes_at area place n) ≡ first ++ (byte ∷ rest) → Takes H.writes first x → RefusedBehind first x
        → Refuses first status count (put_record H left a n place count area x)
    unfolding put_record bytes_at
    record_over [] zero place count area x q t e =
        let b = first_is q in
        record { says = rw (b, e); counts = rw (b, e) (omega arith); keeps = rw (b, e) }
    record_over (next ∷ first) zero place count area x q t e = absurd (none_there first byte rest (rest_is q))
    record_over [] (suc n) place count area x q t e =
        let b = first_is q in
        record { says = rw (b, e); counts = rw (b, e) (omega arith); keeps = rw (b, e) }
    record_over (next ∷ first) (suc n) place count area x q t e =
        let b = first_is q in
        let y = (H.writes next x).leaves in
        by_eq (get_or area place 0) eol
        (λ m. absurd (none_there first byte rest (rw (eq-eqb (get_or area place 0) eol m) at (rest_is q))))
        (λ m.
        let z : record_sent (bytes_at area (suc place) n) ≡ first ++ (byte ∷ rest) = rw (ne_eqb (get_or area place 0) eol m) at (rest_is q) in
        let v = rw b at (ne_eqb (get_or area place 0) eol m) in
        let d = record_over first n (place + 1) (count + 1) area y (rw (add-one place) z) t.1 e in
        record { says = rw (b, t.0, v) d.says; counts = rw (b, t.0, v) (omega (arith, d.counts)); keeps = rw (b, t.0, v) d.keeps })

  pub record Brought (behind : ℕ) (bytes : List ℕ) (place : ℕ) (area : List ℕ) (x : D) (count : ℕ) (r : TransferEnd D) : Type 0 where
    pub status : r.status ≡ status_before behind
    pub device : r.device ≡ given H.reads bytes x
    pub stores : r.area ≡ sets area place bytes
    pub counts : r.count ≡ count + length bytes
    pub keeps : r.a ≡ a

  -- the status of the character before is that of the last where there is none behind it
  pub get_characters_lem : (behind said : ℕ) (bytes : List ℕ) (place count : ℕ) (area : List ℕ) (x : D) → (length bytes ≡ 0 → said ≡ status_before behind) → GivesAll H.reads behind bytes x
      → Brought behind bytes place area x count (get_characters H left a said (length bytes) place count area x)
  unfolding get_characters
  get_characters_lem behind said [] place count area x z g = record { status = z refl; device = refl; stores = refl; counts = omega arith; keeps = refl }
  get_characters_lem behind said (byte ∷ bytes) place count area x z g =
      let said-now = status_before (length bytes + behind) in
      let q = get_characters_lem behind said-now bytes (place + 1) (count + 1) (set area place byte) (H.reads x).leaves
      (λ e. ap (λ (n : ℕ). status_before (n + behind)) e ∙ ap status_before (zero-add behind)) g.1 in
      by_before (Brought behind (byte ∷ bytes) place area x count) (H.reads x).says (length bytes + behind) byte _ _ g.0
      (record { status = q.status; device = q.device; stores = q.stores ∙ ap (λ (k : ℕ). sets (set area place byte) k bytes) (add-one place); counts = omega (arith, q.counts); keeps = q.keeps })

  -- "n = 0: one character by A"
  record BroughtOne (behind byte : ℕ) (x : D) (r : TransferEnd D) : Type 0 where
    status : r.status ≡ status_before behind
    device : r.device ≡ (H.reads x).leaves
    in_a : r.a ≡ byte

  get_single : (behind byte count : ℕ) (area : List ℕ) (x : D) → (H.reads x).says ≡ before behind byte → BroughtOne behind byte x (get_one H left a count area x)
  unfolding get_one
  get_single behind byte count area x e = by_before (BroughtOne behind byte x) (H.reads x).says behind byte _ _ e (record { status = refl; device = refl; in_a = refl })

  -- those that are left, and then $88
  pub record Ended (bytes : List ℕ) (place count : ℕ) (area : List ℕ) (r : TransferEnd D) : Type 0 where
    pub status : r.status ≡ 0x88
    pub counts : r.count ≡ count + length bytes
    pub keeps : r.a ≡ a
    pub stores : r.area ≡ sets area place bytes

  pub get_over : (behind said : ℕ) (bytes : List ℕ) (n place count : ℕ) (area : List ℕ) (x : D) → length bytes < n → GivesAll H.reads behind bytes x → (H.reads (given H.reads bytes x)).says ≡ got.Refused 0x88
      → Ended bytes place count area (get_characters H left a said n place count area x)
  unfolding get_characters
  get_over behind said bytes zero place count area x h g e = absurd (omega arith)
  get_over behind said [] (suc n) place count area x h g e = record { status = rw e refl; counts = rw e (omega arith); keeps = rw e refl; stores = rw e refl }
  get_over behind said (byte ∷ bytes) (suc n) place count area x h g e =
      let q = get_over behind (status_before (length bytes + behind)) bytes n (place + 1) (count + 1) (set area place byte) (H.reads x).leaves (omega arith) g.1 e in
      by_before (Ended (byte ∷ bytes) place count area) (H.reads x).says (length bytes + behind) byte _ _ g.0
      (record { status = q.status; counts = omega (arith, q.counts); keeps = q.keeps; stores = q.stores ∙ ap (λ (k : ℕ). sets (set area place byte) k bytes) (add-one place) })

-- A CALL alone, by its block and its command
module _ (c : Call) (l : Local) (s : Groups) (low : c.iocb ≤ 7) where
  pub on_block_lem : (k : Command) (b : ControlBlock) → HasNumber k c.command → block_at l.table c.iocb ≡ b → called_alone c l s ≡ alone_plan (block_plan k b.state c l.area) [] l s
  unfolding alone_of plan_of plan_in call_plan
  on_block_lem k b h e = rw (le-ltb 7 c.iocb low, (command_number k c.command).1 h, e)

  open_is : (number : ℕ) → c.command ≡ 0x03 → block_at l.table c.iocb ≡ closed_block → Specified l.area c.address C number → offers_of C c.aux1 ≡ true → s.cassette.cassette.mark ≡ 0
      → called_alone c l s ≡ alone (with_own_block c.iocb (open_block C number c.aux1) l) (put_group group.Cassette s (cassette.open_of c.aux1 s.cassette).leaves) (call_reply 0x01 0 c.a)
  unfolding alone_plan alone_work alone_opening block_plan named_for opened_of then_of cassette.tape_opened
  open_is number h e d o m = on_block_lem command.Open closed_block h e ∙ rw (((specifies l.area c.address).names C number).1 d, o, m)

  close_is : (number aux1 : ℕ) → c.command ≡ 0x0C → block_at l.table c.iocb ≡ open_block C number aux1
      → called_alone c l s ≡ alone (with_own_block c.iocb closed_block l) (put_group group.Cassette s (cassette.close_of s.cassette)) (call_reply 0x01 0 c.a)
  unfolding alone_plan alone_work block_plan
  close_is number aux1 h e = on_block_lem command.Close (open_block C number aux1) h e

  abbrev pub acts : Acts CassetteGroup
  acts = cassette_acts (asks_on l.number c.iocb)

  abbrev pub ended : TransferEnd CassetteGroup → Alone
  ended r = alone (with_area r.area l) (put_group group.Cassette s r.device) (call_reply r.status r.count r.a)

  pub fits : (c.length ≡ 0) ⊎ (c.address + c.length ≤ area_length) → or (eqb c.length 0) (leb (c.address + c.length) area_length) ≡ true
  fits (inl e) = rw e
  fits (inr h) = rw (le-leb (c.address + c.length) area_length h) (or_true (eqb c.length 0))

  put_is : (records : Bool) (way : Way) (number aux1 : ℕ) → HasNumber (command.Transfer false records) c.command → block_at l.table c.iocb ≡ open_block C number aux1 → bit 8 aux1 ≡ true
      → (c.length ≡ 0) ⊎ (c.address + c.length ≤ area_length) → HasWay way records c.length
      → called_alone c l s ≡ ended (putting acts (device_left C l.number c.iocb) c.a way c.length c.address 0 l.area s.cassette)
  unfolding alone_plan alone_work alone_transfer transferred block_plan transfer_plan area_plan
  put_is records way number aux1 h e w f y =
      on_block_lem (command.Transfer false records) (open_block C number aux1) h e ∙ rw (w, fits f, (way_has way records c.length).1 y)

  pub get_is : (records : Bool) (way : Way) (number aux1 : ℕ) → HasNumber (command.Transfer true records) c.command → block_at l.table c.iocb ≡ open_block C number aux1 → bit 4 aux1 ≡ true
      → (c.length ≡ 0) ⊎ (c.address + c.length ≤ area_length) → HasWay way records c.length
      → called_alone c l s ≡ ended (getting acts (device_left C l.number c.iocb) c.a way c.length c.address 0 l.area s.cassette)
  unfolding alone_plan alone_work alone_transfer transferred block_plan transfer_plan area_plan
  get_is records way number aux1 h e w f y =
      on_block_lem (command.Transfer true records) (open_block C number aux1) h e ∙ rw (w, fits f, (way_has way records c.length).1 y)

  pub past_is : (records : Bool) (number aux1 : ℕ) → HasNumber (command.Transfer true records) c.command → block_at l.table c.iocb ≡ open_block C number aux1 → bit 4 aux1 ≡ true
      → (c.length ≡ 0 → ⊥) → area_length < c.address + c.length → called_alone c l s ≡ alone l s (call_reply 0xB0 0 c.a)
  unfolding alone_plan alone_errand block_plan transfer_plan area_plan
  past_is records number aux1 h e w n f =
      on_block_lem (command.Transfer true records) (open_block C number aux1) h e ∙ rw (w, ne_eqb c.length 0 n, lt-leb (c.address + c.length) area_length f)

-- a transfer's characters in the area
stored : (area : List ℕ) (place : ℕ) (bytes : List ℕ) → place + length bytes ≤ length area → bytes_at (sets area place bytes) place (length bytes) ≡ bytes
stored area place bytes h =
    bytes_part (sets area place bytes) place (length bytes) (omega (arith, h, length-sets area place bytes))
    ∙ part_same place (length bytes) bytes area refl h

all_more : (xs ys : List ℕ) → AllSuccess xs → AllSuccess ys → AllSuccess (xs ++ ys)
all_more [] ys a b = b
all_more (x ∷ xs) ys a b = (a.0, all_more xs ys a.1 b)

module _ (iocb : ℕ) (low : iocb ≤ 7) where
  -- where the IOCB's block and the cassette stand
  record At (b : ControlBlock) (x : CassetteGroup) (l : Local) (s : Groups) : Type 0 where
    block : block_at l.table iocb ≡ b
    cassette : s.cassette ≡ x

  at_between : {b : ControlBlock} {x : CassetteGroup} {l m : Local} {s t : Groups} → At b x l s → Between iocb l s m t → At b x m t
  at_between a r = record { block = r.block ∙ a.block; cassette = r.cassette ∙ a.cassette }

  puts_fit : {l m : Local} {s t : Groups} {sent statuses : List ℕ} → Puts iocb l s sent statuses m t → FitLocal m
  puts_fit (put_none r) = r.fit
  puts_fit (put_next c r i d p) = puts_fit p

  gets_fit : {l m : Local} {s t : Groups} {asked : ℕ} {brought statuses : List ℕ} → Gets iocb l s asked brought statuses m t → FitLocal m
  gets_fit (get_none r) = r.fit
  gets_fit (get_next c r i d p) = gets_fit p

  module _ (number aux1 : ℕ) where
    abbrev opened : ControlBlock
    opened = open_block C number aux1

    module _ (x : CassetteGroup) (c : Call) (i : c.iocb ≡ iocb) (m : Local) (t : Groups) (a : At opened x m t) where
      own_low : c.iocb ≤ 7
      own_low = omega (arith, low, i)

      own_block : block_at m.table c.iocb ≡ opened
      own_block = ap (block_at m.table) i ∙ a.block

      abbrev H : Acts CassetteGroup
      H = cassette_acts (asks_on m.number c.iocb)

      abbrev put_by : Way → TransferEnd CassetteGroup
      put_by way = putting H (device_left C m.number c.iocb) c.a way c.length c.address 0 m.area t.cassette

      abbrev get_by : Way → TransferEnd CassetteGroup
      get_by way = getting H (device_left C m.number c.iocb) c.a way c.length c.address 0 m.area t.cassette

      -- a PUT whose characters are taken
      record PutDone (sent : List ℕ) (r : Alone) : Type 0 where
        status : reply_status r.reply ≡ 0x01
        at : At opened (taken write_of sent x) r.local r.groups

      put_done : (sent : List ℕ) (r : TransferEnd CassetteGroup) → Sent H (device_left C m.number c.iocb) c.a sent t.cassette r → called_alone c m t ≡ ended c m t own_low r → PutDone sent (called_alone c m t)
      put_done sent r d e = record {
        status = ap (λ (z : Alone). reply_status z.reply) e ∙ d.status;
        at = record {
          block = ap (λ (z : Alone). block_at z.local.table iocb) e ∙ a.block;
          cassette = ap (λ (z : Alone). z.groups.cassette) e ∙ d.device ∙ ap (taken write_of sent) a.cassette;
        };
      }

      module _ (w : bit 8 aux1 ≡ true) where
        put_step : (sent : List ℕ) → Sends c m.area sent → Takes write_of sent x → PutDone sent (called_alone c m t)
        unfolding putting put_one
        put_step sent (sends_a records h z) g =
            let k : Takes write_of sent t.cassette = rw a.cassette g in
            put_done sent (put_by One) (record { status = rw k.0 refl; device = rw k.0 refl }) (put_is c m t own_low records One number aux1 h own_block w (inl z) z)
        put_step sent (sends_characters h p f) g =
            let k : Takes write_of sent t.cassette = rw a.cassette g in
            put_done sent (put_by Characters) (put_characters_lem H (device_left C m.number c.iocb) c.a c.length c.address 0 m.area t.cassette k)
            (put_is c m t own_low false Characters number aux1 h own_block w (inr f) (p, refl))
        put_step sent (sends_record h p f) g =
            let k : Takes write_of sent t.cassette = rw a.cassette g in
            put_done sent (put_by Record) (put_record_lem H (device_left C m.number c.iocb) c.a c.length c.address 0 m.area t.cassette k)
            (put_is c m t own_low true Record number aux1 h own_block w (inr f) (p, refl))

        full_one : (first rest : List ℕ) (byte status : ℕ) → c.a ∷ [] ≡ first ++ (byte ∷ rest) → RefusedBehind H (device_left C m.number c.iocb) c.a status byte rest first t.cassette
            → Refuses H (device_left C m.number c.iocb) c.a first status 0 (put_one H (device_left C m.number c.iocb) c.a 0 m.area t.cassette)
        unfolding put_one
        full_one [] rest byte status q e =
            let b = first_is q in
            record { says = rw (b, e); counts = rw (b, e) (omega arith); keeps = rw (b, e) }
        full_one (next ∷ first) rest byte status q e = absurd (none_there first byte rest (rest_is q))

        full_reply : (first : List ℕ) (status : ℕ) (r : TransferEnd CassetteGroup) → Refuses H (device_left C m.number c.iocb) c.a first status 0 r → called_alone c m t ≡ ended c m t own_low r
            → (called_alone c m t).reply ≡ call_reply status (length first) c.a
        full_reply first status r d e =
            let k : r.count ≡ length first = omega (arith, d.counts) in
            ap (λ (y : Alone). y.reply) e ∙ rw (d.says, k, d.keeps)

        -- a PUT refused behind its first characters
        full_step : (first rest sent : List ℕ) (byte status : ℕ) → sent ≡ first ++ (byte ∷ rest) → Sends c m.area sent → Takes write_of first x
            → (write_of byte (taken write_of first x)).says ≡ done.Refused status → (called_alone c m t).reply ≡ call_reply status (length first) c.a
        unfolding putting
        full_step first rest sent byte status q (sends_a records h z) g e =
            full_reply first status (put_by One) (full_one first rest byte status q (rw a.cassette e)) (put_is c m t own_low records One number aux1 h own_block w (inl z) z)
        full_step first rest sent byte status q (sends_characters h p f) g e =
            full_reply first status (put_by Characters)
            (put_over H (device_left C m.number c.iocb) c.a status byte rest first c.length c.address 0 m.area t.cassette q (rw a.cassette g) (rw a.cassette e))
            (put_is c m t own_low false Characters number aux1 h own_block w (inr f) (p, refl))
        full_step first rest sent byte status q (sends_record h p f) g e =
            full_reply first status (put_by Record)
            (record_over H (device_left C m.number c.iocb) c.a status byte rest first c.length c.address 0 m.area t.cassette q (rw a.cassette g) (rw a.cassette e))
            (put_is c m t own_low true Record number aux1 h own_block w (inr f) (p, refl))

      -- a GET whose characters are given
      record GetDone (behind : ℕ) (bytes : List ℕ) (r : Alone) : Type 0 where
        status : reply_status r.reply ≡ status_before behind
        brings : brought_by c r ≡ bytes
        at : At opened (given read_of bytes x) r.local r.groups

      module _ (w : bit 4 aux1 ≡ true) (whole : length m.area ≡ area_length) where
        get_one_lem : (behind : ℕ) (bytes : List ℕ) → length bytes ≡ 1 → (records : Bool) → HasNumber (command.Transfer true records) c.command → c.length ≡ 0 → GivesAll read_of behind bytes t.cassette
            → GetDone behind bytes (called_alone c m t)
        unfolding getting get_one
        get_one_lem behind [] n records h z g = absurd (omega arith)
        get_one_lem behind (byte ∷ []) n records h z g =
            let e = get_is c m t own_low records One number aux1 h own_block w (inl z) z in
            let d : BroughtOne H (device_left C m.number c.iocb) c.a behind byte t.cassette (get_by One) =
            get_single H (device_left C m.number c.iocb) c.a behind byte 0 m.area t.cassette (g.0 ∙ ap (λ (n : ℕ). before n byte) (zero-add behind)) in
            record {
              status = ap (λ (y : Alone). reply_status y.reply) e ∙ d.status;
              brings = rw (eq-eqb c.length 0 z) (ap (λ (y : Alone). get_or y.reply 6 0 ∷ []) e ∙ ap (λ (b : ℕ). b ∷ []) d.in_a);
              at = record {
                block = ap (λ (y : Alone). block_at y.local.table iocb) e ∙ a.block;
                cassette = ap (λ (y : Alone). y.groups.cassette) e ∙ d.device ∙ ap (λ (y : CassetteGroup). (read_of y).leaves) a.cassette;
              };
            }
        get_one_lem behind (byte ∷ next ∷ bytes) n records h z g = absurd (omega arith)

        get_some : (behind : ℕ) (bytes : List ℕ) → length bytes ≡ c.length → c.command ≡ 0x07 → 0 < c.length → c.address + c.length ≤ area_length → GivesAll read_of behind bytes t.cassette
            → GetDone behind bytes (called_alone c m t)
        unfolding getting
        get_some behind bytes n h p f g =
            let e = get_is c m t own_low false Characters number aux1 h own_block w (inr f) (p, refl) in
            let d : Brought H (device_left C m.number c.iocb) c.a behind bytes c.address m.area t.cassette 0 (get_by Characters) =
            subst (λ (k : ℕ). Brought H (device_left C m.number c.iocb) c.a behind bytes c.address m.area t.cassette 0 (get_characters H (device_left C m.number c.iocb) c.a 0x01 k c.address 0 m.area t.cassette)) n
            (get_characters_lem H (device_left C m.number c.iocb) c.a behind 0x01 bytes c.address 0 m.area t.cassette (λ z. absurd (omega (arith, z, n, p))) g) in
            record {
              status = ap (λ (y : Alone). reply_status y.reply) e ∙ d.status;
              brings =
                  rw (ne_eqb c.length 0 (λ z. omega (arith, z, p)))
                  (ap (λ (y : Alone). bytes_at y.local.area c.address c.length) e ∙ ap (λ (y : List ℕ). bytes_at y c.address c.length) d.stores
                  ∙ ap (bytes_at (sets m.area c.address bytes) c.address) (sym n) ∙ stored m.area c.address bytes (omega (arith, n, f, whole)));
              at = record {
                block = ap (λ (y : Alone). block_at y.local.table iocb) e ∙ a.block;
                cassette = ap (λ (y : Alone). y.groups.cassette) e ∙ d.device ∙ ap (given read_of bytes) a.cassette;
              };
            }

        get_step : (behind : ℕ) (bytes : List ℕ) (k : ℕ) → length bytes ≡ k → Wants c k → GivesAll read_of behind bytes x → GetDone behind bytes (called_alone c m t)
        get_step behind bytes k n (wants_a records h z) g = get_one_lem behind bytes n records h z (rw a.cassette g)
        get_step behind bytes k n (wants_characters h p f) g = get_some behind bytes n h p f (rw a.cassette g)

        -- one that asks for more than are left
        over_one : (left : List ℕ) → length left < 1 → (records : Bool) → HasNumber (command.Transfer true records) c.command → c.length ≡ 0
            → (read_of (given read_of left t.cassette)).says ≡ got.Refused 0x88 → Over c left (called_alone c m t)
        unfolding getting get_one bytes_at
        over_one [] n records h z r =
            let e = get_is c m t own_low records One number aux1 h own_block w (inl z) z in
            record { says = ap (λ (y : Alone). y.reply) e ∙ rw r refl; brings = refl }
        over_one (byte ∷ left) n records h z r = absurd (omega arith)

        over_some : (left : List ℕ) → length left < c.length → c.command ≡ 0x07 → 0 < c.length → c.address + c.length ≤ area_length → GivesAll read_of 0 left t.cassette
            → (read_of (given read_of left t.cassette)).says ≡ got.Refused 0x88 → Over c left (called_alone c m t)
        unfolding getting
        over_some left n h p f g r =
            let e = get_is c m t own_low false Characters number aux1 h own_block w (inr f) (p, refl) in
            let d = get_over H (device_left C m.number c.iocb) c.a 0 0x01 left c.length c.address 0 m.area t.cassette n g r in
            let k : (get_by Characters).count ≡ length left = omega (arith, d.counts) in
            record {
              says = ap (λ (y : Alone). y.reply) e ∙ rw (d.status, k, d.keeps) refl;
              brings =
                  ap (λ (y : Alone). bytes_at y.local.area c.address (length left)) e ∙ ap (λ (y : List ℕ). bytes_at y c.address (length left)) d.stores
                  ∙ stored m.area c.address left (omega (arith, n, f, whole));
            }

        over_step : (left : List ℕ) (k : ℕ) → length left < k → Wants c k → GivesAll read_of 0 left x → (read_of (given read_of left x)).says ≡ got.Refused 0x88 → Over c left (called_alone c m t)
        over_step left k n (wants_a records h z) g r = over_one left n records h z (rw a.cassette r)
        over_step left k n (wants_characters h p f) g r = over_some left n h p f (rw a.cassette g) (rw a.cassette r)

    -- PUTs one after the other
    puts_done : (w : bit 8 aux1 ≡ true) {l n : Local} {s u : Groups} {sent statuses : List ℕ} (x : CassetteGroup) → At opened x l s → Takes write_of sent x → Puts iocb l s sent statuses n u
        → AllSuccess statuses × At opened (taken write_of sent x) n u
    puts_done w x a g (put_none r) = (tt, at_between a r)
    puts_done w x a g (put_next {m = m} {t = t} {sent = sent} {rest = rest} c r i d p) =
        let y = takes_split write_of sent rest x g in
        let one = put_step x c i m t (at_between a r) w sent d y.0 in
        let q = puts_done w (taken write_of sent x) one.at y.1 p in
        ((one.status, q.0), rw (taken_more write_of sent rest x) q.1)

    -- a GET before others: it asks for one character at least, and so does each of them
    some_wanted : (c : Call) (k : ℕ) → Wants c k → 0 < k
    some_wanted c k (wants_a records h z) = omega arith
    some_wanted c k (wants_characters h p f) = p

    gets_some : {l n : Local} {s u : Groups} {asked status : ℕ} {brought statuses : List ℕ} → Gets iocb l s asked brought (status ∷ statuses) n u → 0 < asked
    gets_some (get_next {k = k} c r i d p) = omega (arith, some_wanted c k d)

    before_some : (status left : ℕ) → 0 < left → status ≡ status_before left → status ≡ 0x01
    before_some status zero h e = absurd (omega arith)
    before_some status (suc left) h e = e

    none_asked : {l n : Local} {s u : Groups} {asked : ℕ} {brought : List ℕ} → Gets iocb l s asked brought [] n u → asked ≡ 0
    none_asked (get_none r) = refl

    told_next : {l n : Local} {s u : Groups} {asked : ℕ} {brought : List ℕ} (status left : ℕ) (statuses : List ℕ) → Gets iocb l s asked brought statuses n u → status ≡ status_before (asked + left)
        → GetStatuses left statuses → GetStatuses left (status ∷ statuses)
    told_next status left [] p e t = e ∙ ap status_before (ap (λ (m : ℕ). m + left) (none_asked p) ∙ zero-add left)
    told_next {asked = asked} status left (next ∷ statuses) p e t = (before_some status (asked + left) (omega (arith, gets_some p)) e, t)

    -- GETs one after the other
    gets_done : (w : bit 4 aux1 ≡ true) {l n : Local} {s u : Groups} {asked : ℕ} {brought statuses : List ℕ} (left : ℕ) (bytes : List ℕ) (x : CassetteGroup) → At opened x l s → GivesAll read_of 0 bytes x
        → asked + left ≡ length bytes → Gets iocb l s asked brought statuses n u → GetStatuses left statuses × ((brought ≡ take asked bytes) × At opened (given read_of (take asked bytes) x) n u)
    gets_done w left bytes x a g h (get_none r) = (tt, (refl, at_between a r))
    gets_done w left bytes x a g h (get_next {m = m} {t = t} {k = k} {asked = asked} {statuses = statuses} c r i d p) =
        let y = gives_split read_of k 0 bytes x g in
        let z : k ≤ length bytes = omega arith in
        let v = length-take-le k bytes z in
        let b : asked + left ≡ length (drop k bytes) = omega (arith, h, v, length_parts k bytes) in
        let one = get_step x c i m t (at_between a r) w r.fit.area (length (drop k bytes) + 0) (take k bytes) k v d y.0 in
        let q = gets_done w left (drop k bytes) (given read_of (take k bytes) x) one.at y.1 b p in
        let e = take-add k asked bytes in
        let f : reply_status (called_alone c m t).reply ≡ status_before (asked + left) = one.status ∙ ap status_before (add-zero (length (drop k bytes)) ∙ sym b) in
        (told_next _ left statuses p f q.0, (cat one.brings q.1.0 ∙ sym e, rw (e, given_more read_of (take k bytes) (take asked (drop k bytes)) x) q.1.1))

  -- OPEN, on the closed block and the tape not open
  module _ (x : CassetteGroup) (free : x.cassette.mark ≡ 0) (c : Call) (m : Local) (t : Groups) (fit : FitLocal m) (a : At closed_block x m t) where
    record OpenDone (number : ℕ) (r : Alone) : Type 0 where
      status : reply_status r.reply ≡ 0x01
      at : At (open_block C number c.aux1) (cassette.open_of c.aux1 x).leaves r.local r.groups

    offered : (reading : Bool) → OpensTape reading iocb c m → offers_of C c.aux1 ≡ true
    unfolding offers_of
    offered true o = rw (o.with, o.without)
    offered false o = rw (o.with, o.without)

    open_step : (reading : Bool) (o : OpensTape reading iocb c m) → OpenDone o.number (called_alone c m t)
    open_step reading o =
        let i = o.iocb_is in
        let e = open_is c m t (omega (arith, low, i)) o.number o.command (ap (block_at m.table) i ∙ a.block) o.specified (offered reading o) (rw a.cassette free) in
        record {
          status = ap (λ (z : Alone). reply_status z.reply) e;
          at = record {
            block = ap (λ (z : Alone). block_at z.local.table iocb) e ∙ rw i (block_same m.table iocb (open_block C o.number c.aux1) (omega (arith, low, fit.eight)));
            cassette = ap (λ (z : Alone). z.groups.cassette) e ∙ ap (λ (y : CassetteGroup). (cassette.open_of c.aux1 y).leaves) a.cassette;
          };
        }

  -- CLOSE
  record CloseDone (x : CassetteGroup) (r : Alone) : Type 0 where
    status : reply_status r.reply ≡ 0x01
    at : At closed_block (cassette.close_of x) r.local r.groups

  close_step : (number aux1 : ℕ) (x : CassetteGroup) (c : Call) (m : Local) (t : Groups) → FitLocal m → At (open_block C number aux1) x m t → c.iocb ≡ iocb → c.command ≡ 0x0C → CloseDone x (called_alone c m t)
  close_step number aux1 x c m t fit a i h =
      let e = close_is c m t (omega (arith, low, i)) number aux1 h (ap (block_at m.table) i ∙ a.block) in
      record {
        status = ap (λ (z : Alone). reply_status z.reply) e;
        at = record {
          block = ap (λ (z : Alone). block_at z.local.table iocb) e ∙ rw i (block_same m.table iocb closed_block (omega (arith, low, fit.eight)));
          cassette = ap (λ (z : Alone). z.groups.cassette) e ∙ ap cassette.close_of a.cassette;
        };
      }

  -- AUX1 with W alone, and with R alone
  writing_mark : (c : Call) (l : Local) → OpensTape false iocb c l → mark_of c.aux1 ≡ 2
  writing_mark c l o = rw (o.without, o.with)

  reading_mark : (c : Call) (l : Local) → OpensTape true iocb c l → mark_of c.aux1 ≡ 1
  reading_mark c l o = rw o.with

module _ (s : Groups) (sound : FitCassette s.cassette) (free : s.cassette.cassette.mark ≡ 0) where
  abbrev opened_to : ℕ → CassetteGroup
  opened_to aux1 = (cassette.open_of aux1 s.cassette).leaves

  module _ (sent : List ℕ) (few : length sent ≤ 31872) where
    rule : TapeRule sent s.cassette
    rule = tape_rule sent few s.cassette sound free

    -- what OPEN W and PUTs leave
    record Putting (iocb : ℕ) (statuses : List ℕ) (m : Local) (t : Groups) : Type 0 where
      success : AllSuccess statuses
      low : iocb ≤ 7
      number : ℕ
      aux1 : ℕ
      writing : bit 8 aux1 ≡ true
      mark : mark_of aux1 ≡ 2
      at : At iocb low (open_block C number aux1) (taken write_of sent (opened_to aux1)) m t
      fit : FitLocal m

    putting_on : {iocb : ℕ} {l : Local} {statuses : List ℕ} {m : Local} {t : Groups} → OpenPuts iocb l s sent statuses m t → Putting iocb statuses m t
    putting_on {iocb = iocb} {l = l} (open_puts w d o p) =
        let low = d.low in
        let k = writing_mark iocb low w l o in
        let opens = open_step iocb low s.cassette free w l s d.fit (record { block = d.closed; cassette = refl }) false o in
        let puts = puts_done iocb low o.number w.aux1 o.with (opened_to w.aux1) opens.at (takes_all write_of sent (opened_to w.aux1) (rule.puts w.aux1 k)) p in
        record {
          success = (opens.status, puts.0);
          low = low;
          number = o.number;
          aux1 = w.aux1;
          writing = o.with;
          mark = k;
          at = puts.1;
          fit = puts_fit iocb low p;
        }

    -- and then CLOSE
    record Wrote (statuses : List ℕ) (t : Groups) : Type 0 where
      success : AllSuccess statuses
      aux1 : ℕ
      mark : mark_of aux1 ≡ 2
      cassette : t.cassette ≡ written_of aux1 sent s.cassette

    wrote : {iocb : ℕ} {statuses : List ℕ} {l m : Local} {t : Groups} → OpenPutsClose iocb l s sent statuses m t → Wrote statuses t
    wrote {iocb = iocb} (open_puts_close {m = m} {t = t} {statuses = statuses} c p i h) =
        let y = putting_on p in
        let x = opened_to y.aux1 in
        let closes = close_step iocb y.low y.number y.aux1 (taken write_of sent x) c m t y.fit y.at i h in
        record {
          success = all_more statuses _ y.success (closes.status, tt);
          aux1 = y.aux1;
          mark = y.mark;
          cassette = closes.at.cassette ∙ ap cassette.close_of (sym (taken_all write_of sent x));
        }

    -- what OPEN R and GETs leave
    record Read (iocb asked left : ℕ) (brought statuses : List ℕ) (n : Local) (u : Groups) : Type 0 where
      told : ReadStatuses left statuses
      brings : brought ≡ take asked sent
      low : iocb ≤ 7
      number : ℕ
      aux1 : ℕ
      reading : bit 4 aux1 ≡ true
      x : CassetteGroup
      gives : GivesAll read_of 0 sent x
      ends : (read_of (given read_of sent x)).says ≡ got.Refused 0x88
      at : At iocb low (open_block C number aux1) (given read_of (take asked sent) x) n u
      whole : length n.area ≡ area_length

    has_read : {iocb other asked : ℕ} {l m n : Local} {t u : Groups} {before statuses brought : List ℕ} {o : Local} {v : Groups} → OpenPutsClose iocb l s sent before m t → u.cassette ≡ t.cassette
        → OpenGets other n u asked brought statuses o v → (left : ℕ) → asked + left ≡ length sent → Read other asked left brought statuses o v
    has_read {other = other} {n = n} {u = u} w b (open_gets r d o p) left h =
        let low = d.low in
        let y = wrote w in
        let z = written_of y.aux1 sent s.cassette in
        let x = (cassette.open_of r.aux1 z).leaves in
        let k = reading_mark other low r n o in
        let e : z.cassette.mark ≡ 0 = ap (λ (d : Cassette). d.mark) (close_closed (put_on y.aux1 sent s.cassette).leaves) in
        let opens = open_step other low z e r n u d.fit (record { block = d.closed; cassette = b ∙ y.cassette }) true o in
        let g = gives_all read_of sent x (rule.gets y.aux1 r.aux1 y.mark k) in
        let q = gets_done other low o.number r.aux1 o.with left sent x opens.at g h p in
        record {
          told = (opens.status, q.0);
          brings = q.1.0;
          low = low;
          number = o.number;
          aux1 = r.aux1;
          reading = o.with;
          x = x;
          gives = g;
          ends = ap (λ (d : CassetteGroup). (read_of d).says) (sym (given_all read_of sent x)) ∙ ap (λ (d : Answer Got CassetteGroup). d.says) (rule.over y.aux1 r.aux1 y.mark k);
          at = q.1.1;
          whole = (gets_fit other low p).area;
        }

    read_over : {iocb asked left k : ℕ} {brought statuses : List ℕ} (n : Local) (u : Groups) → Read iocb asked left brought statuses n u → asked ≤ length sent → (c : Call) → c.iocb ≡ iocb → Wants c k
        → length sent < asked + k → Over c (drop asked sent) (called_alone c n u)
    read_over {iocb} {asked} {k = k} n u q h c i d j =
        let left = drop asked sent in
        let v = length-take-le asked sent h in
        let x = given read_of (take asked sent) q.x in
        let e : given read_of left x ≡ given read_of sent q.x =
        sym (given_more read_of (take asked sent) left q.x) ∙ ap (λ (b : List ℕ). given read_of b q.x) (take-append-drop asked sent) in
        over_step iocb q.low q.number q.aux1 x c i n u q.at q.reading q.whole left k (omega (arith, v, j, length_parts asked sent)) d
        (gives_split read_of asked 0 sent q.x q.gives).1
        (ap (λ (b : CassetteGroup). (read_of b).says) e ∙ q.ends)

  -- the characters that are the last that fit
  last_fit : (sent first : List ℕ) (byte aux1 : ℕ) → length sent + length first ≡ 31872 → mark_of aux1 ≡ 2
      → Takes write_of first (taken write_of sent (opened_to aux1)) × ((write_of byte (taken write_of first (taken write_of sent (opened_to aux1)))).says ≡ done.Refused 0x90)
  last_fit sent first byte aux1 n k =
      let all = sent ++ first in
      let e : length all ≡ 31872 = length-append sent first ∙ n in
      let r = rule all (omega arith) in
      let x = opened_to aux1 in
      let z : (put_on aux1 all s.cassette).leaves ≡ taken write_of first (taken write_of sent x) = taken_all write_of all x ∙ taken_more write_of sent first x in (
        (takes_split write_of sent first x (takes_all write_of all x (r.puts aux1 k))).1,
        ap (λ (y : CassetteGroup). (write_of byte y).says) (sym z) ∙ ap (λ (y : Answer Done CassetteGroup). y.says) (r.full aux1 byte k e),
      )

  module _ (sent : List ℕ) (few : length sent ≤ 31872) where
    puts_full : {iocb : ℕ} {statuses : List ℕ} (m : Local) (t : Groups) → Putting sent few iocb statuses m t → (c : Call) → c.iocb ≡ iocb → (first rest : List ℕ) (byte : ℕ)
        → Sends c m.area (first ++ (byte ∷ rest)) → length sent + length first ≡ 31872 → (called_alone c m t).reply ≡ call_reply 0x90 (length first) c.a
    puts_full {iocb} m t q c i first rest byte d n =
        let z = last_fit sent first byte q.aux1 n q.mark in
        full_step iocb q.low q.number q.aux1 (taken write_of sent (opened_to q.aux1)) c i m t q.at q.writing first rest (first ++ (byte ∷ rest)) byte 0x90 refl d z.0 z.1

    pub read_back : ReadBack s sent
    read_back = record {
      writes = λ w. (wrote sent few w).success;
      reads = λ {asked = asked} w b r h. let q = has_read sent few w b r (length (drop asked sent)) (parts_make asked sent h) in (q.told, q.brings);
      over = λ {asked = asked} {o = o} {v = v} w b r h c i d j. read_over sent few o v (has_read sent few w b r (length (drop asked sent)) (parts_make asked sent h)) h c i d j;
      full = λ {m = m} {t = t} p c i first rest byte d n. puts_full m t (putting_on sent few p) c i first rest byte d n;
    }

-- What may come between two requests: a plan is of its own CALL
abbrev OfCall : Call → Plan → Type 0
OfCall c (plan.Free e) = Unit {0}
OfCall c (plan.On job) = job.call ≡ c

named_call : (c : Call) (then : After) (device : Device) (number : ℕ) (n : Result (List ℕ) NameError) → OfCall c (named_plan then device number n c)
named_call c then device number (Err Past) = tt
named_call c then device number (Err Bad) = refl
named_call c then device number (Ok pattern) = refl

open_call : (c : Call) (then : After) (d : Reading) (half : List ℕ) → OfCall c (open_plan then d half c)
open_call c then (Err e) half = tt
open_call c then (Ok d) half = named_call c then d.device d.number (named_for d.device half c.address)

area_call : (c : Call) (reading records : Bool) (device : Device) → OfCall c (area_plan reading records device c)
unfolding area_plan
area_call c reading records device = pick_go (OfCall c) (or (eqb c.length 0) (leb (c.address + c.length) area_length)) _ _ (λ e. refl) (λ e. tt)

transfer_call : (c : Call) (reading records : Bool) (device : Device) (aux1 : ℕ) → OfCall c (transfer_plan reading records device aux1 c)
unfolding transfer_plan
transfer_call c true records device aux1 = pick_go (OfCall c) (bit 4 aux1) _ _ (λ e. area_call c true records device) (λ e. tt)
transfer_call c false records device aux1 = pick_go (OfCall c) (bit 8 aux1) _ _ (λ e. area_call c false records device) (λ e. tt)

block_call : (c : Call) (k : Command) (state : BlockState) (half : List ℕ) → OfCall c (block_plan k state c half)
unfolding block_plan
block_call c command.Bad state half = tt
block_call c command.Open block.Closed half = open_call c after.Stay (specification_of half c.address) half
block_call c command.Open (block.Open device number aux1) half = tt
block_call c command.Close block.Closed half = tt
block_call c command.Close (block.Open device number aux1) half = refl
block_call c command.Status block.Closed half = open_call c after.Status (specification_of half c.address) half
block_call c command.Status (block.Open device number aux1) half = refl
block_call c command.Special block.Closed half = open_call c after.Special (specification_of half c.address) half
block_call c command.Special (block.Open device number aux1) half = refl
block_call c (command.Transfer reading records) block.Closed half = tt
block_call c (command.Transfer reading records) (block.Open device number aux1) half = transfer_call c reading records device aux1

plan_call : (c : Call) (b : ControlBlock) (half : List ℕ) → OfCall c (call_plan c b half)
unfolding call_plan
plan_call c b half = pick_go (OfCall c) (ltb 7 c.iocb) _ _ (λ e. tt) (λ e. block_call c (command_of c.command) b.state half)

-- the blocks of other IOCBs stay
module _ (iocb : ℕ) where
  module _ {D : Type 0} (H : Asked → Acts D) (left : D → ℕ) (device : Device) (c : Call) (l : Local) (x : D) (n : iocb ≡ c.iocb → ⊥) where
    abbrev Stays : AloneOn D → Type 0
    Stays w = block_at w.local.table iocb ≡ block_at l.table iocb

    work_stays : (w : Work) → Stays (alone_work H left w device c l x)
    unfolding alone_work alone_opening alone_transfer
    work_stays work.Close = block_other l.table c.iocb iocb closed_block n
    work_stays work.Status = refl
    work_stays work.Special = refl
    work_stays (work.Open then number name) = choose_go Stays (offers_of device c.aux1) _ _ (λ e. block_other l.table c.iocb iocb _ n) (λ e. refl)
    work_stays (work.Transfer kind) = on_done_lem Stays ((H (asks_on l.number c.iocb)).prepares x).says _ _ (λ e. refl) (λ status e. refl)

  errand_stays : (e : Errand) (bytes : List ℕ) (l : Local) (s : Groups) → (alone_errand e bytes l s).local.table ≡ l.table
  unfolding alone_errand
  errand_stays (errand.Status status a) bytes l s = refl
  errand_stays (errand.Load address size) bytes l s = refl
  errand_stays (errand.Fetch address count) bytes l s = refl
  errand_stays (errand.Bad status) bytes l s = refl

  plan_stays : (c : Call) (p : Plan) (bytes : List ℕ) (l : Local) (s : Groups) → OfCall c p → (iocb ≡ c.iocb → ⊥) → block_at (alone_plan p bytes l s).local.table iocb ≡ block_at l.table iocb
  unfolding alone_plan
  plan_stays c (plan.Free e) bytes l s o n = ap (λ (t : Table). block_at t iocb) (errand_stays e bytes l s)
  plan_stays c (plan.On job) bytes l s o n =
      work_stays (device_acts job.device) (device_left job.device l.number job.call.iocb) job.device job.call l (get_group (group_of job.device) s) (λ e. n (e ∙ ap (λ (d : Call). d.iocb) o)) job.work

  said_stays : (said : Said) (l : Local) (s : Groups) → (iocb ≡ iocb_of (asked_of said) → ⊥) → block_at (alone_of said l s).local.table iocb ≡ block_at l.table iocb
  unfolding alone_of plan_of plan_in alone_plan
  said_stays (call c) l s n = plan_stays c (call_plan c (block_at l.table c.iocb) l.area) [] l s (plan_call c (block_at l.table c.iocb) l.area) n
  said_stays (load address bytes) l s n = ap (λ (t : Table). block_at t iocb) (errand_stays (errand.Load address (length bytes)) bytes l s)
  said_stays (fetch address count) l s n = ap (λ (t : Table). block_at t iocb) (errand_stays (errand.Fetch address count) [] l s)
  said_stays (bad status) l s n = ap (λ (t : Table). block_at t iocb) (errand_stays (errand.Bad status) [] l s)

-- a request that needs no cassette leaves it
put_cassette : (device : Device) (s : Groups) (x : Part (group_of device)) → (group_of device ≡ group.Cassette → ⊥) → (put_group (group_of device) s x).cassette ≡ s.cassette
put_cassette E s x n = refl
put_cassette S s x n = refl
put_cassette K s x n = refl
put_cassette P s x n = refl
put_cassette C s x n = absurd (n refl)
put_cassette D s x n = refl

errand_cassette : (e : Errand) (bytes : List ℕ) (l : Local) (s : Groups) → (alone_errand e bytes l s).groups.cassette ≡ s.cassette
unfolding alone_errand
errand_cassette (errand.Status status a) bytes l s = refl
errand_cassette (errand.Load address size) bytes l s = refl
errand_cassette (errand.Fetch address count) bytes l s = refl
errand_cassette (errand.Bad status) bytes l s = refl

plan_cassette : (p : Plan) (bytes : List ℕ) (l : Local) (s : Groups) → (group_needed p ≡ group.Cassette → ⊥) → (alone_plan p bytes l s).groups.cassette ≡ s.cassette
unfolding alone_plan
plan_cassette (plan.Free e) bytes l s n = errand_cassette e bytes l s
plan_cassette (plan.On job) bytes l s n = put_cassette job.device s _ n

-- a request of the other port, where it needs no cassette; its own port's, where it names another IOCB too
pub cassette_stays : (said : Said) (l : Local) (s : Groups) → (need_of (asked_of said) l.table l.area ≡ group.Cassette → ⊥) → (alone_of said l s).groups.cassette ≡ s.cassette
unfolding alone_of
cassette_stays said l s n = plan_cassette (plan_of (asked_of said) l.table l.area) (bytes_of said) l s n

pub said_between : (iocb : ℕ) (said : Said) (l : Local) (s : Groups) → FitLocal l → FitGroups s → (iocb ≡ iocb_of (asked_of said) → ⊥) → (need_of (asked_of said) l.table l.area ≡ group.Cassette → ⊥)
    → Between iocb l s (alone_of said l s).local (alone_of said l s).groups
said_between iocb said l s fl fg n g = record { fit = (alone_keeps said l s fl fg).local; block = said_stays iocb said l s n; cassette = cassette_stays said l s g }

pub between_more : (iocb : ℕ) {l m n : Local} {s t u : Groups} → Between iocb l s m t → Between iocb m t n u → Between iocb l s n u
between_more iocb a b = record { fit = b.fit; block = b.block ∙ a.block; cassette = b.cassette ∙ a.cassette }
