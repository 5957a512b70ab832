-- A GET from C that ends below $80 ends with its last character's status, and leaves the tape where that character left it: so the read
-- made next tells. And of the devices only C and D warn.
-- Assumes nothing.
use mathlib.Core.Path.{◌≡◌, ◌∙◌, refl, sym, ap, subst}
use mathlib.Core.Logic.{◌⊎◌, ◌↔◌, inl, inr}
use mathlib.Core.Bool.{Bool, true}
use mathlib.Core.List.{List}
use Prim.Native.Nat.{ℕ, zero, suc, ◌+◌, ◌<◌, ◌≤◌}
use native.Mathlib.Omega.{arith}
use lib.ListN.{set}
use Rattle.base.proofs.Choices.{by_eq, by_lt, choose_eq}
use Rattle.handler.specs.declared.Asked.{Asked}
use Rattle.handler.specs.declared.Got.{Got}
use Rattle.handler.specs.declared.Got.TheVariants as got
use Rattle.handler.specs.Answer.{got_status, Gives, plain, warns}
use Rattle.handler.specs.Acts.{Acts, asks_on}
use Rattle.handler.proofs.Giving.{gives_status, high_refused}
use Rattle.console.specs.declared.Handler.TheVariants as console
use Rattle.console.proofs.Keeps as console_keeps
use Rattle.printer.proofs.Keeps as printer_keeps
use Rattle.cassette.specs.Cassette.{CassetteGroup, cassette_acts, read_of}
use Rattle.cassette.proofs.Reading.{read_warns}
use Rattle.blocks.specs.declared.BlockState.{BlockState}
use Rattle.blocks.specs.declared.Device.TheVariants as device
use Rattle.blocks.specs.declared.Way.{Way}
use Rattle.blocks.specs.declared.Way.TheVariants.{One, Characters, Record}
use Rattle.blocks.specs.Blocks.{open_block, block_at}
use Rattle.blocks.specs.Opening.{area_length}
use Rattle.commands.specs.Commands.{way_of}
use Rattle.commands.specs.Numbers.{HasWay}
use Rattle.commands.proofs.Numbers.{way_has}
use Rattle.wire.specs.declared.Call.{Call}
use Rattle.transfer.specs.Transfer.{eol}
use Rattle.devices.specs.Groups.{Groups}
use Rattle.alone.specs.Transfer.{TransferEnd, get_one, get_characters, drop_line, get_record, getting}
use Rattle.alone.specs.Left.{device_left}
use Rattle.alone.specs.Alone.{Local, Alone}
use Rattle.alone.proofs.Ending.{on_got_lem}
use Rattle.alone.proofs.Lines.{tape_read_high}
use Rattle.rules.specs.Statuses.{reply_status, Transfer, Directed}
use Rattle.rules.specs.ReadBack.{called_alone}
use Rattle.rules.specs.Warned.{ReadsNext, status_alone, status_next, RequestWarns, OthersNeverWarn}
use Rattle.rules.proofs.ReadBack.{get_is, past_is, ended}

-- what a status below $80 tells of the tape behind it
abbrev Tells : (status : ℕ) → CassetteGroup → Type 0
Tells status x = ((status ≡ 0x03) × ((read_of x).says ≡ got.Refused 0x88)) ⊎ ((status ≡ 0x01) × ((read_of x).says ≡ got.Refused 0x88 → ⊥))

abbrev EndTells : TransferEnd CassetteGroup → Type 0
EndTells r = r.status < 0x80 → Tells r.status r.device

-- one character
tells_one : (x : CassetteGroup) (status byte : ℕ) → Gives (read_of x).says status byte → Tells status (read_of x).leaves
tells_one x status byte (plain e z) = inr (z, λ q. (read_warns x).unwarned byte (plain e refl) q)
tells_one x status byte (warns e z) = inl (z, (read_warns x).warned byte (warns e refl))

refused_high : (x : CassetteGroup) (status : ℕ) → (read_of x).says ≡ got.Refused status → 0x80 ≤ status
refused_high x status e = high_refused (read_of x).says status (tape_read_high x) e

-- a whole transfer
module _ (asked : Asked) (left : CassetteGroup → ℕ) (a : ℕ) where
  abbrev H : Acts CassetteGroup
  H = cassette_acts asked

  one_tells : (count : ℕ) (area : List ℕ) (x : CassetteGroup) → EndTells (get_one H left a count area x)
  unfolding get_one
  one_tells count area x =
      on_got_lem EndTells (read_of x).says _ _ (λ status byte e k. tells_one x status byte e) (λ status e k. absurd (omega (arith, k, refused_high x status e)))

  characters_tell : (before n place count : ℕ) (area : List ℕ) (x : CassetteGroup) → (n ≡ 0 → Tells before x) → EndTells (get_characters H left a before n place count area x)
  unfolding get_characters
  characters_tell before zero place count area x t = λ k. t refl
  characters_tell before (suc n) place count area x t =
      on_got_lem EndTells (read_of x).says _ _
      (λ status byte e. characters_tell status n (place + 1) (count + 1) (set area place byte) (read_of x).leaves (λ z. tells_one x status byte e))
      (λ status e k. absurd (omega (arith, k, refused_high x status e)))

  drop_tells : (m count : ℕ) (area : List ℕ) (x : CassetteGroup) → EndTells (drop_line H left a m count area x)
  unfolding drop_line
  drop_tells zero count area x =
      on_got_lem EndTells (read_of x).says _ _ (λ status byte e k. absurd (omega (arith, k))) (λ status e k. absurd (omega (arith, k, refused_high x status e)))
  drop_tells (suc m) count area x =
      on_got_lem EndTells (read_of x).says _ _
      (λ status byte e. choose_eq EndTells byte eol _ _ (λ l k. absurd (omega (arith, k))) (λ n. drop_tells m count area (read_of x).leaves))
      (λ status e k. absurd (omega (arith, k, refused_high x status e)))

  record_tells : (n place count : ℕ) (area : List ℕ) (x : CassetteGroup) → EndTells (get_record H left a n place count area x)
  unfolding get_record
  record_tells zero place count area x = drop_tells (left x) count area x
  record_tells (suc n) place count area x =
      on_got_lem EndTells (read_of x).says _ _
      (λ status byte e. choose_eq EndTells byte eol _ _ (λ l k. tells_one x status byte e) (λ m. record_tells n (place + 1) (count + 1) (set area place byte) (read_of x).leaves))
      (λ status e k. absurd (omega (arith, k, refused_high x status e)))

  getting_tells : (way : Way) (records : Bool) (n place : ℕ) (area : List ℕ) (x : CassetteGroup) → HasWay way records n → EndTells (getting H left a way n place 0 area x)
  unfolding getting
  getting_tells One records n place area x h = one_tells 0 area x
  getting_tells Characters records n place area x h = characters_tell 0x01 n place 0 area x (λ z. absurd (omega (arith, z, h.0)))
  getting_tells Record records n place area x h = record_tells n place 0 area x

-- the status of a read of length 0 is the handler's
abbrev IsStatus : Got → TransferEnd CassetteGroup → Type 0
IsStatus says r = r.status ≡ got_status says

handler_says : (asked : Asked) (left : CassetteGroup → ℕ) (a : ℕ) (area : List ℕ) (x : CassetteGroup) → IsStatus (read_of x).says (get_one (cassette_acts asked) left a 0 area x)
unfolding get_one
handler_says asked left a area x =
    on_got_lem (IsStatus (read_of x).says) (read_of x).says _ _ (λ status byte e. sym (gives_status e)) (λ status e. sym (ap got_status e))

refused_next : (says : Got) → got_status says ≡ 0x88 → says ≡ got.Refused 0x88
refused_next (got.Character byte) q = absurd (omega (arith, q))
refused_next (got.Last byte) q = absurd (omega (arith, q))
refused_next (got.Refused status) q = ap got.Refused q

-- the requests
abbrev NextTells : (c next : Call) → Local → Groups → Type 0
NextTells c next l s = ((status_alone c l s ≡ 0x03) × (status_next c next l s ≡ 0x88)) ⊎ ((status_alone c l s ≡ 0x01) × (status_next c next l s ≡ 0x88 → ⊥))

module _ (c : Call) (l : Local) (s : Groups) (d : Directed c l s true device.C) where
  abbrev t : Transfer c l s true device.C
  t = d.transfer

  has_block : block_at l.table c.iocb ≡ open_block device.C t.number t.aux1
  has_block = ap (λ (b : BlockState). record { state = b }) t.on.has

  abbrev way : Way
  way = way_of t.records c.length

  has_way : HasWay way t.records c.length
  has_way = (way_has way t.records c.length).0 refl

  abbrev got_by : TransferEnd CassetteGroup
  got_by = getting (cassette_acts (asks_on l.number c.iocb)) (device_left device.C l.number c.iocb) c.a way c.length c.address 0 l.area s.cassette

  abbrev low : c.iocb ≤ 7
  low = t.on.iocb

  -- it is refused with $B0, or its characters are moved
  by_buffer : {P : Type 0} → (status_alone c l s ≡ 0xB0 → P) → (called_alone c l s ≡ ended c l s low got_by → P) → P
  by_buffer p q =
      by_eq c.length 0
      (λ z. q (get_is c l s low t.records way t.number t.aux1 t.command has_block d.with (inl z) has_way))
      (λ z. by_lt area_length (c.address + c.length)
      (λ h. p (ap (λ (y : Alone). reply_status y.reply) (past_is c l s low t.records t.number t.aux1 t.command has_block d.with z h)))
      (λ h. q (get_is c l s low t.records way t.number t.aux1 t.command has_block d.with (inr h) has_way)))

  -- the block is as it was, and the tape as the transfer left it
  module _ (next : Call) (o : ReadsNext c next l s) (e : called_alone c l s ≡ ended c l s low got_by) where
    after_block : block_at (called_alone c l s).local.table next.iocb ≡ open_block device.C t.number t.aux1
    after_block = ap (λ (y : Alone). block_at y.local.table next.iocb) e ∙ ap (block_at l.table) o.same ∙ has_block

    next_low : next.iocb ≤ 7
    next_low = omega (arith, low, o.same)

    next_says : status_next c next l s ≡ got_status (read_of got_by.device).says
    unfolding getting
    next_says =
        let m = (called_alone c l s).local in
        let u = (called_alone c l s).groups in
        ap (λ (y : Alone). reply_status y.reply) (get_is next m u next_low o.records One t.number t.aux1 o.command after_block d.with (inl o.one) o.one)
        ∙ handler_says (asks_on m.number next.iocb) (device_left device.C m.number next.iocb) next.a m.area u.cassette
        ∙ ap (λ (y : Alone). got_status (read_of y.groups.cassette).says) e

    tells_next : status_alone c l s < 0x80 → NextTells c next l s
    tells_next k = by (getting_tells (asks_on l.number c.iocb) (device_left device.C l.number c.iocb) c.a way t.records c.length c.address l.area s.cassette has_way (subst (λ (n : ℕ). n < 0x80) same k))
      where
        same : status_alone c l s ≡ got_by.status
        same = ap (λ (y : Alone). reply_status y.reply) e

        by : Tells got_by.status got_by.device → NextTells c next l s
        by (inl p) = inl (same ∙ p.0, next_says ∙ ap got_status p.1)
        by (inr p) = inr (same ∙ p.0, λ q. p.1 (refused_next (read_of got_by.device).says (sym next_says ∙ q)))

pub request_warns : (c next : Call) (l : Local) (s : Groups) → ReadsNext c next l s → RequestWarns c next l s
request_warns c next l s o = record {
  exactly = λ k. both (told k);
  success = λ k n. only n (told k);
}
  where
    told : status_alone c l s < 0x80 → NextTells c next l s
    told k = by_buffer c l s o.reads (λ e. absurd (omega (arith, k, e))) (λ e. tells_next c l s o.reads next o e k)

    both : NextTells c next l s → (status_alone c l s ≡ 0x03) ↔ (status_next c next l s ≡ 0x88)
    both (inl p) = (λ q. p.1, λ q. p.0)
    both (inr p) = (λ q. absurd (omega (arith, q, p.0)), λ q. absurd (p.1 q))

    only : (status_next c next l s ≡ 0x88 → ⊥) → NextTells c next l s → status_alone c l s ≡ 0x01
    only n (inl p) = absurd (n p.1)
    only n (inr p) = p.0

pub others_never_warn : OthersNeverWarn
others_never_warn device.E c d asked x = console_keeps.read_never_last console.E x
others_never_warn device.S c d asked x = console_keeps.read_never_last console.S x
others_never_warn device.K c d asked x = console_keeps.read_never_last console.K x
others_never_warn device.P c d asked x = printer_keeps.read_never_last asked x
others_never_warn device.C c d asked x = absurd (c refl)
others_never_warn device.D c d asked x = absurd (d refl)
