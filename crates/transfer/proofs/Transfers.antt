-- What each function of a character returns and leaves is what its definition says.
-- Assumes nothing.
use mathlib.Core.Path.{◌≡◌, ◌∙◌, refl, ap}
use mathlib.Core.Bool.{true}
use mathlib.Core.List.{List}
use Prim.Native.Nat.{ℕ, ◌+◌}
use native.Mathlib.Omega.{arith}
use lib.Dec.{leb, ltb}
use lib.ListN.{length, get_or, set, length-set}
use borrow.Author.Tests.{eq-eqb, ne_eqb, ltb-true, leb-true}
use Rattle.base.specs.Choice.{and}
use Rattle.base.proofs.Choices.{choose_eq, and_left, and_right}
use Rattle.handler.specs.declared.Got.{Got}
use Rattle.handler.specs.declared.Got.TheVariants as got
use Rattle.handler.specs.Answer.{Gives, plain, warns}
use Rattle.handler.specs.declared.Done.{Done}
use Rattle.handler.specs.declared.Done.TheVariants as done
use Rattle.blocks.specs.declared.Way.{Way}
use Rattle.blocks.specs.declared.Way.TheVariants.{One, Characters, Record}
use Rattle.blocks.specs.declared.Run.{Run}
use Rattle.blocks.specs.declared.Phase.TheVariants.{Running, Replying}
use Rattle.blocks.specs.declared.Reply.{Reply}
use Rattle.replies.specs.Replies.{call_reply, replied, replied_of, Replied}
use Rattle.transfer.specs.declared.Next.{Next}
use Rattle.transfer.specs.declared.Next.TheVariants.{On, Off}
use Rattle.transfer.specs.declared.Carried.{Carried}
use Rattle.transfer.specs.Transfer.{next_of, Progress, progress, further_of, ended_of, onward_of, record_of, got_character, got_of, sent_byte, sent_record, sent_next, sent_of, out_of, in_port, landed}
use Rattle.transfer.specs.Spans.{Further, span_fits, Spans}

-- a character that is given, whichever its status
pub got_given : (way : Way) (run : Run) (says : Got) (status byte : ℕ) (area : List ℕ) → Gives says status byte → got_of way run says area ≡ got_character way run status byte area
unfolding got_of
got_given way run says status byte area (plain e z) = rw (e, z)
got_given way run says status byte area (warns e z) = rw (e, z)

-- the area keeps its length
character_long : (way : Way) (run : Run) (status byte : ℕ) (area : List ℕ) → length (got_character way run status byte area).area ≡ length area
unfolding got_character
character_long One run status byte area = refl
character_long Characters run status byte area = length-set area run.place byte
character_long Record run status byte area =
    choose_eq (λ (p : Progress). length p.area ≡ length area) run.left 0 _ _ (λ e. refl) (λ e. length-set area run.place byte)

pub got_long : (way : Way) (run : Run) (says : Got) (area : List ℕ) → length (got_of way run says area).area ≡ length area
unfolding got_of
got_long way run (got.Character byte) area = character_long way run 0x01 byte area
got_long way run (got.Last byte) area = character_long way run 0x03 byte area
got_long way run (got.Refused status) area = refl

-- what a span says of a request whose way is known
module _ (way : Way) (run : Run) (s : Spans way run) where
  pub span_characters : way ≡ Characters → Further run
  unfolding span_fits
  span_characters e =
      let p : span_fits Characters run ≡ true = rw e at s.span in
      let q = and_right (ltb 0 run.left) (and (leb (run.place + run.left) 16384) (leb run.count run.place)) p in
      let a = ltb-true 0 run.left (and_left (ltb 0 run.left) (and (leb (run.place + run.left) 16384) (leb run.count run.place)) p) in
      let b = leb-true (run.place + run.left) 16384 (and_left (leb (run.place + run.left) 16384) (leb run.count run.place) q) in
      let c = leb-true run.count run.place (and_right (leb (run.place + run.left) 16384) (leb run.count run.place) q) in
      record { left = a; place = omega arith; count = omega arith }

  pub span_same : (w : Way) → way ≡ w → Spans w run
  span_same w e = rw e at s

pub span_record : (run : Run) → Spans Record run → (run.left ≡ 0 → ⊥) → Further run
unfolding span_fits
span_record run s n =
    let p : span_fits Record run ≡ true = s.span in
    let q = and_right (ltb 0 (run.left + run.count)) (and (leb (run.place + run.left) 16384) (leb run.count run.place)) p in
    let b = leb-true (run.place + run.left) 16384 (and_left (leb (run.place + run.left) 16384) (leb run.count run.place) q) in
    let c = leb-true run.count run.place (and_right (leb (run.place + run.left) 16384) (leb run.count run.place) q) in
    record { left = omega arith; place = omega arith; count = omega arith }

module _ (run : Run) where
  pub onward_end : (status : ℕ) (next : Next) → run.left ≡ 0 → next ≡ ended_of status run → next ≡ onward_of run status
  unfolding onward_of
  onward_end status next h q = q ∙ rw (eq-eqb run.left 0 h)

  pub onward_on : (status : ℕ) (next : Next) → (run.left ≡ 0 → ⊥) → next ≡ On run → next ≡ onward_of run status
  unfolding onward_of
  onward_on status next h q = q ∙ rw (ne_eqb run.left 0 h)

  module _ (byte : ℕ) where
    pub record_end : (status : ℕ) (next : Next) → byte ≡ 0x9B → next ≡ ended_of status run → next ≡ record_of run status byte
    unfolding record_of
    record_end status next h q = q ∙ rw (eq-eqb byte 0x9B h)

    pub record_on : (status : ℕ) (next : Next) → (byte ≡ 0x9B → ⊥) → next ≡ On run → next ≡ record_of run status byte
    unfolding record_of
    record_on status next h q = q ∙ rw (ne_eqb byte 0x9B h)

    -- a character got with this status
    module _ (status : ℕ) (area after : List ℕ) where
      pub got_characters : (more : Run) (c : Carried) → after ≡ set area run.place byte → more ≡ further_of run → next_of more c ≡ onward_of more status → progress (next_of run c) after ≡ got_character Characters run status byte area
      unfolding got_character
      got_characters more c p q r = let moved : next_of run c ≡ onward_of (further_of run) status = rw q at r in rw (p, moved)

      pub drop_end : (next : Next) → run.left ≡ 0 → byte ≡ 0x9B → next ≡ ended_of 0x89 run → progress next area ≡ got_character Record run status byte area
      unfolding got_character
      drop_end next h k q = rw (q, eq-eqb run.left 0 h, eq-eqb byte 0x9B k)

      pub drop_on : (next : Next) → run.left ≡ 0 → (byte ≡ 0x9B → ⊥) → next ≡ On run → progress next area ≡ got_character Record run status byte area
      unfolding got_character
      drop_on next h k q = rw (q, eq-eqb run.left 0 h, ne_eqb byte 0x9B k)

      pub got_record : (more : Run) (c : Carried) → (run.left ≡ 0 → ⊥) → after ≡ set area run.place byte → more ≡ further_of run → next_of more c ≡ record_of more status byte → progress (next_of run c) after ≡ got_character Record run status byte area
      unfolding got_character
      got_record more c h p q r = let moved : next_of run c ≡ record_of (further_of run) status byte = rw q at r in rw (p, moved, ne_eqb run.left 0 h)

      module _ (way : Way) where
        pub character_one : way ≡ One → progress (Off status run.count byte) area ≡ got_character way run status byte area
        unfolding got_character
        character_one e = rw e

        pub character_way : (w : Way) (next : Next) → way ≡ w → progress next after ≡ got_character w run status byte area → progress next after ≡ got_character way run status byte area
        character_way w next e q = q ∙ rw e

    -- by what the handler says
    module _ (area after : List ℕ) (way : Way) (says : Got) (next : Next) where
      pub got_character_lem : says ≡ got.Character byte → progress next after ≡ got_character way run 0x01 byte area → progress next after ≡ got_of way run says area
      unfolding got_of
      got_character_lem e q = q ∙ rw e

      pub got_last : says ≡ got.Last byte → progress next after ≡ got_character way run 0x03 byte area → progress next after ≡ got_of way run says area
      unfolding got_of
      got_last e q = q ∙ rw e

      pub got_refused : (status : ℕ) → says ≡ got.Refused status → next ≡ ended_of status run → progress next area ≡ got_of way run says area
      unfolding got_of
      got_refused status e q = rw (q, e)

    -- a byte sent
    pub sent_record_end : (next : Next) → run.left ≡ 0 → next ≡ ended_of 0x01 run → next ≡ sent_record run byte
    unfolding sent_record
    sent_record_end next h q = q ∙ rw (eq-eqb run.left 0 h)

    pub sent_record_on : (more : Run) (c : Carried) → (run.left ≡ 0 → ⊥) → more ≡ further_of run → next_of more c ≡ record_of more 0x01 byte → next_of run c ≡ sent_record run byte
    unfolding sent_record
    sent_record_on more c h q r = let moved : next_of run c ≡ record_of (further_of run) 0x01 byte = rw q at r in moved ∙ rw (ne_eqb run.left 0 h)

    pub sent_characters : (way : Way) (more : Run) (c : Carried) → way ≡ Characters → more ≡ further_of run → next_of more c ≡ onward_of more 0x01 → next_of run c ≡ sent_next way run byte
    unfolding sent_next
    sent_characters way more c e q r = let moved : next_of run c ≡ onward_of (further_of run) 0x01 = rw q at r in moved ∙ rw e

    module _ (way : Way) (next : Next) where
      pub sent_one : way ≡ One → next ≡ ended_of 0x01 run → next ≡ sent_next way run byte
      unfolding sent_next
      sent_one e q = q ∙ rw e

      pub sent_record_lem : way ≡ Record → next ≡ sent_record run byte → next ≡ sent_next way run byte
      unfolding sent_next
      sent_record_lem e q = q ∙ rw e

      pub sent_success : (d : Done) → d ≡ done.Success → next ≡ sent_next way run byte → next ≡ sent_of way run byte d
      unfolding sent_of
      sent_success d e q = q ∙ rw e

      pub sent_refused : (d : Done) (status : ℕ) → d ≡ done.Refused status → next ≡ ended_of status run → next ≡ sent_of way run byte d
      unfolding sent_of
      sent_refused d status e q = q ∙ rw e

  module _ (way : Way) (area : List ℕ) where
    pub send_one : way ≡ One → run.a ≡ sent_byte way run area
    unfolding sent_byte
    send_one e = rw e

    pub send_characters : (byte : ℕ) → way ≡ Characters → byte ≡ get_or area run.place 0 → byte ≡ sent_byte way run area
    unfolding sent_byte
    send_characters byte e q = q ∙ rw e

    pub send_eol : way ≡ Record → run.left ≡ 0 → 0x9B ≡ sent_byte way run area
    unfolding sent_byte
    send_eol e h = rw (e, eq-eqb run.left 0 h)

    pub send_record : (byte : ℕ) → way ≡ Record → (run.left ≡ 0 → ⊥) → byte ≡ get_or area run.place 0 → byte ≡ sent_byte way run area
    unfolding sent_byte
    send_record byte e h q = q ∙ rw (e, ne_eqb run.left 0 h)

module _ (next : Next) (room after : List ℕ) where
  pub land_on_lem : (run : Run) → next ≡ On run → in_port (Running run) room ≡ landed (out_of next) room
  land_on_lem run e = rw e

  pub land_off : (status count a : ℕ) (reply : Reply) → next ≡ Off status count a → replied reply after ≡ replied_of room (call_reply status count a) → in_port (Replying reply) after ≡ landed (out_of next) room
  land_off status count a reply e q = ap (λ (x : Replied). in_port (Replying x.reply) x.room) q ∙ rw e
