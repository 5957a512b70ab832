-- The bytes of a stick and its rooms: what each store of a call makes of them, in the words of the stick.
-- Assumes nothing.
use mathlib.Core.Path.{◌≡◌, ◌∙◌, sym, ap}
use mathlib.Core.Bool.{false}
use mathlib.Core.List.{List, ◌++◌}
use Prim.Native.Nat.{ℕ, ◌+◌, ◌*◌, ◌<◌, ◌≤◌}
use native.Mathlib.Omega.{arith}
use lib.Dec.{ltb}
use lib.ListN.{length, take, drop}
use lib.Seq.{sets, length-sets, drop-drop, drop_at, set_out}
use borrow.Author.Tests.{ltb-true, ltb-false}
use Rattle.base.proofs.Parts.{sets_left, sets_right, part_length}
use Rattle.base.proofs.Choices.{pick_go}
use Rattle.blocks.specs.declared.ControlBlock.{ControlBlock}
use Rattle.blocks.specs.declared.Phase.{Phase}
use Rattle.blocks.specs.Blocks.{with_block}
use Rattle.wire.specs.Messages.{room_length}
use Rattle.layout.specs.Places.{phase_place, block_place, devices_place, devices_length, rooms_place, room_place}
use Rattle.layout.specs.Stick.{Stick, port_at, with_port, with_phase, with_table, part_at, with_part}
use Rattle.layout.specs.Layout.{head_of, phase_bytes, block_bytes}
use Rattle.layout.proofs.Lengths.{phase_length_lem, head_length}
use Rattle.layout.proofs.Ports.{head_phase, head_block, port_back, part_of, with_part_lem}
use Rattle.transfer.specs.Transfer.{InPort}
use Rattle.calls.specs.Parts.{room_in, with_block_on, with_in_port}

-- these bytes are those of this stick, and then its rooms
pub record Written (b : List ℕ) (s : Stick) (rooms : List ℕ) : Type 0 where
  pub is : b ≡ head_of s ++ rooms
  pub long : length rooms ≡ 2 * room_length

module _ (b : List ℕ) (s : Stick) (rooms : List ℕ) (w : Written b s rooms) where
  -- a store into the head
  pub stored : (q : ℕ) (ys : List ℕ) (t : Stick) → q + length ys ≤ rooms_place → head_of t ≡ sets (head_of s) q ys → Written (sets b q ys) t rooms
  stored q ys t h e = record {
    is = ap (λ (l : List ℕ). sets l q ys) w.is ∙ sets_left ys (head_of s) rooms q (omega (arith, head_length s)) ∙ ap (λ (l : List ℕ). l ++ rooms) (sym e);
    long = w.long;
  }

  pub written_devices : (numbers : List ℕ) (t : Stick) → head_of t ≡ sets (head_of s) devices_place numbers → length numbers ≡ devices_length → Written (sets b devices_place numbers) t rooms
  written_devices numbers t e l = stored devices_place numbers t (omega arith) e

  -- the rooms as they stand behind the head
  pub rooms_are : drop rooms_place b ≡ rooms
  rooms_are = ap (drop rooms_place) w.is ∙ drop_at (head_of s) rooms rooms_place (head_length s)

  module _ (port : ℕ) (h : port < 2) where
    pub written_phase : (p : Phase) → Written (sets b (phase_place port) (phase_bytes p)) (with_port port (with_phase p (port_at port s)) s) rooms
    written_phase p = stored (phase_place port) (phase_bytes p) _ (omega (arith, h, phase_length_lem p)) (head_phase port h p s)

    pub room_read : room_in port b ≡ part_at room_length port rooms
    room_read =
        ap (take room_length) (sym (drop-drop (room_length * port) rooms_place b) ∙ ap (drop (room_length * port)) rooms_are)
        ∙ sym (part_of port h room_length rooms (omega (arith, w.long)))

    pub written_room : (room : List ℕ) → length room ≡ room_length → Written (sets b (room_place port) room) s (with_part room_length port room rooms)
    written_room room e =
        let same = with_part_lem port h room_length rooms (omega (arith, w.long)) room e in
        record {
          is =
              ap (λ (l : List ℕ). sets l (room_place port) room) w.is
              ∙ ap (λ (n : ℕ). sets (head_of s ++ rooms) (n + room_length * port) room) (sym (head_length s))
              ∙ sets_right (head_of s) rooms room (room_length * port)
              ∙ ap (λ (r : List ℕ). head_of s ++ r) (sym same);
          long = ap length same ∙ length-sets rooms (room_length * port) room ∙ w.long;
        }

    pub written_block : (iocb : ℕ) (block : ControlBlock) → length (port_at port s).table.blocks ≡ 8
        → Written (with_block_on port iocb block b) (with_port port (with_table (with_block (port_at port s).table iocb block) (port_at port s)) s) rooms
    written_block iocb block e =
        let t = with_port port (with_table (with_block (port_at port s).table iocb block) (port_at port s)) s in
        pick_go (λ (x : List ℕ). Written x t rooms) (ltb iocb 8) _ b
        (λ z. let l = ltb-true iocb 8 z in stored (block_place port iocb) (block_bytes block) t (omega (arith, h, l)) (head_block port h iocb block s l e))
        (λ z. record { is = w.is ∙ ap (λ (x : Stick). head_of x ++ rooms) (sym (same z)); long = w.long })
      where
        same : ltb iocb 8 ≡ false → with_port port (with_table (with_block (port_at port s).table iocb block) (port_at port s)) s ≡ s
        same z =
            let l : length (port_at port s).table.blocks ≤ iocb = omega (arith, e, ltb-false iocb 8 z) in
            ap (λ (x : List ControlBlock). with_port port (with_table (record { blocks = x }) (port_at port s)) s) (set_out (port_at port s).table.blocks iocb block l)
            ∙ port_back port h s

    -- what becomes of a request, in its port's room and phase
    pub landed_there : (p : InPort) → length p.room ≡ room_length
        → with_in_port port p b ≡ head_of (with_port port (with_phase p.phase (port_at port s)) s) ++ with_part room_length port p.room rooms
    landed_there p e = phased (sets b (room_place port) p.room) s (with_part room_length port p.room rooms) (written_room p.room e) p.phase
      where
        phased : (b' : List ℕ) (t : Stick) (r : List ℕ) → Written b' t r → (q : Phase) → sets b' (phase_place port) (phase_bytes q) ≡ head_of (with_port port (with_phase q (port_at port t)) t) ++ r
        phased b' t r v q =
            ap (λ (l : List ℕ). sets l (phase_place port) (phase_bytes q)) v.is
            ∙ sets_left (phase_bytes q) (head_of t) r (phase_place port) (omega (arith, h, phase_length_lem q, head_length t))
            ∙ ap (λ (l : List ℕ). l ++ r) (sym (head_phase port h q t))

    pub room_long : length (part_at room_length port rooms) ≡ room_length
    room_long = ap length (part_of port h room_length rooms (omega (arith, w.long))) ∙ part_length (room_length * port) room_length rooms (omega (arith, h, w.long))
