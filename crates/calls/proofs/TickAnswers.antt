-- What each answer of a tick leaves is what the tick of the stick says.
-- Assumes nothing.
use mathlib.Core.Logic.{◌⊎◌, inl, inr}
use mathlib.Core.Path.{◌≡◌, ◌∙◌, sym, ap}
use mathlib.Core.Bool.{Bool, true, false}
use mathlib.Core.List.{List}
use Prim.Native.Nat.{ℕ}
use lib.Dec.{ltb}
use lib.ListN.{drop}
use Rattle.base.specs.Choice.{and, choose}
use Rattle.base.proofs.Choices.{and_left, and_right}
use Rattle.blocks.specs.declared.Gather.{Gather}
use Rattle.blocks.specs.declared.Header.{Header}
use Rattle.blocks.specs.declared.Run.{Run}
use Rattle.blocks.specs.declared.Reply.{Reply}
use Rattle.blocks.specs.declared.Kind.{Kind}
use Rattle.blocks.specs.declared.Kind.TheVariants.{Get, Put}
use Rattle.blocks.specs.declared.Phase.{Phase}
use Rattle.blocks.specs.declared.Phase.TheVariants.{Gathering, Ready, Running, Replying}
use Rattle.blocks.specs.Opening.{area_length}
use Rattle.blocks.specs.Made.{table_made}
use Rattle.blocks.specs.Blocks.{block_at}
use Rattle.wire.specs.Messages.{message_of, room_length}
use Rattle.layout.specs.Places.{phase_place}
use Rattle.layout.specs.Stick.{Stick, Lent, lent, port_at, other_at, with_port}
use Rattle.layout.specs.Layout.{phase_in}
use Rattle.layout.proofs.Ports.{by_port, own_phase, port_back, part_back}
use Rattle.devices.specs.Groups.{clash, held_of}
use Rattle.plan.specs.declared.Plan.{Plan}
use Rattle.plan.specs.Plan.{plan_of, group_needed}
use Rattle.transfer.specs.Spans.{Spans, way_in}
use Rattle.damage.specs.Fits.{open_for, in_use, spans, run_fits, phase_fits, port_fits, stick_fits}
use Rattle.calls.specs.Port.{Ticked, ticked, ready_tick, tick_port, start_plan}
use Rattle.calls.specs.Stick.{Outcome, outcome, room_at, area_at, reach_at, with_reach, lent_reach}
use Rattle.calls.specs.Calls.{tick_at}
use Rattle.calls.specs.Bytes.{Buffers, buffers, Left, left, left_alone, left_of, stick_by, lent_by}
use Rattle.calls.specs.Parts.{Called, Going, waits_on, start_on, ready_on, advance_on}
use Rattle.calls.proofs.Links.{written, plan_is, waits_is, start_is, advance_is}

module _ (port : ℕ) (b : Buffers) (c : Called port b) where
  abbrev s : Stick
  s = stick_by b

  abbrev l : Lent
  l = lent_by b

  -- bytes that stand are those of what they stand for
  pub as_it_was : (n byte : ℕ) → left n byte b ≡ left_of (outcome n byte s l)
  as_it_was n byte = ap (λ (x : List ℕ). left n byte (buffers x b.area b.screen b.paper b.tape b.images)) (written port b c).is

  -- a tick that reaches no further than it came
  stays : (n : ℕ) → left n 0 b ≡ left_of (outcome n 0 (with_reach port (reach_at port s l) s) (lent_reach port (reach_at port s l) l))
  stays n =
      as_it_was n 0
      ∙ ap (λ (x : Stick). left_of (outcome n 0 x l)) (sym (port_back port c.low s))
      ∙ ap (λ (x : List ℕ). left_of (outcome n 0 (with_port port (port_at port s) s) (lent x l.area l.screen l.paper l.tape l.images))) (sym (part_back port c.low room_length l.rooms))
      ∙ ap (λ (x : List ℕ). left_of (outcome n 0 (with_port port (port_at port s) s) (lent (lent_reach port (reach_at port s l) l).rooms x l.screen l.paper l.tape l.images))) (sym (part_back port c.low area_length l.area))

  abbrev ticked_by : Ticked → Outcome
  ticked_by t = outcome t.answer 0 (with_reach port t.reach s) (lent_reach port t.reach l)

  module _ (phase : Phase) (p : phase ≡ phase_in (drop (phase_place port) b.state)) where
    own : (x : Phase) → phase ≡ x → x ≡ (port_at port s).phase
    own x z = sym z ∙ p ∙ sym (own_phase port c.low b.state)

    by : (x : Phase) (t : Left) → phase ≡ x → t ≡ left_of (ticked_by (tick_port port x (held_of (other_at port s).phase) (reach_at port s l))) → t ≡ left_of (tick_at port s l)
    unfolding tick_at
    by x t z q = q ∙ ap (λ (y : Phase). left_of (ticked_by (tick_port port y (held_of (other_at port s).phase) (reach_at port s l)))) (own x z)

    pub tick_gathering : (g : Gather) → phase ≡ Gathering g → left_alone 7 b ≡ left_of (tick_at port s l)
    unfolding tick_port
    tick_gathering g z = by (Gathering g) (left_alone 7 b) z (stays 7)

    pub tick_replying : (r : Reply) → phase ≡ Replying r → left_alone 7 b ≡ left_of (tick_at port s l)
    unfolding tick_port
    tick_replying r z = by (Replying r) (left_alone 7 b) z (stays 7)

    pub tick_idle : ((g : Gather) × phase ≡ Gathering g) ⊎ ((r : Reply) × phase ≡ Replying r) → left_alone 7 b ≡ left_of (tick_at port s l)
    tick_idle (inl (g, z)) = tick_gathering g z
    tick_idle (inr (r, z)) = tick_replying r z

    pub tick_running : (run : Run) (b' : Buffers) → phase ≡ Running run → b' ≡ advance_on port run b → left 0 0 b' ≡ left_of (tick_at port s l)
    unfolding tick_port
    tick_running run b' z q = by (Running run) (left 0 0 b') z (ap (left 0 0) q ∙ advance_is port b c run)

    ready_by : (header : Header) (q : Plan) (t : Bool) → choose t (λ u. left_alone 8 b) (λ u. left 0 0 (start_on port q b))
        ≡ left_of (ticked_by (choose t (λ u. ticked 8 (reach_at port s l)) (λ u. ticked 0 (start_plan port q (reach_at port s l)))))
    ready_by header q true = stays 8
    ready_by header q false = start_is port b c q

    ready_is : (header : Header) → ready_on port header b ≡ left_of (ticked_by (ready_tick port header (held_of (other_at port s).phase) (reach_at port s l)))
    unfolding ready_on ready_tick
    ready_is header =
        let q = plan_of (message_of header (room_at port l)) (port_at port s).table (area_at port l) in
        ap (λ (x : Plan). choose (waits_on port x b.state) (λ u. left_alone 8 b) (λ u. left 0 0 (start_on port x b))) (plan_is port b c header)
        ∙ ap (λ (t : Bool). choose t (λ u. left_alone 8 b) (λ u. left 0 0 (start_on port q b))) (waits_is port b c q)
        ∙ ready_by header q (clash (group_needed q) (held_of (other_at port s).phase))

    pub tick_ready : (header : Header) (t : Left) → phase ≡ Ready header → t ≡ ready_on port header b → t ≡ left_of (tick_at port s l)
    unfolding tick_port
    tick_ready header t z q = by (Ready header) t z (q ∙ ready_is header)

    -- a running request's numbers span its buffer
    spans_in : (kind : Kind) (run : Run) → spans kind run ≡ true → Spans (way_in kind) run
    spans_in (Get way) run e = record { span = e }
    spans_in (Put way) run e = record { span = e }

    fits_port : port_fits (port_at port s) s.devices.console ≡ true
    unfolding stick_fits
    fits_port =
        let p0 = port_fits s.port0 s.devices.console in
        let p1 = port_fits s.port1 s.devices.console in
        by_port (λ (n : ℕ). port_fits (port_at n s) s.devices.console ≡ true) (and_left p0 _ c.fits) (and_left p1 _ (and_right p0 _ c.fits)) port c.low

    pub going : (run : Run) → phase ≡ Running run → Going port run b
    unfolding port_fits phase_fits run_fits
    going run z =
        let own_table = (port_at port s).table in
        let f = and_right (table_made own_table) (phase_fits (port_at port s).phase own_table s.devices.console) fits_port in
        let g : phase_fits (Running run) own_table s.devices.console ≡ true = ap (λ (x : Phase). phase_fits x own_table s.devices.console) (own (Running run) z) ∙ f in
        let low = ltb run.iocb 8 in
        let opened = open_for run.kind run.device (block_at own_table run.iocb).state in
        let used = in_use run.device s.devices.console.mode in
        let spanned = spans run.kind run in
        let e1 = and_right low (and opened (and used spanned)) g in
        let e2 = and_right opened (and used spanned) e1 in
        record { called = c; spans = spans_in run.kind run (and_right used spanned e2) }
