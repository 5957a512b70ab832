-- A move keeps what is not damaged, and so does a request alone.
-- Assumes nothing.
use mathlib.Core.Path.{◌≡◌, ◌∙◌, refl, sym, subst}
use mathlib.Core.Bool.{true, false}
use mathlib.Core.List.{List, []}
use Prim.Native.Nat.{ℕ, zero, suc}
use lib.ListN.{length}
use lib.Seq.{length-sets}
use Rattle.std.specs.Prelude.{Option}
use Rattle.base.specs.Choice.{within}
use Rattle.base.proofs.Choices.{choose_go}
use Rattle.handler.specs.declared.Asked.{Asked}
use Rattle.handler.specs.declared.Done.{Done}
use Rattle.handler.specs.declared.Done.TheVariants as done
use Rattle.handler.specs.Acts.{Acts, asks_open, asks_on}
use Rattle.blocks.specs.declared.ControlBlock.{ControlBlock}
use Rattle.blocks.specs.declared.Device.{Device}
use Rattle.blocks.specs.declared.Kind.{Kind}
use Rattle.blocks.specs.declared.Kind.TheVariants.{Get, Put}
use Rattle.blocks.specs.declared.Run.{Run}
use Rattle.blocks.specs.Blocks.{closed_block, open_block, block_at}
use Rattle.blocks.specs.Opening.{highest_of, offers_of}
use Rattle.blocks.specs.Made.{splits, made_of}
use Rattle.blocks.proofs.Keeps.{with_length, with_made, open_is_made, block_made}
use Rattle.wire.specs.declared.Call.{Call}
use Rattle.replies.specs.Replies.{reply_of}
use Rattle.wire.specs.Fits.{reply_fits}
use Rattle.wire.proofs.Keeps.{call_reply_fits, status_reply_fits, fetch_reply_fits}
use Rattle.transfer.specs.declared.Next.{Next}
use Rattle.transfer.specs.declared.Next.TheVariants.{On, Off}
use Rattle.transfer.specs.Transfer.{Out, goes, ends, out_of}
use Rattle.transfer.proofs.Transfers.{got_long}
use Rattle.transfer.specs.Spans.{way_in}
use Rattle.devices.specs.Groups.{Groups, device_acts, get_group, group_of, owner_of}
use Rattle.devices.specs.Fit.{FitGroups, FitPart}
use Rattle.plan.specs.declared.After.{After}
use Rattle.plan.specs.declared.After.TheVariants as after
use Rattle.plan.specs.declared.Errand.{Errand}
use Rattle.plan.specs.declared.Errand.TheVariants as errand
use Rattle.plan.specs.declared.Plan.{Plan}
use Rattle.plan.specs.declared.Plan.TheVariants as plan
use Rattle.plan.specs.declared.Work.{Work}
use Rattle.plan.specs.declared.Work.TheVariants as work
use Rattle.plan.specs.Plan.{call_plan, plan_of, plan_in}
use Rattle.moves.specs.Move.{Went, go_of, advance_of}
use Rattle.cio.specs.Start.{load_fits, load_status, run_of, block_after, opened_by, opened_of, then_of}
use Rattle.alone.specs.Transfer.{on_done, transferred}
use Rattle.alone.specs.Alone.{Said, call, load, fetch, bad, Local, Alone, AloneOn, answered, replying, alone_opening, alone_transfer, alone_work, loaded, alone_errand, alone_plan, alone_of, with_own_block}
use Rattle.alone.specs.Fit.{FitLocal, FitOwn}
use Rattle.alone.specs.Moves.{moves, whole_of, Lines, Starts, lands, most_moves}
use Rattle.alone.specs.Left.{device_left}
use Rattle.alone.proofs.Rest.{step_of, go_is}
use Rattle.alone.proofs.Span.{Span, Spanned, GoesOn, step_spans, goes_spanned}
use Rattle.alone.proofs.Finish.{finish_is_whole, step_fit}
use Rattle.alone.proofs.Bound.{course_bound}
use Rattle.alone.proofs.Planned.{PlannedWork, Planned, planned}
use Rattle.alone.proofs.Lines.{device_lines, device_starts}
use Rattle.alone.proofs.Fit.{fit_part, fit_put}

-- "A port .. replies": a reply's bytes fit the room
abbrev pub ReplyFits : List ℕ → Type 0
ReplyFits reply = reply_fits (reply_of reply) ≡ true

-- what goes on is the same request, on the same device and block, and its numbers span; a reply fits
abbrev pub OutOn : Run → Out → Type 0
OutOn run (goes later) = (later.kind ≡ run.kind) × ((later.device ≡ run.device) × ((later.iocb ≡ run.iocb) × Spanned later))
OutOn run (ends reply) = ReplyFits reply

-- the area keeps its length
step_long : {D : Type 0} (H : Acts D) (kind : Kind) (run : Run) (area : List ℕ) (x : D) → length (step_of H kind run area x).area ≡ length area
step_long H (Get way) run area x = got_long way run (H.reads x).says area
step_long H (Put way) run area x = refl

out_on : (run : Run) (m : Next) → GoesOn run (way_in run.kind) m → OutOn run (out_of m)
out_on run (On later) g = (g.0, (g.1.0, (g.1.1.0, goes_spanned run later g)))
out_on run (Off status count a) g = call_reply_fits status count a

module _ {D : Type 0} (H : Asked → Acts D) (port iocb : ℕ) (left : D → ℕ) (Fit : D → Type 0) (Z : Lines (H (asks_on port iocb)) left Fit) where
  abbrev A : Acts D
  A = H (asks_on port iocb)

  pub record Kept (run : Run) (area : List ℕ) (w : Went D) : Type 0 where
    pub device : Fit w.device
    pub long : length w.area ≡ length area
    pub out : OutOn run w.out

  -- a move
  pub go_keeps : (run : Run) (area : List ℕ) (x : D) → Fit x → run.iocb ≡ iocb → Spanned run → Kept run area (advance_of H port run area x)
  unfolding advance_of
  go_keeps run area x f e h =
      let s = step_of A run.kind run area x in
      subst (λ (i : ℕ). Kept run area (go_of (H (asks_on port i)) run.kind run area x)) (sym e)
      (subst (Kept run area) (sym (go_is A run.kind run area x)) (record {
        device = step_fit A left Fit Z run.kind run area x f;
        long = step_long A run.kind run area x;
        out = out_on run s.next (step_spans run A area x h);
      }))

  -- so many moves
  pub record Held (area : List ℕ) (w : Went D) : Type 0 where
    pub device : Fit w.device
    pub long : length w.area ≡ length area

  moves_keep : (n : ℕ) (out : Out) (run : Run) (area : List ℕ) (x : D) → Fit x → run.iocb ≡ iocb → OutOn run out → Held area (moves H port n out area x)
  unfolding moves
  moves_keep zero out run area x f e h = record { device = f; long = refl }
  moves_keep (suc n) (goes later) run area x f e h =
      let i = h.1.1.0 ∙ e in
      let k = go_keeps later area x f i h.1.1.1 in
      let w = advance_of H port later area x in
      let r = moves_keep n w.out later w.area w.device k.device i k.out in
      record { device = r.device; long = r.long ∙ k.long }
  moves_keep (suc n) (ends reply) run area x f e h = record { device = f; long = refl }

  -- a transfer
  pub whole_keeps : (run : Run) (area : List ℕ) (x : D) → Fit x → run.iocb ≡ iocb → Spanned run → Held area (lands (whole_of A left run area x))
  whole_keeps run area x f e h =
      subst (Held area) (finish_is_whole H port iocb left Fit Z most_moves run area x f e h (course_bound A left Fit Z run area x f h))
      (moves_keep most_moves (goes run) run area x f e (refl, (refl, (refl, h))))

-- a CALL's reply has seven bytes, whatever they are
seven_fit : reply_fits (record { length = 7; given = 0 }) ≡ true
seven_fit = call_reply_fits 0 0 0

fit_block : (iocb : ℕ) (block : ControlBlock) (l : Local) → FitLocal l → made_of block ≡ true → FitLocal (with_own_block iocb block l)
fit_block iocb block l f m = record {
  area = f.area;
  eight = with_length l.table iocb block ∙ f.eight;
  made = with_made l.table iocb block f.made m;
}

-- only an OPEN opens its block, and with an AUX1 that its handler takes
pub after_made : (device : Device) (says : Done) (then : After) (number aux1 : ℕ) (before : ControlBlock) → made_of before ≡ true → within 1 (highest_of device) number ≡ true → offers_of device aux1 ≡ true
    → (says ≡ done.Success → then ≡ after.Stay → splits device aux1 ≡ false) → made_of (block_after says then (open_block device number aux1) before) ≡ true
after_made device done.Success after.Stay number aux1 before m n o s = open_is_made device number aux1 n o (s refl refl)
after_made device done.Success after.Status number aux1 before m n o s = m
after_made device done.Success after.Special number aux1 before m n o s = m
after_made device (done.Refused status) then number aux1 before m n o s = m

-- an opening, with what follows it
module _ {D : Type 0} (H : Asked → Acts D) (Before Fit : D → Type 0) (device : Device) (Y : Starts H Before Fit device) (asked : Asked) where
  then_fits : (then : After) (y : D) → Before y → Before (then_of (H asked) then y).leaves
  unfolding then_of
  then_fits after.Stay y b = b
  then_fits after.Status y b = Y.close_fit asked y b
  then_fits after.Special y b = Y.close_fit asked _ (Y.special_fit asked y b)

  by_fits : (then : After) (says : Done) (y : D) → Before y → Before (opened_by (H asked) then says y).leaves
  by_fits then done.Success y b = then_fits then y b
  by_fits then (done.Refused status) y b = b

  pub opened_fits : (then : After) (x : D) → Before x → Before (opened_of (H asked) then x).leaves
  unfolding opened_of
  opened_fits then x b = by_fits then ((H asked).opens x).says ((H asked).opens x).leaves (Y.open_fit asked x b)

  stay_says : (says : Done) (y : D) → (opened_by (H asked) after.Stay says y).says ≡ done.Success → says ≡ done.Success
  stay_says done.Success y e = refl
  stay_says (done.Refused status) y e = e

  pub opened_unsplit : (then : After) (x : D) → (opened_of (H asked) then x).says ≡ done.Success → then ≡ after.Stay → splits device asked.aux1 ≡ false
  unfolding opened_of
  opened_unsplit then x e s =
      let y = (H asked).opens x in
      Y.unsplit asked x (stay_says y.says y.leaves (subst (λ (t : After). (opened_by (H asked) t y.says y.leaves).says ≡ done.Success) s e))

module _ {D : Type 0} (H : Asked → Acts D) (left : D → ℕ) (Before Fit : D → Type 0) (device : Device) (Y : Starts H Before Fit device) where
  pub record FitOn (w : AloneOn D) : Type 0 where
    pub local : FitLocal w.local
    pub on : Before w.device
    pub reply : ReplyFits w.reply

  module _ (c : Call) (l : Local) (x : D) (Z : Lines (H (asks_on l.number c.iocb)) left Fit) (f : FitLocal l) (b : Before x) where
    opening_fit : (then : After) (number : ℕ) (name : Option (List ℕ)) → within 1 (highest_of device) number ≡ true → FitOn (alone_opening H left then number name device c l x)
    unfolding alone_opening
    opening_fit then number name n =
        let asked = asks_open l.number c.iocb number c.aux1 c.aux2 name in
        let y = opened_of (H asked) then x in
        choose_go FitOn (offers_of device c.aux1) _ _
        (λ o. record {
          local = fit_block c.iocb _ l f
              (after_made device y.says then number c.aux1 (block_at l.table c.iocb) (block_made l.table c.iocb f.made) n o (opened_unsplit H Before Fit device Y asked then x));
          on = opened_fits H Before Fit device Y asked then x b;
          reply = seven_fit;
        })
        (λ o. record { local = f; on = b; reply = seven_fit })

    abbrev asked : Asked
    asked = asks_on l.number c.iocb

    transfer_fit : (kind : Kind) → Span (way_in kind) c.length c.address 0 → FitOn (alone_transfer H left kind c l x)
    unfolding alone_transfer
    transfer_fit kind p = by ((H asked).prepares x).says ((H asked).prepares x).leaves (Y.prepare_fit asked x b) (Y.prepare_use asked x b)
      where
        by : (says : Done) (y : D) → Before y → (says ≡ done.Success → Fit y)
            → FitOn (on_done says (λ u. replying l (transferred (H asked) left c.a kind c.length c.address 0 l.area y)) (λ status. answered c l y status))
        by done.Success y o s =
            let k = whole_keeps H l.number c.iocb left Fit Z (run_of device kind c) l.area y (s refl) refl p in
            record { local = record { area = k.long ∙ f.area; eight = f.eight; made = f.made }; on = Y.used _ k.device; reply = seven_fit }
        by (done.Refused status) y o s = record { local = f; on = o; reply = seven_fit }

    work_fit : (w : Work) → PlannedWork w device c → FitOn (alone_work H left w device c l x)
    unfolding alone_work
    work_fit work.Close p = record { local = fit_block c.iocb closed_block l f refl; on = Y.close_fit asked x b; reply = seven_fit }
    work_fit work.Status p = record { local = f; on = b; reply = seven_fit }
    work_fit work.Special p = record { local = f; on = Y.special_fit asked x b; reply = seven_fit }
    work_fit (work.Open then number name) p = opening_fit then number name p
    work_fit (work.Transfer kind) p = transfer_fit kind p

loaded_long : (address : ℕ) (bytes area : List ℕ) → length (loaded address bytes area) ≡ length area
unfolding loaded
loaded_long address bytes area =
    choose_go (λ (s : List ℕ). length s ≡ length area) (load_fits address (length bytes)) _ _ (λ t. length-sets area address bytes) (λ t. refl)

pub record FitAlone (w : Alone) : Type 0 where
  pub local : FitLocal w.local
  pub groups : FitGroups w.groups
  pub reply : ReplyFits w.reply

errand_fit : (e : Errand) (bytes : List ℕ) (l : Local) (s : Groups) → FitLocal l → FitGroups s → FitAlone (alone_errand e bytes l s)
unfolding alone_errand
errand_fit (errand.Status status a) bytes l s f d = record { local = f; groups = d; reply = call_reply_fits status 0 a }
errand_fit (errand.Load address size) bytes l s f d = record {
  local = record { area = loaded_long address bytes l.area ∙ f.area; eight = f.eight; made = f.made };
  groups = d;
  reply = status_reply_fits 0x91 (load_status address (length bytes));
}
errand_fit (errand.Fetch address count) bytes l s f d = record { local = f; groups = d; reply = fetch_reply_fits l.area address count }
errand_fit (errand.Bad status) bytes l s f d = record { local = f; groups = d; reply = status_reply_fits 0xFF status }

call_fit : (q : Plan) (l : Local) (s : Groups) → FitLocal l → FitGroups s → Planned q → FitAlone (alone_plan q [] l s)
unfolding alone_plan
call_fit (plan.Free e) l s f d p = errand_fit e [] l s f d
call_fit (plan.On job) l s f d p =
    let own = job.device in
    let g = group_of own in
    let w = work_fit (device_acts own) (device_left own l.number job.call.iocb) (FitPart g) (FitOwn (owner_of own)) own (device_starts own) job.call l (get_group g s) (device_lines own l.number job.call.iocb) f (fit_part g s d) job.work p in
    record { local = w.local; groups = fit_put g s _ d w.on; reply = w.reply }

-- a request alone leaves nothing damaged
pub alone_keeps : (said : Said) (l : Local) (s : Groups) → FitLocal l → FitGroups s → FitAlone (alone_of said l s)
unfolding alone_of plan_of plan_in alone_plan
alone_keeps (call c) l s f d =
    let b = block_at l.table c.iocb in
    call_fit (call_plan c b l.area) l s f d (planned c b l.area)
alone_keeps (load address bytes) l s f d = errand_fit (errand.Load address (length bytes)) bytes l s f d
alone_keeps (fetch address count) l s f d = errand_fit (errand.Fetch address count) [] l s f d
alone_keeps (bad status) l s f d = errand_fit (errand.Bad status) [] l s f d
