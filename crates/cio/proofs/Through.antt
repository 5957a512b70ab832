-- A start over a whole, by a handler that takes its part out and puts it back, is the start of the part, put back.
-- Assumes nothing.
use mathlib.Core.List.{List}
use mathlib.Core.Path.{◌≡◌, ◌∙◌, refl, sym, ap}
use mathlib.Core.Bool.{Bool, true, false}
use Prim.Native.Nat.{ℕ}
use Rattle.std.specs.Prelude.{Option}
use Rattle.handler.specs.declared.Asked.{Asked}
use Rattle.handler.specs.declared.Done.{Done}
use Rattle.handler.specs.declared.Done.TheVariants as done
use Rattle.handler.specs.Answer.{Answer, answer, seen, done_status}
use Rattle.handler.specs.Acts.{Acts, asks_open, asks_on, through}
use Rattle.blocks.specs.declared.Device.{Device}
use Rattle.blocks.specs.declared.ControlBlock.{ControlBlock}
use Rattle.blocks.specs.Blocks.{open_block}
use Rattle.blocks.specs.Opening.{offers_of}
use Rattle.wire.specs.declared.Call.{Call}
use Rattle.plan.specs.declared.After.{After}
use Rattle.plan.specs.declared.After.TheVariants as after
use Rattle.plan.specs.declared.Work.{Work}
use Rattle.plan.specs.declared.Work.TheVariants as work
use Rattle.cio.specs.Start.{Begun, begun, over, then_of, opened_by, opened_of, block_after, opening_of, transfer_of, work_of}

abbrev pub seen_begun : {D E : Type 0} → (D → E) → Begun D → Begun E
seen_begun f b = begun b.block (f b.device) b.out

module _ {D E : Type 0} (get : E → D) (put : E → D → E) where
  -- of a whole whose part put back is itself, and where the later of two parts put back stays
  module _ (s : E) (still : put s (get s) ≡ s) (later : (x y : D) → put (put s x) y ≡ put s y) where
    -- what is put back is got
    abbrev Got-back : D → Type 0
    Got-back y = get (put s y) ≡ y

    then_through : (A : Acts D) (then : After) (y : D) → Got-back y → Got-back (A.specials y).leaves → then_of (through get put A) then (put s y) ≡ seen (put s) (then_of A then y)
    unfolding then_of
    then_through A after.Stay y b c = refl
    then_through A after.Status y b c = ap (λ (x : D). answer (A.statuses x) (put (put s y) (A.closes x))) b ∙ ap (answer (A.statuses y)) (later y (A.closes y))
    then_through A after.Special y b c =
        let z = A.specials y in
        ap (λ (x : D). let w = A.specials x in answer w.says (put (put (put s y) w.leaves) (A.closes (get (put (put s y) w.leaves))))) b
        ∙ ap (λ (t : E). answer z.says (put t (A.closes (get t)))) (later y z.leaves)
        ∙ ap (λ (x : D). answer z.says (put (put s z.leaves) (A.closes x))) c
        ∙ ap (answer z.says) (later z.leaves (A.closes z.leaves))

    opened_by_lem : (A : Acts D) (then : After) (says : Done) (y : D) → Got-back y → Got-back (A.specials y).leaves
        → opened_by (through get put A) then says (put s y) ≡ seen (put s) (opened_by A then says y)
    opened_by_lem A then done.Success y b c = then_through A then y b c
    opened_by_lem A then (done.Refused status) y b c = refl

    pub opened_through : (A : Acts D) (then : After) → let y = (A.opens (get s)).leaves in
        Got-back y → Got-back (A.specials y).leaves → opened_of (through get put A) then s ≡ seen (put s) (opened_of A then (get s))
    unfolding opened_of
    opened_through A then b c = opened_by_lem A then (A.opens (get s)).says (A.opens (get s)).leaves b c

    module _ (H : Asked → Acts D) (port : ℕ) (device : Device) (call : Call) (b : ControlBlock) where
      abbrev whole : Asked → Acts E
      whole asked = through get put (H asked)

      -- an opening's own, and what SPECIAL makes of it, are got back
      abbrev pub Opens : ℕ → Option (List ℕ) → Type 0
      Opens number name =
          let A = H (asks_open port call.iocb number call.aux1 call.aux2 name) in
          let y = (A.opens (get s)).leaves in
          Got-back y × Got-back (A.specials y).leaves

      open_through : (then : After) (number : ℕ) (name : Option (List ℕ)) (o : Bool) → o ≡ offers_of device call.aux1 → Opens number name
          → opening_of whole port then number name device call b s ≡ seen_begun (put s) (opening_of H port then number name device call b (get s))
      unfolding opening_of
      open_through then number name true e k =
          let A = H (asks_open port call.iocb number call.aux1 call.aux2 name) in
          rw (← e)
          (ap (λ (y : Answer Done E). over call (block_after y.says then (open_block device number call.aux1) b) y.leaves (done_status y.says)) (opened_through A then k.0 k.1))
      open_through then number name false e k = rw (← e) (ap (λ (t : E). over call b t 0x84) (sym still))

      -- a start needs that only where it opens
      abbrev pub Starting : Work → Type 0
      Starting work.Close = Unit {0}
      Starting work.Status = Unit {0}
      Starting work.Special = Unit {0}
      Starting (work.Open then number name) = Opens number name
      Starting (work.Transfer kind) = Unit {0}

      pub work_through : (w : Work) → Starting w → work_of whole port w device call b s ≡ seen_begun (put s) (work_of H port w device call b (get s))
      unfolding work_of transfer_of
      work_through work.Close k = refl
      work_through work.Status k = ap (λ (t : E). over call b t (done_status ((H (asks_on port call.iocb)).statuses (get s)))) (sym still)
      work_through work.Special k = refl
      work_through (work.Open then number name) k = open_through then number name (offers_of device call.aux1) refl k
      work_through (work.Transfer kind) k = refl
