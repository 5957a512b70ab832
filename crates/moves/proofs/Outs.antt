-- What becomes of a request after a character is always what an answer stands for, so that a move's promise allows an outcome.
-- Assumes nothing.
use mathlib.Core.Path.{◌≡◌, ◌∙◌, ap}
use mathlib.Core.List.{List}
use Prim.Native.Nat.{ℕ}
use Rattle.handler.specs.declared.Asked.{Asked}
use Rattle.handler.specs.Acts.{Acts, asks_on}
use Rattle.blocks.specs.declared.Kind.{Kind}
use Rattle.blocks.specs.declared.Kind.TheVariants.{Get, Put}
use Rattle.blocks.specs.declared.Run.{Run}
use Rattle.transfer.specs.declared.Next.{Next}
use Rattle.transfer.specs.Transfer.{next_of, Out, out_of, got_of, sent_byte, sent_of}
use Rattle.transfer.proofs.Outs.{next_in, next_in_lem, carried_in, got_same, sent_same}
use Rattle.moves.specs.Move.{went, go_of, get_of, put_of, advance_of}

-- what the code carried stands for it
abbrev carried_out : Run → Out → Out
carried_out run out = out_of (next_of run (carried_in (next_in out)))

carried_out_lem : (run : Run) (next : Next) → next_of run (carried_in next) ≡ next → carried_out run (out_of next) ≡ out_of next
carried_out_lem run next same = ap (λ (n : Next). out_of (next_of run (carried_in n))) (next_in_lem next) ∙ ap out_of same

go_stands : {D : Type 0} (A : Acts D) (kind : Kind) (run : Run) (area : List ℕ) (x : D)
    → let out = (go_of A kind run area x).out in
    carried_out run out ≡ out
unfolding go_of get_of put_of
go_stands A (Get way) run area x =
    let says = (A.reads x).says in
    carried_out_lem run (got_of way run says area).next (got_same run way says area)
go_stands A (Put way) run area x =
    let byte = sent_byte way run area in
    let says = (A.writes byte x).says in
    carried_out_lem run (sent_of way run byte says) (sent_same run way byte says)

pub advance_allowed : {D : Type 0} (H : Asked → Acts D) (port : ℕ) (run : Run) (area : List ℕ) (x : D)
    → let w = advance_of H port run area x in
    went w.area w.device (out_of (next_of run (carried_in (next_in w.out)))) ≡ w
unfolding advance_of
advance_allowed H port run area x =
    let w = advance_of H port run area x in
    ap (λ (out : Out). went w.area w.device out) (go_stands (H (asks_on port run.iocb)) run.kind run area x)
