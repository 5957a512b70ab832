-- A start and a move leave the lengths of the half and of the room as they were.
-- Assumes nothing.
use mathlib.Core.Path.{◌≡◌, refl}
use mathlib.Core.List.{List}
use Prim.Native.Nat.{ℕ}
use lib.ListN.{length}
use lib.Seq.{length-sets}
use Rattle.base.proofs.Choices.{choose_go}
use Rattle.handler.specs.declared.Asked.{Asked}
use Rattle.handler.specs.Acts.{Acts, asks_on}
use Rattle.blocks.specs.declared.Kind.{Kind}
use Rattle.blocks.specs.declared.Kind.TheVariants.{Get, Put}
use Rattle.blocks.specs.declared.Run.{Run}
use Rattle.replies.specs.Replies.{bytes_at, call_reply, status_reply, fetch_reply}
use Rattle.plan.specs.declared.Errand.{Errand}
use Rattle.plan.specs.declared.Errand.TheVariants as errand
use Rattle.transfer.specs.Transfer.{Out, goes, ends, landed}
use Rattle.transfer.proofs.Transfers.{got_long}
use Rattle.moves.specs.Move.{get_of, put_of, go_of, advance_of}
use Rattle.cio.specs.Start.{load_fits, load_status, loaded_of, load_of, errand_of}

pub go_long : {D : Type 0} (A : Acts D) (kind : Kind) (run : Run) (area : List ℕ) (x : D) → length (go_of A kind run area x).area ≡ length area
unfolding go_of get_of put_of
go_long A (Get way) run area x = got_long way run (A.reads x).says area
go_long A (Put way) run area x = refl

pub advance_long : {D : Type 0} (H : Asked → Acts D) (port : ℕ) (run : Run) (area : List ℕ) (x : D) → length (advance_of H port run area x).area ≡ length area
unfolding advance_of
advance_long H port run area x = go_long (H (asks_on port run.iocb)) run.kind run area x

pub landed_long : (out : Out) (room : List ℕ) → length (landed out room).room ≡ length room
landed_long (goes run) room = refl
landed_long (ends reply) room = length-sets room 0 reply

loaded_long : (address size : ℕ) (room half : List ℕ) → length (loaded_of address size room half) ≡ length half
unfolding loaded_of
loaded_long address size room half =
    choose_go (λ (x : List ℕ). length x ≡ length half) (load_fits address size) (λ u. _) (λ u. half) (λ e. length-sets half address (bytes_at room 2 size)) (λ e. refl)

pub errand_half : (e : Errand) (room half : List ℕ) → length (errand_of e room half).area ≡ length half
unfolding errand_of load_of
errand_half (errand.Status status a) room half = refl
errand_half (errand.Load address size) room half = loaded_long address size room half
errand_half (errand.Fetch address count) room half = refl
errand_half (errand.Bad status) room half = refl

pub errand_room : (e : Errand) (room half : List ℕ) → length (errand_of e room half).port.room ≡ length room
unfolding errand_of load_of
errand_room (errand.Status status a) room half = landed_long (ends (call_reply status 0 a)) room
errand_room (errand.Load address size) room half = landed_long (ends (status_reply 0x91 (load_status address size))) room
errand_room (errand.Fetch address count) room half = landed_long (ends (fetch_reply half address count)) room
errand_room (errand.Bad status) room half = landed_long (ends (status_reply 0xFF status)) room
