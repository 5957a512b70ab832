-- Document 01: "Each later tick moves one character or meets one handler refusal."
-- Assumes nothing.
use Rattle.std.specs.Prelude.{List, ℕ}
use Rattle.handler.specs.declared.Asked.{Asked}
use Rattle.handler.specs.Acts.{Acts, asks_on}
use Rattle.blocks.specs.declared.Kind.{Kind}
use Rattle.blocks.specs.declared.Kind.TheVariants.{Get, Put}
use Rattle.blocks.specs.declared.Way.{Way}
use Rattle.blocks.specs.declared.Run.{Run}
use Rattle.transfer.specs.Transfer.{Out, out_of, InPort, landed, got_of, sent_byte, sent_of}

-- the area, the device, and what becomes of the request
pub record Went (D : Type 0) : Type 0 where
  pub area : List ℕ
  pub device : D
  pub out : Out

abbrev pub went : {D : Type 0} → List ℕ → D → Out → Went D
went area device out = record { area = area; device = device; out = out }

unfoldable pub get_of : {D : Type 0} → Acts D → Way → Run → List ℕ → D → Went D
get_of H way run area x =
    let y = H.reads x in
    let p = got_of way run y.says area in
    went p.area y.leaves (out_of p.next)

unfoldable pub put_of : {D : Type 0} → Acts D → Way → Run → List ℕ → D → Went D
put_of H way run area x =
    let byte = sent_byte way run area in
    let y = H.writes byte x in
    went area y.leaves (out_of (sent_of way run byte y.says))

unfoldable pub go_of : {D : Type 0} → Acts D → Kind → Run → List ℕ → D → Went D
go_of H (Get way) run area x = get_of H way run area x
go_of H (Put way) run area x = put_of H way run area x

-- a running request's next character: H its device's handler, port the number of the port that it runs at
unfoldable pub advance_of : {D : Type 0} → (Asked → Acts D) → (port : ℕ) → Run → List ℕ → D → Went D
advance_of H port run area x = go_of (H (asks_on port run.iocb)) run.kind run area x

-- the same in the port's phase and room
pub record Moved (D : Type 0) : Type 0 where
  pub area : List ℕ
  pub device : D
  pub port : InPort

abbrev pub moved : {D : Type 0} → List ℕ → D → InPort → Moved D
moved area device port = record { area = area; device = device; port = port }

abbrev pub move_in : {D : Type 0} → List ℕ → Went D → Moved D
move_in room w = moved w.area w.device (landed w.out room)

abbrev pub move_of : {D : Type 0} → (Asked → Acts D) → (port : ℕ) → Run → List ℕ → D → (room : List ℕ) → Moved D
move_of H port run area x room = move_in room (advance_of H port run area x)
