-- A request by its start and its moves of one character (`cio`, `moves`), for the theorems; and what is asked of a handler for them.
-- Assumes nothing.
use Rattle.std.specs.Prelude.{◌≡◌, false, List, ◌∷◌, ℕ, zero, suc, ◌+◌, ◌≤◌, ◌<◌, length, get_or}
use Rattle.handler.specs.declared.Asked.{Asked}
use Rattle.handler.specs.declared.Done.TheVariants as done
use Rattle.handler.specs.Answer.{Gives, got_high}
use Rattle.handler.specs.Acts.{Acts, asks_on}
use Rattle.blocks.specs.declared.Device.{Device}
use Rattle.blocks.specs.declared.Run.{Run}
use Rattle.blocks.specs.Blocks.{block_at, with_block}
use Rattle.blocks.specs.Made.{splits}
use Rattle.replies.specs.Replies.{call_reply}
use Rattle.transfer.specs.Transfer.{eol, Out, goes, ends}
use Rattle.devices.specs.Groups.{Groups, get_group, group_of, device_acts}
use Rattle.plan.specs.declared.Job.{Job}
use Rattle.plan.specs.declared.Plan.{Plan}
use Rattle.plan.specs.declared.Plan.TheVariants as plan
use Rattle.moves.specs.Move.{Went, went, advance_of}
use Rattle.cio.specs.Start.{Begun, replied_with, errand_of, job_begun}
use Rattle.alone.specs.Transfer.{Point, point, TransferEnd, transferred}
use Rattle.alone.specs.Alone.{Local, with_area, Alone, AloneOn, put_back, alone_on_device}

-- "ends within 61,441 further ticks of its port"; "The bound of 61,441 becomes 89,876."
abbrev pub most_moves : ℕ
most_moves = 89876

-- so many moves, or fewer where the request ends: H its device's handler, port the number of the port that it runs at
unfoldable pub moves : {D : Type 0} → (Asked → Acts D) → (port : ℕ) → ℕ → Out → List ℕ → D → Went D
moves H port zero out area x = went area x out
moves H port (suc n) (goes run) area x = let w = advance_of H port run area x in moves H port n w.out w.area w.device
moves H port (suc n) (ends reply) area x = went area x (ends reply)

-- the whole of a running request's transfer, from where it stands
abbrev pub whole_of : {D : Type 0} → Acts D → (left : D → ℕ) → Run → List ℕ → D → TransferEnd D
whole_of H left run area x = transferred H left run.a run.kind run.left run.place run.count area x

-- Fit: the device is undamaged, and in use by this handler
pub record Lines {D : Type 0} (H : Acts D) (left : D → ℕ) (Fit : D → Type 0) : Type 0 where
  pub read_fit : (x : D) → Fit x → Fit (H.reads x).leaves
  pub write_fit : (byte : ℕ) (x : D) → Fit x → Fit (H.writes byte x).leaves
  -- a character that is not the EOL is one fewer to read
  pub falls : (x : D) (status byte : ℕ) → Fit x → Gives (H.reads x).says status byte → (byte ≡ eol → ⊥) → left x ≡ left (H.reads x).leaves + 1
  -- "A handler status from $80 ends the request"
  pub high : (x : D) → got_high (H.reads x).says
  -- a screen has at most 61,440 cells, a tape 32,000 characters, a file 89,875
  pub few : (x : D) → Fit x → left x < most_moves

-- Fit as above; Before: the device is undamaged; device: the handler's own
pub record Starts {D : Type 0} (H : Asked → Acts D) (Before Fit : D → Type 0) (device : Device) : Type 0 where
  pub open_fit : (asked : Asked) (x : D) → Before x → Before ((H asked).opens x).leaves
  -- an AUX1 that it opens with is one that some OPEN makes
  pub unsplit : (asked : Asked) (x : D) → ((H asked).opens x).says ≡ done.Success → splits device asked.aux1 ≡ false
  pub close_fit : (asked : Asked) (x : D) → Before x → Before ((H asked).closes x)
  pub special_fit : (asked : Asked) (x : D) → Before x → Before ((H asked).specials x).leaves
  pub prepare_fit : (asked : Asked) (x : D) → Before x → Before ((H asked).prepares x).leaves
  -- a transfer that is not refused at its start runs on a device in use
  pub prepare_use : (asked : Asked) (x : D) → Before x → ((H asked).prepares x).says ≡ done.Success → Fit ((H asked).prepares x).leaves
  pub used : (x : D) → Fit x → Before x

-- it runs, at this point of its course
pub record RunsAt {D : Type 0} (q : Point D) (w : Went D) : Type 0 where
  pub run : Run
  pub stands : w ≡ went q.area q.device (goes run)
  pub count : run.count ≡ q.count

module _ {D : Type 0} (H : Asked → Acts D) (port : ℕ) where
  -- a request that stands here, with so many counted, goes through this course and comes to w
  pub record Comes (out : Out) (area : List ℕ) (x : D) (count : ℕ) (course : List (Point D)) (w : Went D) : Type 0 where
    -- as many moves as it has characters, or more, come to its end
    pub over : (n : ℕ) → length course ≤ n → moves H port n out area x ≡ w
    -- after j moves, fewer than that, area, device and count are those of its first j characters, and it runs
    pub runs : (j : ℕ) (d : Point D) → j < length course → RunsAt (get_or (point area x count ∷ course) j d) (moves H port j out area x)
    pub bound : length course ≤ most_moves

-- the transfer's end, with the request's reply
abbrev pub lands : {D : Type 0} → TransferEnd D → Went D
lands r = went r.area r.device (ends (call_reply r.status r.count r.a))

-- a running request comes through its transfer's course to its end
abbrev pub Finishes : {D : Type 0} → (Asked → Acts D) → (port : ℕ) → (left : D → ℕ) → Run → List ℕ → D → Type 0
Finishes H port left run area x =
    let r = whole_of (H (asks_on port run.iocb)) left run area x in
    Comes H port (goes run) area x run.count r.course (lands r)

-- a request on its device, from what its start left, is the request alone
pub record Ends {D : Type 0} (H : Asked → Acts D) (iocb : ℕ) (b : Begun D) (l : Local) (w : AloneOn D) : Type 0 where
  pub number : l.number ≡ w.local.number
  pub table : with_block l.table iocb b.block ≡ w.local.table
  pub comes : Comes H l.number b.out l.area b.device 0 w.course (went w.local.area w.device (ends w.reply))

-- all but transfers, as cio's start does it
abbrev pub begun_by : {D : Type 0} → (Asked → Acts D) → Job → Local → D → Begun D
begun_by H job l x = job_begun H l.number job (block_at l.table job.call.iocb) x

abbrev pub JobEnds : {D : Type 0} → (Asked → Acts D) → Job → Local → D → AloneOn D → Type 0
JobEnds H job l x w = Ends H job.call.iocb (begun_by H job l x) l w

-- a request by its plan: what needs no group ends in its start; what works on a device leaves the other groups as they were
abbrev pub IsAlone : Plan → (room : List ℕ) → Local → Groups → Alone → Type 0
IsAlone (plan.Free e) room l s w =
    (errand_of e room l.area ≡ replied_with w.reply room w.local.area) × ((w.local ≡ with_area w.local.area l) × (w.groups ≡ s))
IsAlone (plan.On job) room l s w =
    let g = group_of job.device in
    let v = alone_on_device job l s in
    JobEnds (device_acts job.device) job l (get_group g s) v × (w ≡ put_back g s v)
