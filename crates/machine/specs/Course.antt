-- Demand 2, "Once started, it moves one character a tick": after k later ticks, and no other call, all is as after the first k
-- characters of the request alone; as many later ticks as it has characters, one of them refused or not, and it has ended.
-- Assumes nothing.
use Rattle.std.specs.Prelude.{◌≡◌, ℕ, suc, ◌≤◌, ◌<◌, length, get_or}
use Rattle.handler.specs.Acts.{asks_on}
use Rattle.blocks.specs.declared.Run.{Run}
use Rattle.devices.specs.declared.Group.{Group}
use Rattle.devices.specs.Groups.{Part, get_group, group_of, device_acts}
use Rattle.plan.specs.declared.Plan.{Plan}
use Rattle.plan.specs.declared.Plan.TheVariants as plan
use Rattle.plan.specs.Plan.{plan_of}
use Rattle.alone.specs.Transfer.{Point, point}
use Rattle.alone.specs.Alone.{Said, asked_of, with_area, AloneOn, alone_on_device, alone_of}
use Rattle.alone.specs.Moves.{most_moves}
use Rattle.serial.specs.Machine.{PortName, goes, ends}
use Rattle.serial.specs.Core.{ready, replying, View, phase_at, local_at, Core}
use Rattle.serial.specs.Calls.{landed}
use Rattle.serial.specs.Run.{Reached}
use Rattle.serial.specs.Demand2.{Waits, ticked}
use Rattle.machine.specs.Real.{reply_by, real}

-- the request still runs: its port's data and its device are those of this point, and so is its count; all else is as before
pub record StandsAt (p : PortName) (g : Group) (a : AloneOn (Part g)) (q : Point (Part g)) (before now : View real) : Type 0 where
  pub run : Run
  pub stands : now ≡ landed real p g (record { local = with_area q.area a.local; dev = q.device; out = goes run }) before
  pub counted : run.count ≡ q.count

module _ (C : Core real) where
  -- what is seen after the start tick and k later ticks of the port, and no other call
  abbrev pub later : ℕ → PortName → C.World → View real
  later k p w = C.see (ticked real C (suc k) p w)

  -- a request on its device, of which a is the request alone, and x the device before its first character
  pub record OnCourse (w : C.World) (p : PortName) (g : Group) (x : Part g) (a : AloneOn (Part g)) : Type 0 where
    -- the start moves no character
    pub begins : 0 < length a.course → StandsAt p g a (point (local_at real p (C.see w)).area x 0) (C.see w) (later 0 p w)
    -- "Each later tick moves one character or meets one handler refusal."
    pub goes_on : (k : ℕ) (q : Point (Part g)) → suc k < length a.course → StandsAt p g a (get_or a.course k q) (C.see w) (later (suc k) p w)
    -- "The last tick makes the reply and frees the group."
    pub ends : (n : ℕ) → length a.course ≤ n → later n p w ≡ landed real p g (record { local = a.local; dev = a.device; out = ends (reply_by a.reply) }) (C.see w)
    -- "and ends within 61,441 further ticks of its port", now 89,876
    pub bound : length a.course ≤ most_moves

  -- by what the request comes to: what needs no device is ended by its start
  abbrev pub CourseOf : C.World → PortName → Said → Plan → Type 0
  CourseOf w p m (plan.Free e) = let v = C.see w in phase_at real p (later 0 p w) ≡ replying (reply_by (alone_of m (local_at real p v) v.devs).reply)
  CourseOf w p m (plan.On job) =
      let v = C.see w in
      let l = local_at real p v in
      let g = group_of job.device in
      OnCourse w p g ((device_acts job.device (asks_on l.number job.call.iocb)).prepares (get_group g v.devs)).leaves (alone_on_device job l v.devs)

  abbrev pub CourseRule : Type 0
  CourseRule = (w : C.World) → Reached real C w → (p : PortName) (m : Said) → phase_at real p (C.see w) ≡ ready m → (Waits real p m (C.see w) → ⊥)
      → let l = local_at real p (C.see w) in
      CourseOf w p m (plan_of (asked_of m) l.table l.area)
