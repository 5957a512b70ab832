-- Not vacuous: one computed run of the functions, in calls that their own claims tell of. A fresh start over zeros gives 0; a
-- call that is lent no paper is answered 2, and one of port 2 is answered 1; then both ports are busy and a key is pressed, and
-- the answers 0 and 4 to 8 all come. It meets every premise, so the demands speak of it.
-- Assumes nothing.
use mathlib.Core.Path.{◌≡◌, refl, sym, ◌∙◌, ap, subst}
use mathlib.Core.List.{[]}
use Prim.Native.Nat.{ℕ, ◌*◌}
use native.Mathlib.Omega.{arith}
use lib.ListN.{replicate, length-replicate}
use Rattle.printer.specs.Printer.{paper_length}
use Rattle.image.specs.Image.{images_length}
use Rattle.records.specs.Records.{tape_length}
use Rattle.blocks.specs.Opening.{area_length}
use Rattle.layout.specs.Places.{state_length}
use Rattle.layout.specs.Stick.{fresh_stick}
use Rattle.calls.specs.Stick.{screen_length}
use Rattle.calls.specs.Calls.{fresh_lent}
use Rattle.calls.specs.Bytes.{Buffers, buffers, stick_by, lent_by}
use Rattle.calls.specs.Parts.{Lengths}
use Rattle.serial.specs.Machine.{port-0, port-1}
use Rattle.serial.specs.Core.{Phase, gathering, Quiet, View, phase_at}
use Rattle.serial.specs.Calls.{core_of}
use Rattle.serial.specs.Run.{State, OkCalls, Begun, after, begin}
use Rattle.serial.specs.Demand3.{Finished, whole_of, serial}
use Rattle.serial.proofs.Runs.{reached_first}
use Rattle.serial.proofs.Follows.{run_is, answers_is}
use Rattle.serial.proofs.Tested.{answers}
use Rattle.machine.specs.Spells.{nothing_yet}
use Rattle.machine.specs.Real.{real}
use Rattle.machine.specs.Sticks.{view_of}
use Rattle.machine.proofs.Plugged.{zeros, first, ok_by}
use Rattle.machine.proofs.Busy.{busy_calls, busy_numbers, machine_end, busy_given, machine_answers, machine_used, machine_0, machine_1, machine_given}
use Rattle.demands.specs.Bytes.{stands_for, bytes, SoundBuffers}
use Rattle.demands.specs.Told.{lends, leaves, FreshCall, any_fresh, any_take, any_tick, not_lent, lent_on, Aside, RunByC, above, aside}
use Rattle.demands.specs.Demands.{Linked}
use Rattle.demands.proofs.Bytes.{lent_lengths, bytes_follow, always_undamaged, started_stands}
use Rattle.demands.proofs.Told.{exact}
use Rattle.demands.proofs.Made.{fresh_call_lem, take_call_lem, tick_call_lem, can_run}
use Rattle.demands.proofs.Run.{after_fresh, run_begins, two_same, aside_same}
use Rattle.demands.proofs.Demands.{demands}

abbrev pub zero_bytes : Buffers
zero_bytes = buffers (replicate state_length 0) zeros.area zeros.screen zeros.paper zeros.tape zeros.images

zeros_fitting : Lengths zero_bytes
zeros_fitting = record {
  long = length-replicate {A = ℕ} state_length 0;
  halves = length-replicate {A = ℕ} (2 * area_length) 0;
  whole = record { all = length-replicate {A = ℕ} screen_length 0 };
  sheet = length-replicate {A = ℕ} paper_length 0;
  reel = length-replicate {A = ℕ} tape_length 0;
  four = length-replicate {A = ℕ} images_length 0;
}

busy_ok : OkCalls real busy_calls
busy_ok = ok_by busy_calls tt

quiet : (x : Phase real) → x ≡ gathering nothing_yet → Quiet real x
quiet x e = subst (Quiet real) (sym e) tt

-- a call of port 2
above_one : (b : Buffers) → SoundBuffers b → (leaves (take_call_lem b 2 0)).number ≡ 1
above_one b g =
    ((exact (any_take (take_call_lem b 2 0))).stick g.lengths g.stands).first.above.1
    (record { sound = record { lengths = lent_lengths b g.lengths; fits = g.fits }; above = omega arith })

-- a call that is lent no paper, and what is there after it: the other buffers as it left them, and the paper that was not lent
abbrev torn : Buffers → Buffers
torn b = buffers b.state b.area b.screen [] b.tape b.images

abbrev mended : Buffers → Buffers
mended b = let e = (leaves (tick_call_lem (torn b) 0)).buffers in buffers e.state e.area e.screen b.paper e.tape e.images

torn_two : (b : Buffers) → (leaves (tick_call_lem (torn b) 0)).number ≡ 2
torn_two b = (exact (any_tick (tick_call_lem (torn b) 0))).lengths.1 (λ f. let e : 0 ≡ paper_length = f.sheet in omega arith)

torn_aside : (b : Buffers) → Aside b (torn b) (leaves (tick_call_lem (torn b) 0)).buffers (mended b)
torn_aside b = record { state = lent_on refl; area = lent_on refl; screen = lent_on refl; paper = not_lent; tape = lent_on refl; images = lent_on refl }

mended_same : (b : Buffers) → mended b ≡ b
mended_same b = aside_same (two_same (any_tick (tick_call_lem (torn b) 0)) (torn_two b)) (torn_aside b)

-- such a fresh start
pub can_start : (o : FreshCall) × (lends o ≡ zero_bytes)
can_start = (fresh_call_lem zero_bytes, refl)

module _ (o : FreshCall) (e : lends o ≡ zero_bytes) where
  pub start_gives_0 : (leaves o).number ≡ 0
  start_gives_0 = (exact (any_fresh o)).done.1 (subst Lengths (sym e) zeros_fitting)

  abbrev start : Buffers
  start = (leaves o).buffers

  start_begins : Begun real bytes start
  start_begins = run_begins o start_gives_0

  start_seen : view_of (stands_for start) ≡ first
  start_seen =
      sym (ap view_of (started_stands start (after_fresh o start_gives_0)))
      ∙ ap (λ (b : Buffers). view_of (record { stick = fresh_stick; buffers = fresh_lent (lent_by b) })) e

  -- "each is given exactly then"
  pub busy_answers : answers real bytes busy_calls start ≡ busy_numbers
  busy_answers =
      answers_is real bytes bytes_follow busy_calls start (reached_first real bytes start start_begins) busy_ok
      ∙ ap (λ (v : View real). answers real (core_of real) busy_calls v) start_seen ∙ machine_answers

  abbrev pub busy_end : State real bytes
  busy_end = after real bytes busy_calls (begin real bytes start)

  end_is : record { world = view_of (stands_for busy_end.world); seen = busy_end.seen } ≡ machine_end
  end_is =
      run_is real bytes bytes_follow start start_begins busy_calls busy_ok
      ∙ ap (λ (v : View real). after real (core_of real) busy_calls (begin real (core_of real) v)) start_seen

  -- two characters and one on the paper
  pub busy_used : (stick_by busy_end.world).devices.printer.used ≡ 3
  busy_used = ap (λ (s : State real (core_of real)). s.world.devs.printer.used) end_is ∙ machine_used

  -- port 1 was given the key's character, and its own counts
  pub busy_given_lem : busy_end.seen.port.first.given ≡ busy_given
  busy_given_lem = ap (λ (s : State real (core_of real)). s.seen.port.first.given) end_is ∙ machine_given

  -- "every started request finished", so demand 3 speaks of it
  pub busy_finished : Finished real bytes busy_end
  busy_finished = (
    quiet _ (ap (λ (s : State real (core_of real)). phase_at real port-0 s.world) end_is ∙ machine_0),
    quiet _ (ap (λ (s : State real (core_of real)). phase_at real port-1 s.world) end_is ∙ machine_1),
  )

  pub busy_serial : whole_of real bytes busy_end ≡ serial real busy_end.seen.log (whole_of real bytes (begin real bytes start))
  busy_serial = demands.demand3.as_serial start start_begins busy_calls busy_ok busy_finished

  -- the same run as calls of the functions, one answered 2 and one answered 1 before it
  mended_sound : SoundBuffers (mended start)
  mended_sound =
      subst SoundBuffers (sym (mended_same start)) (always_undamaged start (reached_first real bytes start start_begins))

  pub busy_run : (b : Buffers) × RunByC start busy_calls b
  busy_run =
      let a = take_call_lem (mended start) 2 0 in
      let r = can_run busy_calls (leaves a).buffers in
      let rest = above (any_take a) (above_one (mended start) mended_sound) r.1 in
      (r.0, aside (any_tick (tick_call_lem (torn start) 0)) (torn_two start) (torn_aside start) rest)

  pub busy_linked : (b : Buffers) → RunByC start busy_calls b → Linked o busy_calls b
  busy_linked b r = demands.link o start_gives_0 busy_calls busy_ok b r
