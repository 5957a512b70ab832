-- A phase judged from its bytes stands and fits, where its port's table stands.
-- Assumes nothing.
use mathlib.Core.Path.{◌≡◌, ◌∙◌, refl, sym, ap}
use mathlib.Core.Bool.{Bool, true, false}
use mathlib.Core.List.{List}
use Prim.Native.Nat.{ℕ, ◌+◌, ◌*◌, ◌≤◌, ◌<◌}
use native.Mathlib.Omega.{arith}
use borrow.Author.Tests.{eq-eqb, ne_eqb, lt-ltb, le-ltb, ltb-true, leb-true}
use lib.Dec.{eqb, leb, ltb}
use lib.ListN.{drop}
use lib.Seq.{get_or-drop}
use Rattle.base.specs.Choice.{pick, and, within}
use Rattle.base.proofs.Choices.{and_left, and_right, by_eq, by_lt, by_test}
use Rattle.blocks.specs.declared.Run.{Run}
use Rattle.blocks.specs.declared.ControlBlock.{ControlBlock}
use Rattle.blocks.specs.declared.Phase.{Phase}
use Rattle.blocks.specs.declared.Phase.TheVariants.{Gathering, Ready, Running, Replying}
use Rattle.blocks.specs.declared.Table.{Table}
use Rattle.blocks.specs.declared.Port.{Port}
use Rattle.blocks.specs.Blocks.{block_at}
use Rattle.blocks.specs.Opening.{area_length, letter_of}
use Rattle.blocks.specs.Made.{table_made}
use Rattle.console.specs.declared.state.Console.{Console}
use Rattle.wire.specs.Messages.{word_at}
use Rattle.wire.specs.Fits.{reply_fits}
use Rattle.transfer.specs.Spans.{span_fits}
use Rattle.damage.specs.Fits.{allows, open_for, in_use, spans, run_fits, phase_fits, port_fits}
use Rattle.layout.specs.Places.{phase_length, block_length}
use Rattle.layout.specs.Layout.{byte_at, device_in, kind_in, block_of, table_in, reply_in, run_in, phase_in, port_in}
use Rattle.layout.specs.Stands.{block_stands, table_stands, unused, run_stands, phase_stands, port_stands}
use Rattle.layout.proofs.Tables.{block_there}
use Rattle.damage.specs.Whole.{gather_whole, ready_whole, reply_whole, direction_whole, opened_whole, mode_whole, some_left, buffer_whole, span_whole, run_whole, phase_whole, port_whole, console_with}
use Rattle.damage.proofs.Ands as ands
use Rattle.damage.proofs.Marks.{all_marked}
use Rattle.damage.proofs.Placed.{all_placed}
use Rattle.damage.proofs.Tables.{by_six, table_is, stands_each}

directed_is : (kind aux1 : ℕ) → direction_whole kind aux1 ≡ allows (kind_in kind) aux1
unfolding direction_whole kind_in
directed_is kind aux1 =
    by_eq kind 0 (λ z. rw z)
    (λ n0. by_eq kind 1 (λ z. rw z)
    (λ n1. by_eq kind 2 (λ z. rw z)
    (λ n2.
    let l : 3 ≤ kind = omega arith in
    by_eq kind 3 (λ z. rw z)
    (λ n3. by_eq kind 4 (λ z. rw z)
    (λ n4. rw (le-ltb kind 3 l, ne_eqb kind 0 n0, ne_eqb kind 1 n1, ne_eqb kind 2 n2, ne_eqb kind 3 n3, ne_eqb kind 4 n4))))))

used_is : (device mode : ℕ) → mode_whole device mode ≡ in_use (device_in device) mode
unfolding mode_whole device_in
used_is device mode =
    by_eq device 1 (λ z. rw z)
    (λ n1. by_eq device 2 (λ z. rw z)
    (λ n2. by_eq device 3 (λ z. rw z)
    (λ n3. by_eq device 4 (λ z. rw z)
    (λ n4. by_eq device 5 (λ z. rw z)
    (λ n5. rw (ne_eqb device 1 n1, ne_eqb device 2 n2, ne_eqb device 3 n3, ne_eqb device 4 n4, ne_eqb device 5 n5))))))

-- something left, or left and counted together
pick_self : (t : Bool) → pick t true false ≡ t
pick_self true = refl
pick_self false = refl

sum_some : (left count : ℕ) → pick (ltb 0 left) true (ltb 0 count) ≡ ltb 0 (left + count)
sum_some left count =
    by_eq left 0 (λ z. rw z (ap (ltb 0) (let e : count ≡ 0 + count = omega arith in e)))
    (λ n. let p : 0 < left = omega arith in let q : 0 < left + count = omega arith in rw (lt-ltb 0 left p, lt-ltb 0 (left + count) q))

span_is : (kind : ℕ) (run : Run) → span_whole kind run.left run.place run.count ≡ spans (kind_in kind) run
unfolding span_whole buffer_whole some_left kind_in span_fits
span_is kind run =
    let rest = and (leb (run.place + run.left) area_length) (leb run.count run.place) in
    let alone = ap (λ (t : Bool). and t rest) (pick_self (ltb 0 run.left)) in
    let summed = ap (λ (t : Bool). and t rest) (sum_some run.left run.count) in
    by_eq kind 0 (λ z. rw z)
    (λ n0. by_eq kind 1 (λ z. rw z alone)
    (λ n1. by_eq kind 2 (λ z. rw z summed)
    (λ n2. by_eq kind 3 (λ z. rw z)
    (λ n3. by_eq kind 4 (λ z. rw z alone)
    (λ n4. rw (ne_eqb kind 0 n0, ne_eqb kind 1 n1, ne_eqb kind 2 n2, ne_eqb kind 3 n3, ne_eqb kind 4 n4) summed)))))

abbrev Lettered : ℕ → ℕ → Type 0
Lettered m n = eqb n m ≡ eqb (letter_of (device_in m)) (letter_of (device_in n))

letters : (m n : ℕ) → 1 ≤ m → m ≤ 6 → 1 ≤ n → n ≤ 6 → Lettered m n
unfolding device_in
letters m n lm hm ln hn =
    by_six (λ (k : ℕ). Lettered k n) m lm hm
    (by_six (Lettered 1) n ln hn refl refl refl refl refl refl)
    (by_six (Lettered 2) n ln hn refl refl refl refl refl refl)
    (by_six (Lettered 3) n ln hn refl refl refl refl refl refl)
    (by_six (Lettered 4) n ln hn refl refl refl refl refl refl)
    (by_six (Lettered 5) n ln hn refl refl refl refl refl refl)
    (by_six (Lettered 6) n ln hn refl refl refl refl refl refl)

-- the block of a running request: where it stands, its device's number says its device
opened_is : (kind device opened number aux1 : ℕ) → 1 ≤ device → device ≤ 6 → block_stands opened number aux1 ≡ true
    → and (eqb opened device) (direction_whole kind aux1) ≡ open_for (kind_in kind) (device_in device) (block_of opened number aux1).state
unfolding block_stands block_of
opened_is kind device opened number aux1 l h e =
    by_eq opened 0
    (λ z. let n : opened ≡ device → ⊥ = λ y. omega arith in rw (ne_eqb opened device n, eq-eqb opened 0 z))
    (λ n.
    let t : ltb opened 7 ≡ true = rw (ne_eqb opened 0 n) at e in
    let low : 1 ≤ opened = omega arith in
    let high : opened ≤ 6 = omega (arith, ltb-true opened 7 t) in
    rw (ne_eqb opened 0 n) (ands.both (letters device opened l h low high) (directed_is kind aux1)))

module _ (kind device : ℕ) (t : run_stands kind device ≡ true) where
  ranged : within 1 6 device ≡ true
  unfolding run_stands
  ranged = and_right (ltb kind 6) (within 1 6 device) t

  device_low : 1 ≤ device
  device_low = leb-true 1 device (and_left (leb 1 device) (leb device 6) ranged)

  device_high : device ≤ 6
  device_high = leb-true device 6 (and_right (leb 1 device) (leb device 6) ranged)

module _ (b : List ℕ) (e : table_stands (drop phase_length b) ≡ true) where
  -- the bytes of a block, in the table and in the port
  device_byte_lem : (i : ℕ) → byte_at (drop phase_length b) (block_length * i) ≡ byte_at b (phase_length + block_length * i)
  device_byte_lem i = get_or-drop phase_length b (block_length * i) 0

  aux1_byte_lem : (i : ℕ) → byte_at (drop phase_length b) (block_length * i + 2) ≡ byte_at b (phase_length + block_length * i + 2)
  aux1_byte_lem i = get_or-drop phase_length b (block_length * i + 2) 0 ∙ ap (byte_at b) (let z : phase_length + (block_length * i + 2) ≡ phase_length + block_length * i + 2 = omega arith in z)

  open_there : (kind device i : ℕ) → 1 ≤ device → device ≤ 6 → i < 8 → opened_whole b kind device i ≡ open_for (kind_in kind) (device_in device) (block_at (table_in (drop phase_length b)) i).state
  unfolding opened_whole
  open_there kind device i l h k =
      let t = drop phase_length b in
      rw (← device_byte_lem i, ← aux1_byte_lem i)
      (opened_is kind device (byte_at t (block_length * i)) (byte_at t (block_length * i + 1)) (byte_at t (block_length * i + 2)) l h (stands_each t i e k)
      ∙ ap (λ (x : ControlBlock). open_for (kind_in kind) (device_in device) x.state) (sym (block_there t i k)))

  module _ (mode : ℕ) where
    abbrev fits : Bool
    fits = run_fits (run_in b) (table_in (drop phase_length b)) (console_with mode)

    runs_low : 1 ≤ byte_at b 2 → byte_at b 2 ≤ 6 → and (ltb (byte_at b 3) 8) (and (opened_whole b (byte_at b 1) (byte_at b 2) (byte_at b 3)) (and (mode_whole (byte_at b 2) mode) (span_whole (byte_at b 1) (word_at b 4) (word_at b 6) (word_at b 8)))) ≡ fits
    unfolding run_fits
    runs_low l h =
        by_lt (byte_at b 3) 8
        (λ k. rw (lt-ltb (byte_at b 3) 8 k) (ands.both (open_there (byte_at b 1) (byte_at b 2) (byte_at b 3) l h k) (ands.both (used_is (byte_at b 2) mode) (span_is (byte_at b 1) (run_in b)))))
        (λ k. rw (le-ltb (byte_at b 3) 8 k))

    run_is : run_whole b mode ≡ and (run_stands (byte_at b 1) (byte_at b 2)) fits
    unfolding run_whole
    run_is =
        by_test (run_stands (byte_at b 1) (byte_at b 2))
        (λ t. rw t (runs_low (device_low (byte_at b 1) (byte_at b 2) t) (device_high (byte_at b 1) (byte_at b 2) t)))
        (λ t. rw t)

    phase_is : phase_whole b mode ≡ and (phase_stands b) (phase_fits (phase_in b) (table_in (drop phase_length b)) (console_with mode))
    unfolding phase_whole phase_stands phase_in phase_fits gather_whole ready_whole reply_whole
    phase_is =
        let rest = unused (byte_at b 7) (byte_at b 8) (byte_at b 9) (byte_at b 10) in
        by_eq (byte_at b 0) 0 (λ z. rw (eq-eqb (byte_at b 0) 0 z))
        (λ n0. by_eq (byte_at b 0) 1 (λ z. rw (ne_eqb (byte_at b 0) 0 n0, eq-eqb (byte_at b 0) 1 z) (ands.ready rest (unused 0 (byte_at b 4) (byte_at b 5) (byte_at b 6))))
        (λ n1. by_eq (byte_at b 0) 2 (λ z. rw (ne_eqb (byte_at b 0) 0 n0, ne_eqb (byte_at b 0) 1 n1, eq-eqb (byte_at b 0) 2 z) run_is)
        (λ n2. by_eq (byte_at b 0) 3 (λ z. rw (ne_eqb (byte_at b 0) 0 n0, ne_eqb (byte_at b 0) 1 n1, ne_eqb (byte_at b 0) 2 n2, eq-eqb (byte_at b 0) 3 z) (ands.reply rest (unused 0 0 (byte_at b 5) (byte_at b 6)) (reply_fits (reply_in b))))
        (λ n3. rw (ne_eqb (byte_at b 0) 0 n0, ne_eqb (byte_at b 0) 1 n1, ne_eqb (byte_at b 0) 2 n2, ne_eqb (byte_at b 0) 3 n3)))))

pub port_is : (b : List ℕ) (mode mark at : ℕ) → port_whole b mode mark at ≡ and (port_stands b) (and (port_fits (port_in b) (console_with mode)) (and (all_marked mark (port_in b).table.blocks) (all_placed b at (port_in b).table.blocks)))
unfolding port_whole port_stands port_fits port_in
port_is b mode mark at =
    let t = table_in (drop phase_length b) in
    let fits = phase_fits (phase_in b) t (console_with mode) in
    let behind = and (all_marked mark t.blocks) (all_placed b at t.blocks) in
    ap (λ (x : Bool). and x (phase_whole b mode)) (table_is mark b at)
    ∙ ands.port (phase_stands b) (table_stands (drop phase_length b)) (and (table_made t) behind) fits (phase_whole b mode) (λ e. phase_is b e mode)
    ∙ ap (and (port_stands b)) (ands.last_two (table_made t) behind fits)

-- of a console a port asks the mode alone
phase_mode : (p : Phase) (t : Table) (c : Console) → phase_fits p t (console_with c.mode) ≡ phase_fits p t c
unfolding phase_fits run_fits
phase_mode (Gathering g) t c = refl
phase_mode (Ready h) t c = refl
phase_mode (Running run) t c = refl
phase_mode (Replying r) t c = refl

pub port_mode : (p : Port) (c : Console) → port_fits p (console_with c.mode) ≡ port_fits p c
unfolding port_fits
port_mode p c = ap (and (table_made p.table)) (phase_mode p.phase p.table c)
