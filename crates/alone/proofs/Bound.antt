-- "The bound of 61,441 becomes 89,876.": every transfer's course has at most 89,876 points.
-- Assumes nothing.
use mathlib.Core.Path.{◌≡◌, refl}
use mathlib.Core.Bool.{Bool, true, false}
use mathlib.Core.List.{List}
use Prim.Native.Nat.{ℕ, zero, suc, ◌+◌, ◌≤◌}
use native.Mathlib.Omega.{arith}
use lib.Dec.{eqb}
use lib.ListN.{length, get_or, set}
use borrow.Author.Tests.{eqb-false}
use Rattle.base.specs.Choice.{choose}
use Rattle.handler.specs.declared.Done.{Done}
use Rattle.handler.specs.declared.Done.TheVariants as done
use Rattle.handler.specs.declared.Got.{Got}
use Rattle.handler.specs.Answer.{Gives}
use Rattle.handler.specs.Acts.{Acts}
use Rattle.blocks.specs.declared.Kind.{Kind}
use Rattle.blocks.specs.declared.Kind.TheVariants.{Get, Put}
use Rattle.blocks.specs.declared.Run.{Run}
use Rattle.blocks.specs.declared.Way.{Way}
use Rattle.blocks.specs.declared.Way.TheVariants.{One, Characters, Record}
use Rattle.transfer.specs.Transfer.{eol}
use Rattle.transfer.specs.Spans.{way_in}
use Rattle.alone.specs.Transfer.{TransferEnd, on_got, on_done, get_one, put_one, get_characters, drop_line, get_record, put_characters, put_record, getting, putting, transferred}
use Rattle.alone.specs.Moves.{whole_of, Lines, most_moves}
use Rattle.alone.proofs.Span.{Span, Spanned}
use Rattle.alone.proofs.Ending.{on_got_lem}

-- at most so many characters
abbrev pub Short : {D : Type 0} → ℕ → TransferEnd D → Type 0
Short m r = length r.course ≤ m

module _ {D : Type 0} (m : ℕ) where
  -- by what the handler says
  got_short : (says : Got) (f : (status byte : ℕ) → TransferEnd D) (g : (status : ℕ) → TransferEnd D)
      → ((status byte : ℕ) → Gives says status byte → Short m (f status byte)) → ((status : ℕ) → Short m (g status)) → Short m (on_got says f g)
  got_short says f g p q = on_got_lem (Short m) says f g p (λ status e. q status)

  done_short : (says : Done) (f : Unit {0} → TransferEnd D) (g : ℕ → TransferEnd D) → Short m (f tt) → ((status : ℕ) → Short m (g status)) → Short m (on_done says f g)
  done_short done.Success f g p q = p
  done_short (done.Refused status) f g p q = q status

  choose_short : (t : Bool) (f g : Unit {0} → TransferEnd D) → (t ≡ true → Short m (f tt)) → (t ≡ false → Short m (g tt)) → Short m (choose t f g)
  choose_short true f g p q = p refl
  choose_short false f g p q = q refl

module _ {D : Type 0} (H : Acts D) (left : D → ℕ) (a : ℕ) where
  get_characters_lem : (said n place count : ℕ) (area : List ℕ) (x : D) → Short n (get_characters H left a said n place count area x)
  unfolding get_characters
  get_characters_lem said zero place count area x = omega arith
  get_characters_lem said (suc n) place count area x =
      got_short (suc n) (H.reads x).says _ _
      (λ status byte e. let h = get_characters_lem status n (place + 1) (count + 1) (set area place byte) (H.reads x).leaves in omega arith)
      (λ status. omega arith)

  put_characters_lem : (n place count : ℕ) (area : List ℕ) (x : D) → Short n (put_characters H left a n place count area x)
  unfolding put_characters
  put_characters_lem zero place count area x = omega arith
  put_characters_lem (suc n) place count area x =
      let y = H.writes (get_or area place 0) x in
      let h = put_characters_lem n (place + 1) (count + 1) area y.leaves in
      done_short (suc n) y.says _ _ (omega arith) (λ status. omega arith)

  put_record_lem : (n place count : ℕ) (area : List ℕ) (x : D) → Short (suc n) (put_record H left a n place count area x)
  unfolding put_record
  put_record_lem zero place count area x = done_short 1 (H.writes eol x).says _ _ (omega arith) (λ status. omega arith)
  put_record_lem (suc n) place count area x =
      let y = H.writes (get_or area place 0) x in
      let h = put_record_lem n (place + 1) (count + 1) area y.leaves in
      done_short (suc (suc n)) y.says _ _
      (choose_short (suc (suc n)) (eqb (get_or area place 0) eol) _ _ (λ e. omega arith) (λ e. omega arith))
      (λ status. omega arith)

  drop_line_lem : (m count : ℕ) (area : List ℕ) (x : D) → Short (suc m) (drop_line H left a m count area x)
  unfolding drop_line
  drop_line_lem zero count area x = got_short 1 (H.reads x).says _ _ (λ status byte e. omega arith) (λ status. omega arith)
  drop_line_lem (suc m) count area x =
      let h = drop_line_lem m count area (H.reads x).leaves in
      got_short (suc (suc m)) (H.reads x).says _ _
      (λ status byte e. choose_short (suc (suc m)) (eqb byte eol) _ _ (λ t. omega arith) (λ t. omega arith))
      (λ status. omega arith)

  module _ (Fit : D → Type 0) (Z : Lines H left Fit) where
    -- each character but the EOL is one fewer to read
    get_record_lem : (n place count : ℕ) (area : List ℕ) (x : D) → Fit x → Short (suc (left x)) (get_record H left a n place count area x)
    unfolding get_record
    get_record_lem zero place count area x f = drop_line_lem (left x) count area x
    get_record_lem (suc n) place count area x f =
        got_short (suc (left x)) (H.reads x).says _ _
        (λ status byte e. choose_short (suc (left x)) (eqb byte eol) _ _ (λ t. omega arith)
        (λ t.
        let h = get_record_lem n (place + 1) (count + 1) (set area place byte) (H.reads x).leaves (Z.read_fit x f) in
        let l = Z.falls x status byte f e (eqb-false byte eol t) in
        omega arith))
        (λ status. omega arith)

    getting_short : (way : Way) (n place count : ℕ) (area : List ℕ) (x : D) → Fit x → Span way n place count → Short most_moves (getting H left a way n place count area x)
    unfolding getting get_one
    getting_short One n place count area x f h = got_short most_moves (H.reads x).says _ _ (λ status byte e. omega arith) (λ status. omega arith)
    getting_short Characters n place count area x f h = omega (arith, get_characters_lem 0x01 n place count area x, h.1.0)
    getting_short Record n place count area x f h = omega (arith, get_record_lem n place count area x f, Z.few x f)

    putting_short : (way : Way) (n place count : ℕ) (area : List ℕ) (x : D) → Span way n place count → Short most_moves (putting H left a way n place count area x)
    unfolding putting put_one
    putting_short One n place count area x h = done_short most_moves (H.writes a x).says _ _ (omega arith) (λ status. omega arith)
    putting_short Characters n place count area x h = omega (arith, put_characters_lem n place count area x, h.1.0)
    putting_short Record n place count area x h = omega (arith, put_record_lem n place count area x, h.1.0)

    transferred_short : (kind : Kind) (n place count : ℕ) (area : List ℕ) (x : D) → Fit x → Span (way_in kind) n place count → Short most_moves (transferred H left a kind n place count area x)
    unfolding transferred
    transferred_short (Get way) n place count area x f h = getting_short way n place count area x f h
    transferred_short (Put way) n place count area x f h = putting_short way n place count area x h

pub course_bound : {D : Type 0} (H : Acts D) (left : D → ℕ) (Fit : D → Type 0) → Lines H left Fit → (run : Run) (area : List ℕ) (x : D) → Fit x → Spanned run
    → length (whole_of H left run area x).course ≤ most_moves
course_bound H left Fit Z run area x f h = transferred_short H left run.a Fit Z run.kind run.left run.place run.count area x f h
