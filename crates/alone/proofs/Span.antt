-- What a running request's numbers span, and that a move keeps it.
-- Assumes nothing.
use mathlib.Core.Path.{◌≡◌, refl, sym, subst}
use mathlib.Core.Bool.{Bool, true}
use mathlib.Core.List.{List}
use Prim.Native.Nat.{ℕ, ◌+◌, ◌-◌, ◌≤◌, ◌<◌}
use native.Mathlib.Omega.{arith}
use lib.Dec.{eqb, leb, ltb}
use borrow.Author.Tests.{eq-eqb, lt-ltb, le-leb, eqb-true, ltb-true, leb-true}
use Rattle.base.specs.Choice.{and}
use Rattle.base.proofs.Choices.{and_left, and_right, pick_eq, choose_eq}
use Rattle.handler.specs.declared.Done.{Done}
use Rattle.handler.specs.declared.Done.TheVariants as done
use Rattle.handler.specs.declared.Got.{Got}
use Rattle.handler.specs.declared.Got.TheVariants as got
use Rattle.handler.specs.Acts.{Acts}
use Rattle.blocks.specs.declared.Kind.{Kind}
use Rattle.blocks.specs.declared.Kind.TheVariants.{Get, Put}
use Rattle.blocks.specs.declared.Run.{Run}
use Rattle.blocks.specs.declared.Way.{Way}
use Rattle.blocks.specs.declared.Way.TheVariants.{One, Characters, Record}
use Rattle.blocks.specs.Opening.{area_length}
use Rattle.transfer.specs.declared.Next.{Next}
use Rattle.transfer.specs.declared.Next.TheVariants.{On, Off}
use Rattle.transfer.specs.Transfer.{Progress, further_of, ended_of, onward_of, eol, record_of, got_character, got_of, sent_byte, sent_record, sent_next, sent_of}
use Rattle.transfer.specs.Spans.{span_fits, Spans, way_in}
use Rattle.alone.proofs.Rest.{step_of, Some, SomeIn}

-- the numbers that `span_fits` tests
abbrev pub Span : Way → (n place count : ℕ) → Type 0
Span One n place count = (n ≡ 0) × (count ≡ 0)
Span Characters n place count = (0 < n) × ((place + n ≤ area_length) × (count ≤ place))
Span Record n place count = (0 < n + count) × ((place + n ≤ area_length) × (count ≤ place))

both_true : (a b : Bool) → a ≡ true → b ≡ true → and a b ≡ true
both_true a b p q = rw (p, q)

three : (x n place count : ℕ) → and (ltb 0 x) (and (leb (place + n) area_length) (leb count place)) ≡ true → (0 < x) × ((place + n ≤ area_length) × (count ≤ place))
three x n place count e =
    let q = and_right (ltb 0 x) (and (leb (place + n) area_length) (leb count place)) e in (
      ltb-true 0 x (and_left (ltb 0 x) (and (leb (place + n) area_length) (leb count place)) e),
      (leb-true (place + n) area_length (and_left (leb (place + n) area_length) (leb count place) q), leb-true count place (and_right (leb (place + n) area_length) (leb count place) q)),
    )

to_three : (x n place count : ℕ) → (0 < x) × ((place + n ≤ area_length) × (count ≤ place)) → and (ltb 0 x) (and (leb (place + n) area_length) (leb count place)) ≡ true
to_three x n place count h =
    both_true (ltb 0 x) (and (leb (place + n) area_length) (leb count place)) (lt-ltb 0 x h.0)
    (both_true (leb (place + n) area_length) (leb count place) (le-leb (place + n) area_length h.1.0) (le-leb count place h.1.1))

pub span_of : (way : Way) (run : Run) → Spans way run → Span way run.left run.place run.count
unfolding span_fits
span_of One run s = (
  eqb-true run.left 0 (and_left (eqb run.left 0) (eqb run.count 0) s.span),
  eqb-true run.count 0 (and_right (eqb run.left 0) (eqb run.count 0) s.span),
)
span_of Characters run s = three run.left run.left run.place run.count s.span
span_of Record run s = three (run.left + run.count) run.left run.place run.count s.span

pub of_span : (way : Way) (run : Run) → Span way run.left run.place run.count → Spans way run
unfolding span_fits
of_span One run h = record { span = both_true (eqb run.left 0) (eqb run.count 0) (eq-eqb run.left 0 h.0) (eq-eqb run.count 0 h.1) }
of_span Characters run h = record { span = to_three run.left run.left run.place run.count h }
of_span Record run h = record { span = to_three (run.left + run.count) run.left run.place run.count h }

-- of a running request
abbrev pub Spanned : Run → Type 0
Spanned run = Span (way_in run.kind) run.left run.place run.count

some_of : (way : Way) (n place count : ℕ) → Span way n place count → Some way n
some_of One n place count h = tt
some_of Characters n place count h = h.0
some_of Record n place count h = tt

some_in : (kind : Kind) (n place count : ℕ) → Span (way_in kind) n place count → SomeIn kind n
some_in (Get way) n place count h = some_of way n place count h
some_in (Put way) n place count h = some_of way n place count h

pub spanned_some : (run : Run) → Spanned run → SomeIn run.kind run.left
spanned_some run h = some_in run.kind run.left run.place run.count h

-- what goes on is the same request, on the same device, and its numbers span
abbrev pub GoesOn : Run → Way → Next → Type 0
GoesOn run way (On later) = (later.kind ≡ run.kind) × ((later.device ≡ run.device) × ((later.iocb ≡ run.iocb) × Span way later.left later.place later.count))
GoesOn run way (Off status count a) = Unit {0}

module _ (run : Run) where
  onward_spans : (status : ℕ) → Span Characters run.left run.place run.count → GoesOn run Characters (onward_of (further_of run) status)
  unfolding onward_of
  onward_spans status h =
      pick_eq (GoesOn run Characters) (run.left - 1) 0 (ended_of status (further_of run)) (On (further_of run)) (λ e. tt)
      (λ e. (refl, (refl, (refl, (omega arith, (omega (arith, h.0, h.1.0), omega (arith, h.1.1)))))))

  record_spans : (status byte : ℕ) → (run.left ≡ 0 → ⊥) → Span Record run.left run.place run.count → GoesOn run Record (record_of (further_of run) status byte)
  unfolding record_of
  record_spans status byte n h =
      pick_eq (GoesOn run Record) byte eol (ended_of status (further_of run)) (On (further_of run)) (λ e. tt)
      (λ e. (refl, (refl, (refl, (omega arith, (omega (arith, n, h.1.0), omega (arith, h.1.1)))))))

  character_spans : (way : Way) (status byte : ℕ) (area : List ℕ) → Span way run.left run.place run.count → GoesOn run way (got_character way run status byte area).next
  unfolding got_character
  character_spans One status byte area h = tt
  character_spans Characters status byte area h = onward_spans status h
  character_spans Record status byte area h =
      choose_eq (λ (p : Progress). GoesOn run Record p.next) run.left 0 _ _
      (λ e. pick_eq (GoesOn run Record) byte eol (ended_of 0x89 run) (On run) (λ q. tt) (λ q. (refl, (refl, (refl, h)))))
      (λ n. record_spans status byte n h)

  got_spans : (way : Way) (says : Got) (area : List ℕ) → Span way run.left run.place run.count → GoesOn run way (got_of way run says area).next
  unfolding got_of
  got_spans way (got.Character byte) area h = character_spans way 0x01 byte area h
  got_spans way (got.Last byte) area h = character_spans way 0x03 byte area h
  got_spans way (got.Refused status) area h = tt

  sent_next_spans : (way : Way) (byte : ℕ) → Span way run.left run.place run.count → GoesOn run way (sent_next way run byte)
  unfolding sent_next sent_record
  sent_next_spans One byte h = tt
  sent_next_spans Characters byte h = onward_spans 0x01 h
  sent_next_spans Record byte h = choose_eq (GoesOn run Record) run.left 0 _ _ (λ e. tt) (λ n. record_spans 0x01 byte n h)

  sent_spans : (way : Way) (byte : ℕ) (says : Done) → Span way run.left run.place run.count → GoesOn run way (sent_of way run byte says)
  unfolding sent_of
  sent_spans way byte done.Success h = sent_next_spans way byte h
  sent_spans way byte (done.Refused status) h = tt

  by_kind : {D : Type 0} (H : Acts D) (kind : Kind) (area : List ℕ) (x : D) → Span (way_in kind) run.left run.place run.count
      → GoesOn run (way_in kind) (step_of H kind run area x).next
  by_kind H (Get way) area x h = got_spans way (H.reads x).says area h
  by_kind H (Put way) area x h = sent_spans way (sent_byte way run area) (H.writes (sent_byte way run area) x).says h

  pub step_spans : {D : Type 0} (H : Acts D) (area : List ℕ) (x : D) → Spanned run → GoesOn run (way_in run.kind) (step_of H run.kind run area x).next
  step_spans H area x h = by_kind H run.kind area x h

pub goes_spanned : (run later : Run) → GoesOn run (way_in run.kind) (On later) → Spanned later
goes_spanned run later h = subst (λ (kind : Kind). Span (way_in kind) later.left later.place later.count) (sym h.0) h.1.1.1
