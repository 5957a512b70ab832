-- What becomes of a request decides what was answered: its reply's bytes give status, count and A back. And a character's `Next` is one
-- of the same run: kind, device and IOCB stay.
-- Assumes nothing.
use mathlib.Core.Path.{◌≡◌, refl, sym, ◌∙◌, ap}
use mathlib.Core.List.{List}
use Prim.Native.Nat.{ℕ, ◌+◌, ◌*◌, ◌/◌, ◌%◌}
use native.Mathlib.Omega.{arith}
use lib.ListN.{get_or}
use Rattle.base.proofs.Choices.{pick_eq, choose_eq}
use Rattle.handler.specs.declared.Got.{Got}
use Rattle.handler.specs.declared.Got.TheVariants as got
use Rattle.handler.specs.declared.Done.{Done}
use Rattle.handler.specs.declared.Done.TheVariants as done
use Rattle.blocks.specs.declared.Way.{Way}
use Rattle.blocks.specs.declared.Way.TheVariants.{One, Characters, Record}
use Rattle.blocks.specs.declared.Run.{Run}
use Rattle.transfer.specs.declared.Next.{Next}
use Rattle.transfer.specs.declared.Next.TheVariants.{On, Off}
use Rattle.transfer.specs.declared.Carried.{Carried}
use Rattle.transfer.specs.declared.Carried.TheVariants as carried
use Rattle.transfer.specs.Transfer.{next_of, Progress, progress, further_of, eol, onward_of, record_of, got_character, got_of, sent_next, sent_record, sent_of, Out, goes, ends, out_of}

unfoldable pub next_in : Out → Next
next_in (goes run) = On run
next_in (ends reply) = Off (get_or reply 3 0) (get_or reply 4 0 + 256 * get_or reply 5 0) (get_or reply 6 0)

word_same : (n : ℕ) → n % 256 + 256 * (n / 256) ≡ n
word_same n = omega arith

pub next_in_lem : (next : Next) → next_in (out_of next) ≡ next
unfolding next_in
next_in_lem (On run) = refl
next_in_lem (Off status count a) = ap (λ (n : ℕ). Off status n a) (word_same count)

pub out_decides : (one other : Next) → out_of one ≡ out_of other → one ≡ other
out_decides one other e = sym (next_in_lem one) ∙ (ap next_in e ∙ next_in_lem other)

-- and what was answered is one that it stands for
pub next_out : (next : Next) → out_of (next_in (out_of next)) ≡ out_of next
next_out next = ap out_of (next_in_lem next)

-- what one character made of a run, back from its `Next`
unfoldable pub carried_in : Next → Carried
carried_in (On run) = carried.On run.left run.place run.count run.a
carried_in (Off status count a) = carried.Off status count a

module _ (run : Run) where
  carried_in_lem : (c : Carried) → carried_in (next_of run c) ≡ c
  unfolding carried_in
  carried_in_lem (carried.On left place count a) = refl
  carried_in_lem (carried.Off status count a) = refl

  pub carried_decides : (one other : Carried) → next_of run one ≡ next_of run other → one ≡ other
  carried_decides one other e = sym (carried_in_lem one) ∙ (ap carried_in e ∙ carried_in_lem other)

  -- a `Next` of the same run
  abbrev Same : Next → Type 0
  Same next = next_of run (carried_in next) ≡ next

  onward_same : (status : ℕ) → Same (onward_of (further_of run) status)
  unfolding carried_in onward_of
  onward_same status = pick_eq Same (further_of run).left 0 _ _ (λ e. refl) (λ n. refl)

  record_same : (status byte : ℕ) → Same (record_of (further_of run) status byte)
  unfolding carried_in record_of
  record_same status byte = pick_eq Same byte eol _ _ (λ e. refl) (λ n. refl)

  character_same : (way : Way) (status byte : ℕ) (area : List ℕ) → Same (got_character way run status byte area).next
  unfolding carried_in got_character
  character_same One status byte area = refl
  character_same Characters status byte area = onward_same status
  character_same Record status byte area =
      choose_eq (λ (p : Progress). Same p.next) run.left 0 _ _
      (λ e. pick_eq Same byte eol _ _ (λ k. refl) (λ n. refl)) (λ n. record_same status byte)

  pub got_same : (way : Way) (says : Got) (area : List ℕ) → Same (got_of way run says area).next
  unfolding carried_in got_of
  got_same way (got.Character byte) area = character_same way 0x01 byte area
  got_same way (got.Last byte) area = character_same way 0x03 byte area
  got_same way (got.Refused status) area = refl

  pub got_allowed : (way : Way) (says : Got) (area : List ℕ) → let p = got_of way run says area in progress (next_of run (carried_in p.next)) p.area ≡ p
  got_allowed way says area = let p = got_of way run says area in ap (λ (n : Next). progress n p.area) (got_same way says area)

  sent_way_same : (way : Way) (byte : ℕ) → Same (sent_next way run byte)
  unfolding carried_in sent_next sent_record
  sent_way_same One byte = refl
  sent_way_same Characters byte = onward_same 0x01
  sent_way_same Record byte = choose_eq Same run.left 0 _ _ (λ e. refl) (λ n. record_same 0x01 byte)

  pub sent_same : (way : Way) (byte : ℕ) (says : Done) → Same (sent_of way run byte says)
  unfolding carried_in sent_of
  sent_same way byte done.Success = sent_way_same way byte
  sent_same way byte (done.Refused status) = refl
