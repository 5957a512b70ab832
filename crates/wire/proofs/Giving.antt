-- A reply is given whole, byte by byte, and with its last byte, not before, the port gathers anew.
-- Assumes nothing.
use mathlib.Core.Path.{◌≡◌, ◌∙◌, sym, ap}
use mathlib.Core.List.{List}
use Prim.Native.Nat.{ℕ, zero, suc, ◌+◌, ◌≤◌, ◌<◌}
use native.Mathlib.Nat.{add-zero, zero-add}
use native.Mathlib.Numerals.{add-one}
use native.Mathlib.Omega.{arith}
use borrow.Author.Tests.{le-leb, lt-leb}
use lib.Dec.{leb}
use lib.ListN.{length, get_or, take}
use lib.Seq.{take-take, take-length}
use Rattle.base.specs.Choice.{pick}
use Rattle.base.proofs.Choices.{pick_le}
use Rattle.blocks.specs.declared.Reply.{Reply}
use Rattle.blocks.specs.declared.Phase.{Phase}
use Rattle.blocks.specs.declared.Phase.TheVariants.{Gathering, Replying}
use Rattle.blocks.specs.Blocks.{fresh_gather}
use Rattle.replies.specs.Replies.{bytes_at, reply_into, reply_of}
use Rattle.replies.proofs.Keeps.{reply_length, reply_first, bytes_part}
use Rattle.wire.specs.Giving.{Gave, gave, first, gives, give_of}

abbrev pub place : ℕ → ℕ → Reply
place size given = record { length = size; given = given }

-- the phase with so many bytes given
abbrev past : ℕ → ℕ → Phase
past size given = pick (leb size given) (Gathering fresh_gather) (Replying (place size given))

module _ (size : ℕ) (room : List ℕ) where
  last_given : (n given : ℕ) → size ≤ given + 1 → given + suc n ≤ size
      → first (get_or room given 0) (gives n (Gathering fresh_gather) room) ≡ gave (bytes_at room given (suc n)) (past size (given + suc n))
  unfolding bytes_at
  last_given zero given l k = rw (le-leb size (given + 1) l)
  last_given (suc n) given l k = absurd (omega arith)

  some_given : (n given : ℕ) → given < size → given + n ≤ size → gives n (Replying (place size given)) room ≡ gave (bytes_at room given n) (past size (given + n))
  unfolding bytes_at give_of
  some_given zero given h k = rw (add-zero given, lt-leb size given h)
  some_given (suc n) given h k =
      pick_le (λ (phase : Phase). first (get_or room given 0) (gives n phase room) ≡ gave (bytes_at room given (suc n)) (past size (given + suc n)))
      size (given + 1) (Gathering fresh_gather) (Replying (place size (given + 1)))
      (λ l. last_given n given l k)
      (λ l.
      let s : given + 1 + n ≡ given + suc n = omega arith in
      ap (λ (g : Gave). first (get_or room given 0) g) (some_given n (given + 1) l (omega arith)) ∙ rw (s, add-one given))

module _ (room bytes : List ℕ) (h : length bytes ≤ length room) where
  first_bytes : (n : ℕ) → n ≤ length bytes → bytes_at (reply_into room bytes) 0 n ≡ take n bytes
  first_bytes n k =
      bytes_part (reply_into room bytes) 0 n (omega (arith, reply_length room bytes))
      ∙ sym (take-take n (length bytes) (reply_into room bytes) k)
      ∙ ap (take n) (reply_first room bytes h)

  -- fewer bytes than the reply has: its first ones, and the port still replies
  pub reply_part : (n : ℕ) → n < length bytes
      → gives n (Replying (reply_of bytes)) (reply_into room bytes) ≡ gave (take n bytes) (Replying (place (length bytes) n))
  reply_part n k =
      some_given (length bytes) (reply_into room bytes) n 0 (omega arith) (omega arith)
      ∙ rw (first_bytes n (omega arith), zero-add n, lt-leb (length bytes) n k)

  -- all of them, and the port gathers anew
  pub reply_whole_lem : 0 < length bytes → gives (length bytes) (Replying (reply_of bytes)) (reply_into room bytes) ≡ gave bytes (Gathering fresh_gather)
  reply_whole_lem k =
      some_given (length bytes) (reply_into room bytes) (length bytes) 0 k (omega arith)
      ∙ rw (first_bytes (length bytes) (omega arith), zero-add (length bytes), le-leb (length bytes) (length bytes) (omega arith), take-length bytes)
