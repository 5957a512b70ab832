-- What callers cite: what a byte taken and a byte given keep, and that each reply made fits.
-- Assumes nothing.
use mathlib.Core.Path.{◌≡◌, refl}
use mathlib.Core.Bool.{true}
use mathlib.Core.List.{List, []}
use Prim.Native.Nat.{ℕ, suc, ◌+◌, ◌-◌, ◌%◌, ◌≤◌, ◌<◌}
use native.Mathlib.Omega.{arith}
use borrow.Author.Tests.{lt-ltb, le-leb, ne_eqb}
use lib.Dec.{eqb, ltb}
use lib.ListN.{length, length-set}
use Rattle.base.specs.Choice.{pick, within}
use Rattle.base.proofs.Choices.{pick_go, pick_eq, pick_le, and_left}
use Rattle.blocks.specs.declared.Gather.{Gather}
use Rattle.blocks.specs.declared.Reply.{Reply}
use Rattle.blocks.specs.declared.Phase.{Phase}
use Rattle.blocks.specs.declared.Phase.TheVariants.{Gathering, Ready, Running, Replying}
use Rattle.blocks.specs.Blocks.{fresh_gather}
use Rattle.replies.specs.Replies.{call_reply, status_reply, bytes_at, fetch_status, fetch_reply, reply_of}
use Rattle.replies.proofs.Stores.{bytes_length}
use Rattle.replies.proofs.Keeps.{fetch_granted}
use Rattle.wire.specs.Messages.{word_of, good_field, gather_of, header_of, Gathered, after_of, kept_of, take_of}
use Rattle.wire.specs.Giving.{give_of}
use Rattle.wire.specs.Fits.{gather_fits, reply_fits}

-- gathering: a byte leaves a fitting gathering, or a ready message
pub fresh_fits : gather_fits fresh_gather ≡ true
unfolding gather_fits
fresh_fits = refl

abbrev pub GathersOrReady : Phase → Type 0
GathersOrReady (Gathering gather) = gather_fits gather ≡ true
GathersOrReady (Ready header) = Unit {0}
GathersOrReady (Running run) = ⊥
GathersOrReady (Replying reply) = ⊥

value_fits : (tag length taken : ℕ) → 3 ≤ taken → taken < 3 + length → gather_fits (gather_of tag length taken) ≡ true
unfolding gather_fits
value_fits tag length taken l h =
    rw (ne_eqb taken 0 (λ e. omega arith), ne_eqb taken 1 (λ e. omega arith), ne_eqb taken 2 (λ e. omega arith), lt-ltb taken (3 + length) h)

after_fits : (tag length taken : ℕ) → 3 ≤ taken → GathersOrReady (after_of tag length taken)
unfolding after_of
after_fits tag length taken l =
    pick_le GathersOrReady (3 + length) taken (Ready (header_of tag length)) (Gathering (gather_of tag length taken))
    (λ h. tt) (λ h. value_fits tag length taken l h)

tag_fits : (tag : ℕ) → gather_fits (gather_of tag 0 1) ≡ true
unfolding gather_fits
tag_fits tag = refl

low_fits : (tag byte : ℕ) → byte < 256 → gather_fits (gather_of tag byte 2) ≡ true
unfolding gather_fits
low_fits tag byte h = lt-ltb byte 256 h

pub take_fits : (gather : Gather) (room : List ℕ) (byte : ℕ) → byte < 256 → GathersOrReady (take_of gather room byte).phase
unfolding take_of
take_fits gather room byte h =
    pick_eq (λ (g : Gathered). GathersOrReady g.phase) gather.taken 0 _ _
    (λ z. tag_fits byte)
    (λ z. pick_eq (λ (g : Gathered). GathersOrReady g.phase) gather.taken 1 _ _
    (λ o. low_fits gather.tag byte h)
    (λ o. pick_eq (λ (g : Gathered). GathersOrReady g.phase) gather.taken 2 _ _
    (λ t. after_fits gather.tag (word_of (gather.length % 256) byte) 3 (omega arith))
    (λ t. after_fits gather.tag gather.length (gather.taken + 1) (omega arith))))

pub take_room_length : (gather : Gather) (room : List ℕ) (byte : ℕ) → length (take_of gather room byte).room ≡ length room
unfolding take_of kept_of
take_room_length gather room byte =
    pick_go Same (eqb gather.taken 0) _ _ (λ t. refl)
    (λ t. pick_go Same (eqb gather.taken 1) _ _ (λ t. refl)
    (λ t. pick_go Same (eqb gather.taken 2) _ _ (λ t. refl)
    (λ t. pick_go (λ (r : List ℕ). length r ≡ length room) (good_field gather.tag gather.length) _ _
    (λ t. length-set room (gather.taken - 3) byte) (λ t. refl))))
  where
    Same : Gathered → Type 0
    Same g = length g.room ≡ length room

-- giving: a byte leaves a fitting reply, or the port gathers anew
abbrev pub RepliesOrFresh : Phase → Type 0
RepliesOrFresh (Gathering gather) = gather ≡ fresh_gather
RepliesOrFresh (Ready header) = ⊥
RepliesOrFresh (Running run) = ⊥
RepliesOrFresh (Replying reply) = reply_fits reply ≡ true

pub give_fits : (reply : Reply) (room : List ℕ) → reply_fits reply ≡ true → RepliesOrFresh (give_of reply room).phase
unfolding give_of reply_fits
give_fits reply room f =
    pick_le RepliesOrFresh reply.length (reply.given + 1) (Gathering fresh_gather) (Replying (record { length = reply.length; given = reply.given + 1 }))
    (λ h. refl)
    (λ h. rw (and_left (within 4 260 reply.length) (ltb reply.given reply.length) f, lt-ltb (reply.given + 1) reply.length h))

-- each reply made fits
pub call_reply_fits : (status count a : ℕ) → reply_fits (reply_of (call_reply status count a)) ≡ true
unfolding reply_fits
call_reply_fits status count a = refl

pub status_reply_fits : (tag status : ℕ) → reply_fits (reply_of (status_reply tag status)) ≡ true
unfolding reply_fits
status_reply_fits tag status = refl

long_fits : (n : ℕ) → 4 ≤ n → n ≤ 260 → reply_fits (record { length = n; given = 0 }) ≡ true
unfolding reply_fits
long_fits n l h = rw (le-leb 4 n l, le-leb n 260 h, lt-ltb 0 n (omega arith))

pub fetch_reply_fits : (half : List ℕ) (address count : ℕ) → reply_fits (reply_of (fetch_reply half address count)) ≡ true
unfolding fetch_reply
fetch_reply_fits half address count =
    let bytes : List ℕ = pick (eqb (fetch_status address count) 0x01) (bytes_at half address count) [] in
    let short : length bytes ≤ 256 =
    pick_eq (λ (l : List ℕ). length l ≤ 256) (fetch_status address count) 0x01 (bytes_at half address count) []
    (λ e. rw bytes_length (fetch_granted address count e).few) (λ e. omega arith) in
    long_fits (suc (suc (suc (suc (length bytes))))) (omega arith) (omega arith)
