-- What each function of a request without a group returns and leaves is what its definition says.
-- Assumes nothing.
use mathlib.Core.Path.{◌≡◌, ◌∙◌, ap}
use mathlib.Core.List.{List}
use Prim.Native.Nat.{ℕ, ◌+◌, ◌<◌, ◌≤◌}
use lib.Seq.{sets}
use borrow.Author.Tests.{le-leb, lt-leb}
use Rattle.blocks.specs.declared.Reply.{Reply}
use Rattle.blocks.specs.declared.Phase.{Phase}
use Rattle.blocks.specs.declared.Phase.TheVariants.{Replying}
use Rattle.blocks.specs.Opening.{area_length}
use Rattle.replies.specs.Replies.{call_reply, status_reply, fetch_reply, bytes_at, Replied, replied, replied_of}
use Rattle.plan.specs.declared.Errand.{Errand}
use Rattle.plan.specs.declared.Errand.TheVariants as errand
use Rattle.transfer.specs.Transfer.{ends, in_port, landed}
use Rattle.cio.specs.Start.{freed, loaded_of, load_status, load_of, errand_of}

-- a reply made in the room
landed_reply : (reply : Reply) (room t bytes : List ℕ) → replied reply t ≡ replied_of room bytes → in_port (Replying reply) t ≡ landed (ends bytes) room
landed_reply reply room t bytes q = ap (λ (x : Replied). in_port (Replying x.reply) x.room) q

module _ (reply : Reply) (room t : List ℕ) where
  module _ (half : List ℕ) where
    pub load_in : (address size : ℕ) (mid : List ℕ) → address + size ≤ area_length → mid ≡ sets half address (bytes_at room 2 size) → replied reply t ≡ replied_of room (status_reply 0x91 0x01) → freed (in_port (Replying reply) t) mid ≡ load_of address size room half
    unfolding load_of loaded_of load_status
    load_in address size mid h p q = rw (landed_reply reply room t (status_reply 0x91 0x01) q, p, le-leb (address + size) area_length h)

    pub load_past : (address size : ℕ) → area_length < address + size → replied reply t ≡ replied_of room (status_reply 0x91 0xB0) → freed (in_port (Replying reply) t) half ≡ load_of address size room half
    unfolding load_of loaded_of load_status
    load_past address size h q = rw (landed_reply reply room t (status_reply 0x91 0xB0) q, lt-leb (address + size) area_length h)

    module _ (e : Errand) where
      pub errand_status : (status a : ℕ) → e ≡ errand.Status status a → replied reply t ≡ replied_of room (call_reply status 0 a) → freed (in_port (Replying reply) t) half ≡ errand_of e room half
      unfolding errand_of
      errand_status status a k q = rw (landed_reply reply room t (call_reply status 0 a) q, k)

      pub errand_fetch : (address count : ℕ) → e ≡ errand.Fetch address count → replied reply t ≡ replied_of room (fetch_reply half address count) → freed (in_port (Replying reply) t) half ≡ errand_of e room half
      unfolding errand_of
      errand_fetch address count k q = rw (landed_reply reply room t (fetch_reply half address count) q, k)

      pub errand_bad : (status : ℕ) → e ≡ errand.Bad status → replied reply t ≡ replied_of room (status_reply 0xFF status) → freed (in_port (Replying reply) t) half ≡ errand_of e room half
      unfolding errand_of
      errand_bad status k q = rw (landed_reply reply room t (status_reply 0xFF status) q, k)

pub errand_load : (e : Errand) (address size : ℕ) (phase : Phase) (room half t u : List ℕ) → e ≡ errand.Load address size → freed (in_port phase t) u ≡ load_of address size room half → freed (in_port phase t) u ≡ errand_of e room half
unfolding errand_of
errand_load e address size phase room half t u k q = q ∙ rw k
