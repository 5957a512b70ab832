-- Each promise of this crate decides, and allows an outcome.
-- Assumes nothing.
use mathlib.Core.Path.{refl, sym, ◌∙◌, ap}
use mathlib.Core.List.{List}
use Prim.Native.Nat.{ℕ}
use Rattle.base.specs.Decides.{Decides, Allows}
use Rattle.replies.specs.Replies.{Replied}
use Rattle.replies.proofs.copy_bytes.Kinds as copy_bytes_kinds
use Rattle.replies.proofs.copy_bytes.Reads as copy_bytes_reads
use Rattle.replies.proofs.call_reply.Kinds as call_reply_kinds
use Rattle.replies.proofs.call_reply.Reads as call_reply_reads
use Rattle.replies.proofs.status_reply.Kinds as status_reply_kinds
use Rattle.replies.proofs.status_reply.Reads as status_reply_reads
use Rattle.replies.proofs.fetch_reply.Kinds as fetch_reply_kinds
use Rattle.replies.proofs.fetch_reply.Reads as fetch_reply_reads

pub copy_bytes_decides : Decides copy_bytes_kinds.ps copy_bytes_kinds.r copy_bytes_reads.Pre copy_bytes_reads.Learnt
copy_bytes_decides κs a z z' ws ws' p e e' = (refl, ap (λ (l : List ℕ). (l, (tt, (tt, (tt, (tt, tt)))))) (e ∙ sym e'))

pub copy_bytes_allows : Allows copy_bytes_kinds.ps copy_bytes_kinds.r copy_bytes_reads.Pre copy_bytes_reads.Learnt
copy_bytes_allows κs a p = (_, (_, refl))

pub call_reply_decides : Decides call_reply_kinds.ps call_reply_kinds.r call_reply_reads.Pre call_reply_reads.Learnt
call_reply_decides κs a z z' ws ws' p e e' = (ap (λ (o : Replied). o.reply) (e ∙ sym e'), ap (λ (o : Replied). (o.room, (tt, (tt, (tt, tt))))) (e ∙ sym e'))

pub call_reply_allows : Allows call_reply_kinds.ps call_reply_kinds.r call_reply_reads.Pre call_reply_reads.Learnt
call_reply_allows κs a p = (_, (_, refl))

pub status_reply_decides : Decides status_reply_kinds.ps status_reply_kinds.r status_reply_reads.Pre status_reply_reads.Learnt
status_reply_decides κs a z z' ws ws' p e e' = (ap (λ (o : Replied). o.reply) (e ∙ sym e'), ap (λ (o : Replied). (o.room, (tt, (tt, tt)))) (e ∙ sym e'))

pub status_reply_allows : Allows status_reply_kinds.ps status_reply_kinds.r status_reply_reads.Pre status_reply_reads.Learnt
status_reply_allows κs a p = (_, (_, refl))

pub fetch_reply_decides : Decides fetch_reply_kinds.ps fetch_reply_kinds.r fetch_reply_reads.Pre fetch_reply_reads.Learnt
fetch_reply_decides κs a z z' ws ws' p e e' = (ap (λ (o : Replied). o.reply) (e ∙ sym e'), ap (λ (o : Replied). (o.room, (tt, (tt, (tt, tt))))) (e ∙ sym e'))

pub fetch_reply_allows : Allows fetch_reply_kinds.ps fetch_reply_kinds.r fetch_reply_reads.Pre fetch_reply_reads.Learnt
fetch_reply_allows κs a p = (_, (_, refl))
