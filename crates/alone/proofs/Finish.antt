-- One character a move, exactly: a move for each point of the transfer's course, and each leaves that point; and then it is over.
-- Assumes nothing.
use mathlib.Core.Path.{◌≡◌, ◌∙◌, refl, sym, ap, subst}
use mathlib.Core.List.{List, ◌∷◌}
use Prim.Native.Nat.{ℕ, zero, suc, ◌≤◌, ◌<◌}
use native.Mathlib.Omega.{arith}
use lib.ListN.{length, get_or}
use Rattle.handler.specs.declared.Asked.{Asked}
use Rattle.handler.specs.Acts.{Acts, asks_on}
use Rattle.blocks.specs.declared.Kind.{Kind}
use Rattle.blocks.specs.declared.Kind.TheVariants.{Get, Put}
use Rattle.blocks.specs.declared.Run.{Run}
use Rattle.replies.specs.Replies.{call_reply}
use Rattle.transfer.specs.declared.Next.{Next}
use Rattle.transfer.specs.declared.Next.TheVariants.{On, Off}
use Rattle.transfer.specs.Transfer.{sent_byte, goes, ends, out_of}
use Rattle.transfer.specs.Spans.{way_in}
use Rattle.moves.specs.Move.{Went, went, advance_of, go_of}
use Rattle.alone.specs.Transfer.{Point, point, TransferEnd}
use Rattle.alone.specs.Moves.{moves, whole_of, Lines, RunsAt, lands}
use Rattle.alone.proofs.Rest.{step_of, go_is, rest_next, rest_of, rest_is}
use Rattle.alone.proofs.Span.{Spanned, spanned_some, GoesOn, step_spans, goes_spanned}

pub moves_ended : {D : Type 0} (H : Asked → Acts D) (port n : ℕ) (reply : List ℕ) (area : List ℕ) (x : D) → moves H port n (ends reply) area x ≡ went area x (ends reply)
unfolding moves
moves_ended H port zero reply area x = refl
moves_ended H port (suc n) reply area x = refl

module _ {D : Type 0} (H : Acts D) (left : D → ℕ) (Fit : D → Type 0) (Z : Lines H left Fit) where
  pub step_fit : (kind : Kind) (run : Run) (area : List ℕ) (x : D) → Fit x → Fit (step_of H kind run area x).device
  step_fit (Get way) run area x f = Z.read_fit x f
  step_fit (Put way) run area x f = Z.write_fit (sent_byte way run area) x f

  some_course : (m : Next) (area : List ℕ) (y : D) → 0 < length (rest_next H left m area y).course
  some_course (On run) area y = omega arith
  some_course (Off status count a) area y = omega arith

  module _ (run : Run) (area : List ℕ) (x : D) (f : Fit x) (h : Spanned run) where
    rests : rest_of H left (step_of H run.kind run area x) ≡ whole_of H left run area x
    rests = rest_is H left Fit Z run area x f (spanned_some run h)

    pub course_some : 0 < length (whole_of H left run area x).course
    course_some =
        let s = step_of H run.kind run area x in
        subst (λ (r : TransferEnd D). 0 < length r.course) rests (some_course s.next s.area s.device)

-- the same request, on its block and its port: H its device's handler, A as it is asked for this block
module _ {D : Type 0} (H : Asked → Acts D) (port iocb : ℕ) (left : D → ℕ) (Fit : D → Type 0) (Z : Lines (H (asks_on port iocb)) left Fit) where
  abbrev A : Acts D
  A = H (asks_on port iocb)

  one_move : (run : Run) (area : List ℕ) (x : D) → run.iocb ≡ iocb → (n : ℕ)
      → moves H port (suc n) (goes run) area x ≡ (let s = step_of A run.kind run area x in moves H port n (out_of s.next) s.area s.device)
  unfolding moves advance_of
  one_move run area x e n =
      ap (λ (i : ℕ). let w = go_of (H (asks_on port i)) run.kind run area x in moves H port n w.out w.area w.device) e
      ∙ ap (λ (w : Went D). moves H port n w.out w.area w.device) (go_is A run.kind run area x)

  -- so many moves as its course has points, or more, give the transfer
  pub finish_is_whole : (n : ℕ) (run : Run) (area : List ℕ) (x : D) → Fit x → run.iocb ≡ iocb → Spanned run → length (whole_of A left run area x).course ≤ n
      → moves H port n (goes run) area x ≡ lands (whole_of A left run area x)
  finish_is_whole zero run area x f e h l = absurd (omega (arith, course_some A left Fit Z run area x f h))
  finish_is_whole (suc n) run area x f e h l =
      one_move run area x e n
      ∙ by (λ run area x. finish_is_whole n run area x) (step_of A run.kind run area x).next (step_of A run.kind run area x).area (step_of A run.kind run area x).device
      (step_spans run A area x h) (step_fit A left Fit Z run.kind run area x f) (whole_of A left run area x) (rests A left Fit Z run area x f h) l
    where
      by : ((run : Run) (area : List ℕ) (x : D) → Fit x → run.iocb ≡ iocb → Spanned run → length (whole_of A left run area x).course ≤ n → moves H port n (goes run) area x ≡ lands (whole_of A left run area x))
          → (m : Next) (area' : List ℕ) (y : D) → GoesOn run (way_in run.kind) m → Fit y → (r : TransferEnd D) → rest_next A left m area' y ≡ r → length r.course ≤ suc n
          → moves H port n (out_of m) area' y ≡ lands r
      by again (On later) area' y g fit r q l =
          again later area' y fit (g.1.1.0 ∙ e) (goes_spanned run later g) (omega (arith, ap (λ (r : TransferEnd D). length r.course) q)) ∙ ap (λ (r : TransferEnd D). lands r) q
      by again (Off status count a) area' y g fit r q l = moves_ended H port n (call_reply status count a) area' y ∙ ap (λ (r : TransferEnd D). lands r) q

  -- after j moves, fewer than its characters, area, device and count are those of its first j characters, and it runs
  pub runs_at : (j : ℕ) (run : Run) (area : List ℕ) (x : D) (d : Point D) → Fit x → run.iocb ≡ iocb → Spanned run → j < length (whole_of A left run area x).course
      → RunsAt (get_or (point area x run.count ∷ (whole_of A left run area x).course) j d) (moves H port j (goes run) area x)
  unfolding moves
  runs_at zero run area x d f e h l = record { run = run; stands = refl; count = refl }
  runs_at (suc j) run area x d f e h l =
      subst (λ (w : Went D). RunsAt (get_or (whole_of A left run area x).course j d) w) (sym (one_move run area x e j))
      (by (λ run area x. runs_at j run area x d) (step_of A run.kind run area x).next (step_of A run.kind run area x).area (step_of A run.kind run area x).device
      (step_spans run A area x h) (step_fit A left Fit Z run.kind run area x f) (whole_of A left run area x) (rests A left Fit Z run area x f h) l)
    where
      by : ((run : Run) (area : List ℕ) (x : D) → Fit x → run.iocb ≡ iocb → Spanned run → j < length (whole_of A left run area x).course
          → RunsAt (get_or (point area x run.count ∷ (whole_of A left run area x).course) j d) (moves H port j (goes run) area x))
          → (m : Next) (area' : List ℕ) (y : D) → GoesOn run (way_in run.kind) m → Fit y → (r : TransferEnd D) → rest_next A left m area' y ≡ r → suc j < length r.course
          → RunsAt (get_or r.course j d) (moves H port j (out_of m) area' y)
      by again (On later) area' y g fit r q l =
          subst (λ (r : TransferEnd D). RunsAt (get_or r.course j d) (moves H port j (goes later) area' y)) q
          (again later area' y fit (g.1.1.0 ∙ e) (goes_spanned run later g) (omega (arith, ap (λ (r : TransferEnd D). length r.course) q)))
      by again (Off status count a) area' y g fit r q l = absurd (omega (arith, ap (λ (r : TransferEnd D). length r.course) q))
