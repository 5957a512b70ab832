-- A core whose worlds are images of a following core's follows the machine, and what it reaches has an image that is reached.
-- Assumes nothing.
use mathlib.Core.Path.{sym, ◌∙◌, ap, subst}
use mathlib.Core.List.{List, [], ◌∷◌}
use Rattle.serial.specs.Machine.{Machine}
use Rattle.serial.specs.Core.{View, CoreCall, Core}
use Rattle.serial.specs.Calls.{FreshView, call_of}
use Rattle.serial.specs.Run.{State, OkCall, OkCalls, one_more_case, next, after, begin, Begun, Reached}
use Rattle.serial.specs.Follows.{Follows, Images}
use Rattle.serial.proofs.Runs.{reached_first, reached_next}

module _ (M : Machine) (C B : Core M) (image : B.World → C.World) (Good : B.World → Type 0) (I : Images M C B image Good) where
  open I use {see_is, begins, world_is, answer_is, good, refused}

  -- what is good, and has an image that is reached
  abbrev pub Imaged : B.World → Type 0
  Imaged b = Reached M C (image b) × Good b

  first_imaged : (b : B.World) → Begun M B b → Imaged b
  first_imaged b e = let q = begins b e in (reached_first M C (image b) q.0, q.1)

  next_imaged : (b : B.World) → Imaged b → (c : CoreCall M) → OkCall M c → Imaged (B.call c b).world
  next_imaged b i c o = (subst (Reached M C) (sym (world_is b i.1 i.0 c o)) (reached_next M C (image b) i.0 c o), good b i.1 i.0 c o)

  after_imaged : (cs : List (CoreCall M)) (s : State M B) → OkCalls M cs → Imaged s.world → Imaged (after M B cs s).world
  unfolding after
  after_imaged [] s ok i = i
  after_imaged (c ∷ cs) s (one_more_case o ok) i = after_imaged cs (next M B c s) ok (next_imaged s.world i c o)

  pub reached_imaged : (b : B.World) → Reached M B b → Imaged b
  reached_imaged b r = subst Imaged r.there (after_imaged r.calls (begin M B r.from) r.ok (first_imaged r.from r.begun))

  pub images_follow : Follows M C → Follows M B
  images_follow F = record {
    fresh_is = λ b e. subst (FreshView M) (sym (see_is b)) (F.fresh_is (image b) (begins b e).0);
    world_is = λ b r c o.
        let i = reached_imaged b r in
        see_is (B.call c b).world ∙ ap C.see (world_is b i.1 i.0 c o) ∙ F.world_is (image b) i.0 c o ∙ ap (λ (v : View M). (call_of M c v).world) (sym (see_is b));
    answer_is = λ b r c o.
        let i = reached_imaged b r in
        answer_is b i.1 i.0 c o ∙ F.answer_is (image b) i.0 c o ∙ ap (λ (v : View M). (call_of M c v).answer) (sym (see_is b));
    refused = λ b r c o n. let i = reached_imaged b r in refused b i.1 i.0 c o n;
  }
