-- A core whose every call, from a sound world that is seen not to be damaged, does what the machine's does, follows it; and
-- every world that it reaches is sound. Assumes nothing.
use mathlib.Core.Path.{refl, sym, subst}
use mathlib.Core.List.{List, [], ◌∷◌}
use Rattle.serial.specs.Machine.{Machine}
use Rattle.serial.specs.Core.{CoreCall, Core}
use Rattle.serial.specs.Calls.{core_of}
use Rattle.serial.specs.Run.{State, OkCall, OkCalls, one_more_case, next, after, begin, Reached}
use Rattle.serial.specs.Undamaged.{Undamaged}
use Rattle.serial.specs.Laws.{Laws}
use Rattle.serial.specs.Follows.{Follows, Steps}
use Rattle.serial.proofs.Runs.{reached_first, reached_next}
use Rattle.serial.proofs.Answers.{refused_same}
use Rattle.serial.proofs.Undamaged.{never_damaged}

module _ (M : Machine) (L : Laws M) (C : Core M) (Sound : C.World → Type 0) (S : Steps M C Sound) where
  open S use {begins, world_is, answer_is, sound, refused}

  abbrev Kept : C.World → Type 0
  Kept w = Sound w × Reached M (core_of M) (C.see w)

  kept_next : (w : C.World) → Kept w → (c : CoreCall M) → OkCall M c → Kept (C.call c w).world
  kept_next w k c o =
      let u = never_damaged M L (C.see w) k.1 in
      (sound w k.0 u c o, subst (Reached M (core_of M)) (sym (world_is w k.0 u c o)) (reached_next M (core_of M) (C.see w) k.1 c o))

  kept_after : (cs : List (CoreCall M)) (s : State M C) → OkCalls M cs → Kept s.world → Kept (after M C cs s).world
  unfolding after
  kept_after [] s ok k = k
  kept_after (c ∷ cs) s (one_more_case o ok) k = kept_after cs (next M C c s) ok (kept_next s.world k c o)

  kept : (w : C.World) → Reached M C w → Kept w
  kept w r =
      let q = begins r.from r.begun in
      subst Kept r.there (kept_after r.calls (begin M C r.from) r.ok (q.1, reached_first M (core_of M) (C.see r.from) (q.0, r.begun.1)))

  pub always_sound : (w : C.World) → Reached M C w → Sound w
  always_sound w r = (kept w r).0

  undamaged : (w : C.World) → Reached M C w → Undamaged M (C.see w)
  undamaged w r = never_damaged M L (C.see w) (kept w r).1

  pub follows : Follows M C
  follows = record {
    fresh_is = λ w b. (begins w b).0;
    world_is = λ w r c o. world_is w (kept w r).0 (undamaged w r) c o;
    answer_is = λ w r c o. answer_is w (kept w r).0 (undamaged w r) c o;
    refused = λ w r c o h. refused w (kept w r).0 (undamaged w r) c o h;
  }

-- the machine's own core is one such
pub own_steps : (M : Machine) → Steps M (core_of M) (λ v. Unit {0})
own_steps M = record {
  begins = λ v b. (b.0, tt);
  world_is = λ v s u c o. refl;
  answer_is = λ v s u c o. refl;
  sound = λ v s u c o. tt;
  refused = λ v s u c o h. refused_same M v c h;
}
