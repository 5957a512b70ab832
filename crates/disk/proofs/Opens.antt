-- An opening answers and leaves what the image's bytes say.
-- Assumes nothing.
use mathlib.Core.Path.{◌≡◌, ◌∙◌, refl, sym, subst}
use mathlib.Core.List.{List}
use Prim.Native.Nat.{ℕ, ◌-◌, ◌<◌, ◌≤◌}
use native.Mathlib.Omega.{arith}
use lib.ListN.{length}
use Rattle.base.proofs.Choices.{by_lt, by_eq}
use Rattle.std.specs.Prelude.{Option, Some, None}
use Rattle.names.specs.Names.{Eleven}
use Rattle.handler.specs.Answer.{Answer, answer}
use Rattle.handler.specs.declared.Asked.{Asked}
use Rattle.handler.specs.declared.Done.{Done}
use Rattle.handler.specs.declared.Done.TheVariants.{Success, Refused}
use Rattle.image.specs.Image.{first_of, match_from}
use Rattle.image.specs.Chain.{FirstMatch}
use Rattle.image.proofs.Standing.{match_low}
use Rattle.image.proofs.Chain.{first_rule}
use Rattle.disk.specs.Disk.{file_place, directory_place, place_opened}
use Rattle.disk.specs.Opens.{OpensPlace, named_badly, lists, none_there, finds, OpenRule}
use Rattle.disk.proofs.Laws.{open_found, open_none, open_directory_is, open_file_is, open_bad}
use Rattle.disk.proofs.Cases.{all_stored}

module _ (asked : Asked) (p images : List ℕ) (l : length p ≡ 15) where
  abbrev unit : ℕ
  unit = asked.number - 1

  abbrev as_found : ℕ → Answer Done (List ℕ)
  as_found entry = answer Success (file_place unit entry (first_of images unit entry))

  -- with a good name
  module _ (pattern : List ℕ) (g : asked.name ≡ Some pattern) where
    abbrev found : ℕ
    found = match_from images unit pattern 0

    opens_directory : length pattern ≡ 11 → asked.aux1 ≡ 6 → answer Success (directory_place unit pattern) ≡ place_opened asked p images
    opens_directory n a =
        open_directory_is p images asked unit refl pattern g (directory_place unit pattern) a (sym (all_stored p (directory_place unit pattern) l (omega arith)))

    opens_none : (asked.aux1 ≡ 6 → ⊥) → 64 ≤ found → answer (Refused 0xAA) p ≡ place_opened asked p images
    opens_none a h = open_file_is p images asked unit refl pattern g (answer (Refused 0xAA) p) a (open_none p images unit pattern found refl h)

    opens_file : (asked.aux1 ≡ 6 → ⊥) → found < 64 → as_found found ≡ place_opened asked p images
    opens_file a h =
        let place = file_place unit found (first_of images unit found) in
        open_file_is p images asked unit refl pattern g (as_found found) a (open_found p images unit pattern found refl (first_of images unit found) place h refl (sym (all_stored p place l refl)))

  always : (name : Option (List ℕ)) → asked.name ≡ name → Eleven name → OpensPlace asked p images (place_opened asked p images)
  always None g n = named_badly g (sym (open_bad p images asked g))
  always (Some pattern) g n =
      by_eq asked.aux1 6
      (λ a. lists pattern g a (sym (opens_directory pattern g n a)))
      (λ a. by_lt (found pattern g) 64
      (λ h. finds pattern (found pattern g) g a h (first_rule images unit pattern 0).always (sym (opens_file pattern g a h)))
      (λ h. let e : found pattern g ≡ 64 = omega (arith, h, match_low images unit pattern 0) in
      none_there pattern g a (subst (FirstMatch images unit pattern 0) e (first_rule images unit pattern 0).always) (sym (opens_none pattern g a h))))

  module _ (eleven : Eleven asked.name) where
    long : (pattern : List ℕ) → asked.name ≡ Some pattern → length pattern ≡ 11
    long pattern g = subst Eleven g eleven

    only : (a : Answer Done (List ℕ)) → OpensPlace asked p images a → a ≡ place_opened asked p images
    only a (named_badly g e) = e ∙ open_bad p images asked g
    only a (lists pattern g k e) = e ∙ opens_directory pattern g (long pattern g) k
    only a (none_there pattern g k f e) = e ∙ opens_none pattern g k (omega (arith, (first_rule images unit pattern 0).only 64 f))
    only a (finds pattern entry g k h f e) =
        let z : entry ≡ found pattern g = (first_rule images unit pattern 0).only entry f in
        e ∙ subst (λ (n : ℕ). as_found entry ≡ as_found n) z refl ∙ opens_file pattern g k (omega (arith, z, h))

    pub open_rule : OpenRule asked p images
    open_rule = record { always = always asked.name refl eleven; only = only }
