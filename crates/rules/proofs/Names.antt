-- The name of an opening is eleven bytes, or a bad one's none.
-- Assumes nothing.
use mathlib.Core.Path.{◌≡◌, refl, sym, subst}
use mathlib.Core.List.{List}
use Prim.Native.Nat.{ℕ}
use lib.ListN.{drop}
use Rattle.std.specs.Prelude.{Option}
use Rattle.names.specs.Names.{Eleven}
use Rattle.names.proofs.Reading.{read_eleven}
use Rattle.blocks.specs.declared.Device.{Device}
use Rattle.blocks.specs.declared.Device.TheVariants.{E, S, K, P, C, D}
use Rattle.plan.specs.Plan.{name_of}
use Rattle.rules.specs.Statuses.{HasName}

pub has_eleven : (device : Device) (area : List ℕ) (address : ℕ) (name : Option (List ℕ)) → HasName device area address name → Eleven name
has_eleven E area address name e = subst Eleven (sym e) refl
has_eleven S area address name e = subst Eleven (sym e) refl
has_eleven K area address name e = subst Eleven (sym e) refl
has_eleven P area address name e = subst Eleven (sym e) refl
has_eleven C area address name e = subst Eleven (sym e) refl
has_eleven D area address name r = read_eleven (drop (name_of area address) area) name r
