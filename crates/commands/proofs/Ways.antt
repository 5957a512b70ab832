-- What `way_of` and `transfer_kind` return, from what their tests tell.
-- Assumes nothing.
use mathlib.Core.Path.{◌≡◌}
use mathlib.Core.Bool.{Bool, true, false}
use Prim.Native.Nat.{ℕ}
use borrow.Author.Tests.{eq-eqb, ne_eqb}
use Rattle.blocks.specs.declared.Way.{Way}
use Rattle.blocks.specs.declared.Way.TheVariants.{One, Characters, Record}
use Rattle.blocks.specs.declared.Kind.TheVariants.{Get, Put}
use Rattle.commands.specs.Commands.{way_of, kind_of}

module _ (records : Bool) (length : ℕ) where
  pub way_one : length ≡ 0 → One ≡ way_of records length
  unfolding way_of
  way_one h = rw (eq-eqb length 0 h)

  pub way_record : (length ≡ 0 → ⊥) → records ≡ true → Record ≡ way_of records length
  unfolding way_of
  way_record h e = rw (ne_eqb length 0 h, e)

  pub way_characters : (length ≡ 0 → ⊥) → records ≡ false → Characters ≡ way_of records length
  unfolding way_of
  way_characters h e = rw (ne_eqb length 0 h, e)

module _ (reads records : Bool) (length : ℕ) (way : Way) (u : way ≡ way_of records length) where
  pub kind_get : reads ≡ true → Get way ≡ kind_of reads (way_of records length)
  kind_get e = rw (u, e)

  pub kind_put : reads ≡ false → Put way ≡ kind_of reads (way_of records length)
  kind_put e = rw (u, e)
