-- The cassette's group undamaged, and its tape and pending characters of the right lengths.
-- Assumes nothing.
use Rattle.std.specs.Prelude.{◌≡◌, Bool, true, eqb, leb, length}
use Rattle.base.specs.Choice.{pick, and, or}
use Rattle.cassette.specs.declared.Cassette.{Cassette}
use Rattle.records.specs.Records.{tape_length}
use Rattle.cassette.specs.Cassette.{CassetteGroup}

-- "Damaged: .. reading with record above 250 or place above 127; writing with record above 249, pending above 127, or pending at record
-- 249; other numbers than 0 when closed or open with neither bit"
unfoldable pub fits_cassette : Cassette → Bool
fits_cassette c =
    pick (eqb c.mark 1) (and (leb c.«record» 250) (leb c.place 127))
    (pick (eqb c.mark 2) (or (and (leb c.«record» 248) (leb c.place 127)) (and (eqb c.«record» 249) (eqb c.place 0)))
    (and (leb c.mark 3) (and (eqb c.«record» 0) (eqb c.place 0))))

pub record FitCassette (g : CassetteGroup) : Type 0 where
  pub fits : fits_cassette g.cassette ≡ true
  pub pending : length g.pending ≡ 128
  pub tape : length g.tape ≡ tape_length
