-- What a running request's numbers span: what is left of its buffer, and what is counted.
-- Assumes nothing.
use Rattle.std.specs.Prelude.{◌≡◌, Bool, true, ◌+◌, ◌<◌, eqb, leb, ltb}
use Rattle.base.specs.Choice.{and}
use Rattle.blocks.specs.declared.Kind.{Kind}
use Rattle.blocks.specs.declared.Kind.TheVariants.{Get, Put}
use Rattle.blocks.specs.declared.Way.{Way}
use Rattle.blocks.specs.declared.Way.TheVariants.{One, Characters, Record}
use Rattle.blocks.specs.declared.Run.{Run}
use Rattle.blocks.specs.Opening.{area_length}

abbrev pub way_in : Kind → Way
way_in (Get way) = way
way_in (Put way) = way

-- a character more can be counted
pub record Further (run : Run) : Type 0 where
  pub left : 0 < run.left
  pub place : run.place < area_length
  pub count : run.count < area_length

-- a running request's numbers fit its length and address: what is left is in the area, and what is counted before it
unfoldable pub span_fits : Way → Run → Bool
span_fits One run = and (eqb run.left 0) (eqb run.count 0)
span_fits Characters run = and (ltb 0 run.left) (and (leb (run.place + run.left) area_length) (leb run.count run.place))
span_fits Record run = and (ltb 0 (run.left + run.count)) (and (leb (run.place + run.left) area_length) (leb run.count run.place))

pub record Spans (way : Way) (run : Run) : Type 0 where
  pub span : span_fits way run ≡ true
