-- Undamaged gatherings and replies (document 01, "Calls"): "Damaged: a stored number outside its range here".
-- Assumes nothing.
use Rattle.std.specs.Prelude.{Bool, ◌+◌, eqb, ltb}
use Rattle.base.specs.Choice.{pick, and, within}
use Rattle.blocks.specs.declared.Gather.{Gather}
use Rattle.blocks.specs.declared.Reply.{Reply}
use Rattle.wire.specs.Messages.{room_length}

-- fewer bytes are taken than the field has, and the numbers of a header that is not taken yet are 0
unfoldable pub gather_fits : Gather → Bool
gather_fits gather =
    pick (eqb gather.taken 0) (and (eqb gather.tag 0) (eqb gather.length 0))
    (pick (eqb gather.taken 1) (eqb gather.length 0)
    (pick (eqb gather.taken 2) (ltb gather.length 256)
    (ltb gather.taken (3 + gather.length))))

-- a reply has 4 bytes at least, one of FETCH with 256 bytes 260, and fewer are given than it has
unfoldable pub reply_fits : Reply → Bool
reply_fits reply = and (within 4 room_length reply.length) (ltb reply.given reply.length)
