-- A list that has a port's bytes, and an IOCB of its table; one that has the bytes of blocks, and those of their places.
-- Assumes nothing.
use Rattle.std.specs.Prelude.{List, ℕ, ◌+◌, ◌*◌, ◌≤◌, ◌<◌, length}
use Rattle.disk.specs.Disk.{place_length}
use Rattle.layout.specs.Places.{block_length, port_length}

pub record Ported (bytes : List ℕ) (iocb : ℕ) : Type 0 where
  pub whole : port_length ≤ length bytes
  pub low : iocb < 8

pub record Blocks (bytes : List ℕ) (place at count : ℕ) : Type 0 where
  pub blocks : place + block_length * count ≤ length bytes
  pub places : at + place_length * count ≤ length bytes
