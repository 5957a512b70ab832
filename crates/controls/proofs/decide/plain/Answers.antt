-- The sixteen codes one by one, and each range of bytes by one computed test.
use native.Mathlib.Omega.{arith}
use borrow.Author.Tests.{ne_eqb, lt-leb}
use Rattle.controls.specs.Decide.{plain_of}
use Rattle.controls.proofs.Acts.{past, nothing_1, nothing_2, data_high}
use Rattle.controls.proofs.decide.plain.Goals as goal

pub returns-in-27 : goal.returns-in-27
unfolding plain_of
returns-in-27 c = rw c.in-27.is

pub returns-in-28 : goal.returns-in-28
unfolding plain_of
returns-in-28 c = rw c.in-28.is

pub returns-in-29 : goal.returns-in-29
unfolding plain_of
returns-in-29 c = rw c.in-29.is

pub returns-in-30 : goal.returns-in-30
unfolding plain_of
returns-in-30 c = rw c.in-30.is

pub returns-in-31 : goal.returns-in-31
unfolding plain_of
returns-in-31 c = rw c.in-31.is

pub returns-in-125 : goal.returns-in-125
unfolding plain_of
returns-in-125 c = rw c.in-125.is

pub returns-in-126 : goal.returns-in-126
unfolding plain_of
returns-in-126 c = rw c.in-126.is

pub returns-in-155 : goal.returns-in-155
unfolding plain_of
returns-in-155 c = rw c.in-155.is

pub returns-in_default : goal.returns-in_default
unfolding plain_of
returns-in_default c =
    let r = c.in_default.in_default-own.rest in
    simp (ne_eqb _ _ r.1, ne_eqb _ _ r.0.1, ne_eqb _ _ r.0.0.1, ne_eqb _ _ r.0.0.0.1, ne_eqb _ _ r.0.0.0.0.1, ne_eqb _ _ r.0.0.0.0.0.1, ne_eqb _ _ r.0.0.0.0.0.0.1, ne_eqb _ _ r.0.0.0.0.0.0.0.1, ne_eqb _ _ r.0.0.0.0.0.0.0.0.1, lt-leb 0x9C c.args.byte (omega arith), lt-leb 0xFD c.args.byte (omega arith))

pub returns-in_default-2 : goal.returns-in_default-2
returns-in_default-2 c = data_high _ (omega arith) (omega arith)

pub returns-in-127 : goal.returns-in-127
unfolding plain_of
returns-in-127 c = rw c.in-127.in-127-own.keys9

pub returns-in-127-2 : goal.returns-in-127-2
returns-in-127-2 c = nothing_1 _ (past _ c.in-127.if-byte-lt155-own.false c.in-127.in_default-own.rest.0.1) c.in-127.if-byte-lt160-own.true

pub returns-in-127-3 : goal.returns-in-127-3
returns-in-127-3 c = nothing_2 _ (omega arith) (omega arith)
