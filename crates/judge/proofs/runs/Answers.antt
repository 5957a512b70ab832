-- `runs` meets its contract, by `calls` and `span_is`.
-- Assumes nothing.
use Rattle.judge.proofs.Calls.{calls, span_is}
use Rattle.damage.specs.Whole.{run_whole}
use Rattle.judge.proofs.runs.Goals as goal

pub returns-then-mode_fits : goal.returns-then-mode_fits
unfolding run_whole
returns-then-mode_fits c = search (calls, span_is)

pub returns-then-opened : goal.returns-then-opened
unfolding run_whole
returns-then-opened c = search calls

pub returns-then-iocb-lt8 : goal.returns-then-iocb-lt8
unfolding run_whole
returns-then-iocb-lt8 c = search calls

pub returns-then-run_stands : goal.returns-then-run_stands
unfolding run_whole
returns-then-run_stands c = search calls

pub returns : goal.returns
unfolding run_whole
returns c = search calls
