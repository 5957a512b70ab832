-- `fits` meets its contract, by `tests` and `fits_writing`.
-- Assumes nothing.
use Rattle.base.proofs.Tests.{tests}
use Rattle.cassette.specs.Fit.{fits_cassette}
use Rattle.recorder.proofs.Laws.{fits_writing}
use Rattle.recorder.proofs.fits.Goals as goal

pub returns-then-cassette-le250 : goal.returns-then-cassette-le250
unfolding fits_cassette
returns-then-cassette-le250 c = search tests

pub returns-then-cassette-eq1 : goal.returns-then-cassette-eq1
unfolding fits_cassette
returns-then-cassette-eq1 c = search tests

pub returns-then-cassette-eq2 : goal.returns-then-cassette-eq2
unfolding fits_cassette
returns-then-cassette-eq2 c = search fits_writing

pub returns-then-cassette-eq0 : goal.returns-then-cassette-eq0
unfolding fits_cassette
returns-then-cassette-eq0 c = search tests

pub returns-then-cassette-le3 : goal.returns-then-cassette-le3
unfolding fits_cassette
returns-then-cassette-le3 c = search tests

pub returns : goal.returns
unfolding fits_cassette
returns c = search tests
