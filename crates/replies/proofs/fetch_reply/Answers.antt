-- `fetch_reply` meets its contract, by `fetch_few`, `fetch_many`, `fetch_past` and `fetch_made`.
-- Assumes nothing.
use Rattle.replies.proofs.Stores.{fetch_few, fetch_many, fetch_past, fetch_made}
use Rattle.replies.proofs.fetch_reply.Goals as goal

pub returns-then-count-lt1 : goal.returns-then-count-lt1
returns-then-count-lt1 c = search fetch_few

pub returns-then-count-gt256 : goal.returns-then-count-gt256
returns-then-count-gt256 c = search fetch_many

pub returns-then-address-count-gt-AREA : goal.returns-then-address-count-gt-AREA
returns-then-address-count-gt-AREA c = search fetch_past

pub returns : goal.returns
returns c = search fetch_made
