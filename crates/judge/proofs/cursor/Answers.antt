-- `cursor` meets its contract, by `cursor_text` and `cursor_picture`.
-- Assumes nothing.
use Rattle.judge.proofs.Calls.{cursor_text, cursor_picture}
use Rattle.judge.proofs.cursor.Goals as goal

pub returns-then-mode-eq0 : goal.returns-then-mode-eq0
returns-then-mode-eq0 c = search cursor_text

pub returns : goal.returns
returns c = search cursor_picture
