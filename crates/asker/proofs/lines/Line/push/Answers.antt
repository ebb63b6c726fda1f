-- `asker::lines::Line::push` puts a byte into a line. Assumes nothing.
use Rattle.std.proofs.Common.{rules}
use Rattle.asker.proofs.LineLaws.{full, pushed}
use Rattle.asker.proofs.lines.Line.push.Goals as goal

pub returns-then-self-lt-LINE : goal.returns-then-self-lt-LINE
returns-then-self-lt-LINE c = pushed _ _ (search rules) _ c.if-self-lt-LINE.true

pub returns-else-self-lt-LINE : goal.returns-else-self-lt-LINE
returns-else-self-lt-LINE c = full _ _ (search rules) _ (search rules)
