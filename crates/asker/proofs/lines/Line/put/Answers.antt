-- `asker::lines::Line::put` puts a text into a line. Assumes nothing.
use Rattle.std.proofs.Common.{rules}
use Rattle.asker.proofs.LineLaws as law
use Rattle.asker.proofs.lines.Line.put.Goals as goal

pub returns : goal.returns
returns c =
    let line = c.args.self.now in
    law.put line.bytes line.length (search rules) c.args.text.now _ c.min-from.result c.min.result c.min-from.ensures c.min.ensures c.copy.ensures
