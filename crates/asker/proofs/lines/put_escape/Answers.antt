-- `asker::lines::put_escape` puts a backslash and two hex digits into a line. Assumes nothing.
use Rattle.std.proofs.Common.{[], ◌∷◌, take}
use Rattle.asker.proofs.LineLaws.{puts}
use Rattle.asker.proofs.lines.put_escape.Goals as goal

pub returns : goal.returns
returns c =
    let line = c.args.line.now in
    let text = take line.length line.bytes in
    let high = c.high_digit.result ∷ [] in
    let both = puts 65536 text (92 ∷ []) high c.push.ensures c.push-2.ensures in
    let all = puts 65536 text (92 ∷ high) (c.low_digit.result ∷ []) both c.push-3.ensures in
    rw (c.high_digit.ensures.0, c.low_digit.ensures.0) at all
