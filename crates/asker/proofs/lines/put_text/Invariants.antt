-- `asker::lines::put_text` puts a text into a line: the line holds no more than it has room for, and with the bytes from the index on it is the whole. Assumes nothing.
use Rattle.std.proofs.Common.{◌≡◌, ◌++◌, take, drop}
use Rattle.programs.specs.Shown.{escaped}
use Rattle.asker.proofs.lines.put_text.Given as goal

abbrev pub invariant-loop-b : goal.invariant-loop-b
invariant-loop-b l =
    let now = take l.line.length l.line.bytes in
    (now ≡ take 65536 now) × (take 65536 (now ++ escaped (drop l.b-index l.text)) ≡ take 65536 (take l.fn.line.length l.fn.line.bytes ++ escaped l.text))
