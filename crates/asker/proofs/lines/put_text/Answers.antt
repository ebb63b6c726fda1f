-- `asker::lines::put_text` puts a text into a line. Assumes nothing.
use Rattle.std.proofs.Common.{rules, refl, ap, sym, ◌∙◌, ◌≡◌, ◌+◌, ◌++◌, get_or, take, drop}
use Rattle.std.proofs.lemmas.List.{take-append-le}
use Rattle.programs.specs.Shown.{escaped, escaped_byte}
use Rattle.programs.proofs.ShownLaws.{escaped-next, escaped-ends}
use Rattle.asker.proofs.LineLaws.{cut-again, stays-cut, held}
use Rattle.asker.proofs.lines.put_text.Goals as goal

pub loop-b-init : goal.loop-b-init
loop-b-init c = (held _ _ (search rules), refl)

pub loop-b-preserved : goal.loop-b-preserved
loop-b-preserved c =
    let l = c.loop-b.line in
    let now = take l.length l.bytes in
    let l' = c.put_byte.new.line in
    let b = get_or c.args.text.now c.loop-b.b-index 0 in
    let put : take l'.length l'.bytes ≡ take 65536 (now ++ escaped_byte b) = search rules in (
      stays-cut 65536 (now ++ escaped_byte b) put,
      ap (λ s. take 65536 (s ++ escaped (drop (c.loop-b.b-index + 1) c.args.text.now))) put
          ∙ cut-again 65536 (now ++ escaped_byte b) _
          ∙ ap (take 65536) (escaped-next c.args.text.now c.loop-b.b-index now c.loop-b-test.true refl)
          ∙ c.loop-b.invariant.1,
    )

pub returns-then-text-ge-LINE : goal.returns-then-text-ge-LINE
returns-then-text-ge-LINE c =
    let now = take c.loop-b.line.length c.loop-b.line.bytes in
    c.loop-b.invariant.0 ∙ sym (take-append-le 65536 now _ (search rules)) ∙ c.loop-b.invariant.1

pub returns : goal.returns
returns c =
    let now = take c.loop-b.line.length c.loop-b.line.bytes in
    c.loop-b.invariant.0 ∙ ap (take 65536) (escaped-ends c.args.text.now c.loop-b.b-index now c.loop-b-test.false refl) ∙ c.loop-b.invariant.1
