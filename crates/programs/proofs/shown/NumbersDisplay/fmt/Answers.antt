-- The `fmt` of `programs::shown::Numbers` writes its output, if there is one. Assumes nothing.
use Rattle.std.proofs.Common.{Ok, refl}
use Rattle.std.proofs.Output.{if_some_weaken}
use Rattle.programs.specs.Shown.{shown_numbers}
use Rattle.programs.proofs.ShownLaws.{numbers-next, numbers-ends}
use Rattle.programs.proofs.shown.NumbersDisplay.fmt.Goals as goal

pub loop-n-preserved : goal.loop-n-preserved
loop-n-preserved g c =
    if_some_weaken (shown_numbers g.T.Display.output c.args.self.now.0.now) _ _ (λ whole before plain.
    numbers-next g.T.Display.output g.W.Write.write_str_gives _ _ _ (Ok c.in_ok-write.field-0) _ _ c.n-item.result whole c.loop-n-test.true c.n-item.is refl
    c.in_ok-write.ensures.writes (before plain)) c.loop-n.invariant

pub returns-clause-writes : goal.returns-clause-writes
returns-clause-writes g c =
    if_some_weaken (shown_numbers g.T.Display.output c.args.self.now.0.now) _ _ (λ whole before plain ok.
    numbers-ends g.T.Display.output g.W.Write.write_str_gives _ _ _ _ whole c.loop-n-test.false (before plain)) c.loop-n.invariant
