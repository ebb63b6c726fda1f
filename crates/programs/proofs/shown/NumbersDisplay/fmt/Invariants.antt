-- The `fmt` of `programs::shown::Numbers` writes its output, if there is one: what is written, with the items from the index on, is the whole. Assumes nothing.
use Rattle.std.proofs.Common.{drop}
use Rattle.std.specs.Prelude.{IfSome}
use Rattle.std.specs.Fmt.{IsPlainFormatter}
use Rattle.programs.specs.Shown.{shown_numbers}
use Rattle.programs.proofs.ShownLaws.{Showing}
use Rattle.programs.proofs.shown.NumbersDisplay.fmt.Given as goal

abbrev pub invariant-loop-n : goal.invariant-loop-n
invariant-loop-n g l =
    IfSome (shown_numbers g.T.Display.output l.self.0.now) (λ whole.
    IsPlainFormatter l.fn.f → Showing g.T.Display.output g.W.Write.write_str_gives l.fn.f l.f (drop l.n-index l.n-items) whole)
