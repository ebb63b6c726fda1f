-- `writers::contents::are_short` meets its contract: the test of all lengths is that of the definition. Assumes nothing.
use Rattle.std.proofs.Common.{rules, ◌∙◌}
use lib.Dec.{leb}
use borrow.Author.Tests.{tests}
use Rattle.std.proofs.lemmas.Iterator.{YieldsList-from_slice}
use Rattle.std.proofs.lemmas.Iterator.Search.{all_from_yields_List}
use Rattle.writers.specs.Refusing.{longest}
use Rattle.writers.proofs.FileLaws.{short-all}
use Rattle.writers.proofs.contents.are_short.Goals as goal

pub returns : goal.returns
returns c =
    all_from_yields_List (λ n. leb n longest) _ _ _ c.all.ensures.ran (YieldsList-from_slice c.args.lengths.now cc) (λ x b q k. search (rules, tests))
    ∙ short-all c.args.lengths.now
