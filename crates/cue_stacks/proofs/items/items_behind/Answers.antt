-- `cue_stacks::items::items_behind` meets its contract: an item for each zero. Assumes nothing.
use mathlib.Core.Path.{sym, ◌∙◌}
use lib.Dec.{eqb}
use borrow.Author.Rules.{rules}
use borrow.Author.Tests.{tests}
use Rattle.std.proofs.lemmas.Iterator.{YieldsList-from_slice}
use Rattle.std.proofs.lemmas.Iterator.Consumers.{YieldsList-from_filter, count_from_yields_List}
use Rattle.cue_stacks.proofs.ItemLaws.{zeros-counted}
use Rattle.cue_stacks.proofs.items.items_behind.Goals as goal

pub returns : goal.returns
returns c =
    count_from_yields_List c.filter.result _ c.count.ensures.ran (YieldsList-from_filter _ (λ b. eqb b 0) (YieldsList-from_slice c.args.paths.now cc) c.filter.ensures.closure (λ x b q k. search (rules, tests)))
    ∙ sym (zeros-counted c.args.paths.now)
