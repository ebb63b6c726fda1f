-- `writers::namings::is_good` meets its contract: 1 to 127 bytes, and all plain. Assumes nothing.
use Rattle.std.proofs.Common.{rules, ◌∙◌}
use borrow.Author.Tests.{tests}
use Rattle.std.proofs.lemmas.Iterator.{YieldsList-from_slice}
use Rattle.std.proofs.lemmas.Iterator.Search.{all_from_yields_List}
use Rattle.writers.specs.Refusing.{is_plain}
use Rattle.writers.proofs.NameLaws.{good-is, good-not}
use Rattle.writers.proofs.namings.is_good.Goals as goal

pub returns-then-contains : goal.returns-then-contains
returns-then-contains c =
    all_from_yields_List is_plain _ _ _ c.all.ensures.ran (YieldsList-from_slice c.args.name.now cc) (λ x b q k. search (rules, tests))
    ∙ good-is c.args.name.now (search (rules, tests)) (search (rules, tests))

pub returns-else-contains : goal.returns-else-contains
returns-else-contains c = c.if-contains.false ∙ good-not c.args.name.now (λ h. search (rules, tests))
