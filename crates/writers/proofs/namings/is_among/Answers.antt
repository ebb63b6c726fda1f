-- `writers::namings::is_among` meets its contract: the test of any name is that of the definition. Assumes nothing.
use Rattle.std.proofs.Common.{rules, ◌∙◌, refl}
use borrow.Author.Tests.{tests}
use Rattle.std.proofs.lemmas.Iterator.Consumers.{YieldsList-from_first}
use Rattle.std.proofs.lemmas.Iterator.Search.{any_from_yields_List}
use Rattle.names.specs.Names.{lower, same_name}
use Rattle.writers.specs.Refusing.{names_in}
use Rattle.writers.proofs.NameLaws.{among-is}
use Rattle.writers.proofs.namings.is_among.Goals as goal

pub returns : goal.returns
returns c =
    any_from_yields_List (same_name lower c.args.name.now) c.any.new.self _ _ c.any.ensures.ran (YieldsList-from_first (λ x. x.now) (λ s. names_in s.0.now) (names_in c.args.others.now) refl) (λ x b q k. search (rules, tests))
    ∙ among-is c.args.name.now (names_in c.args.others.now)
