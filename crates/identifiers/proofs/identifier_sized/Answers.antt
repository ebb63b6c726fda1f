-- `identifiers::identifier_sized` meets its contract: each return is a case of `identifier_sized`. Assumes nothing.
use borrow.Author.Rules.{rules}
use Rattle.disc.proofs.PassLaws.{passed}
use Rattle.identifiers.proofs.IdentifierLaws.{sized-not, sized-whole}
use Rattle.identifiers.proofs.identifier_sized.Goals as goal

pub returns-in_err-size : goal.returns-in_err-size
returns-in_err-size c = passed c.from_residual.ensures.1 (sized-not _ _ _ _ c.in_err-size.was)

pub returns : goal.returns
returns c = search (sized-whole, rules)
