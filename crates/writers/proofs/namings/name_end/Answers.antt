-- `writers::namings::name_end` meets its contract: the first zero byte ends the name. Assumes nothing.
use Rattle.std.proofs.Common.{rules, arith, ◌≡◌, ◌∙◌, length}
use lib.Dec.{eqb}
use borrow.Author.Tests.{tests}
use Rattle.std.specs.List.{position}
use Rattle.std.proofs.lemmas.Iterator.{YieldsList-from_slice}
use Rattle.std.proofs.lemmas.Iterator.Search.{position_from_yields_List}
use Rattle.names.specs.Names.{until_zero}
use Rattle.writers.proofs.NameLaws.{name-end, name-short}
use Rattle.writers.proofs.namings.name_end.Goals as goal

pub returns : goal.returns
returns c =
    let e : c.position.result ≡ position (λ b. eqb b 0) c.args.names.now =
    position_from_yields_List (λ b. eqb b 0) _ _ c.position.result c.position.ensures.ran (YieldsList-from_slice c.args.names.now cc) (λ x b q k. search (rules, tests)) in
    let is : c.unwrap_or.result ≡ length (until_zero c.args.names.now) = c.unwrap_or.ensures ∙ name-end c.args.names.now e in
    record { is = is; within = omega (arith, is, name-short c.args.names.now) }
