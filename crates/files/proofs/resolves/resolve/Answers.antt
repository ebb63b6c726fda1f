-- `files::resolves::resolve` meets its contract: the entry, and then its chain. Assumes nothing.
use borrow.Author.Rules.{rules}
use Rattle.disc.proofs.PassLaws.{as-passed}
use Rattle.files.proofs.EntryLaws.{resolve-refused, resolve-embedded, broken-fits, resolve-broken, whole-fits, resolve-whole}
use Rattle.files.proofs.resolves.resolve.Goals as goal

ruleset resolves = (resolve-refused, resolve-embedded, broken-fits, resolve-broken, whole-fits, resolve-whole, rules)

pub returns-then-p-eq-EMBEDDED : goal.returns-then-p-eq-EMBEDDED
returns-then-p-eq-EMBEDDED c = search resolves

pub returns-in-Err : goal.returns-in-Err
returns-in-Err c = search resolves

pub returns-in_err-p : goal.returns-in_err-p
returns-in_err-p c = rw (as-passed c.from_residual.ensures.1) (resolve-refused _ _ _ c.locate.ensures c.in_err-p.was)

pub returns-in-Ok : goal.returns-in-Ok
returns-in-Ok c = search resolves
