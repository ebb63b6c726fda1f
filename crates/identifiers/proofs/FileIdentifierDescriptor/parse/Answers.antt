-- `identifiers::FileIdentifierDescriptor::parse` meets its contract: the gate's answer says which case of `read_identifier` holds. Assumes nothing.
use Rattle.disc.proofs.PassLaws.{passed}
use Rattle.identifiers.proofs.IdentifierLaws.{identifier-no, identifier-yes}
use Rattle.identifiers.proofs.FileIdentifierDescriptor.parse.Goals as goal

pub returns-in_err-read_head : goal.returns-in_err-read_head
returns-in_err-read_head c = passed c.from_residual.ensures.1 (identifier-no _ _ c.read_head.ensures c.in_err-read_head.was)

pub returns : goal.returns
returns c = identifier-yes _ _ c.read_head.ensures c.in_ok-read_head.was c.identifier_named.ensures
