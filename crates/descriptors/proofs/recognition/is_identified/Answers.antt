-- `descriptors::recognition::is_identified` meets its contract: each byte is what the call that read it ensures. Assumes nothing.
use borrow.Author.Rules.{rules}
use Rattle.descriptors.proofs.RecognitionLaws.{identified-bytes}
use Rattle.descriptors.proofs.recognition.is_identified.Goals as goal

pub returns : goal.returns
returns c = search (identified-bytes, rules)
