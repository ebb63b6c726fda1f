-- `shows::nodes::put_record` meets its contract: the name behind 22 bytes, and over these the head and the mark with the level. Assumes nothing.
use borrow.Author.Rules.{rules}
use Rattle.shows.proofs.NodeLaws.{leveled-short, leveled-cut, leveled-put}
use Rattle.shows.proofs.nodes.put_record.Goals as goal

ruleset records = (leveled-short, leveled-cut, leveled-put, rules)

pub returns-then-out-lt-HEAD : goal.returns-then-out-lt-HEAD
returns-then-out-lt-HEAD c = search records

pub returns-then-out-n : goal.returns-then-out-n
returns-then-out-n c = search records

pub returns : goal.returns
returns c = leveled-put _ _ _ _ _ c.put_name-n.ensures (search rules) c.if-out-lt-HEAD.false c.if-out-n.false c.directory_bit.ensures c.record_head-h.ensures c.copy.ensures
    c.copy-2.ensures
