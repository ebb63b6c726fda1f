use borrow.Author.Rules.{rules}
use Rattle.drives.proofs.EntryLaws.{embed-full, embed-done}
use Rattle.drives.proofs.located.take_embedded.Goals as goal

ruleset embeds = (embed-full, embed-done, rules)

pub put-k-requires : goal.put-k-requires
put-k-requires c = search embeds

pub longer_by-x-requires : goal.longer_by-x-requires
longer_by-x-requires c = search embeds

pub over-requires : goal.over-requires
over-requires c = search embeds

pub shape_of-out-then-k-bytes : goal.shape_of-out-then-k-bytes
shape_of-out-then-k-bytes c = search embeds

pub returns-then-k-bytes : goal.returns-then-k-bytes
returns-then-k-bytes c = search embeds

pub over-requires-2 : goal.over-requires-2
over-requires-2 c = search embeds

pub shape_of-out : goal.shape_of-out
shape_of-out c = search embeds

pub returns : goal.returns
returns c = search embeds
