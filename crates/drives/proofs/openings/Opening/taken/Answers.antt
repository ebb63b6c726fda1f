use borrow.Author.Rules.{rules}
use Rattle.drives.proofs.OpeningLaws.{taken-anchor, taken-sector, taken-set, wanting-low}
use Rattle.drives.proofs.openings.Opening.taken.Goals as goal

ruleset phases = (taken-anchor, taken-sector, taken-set, wanting-low, rules)

pub parse-requires : goal.parse-requires
parse-requires c = search phases

pub behind_anchor-requires : goal.behind_anchor-requires
behind_anchor-requires c = search phases

pub returns-then-self-eq-WANTS_ANCHOR : goal.returns-then-self-eq-WANTS_ANCHOR
returns-then-self-eq-WANTS_ANCHOR c = search phases

pub behind_sector-requires : goal.behind_sector-requires
behind_sector-requires c = search phases

pub returns-then-self-eq-WANTS_SEQUENCE : goal.returns-then-self-eq-WANTS_SEQUENCE
returns-then-self-eq-WANTS_SEQUENCE c = search phases

pub plain_mount-requires : goal.plain_mount-requires
plain_mount-requires c = search phases

pub volume_in-requires : goal.volume_in-requires
volume_in-requires c = search phases

pub over-requires : goal.over-requires
over-requires c = search phases

pub returns : goal.returns
returns c = search phases
