use borrow.Author.Rules.{rules}
use Rattle.drives.proofs.OpeningLaws.{anchor-not, anchor-leads}
use Rattle.drives.proofs.openings.behind_anchor.Goals as goal

ruleset anchors = (anchor-not, anchor-leads, rules)

pub enum_known-anchor : goal.enum_known-anchor
enum_known-anchor c = search anchors

pub number-requires : goal.number-requires
number-requires c = search anchors

pub refused-requires : goal.refused-requires
refused-requires c = search anchors

pub over-requires : goal.over-requires
over-requires c = search anchors

pub begin_sequence-requires : goal.begin_sequence-requires
begin_sequence-requires c = search anchors

pub returns-in-Err : goal.returns-in-Err
returns-in-Err c = search anchors

pub returns-in-Ok : goal.returns-in-Ok
returns-in-Ok c = search anchors
