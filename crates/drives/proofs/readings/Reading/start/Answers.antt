use borrow.Author.Rules.{rules}
use Rattle.drives.proofs.ReadLaws.{start-short, start-nowhere, start-at}
use Rattle.drives.proofs.StartLaws.{short-is, nowhere-is, placed-is}
use Rattle.drives.proofs.readings.Reading.start.Goals as goal

ruleset starts = (start-short, start-nowhere, start-at, short-is, nowhere-is, placed-is, rules)

pub clear_row-requires : goal.clear_row-requires
clear_row-requires c = search starts

pub at_entry-of_entry-requires : goal.at_entry-of_entry-requires
at_entry-of_entry-requires c = search starts

pub before-requires : goal.before-requires
before-requires c = search starts

pub over-requires : goal.over-requires
over-requires c = search starts

pub shape_of-row-then-icb-eq0 : goal.shape_of-row-then-icb-eq0
shape_of-row-then-icb-eq0 c = search starts

pub returns-then-icb-eq0 : goal.returns-then-icb-eq0
returns-then-icb-eq0 c = let z = c.clear_row.ensures in let f = c.at_entry-of_entry.ensures in let l = c.if-icb-eq0.true in let b = c.before-then-icb-eq0.ensures in let p = c.over.ensures in search starts

pub icb_placed-requires : goal.icb_placed-requires
icb_placed-requires c = search starts

pub enum_told-1 : goal.enum_told-1
enum_told-1 c = search starts

pub before-requires-in-None : goal.before-requires-in-None
before-requires-in-None c = search starts

pub over-requires-in-None : goal.over-requires-in-None
over-requires-in-None c = search starts

pub enum_known-sector : goal.enum_known-sector
enum_known-sector c = search starts

pub before-requires-in-Some : goal.before-requires-in-Some
before-requires-in-Some c = search starts

pub returns-in-None : goal.returns-in-None
returns-in-None c = let z = c.clear_row.ensures in let f = c.at_entry-of_entry.ensures in let l = c.if-icb-eq0.false in let q = c.icb_placed.ensures in let b = c.before-in-None.ensures in let p = c.over-in-None.ensures in search starts

pub returns-in-Some : goal.returns-in-Some
returns-in-Some c = let z = c.clear_row.ensures in let f = c.at_entry-of_entry.ensures in let l = c.if-icb-eq0.false in let q = c.icb_placed.ensures in let b = c.before-in-Some.ensures in search starts
