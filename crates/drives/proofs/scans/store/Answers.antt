use borrow.Author.Rules.{rules}
use Rattle.drives.proofs.ScanLaws.{store-placed, store-lost}
use Rattle.drives.proofs.scans.store.Goals as goal

ruleset stores = (store-placed, store-lost, rules)

pub words-requires : goal.words-requires
words-requires c = search stores

pub offset_bounds-row-i : goal.offset_bounds-row-i
offset_bounds-row-i c = search stores

pub bounds-row-i : goal.bounds-row-i
bounds-row-i c = search stores

pub overflow_add-r : goal.overflow_add-r
overflow_add-r c = search stores

pub shape_of-row-then-i-row : goal.shape_of-row-then-i-row
shape_of-row-then-i-row c = search stores

pub returns-then-i-row : goal.returns-then-i-row
returns-then-i-row c = search stores

pub returns : goal.returns
returns c = search stores
