use mathlib.Core.Path.{refl}
use native.Mathlib.Omega.{arith}
use borrow.Author.Rules.{rules}
use Rattle.drives.proofs.ScanLaws.{byte-closed, byte-carried, byte-whole, byte-index}
use Rattle.drives.proofs.scans.take_byte.Goals as goal

ruleset bytes = (byte-closed, byte-carried, byte-whole, byte-index, rules)

pub returns-then-s-ne0 : goal.returns-then-s-ne0
returns-then-s-ne0 c = search bytes

pub bounds-carry-i : goal.bounds-carry-i
bounds-carry-i c = search bytes

pub size_of-requires : goal.size_of-requires
size_of-requires c = search bytes

pub overflow_add-i : goal.overflow_add-i
overflow_add-i c = search bytes

pub take_descriptor-requires : goal.take_descriptor-requires
take_descriptor-requires c = search bytes

pub shape_of-row-then-size_of-i : goal.shape_of-row-then-size_of-i
shape_of-row-then-size_of-i c = search bytes

pub returns-then-size_of-i : goal.returns-then-size_of-i
returns-then-size_of-i c = let z = c.if-s-ne0.false in let e = c.size_of.ensures in let h = c.if-size_of-i.true in byte-whole _ _ _ _ c.requires z (search rules) (omega arith) _ _ c.take_descriptor.ensures

pub overflow_add-r : goal.overflow_add-r
overflow_add-r c = search bytes

pub returns : goal.returns
returns c = let z = c.if-s-ne0.false in let e = c.size_of.ensures in let h = c.if-size_of-i.false in byte-carried _ _ _ _ c.requires z (search rules) _ (omega arith) refl refl refl refl refl
