-- `cue_stacks::items::item_end` meets its contract: the bytes before the next zero, counted. Assumes nothing.
use Prim.Native.Nat.{◌+◌}
use mathlib.Core.Path.{◌≡◌, refl, ap, sym, ◌∙◌}
use lib.ListN.{drop}
use borrow.Author.Rules.{rules}
use borrow.Author.Tests.{tests}
use Rattle.std.proofs.lemmas.Iterator.{IsFirst-from_position, YieldsList-from_slice}
use Rattle.disc.proofs.PartLaws.{rest-by-get}
use Rattle.cue_stacks.proofs.ItemLaws.{item-counted}
use Rattle.cue_stacks.proofs.items.item_end.Goals as goal

pub returns : goal.returns
returns c =
    let rest : c.unwrap_or-rest.result.now ≡ drop c.args.at c.args.paths.now = rw c.unwrap_or-rest.ensures (rest-by-get c.args.paths.now c.args.at c.get.result _ refl c.get.ensures.lookup) in
    let first = IsFirst-from_position _ _ _ (λ b. b ≡ 0) (λ b. b ≡ 0 → ⊥) c.position.ensures.ran (YieldsList-from_slice (drop c.args.at c.args.paths.now) (c.iter.ensures.rest ∙ rest)) (λ x q k. search (rules, tests)) (λ x q k. search (rules, tests)) in
    ap (λ n. c.args.at + n) (rw (c.unwrap_or.ensures, rest) (sym (item-counted (drop c.args.at c.args.paths.now) c.position.result first)))
