-- A whole show of a volume whose descriptors' bodies are checked: the same without that check, with every descriptor marked where it is parsed, the entries of
-- all its directories among them. Assumes nothing.
use mathlib.Core.Path.{◌≡◌}
use mathlib.Core.Bool.{true, ◌&&◌}
use mathlib.Core.List.{List, [], ◌∷◌, ◌++◌}
use Prim.Native.Nat.{ℕ, zero, suc, ◌-◌}
use native.Mathlib.Omega.{arith}
use lib.ListN.{length}
use lib.Dec.{leb}
use Rattle.disc.specs.declared.places.Mount.{Mount}
use Rattle.disc.specs.Places.{is_checked, unchecked}
use Rattle.disc.specs.Ask.{Ask}
use Rattle.disc.specs.declared.refusals.Refusal.TheVariants.{TooDeep}
use Rattle.disc.proofs.MarkedLaws.{done-guards, refuse-guards, pick-guards, then-guards}
use Rattle.records.specs.declared.allocations.LongAd.{LongAd}
use Rattle.identifiers.specs.Identifiers.{is_directory}
use Rattle.listings.specs.Entries.{Entry, is_skipped}
use Rattle.listings.proofs.GuardLaws.{entries-guards}
use Rattle.directories.proofs.GuardLaws.{directory-guards}
use Rattle.shows.specs.Shows.{Node, nodes_of, nodes_at, most_levels, tree, node_records, tree_records}
use Rattle.disc.specs.Marks.{Guards}
use Rattle.tags.specs.Heads.{right_at}

of-guards : (inside inside' : LongAd → Ask (List Node)) → ((icb : LongAd) → Guards right_at (inside icb) (inside' icb)) → (level : ℕ) (es : List Entry)
    → Guards right_at (nodes_of inside level es) (nodes_of inside' level es)
unfolding nodes_of
of-guards inside inside' h level [] = done-guards []
of-guards inside inside' h level (e ∷ es) =
    pick-guards (is_skipped e.identifier) (of-guards inside inside' h level es)
    (then-guards (pick-guards (is_directory e.identifier) (h e.identifier.icb) (done-guards [])) (λ below.
    then-guards (of-guards inside inside' h level es) (λ others.
    done-guards (record { level = level; entry = e } ∷ (below ++ others)))))

module _ (m : Mount) (c : is_checked m ≡ true) where
  pub nodes-guards : (left level work : ℕ) (icb : LongAd) → Guards right_at (nodes_at m left level work icb) (nodes_at (unchecked m) left level work icb)
  unfolding nodes_at
  nodes-guards zero level work icb = refuse-guards TooDeep (λ n. omega arith)
  nodes-guards (suc left) level work icb =
      rw c
      (then-guards (directory-guards m c work icb) (λ b.
      then-guards (entries-guards b) (λ es.
      of-guards (nodes_at m left (suc level) (work - length b)) (nodes_at (unchecked m) left (suc level) (work - length b)) (nodes-guards left (suc level) (work - length b)) level es)))

  module _ (levels work : ℕ) (root : LongAd) where
    pub tree-guards : Guards right_at (tree m levels work root) (tree (unchecked m) levels work root)
    unfolding tree
    tree-guards = pick-guards (leb 1 levels && leb levels most_levels) (nodes-guards levels 1 work root) (refuse-guards TooDeep (λ n. omega arith))

    pub tree-records-guards : Guards right_at (tree_records m levels work root) (tree_records (unchecked m) levels work root)
    unfolding tree_records
    tree-records-guards = then-guards tree-guards (λ ns. done-guards (node_records ns))
