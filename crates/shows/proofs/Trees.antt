-- What is proved of the nodes of an answered tree, said without the walk that gives them: which they are, and that a node's path leads to it. Assumes nothing.
use mathlib.Core.Path.{◌≡◌, refl, sym, ap, ◌∙◌}
use mathlib.Core.Bool.{Bool, true, false, ◌&&◌}
use mathlib.Core.List.{List, [], ◌∷◌, ◌++◌}
use mathlib.Core.Logic.{⊎_elim}
use Prim.Native.Nat.{ℕ, ◌-◌, ◌≤◌, ◌<◌}
use native.Mathlib.Omega.{arith}
use lib.Dec.{leb}
use lib.ListN.{length, take, drop}
use Rattle.disc.specs.Choice.{pick}
use Rattle.disc.specs.Counts.{reported}
use Rattle.disc.specs.Refusals.{number}
use Rattle.disc.specs.Replies.{reply_by, left_by, Replied}
use Rattle.disc.specs.Ran.{ran}
use Rattle.disc.specs.Budgets.{budgeted, over_run}
use Rattle.disc.specs.Ask.{Disc, Outcome, outcome, asked}
use Rattle.disc.specs.Ask.Ask.{done, refuse}
use Rattle.disc.specs.Ask.Outcome.{answered, refused}
use Rattle.disc.specs.Images.{disc}
use Rattle.disc.specs.declared.places.Mount.{Mount}
use Rattle.disc.specs.declared.refusals.Refusal.TheVariants.{NoRoom, TooDeep, OverBudget}
use Rattle.disc.specs.declared.replies.Reply.{Reply}
use Rattle.disc.proofs.RanLaws.{never}
use Rattle.disc.proofs.BudgetLaws.{budgeted-same, budgeted-over}
use Rattle.disc.proofs.ImageLaws.{split}
use Rattle.disc.proofs.RefusalLaws.{refusal-numbered}
use Rattle.records.specs.declared.allocations.LongAd.{LongAd}
use Rattle.listings.specs.declared.matchings.Matching.TheVariants.{AsWritten}
use Rattle.directories.specs.Lookups.{lookup_of}
use Rattle.shows.specs.Shows.{Node, nodes_at, most_levels, tree, node_records, tree_records}
use Rattle.shows.specs.Nodes.{TreeOf, ShowsTree, way_from, way_to, path_of, Plain}
use Rattle.shows.proofs.TreeLaws.{parts, BuiltAt, built-at, built-children, built-steps, built-each, each-split, parsed-entries}
use Rattle.shows.proofs.WayLaws.{built-way, way-found}
use Rattle.disc.specs.Parts.{Bytes}

module _ (d : Disc) (m : Mount) (levels work : ℕ) (root : LongAd) {ns : List Node} (e : outcome d (tree m levels work root) ≡ answered ns) where
  built : BuiltAt d m work 0 root ns
  unfolding tree outcome
  built = by (leb 1 levels && leb levels most_levels) e
    where
      by : (t : Bool) → outcome d (pick t (nodes_at m levels 1 work root) (refuse TooDeep)) ≡ answered ns → BuiltAt d m work 0 root ns
      by true k = built-at d m work levels 0 work (omega arith) root k
      by false k = never k

  -- ---- which nodes they are (RULES 8.35 and 8.36)

  -- the entries of the root are those of level 1; under each directory stand its entries, each once and in their order, and under a file nothing; and no level is left out
  pub tree-nodes : TreeOf d m root ns
  tree-nodes = record {
    roots = rw (built-children built.built) (parsed-entries built.from);
    each = λ before n behind z. each-split d m before n behind (rw z at (built-each built.built));
    steps = built-steps built.built;
  }

-- so a show that is answered has written the records of these nodes
unlimited-tree : (d : Disc) (m : Mount) (levels work : ℕ) (root : LongAd) {out after : List ℕ} {reply : Reply} → Replied NoRoom (ran d (tree_records m levels work root)) out after reply → reply.answer ≡ 0
    → ShowsTree d m root out after reply
unfolding ran tree_records outcome
unlimited-tree d m levels work root {out} {after} {reply} p z = by (outcome d (tree_records m levels work root)) refl (reported (length (asked d (tree_records m levels work root)))) p.says p.leaves
  where
    fits : (b : List ℕ) → outcome d (tree_records m levels work root) ≡ answered b → reply.length ≡ length b → after ≡ b ++ drop (length b) out → ShowsTree d m root out after reply
    fits b e f g =
        let q = parts d (tree m levels work root) (λ ns. done (node_records ns)) e in
        let y : answered (node_records q.a) ≡ answered b = q.second in
        let x : b ≡ node_records q.a = cc in
        record { ns = q.a; nodes = tree-nodes d m levels work root q.first; said = rw x at f; wrote = rw x at g }

    room : (b : List ℕ) (n : ℕ) → outcome d (tree_records m levels work root) ≡ answered b → (t : Bool)
        → reply ≡ pick t (record { answer = 0; count = n; length = length b }) (record { answer = number NoRoom; count = n; length = 0 }) → after ≡ pick t (b ++ drop (length b) out) out
        → ShowsTree d m root out after reply
    room b n e true f g = fits b e (ap (λ (x : Reply). x.length) f) g
    room b n e false f g = absurd (refusal-numbered NoRoom (sym (ap (λ (x : Reply). x.answer) f) ∙ z))

    by : (o : Outcome (List ℕ)) → outcome d (tree_records m levels work root) ≡ o → (n : ℕ) → reply ≡ reply_by NoRoom (length out) n o → after ≡ left_by out o → ShowsTree d m root out after reply
    by (answered b) e n f g = room b n e (leb (length b) (length out)) f g
    by (refused why) e n f g = absurd (refusal-numbered why (sym (ap (λ (x : Reply). x.answer) f) ∙ z))

pub show-tree : (d : Disc) (m : Mount) (levels work most : ℕ) (root : LongAd) {out after : List ℕ} {reply : Reply} → Replied NoRoom (ran d (budgeted most (tree_records m levels work root))) out after reply → reply.answer ≡ 0
    → ShowsTree d m root out after reply
show-tree d m levels work most root {out} {after} {reply} p z = ⊎_elim
    (λ (h : reported (ran d (tree_records m levels work root)).count ≤ most). unlimited-tree d m levels work root (rw (budgeted-same d (tree_records m levels work root) most h) at p) z)
    (λ (h : most < reported (ran d (tree_records m levels work root)).count).
    let q : Replied NoRoom (over_run most) out after reply = rw (budgeted-over d (tree_records m levels work root) most h) at p in
    absurd (refusal-numbered OverBudget (sym (ap (λ (x : Reply). x.answer) q.says) ∙ z)))
    (split (reported (ran d (tree_records m levels work root)).count) most)

-- ---- a node's path

-- looked up as written, with the work space that the tree had, it gives the node's ICB, where its names can be said and no directory on the way has two entries of the name that
-- is looked for there
pub path-leads : (image : List ℕ) → Bytes image → (m : Mount) (levels work : ℕ) (root : LongAd) {ns : List Node} → outcome (disc image) (tree m levels work root) ≡ answered ns
    → (before : List Node) (n : Node) (behind : List Node) → ns ≡ before ++ n ∷ behind → Plain (disc image) m root (way_to before n)
    → outcome (disc image) (lookup_of AsWritten m work root (path_of (way_to before n))) ≡ answered n.entry.identifier.icb
path-leads image are m levels work root e before n behind z p =
    let k : outcome (disc image) (tree m levels work root) ≡ answered (before ++ n ∷ behind) = rw z at e in
    let b = built (disc image) m levels work root k in
    way-found image are m work root (take (n.level - 1) (way_from [] before)) n p
    (built-way (disc image) m work root b.from before n behind b.built)
