-- What is proved of whole shows, from the definitions alone: which numbers of levels are refused and when a directory is too deep, what a show is of one directory's
-- listing, that more levels than a tree has change nothing, which refusals a show can come to, its list of sectors, and that its contract leaves one result.
-- Assumes nothing.
use mathlib.Core.Path.{◌≡◌, refl, sym, ap, ◌∙◌}
use mathlib.Core.Bool.{Bool, true, false, ◌&&◌}
use mathlib.Core.List.{List, [], ◌∷◌, ◌++◌}
use mathlib.Core.Logic.{◌⊎◌, ⊎_elim}
use Prim.Native.Nat.{ℕ, zero, suc, ◌+◌, ◌-◌, ◌≤◌, ◌<◌, min}
use native.Mathlib.Nat.{add-zero}
use native.Mathlib.Omega.{arith}
use lib.ListN.{length}
use lib.Dec.{leb}
use borrow.Author.Tests.{eq-eqb, ne_eqb}
use Rattle.disc.specs.Choice.{pick}
use Rattle.disc.specs.Counts.{reported}
use Rattle.disc.specs.Places.{is_checked, unchecked}
use Rattle.disc.specs.Ask.{Disc, Ask, Outcome, outcome, asked, then, ended, and_then, Agree}
use Rattle.disc.specs.Ask.Ask.{done, refuse, ask}
use Rattle.disc.specs.Ask.Outcome.{answered, refused}
use Rattle.disc.specs.Budgets.{budgeted}
use Rattle.disc.proofs.BudgetLaws.{budgeted-guards}
use Rattle.disc.specs.Ran.{Ran, ran, onward, followed}
use Rattle.disc.specs.Replies.{Replied}
use Rattle.disc.specs.declared.places.Mount.{Mount}
use Rattle.disc.specs.declared.refusals.Refusal.{Refusal}
use Rattle.disc.specs.declared.refusals.Refusal.TheVariants.{Malformed, NoRoom, NoWork, BadCrc, TooDeep}
use Rattle.disc.specs.declared.replies.Reply.{Reply}
use Rattle.disc.proofs.AskLaws.{asked-done}
use Rattle.disc.proofs.MarkedLaws.{guards-outcome, guards-asked}
use Rattle.disc.proofs.OnlyLaws.{done-only, refuse-only, ask-only, pick-only, then-only, only-answers}
use Rattle.disc.proofs.RanLaws.{ran-done, ran-refuse, ran_then, never, ran-known}
use Rattle.disc.proofs.ReplyLaws.{reply-counts, replied-one, same-replied}
use Rattle.records.specs.declared.allocations.LongAd.{LongAd}
use Rattle.names.specs.Names.{pairs, until_zero, surrogate, drop_surrogates, encode, utf8, name_of}
use Rattle.crcs.specs.Crcs.{crc_from, crc_of}
use Rattle.tags.specs.Tags.{body_right, with_body, with_id, read_head}
use Rattle.identifiers.specs.Identifiers.{name_at, name_end, recorded_name, next_at, identifier_of, identifier_sized, identifier_named, read_identifier, is_directory}
use Rattle.files.specs.Files.{file_bytes}
use Rattle.listings.specs.Entries.{Entry, entry_read, is_skipped, name_in, entries_from, entries}
use Rattle.listings.specs.Listings.{record_head, entry_record, records, listing}
use Rattle.listings.proofs.Promises.{entries-refused}
use Rattle.directories.specs.Directories.{within, directory_bytes, listing_at}
use Rattle.directories.proofs.Promises.{no-work}
use Rattle.shows.specs.Shows.{Node, under, nodes_of, nodes_at, most_levels, tree, leveled, node_record, node_records, tree_records}
use Rattle.shows.proofs.ShowLaws.{tree-none, tree-many, tree-within}
use Rattle.shows.proofs.GuardLaws.{tree-records-guards}
use Rattle.shows.proofs.MoreLaws.{extends-same, extends-then, extends-alike, nodes-extends}
use Rattle.disc.specs.Marks.{is_bad}
use Rattle.disc.specs.Refusing.{Refuses, Any}
use Rattle.listings.specs.Example.{entry_a}
use Rattle.shows.specs.Levels.{Alike, Eleven, counted, leveled_records, level_nodes, NoDirectory, at_level, AtLeast, AnyRefusal, directory_run, entries_run}

-- ---- the levels that are asked for (RULES 8.37)

at_once : {A : Type 0} (d : Disc) {m : Ask A} → m ≡ refuse TooDeep → Eleven d m
unfolding outcome asked
at_once d e = rw e (record { refuses = refl; numbered = refl; asks = refl })

module _ (d : Disc) (m : Mount) (work : ℕ) where
  -- a number of levels that is 0 or over 16 is refused by 11 at once
  pub levels-refused : (levels : ℕ) (root : LongAd) → (levels ≡ 0) ⊎ (most_levels < levels) → Eleven d (tree_records m levels work root)
  unfolding tree_records then
  levels-refused levels root h = at_once d (rw (⊎_elim (tree-none m work root levels) (tree-many m work root levels) h))

  -- a directory with no level left is refused by 11 before its sectors
  pub too-deep : (level : ℕ) (icb : LongAd) → Eleven d (nodes_at m 0 level work icb)
  unfolding nodes_at
  too-deep level icb = at_once d refl

  -- so a directory among the entries of the last level is, at its turn, whatever it holds and whatever stands behind it
  pub last-level : (level below : ℕ) (e : Entry) (es : List Entry) → is_skipped e.identifier ≡ false → is_directory e.identifier ≡ true → Eleven d (nodes_of (nodes_at m 0 below work) level (e ∷ es))
  unfolding nodes_at nodes_of then
  last-level level below e es h k = at_once d (rw (h, k))

-- ---- a directory on the way down (RULES 8.38 and 8.39)

module _ (d : Disc) (m : Mount) (left level work : ℕ) (icb : LongAd) where
  nodes-is : ran d (nodes_at m (suc left) level work icb)
      ≡ followed (directory_run d m work icb) (λ b. ran d (then (ended (entries (is_checked m) b)) (λ es. nodes_of (nodes_at m left (suc level) (work - length b)) level es)))
  unfolding nodes_at
  nodes-is = ran_then d (directory_bytes m work icb) (λ b. then (ended (entries (is_checked m) b)) (λ es. nodes_of (nodes_at m left (suc level) (work - length b)) level es))

  -- one that doesn't fit behind those above it is 6, after the sectors of reading it
  pub no-fit : {b : List ℕ} → (ran d (file_bytes m icb)).outcome ≡ answered b → work < length b
      → ran d (nodes_at m (suc left) level work icb) ≡ counted (ran d (file_bytes m icb)).count (refused NoWork)
  no-fit e h = nodes-is ∙ rw (no-work d m work icb e h)

  -- one with a bad entry is refused as the entry is, once it is read and before any of its entries has its turn
  pub bad-entry : {b : List ℕ} {why : Refusal} → (directory_run d m work icb).outcome ≡ answered b → entries (is_checked m) b ≡ refused why
      → ran d (nodes_at m (suc left) level work icb) ≡ counted (directory_run d m work icb).count (refused why)
  unfolding then
  bad-entry {why = why} e h = nodes-is ∙ rw (e, h, ran-refuse {A = List Node} d why, add-zero)

-- ---- a show and a listing (RULES 8.34 and 8.35)

pub level-records : (level : ℕ) (es : List Entry) → node_records (level_nodes level es) ≡ leveled_records level es
unfolding level_nodes leveled_records node_records node_record
level-records level [] = refl
level-records level (e ∷ es) = by (is_skipped e.identifier) (level-records level es)
  where
    by : (t : Bool) → node_records (level_nodes level es) ≡ leveled_records level es
        → node_records (pick t (level_nodes level es) (record { level = level; entry = e } ∷ level_nodes level es)) ≡ pick t (leveled_records level es) (leveled level (entry_record e) ++ leveled_records level es)
    by true h = h
    by false h = ap (λ r. leveled level (entry_record e) ++ r) h

plain-nodes : (inside : LongAd → Ask (List Node)) (level : ℕ) (es : List Entry) → NoDirectory es → nodes_of inside level es ≡ done (level_nodes level es)
unfolding nodes_of then NoDirectory level_nodes
plain-nodes inside level [] h = refl
plain-nodes inside level (e ∷ es) h = by (is_skipped e.identifier) h.0 (plain-nodes inside level es h.1)
  where
    by : (t : Bool) → (t ≡ false → is_directory e.identifier ≡ false) → nodes_of inside level es ≡ done (level_nodes level es)
        → pick t (nodes_of inside level es) (then (under inside e) (λ below. then (nodes_of inside level es) (λ others. done (record { level = level; entry = e } ∷ (below ++ others)))))
        ≡ done (pick t (level_nodes level es) (record { level = level; entry = e } ∷ level_nodes level es))
    by true k ih = ih
    by false k ih = rw (k refl, ih)

module _ (d : Disc) (m : Mount) (work : ℕ) (root : LongAd) where
  abbrev R : Ran (List ℕ)
  R = ran d (directory_bytes m work root)

  entries-is : (entries_run d m work root) ≡ counted R.count (and_then R.outcome (entries (is_checked m)))
  entries-is = ran-known d (directory_bytes m work root) (entries (is_checked m))

  -- a listing is the records of those entries
  pub listing-entries : ran d (listing_at m work root) ≡ counted (entries_run d m work root).count (and_then (entries_run d m work root).outcome (λ es. answered (records es)))
  unfolding listing_at listing
  listing-entries = ran-known d (directory_bytes m work root) (listing (is_checked m)) ∙ rw entries-is (by R.outcome)
    where
      by : (o : Outcome (List ℕ)) → counted R.count (and_then o (λ b. and_then (entries (is_checked m) b) (λ es. answered (records es))))
          ≡ counted R.count (and_then (and_then o (entries (is_checked m))) (λ es. answered (records es)))
      by (answered b) = refl
      by (refused why) = refl

  level-one : ((es : List Entry) → (entries_run d m work root).outcome ≡ answered es → NoDirectory es)
      → ran d (nodes_at m 1 1 work root) ≡ counted (entries_run d m work root).count (and_then (entries_run d m work root).outcome (λ es. answered (level_nodes 1 es)))
  unfolding then
  level-one h = nodes-is d m 0 1 work root ∙ rw entries-is (by R.outcome refl)
    where
      known : (b : List ℕ) (o : Outcome (List Entry)) → entries (is_checked m) b ≡ o → R.outcome ≡ answered b
          → counted (R.count + (ran d (then (ended o) (λ es. nodes_of (nodes_at m 0 2 (work - length b)) 1 es))).count) (ran d (then (ended o) (λ es. nodes_of (nodes_at m 0 2 (work - length b)) 1 es))).outcome
          ≡ counted R.count (and_then o (λ es. answered (level_nodes 1 es)))
      known b (answered es) f e =
          let k : NoDirectory es = h es (ap (λ (r : Ran (List Entry)). r.outcome) entries-is ∙ rw (e, f)) in
          rw (plain-nodes (nodes_at m 0 2 (work - length b)) 1 es k, ran-done d (level_nodes 1 es), add-zero)
      known b (refused why) f e = rw (ran-refuse {A = List Node} d why, add-zero)

      by : (o : Outcome (List ℕ)) → R.outcome ≡ o
          → onward o R.count (λ b. ran d (then (ended (entries (is_checked m) b)) (λ es. nodes_of (nodes_at m 0 2 (work - length b)) 1 es)))
          ≡ counted R.count (and_then (and_then o (entries (is_checked m))) (λ es. answered (level_nodes 1 es)))
      by (answered b) e = known b (entries (is_checked m) b) refl e
      by (refused why) e = refl

  -- with one level, where no listed entry is a directory, the show is the listing with the level put into each record: answered, refused and counted as that is
  pub one-level : ((es : List Entry) → (entries_run d m work root).outcome ≡ answered es → NoDirectory es)
      → ran d (tree_records m 1 work root) ≡ counted (entries_run d m work root).count (and_then (entries_run d m work root).outcome (λ es. answered (leveled_records 1 es)))
  unfolding tree_records
  one-level h =
      ran-known d (tree m 1 work root) (λ ns. answered (node_records ns))
      ∙ rw (tree-within m work root 1 (omega arith) (omega arith), level-one h) (by (entries_run d m work root).outcome)
    where
      by : (o : Outcome (List Entry)) → counted (entries_run d m work root).count (and_then (and_then o (λ es. answered (level_nodes 1 es))) (λ ns. answered (node_records ns)))
          ≡ counted (entries_run d m work root).count (and_then o (λ es. answered (leveled_records 1 es)))
      by (answered es) = rw (level-records 1 es)
      by (refused why) = refl

-- ---- of a whole tree, the nodes of one directory (RULES 8.35)

least-joined : (level : ℕ) (a b : List Node) → AtLeast level a → AtLeast level b → AtLeast level (a ++ b)
unfolding AtLeast
least-joined level [] b p q = q
least-joined level (n ∷ a) b p q = (p.0, least-joined level a b p.1 q)

least-less : (level : ℕ) (ns : List Node) → AtLeast (suc level) ns → AtLeast level ns
unfolding AtLeast
least-less level [] p = tt
least-less level (n ∷ ns) p = (omega (arith, p.0), least-less level ns p.1)

none-at : (level : ℕ) (a b : List Node) → AtLeast (suc level) a → at_level level (a ++ b) ≡ at_level level b
unfolding AtLeast at_level
none-at level [] b p = refl
none-at level (n ∷ a) b p = rw (ne_eqb n.level level (λ e. omega (arith, p.0))) (none-at level a b p.1)

any-only : {A : Type 0} (m : Ask A) → Refuses AnyRefusal Any m
any-only (done a) = done-only tt
any-only (refuse why) = refuse-only tt
any-only (ask s k) = ask-only (λ b. any-only (k b))

of-least : (inside : LongAd → Ask (List Node)) (level : ℕ) → ((icb : LongAd) → Refuses AnyRefusal (AtLeast (suc level)) (inside icb)) → (es : List Entry) → Refuses AnyRefusal (AtLeast level) (nodes_of inside level es)
unfolding nodes_of AtLeast
of-least inside level h [] = done-only tt
of-least inside level h (e ∷ es) =
    pick-only (is_skipped e.identifier) (of-least inside level h es)
    (then-only {Q = AtLeast (suc level)} (pick-only (is_directory e.identifier) (h e.identifier.icb) (done-only tt)) (λ below p.
    then-only (of-least inside level h es) (λ others q.
    done-only (omega arith, least-joined level below others (least-less level below p) q))))

-- a directory's nodes have its level, and those under it greater ones
pub nodes-least : (m : Mount) (left level work : ℕ) (icb : LongAd) → Refuses AnyRefusal (AtLeast level) (nodes_at m left level work icb)
unfolding nodes_at
nodes-least m zero level work icb = refuse-only tt
nodes-least m (suc left) level work icb =
    then-only {Q = Any} (any-only (directory_bytes m work icb)) (λ b p.
    then-only {Q = Any} (any-only (ended (entries (is_checked m) b))) (λ es q.
    of-least (nodes_at m left (suc level) (work - length b)) level (nodes-least m left (suc level) (work - length b)) es))

-- what a tree answered, by its parts
record Parts {A B : Type 0} (d : Disc) (m : Ask A) (f : A → Ask B) (b : B) : Type 0 where
  a : A
  first : outcome d m ≡ answered a
  second : outcome d (f a) ≡ answered b

parts : {A B : Type 0} (d : Disc) (m : Ask A) (f : A → Ask B) {b : B} → outcome d (then m f) ≡ answered b → Parts d m f b
unfolding ran
parts {A} {B} d m f {b} e = by (outcome d m) refl (sym (ap (λ (r : Ran B). r.outcome) (ran_then d m f)) ∙ e)
  where
    by : (o : Outcome A) → outcome d m ≡ o → (onward o (length (asked d m)) (λ a. ran d (f a))).outcome ≡ answered b → Parts d m f b
    by (answered a) h k = record { a = a; first = h; second = k }
    by (refused why) h k = never k

-- of an answer's nodes, those of one directory's level are its listed entries in their order, if what stands under these has greater levels
pub level-listing : (d : Disc) (inside : LongAd → Ask (List Node)) (level : ℕ) → ((icb : LongAd) (ns : List Node) → outcome d (inside icb) ≡ answered ns → AtLeast (suc level) ns)
    → (es : List Entry) {ns : List Node} → outcome d (nodes_of inside level es) ≡ answered ns → at_level level ns ≡ level_nodes level es
unfolding nodes_of outcome at_level level_nodes AtLeast
level-listing d inside level deep [] {ns} e = let z : ns ≡ [] = cc in rw z
level-listing d inside level deep (e ∷ es) {ns} q = by (is_skipped e.identifier) (λ more k. level-listing d inside level deep es k) q
  where
    n : Node
    n = record { level = level; entry = e }

    below-deep : (t : Bool) (a : List Node) → outcome d (pick t (inside e.identifier.icb) (done [])) ≡ answered a → AtLeast (suc level) a
    below-deep true a h = deep e.identifier.icb a h
    below-deep false a h = let z : a ≡ [] = cc in rw z tt

    by : (t : Bool) → ((more : List Node) → outcome d (nodes_of inside level es) ≡ answered more → at_level level more ≡ level_nodes level es)
        → outcome d (pick t (nodes_of inside level es) (then (under inside e) (λ below. then (nodes_of inside level es) (λ others. done (n ∷ (below ++ others)))))) ≡ answered ns
        → at_level level ns ≡ pick t (level_nodes level es) (n ∷ level_nodes level es)
    by true ih h = ih ns h
    by false ih h =
        let p = parts d (under inside e) (λ below. then (nodes_of inside level es) (λ others. done (n ∷ (below ++ others)))) h in
        let r = parts d (nodes_of inside level es) (λ others. done (n ∷ (p.a ++ others))) p.second in
        let s : answered (n ∷ (p.a ++ r.a)) ≡ answered ns = r.second in
        let z : ns ≡ n ∷ (p.a ++ r.a) = cc in
        rw (z, eq-eqb level level refl) (ap (λ l. n ∷ l) (none-at level p.a r.a (below-deep (is_directory e.identifier) p.a p.first) ∙ ih r.a r.first))

-- so the records of the root's own entries in a show are the root's listing with the level put in
pub level-shown : (d : Disc) (m : Mount) (left level work : ℕ) (icb : LongAd) {b : List ℕ} {es : List Entry} {ns : List Node} → (ran d (directory_bytes m work icb)).outcome ≡ answered b → entries (is_checked m) b ≡ answered es
    → outcome d (nodes_at m (suc left) level work icb) ≡ answered ns → node_records (at_level level ns) ≡ leveled_records level es
unfolding ran nodes_at then
level-shown d m left level work icb {b} {es} {ns} e f h =
    let p = parts d (directory_bytes m work icb) (λ x. then (ended (entries (is_checked m) x)) (λ ys. nodes_of (nodes_at m left (suc level) (work - length x)) level ys)) h in
    let z : p.a ≡ b = cc in
    let k : outcome d (nodes_of (nodes_at m left (suc level) (work - length b)) level es) ≡ answered ns = rw (z, f) at p.second in
    ap node_records (level-listing d (nodes_at m left (suc level) (work - length b)) level (λ i ms q. only-answers d (nodes-least m left (suc level) (work - length b) i) q) es k) ∙ level-records level es

-- ---- more levels than the tree has

module _ (d : Disc) (m : Mount) (work : ℕ) where
  -- a directory that is answered with some levels left is answered the same with more, after the same sectors
  pub more-levels : (left left' : ℕ) → left ≤ left' → (level : ℕ) (icb : LongAd) {ns : List Node} → outcome d (nodes_at m left level work icb) ≡ answered ns
      → Alike d (nodes_at m left level work icb) (nodes_at m left' level work icb)
  more-levels left left' h level icb e = extends-alike d (nodes_at m left level work icb) (nodes_at m left' level work icb) (nodes-extends m left left' h level work icb) e

  -- and so is a whole show
  pub show-more : (levels levels' : ℕ) → 1 ≤ levels → levels ≤ levels' → levels' ≤ most_levels → (root : LongAd) {b : List ℕ} → outcome d (tree_records m levels work root) ≡ answered b
      → Alike d (tree_records m levels work root) (tree_records m levels' work root)
  unfolding tree_records
  show-more levels levels' h k l root e = extends-alike d _ _
      (rw (tree-within m work root levels h (omega arith), tree-within m work root levels' (omega arith) l)
      (extends-then (nodes_at m levels 1 work root) (nodes_at m levels' 1 work root) _ _ (nodes-extends m levels levels' k 1 work root) (λ ns. extends-same (done (node_records ns))))) e

-- ---- which refusals a show can come to: those of reading a file, 6, a bad entry's, and 11

module _ (P : Refusal → Type 0) (m : Mount) (bytes : (icb : LongAd) → Refuses P Any (file_bytes m icb)) (malformed : P Malformed) (crc : is_checked m ≡ true → P BadCrc) (space : P NoWork) (deep : P TooDeep) where
  directory-only : (work : ℕ) (icb : LongAd) → Refuses P Any (directory_bytes m work icb)
  unfolding directory_bytes within
  directory-only work icb = then-only (bytes icb) (λ b q. by b (leb (length b) work))
    where
      by : (b : List ℕ) (t : Bool) → Refuses P Any (ended (pick t (answered b) (refused NoWork)))
      by b true = done-only tt
      by b false = refuse-only space

  entries-only : (b : List ℕ) → Refuses P Any (ended (entries (is_checked m) b))
  entries-only b = by (entries (is_checked m) b) refl
    where
      by : (o : Outcome (List Entry)) → entries (is_checked m) b ≡ o → Refuses P Any (ended o)
      by (answered es) e = done-only tt
      by (refused why) e = refuse-only (entries-refused (is_checked m) b P malformed crc e)

  of-only : (inside : LongAd → Ask (List Node)) → ((icb : LongAd) → Refuses P Any (inside icb)) → (level : ℕ) (es : List Entry) → Refuses P Any (nodes_of inside level es)
  unfolding nodes_of
  of-only inside h level [] = done-only tt
  of-only inside h level (e ∷ es) =
      pick-only (is_skipped e.identifier) (of-only inside h level es)
      (then-only {Q = Any} (pick-only (is_directory e.identifier) (h e.identifier.icb) (done-only tt)) (λ below p.
      then-only {Q = Any} (of-only inside h level es) (λ others q. done-only tt)))

  nodes-only : (left level work : ℕ) (icb : LongAd) → Refuses P Any (nodes_at m left level work icb)
  unfolding nodes_at
  nodes-only zero level work icb = refuse-only deep
  nodes-only (suc left) level work icb =
      then-only (directory-only work icb) (λ b p.
      then-only (entries-only b) (λ es q.
      of-only (nodes_at m left (suc level) (work - length b)) (nodes-only left (suc level) (work - length b)) level es))

  -- the tree says no other refusal by itself
  pub tree-only : (levels work : ℕ) (root : LongAd) → Refuses P Any (tree m levels work root)
  unfolding tree
  tree-only levels work root = pick-only (leb 1 levels && leb levels most_levels) (nodes-only levels 1 work root) (refuse-only deep)

  -- nor does the show
  pub tree-records-only : (levels work : ℕ) (root : LongAd) → Refuses P Any (tree_records m levels work root)
  unfolding tree_records
  tree-records-only levels work root = then-only (tree-only levels work root) (λ ns q. done-only tt)

-- ---- the list of sectors, and one result (RULES 2.4 and 2.7)

module _ (d : Disc) (m : Mount) (levels work : ℕ) (root : LongAd) where
  -- a show has the list of its tree
  pub show-asks : asked d (tree_records m levels work root) ≡ asked d (tree m levels work root)
  unfolding tree_records
  show-asks = asked-done d (tree m levels work root) node_records

  module _ (most : ℕ) where
    -- the count is min(the length of the list, 2^64 - 1)
    pub show-counts : {out after : List ℕ} {reply : Reply} → Replied NoRoom (ran d (budgeted most (tree_records m levels work root))) out after reply → reply.count ≡ min (length (asked d (budgeted most (tree_records m levels work root)))) 0xffff_ffff_ffff_ffff
    unfolding ran
    show-counts {out} p = ap (λ (x : Reply). x.count) p.says ∙ reply-counts NoRoom (length out) (reported (length (asked d (budgeted most (tree_records m levels work root))))) (outcome d (budgeted most (tree_records m levels work root)))

    -- discs that agree on the list give the same reply and the same memory
    pub show-same : (e : Disc) → Agree d e (asked d (budgeted most (tree_records m levels work root))) → {out after : List ℕ} {reply : Reply} → Replied NoRoom (ran d (budgeted most (tree_records m levels work root))) out after reply → Replied NoRoom (ran e (budgeted most (tree_records m levels work root))) out after reply
    show-same e h p = same-replied (budgeted most (tree_records m levels work root)) d e h p

    -- its contract leaves one result
    pub show-one : {out after after' : List ℕ} {reply reply' : Reply} → Replied NoRoom (ran d (budgeted most (tree_records m levels work root))) out after reply
        → Replied NoRoom (ran d (budgeted most (tree_records m levels work root))) out after' reply'
        → (reply ≡ reply') × (after ≡ after')
    show-one p q = replied-one p q

    -- a checked show that isn't refused by 10 is the show without the check, after the same sectors
    pub show-unchecked : is_checked m ≡ true → is_bad (outcome d (budgeted most (tree_records m levels work root))) ≡ false → Alike d (budgeted most (tree_records m levels work root)) (budgeted most (tree_records (unchecked m) levels work root))
    show-unchecked c h =
        let g = budgeted-guards most (tree-records-guards m c levels work root) in
        record { outcomes = sym (guards-outcome g d h); lists = sym (guards-asked g d h) }

-- ---- a worked case: the entry "A" at block 5, a directory, in a level of its own

pub one-node : (level : ℕ) → and_then (entries true entry_a) (λ es. answered (leveled_records level es))
    ≡ answered (0x44 ∷ 0x45 ∷ level ∷ 1 ∷ 0x00 ∷ 0x08 ∷ 0x00 ∷ 0x00 ∷ 0x05 ∷ 0x00 ∷ 0x00 ∷ 0x00 ∷ 0x00 ∷ 0x00 ∷ 0x00 ∷ 0x00 ∷ 0x00 ∷ 0x00 ∷ 0x00 ∷ 0x00 ∷ 1 ∷ 0 ∷ 0x41 ∷ [])
unfolding pairs until_zero surrogate drop_surrogates encode utf8 name_of name_at name_end recorded_name next_at identifier_of identifier_sized identifier_named crc_from crc_of body_right with_body with_id read_head read_identifier entry_read is_skipped name_in entries_from entries record_head entry_record leveled leveled_records
one-node level = refl
