-- What a walk leaves in the work space, a step at a time. Assumes nothing.
use Rattle.std.specs.Prelude.{Option, Some, None}
use mathlib.Core.Path.{◌≡◌, refl, sym, ◌∙◌}
use mathlib.Core.Bool.{true, false}
use mathlib.Core.List.{List, []}
use Prim.Native.Nat.{ℕ, ◌+◌, ◌-◌, ◌≤◌, ◌<◌}
use lib.ListN.{length, take, drop, drop_of_length-le}
use borrow.Author.Tests.{ne_eqb}
use Rattle.disc.specs.Ask.{Disc, Outcome}
use Rattle.disc.specs.Ask.Outcome.{answered, refused}
use Rattle.disc.specs.Ran.{ran}
use Rattle.disc.specs.declared.places.Mount.{Mount}
use Rattle.disc.specs.declared.replies.Reply.{Reply}
use Rattle.disc.proofs.RefusalLaws.{refusal-numbered}
use Rattle.records.specs.declared.allocations.LongAd.{LongAd}
use Rattle.identifiers.specs.Identifiers.{is_directory}
use Rattle.listings.specs.Entries.{Entry}
use Rattle.listings.specs.Listings.{named_of}
use Rattle.listings.specs.Paths.{front, behind, components_from, components, slashes}
use Rattle.listings.specs.declared.matchings.Matching.{Matching}
use Rattle.directories.specs.Directories.{directory_bytes}
use Rattle.directories.specs.Lookups.{entering}
use Rattle.directories.specs.Inner.WorkSpaces.{read_into, walked_on, walk_leaves, path_leaves, place_leaves}
use Rattle.directories.specs.Inner.Spaces.{Reads}
use Rattle.directories.specs.Inner.Walks.{entered_of, stopped_at, lost_at, beyond_of, On}
use Rattle.directories.specs.declared.walks.Entered.{Entered}
use Rattle.directories.specs.declared.walks.PathPlace.{PathPlace}
use Rattle.directories.specs.declared.walks.PathEnd.{PathEnd}
use Rattle.directories.specs.declared.walks.Turn.{Turn}
use Rattle.directories.specs.declared.walks.Turn.TheVariants.{Goes, Ends}
use Rattle.directories.proofs.WalkLaws.{same-components, some_left, component-is}

-- a directory read into the work space
pub reads-into : (d : Disc) (v : Mount) (icb : LongAd) (w w' : List ℕ) {read : Reply} → Reads (ran d (directory_bytes v (length w) icb)) w w' read → w' ≡ read_into d v w icb
reads-into d v icb w w' p = p.leaves

module _ (d : Disc) (matching : Matching) (v : Mount) (path : List ℕ) {p : PathPlace} (on : On path p) {from : ℕ} (behind-it : from ≡ p.from + slashes (drop p.from path)) (w : List ℕ) where
  ahead : place_leaves d matching v path (Goes p) w ≡ walk_leaves d matching v (components_from from (drop from path)) p.icb p.directory w
  unfolding place_leaves
  ahead = rw (same-components path p.from behind-it)

  pub leaves-arrived : length path ≤ from → {q : Turn} → q ≡ stopped_at 0 p.icb p.count 0 0 → place_leaves d matching v path q w ≡ place_leaves d matching v path (Goes p) w
  unfolding place_leaves walk_leaves components_from front behind
  leaves-arrived h e =
      let z : drop from path ≡ [] = drop_of_length-le path h in
      rw e (sym (ahead ∙ rw z))

  module _ (h : from < length path) {end : ℕ} (k : end ≡ from + length (front (drop from path))) where
    pub leaves-dead : p.directory ≡ false → {q : Turn} → q ≡ lost_at p.count from end → place_leaves d matching v path q w ≡ place_leaves d matching v path (Goes p) w
    unfolding place_leaves walk_leaves
    leaves-dead t e = rw e (sym (ahead ∙ rw (some_left d matching v (length w) path on behind-it h k, t)))

    module _ (t : p.directory ≡ true) where
      abbrev here : List ℕ
      here = take (end - from) (drop from path)

      turn : place_leaves d matching v path (Goes p) w
          ≡ walked_on (ran d (entering matching v (length w) p.icb here)).outcome (read_into d v w p.icb)
          (λ e. walk_leaves d matching v (components_from end (drop end path)) e.identifier.icb (is_directory e.identifier) (read_into d v w p.icb))
      unfolding walk_leaves
      turn = ahead ∙ rw (some_left d matching v (length w) path on behind-it h k, t, component-is d matching v (length w) path on behind-it h k)

      by-outcome : (o : Outcome (Option Entry)) (n : ℕ) (w' : List ℕ)
          → place_leaves d matching v path (beyond_of (named_of o) n from end) w'
          ≡ walked_on o w' (λ e. walk_leaves d matching v (components_from end (drop end path)) e.identifier.icb (is_directory e.identifier) w')
      unfolding beyond_of place_leaves
      by-outcome (answered (Some e)) n w' = refl
      by-outcome (answered None) n w' = refl
      by-outcome (refused r) n w' = simp (ne_eqb _ _ (refusal-numbered r)) refl

      pub leaves-entered : {e : Entered} → e ≡ entered_of (ran d (entering matching v (length w) p.icb here)) → (n : ℕ)
          → {q : Turn} → q ≡ beyond_of e.entry n from end → {w' : List ℕ} → w' ≡ read_into d v w p.icb → place_leaves d matching v path q w' ≡ place_leaves d matching v path (Goes p) w
      leaves-entered {e} x n z y = rw (z, x, y) (by-outcome (ran d (entering matching v (length w) p.icb here)).outcome n (read_into d v w p.icb) ∙ sym turn)

-- ---- the whole walk

pub leaves-start : (d : Disc) (matching : Matching) (v : Mount) (root : LongAd) (path w : List ℕ)
    → place_leaves d matching v path (Goes (record { icb = root; directory = true; count = 0; from = 0 })) w ≡ path_leaves d matching v root path w
unfolding place_leaves path_leaves components
leaves-start d matching v root path w = refl

module _ (d : Disc) (matching : Matching) (v : Mount) (root : LongAd) (path : List ℕ) (p : PathPlace) (w w' w₀ : List ℕ)
    (i : place_leaves d matching v path (Goes p) w ≡ path_leaves d matching v root path w₀) {t : Turn} (s : place_leaves d matching v path t w' ≡ place_leaves d matching v path (Goes p) w) where
  pub leaves-next : {q : PathPlace} → t ≡ Goes q → place_leaves d matching v path (Goes q) w' ≡ path_leaves d matching v root path w₀
  leaves-next e = (rw e at s) ∙ i

  pub leaves-end : {x : PathEnd} → t ≡ Ends x → w' ≡ path_leaves d matching v root path w₀
  unfolding place_leaves
  leaves-end e = (rw e at s) ∙ i
