-- Laws of the opening that is fed a sector at a time: each state that the code makes stands for the tree that is left. Assumes nothing.
use Rattle.std.specs.Prelude.{Option, Some, None, Result, Ok, Err, ⊤}
use mathlib.Core.Path.{◌≡◌, refl, ap, sym, ◌∙◌}
use mathlib.Core.Bool.{Bool, true, false}
use mathlib.Core.List.{List}
use Prim.Native.Nat.{ℕ, zero, suc, ◌+◌, ◌-◌, ◌/◌, ◌<◌, ◌≤◌, ◌^◌}
use native.Mathlib.Omega.{arith}
use lib.ListN.{length}
use lib.Dec.{eqb, ltb}
use borrow.Author.Tests.{lt-ltb, le-ltb, eq-eqb, ne_eqb, ltb-true}
use Rattle.disc.specs.Choice.{pick}
use Rattle.disc.specs.Refusals.{number}
use Rattle.disc.specs.Counts.{reported}
use Rattle.disc.specs.Ask.{Held, Ask, Outcome, given, then, ended}
use Rattle.disc.specs.Ask.Ask.{refuse, ask}
use Rattle.disc.specs.Ask.Outcome.{answered, refused}
use Rattle.disc.specs.Places.{placed, BlockStands}
use Rattle.disc.specs.declared.places.Sector.{Sector}
use Rattle.disc.specs.declared.refusals.Refusal.{Refusal}
use Rattle.disc.specs.declared.refusals.Refusal.TheVariants.{Io, NotBluray, Unsupported}
use Rattle.disc.proofs.RefusalLaws.{refusal-numbered, refusal-known}
use Rattle.disc.proofs.PlaceLaws.{stands-nowhere, stands_at, stands-low}
use Rattle.disc.proofs.AskLaws.{then-then}
use Rattle.disc.proofs.PickLaws.{not-both}
use Rattle.disc.specs.declared.places.Mount.{Mount}
use Rattle.volumes.specs.declared.openings.How.{How}
use Rattle.descriptors.specs.Volumes.{read_anchor}
use Rattle.descriptors.specs.FileSets.{read_file_set}
use Rattle.descriptors.specs.declared.anchors.AnchorVolumeDescriptorPointer.{AnchorVolumeDescriptorPointer}
use Rattle.volumes.specs.Sequences.{nothing, prevailing, order_of, any_partition, wanted_of, kept_of, Says, says_in, scan, turn_of}
use Rattle.volumes.specs.Sequences.Says.{found, passed, over, fails}
use Rattle.volumes.specs.Openings.{usual, no_volume, file_set_ref, file_set_at, file_set_on, plain_mount, mount_of, volume_in, mounting_of, anchored, opening, opened_by}
use Rattle.volumes.specs.Inner.Steps.{mountable}
use Rattle.volumes.specs.declared.sequences.Kept.{Kept}
use Rattle.volumes.specs.declared.sequences.SectorTurn.{SectorTurn}
use Rattle.volumes.specs.declared.sequences.SectorTurn.TheVariants.{GoesOn, Over, Fails}
use Rattle.volumes.specs.declared.sequences.Wanted.TheVariants.{Any}
use Rattle.volumes.specs.declared.openings.VolumeRecord.{VolumeRecord}
use Rattle.volumes.specs.declared.openings.Opened.{Opened}
use Rattle.drives.specs.Feeds.{lent, branch}
use Rattle.drives.specs.Openings.{mounting_from, scanning, scan_from, behind_sector, most_sectors, anchor_phase, sequence_phase, file_set_phase, opening_over, is_wanting, wanted_sector, opened_tree, tree_of, behind_wanted, OpeningStands, Fed}
use Rattle.drives.specs.declared.openings.Opening.{Opening}

-- ---- whether a sector is wanted

module _ (o : Opening) where
  pub wanting-over : 3 ≤ o.phase → false ≡ is_wanting o
  wanting-over h = rw (le-ltb o.phase 3 h)

  pub wanting-far : most_sectors ≤ o.at → false ≡ is_wanting o
  wanting-far h = by (ltb o.phase 3)
    where
      by : (b : Bool) → false ≡ pick b (ltb (o.at + o.left) most_sectors) false
      by true = rw (le-ltb (o.at + o.left) most_sectors (omega arith))
      by false = refl

  pub wanting-near : o.phase < 3 → ltb (o.at + o.left) most_sectors ≡ is_wanting o
  wanting-near h = rw (lt-ltb o.phase 3 h)

  pub wanting-low : is_wanting o ≡ true → o.at + o.left < most_sectors
  wanting-low = by (ltb o.phase 3)
    where
      by : (b : Bool) → pick b (ltb (o.at + o.left) most_sectors) false ≡ true → o.at + o.left < most_sectors
      by true e = ltb-true (o.at + o.left) most_sectors e
      by false e = absurd (let z : ◌≡◌ {A = ℕ} 0 1 = cc in omega arith)

-- ---- an end

-- as the code makes an end
abbrev pub Ended : Opening → Opened → Type 0
Ended r x = (r.phase ≡ opening_over) × (r.opened ≡ x)

over-is : (r : Opening) {x : Opened} → Ended r x → tree_of r ≡ opened_tree x
unfolding tree_of
over-is r e = rw (e.0, e.1)

-- as an outcome says
stands-ended : (o : Outcome VolumeRecord) (n : ℕ) (r : Opening) {x : Opened} → Ended r x → x ≡ opened_by n o → OpeningStands (ended o) n r
stands-ended (answered v) n r e q = record { tree = over-is r e ∙ rw q; says = e.1 ∙ q }
stands-ended (refused why) n r e q = record {
  tree = over-is r e ∙ rw (q, ne_eqb (number why) 0 (refusal-numbered why), refusal-known why);
  says = e.1 ∙ q;
}

-- by the number of a refusal
stands-refused : (t : Ask VolumeRecord) (n : ℕ) (r : Opening) {x : Opened} {a : ℕ} (why : Refusal) → t ≡ refuse why → a ≡ number why
    → Ended r x → x ≡ record { answer = a; count = n; volume = no_volume } → OpeningStands t n r
stands-refused t n r why f g e q = rw f (stands-ended (refused why) n r e (q ∙ rw g))

-- ---- behind the sequence

-- a place that wants a sector, as the code makes it
abbrev pub place : ℕ → ℕ → ℕ → Kept → ℕ → Opening
place phase at left k n = record { phase = phase; at = at; left = left; kept = k; opened = record { answer = 0; count = n; volume = no_volume } }

pub place_is : (phase at left : ℕ) (k : Kept) (n : ℕ) {x : Opened} → x ≡ record { answer = 0; count = n; volume = no_volume }
    → record { phase = phase; at = at; left = left; kept = k; opened = x } ≡ place phase at left k n
place_is phase at left k n e = rw e

pub stands-anchor : (r : Opening) {k : Kept} → r ≡ place anchor_phase 256 0 k 0 → OpeningStands (opening usual) 0 r
unfolding tree_of opening
stands-anchor r e = rw e (record { tree = refl; says = refl })

-- what was kept leads on, or is refused, as the code says it
data Leads (k : Kept) (x : Ask VolumeRecord) (a : Result ⊤ Refusal) : Type 0 where
  on : x ≡ file_set_on false k (plain_mount false k) → (u : ⊤) → a ≡ Ok u → Leads k x a
  off : (why : Refusal) → x ≡ refuse why → a ≡ Err why → Leads k x a

leads : (k : Kept) → Leads k (mounting_from k) (mountable k)
unfolding mounting_of mountable mount_of then
leads k = by k.has_primary k.has_partition k.has_logical (eqb k.block_size 2048)
  where
    by : (a b c e : Bool)
        → Leads k
        (pick a (pick b (pick c (pick e (file_set_on false k (plain_mount false k)) (refuse Unsupported)) (refuse NotBluray)) (refuse NotBluray)) (refuse NotBluray))
        (pick a (pick b (pick c (pick e (Ok tt) (Err Unsupported)) (Err NotBluray)) (Err NotBluray)) (Err NotBluray))
    by false b c e = off NotBluray refl refl
    by true false c e = off NotBluray refl refl
    by true true false e = off NotBluray refl refl
    by true true true false = off Unsupported refl refl
    by true true true true = on refl tt refl

leads-on : {k : Kept} {x : Ask VolumeRecord} {a : Result ⊤ Refusal} {u : ⊤} → Leads k x a → a ≡ Ok u → x ≡ file_set_on false k (plain_mount false k)
leads-on (on e v z) h = e
leads-on (off why e z) h = absurd (let y : ◌≡◌ {A = ℕ} 0 1 = cc in omega arith)

module _ (k : Kept) (n : ℕ) (r : Opening) {a : Result ⊤ Refusal} (e : a ≡ mountable k) where
  pub sequence-not : {why : Refusal} → a ≡ Err why → {i : ℕ} → i ≡ number why → {x : Opened} → x ≡ record { answer = i; count = n; volume = no_volume } → Ended r x → OpeningStands (mounting_from k) n r
  sequence-not {why} h {i} v {x} q g = by (leads k)
    where
      by : Leads k (mounting_from k) (mountable k) → OpeningStands (mounting_from k) n r
      by (on f u z) = absurd (let y : ◌≡◌ {A = ℕ} 0 1 = cc in omega arith)
      by (off w f z) = let same : why ≡ w = cc in stands-refused (mounting_from k) n r w f (v ∙ ap number same) g q

  module _ {u : ⊤} (z : a ≡ Ok u) {m : Mount} (w : m ≡ plain_mount false k) {p : Option Sector} (q : BlockStands m (Some (file_set_ref k)) k.file_set.location.block p) where
    pub sequence-nowhere : {x : Opened} → p ≡ None → x ≡ record { answer = 4; count = n; volume = no_volume } → Ended r x → OpeningStands (mounting_from k) n r
    sequence-nowhere h f g =
        let l = leads-on (leads k) (sym e ∙ z) in
        let d = stands-nowhere m (Some (file_set_ref k)) k.file_set.location.block q h in
        stands-refused (mounting_from k) n r Unsupported (l ∙ rw (← w, d)) refl g f

    pub sequence-at : {s : Sector} → p ≡ Some s → r ≡ place file_set_phase s.0 0 k n → OpeningStands (mounting_from k) n r
    unfolding tree_of
    sequence-at {s} h g =
        let l = leads-on (leads k) (sym e ∙ z) in
        let d = stands_at m (Some (file_set_ref k)) k.file_set.location.block q h in
        let low = stands-low m (Some (file_set_ref k)) k.file_set.location.block q h in
        let d' : placed (plain_mount false k) (Some (file_set_ref k)) k.file_set.location.block ≡ Some s.0 = rw w at d in
        rw (l, d', g) (record { tree = rw (lt-ltb (s.0 + 0) most_sectors (small s.0 low)); says = refl })
      where
        small : (x : ℕ) → x < 2 ^ 33 → x + 0 < most_sectors
        small x l = omega arith

-- ---- in the sequence

scan-place : (k : Kept) (at left n : ℕ) → at + left < most_sectors → OpeningStands (scanning k (suc left) at) n (place sequence_phase at left k n)
unfolding tree_of scanning scan then
scan-place k at left n h = record { tree = rw (lt-ltb (at + left) most_sectors h); says = refl }

scan-none : (k : Kept) (at : ℕ) → scanning k 0 at ≡ mounting_from k
unfolding scanning scan then kept_of
scan-none k at = refl

one_less : (n : ℕ) → (n ≡ 0 → ⊥) → suc (n - 1) ≡ n
one_less zero h = absurd (h refl)
one_less (suc n) h = omega arith

module _ (n first c : ℕ) (r : Opening) {k : Kept} (e : k ≡ nothing) where
  pub begin-none : n ≡ 0 → OpeningStands (mounting_from k) c r → OpeningStands (scanning nothing n first) c r
  begin-none z q = rw (z, scan-none nothing first) (rw e at q)

  pub begin-some : (n ≡ 0 → ⊥) → n < 2 ^ 32 → first < 2 ^ 32 → r ≡ place sequence_phase first (n - 1) k c → OpeningStands (scanning nothing n first) c r
  begin-some z l f q =
      let q' : r ≡ place sequence_phase first (n - 1) nothing c = rw e at q in
      rw (one_less n z, ← q') at (scan-place nothing first (n - 1) c (near n first l f))
    where
      near : (m a : ℕ) → m < 2 ^ 32 → a < 2 ^ 32 → a + (m - 1) < most_sectors
      near m a l f = omega arith

module _ (c : ℕ) (r : Opening) {x : Result AnchorVolumeDescriptorPointer Refusal} where
  pub anchor-not : {why : Refusal} {a : ℕ} {o : Opened} → x ≡ Err why → a ≡ number why → o ≡ record { answer = a; count = c; volume = no_volume } → Ended r o
      → OpeningStands (anchored usual x) c r
  anchor-not {why} e q f g = stands-refused (anchored usual x) c r why (rw e) q g f

  pub anchor-leads : {d : AnchorVolumeDescriptorPointer} → x ≡ Ok d
      → OpeningStands (scanning nothing (d.main_volume_descriptor_sequence.length / 2048) d.main_volume_descriptor_sequence.location) c r
      → OpeningStands (anchored usual x) c r
  unfolding scanning mounting_of mount_of
  anchor-leads e q = rw e q

-- one sector of it
module _ (k : Kept) (n at : ℕ) where
  turn-goes : (x : Says) {j : Kept} → GoesOn j ≡ turn_of (order_of usual) any_partition k x → scan_from k n at x ≡ scanning j n (at + 1)
  unfolding scanning then kept_of
  turn-goes (found p) {j} e = let same : j ≡ prevailing (order_of usual) any_partition k p = cc in then-then (scan false n (at + 1)) _ _ ∙ rw same
  turn-goes passed {j} e = let same : j ≡ k = cc in rw same
  turn-goes over e = absurd (let y : ◌≡◌ {A = ℕ} 0 1 = cc in omega arith)
  turn-goes (fails why) e = absurd (let y : ◌≡◌ {A = ℕ} 0 1 = cc in omega arith)

  turn-over : (x : Says) {j : Kept} → Over j ≡ turn_of (order_of usual) any_partition k x → scan_from k n at x ≡ mounting_from j
  unfolding then kept_of
  turn-over (found p) e = absurd (let y : ◌≡◌ {A = ℕ} 0 1 = cc in omega arith)
  turn-over passed e = absurd (let y : ◌≡◌ {A = ℕ} 0 1 = cc in omega arith)
  turn-over over {j} e = let same : j ≡ k = cc in rw same
  turn-over (fails why) e = absurd (let y : ◌≡◌ {A = ℕ} 0 1 = cc in omega arith)

  turn-fails : (x : Says) {why : Refusal} → Fails why ≡ turn_of (order_of usual) any_partition k x → scan_from k n at x ≡ refuse why
  unfolding then
  turn-fails (found p) e = absurd (let y : ◌≡◌ {A = ℕ} 0 1 = cc in omega arith)
  turn-fails passed e = absurd (let y : ◌≡◌ {A = ℕ} 0 1 = cc in omega arith)
  turn-fails over e = absurd (let y : ◌≡◌ {A = ℕ} 0 1 = cc in omega arith)
  turn-fails (fails x) {why} e = let same : why ≡ x = cc in rw same

  module _ (b : List ℕ) (c : ℕ) (r : Opening) {h : How} (u : h ≡ usual) {t : SectorTurn} (e : t ≡ turn_of (order_of h) (wanted_of Any) k (says_in h.checked b)) where
    turn-usual : t ≡ turn_of (order_of usual) any_partition k (says_in false b)
    turn-usual = rw u at e

    module _ {j : Kept} (g : t ≡ GoesOn j) where
      pub sector-last : n ≡ 0 → OpeningStands (mounting_from j) c r → OpeningStands (behind_sector k n at b) c r
      sector-last z q = rw (turn-goes (says_in false b) (sym g ∙ turn-usual), z, scan-none j (at + 1)) q

      pub sector-next : (n ≡ 0 → ⊥) → at + n < most_sectors → r ≡ place sequence_phase (at + 1) (n - 1) j c → OpeningStands (behind_sector k n at b) c r
      sector-next z l q =
          rw (turn-goes (says_in false b) (sym g ∙ turn-usual))
          (rw (one_less n z, ← q) at (scan-place j (at + 1) (n - 1) c (less at n l z)))
        where
          less : (a m : ℕ) → a + m < most_sectors → (m ≡ 0 → ⊥) → a + 1 + (m - 1) < most_sectors
          less a zero l z = absurd (z refl)
          less a (suc m) l z = omega arith

    pub sector-fails : {why : Refusal} → t ≡ Fails why → {a : ℕ} → a ≡ number why → {o : Opened} → o ≡ record { answer = a; count = c; volume = no_volume } → Ended r o
        → OpeningStands (behind_sector k n at b) c r
    sector-fails {why} g v f q = stands-refused _ c r why (turn-fails (says_in false b) (sym g ∙ turn-usual)) v q f

    pub sector-over : {j : Kept} → t ≡ Over j → OpeningStands (mounting_from j) c r → OpeningStands (behind_sector k n at b) c r
    sector-over g q = rw (turn-over (says_in false b) (sym g ∙ turn-usual)) q

-- ---- a step

module _ (o : Opening) (b : List ℕ) (c : ℕ) (r : Opening) where
  pub taken-anchor : {x : Result AnchorVolumeDescriptorPointer Refusal} → o.phase ≡ 0 → x ≡ read_anchor false b → OpeningStands (anchored usual x) c r → OpeningStands (behind_wanted o b) c r
  taken-anchor z e q = rw (z, ← e) q

  pub taken-sector : o.phase ≡ 1 → OpeningStands (behind_sector o.kept o.left o.at b) c r → OpeningStands (behind_wanted o b) c r
  taken-sector z q = rw z q

  pub taken-set : (o.phase ≡ 0 → ⊥) → (o.phase ≡ 1 → ⊥) → {m : Mount} {x : Opened} → m ≡ plain_mount false o.kept
      → x ≡ opened_by c (volume_in m o.kept (read_file_set false b)) → Ended r x → OpeningStands (behind_wanted o b) c r
  taken-set y z e f g =
      rw (ne_eqb o.phase 0 y, ne_eqb o.phase 1 z)
      (stands-ended (volume_in (plain_mount false o.kept) o.kept (read_file_set false b)) c r g (f ∙ rw e))

-- and of one that has ended what it says
pub ended-tree : (o : Opening) → is_wanting o ≡ false → tree_of o ≡ opened_tree o.opened
unfolding tree_of
ended-tree o e = rw e

-- the tree of a state that wants a sector is that question
pub tree-asks : (o : Opening) → is_wanting o ≡ true → tree_of o ≡ ask (wanted_sector o) (behind_wanted o)
unfolding tree_of opening scanning scan then
tree-asks o e = rw e (by (eqb o.phase 0) (eqb o.phase 1))
  where
    by : (a b : Bool)
        → pick a (opening usual) (pick b (scanning o.kept (suc o.left) o.at) (file_set_at false o.kept (plain_mount false o.kept) o.at))
        ≡ ask (pick a 256 o.at) (λ s. pick a (anchored usual (read_anchor false s)) (pick b (behind_sector o.kept o.left o.at s) (ended (volume_in (plain_mount false o.kept) o.kept (read_file_set false s)))))
    by true b = refl
    by false true = refl
    by false false = refl

branch-wanted : (o : Opening) (h : Held) → is_wanting o ≡ true → branch h (tree_of o) ≡ given h (behind_wanted o) (refuse Io)
unfolding tree_of branch opening scanning scan then
branch-wanted o h e = rw e (by (eqb o.phase 0) (eqb o.phase 1))
  where
    by : (a b : Bool)
        → branch h (pick a (opening usual) (pick b (scanning o.kept (suc o.left) o.at) (file_set_at false o.kept (plain_mount false o.kept) o.at)))
        ≡ given h (λ s. pick a (anchored usual (read_anchor false s)) (pick b (behind_sector o.kept o.left o.at s) (ended (volume_in (plain_mount false o.kept) o.kept (read_file_set false s))))) (refuse Io)
    by true b = refl
    by false true = refl
    by false false = refl

pub wanting-is : (o : Opening) {w : Bool} → w ≡ is_wanting o → w ≡ true → is_wanting o ≡ true
wanting-is o e h = sym e ∙ h

module _ (o : Opening) (s : List ℕ) {w : Bool} (e : w ≡ is_wanting o) where
  pub step_stays : w ≡ false → Fed o s o
  step_stays h = record { takes = λ t. not-both (sym h ∙ e ∙ t); stays = λ t. refl }

  module _ (h : w ≡ true) (r : Opening) {n : ℕ} (q : n ≡ reported (o.opened.count + 1)) where
    step-takes : OpeningStands (branch (lent s) (tree_of o)) (reported (o.opened.count + 1)) r → Fed o s r
    step-takes p = record { takes = λ t. p; stays = λ t. not-both (sym t ∙ sym e ∙ h) }

    pub step-lost : {x : Opened} → (length s ≡ 2048 → ⊥) → x ≡ record { answer = 1; count = n; volume = no_volume } → Ended r x → Fed o s r
    step-lost l f g =
        step-takes (rw (branch-wanted o (lent s) (sym e ∙ h), ne_eqb (length s) 2048 l, ← q) (stands-ended (refused Io) n r g f))

    pub step-taken : length s ≡ 2048 → OpeningStands (behind_wanted o s) n r → Fed o s r
    step-taken l p = step-takes (rw (branch-wanted o (lent s) (sym e ∙ h), eq-eqb (length s) 2048 l, ← q) p)

-- ---- the sector that is wanted

module _ (o : Opening) {w : Bool} (e : w ≡ is_wanting o) where
  pub wants-none : w ≡ false → 0 ≡ wanted_sector o
  wants-none h = rw (← e, h)

  module _ (h : w ≡ true) where
    pub wants-anchor : o.phase ≡ 0 → 256 ≡ wanted_sector o
    wants-anchor z = rw (← e, h, z)

    pub wants-at : (o.phase ≡ 0 → ⊥) → o.at ≡ wanted_sector o
    wants-at z = rw (← e, h, ne_eqb o.phase 0 z)
