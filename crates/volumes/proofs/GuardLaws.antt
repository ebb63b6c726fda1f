-- Opening and the label with bodies checked are the same calls without, with each descriptor marked that is parsed: the anchor, those of the main
-- sequence that aren't skipped by their id, and the file set descriptor. Assumes nothing.
use Rattle.std.specs.Prelude.{Option, Some, None}
use mathlib.Core.Path.{◌≡◌, refl, ap, ◌∙◌}
use mathlib.Core.Bool.{Bool, true, false, not}
use mathlib.Core.List.{List, ◌∷◌}
use Prim.Native.Nat.{ℕ, zero, suc, ◌+◌, ◌*◌}
use native.Mathlib.Omega.{arith}
use lib.ListN.{get_or}
use lib.Dec.{eqb, ltb}
use Rattle.disc.specs.Choice.{pick}
use Rattle.disc.specs.Refusals.{number}
use Rattle.disc.specs.Ask.{Disc, Ask, Outcome, outcome, then, ended}
use Rattle.disc.specs.Ask.Ask.{done, refuse, ask}
use Rattle.disc.specs.Ask.Outcome.{answered, refused}
use Rattle.disc.specs.Places.{mapped_start, start_for, placed, standing, is_checked}
use Rattle.disc.specs.declared.places.Mount.{Mount}
use Rattle.disc.specs.declared.refusals.Refusal.{Refusal}
use Rattle.disc.specs.declared.refusals.Refusal.TheVariants.{Malformed, NotBluray, Unsupported}
use Rattle.disc.proofs.AskLaws.{then-then}
use Rattle.disc.proofs.MarkedLaws.{done-guards, refuse-guards, ask-guards, then-guards}
use Rattle.records.specs.Bytes.{u16at}
use Rattle.tags.specs.Tags.{gated}
use Rattle.tags.specs.declared.DescriptorTag.{DescriptorTag}
use Rattle.tags.proofs.BodyLaws.{gate-guards}
use Rattle.names.proofs.Promises.{field-refused}
use Rattle.descriptors.specs.Volumes.{anchor_after, read_anchor, primary_behind, read_primary, partition_after, read_partition, logical_behind, read_logical}
use Rattle.descriptors.specs.FileSets.{file_set_of, read_file_set}
use Rattle.descriptors.specs.declared.primaries.PrimaryVolumeDescriptor.{PrimaryVolumeDescriptor}
use Rattle.descriptors.specs.declared.logicals.LogicalVolumeDescriptor.{LogicalVolumeDescriptor}
use Rattle.descriptors.proofs.AnswerLaws.{primary-behind-refused, logical-behind-refused}
use Rattle.volumes.specs.declared.sequences.Kept.{Kept}
use Rattle.volumes.specs.declared.openings.VolumeRecord.{VolumeRecord}
use Rattle.volumes.specs.declared.openings.How.{How}
use Rattle.volumes.specs.Sequences.{nothing, Parsed, order_of, any_partition, kept_of, Says, primary_in, partition_in, logical_in, says_in, go_on, scan}
use Rattle.volumes.specs.Sequences.Says.{found, passed, over, fails}
use Rattle.volumes.specs.Openings.{plain_mount, start_of_number, map_starts, each_of, file_set_ref, mount_from_starts, mounted_by, mapped_mount, mount_of, file_set_in, volume_in, file_set_on, mounting_of, mounting, anchored, opening}
use Rattle.volumes.specs.Labels.{label_of, labelling}
use Rattle.volumes.proofs.MapLaws.{starts-same, mount-refuses, mount-says}
use Rattle.volumes.proofs.Promises.{opened-made}
use Rattle.disc.specs.Marks.{ButBad, Guards}
use Rattle.tags.specs.Heads.{right_at}
use Rattle.volumes.specs.Checks.{checked_mount, as_checked}

-- what is malformed has no wrong body
but-malformed : {r : Refusal} → r ≡ Malformed → ButBad r
but-malformed e h = let z : number Malformed ≡ 10 = rw e at h in omega arith

-- ---- the sequence

-- a sector that says the same in both calls
says-guards : (x : Says) {m n : Ask (List Parsed)} → ((r : Refusal) → x ≡ fails r → ButBad r) → Guards right_at m n → Guards right_at (go_on x m) (go_on x n)
says-guards (found p) f h = then-guards h (λ ps. done-guards (p ∷ ps))
says-guards passed f h = h
says-guards over f h = done-guards _
says-guards (fails r) f h = refuse-guards r (f r refl)

-- what a sector says, by the tests of its id
abbrev says : List ℕ → Bool → Bool → Bool → Bool → Bool → Says
says b check t u v w = pick t (primary_in (read_primary check b)) (pick u (partition_in (read_partition check b)) (pick v (logical_in (read_logical check b)) (pick w over passed)))

module _ (b : List ℕ) {m n : Ask (List Parsed)} (h : Guards right_at m n) where
  primary-guards : Guards right_at (go_on (primary_in (read_primary true b)) m) (go_on (primary_in (read_primary false b)) n)
  unfolding read_primary
  primary-guards =
      gate-guards b 1 56 (λ r. go_on (primary_in (gated r (primary_behind b))) m) (λ r. go_on (primary_in (gated r (primary_behind b))) n) (λ r. refl) (λ r. refl)
      (λ t. says-guards (primary_in (primary_behind b t)) (λ r. by t (primary_behind b t) refl) h)
    where
      by : {r : Refusal} (t : DescriptorTag) (x : Outcome PrimaryVolumeDescriptor) → primary_behind b t ≡ x → primary_in x ≡ fails r → ButBad r
      by {r} t (answered d) e k = absurd (let z : ◌≡◌ {A = ℕ} 0 1 = cc in omega arith)
      by {r} t (refused w) e k = let z : w ≡ r = cc in but-malformed (primary-behind-refused b t (rw z at e))

  partition-guards : Guards right_at (go_on (partition_in (read_partition true b)) m) (go_on (partition_in (read_partition false b)) n)
  unfolding read_partition
  partition-guards =
      gate-guards b 5 196 (λ r. go_on (partition_in (partition_after b r)) m) (λ r. go_on (partition_in (partition_after b r)) n) (λ r. refl) (λ r. refl)
      (λ t. then-guards h (λ ps. done-guards _))

  logical-guards : Guards right_at (go_on (logical_in (read_logical true b)) m) (go_on (logical_in (read_logical false b)) n)
  unfolding read_logical
  logical-guards =
      gate-guards b 6 440 (λ r. go_on (logical_in (gated r (logical_behind b))) m) (λ r. go_on (logical_in (gated r (logical_behind b))) n) (λ r. refl) (λ r. refl)
      (λ t. says-guards (logical_in (logical_behind b t)) (λ r. by t (logical_behind b t) refl) h)
    where
      by : {r : Refusal} (t : DescriptorTag) (x : Outcome LogicalVolumeDescriptor) → logical_behind b t ≡ x → logical_in x ≡ fails r → ButBad r
      by {r} t (answered d) e k = absurd (let z : ◌≡◌ {A = ℕ} 0 1 = cc in omega arith)
      by {r} t (refused w) e k = let z : w ≡ r = cc in but-malformed (logical-behind-refused b t (rw z at e))

  -- one sector, by its id
  turn-guards : Guards right_at (go_on (says_in true b) m) (go_on (says_in false b) n)
  unfolding says_in
  turn-guards = by (eqb (u16at b 0) 1) (eqb (u16at b 0) 5) (eqb (u16at b 0) 6) (eqb (u16at b 0) 8)
    where
      by : (t u v w : Bool) → Guards right_at (go_on (says b true t u v w) m) (go_on (says b false t u v w) n)
      by true u v w = primary-guards
      by false true v w = partition-guards
      by false false true w = logical-guards
      by false false false true = done-guards _
      by false false false false = h

pub scan-guards : (n at : ℕ) → Guards right_at (scan true n at) (scan false n at)
unfolding scan
scan-guards zero at = done-guards _
scan-guards (suc n) at = ask-guards at (λ b. turn-guards b (scan-guards n (at + 1)))

-- ---- opening

-- a call that opens without the check, and says that bodies are checked
abbrev marked : Ask VolumeRecord → Ask VolumeRecord
marked m = then m (λ v. done (as_checked v))

-- the choice with bodies checked, or not
abbrev choice : Bool → Bool → Bool → How
choice h maps check = record { highest = h; checked = check; maps = maps }

-- how the volume is read is the same, but that it says so
abbrev mount_checked : Outcome Mount → Outcome Mount
mount_checked (answered m) = answered (checked_mount m)
mount_checked (refused r) = refused r

module _ (h maps : Bool) (ps : List Parsed) (k : Kept) where
  starts-checked : map_starts (choice h maps true) ps k k.map_count ≡ map_starts (choice h maps false) ps k k.map_count
  unfolding start_of_number
  starts-checked = starts-same (choice h maps true) (choice h maps false) ps (λ number. refl) k.maps 0 k.map_count

  mounted-checked : (o : Option (List ℕ)) → mounted_by true k o ≡ mount_checked (mounted_by false k o)
  mounted-checked None = refl
  mounted-checked (Some l) = by (ltb (file_set_ref k) k.map_count)
    where
      by : (t : Bool) → pick t (answered (mount_from_starts true k (each_of k.map_count (λ i. get_or l i 0)))) (refused Unsupported)
          ≡ mount_checked (pick t (answered (mount_from_starts false k (each_of k.map_count (λ i. get_or l i 0)))) (refused Unsupported))
      by true = refl
      by false = refl

  mount-checked : mount_of (choice h maps true) ps k ≡ mount_checked (mount_of (choice h maps false) ps k)
  unfolding mount_of mapped_mount
  mount-checked = rw (starts-checked, mounted-checked (map_starts (choice h maps false) ps k k.map_count))
      (by maps (ltb 4 k.map_count) (ltb k.map_table_length (6 * k.map_count)) (ltb 2048 (440 + k.map_table_length)) (mounted_by false k (map_starts (choice h maps false) ps k k.map_count)))
    where
      by : (t a b c : Bool) (x : Outcome Mount)
          → pick t (pick a (refused Unsupported) (pick b (refused Malformed) (pick c (refused Malformed) (mount_checked x)))) (answered (plain_mount true k))
          ≡ mount_checked (pick t (pick a (refused Unsupported) (pick b (refused Malformed) (pick c (refused Malformed) x))) (answered (plain_mount false k)))
      by false a b c x = refl
      by true true b c x = refl
      by true false true c x = refl
      by true false false true x = refl
      by true false false false x = refl

-- what was kept, by its tests, and then m
abbrev tests : Bool → Bool → Bool → Bool → Ask VolumeRecord → Ask VolumeRecord
tests t u v w m = pick t (pick u (pick v (pick w m (refuse Unsupported)) (refuse NotBluray)) (refuse NotBluray)) (refuse NotBluray)

mounting-guards : (h maps : Bool) (ps : List Parsed) (k : Kept) → Guards right_at (mounting_of (choice h maps true) ps k) (marked (mounting_of (choice h maps false) ps k))
unfolding mounting_of then placed start_for mapped_start read_file_set
mounting-guards h maps ps k =
    rw (mount-checked h maps ps k) (by k.has_primary k.has_partition k.has_logical (eqb k.block_size 2048))
  where
    set : (m : Mount) (b : List ℕ) → Guards right_at (ended (volume_in (checked_mount m) k (read_file_set true b))) (marked (ended (volume_in m k (read_file_set false b))))
    set m b =
        gate-guards b 256 416 (λ r. ended (volume_in (checked_mount m) k (gated r (λ t. answered (file_set_of b t)))))
        (λ r. marked (ended (volume_in m k (gated r (λ t. answered (file_set_of b t)))))) (λ r. refl) (λ r. refl) (λ t. done-guards _)

    stands : (m : Mount) (o : Option ℕ)
        → Guards right_at (standing o (λ s. ask s (λ b. ended (volume_in (checked_mount m) k (read_file_set true b)))))
        (marked (standing o (λ s. ask s (λ b. ended (volume_in m k (read_file_set false b))))))
    stands m None = refuse-guards Unsupported (λ e. omega arith)
    stands m (Some s) = ask-guards s (set m)

    mounted : (x : Outcome Mount) → ((r : Refusal) → x ≡ refused r → ButBad r) → Guards right_at (then (ended (mount_checked x)) (file_set_on true k)) (marked (then (ended x) (file_set_on false k)))
    mounted (answered m) f = stands m (file_set_in m k)
    mounted (refused r) f = refuse-guards r (f r refl)

    by : (t u v w : Bool)
        → Guards right_at (tests t u v w (then (ended (mount_checked (mount_of (choice h maps false) ps k))) (file_set_on true k)))
        (marked (tests t u v w (then (ended (mount_of (choice h maps false) ps k)) (file_set_on false k))))
    by true true true true = mounted (mount_of (choice h maps false) ps k) (λ r. mount-refuses ButBad (λ e. omega arith) (λ e. omega arith) (choice h maps false) ps k)
    by true true true false = refuse-guards Unsupported (λ e. omega arith)
    by true true false w = refuse-guards NotBluray (λ e. omega arith)
    by true false v w = refuse-guards NotBluray (λ e. omega arith)
    by false u v w = refuse-guards NotBluray (λ e. omega arith)

pub opening-guards : (h maps : Bool)
    → Guards right_at (opening (record { highest = h; checked = true; maps = maps })) (then (opening (record { highest = h; checked = false; maps = maps })) (λ v. done (as_checked v)))
unfolding opening read_anchor then
opening-guards h maps = ask-guards 256 (λ b. by b)
  where
    led : (n at : ℕ) → Guards right_at (then (scan true n at) (mounting (choice h maps true))) (marked (then (scan false n at) (mounting (choice h maps false))))
    led n at =
        rw (then-then (scan false n at) (mounting (choice h maps false)) (λ v. done (as_checked v)))
        (then-guards (scan-guards n at) (λ ps. mounting-guards h maps ps (kept_of (order_of (choice h maps false)) any_partition nothing ps)))

    by : (b : List ℕ) → Guards right_at (anchored (choice h maps true) (read_anchor true b)) (marked (anchored (choice h maps false) (read_anchor false b)))
    by b =
        gate-guards b 2 32 (λ r. anchored (choice h maps true) (anchor_after b r)) (λ r. marked (anchored (choice h maps false) (anchor_after b r))) (λ r. refl) (λ r. refl) (λ t. led _ _)

-- an opened volume says whether bodies are checked, as was chosen: every call on it goes by that
module _ (d : Disc) (how : How) {v : VolumeRecord} (e : outcome d (opening how) ≡ answered v) where
  pub opened-checked : v.mount.checked ≡ pick how.checked 1 0
  opened-checked = let m = (opened-made d how e).made.mounted in mount-says how _ _ m

  pub opened-is-checked : is_checked v.mount ≡ how.checked
  opened-is-checked = ap (λ n. not (eqb n 0)) opened-checked ∙ by how.checked
    where
      by : (t : Bool) → not (eqb (pick t 1 0) 0) ≡ t
      by true = refl
      by false = refl

-- ---- the label

pub labelling-guards : (h maps : Bool)
    → Guards right_at (labelling (record { highest = h; checked = true; maps = maps })) (labelling (record { highest = h; checked = false; maps = maps }))
unfolding labelling then
labelling-guards h maps =
    let g = then-guards (opening-guards h maps) (λ v. named v (label_of v) refl) in
    rw (then-then (opening (choice h maps false)) (λ v. done (as_checked v)) (λ v. ended (label_of v))) at g
  where
    named : (v : VolumeRecord) (x : Outcome (List ℕ)) → label_of v ≡ x → Guards right_at (ended x) (ended x)
    named v (answered name) e = done-guards name
    named v (refused r) e = refuse-guards r (but-malformed (field-refused v.label e))
