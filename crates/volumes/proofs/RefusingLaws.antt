-- Which refusals opening and the label say by themselves: 2, 3 and 4, and 10 where bodies are checked. Assumes nothing.
use Rattle.std.specs.Prelude.{Result, Ok, Err}
use mathlib.Core.Path.{◌≡◌, refl, sym, subst}
use mathlib.Core.Bool.{Bool, true, false}
use mathlib.Core.List.{List}
use Prim.Native.Nat.{ℕ, zero, suc, ◌+◌}
use native.Mathlib.Omega.{arith}
use lib.Dec.{eqb}
use Rattle.disc.specs.declared.places.Mount.{Mount}
use Rattle.disc.specs.Choice.{pick}
use Rattle.disc.specs.Ask.{Ask, Outcome, ended}
use Rattle.disc.specs.Ask.Outcome.{answered, refused}
use Rattle.disc.specs.declared.refusals.Refusal.{Refusal}
use Rattle.disc.specs.declared.refusals.Refusal.TheVariants.{Malformed, NotBluray, Unsupported, BadCrc}
use Rattle.disc.proofs.OnlyLaws.{done-only, refuse-only, ask-only, pick-only, then-only, standing-only}
use Rattle.records.specs.Bytes.{u16at}
use Rattle.names.proofs.Promises.{field-refused}
use Rattle.descriptors.specs.Volumes.{read_anchor, read_partition, read_primary, read_logical}
use Rattle.descriptors.specs.FileSets.{read_file_set}
use Rattle.descriptors.specs.declared.primaries.PrimaryVolumeDescriptor.{PrimaryVolumeDescriptor}
use Rattle.descriptors.specs.declared.logicals.LogicalVolumeDescriptor.{LogicalVolumeDescriptor}
use Rattle.descriptors.specs.declared.file_sets.FileSetDescriptor.{FileSetDescriptor}
use Rattle.descriptors.proofs.AnswerLaws.{anchor-refused, primary-refused, partition-refused, logical-refused, file-set-refused}
use Rattle.volumes.specs.declared.openings.How.{How}
use Rattle.volumes.specs.declared.openings.VolumeRecord.{VolumeRecord}
use Rattle.volumes.specs.declared.sequences.Kept.{Kept}
use Rattle.volumes.specs.Sequences.{nothing, Parsed, order_of, kept_of, Says, primary_in, partition_in, logical_in, says_in, go_on, scan, any_partition}
use Rattle.volumes.specs.Sequences.Says.{found, passed, over, fails}
use Rattle.volumes.specs.Openings.{mount_of, file_set_in, volume_in, mounting_of, anchored, opening}
use Rattle.volumes.proofs.MapLaws.{mount-refuses}
use Rattle.volumes.specs.Labels.{label_of, labelling}
use Rattle.disc.specs.Refusing.{Refuses, Any}
use Rattle.descriptors.specs.declared.partitions.PartitionDescriptor.{PartitionDescriptor}
use Rattle.descriptors.specs.declared.anchors.AnchorVolumeDescriptorPointer.{AnchorVolumeDescriptorPointer}

-- ---- opening, for any P that has 2, 3 and 4, and 10 where bodies are checked

module _ (P : Refusal → Type 0) (malformed : P Malformed) (missing : P NotBluray) (unsupported : P Unsupported) where
  found-only : (x : Says) (rest : Ask (List Parsed)) → Refuses P Any rest → ((r : Refusal) → x ≡ fails r → P r) → Refuses P Any (go_on x rest)
  found-only (found p) rest h f = then-only h (λ ps q. done-only tt)
  found-only passed rest h f = h
  found-only over rest h f = done-only tt
  found-only (fails r) rest h f = refuse-only (f r refl)

  says-only : (check : Bool) → (check ≡ true → P BadCrc) → (b : List ℕ) (r : Refusal) → says_in check b ≡ fails r → P r
  unfolding says_in
  says-only check crc b r = by (eqb (u16at b 0) 1) (eqb (u16at b 0) 5) (eqb (u16at b 0) 6) (eqb (u16at b 0) 8)
    where
      fails_by : {q : Refusal} → ◌≡◌ {A = Says} (fails q) (fails r) → P q → P r
      fails_by e p = subst P (let z : _ ≡ r = cc in z) p

      first : (x : Outcome PrimaryVolumeDescriptor) → read_primary check b ≡ x → primary_in x ≡ fails r → P r
      first (answered d) h e = absurd (let z : ◌≡◌ {A = ℕ} 0 1 = cc in omega arith)
      first (refused q) h e = fails_by e (primary-refused check b P malformed crc h)

      whole : (x : Outcome LogicalVolumeDescriptor) → read_logical check b ≡ x → logical_in x ≡ fails r → P r
      whole (answered d) h e = absurd (let z : ◌≡◌ {A = ℕ} 0 1 = cc in omega arith)
      whole (refused q) h e = fails_by e (logical-refused check b P malformed crc h)

      parted : (x : Result PartitionDescriptor Refusal) → x ≡ read_partition check b → partition_in x ≡ fails r → P r
      parted (Ok d) h e = absurd (let z : ◌≡◌ {A = ℕ} 0 1 = cc in omega arith)
      parted (Err q) h e = fails_by e (partition-refused check b P malformed crc h refl)

      by : (t u v w : Bool) → pick t (primary_in (read_primary check b)) (pick u (partition_in (read_partition check b)) (pick v (logical_in (read_logical check b)) (pick w over passed))) ≡ fails r → P r
      by true u v w e = first (read_primary check b) refl e
      by false true v w e = parted (read_partition check b) refl e
      by false false true w e = whole (read_logical check b) refl e
      by false false false true e = absurd (let z : ◌≡◌ {A = ℕ} 0 1 = cc in omega arith)
      by false false false false e = absurd (let z : ◌≡◌ {A = ℕ} 0 1 = cc in omega arith)

  scan-only : (check : Bool) → (check ≡ true → P BadCrc) → (n at : ℕ) → Refuses P Any (scan check n at)
  unfolding scan
  scan-only check crc zero at = done-only tt
  scan-only check crc (suc n) at = ask-only (λ b. found-only (says_in check b) _ (scan-only check crc n (at + 1)) (says-only check crc b))

  mount-only : (how : How) (ps : List Parsed) (k : Kept) → Refuses P Any (ended (mount_of how ps k))
  mount-only how ps k = by (mount_of how ps k) refl
    where
      by : (x : Outcome Mount) → mount_of how ps k ≡ x → Refuses P Any (ended x)
      by (answered m) e = done-only tt
      by (refused r) e = refuse-only (mount-refuses P malformed unsupported how ps k e)

  mounting-only : (how : How) → (how.checked ≡ true → P BadCrc) → (ps : List Parsed) (k : Kept) → Refuses P Any (mounting_of how ps k)
  unfolding mounting_of
  mounting-only how crc ps k =
      pick-only k.has_primary
      (pick-only k.has_partition
      (pick-only k.has_logical
      (pick-only (eqb k.block_size 2048)
      (then-only (mount-only how ps k) (λ m q. standing-only P unsupported (file_set_in m k) (λ s. ask-only (λ b. by m b (read_file_set how.checked b) refl))))
      (refuse-only unsupported))
      (refuse-only missing))
      (refuse-only missing))
      (refuse-only missing)
    where
      by : (m : Mount) (b : List ℕ) (x : Outcome FileSetDescriptor) → read_file_set how.checked b ≡ x → Refuses P Any (ended (volume_in m k x))
      by m b (answered d) e = done-only tt
      by m b (refused r) e = refuse-only (file-set-refused how.checked b P malformed crc e)

  pub opening-only : (how : How) → (how.checked ≡ true → P BadCrc) → Refuses P Any (opening how)
  unfolding opening
  opening-only how crc = ask-only (λ b. by b (read_anchor how.checked b) refl)
    where
      by : (b : List ℕ) (x : Result AnchorVolumeDescriptorPointer Refusal) → x ≡ read_anchor how.checked b → Refuses P Any (anchored how x)
      by b (Err r) e = refuse-only (anchor-refused how.checked b P malformed crc e refl)
      by b (Ok a) e = then-only (scan-only how.checked crc _ _) (λ ps q. mounting-only how crc ps (kept_of (order_of how) any_partition nothing ps))

  pub label-only : (how : How) → (how.checked ≡ true → P BadCrc) → Refuses P Any (labelling how)
  unfolding labelling
  label-only how crc = then-only (opening-only how crc) (λ v q. by v (label_of v) refl)
    where
      by : (v : VolumeRecord) (x : Outcome (List ℕ)) → label_of v ≡ x → Refuses P Any (ended x)
      by v (answered name) e = done-only tt
      by v (refused r) e = refuse-only (subst P (sym (field-refused v.label e)) malformed)
