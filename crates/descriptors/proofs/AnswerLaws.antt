-- What an answer tells: the gate was passed and the record is that of the bytes, and every refusal is `Malformed`, or where bodies are checked `BadCrc`.
-- Of an anchor and a partition descriptor a caller has `x ≡ read_anchor check s` of the call and, say, `x ≡ Read a` of an arm. Assumes nothing.
use Rattle.std.specs.Prelude.{Result, Ok, Err}
use Prim.Native.Nat.{ℕ}
use mathlib.Core.Path.{◌≡◌, refl, sym, ◌∙◌}
use mathlib.Core.Bool.{Bool, true}
use mathlib.Core.List.{List}
use native.Mathlib.Omega.{arith}
use lib.ListN.{take, drop}
use Rattle.disc.specs.Ask.{Outcome}
use Rattle.disc.specs.Ask.Outcome.{answered, refused}
use Rattle.disc.specs.declared.refusals.Refusal.{Refusal}
use Rattle.disc.specs.declared.refusals.Refusal.TheVariants.{Malformed, BadCrc}
use Rattle.tags.specs.Tags.{read_head}
use Rattle.tags.specs.declared.DescriptorTag.{DescriptorTag}
use Rattle.tags.proofs.HeadLaws.{head_read, head-refused, gated-answered, gated-refused}
use Rattle.names.specs.Names.{name_of_field}
use Rattle.names.proofs.Promises.{field-refused}
use Rattle.descriptors.specs.Volumes.{anchor_of, anchor_after, read_anchor, labelled, primary_of, primary_behind, read_primary, partition_of, partition_after, read_partition, logical_of, logical_behind, read_logical}
use Rattle.descriptors.specs.FileSets.{file_set_of, read_file_set}
use Rattle.descriptors.specs.declared.anchors.AnchorVolumeDescriptorPointer.{AnchorVolumeDescriptorPointer}
use Rattle.descriptors.specs.declared.primaries.PrimaryVolumeDescriptor.{PrimaryVolumeDescriptor}
use Rattle.descriptors.specs.declared.logicals.LogicalVolumeDescriptor.{LogicalVolumeDescriptor}
use Rattle.descriptors.specs.declared.file_sets.FileSetDescriptor.{FileSetDescriptor}
use Rattle.descriptors.specs.declared.partitions.PartitionDescriptor.{PartitionDescriptor}
use Rattle.descriptors.specs.Accepted.{GoodAnchor, GoodPartition, GoodPrimary, GoodLogical, GoodFileSet}

module _ (check : Bool) (s : List ℕ) where
  pub anchor-good : {x : Result AnchorVolumeDescriptorPointer Refusal} {a : AnchorVolumeDescriptorPointer} → x ≡ read_anchor check s → x ≡ Ok a → GoodAnchor check s a
  unfolding read_anchor
  anchor-good {x} {a} e h = told (read_head check s 2 32) refl (sym e ∙ h)
    where
      told : (h : Result DescriptorTag Refusal) → read_head check s 2 32 ≡ h → anchor_after s h ≡ Ok a → GoodAnchor check s a
      told (Ok t) e k = let p : a ≡ anchor_of s t = cc in record { head = rw p (head_read check s 2 32 e); is = rw p }
      told (Err w) e k = absurd (let z : ◌≡◌ {A = ℕ} 0 1 = cc in omega arith)

  pub anchor-refused : (P : Refusal → Type 0) → P Malformed → (check ≡ true → P BadCrc) → {x : Result AnchorVolumeDescriptorPointer Refusal} {r : Refusal} → x ≡ read_anchor check s → x ≡ Err r → P r
  unfolding read_anchor
  anchor-refused P bad crc {x} {r} e h = told (read_head check s 2 32) refl (sym e ∙ h)
    where
      told : (h : Result DescriptorTag Refusal) → read_head check s 2 32 ≡ h → anchor_after s h ≡ Err r → P r
      told (Ok t) e k = absurd (let z : ◌≡◌ {A = ℕ} 0 1 = cc in omega arith)
      told (Err w) e k = let p : w ≡ r = cc in head-refused check s 2 32 P bad crc (rw p at e)

  pub partition-good : {x : Result PartitionDescriptor Refusal} {p : PartitionDescriptor} → x ≡ read_partition check s → x ≡ Ok p → GoodPartition check s p
  unfolding read_partition
  partition-good {x} {p} e h = told (read_head check s 5 196) refl (sym e ∙ h)
    where
      told : (h : Result DescriptorTag Refusal) → read_head check s 5 196 ≡ h → partition_after s h ≡ Ok p → GoodPartition check s p
      told (Ok t) e k = let q : p ≡ partition_of s t = cc in record { head = rw q (head_read check s 5 196 e); is = rw q }
      told (Err w) e k = absurd (let z : ◌≡◌ {A = ℕ} 0 1 = cc in omega arith)

  pub partition-refused : (P : Refusal → Type 0) → P Malformed → (check ≡ true → P BadCrc) → {x : Result PartitionDescriptor Refusal} {r : Refusal} → x ≡ read_partition check s → x ≡ Err r → P r
  unfolding read_partition
  partition-refused P bad crc {x} {r} e h = told (read_head check s 5 196) refl (sym e ∙ h)
    where
      told : (h : Result DescriptorTag Refusal) → read_head check s 5 196 ≡ h → partition_after s h ≡ Err r → P r
      told (Ok t) e k = absurd (let z : ◌≡◌ {A = ℕ} 0 1 = cc in omega arith)
      told (Err w) e k = let p : w ≡ r = cc in head-refused check s 5 196 P bad crc (rw p at e)

-- ---- the descriptors whose answer is a struct

-- a label is refused as its name is
labelled-bad : {A : Type 0} (o : Outcome (List ℕ)) (d : A) {r : Refusal} → labelled o d ≡ refused r → o ≡ refused r
labelled-bad (refused w) d e = cc
labelled-bad (answered name) d e = absurd (let z : ◌≡◌ {A = ℕ} 0 1 = cc in omega arith)

record Labelled {A : Type 0} (o : Outcome (List ℕ)) (d a : A) : Type 0 where
  name : List ℕ
  named : o ≡ answered name
  is : d ≡ a

labelled-good : {A : Type 0} (o : Outcome (List ℕ)) (d : A) {a : A} → labelled o d ≡ answered a → Labelled o d a
labelled-good (refused w) d e = absurd (let z : ◌≡◌ {A = ℕ} 0 1 = cc in omega arith)
labelled-good (answered name) d e = record { name = name; named = refl; is = cc }

-- so behind the gate every refusal is `Malformed`
module _ (s : List ℕ) (t : DescriptorTag) {r : Refusal} where
  pub primary-behind-refused : primary_behind s t ≡ refused r → r ≡ Malformed
  unfolding primary_behind
  primary-behind-refused k = field-refused (take 32 (drop 24 s)) (labelled-bad (name_of_field (take 32 (drop 24 s))) (primary_of s t) k)

  pub logical-behind-refused : logical_behind s t ≡ refused r → r ≡ Malformed
  unfolding logical_behind
  logical-behind-refused k = field-refused (take 128 (drop 84 s)) (labelled-bad (name_of_field (take 128 (drop 84 s))) (logical_of s t) k)

module _ (check : Bool) (s : List ℕ) where
  pub primary-good : {d : PrimaryVolumeDescriptor} → read_primary check s ≡ answered d → GoodPrimary check s d
  unfolding read_primary primary_behind
  primary-good e =
      let g = gated-answered check s 1 56 (primary_behind s) e in
      let l = labelled-good (name_of_field (take 32 (drop 24 s))) (primary_of s g.tag) g.is in
      rw (← l.is) (record { head = g.head; is = refl; name = l.name; named = l.named })

  pub primary-refused : (P : Refusal → Type 0) → P Malformed → (check ≡ true → P BadCrc) → {r : Refusal} → read_primary check s ≡ refused r → P r
  unfolding read_primary
  primary-refused P bad crc e = gated-refused check s 1 56 (primary_behind s) P bad crc (λ t k. rw (primary-behind-refused s t k) bad) e

  pub logical-good : {d : LogicalVolumeDescriptor} → read_logical check s ≡ answered d → GoodLogical check s d
  unfolding read_logical logical_behind
  logical-good e =
      let g = gated-answered check s 6 440 (logical_behind s) e in
      let l = labelled-good (name_of_field (take 128 (drop 84 s))) (logical_of s g.tag) g.is in
      rw (← l.is) (record { head = g.head; is = refl; name = l.name; named = l.named })

  pub logical-refused : (P : Refusal → Type 0) → P Malformed → (check ≡ true → P BadCrc) → {r : Refusal} → read_logical check s ≡ refused r → P r
  unfolding read_logical
  logical-refused P bad crc e = gated-refused check s 6 440 (logical_behind s) P bad crc (λ t k. rw (logical-behind-refused s t k) bad) e

  pub file-set-good : {d : FileSetDescriptor} → read_file_set check s ≡ answered d → GoodFileSet check s d
  unfolding read_file_set
  file-set-good {d} e =
      let g = gated-answered check s 256 416 (λ t. answered (file_set_of s t)) e in
      let p : file_set_of s g.tag ≡ d = let k = g.is in cc in
      rw (← p) (record { head = g.head; is = refl })

  pub file-set-refused : (P : Refusal → Type 0) → P Malformed → (check ≡ true → P BadCrc) → {r : Refusal} → read_file_set check s ≡ refused r → P r
  unfolding read_file_set
  file-set-refused P bad crc e = gated-refused check s 256 416 (λ t. answered (file_set_of s t)) P bad crc (λ t k. absurd (let z : ◌≡◌ {A = ℕ} 0 1 = cc in omega arith)) e
