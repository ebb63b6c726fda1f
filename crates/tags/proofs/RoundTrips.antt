-- Encoding what was read gives the same bytes, and reading what was encoded gives the same record, with the exceptions: an id that is not
-- listed, and a header with another id than 258.
-- Assumes nothing.
use Rattle.std.specs.Prelude.{Result, Ok, Err}
use Prim.Native.Nat.{ℕ, ◌≤◌}
use mathlib.Core.Path.{◌≡◌, refl, ap, ap₂, sym, ◌∙◌}
use mathlib.Core.Bool.{Bool, true, false, ◌&&◌, and-eq-true_iff}
use mathlib.Core.List.{List, ◌∷◌, ◌++◌}
use native.Mathlib.Omega.{arith}
use borrow.Author.Tests.{le-leb, leb-true, eqb-true, eq-eqb, ne_eqb}
use lib.Dec.{leb, eqb}
use lib.ListN.{length, take}
use Rattle.disc.proofs.PickLaws.{picked}
use Rattle.disc.specs.declared.refusals.Refusal.TheVariants.{Malformed}
use Rattle.records.specs.Bytes.{byte, u16at, le32}
use Rattle.tags.specs.Tags.{listed, checksum, accepted, tag_of, read_tag, tag_bytes, encode_tag, with_body, with_id, read_head, aed_after, read_aed, encode_aed}
use Rattle.tags.specs.Values.{TagValue, AedValue}
use Rattle.tags.specs.declared.DescriptorTag.{DescriptorTag}
use Rattle.tags.specs.declared.AllocationExtentDescriptor.{AllocationExtentDescriptor}
use Rattle.tags.proofs.HeadLaws.{head_read, aed-read}
use Rattle.records.proofs.Numbers.{u16-le16, u32-le32, le16-u16, le32-u32, from, from-take}
use Rattle.disc.specs.Parts.{Bytes}
use Rattle.tags.specs.Heads.{written}
use Rattle.disc.specs.declared.refusals.Refusal.{Refusal}

-- ---- tag

-- a tag that was read: there were 16 bytes, they were accepted, and it is theirs
pub read_only : (s : List ℕ) (t : DescriptorTag) → read_tag s ≡ Ok t → (16 ≤ length s) × (accepted s ≡ true) × (tag_of s ≡ t)
read_only s t e =
    let p = picked (λ a. a ≡ Ok t) (leb 16 (length s) && accepted s) (Ok (tag_of s)) (Err Malformed) e (λ f. let z : ◌≡◌ {A = ℕ} 0 1 = cc in omega arith) in
    let q = (and-eq-true_iff (leb 16 (length s)) (accepted s)).0 p.0 in
    let r : tag_of s ≡ t = cc in
    (leb-true 16 (length s) q.0, q.1, r)

-- what follows a tag's bytes is not looked at
module _ (t : DescriptorTag) (rest : List ℕ) (h : TagValue t) where
  id_same : u16at (written t rest) 0 ≡ t.id
  id_same = u16-le16 t.id h.id

  written-accepted : accepted (written t rest) ≡ listed t.id
  written-accepted = ap₂ (λ (a b : Bool). a && true && b) (ap listed id_same) (eq-eqb (checksum (written t rest)) (checksum (written t rest)) refl) ∙ both (listed t.id)
    where
      both : (b : Bool) → (b && true && true) ≡ b
      both true = refl
      both false = refl

  pub tag-again : listed t.id ≡ true → read_tag (written t rest) ≡ Ok t
  tag-again l = simp (le-leb 16 (length (written t rest)) (omega arith), written-accepted, l) (ap Ok same)
    where
      same : tag_of (written t rest) ≡ t
      same = λ i.
          record {
            id = id_same i;
            descriptor_version = u16-le16 t.descriptor_version h.version i;
            serial_number = u16-le16 t.serial_number h.serial i;
            crc = u16-le16 t.crc h.crc i;
            crc_length = u16-le16 t.crc_length h.crc-length i;
            location = u32-le32 t.location h.location i;
          }

  -- one that reading can't give isn't read back
  pub tag-unlisted : listed t.id ≡ false → read_tag (written t rest) ≡ Err Malformed
  tag-unlisted l = simp (le-leb 16 (length (written t rest)) (omega arith), written-accepted, l)

tag-bytes-back : (s : List ℕ) → Bytes s → accepted s ≡ true → encode_tag (tag_of s) ≡ from s 0 16
tag-bytes-back s h e =
    ap (λ (l : List ℕ). tag_bytes (tag_of s) (checksum l)) (bytes 0)
    ∙ ap (tag_bytes (tag_of s)) (ap (λ (z : ℕ). checksum (front 0 z)) (sym reserved) ∙ sym (eqb-true _ _ parts.1))
    ∙ bytes (byte s 4)
    ∙ ap (front (byte s 4)) (sym reserved)
  where
    front : ℕ → ℕ → List ℕ
    front c z = from s 0 4 ++ c ∷ z ∷ from s 6 10

    bytes : (c : ℕ) → tag_bytes (tag_of s) c ≡ front c 0
    bytes c = λ i. le16-u16 s h 0 i ++ le16-u16 s h 2 i ++ c ∷ 0 ∷ le16-u16 s h 6 i ++ le16-u16 s h 8 i ++ le16-u16 s h 10 i ++ le32-u32 s h 12 i

    parts : ((listed (u16at s 0) && eqb (byte s 5) 0) ≡ true) × (eqb (byte s 4) (checksum s) ≡ true)
    parts = (and-eq-true_iff _ _).0 e

    reserved : byte s 5 ≡ 0
    reserved = eqb-true _ _ ((and-eq-true_iff (listed (u16at s 0)) _).0 parts.0).1

pub tag_back : (s : List ℕ) → Bytes s → (t : DescriptorTag) → read_tag s ≡ Ok t → encode_tag t ≡ take 16 s
tag_back s h t e =
    let r = read_only s t e in
    ap encode_tag (sym r.2) ∙ tag-bytes-back s h r.1 ∙ from-take s 16 r.0

-- ---- the header of an allocation extent: one encoded with another id isn't read back

module _ (a : AllocationExtentDescriptor) (h : AedValue a) where
  abbrev numbers : List ℕ
  numbers = le32 a.previous_allocation_extent_location ++ le32 a.length_of_allocation_descriptors

  -- by what its tag is read as
  by-tag : {r : Result DescriptorTag Refusal} → read_tag (encode_aed a) ≡ r → read_aed false (encode_aed a) ≡ aed_after (encode_aed a) (with_id 258 r)
  unfolding read_aed read_head with_body
  by-tag {r} e = ap (λ (x : Result DescriptorTag Refusal). aed_after (encode_aed a) (with_id 258 (with_body false (encode_aed a) x))) e ∙ ap (λ (x : Result DescriptorTag Refusal). aed_after (encode_aed a) (with_id 258 x)) (unchecked r)
    where
      unchecked : (x : Result DescriptorTag Refusal) → with_body false (encode_aed a) x ≡ x
      unchecked (Ok t) = refl
      unchecked (Err w) = refl

  pub aed-again : a.tag.id ≡ 258 → read_aed false (encode_aed a) ≡ Ok a
  unfolding aed_after with_id
  aed-again e =
      by-tag (tag-again a.tag numbers h.tag (ap listed e)) ∙ simp (eq-eqb a.tag.id 258 e) (λ i.
      Ok (record {
        tag = a.tag;
        previous_allocation_extent_location = u32-le32 a.previous_allocation_extent_location h.previous i;
        length_of_allocation_descriptors = u32-le32 a.length_of_allocation_descriptors h.area i;
      }))

  pub aed-other : (a.tag.id ≡ 258 → ⊥) → read_aed false (encode_aed a) ≡ Err Malformed
  unfolding aed_after with_id
  aed-other n = by (listed a.tag.id) refl
    where
      by : (b : Bool) → listed a.tag.id ≡ b → read_aed false (encode_aed a) ≡ Err Malformed
      by true l = by-tag (tag-again a.tag numbers h.tag l) ∙ simp (ne_eqb a.tag.id 258 n)
      by false l = by-tag (tag-unlisted a.tag numbers h.tag l)

pub aed-back : (check : Bool) (s : List ℕ) → Bytes s → (a : AllocationExtentDescriptor) → read_aed check s ≡ Ok a → encode_aed a ≡ take 24 s
aed-back check s h a e =
    let q = aed-read check s refl e in
    let p = head_read check s 258 24 q.head in
    let r = read_only s a.tag p.tag in
    (λ i. (ap encode_tag (sym r.2) ∙ tag-bytes-back s h r.1) i ++ le32 (q.previous i) ++ le32 (q.area i))
    ∙ (λ i. from s 0 16 ++ le32-u32 s h 16 i ++ le32-u32 s h 20 i)
    ∙ from-take s 24 p.long
