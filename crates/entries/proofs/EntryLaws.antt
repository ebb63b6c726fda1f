-- Laws of entries: the returns of the functions that read one, and what an entry that was read says. Assumes nothing.
use Rattle.std.specs.Prelude.{Some, None, Result, Ok, Err}
use mathlib.Core.Path.{◌≡◌, refl, sym, ap, ◌∙◌}
use mathlib.Core.Bool.{Bool, true, false}
use mathlib.Core.List.{List}
use Prim.Native.Nat.{ℕ, ◌+◌, ◌%◌, ◌≤◌, ◌<◌}
use native.Mathlib.Omega.{arith}
use lib.ListN.{length}
use lib.Dec.{eqb, ltb}
use borrow.Author.Tests.{eq-eqb, ne_eqb, lt-ltb, le-ltb, ltb-false}
use Rattle.disc.specs.Choice.{pick}
use Rattle.disc.specs.declared.refusals.Refusal.{Refusal}
use Rattle.disc.specs.declared.refusals.Refusal.TheVariants.{Malformed, BadCrc}
use Rattle.records.specs.Bytes.{u16at, u32at, u64at}
use Rattle.tags.specs.Tags.{read_head}
use Rattle.tags.specs.declared.DescriptorTag.{DescriptorTag}
use Rattle.entries.specs.declared.icb_tags.IcbTag.{IcbTag}
use Rattle.entries.specs.declared.file_entries.EntryTail.{EntryTail}
use Rattle.entries.specs.declared.file_entries.FileEntry.{FileEntry}
use Rattle.entries.specs.IcbTags.{icb_tag_of}
use Rattle.entries.specs.FileEntries.{plain_tail, extended_tail, kind_of, entry_of, entry_with, entry_id, entry_behind, entry_after, read_entry}
use Rattle.tags.proofs.HeadLaws.{head_read, head-refused}
use Rattle.tags.specs.Heads.{Passed}
use Rattle.entries.specs.Whole.{tail_of, WholeEntry}

-- ---- the returns of `plain_tail` and `extended_tail`

module _ (s : List ℕ) {blocks attributes descriptors : ℕ} where
  pub plain-is : blocks ≡ u64at s 64 → attributes ≡ u32at s 168 → descriptors ≡ u32at s 172
      → record { prefix = 176; logical_blocks_recorded = blocks; object_size = None; attributes = attributes; descriptors = descriptors } ≡ plain_tail s
  unfolding plain_tail
  plain-is b a d = rw (b, a, d)

  pub extended-is : blocks ≡ u64at s 72 → {object : ℕ} → object ≡ u64at s 64 → attributes ≡ u32at s 208 → descriptors ≡ u32at s 212
      → record { prefix = 216; logical_blocks_recorded = blocks; object_size = Some object; attributes = attributes; descriptors = descriptors } ≡ extended_tail s
  unfolding extended_tail
  extended-is b o a d = rw (b, o, a, d)

-- ---- the returns of `entry_with`

module _ (s : List ℕ) (t : DescriptorTag) (i : IcbTag) (d : EntryTail) where
  pub with-kind : 3 < i.flags % 8 → Err Malformed ≡ entry_with s t i d
  unfolding entry_with
  with-kind h = simp (lt-ltb 3 (i.flags % 8) h)

  module _ (h : i.flags % 8 ≤ 3) where
    pub with-over : {a : ℕ} → a ≡ d.prefix + d.attributes → length s < a + d.descriptors → Err Malformed ≡ entry_with s t i d
    unfolding entry_with
    with-over f k = simp (le-ltb 3 (i.flags % 8) h, lt-ltb _ _ (rw f at k))

    pub with_read : {a : ℕ} → a ≡ d.prefix + d.attributes → a + d.descriptors ≤ length s → {x : FileEntry} → x ≡ entry_of s t i d → Ok x ≡ entry_with s t i d
    unfolding entry_with
    with_read f k g = simp (le-ltb 3 (i.flags % 8) h, le-ltb _ _ (rw f at k), g)

-- ---- the returns of `entry_id` and `entry_behind`

module _ (s : List ℕ) {d : EntryTail} where
  pub plain-prefix : d ≡ plain_tail s → d.prefix ≤ 216
  unfolding plain_tail
  plain-prefix e = rw e (omega arith)

  pub extended-prefix : d ≡ extended_tail s → d.prefix ≤ 216
  unfolding extended_tail
  extended-prefix e = rw e (omega arith)

module _ (s : List ℕ) {id : ℕ} (e : id ≡ u16at s 0) where
  pub id-extended : id ≡ 266 → 266 ≡ entry_id s
  id-extended h = rw (← e, eq-eqb id 266 h)

  pub id-plain : (id ≡ 266 → ⊥) → 261 ≡ entry_id s
  id-plain h = rw (← e, ne_eqb id 266 h)

module _ (s : List ℕ) (t : DescriptorTag) where
  pub behind-short : t.id ≡ 266 → length s < 216 → Err Malformed ≡ entry_behind s t
  unfolding entry_behind
  behind-short h l = rw (eq-eqb t.id 266 h, lt-ltb (length s) 216 l)

  module _ {i : IcbTag} (g : i ≡ icb_tag_of s 16) {d : EntryTail} {x : Result FileEntry Refusal} (k : x ≡ entry_with s t i d) where
    pub behind-extended : t.id ≡ 266 → 216 ≤ length s → d ≡ extended_tail s → x ≡ entry_behind s t
    unfolding entry_behind
    behind-extended h l f = rw (eq-eqb t.id 266 h, le-ltb (length s) 216 l, ← g, ← f) k

    pub behind-plain : (t.id ≡ 266 → ⊥) → d ≡ plain_tail s → x ≡ entry_behind s t
    unfolding entry_behind
    behind-plain h f = rw (ne_eqb t.id 266 h, ← g, ← f) k

-- ---- the returns of `parse`: `x` is what the gate gave

module _ (check : Bool) (s : List ℕ) {id : ℕ} (i : id ≡ entry_id s) {x : Result DescriptorTag Refusal} (e : x ≡ read_head check s id 176) where
  pub entry-no : {why : Refusal} → x ≡ Err why → Err why ≡ read_entry check s
  unfolding read_entry
  entry-no h = rw (← i, ← e, h)

  pub entry-yes : {t : DescriptorTag} → x ≡ Ok t → {r : Result FileEntry Refusal} → r ≡ entry_behind s t → r ≡ read_entry check s
  unfolding read_entry
  entry-yes h k = rw (← i, ← e, h) k

-- ---- what was read

module _ (check : Bool) (s : List ℕ) {e : FileEntry} (t : DescriptorTag) (p : Passed check s (entry_id s) 176 t) where
  with-says : (d : EntryTail) → d ≡ tail_of s t → entry_with s t (icb_tag_of s 16) d ≡ Ok e → WholeEntry check s e
  unfolding entry_with entry_of
  with-says d f q = told (ltb 3 (kind_of (icb_tag_of s 16))) (ltb (length s) (d.prefix + d.attributes + d.descriptors)) refl refl q
    where
      told : (a b : Bool) → ltb 3 (kind_of (icb_tag_of s 16)) ≡ a → ltb (length s) (d.prefix + d.attributes + d.descriptors) ≡ b
          → pick a (Err Malformed) (pick b (Err Malformed) (Ok (entry_of s t (icb_tag_of s 16) d))) ≡ Ok e → WholeEntry check s e
      told true b x y q = absurd (let z : ◌≡◌ {A = ℕ} 0 1 = cc in omega arith)
      told false true x y q = absurd (let z : ◌≡◌ {A = ℕ} 0 1 = cc in omega arith)
      told false false x y q =
          let i : e ≡ entry_of s t (icb_tag_of s 16) d = cc in
          record { head = rw i p; fields = rw i (ap (entry_of s t (icb_tag_of s 16)) f); known = rw i (ltb-false _ _ x); inside = rw i (ltb-false _ _ y) }

  behind-says : entry_behind s t ≡ Ok e → WholeEntry check s e
  unfolding entry_behind
  behind-says q = told (eqb t.id 266) (ltb (length s) 216) refl q
    where
      told : (a b : Bool) → eqb t.id 266 ≡ a
          → pick a (pick b (Err Malformed) (entry_with s t (icb_tag_of s 16) (extended_tail s))) (entry_with s t (icb_tag_of s 16) (plain_tail s)) ≡ Ok e
          → WholeEntry check s e
      told true true x q = absurd (let z : ◌≡◌ {A = ℕ} 0 1 = cc in omega arith)
      told true false x q = with-says (extended_tail s) (rw x) q
      told false b x q = with-says (plain_tail s) (rw x) q

-- an entry that was read
pub read-entry : (check : Bool) (s : List ℕ) {e : FileEntry} {r : Result FileEntry Refusal} → r ≡ read_entry check s → r ≡ Ok e → WholeEntry check s e
unfolding read_entry
read-entry check s {e} p q = told (read_head check s (entry_id s) 176) refl (sym p ∙ q)
  where
    told : (h : Result DescriptorTag Refusal) → read_head check s (entry_id s) 176 ≡ h → entry_after s h ≡ Ok e → WholeEntry check s e
    told (Err why) g q = absurd (let z : ◌≡◌ {A = ℕ} 0 1 = cc in omega arith)
    told (Ok t) g q = behind-says check s t (head_read check s (entry_id s) 176 g) q

-- an entry that is refused behind the gate is malformed
module _ (s : List ℕ) {why : Refusal} where
  with-refused : (t : DescriptorTag) (d : EntryTail) → entry_with s t (icb_tag_of s 16) d ≡ Err why → why ≡ Malformed
  unfolding entry_with
  with-refused t d q = told (ltb 3 (kind_of (icb_tag_of s 16))) (ltb (length s) (d.prefix + d.attributes + d.descriptors)) q
    where
      told : (a b : Bool) → pick a (Err Malformed) (pick b (Err Malformed) (Ok (entry_of s t (icb_tag_of s 16) d))) ≡ Err why → why ≡ Malformed
      told true b q = cc
      told false true q = cc
      told false false q = absurd (let z : ◌≡◌ {A = ℕ} 0 1 = cc in omega arith)

  pub behind-refused : (t : DescriptorTag) → entry_behind s t ≡ Err why → why ≡ Malformed
  unfolding entry_behind
  behind-refused t q = told (eqb t.id 266) (ltb (length s) 216) q
    where
      told : (a b : Bool)
          → pick a (pick b (Err Malformed) (entry_with s t (icb_tag_of s 16) (extended_tail s))) (entry_with s t (icb_tag_of s 16) (plain_tail s)) ≡ Err why
          → why ≡ Malformed
      told true true q = cc
      told true false q = with-refused t (extended_tail s) q
      told false b q = with-refused t (plain_tail s) q

-- so every refusal is `Malformed`, or where bodies are checked `BadCrc`
pub read-entry-refused : (check : Bool) (s : List ℕ) (P : Refusal → Type 0) → P Malformed → (check ≡ true → P BadCrc) → {r : Result FileEntry Refusal} {why : Refusal}
    → r ≡ read_entry check s → r ≡ Err why → P why
unfolding read_entry
read-entry-refused check s P bad crc {r} {why} p q = told (read_head check s (entry_id s) 176) refl (sym p ∙ q)
  where
    told : (h : Result DescriptorTag Refusal) → read_head check s (entry_id s) 176 ≡ h → entry_after s h ≡ Err why → P why
    told (Err w) g q = let p : w ≡ why = cc in head-refused check s (entry_id s) 176 P bad crc (rw p at g)
    told (Ok t) g q = rw (behind-refused s t q) bad
