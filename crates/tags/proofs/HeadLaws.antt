-- Laws of the gate: the returns of its functions, and what its answer tells. Assumes nothing.
use Rattle.std.specs.Prelude.{Result, Ok, Err}
use Prim.Native.Nat.{ℕ, ◌-◌, ◌<◌, ◌≤◌}
use mathlib.Core.Path.{◌≡◌, refl, sym, ◌∙◌, ap}
use mathlib.Core.Bool.{Bool, true, false, not, ◌&&◌}
use mathlib.Core.List.{List}
use native.Mathlib.Omega.{arith}
use lib.ListN.{length, take, drop}
use lib.Seq.{take-length}
use lib.Dec.{leb, eqb}
use borrow.Author.Tests.{eq-eqb, ne_eqb, le-leb, lt-leb, eqb-true, leb-true}
use Rattle.disc.specs.Choice.{pick}
use Rattle.disc.specs.Ask.{Outcome}
use Rattle.disc.specs.Ask.Outcome.{answered, refused}
use Rattle.disc.specs.declared.refusals.Refusal.{Refusal}
use Rattle.disc.specs.declared.refusals.Refusal.TheVariants.{Malformed, BadCrc}
use Rattle.disc.proofs.PickLaws.{not-both}
use Rattle.records.specs.Bytes.{u32at}
use Rattle.tags.specs.Tags.{accepted, tag_of, read_tag, body_right, with_body, with_id, read_head, gated, aed_after, read_aed}
use Rattle.tags.specs.declared.DescriptorTag.{DescriptorTag}
use Rattle.tags.specs.declared.AllocationExtentDescriptor.{AllocationExtentDescriptor}
use Rattle.tags.specs.Heads.{Passed}

-- a tag that is refused is malformed
pub tag-refused : (s : List ℕ) {why : Refusal} → read_tag s ≡ Err why → why ≡ Malformed
tag-refused s {why} e = told (leb 16 (length s) && accepted s) e
  where
    told : (b : Bool) → pick b (Ok (tag_of s)) (Err Malformed) ≡ Err why → why ≡ Malformed
    told true q = absurd (let z : ◌≡◌ {A = ℕ} 0 1 = cc in omega arith)
    told false q = cc

-- ---- the returns of `with_id`

module _ (id : ℕ) {r : Result DescriptorTag Refusal} where
  pub id-refused : {why : Refusal} → r ≡ Err why → Err why ≡ with_id id r
  unfolding with_id
  id-refused e = rw e

  module _ {t : DescriptorTag} (e : r ≡ Ok t) where
    pub id_other : (t.id ≡ id → ⊥) → Err Malformed ≡ with_id id r
    unfolding with_id
    id_other h = rw (e, ne_eqb t.id id h)

    pub id_same : t.id ≡ id → Ok t ≡ with_id id r
    unfolding with_id
    id_same h = rw (e, eq-eqb t.id id h)

-- ---- the returns of `is_ruined`, whose callees are lent all of s as a part

module _ (s : List ℕ) {r : Result DescriptorTag Refusal} (e : r ≡ read_tag (take (length s - 0) (drop 0 s))) where
  whole : take (length s - 0) (drop 0 s) ≡ s
  whole = let k : length s - 0 ≡ length s = omega arith in ap (λ (n : ℕ). take n s) k ∙ take-length s

  pub ruined-not : {why : Refusal} → r ≡ Err why → with_body true s (read_tag s) ≡ read_tag s
  unfolding with_body
  ruined-not {why} h = let k : read_tag s ≡ Err why = rw whole at (sym e ∙ h) in rw k

  pub ruined-by : {t : DescriptorTag} → r ≡ Ok t → {b : Bool} → b ≡ body_right (take (length s - 0) (drop 0 s)) t
      → with_body true s (read_tag s) ≡ pick (not b) (Err BadCrc) (read_tag s)
  unfolding with_body
  ruined-by {t} h {b} f =
      let k : read_tag s ≡ Ok t = rw whole at (sym e ∙ h) in
      let g : b ≡ body_right s t = rw whole at f in
      rw (k, ← g) (told b)
    where
      told : (b : Bool) → pick b (Ok t) (Err BadCrc) ≡ pick (not b) (Err BadCrc) (Ok t)
      told true = refl
      told false = refl

-- ---- the returns of `read_head`

module _ (check : Bool) (s : List ℕ) (id size : ℕ) where
  pub head-short : length s < size → Err Malformed ≡ read_head check s id size
  unfolding read_head
  head-short h = rw (lt-leb size (length s) h)

  module _ (h : size ≤ length s) where
    pub head_plain : check ≡ false → {r x : Result DescriptorTag Refusal} → r ≡ read_tag s → x ≡ with_id id r → x ≡ read_head check s id size
    unfolding read_head with_body
    head_plain c {r} e f = f ∙ rw (le-leb size (length s) h, c, ← e) (ap (with_id id) (told r))
      where
        told : (r : Result DescriptorTag Refusal) → r ≡ with_body false s r
        told (Ok t) = refl
        told (Err why) = refl

    -- where bodies are checked, by what `is_ruined` says
    module _ (c : check ≡ true) {w : Bool} (k : with_body true s (read_tag s) ≡ pick w (Err BadCrc) (read_tag s)) where
      pub head-ruined : w ≡ true → Err BadCrc ≡ read_head check s id size
      unfolding read_head with_id
      head-ruined z = rw (le-leb size (length s) h, c, k, z)

      pub head-right : w ≡ false → {r x : Result DescriptorTag Refusal} → r ≡ read_tag s → x ≡ with_id id r → x ≡ read_head check s id size
      unfolding read_head
      head-right z e f = f ∙ rw (le-leb size (length s) h, c, k, z, e)

  -- ---- what its answer tells

  pub head_read : {t : DescriptorTag} → read_head check s id size ≡ Ok t → Passed check s id size t
  unfolding read_head with_id with_body
  head_read {t} e = told (leb size (length s)) (read_tag s) refl refl e
    where
      same : (b : Bool) (u : DescriptorTag) → eqb u.id id ≡ b → leb size (length s) ≡ true → read_tag s ≡ Ok u → (check ≡ true → body_right s u ≡ true)
          → pick b (Ok u) (Err Malformed) ≡ Ok t → Passed check s id size t
      same true u f l g q k =
          let p : u ≡ t = cc in
          record { long = leb-true size (length s) l; tag = rw p at g; body = λ c. rw p at (q c); is = rw p at (eqb-true u.id id f) }
      same false u f l g q k = absurd (let z : ◌≡◌ {A = ℕ} 0 1 = cc in omega arith)

      held : (c b : Bool) (u : DescriptorTag) → check ≡ c → body_right s u ≡ b → leb size (length s) ≡ true → read_tag s ≡ Ok u
          → with_id id (pick c (pick b (Ok u) (Err BadCrc)) (Ok u)) ≡ Ok t → Passed check s id size t
      held true true u f h l g k = same (eqb u.id id) u refl l g (λ c. h) k
      held true false u f h l g k = absurd (let z : ◌≡◌ {A = ℕ} 0 1 = cc in omega arith)
      held false b u f h l g k = same (eqb u.id id) u refl l g (λ c. not-both (sym f ∙ c)) k

      told : (a : Bool) (r : Result DescriptorTag Refusal) → leb size (length s) ≡ a → read_tag s ≡ r → pick a (with_id id (with_body check s r)) (Err Malformed) ≡ Ok t → Passed check s id size t
      told true (Ok u) l g k = held check (body_right s u) u refl refl l g k
      told true (Err w) l g k = absurd (let z : ◌≡◌ {A = ℕ} 0 1 = cc in omega arith)
      told false r l g k = absurd (let z : ◌≡◌ {A = ℕ} 0 1 = cc in omega arith)

  -- the same as a caller of `read_head` has it
  pub head-long : {x : Result DescriptorTag Refusal} {t : DescriptorTag} → x ≡ read_head check s id size → x ≡ Ok t → size ≤ length s
  head-long e h = (head_read (sym e ∙ h)).long

  -- every refusal is `Malformed`, or where bodies are checked `BadCrc`
  pub head-refused : (P : Refusal → Type 0) → P Malformed → (check ≡ true → P BadCrc) → {why : Refusal} → read_head check s id size ≡ Err why → P why
  unfolding read_head with_id with_body
  head-refused P bad crc {why} e = told (leb size (length s)) (read_tag s) refl e
    where
      is : {w : Refusal} → P w → w ≡ why → P why
      is p f = rw f at p

      same : (b : Bool) (u : DescriptorTag) → pick b (Ok u) (Err Malformed) ≡ Err why → P why
      same true u k = absurd (let z : ◌≡◌ {A = ℕ} 0 1 = cc in omega arith)
      same false u k = is bad cc

      held : (c b : Bool) (u : DescriptorTag) → check ≡ c → with_id id (pick c (pick b (Ok u) (Err BadCrc)) (Ok u)) ≡ Err why → P why
      held true true u f k = same (eqb u.id id) u k
      held true false u f k = is (crc f) cc
      held false b u f k = same (eqb u.id id) u k

      told : (a : Bool) (r : Result DescriptorTag Refusal) → read_tag s ≡ r → pick a (with_id id (with_body check s r)) (Err Malformed) ≡ Err why → P why
      told true (Ok u) g k = held check (body_right s u) u refl k
      told true (Err w) g k = let p : w ≡ why = cc in is bad (sym (tag-refused s (rw p at g)))
      told false r g k = is bad cc

-- ---- behind the gate

module _ {A : Type 0} (check : Bool) (s : List ℕ) (id size : ℕ) (f : DescriptorTag → Outcome A) where
  -- an answer: the gate was passed with a tag
  pub record Behind (a : A) : Type 0 where
    pub tag : DescriptorTag
    pub head : Passed check s id size tag
    pub is : f tag ≡ answered a

  pub gated-answered : {a : A} → gated (read_head check s id size) f ≡ answered a → Behind a
  gated-answered {a} e = told (read_head check s id size) refl e
    where
      told : (h : Result DescriptorTag Refusal) → read_head check s id size ≡ h → gated h f ≡ answered a → Behind a
      told (Ok t) g k = record { tag = t; head = head_read check s id size g; is = k }
      told (Err w) g k = absurd (let z : ◌≡◌ {A = ℕ} 0 1 = cc in omega arith)

  -- a refusal: one of the gate's, or of what stands behind it
  pub gated-refused : (P : Refusal → Type 0) → P Malformed → (check ≡ true → P BadCrc) → {why : Refusal} → ((t : DescriptorTag) → f t ≡ refused why → P why)
      → gated (read_head check s id size) f ≡ refused why → P why
  gated-refused P bad crc {why} n e = told (read_head check s id size) refl e
    where
      told : (h : Result DescriptorTag Refusal) → read_head check s id size ≡ h → gated h f ≡ refused why → P why
      told (Ok t) g k = n t k
      told (Err w) g k = let p : w ≡ why = cc in head-refused check s id size P bad crc (rw p at g)

-- ---- the header of an allocation extent

module _ (check : Bool) (s : List ℕ) where
  module _ {x : Result DescriptorTag Refusal} (e : x ≡ read_head check s 258 24) where
    pub aed-no : {why : Refusal} → x ≡ Err why → Err why ≡ read_aed check s
    unfolding read_aed aed_after
    aed-no h = rw (← e, h)

    pub aed-yes : {t : DescriptorTag} {a b : ℕ} → x ≡ Ok t → a ≡ u32at s 16 → b ≡ u32at s 20
        → Ok (record { tag = t; previous_allocation_extent_location = a; length_of_allocation_descriptors = b }) ≡ read_aed check s
    unfolding read_aed aed_after
    aed-yes h p q = rw (← e, h, p, q)

  -- a header that was read: the gate was passed with its tag, and its numbers are those of the bytes
  pub record ReadHeader (a : AllocationExtentDescriptor) : Type 0 where
    pub head : read_head check s 258 24 ≡ Ok a.tag
    pub previous : a.previous_allocation_extent_location ≡ u32at s 16
    pub area : a.length_of_allocation_descriptors ≡ u32at s 20

  pub aed-read : {r : Result AllocationExtentDescriptor Refusal} {a : AllocationExtentDescriptor} → r ≡ read_aed check s → r ≡ Ok a → ReadHeader a
  unfolding read_aed aed_after
  aed-read {r} {a} e h = told (read_head check s 258 24) refl (sym e ∙ h)
    where
      told : (x : Result DescriptorTag Refusal) → read_head check s 258 24 ≡ x → aed_after s x ≡ Ok a → ReadHeader a
      told (Err w) g k = absurd (let z : ◌≡◌ {A = ℕ} 0 1 = cc in omega arith)
      told (Ok t) g k =
          let p : record { tag = t; previous_allocation_extent_location = u32at s 16; length_of_allocation_descriptors = u32at s 20 } ≡ a = cc in
          record {
            head = g ∙ ap (λ (x : AllocationExtentDescriptor). Ok x.tag) p;
            previous = sym (ap (λ (x : AllocationExtentDescriptor). x.previous_allocation_extent_location) p);
            area = sym (ap (λ (x : AllocationExtentDescriptor). x.length_of_allocation_descriptors) p);
          }

  -- and one that was refused is refused as the gate refuses
  pub aed-refused : (P : Refusal → Type 0) → P Malformed → (check ≡ true → P BadCrc) → {r : Result AllocationExtentDescriptor Refusal} {why : Refusal} → r ≡ read_aed check s → r ≡ Err why → P why
  unfolding read_aed aed_after
  aed-refused P bad crc {r} {why} e h = told (read_head check s 258 24) refl (sym e ∙ h)
    where
      told : (x : Result DescriptorTag Refusal) → read_head check s 258 24 ≡ x → aed_after s x ≡ Err why → P why
      told (Err w) g k = let p : w ≡ why = cc in head-refused check s 258 24 P bad crc (rw p at g)
      told (Ok t) g k = absurd (let z : ◌≡◌ {A = ℕ} 0 1 = cc in omega arith)
