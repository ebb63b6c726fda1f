-- Laws of file identifiers: the returns of the functions that read one, and what an identifier that was read says. Assumes nothing.
use Rattle.std.specs.Prelude.{Result, Ok, Err}
use mathlib.Core.Path.{◌≡◌, refl, ap, ◌∙◌}
use mathlib.Core.Bool.{Bool, true, false}
use mathlib.Core.List.{List}
use Prim.Native.Nat.{ℕ, ◌+◌, ◌-◌, ◌*◌, ◌/◌, ◌≤◌, ◌<◌}
use native.Mathlib.Omega.{arith}
use lib.ListN.{length, take, drop, length-take}
use lib.Dec.{ltb}
use borrow.Author.Tests.{lt-ltb, le-ltb, ltb-false}
use Rattle.disc.specs.Choice.{pick}
use Rattle.disc.specs.Ask.{Outcome}
use Rattle.disc.specs.Ask.Outcome.{answered, refused}
use Rattle.disc.specs.declared.refusals.Refusal.{Refusal}
use Rattle.disc.specs.declared.refusals.Refusal.TheVariants.{Malformed, BadCrc}
use Rattle.records.specs.Bytes.{byte, u16at}
use Rattle.tags.specs.Tags.{read_head}
use Rattle.records.specs.Allocations.{long_of}
use Rattle.records.specs.declared.allocations.LongAd.{LongAd}
use Rattle.tags.specs.declared.DescriptorTag.{DescriptorTag}
use Rattle.names.specs.Names.{name_of, written, size_of}
use Rattle.disc.proofs.ByteLaws.{bytes-taken, bytes-dropped}
use Rattle.names.proofs.Promises.{name-short, name-refused}
use Rattle.identifiers.specs.declared.FileIdentifierDescriptor.{FileIdentifierDescriptor}
use Rattle.disc.specs.Replies.{returned}
use Rattle.identifiers.specs.Identifiers.{name_at, name_end, recorded_name, next_at, identifier_of, identifier_sized, identifier_named, read_identifier}
use Rattle.identifiers.specs.Inner.Wholes.{Whole}
use Rattle.tags.proofs.HeadLaws.{gated-answered, gated-refused}
use Rattle.disc.specs.Parts.{Bytes}
use Rattle.tags.specs.Heads.{Passed}

-- ---- the returns of the functions

module _ (s : List ℕ) where
  pub at-is : {n : ℕ} → n ≡ u16at s 36 → 38 + n ≡ name_at s
  unfolding name_at
  at-is e = rw e

  module _ (t : DescriptorTag) where
    pub fields-are : {v k : ℕ} {icb : LongAd} (a n size : ℕ) → v ≡ u16at s 16 → k ≡ byte s 18 → icb ≡ long_of s 20
        → record { tag = t; file_version_number = v; file_characteristics = k; icb = icb; name_at = a; name_length = n; name_size = size; total_size = (a + n + 3) / 4 * 4 } ≡ identifier_of s t a n size
    unfolding identifier_of
    fields-are a n size v k i = rw (v, k, i)

    module _ (a n : ℕ) {size : Result ℕ Refusal} where
      pub sized-not : {why : Refusal} → size ≡ Err why → Err why ≡ returned (identifier_sized s t a n size)
      unfolding identifier_sized
      sized-not e = rw e

      pub sized-whole : (k : ℕ) → size ≡ Ok k → {f : FileIdentifierDescriptor} → f ≡ identifier_of s t a n k → Ok f ≡ returned (identifier_sized s t a n size)
      unfolding identifier_sized
      sized-whole k e g = rw (e, g)

    module _ {a n : ℕ} (e : a ≡ name_at s) (f : n ≡ byte s 19) where
      end_is : a + n ≡ name_end s
      unfolding name_end
      end_is = cc

      pub named-over : length s < a + n → Err Malformed ≡ returned (identifier_named s t)
      unfolding identifier_named
      named-over h = simp (lt-ltb (length s) (name_end s) (rw end_is at h)) cc

      pub named-sized : a + n ≤ length s → {size : Result ℕ Refusal} → size ≡ size_of (name_of (take (a + n - a) (drop a s))) → {r : Result FileIdentifierDescriptor Refusal}
          → r ≡ returned (identifier_sized s t a n size) → r ≡ returned (identifier_named s t)
      unfolding identifier_named recorded_name
      named-sized h {size} z k =
          let g : a + n - a ≡ n = omega arith in
          let y : size ≡ size_of (name_of (take n (drop a s))) = rw g at z in
          let i : identifier_sized s t a n size ≡ identifier_named s t = simp (le-ltb (length s) (name_end s) (rw end_is at h)) (rw (← e, ← f) (ap (identifier_sized s t a n) y)) in
          k ∙ ap returned i

  -- `x` is what the gate gave
  module _ (check : Bool) {x : Result DescriptorTag Refusal} (e : x ≡ read_head check s 257 38) where
    pub identifier-no : {why : Refusal} → x ≡ Err why → Err why ≡ returned (read_identifier check s)
    unfolding read_identifier
    identifier-no h = rw (← e, h)

    pub identifier-yes : {t : DescriptorTag} {r : Result FileIdentifierDescriptor Refusal} → x ≡ Ok t → r ≡ returned (identifier_named s t) → r ≡ returned (read_identifier check s)
    unfolding read_identifier
    identifier-yes h k = rw (← e, h) k

-- ---- what was read

sized-is : (o : Outcome (List ℕ)) {n : ℕ} → size_of o ≡ Ok n → n ≡ length (written o)
sized-is (refused why) e = absurd (let z : ◌≡◌ {A = ℕ} 0 1 = cc in omega arith)
sized-is (answered name) e = cc

module _ (check : Bool) (s : List ℕ) (b : Bytes s) {f : FileIdentifierDescriptor} where
  sized-says : (t : DescriptorTag) → Passed check s 257 38 t → name_end s ≤ length s → (z : Result ℕ Refusal) → size_of (name_of (recorded_name s)) ≡ z
      → identifier_sized s t (name_at s) (byte s 19) z ≡ answered f → Whole s f
  unfolding identifier_sized identifier_of name_end name_at recorded_name next_at
  sized-says t p w (Err why) z q = absurd (let z : ◌≡◌ {A = ℕ} 0 1 = cc in omega arith)
  sized-says t p w (Ok n) z q =
      let i : identifier_of s t (name_at s) (byte s 19) n ≡ f = cc in
      let name : List ℕ = take (byte s 19) (drop (name_at s) s) in
      let size : n ≡ length (written (name_of name)) = sized-is (name_of name) z in
      let least : length (written (name_of name)) ≤ 2 * (length name - 1) = name-short name (bytes-taken (byte s 19) (drop (name_at s) s) (bytes-dropped (name_at s) s b)) in
      let long : length name ≤ byte s 19 = rw length-take (omega arith) in
      let few : byte s 19 < 256 = (b 19).fits in
      rw (← i)
      (record {
        tag = p.tag;
        id = p.is;
        version = refl;
        characteristics = refl;
        icb = refl;
        from = refl;
        recorded = refl;
        named = z;
        size = size;
        next = refl;
        head = omega arith;
        within = w;
        few = omega arith;
        brief = omega arith;
        short = omega arith;
        on = omega arith;
        near = omega arith;
      })

  named-says : (t : DescriptorTag) → Passed check s 257 38 t → identifier_named s t ≡ answered f → Whole s f
  unfolding identifier_named
  named-says t p q = told (ltb (length s) (name_end s)) refl q
    where
      told : (y : Bool) → ltb (length s) (name_end s) ≡ y
          → pick y (refused Malformed) (identifier_sized s t (name_at s) (byte s 19) (size_of (name_of (recorded_name s)))) ≡ answered f → Whole s f
      told true y q = absurd (let z : ◌≡◌ {A = ℕ} 0 1 = cc in omega arith)
      told false y q = sized-says t p (ltb-false _ _ y) (size_of (name_of (recorded_name s))) refl q

  -- an identifier that was read
  pub identifier-read : read_identifier check s ≡ answered f → Whole s f
  unfolding read_identifier
  identifier-read e = let g = gated-answered check s 257 38 (identifier_named s) e in named-says g.tag g.head g.is

-- the same as the code returns it
pub read-identifier : (check : Bool) (s : List ℕ) → Bytes s → {r : Result FileIdentifierDescriptor Refusal} {f : FileIdentifierDescriptor} → r ≡ returned (read_identifier check s) → r ≡ Ok f → Whole s f
read-identifier check s b {r} {f} e z = told (read_identifier check s) refl e
  where
    told : (o : Outcome FileIdentifierDescriptor) → read_identifier check s ≡ o → r ≡ returned o → Whole s f
    told (answered x) g e = let p : x ≡ f = cc in identifier-read check s b (rw p at g)
    told (refused why) g e = absurd (let y : ◌≡◌ {A = ℕ} 0 1 = cc in omega arith)

-- behind the gate every refusal is `Malformed`
module _ (s : List ℕ) {why : Refusal} where
  pub named-refused : (t : DescriptorTag) → identifier_named s t ≡ refused why → why ≡ Malformed
  unfolding identifier_named identifier_sized
  named-refused t q = told (ltb (length s) (name_end s)) (name_of (recorded_name s)) refl q
    where
      told : (y : Bool) (o : Outcome (List ℕ)) → name_of (recorded_name s) ≡ o
          → pick y (refused Malformed) (identifier_sized s t (name_at s) (byte s 19) (size_of o)) ≡ refused why → why ≡ Malformed
      told true o g q = cc
      told false (answered name) g q = absurd (let z : ◌≡◌ {A = ℕ} 0 1 = cc in omega arith)
      told false (refused w) g q = let p : w ≡ why = cc in name-refused (recorded_name s) (rw p at g)

-- and so is every one of an identifier, or where bodies are checked `BadCrc`
pub identifier-refused : (check : Bool) (s : List ℕ) (P : Refusal → Type 0) → P Malformed → (check ≡ true → P BadCrc) → {why : Refusal} → read_identifier check s ≡ refused why → P why
unfolding read_identifier
identifier-refused check s P bad crc e = gated-refused check s 257 38 (identifier_named s) P bad crc (λ t q. rw (named-refused s t q) bad) e
