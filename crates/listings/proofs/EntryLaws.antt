-- One entry read, written and compared, in the form that the functions on it ask for. Assumes nothing.
use Rattle.std.specs.Prelude.{Result, Ok, Err}
use mathlib.Core.Path.{◌≡◌, refl, sym, ap, ◌∙◌}
use mathlib.Core.Bool.{Bool, true, false, ◌||◌, not}
use mathlib.Core.List.{List, [], ◌∷◌, ◌++◌, append-nil, append_assoc}
use mathlib.Core.Logic.{⊎_elim}
use Prim.Native.Nat.{ℕ, ◌+◌, ◌-◌, ◌*◌, ◌/◌, ◌%◌, ◌<◌, ◌≤◌, zero-le}
use native.Mathlib.Nat.{add-sub_cancel_left}
use native.Mathlib.Omega.{arith}
use lib.Dec.{eqb}
use lib.ListN.{length, take, drop, length-append, length-drop, drop_of_length-le}
use lib.Seq.{take_all, drop-drop, drop_at, length-take-le, sets, length-sets, sets-eq}
use borrow.Author.Tests.{eqb-true, eqb-false, lt-ltb, le-ltb}
use borrow.Rule.Slice.PartMut.{mid_of, put_mid}
use Rattle.disc.specs.Choice.{pick}
use Rattle.disc.specs.Refusals.{number}
use Rattle.disc.specs.Ask.{Outcome}
use Rattle.disc.specs.Ask.Outcome.{answered, refused}
use Rattle.disc.specs.declared.refusals.Refusal.{Refusal}
use Rattle.disc.specs.declared.refusals.Refusal.TheVariants.{Ambiguous}
use Rattle.disc.specs.Moves.{over}
use Rattle.disc.proofs.MoveLaws.{over-fits}
use Rattle.disc.proofs.ImageLaws.{split}
use Rattle.records.specs.Bytes.{byte, u16at, u32at, le16, le32, six}
use Rattle.records.specs.Allocations.{encode_long, long_of}
use Rattle.records.proofs.Numbers.{le16-u16, le32-u32, u32-fits, raw-whole}
use Rattle.records.specs.declared.allocations.LongAd.{LongAd}
use Rattle.names.specs.Names.{Wrote, name_of, written, fold_of, is_named}
use Rattle.names.specs.declared.matching.Fold.{Fold}
use Rattle.names.specs.declared.matching.Fold.TheVariants.{Lower, AsIs}
use Rattle.identifiers.specs.declared.FileIdentifierDescriptor.{FileIdentifierDescriptor}
use Rattle.disc.specs.Replies.{returned}
use Rattle.identifiers.specs.Identifiers.{read_identifier, recorded_name, name_at, name_end, next_at, bit, is_directory}
use Rattle.identifiers.specs.Inner.Wholes.{Whole}
use Rattle.identifiers.proofs.IdentifierLaws.{identifier-read, read-identifier}
use Rattle.listings.specs.Entries.{Entry, entry_of, entry_in, entry_read, is_skipped, name_in}
use Rattle.listings.specs.Listings.{record_head, entry_record, fold_for, answers_to, unnamed}
use Rattle.listings.specs.Inner.Passes.{seen_of, Recorded, Puts, icb_in, head_in, record_in, settled, joined_of, noted_of}
use Rattle.listings.specs.declared.directory_entries.EntrySeen.{EntrySeen}
use Rattle.listings.specs.declared.finds.Named.{Named}
use Rattle.listings.specs.declared.matchings.Matching.{Matching}
use Rattle.listings.specs.declared.matchings.Matching.TheVariants.{CaseIgnored, AsWritten, Unambiguous}
use Rattle.disc.specs.Parts.{Bytes}

-- ---- a lent tail

-- a tail of xs that was lent came back with v written over its front
pub tail-over : (a : ℕ) (xs v ys : List ℕ) → a + length v ≤ length xs → ys ≡ over v (mid_of a (length xs - a) xs) → put_mid a (length xs - a) xs ys ≡ sets xs a v
tail-over a xs v ys h e =
    let k : length (drop a xs) ≤ length xs - a = rw length-drop (omega arith) in
    let l : length v ≤ length (drop a xs) = rw length-drop (omega arith) in
    rw (e, take_all (length xs - a) (drop a xs), over-fits v (drop a xs) l, drop_of_length-le (drop a xs) k, drop-drop)
    (rw (append-nil, ← append_assoc (take a xs) v) (sym (sets-eq v xs a h)))

-- a text whose end was written first, and then its front
pub front-over : (v w d : List ℕ) → length v + length w ≤ length d → over v (sets d (length v) w) ≡ over (v ++ w) d
front-over v w d h =
    let l : length v ≤ length (sets d (length v) w) = rw length-sets (omega arith) in
    let k : length (take (length v) d) ≡ length v = length-take-le (length v) d (omega arith) in
    let m : length (v ++ w) ≤ length d = rw length-append h in
    over-fits v (sets d (length v) w) l
    ∙ rw (sets-eq w d (length v) h, append_assoc (take (length v) d) w, drop_at (take (length v) d) (w ++ drop (length v + length w) d) (length v) k)
    (rw (over-fits (v ++ w) d m, length-append) (sym (append_assoc v w _)))

-- ---- reading

-- e is the entry at the front of s
pub record Known (s : List ℕ) (e : Entry) : Type 0 where
  pub is : e ≡ entry_of s e.identifier
  pub whole : Whole s e.identifier

module _ (check : Bool) (s : List ℕ) (b : Bytes s) {r : Result FileIdentifierDescriptor Refusal} (p : r ≡ returned (read_identifier check s)) where
  module _ {f : FileIdentifierDescriptor} (z : r ≡ Ok f) where
    pub read-good : entry_read check s ≡ answered (entry_of s f)
    unfolding entry_read
    read-good = told (read_identifier check s) (sym z ∙ p)
      where
        told : (o : Outcome FileIdentifierDescriptor) → Ok f ≡ returned o → entry_in s o ≡ answered (entry_of s f)
        told (answered x) e = let q : f ≡ x = cc in rw q
        told (refused why) e = absurd (let y : ◌≡◌ {A = ℕ} 0 1 = cc in omega arith)

    pub read_whole : Whole s f
    read_whole = read-identifier check s b p z

  pub read-bad : {why : Refusal} → r ≡ Err why → entry_read check s ≡ refused why
  unfolding entry_read
  read-bad {why} z = told (read_identifier check s) (sym z ∙ p)
    where
      told : (o : Outcome FileIdentifierDescriptor) → Err why ≡ returned o → entry_in s o ≡ refused why
      told (answered x) e = absurd (let y : ◌≡◌ {A = ℕ} 0 1 = cc in omega arith)
      told (refused w) e = cc

pub known : (check : Bool) (s : List ℕ) → Bytes s → {e : Entry} → entry_read check s ≡ answered e → Known s e
unfolding entry_read
known check s b {e} h = told (read_identifier check s) refl h
  where
    told : (o : Outcome FileIdentifierDescriptor) → read_identifier check s ≡ o → entry_in s o ≡ answered e → Known s e
    told (answered f) g k =
        let x : e ≡ entry_of s f = cc in
        rw x (record { is = refl; whole = identifier-read check s b g })
    told (refused why) g k = absurd (let y : ◌≡◌ {A = ℕ} 0 1 = cc in omega arith)

pub left-out-is : (m : ℕ) {a b r : Bool} → a ≡ bit 4 m → b ≡ bit 8 m → r ≡ (a || b) → r ≡ (bit 4 m || bit 8 m)
left-out-is m p q e = rw (e, p, q)

pub skipped-is : (f : FileIdentifierDescriptor) {b : Bool} → b ≡ (bit 4 f.file_characteristics || bit 8 f.file_characteristics) → b ≡ is_skipped f
unfolding is_skipped
skipped-is f e = e

-- ---- a record's head

head-length : (d : Bool) (icb : LongAd) (n : ℕ) → length (record_head d icb n) ≡ 21
unfolding record_head
head-length d icb n = refl

-- the ICB as it is recorded is what encoding it gives
pub icb-recorded : (s : List ℕ) → Bytes s → encode_long (long_of s 20) ≡ icb_in s
icb-recorded s b =
    ap (λ (n : ℕ). le32 n ++ le32 (u32at s 24) ++ le16 (u16at s 28) ++ six s 30) (raw-whole (u32at s 20) (u32-fits s b 20))
    ∙ (λ i. le32-u32 s b 20 i ++ le32-u32 s b 24 i ++ le16-u16 s b 28 i ++ six s 30)

-- a bit is its own byte
bit_byte : (b : ℕ) → b / 2 % 2 ≡ pick (bit 2 b) 1 0
bit_byte b = by (bit 2 b) refl
  where
    by : (t : Bool) → bit 2 b ≡ t → b / 2 % 2 ≡ pick t 1 0
    by true e = eqb-true (b / 2 % 2) 1 e
    by false e = let n : b / 2 % 2 ≡ 1 → ⊥ = eqb-false (b / 2 % 2) 1 e in omega (arith, n)

-- ---- an entry with the identifier f at the front of s

-- its recorded name, as the code cuts it out
abbrev pub part : List ℕ → FileIdentifierDescriptor → List ℕ
part s f = take (f.name_at + f.name_length - f.name_at) (drop f.name_at s)

module _ {s : List ℕ} {f : FileIdentifierDescriptor} (w : Whole s f) where
  recorded-is : recorded_name s ≡ part s f
  unfolding recorded_name
  recorded-is = rw (add-sub_cancel_left, w.from, w.recorded)

  pub size_is : length (name_in (entry_of s f)) ≡ f.name_size
  unfolding name_in
  size_is = sym w.size

  pub record-length : length (entry_record (entry_of s f)) ≡ pick (is_skipped f) 0 (21 + f.name_size)
  unfolding entry_record is_skipped name_in
  record-length = rw (← size_is) (by (is_skipped f))
    where
      by : (b : Bool) → length (pick b [] (record_head (is_directory f) f.icb (length (name_in (entry_of s f))) ++ name_in (entry_of s f))) ≡ pick b 0 (21 + length (name_in (entry_of s f)))
      by true = refl
      by false = length-append (record_head (is_directory f) f.icb (length (name_in (entry_of s f)))) (name_in (entry_of s f)) ∙ ap (λ n. n + length (name_in (entry_of s f))) (head-length _ _ _)

module _ (fold : ℕ → ℕ) (s : List ℕ) {f : FileIdentifierDescriptor} {b : Bool} (e : b ≡ is_skipped f) (component : List ℕ) where
  pub skipped-unnamed : b ≡ true → Whole s f → false ≡ answers_to fold component (entry_of s f)
  unfolding answers_to
  skipped-unnamed h w = rw (← e, h)

  pub part-named : b ≡ false → {r : Bool} → r ≡ is_named fold (part s f) component → Whole s f → r ≡ answers_to fold component (entry_of s f)
  unfolding answers_to
  part-named h k w = rw (← e, h, recorded-is w) k

-- ---- a record by an entry's bytes

pub head-is : (directory : ℕ) (s : List ℕ) (n : ℕ) {r : List ℕ} → r ≡ 0x44 ∷ 0x45 ∷ directory ∷ (icb_in s ++ le16 n) → r ≡ head_in directory s n
unfolding head_in
head-is directory s n e = e

pub head-long : (directory : ℕ) (s : List ℕ) (n : ℕ) → length (head_in directory s n) ≡ 21
unfolding head_in
head-long directory s n = refl

-- the returns of `put_record`
module _ (marks : ℕ) (s name d : List ℕ) where
  pub record-short : length d < 21 → Recorded marks s name d d 0
  record-short h = record { inside = zero-le; wrote = λ room. absurd (omega arith) }

  module _ {ys : List ℕ} {w : ℕ} (p : Wrote name (mid_of 21 (length d - 21) d) ys w) (l : length (put_mid 21 (length d - 21) d ys) ≡ length d) where
    pub record-cut : length (put_mid 21 (length d - 21) d ys) - 21 < w → Recorded marks s name d (put_mid 21 (length d - 21) d ys) 0
    record-cut h = record { inside = zero-le; wrote = λ room. absurd (omega (arith, p.count)) }

    pub record-put : 21 ≤ length d → w ≤ length (put_mid 21 (length d - 21) d ys) - 21 → {directory : ℕ} → directory ≡ marks / 2 % 2 → {hd d' : List ℕ} → hd ≡ head_in directory s w
        → d' ≡ over hd (put_mid 21 (length d - 21) d ys) → Recorded marks s name d d' (21 + w)
    unfolding record_in
    record-put least h q {hd} j c =
        let z = head-long (marks / 2 % 2) s (length name) in
        let i : hd ≡ head_in (marks / 2 % 2) s (length name) = j ∙ rw (q, p.count) in
        record {
          inside = omega arith;
          wrote = λ room. record {
            count = rw (length-append, z) (ap (λ n. 21 + n) p.count);
            bytes =
                c ∙ rw (i, tail-over 21 d name ys room p.bytes, ← z)
                (front-over (head_in (marks / 2 % 2) s (length name)) name d (omega (arith, room, z)));
          };
        }

-- ---- the record of an entry that was read

module _ (s : List ℕ) (b : Bytes s) {e : Entry} (k : Known s e) where
  abbrev f : FileIdentifierDescriptor
  f = e.identifier

  head_bytes : (name : List ℕ) → length name ≡ f.name_size → record_head (is_directory f) f.icb f.name_size ≡ head_in (byte s 18 / 2 % 2) s (length name)
  unfolding record_head head_in
  head_bytes name z =
      ap (λ (x : ℕ). 0x44 ∷ 0x45 ∷ pick (bit 2 x) 1 0 ∷ (encode_long f.icb ++ le16 f.name_size)) k.whole.characteristics
      ∙ ap (λ (x : ℕ). 0x44 ∷ 0x45 ∷ x ∷ (encode_long f.icb ++ le16 f.name_size)) (sym (bit_byte (byte s 18)))
      ∙ ap (λ (x : List ℕ). 0x44 ∷ 0x45 ∷ byte s 18 / 2 % 2 ∷ (x ++ le16 f.name_size)) (ap encode_long k.whole.icb ∙ icb-recorded s b)
      ∙ ap (λ (x : ℕ). head_in (byte s 18 / 2 % 2) s x) (sym z)

  left_out : is_skipped f ≡ true → (d : List ℕ) → Wrote (entry_record e) d d 0
  unfolding entry_record
  left_out h d = rw h (record { count = refl; bytes = sym (over-fits [] d (omega arith)) })

  module _ (h : is_skipped f ≡ false) where
    -- its name, as the code cuts it out
    abbrev name : List ℕ
    name = written (name_of (take (name_at s + byte s 19 - name_at s) (drop (name_at s) s)))

    name-there : name_in e ≡ name
    unfolding name_in recorded_name
    name-there = rw (k.is, add-sub_cancel_left)

    pub record_is : entry_record e ≡ record_in (byte s 18) s name
    unfolding entry_record record_in
    record_is =
        let z : length name ≡ f.name_size = rw (← name-there, k.is) (size_is k.whole) in
        rw (h, name-there) (ap (λ (x : ℕ). record_head (is_directory f) f.icb x ++ name) z ∙ (λ j. head_bytes name z j ++ name))

    name-room : (d : List ℕ) → length (entry_record e) ≤ length d → 21 + length name ≤ length d
    unfolding record_in
    name-room d room =
        let long : length (entry_record e) ≡ 21 + length name = rw (record_is, length-append, head-long) in
        omega (arith, long)

-- ---- an entry that is looked at

-- the returns of `look`
module _ (s : List ℕ) {m from n : ℕ} (i : m ≡ byte s 18) (a : from ≡ name_at s) (l : n ≡ byte s 19) where
  end_is : from + n ≡ name_end s
  unfolding name_end
  end_is = rw (a, l)

  pub look-past : length s < from + n → record { skipped = true; marks = m; from = 0; end = 0; next = length s } ≡ seen_of s
  unfolding seen_of
  look-past h = rw (lt-ltb (length s) (name_end s) (omega (arith, end_is)), i)

  pub look-whole : from + n ≤ length s → {t : Bool} → t ≡ (bit 4 m || bit 8 m) → record { skipped = t; marks = m; from = from; end = from + n; next = (from + n + 3) / 4 * 4 } ≡ seen_of s
  unfolding seen_of next_at
  look-whole h u = rw (u, le-ltb (length s) (name_end s) (omega (arith, end_is)), i, end_is, a)

-- what is seen stays inside the bytes, whatever they are
pub record Inside (s : List ℕ) (r : EntrySeen) : Type 0 where
  pub further : 38 ≤ length s → 38 ≤ r.next
  pub near : r.next ≤ length s + 3
  pub order : r.from ≤ r.end
  pub ends : r.end ≤ length s

pub seen-inside : (s : List ℕ) {r : EntrySeen} → r ≡ seen_of s → Inside s r
unfolding seen_of next_at name_end name_at
seen-inside s e = rw e (⊎_elim
    (λ (h : name_end s ≤ length s). rw (le-ltb (length s) (name_end s) h) (record { further = λ k. omega arith; near = omega arith; order = omega arith; ends = omega arith }))
    (λ (h : length s < name_end s). rw (lt-ltb (length s) (name_end s) h) (record { further = λ k. k; near = omega arith; order = omega arith; ends = omega arith }))
    (split (name_end s) (length s)))

pub seen-order : (s : List ℕ) {r : EntrySeen} → r ≡ seen_of s → r.from ≤ r.end
seen-order s e = (seen-inside s e).order

pub seen-ends : (s : List ℕ) {r : EntrySeen} → r ≡ seen_of s → r.end ≤ length s
seen-ends s e = (seen-inside s e).ends

-- and of an entry that can be read it is what reading it says
pub record Sees (s : List ℕ) (e : Entry) (r : EntrySeen) : Type 0 where
  pub skips : r.skipped ≡ is_skipped e.identifier
  pub marks : r.marks ≡ byte s 18
  pub from : r.from ≡ name_at s
  pub end : r.end ≡ name_at s + byte s 19
  pub next : r.next ≡ next_at s

pub seen-known : (s : List ℕ) {r : EntrySeen} → r ≡ seen_of s → {e : Entry} → Known s e → Sees s e r
unfolding seen_of name_end is_skipped
seen-known s q {e} k =
    let w : name_at s + byte s 19 ≤ length s = omega (arith, k.whole.within, k.whole.from, k.whole.recorded) in
    rw (q, le-ltb (length s) (name_end s) w)
    (record { skips = rw k.whole.characteristics; marks = refl; from = refl; end = refl; next = refl })

-- ---- the returns of `put_entry`

module _ (s : List ℕ) (b : Bytes s) (least : 38 ≤ length s) {r : EntrySeen} (q : r ≡ seen_of s) where
  put-puts : {d d' : List ℕ} {w : ℕ} → w ≤ length d → ((e : Entry) → entry_read false s ≡ answered e → length (entry_record e) ≤ length d → Wrote (entry_record e) d d' w)
      → Puts s d d' (record { wrote = w; next = r.next })
  put-puts i k =
      let x = seen-inside s q in
      record { inside = i; further = omega (arith, x.further least); near = x.near; next = λ e g. (seen-known s q (known false s b g)).next; wrote = k }

  pub put-left-out : r.skipped ≡ true → (d : List ℕ) → Puts s d d (record { wrote = 0; next = r.next })
  put-left-out v d = put-puts zero-le (λ e g room. let k = known false s b g in left_out s b k (sym (seen-known s q k).skips ∙ v) d)

  pub put-recorded : r.skipped ≡ false → {d d' : List ℕ} {w : ℕ} → Recorded r.marks s (written (name_of (take (r.end - r.from) (drop r.from s)))) d d' w
      → Puts s d d' (record { wrote = w; next = r.next })
  put-recorded v {d} w =
      put-puts w.inside (λ e g room.
      let k = known false s b g in
      let x = seen-known s q k in
      let h : is_skipped e.identifier ≡ false = sym x.skips ∙ v in
      let y = rw (x.marks, x.from, x.end) at w in
      rw (record_is s b k h) (y.wrote (name-room s b k h d room)))

-- ---- what is found with one more entry

module _ (m : Matching) (found : Named) where
  pub settled_case : m ≡ CaseIgnored → found.found ≡ settled m found
  settled_case e = rw e refl

  pub settled-written : m ≡ AsWritten → found.found ≡ settled m found
  settled-written e = rw e refl

  pub settled_only : m ≡ Unambiguous → not (eqb found.answer 0) ≡ settled m found
  settled_only e = rw e refl

  module _ (s component : List ℕ) {f : FileIdentifierDescriptor} {t : Bool} (u : t ≡ settled m found) where
    pub noted-settled : t ≡ true → Whole s f → found ≡ noted_of m found component (entry_of s f)
    unfolding noted_of
    noted-settled h w = rw (← u, h)

    module _ (n : t ≡ false) {g : Fold} (k : g ≡ fold_for m) {b : Bool} (e : Whole s f → b ≡ answers_to (fold_of g) component (entry_of s f)) where
      pub noted-none : b ≡ false → Whole s f → found ≡ noted_of m found component (entry_of s f)
      unfolding noted_of
      noted-none h w = rw (← u, n, ← k, ← e w, h)

      pub noted-this : b ≡ true → {a : Named} → a ≡ joined_of found f → Whole s f → a ≡ noted_of m found component (entry_of s f)
      unfolding noted_of
      noted-this h q w = rw (← u, n, ← k, ← e w, h) q

module _ (found : Named) (f : FileIdentifierDescriptor) where
  pub joined-again : found.found ≡ true → {n : ℕ} → n ≡ number Ambiguous → {a : Named} → a ≡ unnamed n → a ≡ joined_of found f
  joined-again h e q = q ∙ rw (h, e)

  pub joined-first : found.found ≡ false → {q : Bool} → q ≡ is_directory f → record { answer = 0; found = true; icb = f.icb; directory = q } ≡ joined_of found f
  joined-first h e = rw (h, e)

-- ---- the fold of a choice

module _ (m : Matching) where
  pub fold-case : m ≡ CaseIgnored → Lower ≡ fold_for m
  fold-case e = rw e refl

  pub fold-written : m ≡ AsWritten → AsIs ≡ fold_for m
  fold-written e = rw e refl

  pub fold-only : m ≡ Unambiguous → Lower ≡ fold_for m
  fold-only e = rw e refl
