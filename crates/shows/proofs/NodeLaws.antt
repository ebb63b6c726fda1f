-- One entry in the second pass of a show: its record with the level. Assumes nothing.
use mathlib.Core.Path.{◌≡◌, refl, sym, ap, ◌∙◌}
use mathlib.Core.Bool.{Bool, true, false, ◌&&◌, and-true}
use mathlib.Core.List.{List, [], ◌∷◌, ◌++◌}
use Prim.Native.Nat.{ℕ, ◌+◌, ◌-◌, ◌/◌, ◌%◌, ◌≤◌, ◌<◌, zero-le}
use native.Mathlib.Omega.{arith}
use lib.Dec.{ltb}
use lib.ListN.{length, take, drop, length-append, length-take, length-drop}
use lib.Seq.{sets, sets-eq, length-sets}
use borrow.Author.Tests.{lt-ltb, ltb-true}
use borrow.Rule.Slice.PartMut.{mid_of, put_mid}
use Rattle.disc.specs.Moves.{over}
use Rattle.disc.specs.Parts.{Bytes}
use Rattle.disc.specs.Ask.Outcome.{answered}
use Rattle.disc.proofs.MoveLaws.{over-fits}
use Rattle.records.specs.Bytes.{byte}
use Rattle.names.specs.Names.{Wrote, name_of, written}
use Rattle.identifiers.specs.Identifiers.{name_at, bit}
use Rattle.listings.specs.Entries.{Entry, entry_read, is_skipped}
use Rattle.listings.specs.Listings.{entry_record}
use Rattle.listings.specs.Inner.Passes.{seen_of, head_in, record_in}
use Rattle.listings.specs.declared.directory_entries.EntrySeen.{EntrySeen}
use Rattle.listings.proofs.EntryLaws.{tail-over, front-over, head-long, Known, known, record_is, seen-inside, seen-known}
use Rattle.shows.specs.Shows.{leveled, node_record}
use Rattle.shows.specs.Inner.Writes.{Leveled, own_record, NodePuts}

-- ---- a record with the level in it

leveled-long : (level : ℕ) (r : List ℕ) → length (leveled level r) ≡ 1 + length r
unfolding leveled
leveled-long level r = rw (length-append, length-take, length-drop) (omega arith)

-- it is one byte longer than the listing's
pub record-long : (level : ℕ) (x : Entry) → length (node_record (record { level = level; entry = x })) ≡ 1 + length (entry_record x)
unfolding node_record
record-long level x = leveled-long level (entry_record x)

-- a listing's record a byte behind the front, and over its mark the mark with the level
mark-over : (level : ℕ) (r d ys : List ℕ) → 1 + length (0x44 ∷ 0x45 ∷ r) ≤ length d → ys ≡ over (0x44 ∷ 0x45 ∷ r) (mid_of 1 (length d - 1) d)
    → over (0x44 ∷ 0x45 ∷ level ∷ []) (put_mid 1 (length d - 1) d ys) ≡ over (leveled level (0x44 ∷ 0x45 ∷ r)) d
unfolding leveled
mark-over level r [] ys h e = absurd (omega arith)
mark-over level r (a ∷ d) ys h e =
    let v : List ℕ = 0x44 ∷ 0x45 ∷ r in
    let u : put_mid 1 (length (a ∷ d) - 1) (a ∷ d) ys ≡ sets (a ∷ d) 1 v = tail-over 1 (a ∷ d) v ys h e in
    let w : sets (a ∷ d) 1 v ≡ a ∷ 0x44 ∷ 0x45 ∷ (r ++ drop (1 + length v) (a ∷ d)) = sets-eq v (a ∷ d) 1 h in
    let n : 1 + length v ≡ length (0x44 ∷ 0x45 ∷ level ∷ r) = omega arith in
    ap (over (0x44 ∷ 0x45 ∷ level ∷ [])) (u ∙ w)
    ∙ over-fits (0x44 ∷ 0x45 ∷ level ∷ []) (a ∷ 0x44 ∷ 0x45 ∷ (r ++ drop (1 + length v) (a ∷ d))) (omega arith)
    ∙ ap (λ k. 0x44 ∷ 0x45 ∷ level ∷ (r ++ drop k (a ∷ d))) n
    ∙ sym (over-fits (0x44 ∷ 0x45 ∷ level ∷ r) (a ∷ d) (omega arith))

-- the same with the name written before it
head-over : (level : ℕ) (h name d ys : List ℕ) → length h ≡ 19 → 22 + length name ≤ length d → ys ≡ over (0x44 ∷ 0x45 ∷ h) (mid_of 1 (length (sets d 22 name) - 1) (sets d 22 name))
    → over (0x44 ∷ 0x45 ∷ level ∷ []) (put_mid 1 (length (sets d 22 name) - 1) (sets d 22 name) ys) ≡ over (leveled level ((0x44 ∷ 0x45 ∷ h) ++ name)) d
unfolding leveled
head-over level h name d ys l room e =
    let k : length (sets d 22 name) ≡ length d = length-sets d 22 name in
    let z : length (0x44 ∷ 0x45 ∷ level ∷ h) ≡ 22 = omega arith in
    mark-over level h (sets d 22 name) ys (omega arith) e
    ∙ ap (λ n. over (0x44 ∷ 0x45 ∷ level ∷ h) (sets d n name)) (sym z)
    ∙ front-over (0x44 ∷ 0x45 ∷ level ∷ h) name d (omega arith)

-- ---- the returns of `put_record`

module _ (level marks : ℕ) (s name d : List ℕ) where
  pub leveled-short : length d < 22 → Leveled level marks s name d d 0
  leveled-short h = record { inside = zero-le; wrote = λ room. absurd (omega arith) }

  module _ {ys : List ℕ} {w : ℕ} (p : Wrote name (mid_of 22 (length d - 22) d) ys w) (l : length (put_mid 22 (length d - 22) d ys) ≡ length d) where
    abbrev d₁ : List ℕ
    d₁ = put_mid 22 (length d - 22) d ys

    pub leveled-cut : length d₁ - 22 < w → Leveled level marks s name d d₁ 0
    leveled-cut h = record { inside = zero-le; wrote = λ room. absurd (omega (arith, p.count)) }

    pub leveled-put : 22 ≤ length d → w ≤ length d₁ - 22 → {directory : ℕ} → directory ≡ marks / 2 % 2 → {hd zs d' : List ℕ} → hd ≡ head_in directory s w
        → zs ≡ over hd (mid_of 1 (length d₁ - 1) d₁) → d' ≡ over (0x44 ∷ 0x45 ∷ level ∷ []) (put_mid 1 (length d₁ - 1) d₁ zs) → Leveled level marks s name d d' (22 + w)
    unfolding record_in head_in
    leveled-put least h q {hd} {zs} j c m =
        record {
          inside = omega arith;
          wrote = λ room.
              let i : hd ≡ head_in (marks / 2 % 2) s (length name) = j ∙ rw (q, p.count) in
              let e : d₁ ≡ sets d 22 name = tail-over 22 d name ys room p.bytes in
              let z : length (head_in (marks / 2 % 2) s (length name) ++ name) ≡ 21 + length name = rw (length-append, head-long) in
              record {
                count = sym (leveled-long level (record_in marks s name) ∙ omega (arith, z, p.count));
                bytes = m ∙ rw e (head-over level (drop 2 (head_in (marks / 2 % 2) s (length name))) name d zs refl room (rw (← e) (c ∙ ap (λ u. over u (mid_of 1 (length d₁ - 1) d₁)) i)));
              };
        }

-- ---- the returns of `put_node`

-- an entry's name, as the code cuts it out
abbrev name_as : List ℕ → List ℕ
name_as s = written (name_of (take (name_at s + byte s 19 - name_at s) (drop (name_at s) s)))

-- of an entry that is skipped there is no record, and of another it is the one with the level
own-none : (level : ℕ) (x : Entry) → is_skipped x.identifier ≡ true → own_record level x ≡ []
own-none level x h = rw h

pub own-record : (level : ℕ) (x : Entry) → is_skipped x.identifier ≡ false → own_record level x ≡ node_record (record { level = level; entry = x })
own-record level x h = rw h

second : (t : Bool) {u : Bool} → (t && u) ≡ true → u ≡ true
second true e = e
second false e = absurd (let y : ◌≡◌ {A = ℕ} 0 1 = cc in omega arith)

module _ (level : ℕ) (s : List ℕ) (b : Bytes s) (least : 38 ≤ length s) {e : EntrySeen} (q : e ≡ seen_of s) where
  module _ {t : Bool} (v : e.skipped ≡ t) {x : Entry} (g : entry_read false s ≡ answered x) where
    skip_is : is_skipped x.identifier ≡ t
    skip_is = sym (seen-known s q (known false s b g)).skips ∙ v

  pub node-skipped : e.skipped ≡ true → (d : List ℕ) → NodePuts level s d d (record { wrote = 0; directory = false; next = e.next })
  node-skipped v d =
      let i = seen-inside s q in
      record {
        inside = zero-le;
        only = λ z. absurd (let y : ◌≡◌ {A = ℕ} 0 1 = cc in omega arith);
        further = i.further least;
        near = i.near;
        next = λ x g. (seen-known s q (known false s b g)).next;
        wrote = λ x g room. rw (own-none level x (skip_is v g)) (record { count = refl; bytes = sym (over-fits [] d (omega arith)) });
        directory = λ x g room. rw (skip_is v g);
      }

  module _ (v : e.skipped ≡ false) {d d' : List ℕ} {w : ℕ} (l : Leveled level e.marks s (written (name_of (take (e.end - e.from) (drop e.from s)))) d d' w) where
    module _ {x : Entry} (g : entry_read false s ≡ answered x) (room : length (own_record level x) ≤ length d) where
      k : Known s x
      k = known false s b g

      own-wrote : Wrote (own_record level x) d d' w
      unfolding node_record record_in
      own-wrote =
          let z = seen-known s q k in
          let y = rw (z.marks, z.from, z.end) at l in
          let f : own_record level x ≡ leveled level (record_in (byte s 18) s (name_as s)) = own-record level x (skip_is v g) ∙ ap (leveled level) (record_is s b k (skip_is v g)) in
          let n : length (record_in (byte s 18) s (name_as s)) ≡ 21 + length (name_as s) = rw (length-append, head-long) in
          rw f (y.wrote (omega (arith, n, ap length f, leveled-long level (record_in (byte s 18) s (name_as s)))))

      some : 0 < w
      some = omega (arith, own-wrote.count, ap length (own-record level x (skip_is v g)), record-long level x)

    pub node-put : {t u : Bool} → t ≡ bit 2 e.marks → u ≡ (t && ltb 0 w) → NodePuts level s d d' (record { wrote = w; directory = u; next = e.next })
    node-put {t} f h =
        let i = seen-inside s q in
        record {
          inside = l.inside;
          only = λ z. ltb-true 0 w (second t (sym h ∙ z));
          further = i.further least;
          near = i.near;
          next = λ x g. (seen-known s q (known false s b g)).next;
          wrote = λ x g room. own-wrote g room;
          directory = λ x g room.
              let z = seen-known s q (known false s b g) in
              rw (h, f, skip_is v g, z.marks, lt-ltb 0 w (some g room)) (and-true (bit 2 (byte s 18)) ∙ ap (bit 2) (sym (k g room).whole.characteristics));
        }
