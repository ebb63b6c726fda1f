-- How a volume is read: by the partition that was kept, or through the partition maps. Assumes nothing.
use Rattle.std.specs.Prelude.{⊤, Option, Some, None, Result, Ok, Err}
use Rattle.std.specs.Option.{ok_or}
use mathlib.Core.Path.{◌≡◌, refl, ap, sym, ◌∙◌}
use mathlib.Core.Bool.{Bool, true, false}
use mathlib.Core.List.{List, [], ◌∷◌}
use Prim.Native.Nat.{ℕ, zero, suc, ◌+◌, ◌-◌, ◌*◌, ◌≤◌, ◌<◌, min}
use native.Mathlib.Nat.{add-zero, zero-add}
use native.Mathlib.Numerals.{add-one}
use native.Mathlib.Omega.{arith}
use lib.ListN.{length, get_or, replicate, set}
use lib.Seq.{sets}
use lib.Dec.{ltb}
use borrow.Author.Tests.{ne_eqb, lt-ltb, le-ltb, ltb-true, ltb-false}
use Rattle.disc.specs.Choice.{pick}
use Rattle.disc.specs.Replies.{returned}
use Rattle.disc.specs.Ask.{Outcome}
use Rattle.disc.specs.Ask.Outcome.{answered, refused}
use Rattle.disc.specs.Images.{disc}
use Rattle.disc.specs.Ran.{ran}
use Rattle.disc.specs.Places.{mapped_start, start_for, placed}
use Rattle.disc.specs.declared.places.Mount.{Mount}
use Rattle.disc.specs.declared.refusals.Refusal.{Refusal}
use Rattle.disc.specs.declared.refusals.Refusal.TheVariants.{Malformed, Unsupported}
use Rattle.disc.proofs.RanLaws.{never}
use Rattle.disc.proofs.PickLaws.{pick_yes, pick_no, picked}
use Rattle.volumes.specs.Sequences.{nothing, Parsed, order_of, wanted_of, kept_of, scan, scanned_by, scanned_of}
use Rattle.volumes.specs.Openings.{plain_mount, map_at, map_in, is_plain_map, volume_of_map, number_of_map, start_of_number, start_of_map, start_then, starts_from, map_starts, each_of, file_set_ref, mount_from_starts, mounted_by, mapped_mount, mount_of, file_set_in}
use Rattle.volumes.specs.Inner.Steps.{parsed_in, scanned_in, tabled, map_starts_by, mount_behind}
use Rattle.volumes.specs.declared.sequences.Kept.{Kept}
use Rattle.volumes.specs.declared.sequences.Wanted.{Wanted}
use Rattle.volumes.specs.declared.sequences.Wanted.TheVariants.{Numbered}
use Rattle.volumes.specs.declared.sequences.Scanned.{Scanned}
use Rattle.volumes.specs.declared.openings.How.{How}
use Rattle.volumes.specs.Made.{Mapped}

-- ---- a map

-- what a scan keeps is what is kept of the descriptors that it answered, none where it was refused
module _ (image : List ℕ) (how : How) (wanted : Wanted) (first n : ℕ) {s : Scanned} (e : s ≡ scanned_of (order_of how) (wanted_of wanted) nothing (ran (disc image) (scan how.checked n first))) where
  scanned-kept : {k : Kept} → s.kept ≡ Ok k → k ≡ kept_of (order_of how) (wanted_of wanted) nothing (scanned_in image how first n)
  unfolding scanned_in
  scanned-kept {k} h = by (ran (disc image) (scan how.checked n first)).outcome (sym h ∙ ap (λ (x : Scanned). x.kept) e)
    where
      by : (x : Outcome (List Parsed)) → Ok k ≡ (scanned_by (order_of how) (wanted_of wanted) nothing x (ran (disc image) (scan how.checked n first)).count).kept
          → k ≡ kept_of (order_of how) (wanted_of wanted) nothing (parsed_in x)
      by (answered ps) q = cc
      by (refused r) q = absurd (cc)

  scanned-none : {why : Refusal} → s.kept ≡ Err why → nothing ≡ kept_of (order_of how) (wanted_of wanted) nothing (scanned_in image how first n)
  unfolding scanned_in kept_of
  scanned-none {why} h = by (ran (disc image) (scan how.checked n first)).outcome (sym h ∙ ap (λ (x : Scanned). x.kept) e)
    where
      by : (x : Outcome (List Parsed)) → Err why ≡ (scanned_by (order_of how) (wanted_of wanted) nothing x (ran (disc image) (scan how.checked n first)).count).kept
          → nothing ≡ kept_of (order_of how) (wanted_of wanted) nothing (parsed_in x)
      by (answered ps) q = absurd (cc)
      by (refused r) q = refl

-- the returns of `map_start`
module _ (image : List ℕ) (how : How) (b : List ℕ) (first n : ℕ) {p : Bool} (e : p ≡ is_plain_map b) (h : p ≡ true) {number : ℕ} (m : number ≡ number_of_map b) {s : Scanned}
    (f : s ≡ scanned_of (order_of how) (wanted_of (Numbered number)) nothing (ran (disc image) (scan how.checked n first))) where
  pub map-refused : {why : Refusal} → s.kept ≡ Err why → None ≡ start_of_map how (scanned_in image how first n) b
  unfolding start_of_number
  map-refused g = rw (← e, h, ← m, ← scanned-none image how (Numbered number) first n f g)

  pub map-unnumbered : {k : Kept} → s.kept ≡ Ok k → k.has_partition ≡ false → None ≡ start_of_map how (scanned_in image how first n) b
  unfolding start_of_number
  map-unnumbered g u = rw (← e, h, ← m, ← scanned-kept image how (Numbered number) first n f g, u)

  pub map-numbered : {k : Kept} → s.kept ≡ Ok k → k.has_partition ≡ true → Some k.partition_start ≡ start_of_map how (scanned_in image how first n) b
  unfolding start_of_number
  map-numbered g u = rw (← e, h, ← m, ← scanned-kept image how (Numbered number) first n f g, u)

-- ---- the loop over the maps has come to the i-th

-- the starts of the maps that are left, stored from i on
abbrev laid : List ℕ → ℕ → Option (List ℕ) → Option (List ℕ)
laid a i None = None
laid a i (Some l) = Some (sets a i l)

pub record Mapping (image : List ℕ) (how : How) (first n : ℕ) (maps : List ℕ) (count : ℕ) (starts : List ℕ) (i : ℕ) : Type 0 where
  pub within : i ≤ count
  pub few : count ≤ 4
  pub rest : laid starts i (starts_from how (scanned_in image how first n) maps i (count - i)) ≡ laid (replicate 4 0) 0 (starts_from how (scanned_in image how first n) maps 0 count)

-- one more start is stored
stored : (a : List ℕ) (i s : ℕ) (r : Option (List ℕ)) → laid (set a i s) (i + 1) r ≡ laid a i (start_then (Some s) r)
stored a i s None = refl
stored a i s (Some l) = rw add-one

module _ {image : List ℕ} {how : How} {first n : ℕ} {maps : List ℕ} {count : ℕ} {starts : List ℕ} {i : ℕ} (p : Mapping image how first n maps count starts i) (h : i < count)
    {b : List ℕ} (e : b ≡ map_at maps i) {o : Option ℕ} (f : o ≡ start_of_map how (scanned_in image how first n) b) where
  abbrev behind : Option (List ℕ)
  behind = starts_from how (scanned_in image how first n) maps (i + 1) (count - (i + 1))

  turn-rest : laid starts i (start_then o behind) ≡ laid (replicate 4 0) 0 (starts_from how (scanned_in image how first n) maps 0 count)
  unfolding starts_from
  turn-rest = let one : count - i ≡ suc (count - (i + 1)) = omega arith in rw (f, e) (rw one at p.rest)

  pub mapping-next : {s : ℕ} → o ≡ Some s → Mapping image how first n maps count (set starts i s) (i + 1)
  mapping-next {s} y = record { within = omega arith; few = p.few; rest = stored starts i s behind ∙ ap (λ (x : Option ℕ). laid starts i (start_then x behind)) (sym y) ∙ turn-rest }

  pub mapping-stops : o ≡ None → None ≡ map_starts_by count (starts_from how (scanned_in image how first n) maps 0 count)
  mapping-stops y = by (starts_from how (scanned_in image how first n) maps 0 count) (ap (λ (x : Option ℕ). laid starts i (start_then x behind)) (sym y) ∙ turn-rest)
    where
      by : (x : Option (List ℕ)) → None ≡ laid (replicate 4 0) 0 x → None ≡ map_starts_by count x
      by None g = refl
      by (Some l) g = absurd (cc)

-- as many starts as maps
starts-length : (how : How) (ps : List Parsed) (maps : List ℕ) (i n : ℕ) {l : List ℕ} → starts_from how ps maps i n ≡ Some l → length l ≡ n
unfolding starts_from
starts-length how ps maps i zero {l} e = let z : [] ≡ l = cc in rw (← z)
starts-length how ps maps i (suc n) {l} e = by (start_of_map how ps (map_at maps i)) (starts_from how ps maps (i + 1) n) (λ rest q. starts-length how ps maps (i + 1) n q) e
  where
    by : (o : Option ℕ) (r : Option (List ℕ)) → ((rest : List ℕ) → r ≡ Some rest → length rest ≡ n) → start_then o r ≡ Some l → length l ≡ suc n
    by None r f g = absurd (let z : ◌≡◌ {A = ℕ} 0 1 = cc in omega arith)
    by (Some s) None f g = absurd (let z : ◌≡◌ {A = ℕ} 0 1 = cc in omega arith)
    by (Some s) (Some rest) f g = let z : s ∷ rest ≡ l = cc in rw (← z) (ap suc (f rest refl))

-- in their four places
each-stored : (l : List ℕ) → length l ≤ 4 → sets (replicate 4 0) 0 l ≡ each_of (length l) (λ i. get_or l i 0)
each-stored [] h = refl
each-stored (a ∷ []) h = refl
each-stored (a ∷ b ∷ []) h = refl
each-stored (a ∷ b ∷ c ∷ []) h = refl
each-stored (a ∷ b ∷ c ∷ d ∷ []) h = refl
each-stored (a ∷ b ∷ c ∷ d ∷ e ∷ l) h = absurd (omega arith)

pub mapping-ends : {image : List ℕ} {how : How} {first n : ℕ} {maps : List ℕ} {count : ℕ} {starts : List ℕ} {i : ℕ} → Mapping image how first n maps count starts i → count ≤ i
    → Some starts ≡ map_starts_by count (starts_from how (scanned_in image how first n) maps 0 count)
unfolding starts_from
mapping-ends {image} {how} {first} {n} {maps} {count} {starts} {i} p h =
    let z : count - i ≡ 0 = omega arith in
    by (starts_from how (scanned_in image how first n) maps 0 count) refl (rw z at p.rest)
  where
    by : (o : Option (List ℕ)) → starts_from how (scanned_in image how first n) maps 0 count ≡ o → Some starts ≡ laid (replicate 4 0) 0 o → Some starts ≡ map_starts_by count o
    by None q g = absurd (cc)
    by (Some l) q g =
        let w : length l ≡ count = starts-length how (scanned_in image how first n) maps 0 count q in
        let m = p.few in
        g ∙ rw (← w) (ap Some (each-stored l (omega arith)))

-- ---- the mount

-- behind the check of the table
tables : (how : How) (ps : List Parsed) (k : Kept) → returned (mapped_mount how ps k) ≡ mount_behind (tabled k) (returned (mounted_by how.checked k (map_starts how ps k k.map_count)))
unfolding mapped_mount tabled
tables how ps k = by (ltb 4 k.map_count) (ltb k.map_table_length (6 * k.map_count)) (ltb 2048 (440 + k.map_table_length)) (mounted_by how.checked k (map_starts how ps k k.map_count))
  where
    by : (a b c : Bool) (m : Outcome Mount)
        → returned (pick a (refused Unsupported) (pick b (refused Malformed) (pick c (refused Malformed) m)))
        ≡ mount_behind (pick a (Err Unsupported) (pick b (Err Malformed) (pick c (Err Malformed) (Ok tt)))) (returned m)
    by true b c m = refl
    by false true c m = refl
    by false false true m = refl
    by false false false m = refl

module _ (k : Kept) {a : Result ⊤ Refusal} (e : a ≡ tabled k) {x : ⊤} (z : a ≡ Ok x) where
  pub table-few : k.map_count ≤ 4
  unfolding tabled
  table-few = by (ltb 4 k.map_count) _ refl (sym e ∙ z)
    where
      by : (t : Bool) (r : Result ⊤ Refusal) → ltb 4 k.map_count ≡ t → pick t (Err Unsupported) r ≡ Ok x → k.map_count ≤ 4
      by true r q h = absurd (cc)
      by false r q h = ltb-false 4 k.map_count q

  -- so a reference that is below the number of maps has its place
  pub reference-few : file_set_ref k < k.map_count → file_set_ref k < 4
  reference-few h = let f = table-few in omega arith

-- the returns of `mapped_mount`
module _ (image : List ℕ) (how : How) (k : Kept) (first n : ℕ) {a : Result ⊤ Refusal} (e : a ≡ tabled k) where
  pub table-not : {why : Refusal} → a ≡ Err why → Err why ≡ returned (mapped_mount how (scanned_in image how first n) k)
  table-not h = rw (tables how (scanned_in image how first n) k, ← e, h)

  module _ {x : ⊤} (y : a ≡ Ok x) {s : Option (List ℕ)} (f : s ≡ map_starts_by k.map_count (map_starts how (scanned_in image how first n) k k.map_count)) where
    tabled-well : returned (mapped_mount how (scanned_in image how first n) k) ≡ returned (mounted_by how.checked k (map_starts how (scanned_in image how first n) k k.map_count))
    tabled-well = rw (tables how (scanned_in image how first n) k, ← e, y)

    pub starts-not : {why : Refusal} → ok_or s Unsupported ≡ Err why → Err why ≡ returned (mapped_mount how (scanned_in image how first n) k)
    starts-not {why} u = rw tabled-well (by (map_starts how (scanned_in image how first n) k k.map_count) s f u)
      where
        by : (o s : Option (List ℕ)) → s ≡ map_starts_by k.map_count o → ok_or s Unsupported ≡ Err why → Err why ≡ returned (mounted_by how.checked k o)
        by None None g h = let z : Unsupported ≡ why = cc in ap Err (sym z)
        by None (Some l) g h = absurd (cc)
        by (Some l) None g h = absurd (cc)
        by (Some l) (Some t) g h = absurd (cc)

    module _ {t : List ℕ} (u : ok_or s Unsupported ≡ Ok t) where
      pub file-set-past : k.map_count ≤ file_set_ref k → Err Unsupported ≡ returned (mapped_mount how (scanned_in image how first n) k)
      file-set-past h = rw tabled-well (by (map_starts how (scanned_in image how first n) k k.map_count))
        where
          by : (o : Option (List ℕ)) → Err Unsupported ≡ returned (mounted_by how.checked k o)
          by None = refl
          by (Some l) = rw (le-ltb (file_set_ref k) k.map_count h)

      pub mapped-is : file_set_ref k < k.map_count → Ok (mount_from_starts how.checked k t) ≡ returned (mapped_mount how (scanned_in image how first n) k)
      mapped-is h = rw tabled-well (by (map_starts how (scanned_in image how first n) k k.map_count) s f u)
        where
          by : (o s : Option (List ℕ)) → s ≡ map_starts_by k.map_count o → ok_or s Unsupported ≡ Ok t → Ok (mount_from_starts how.checked k t) ≡ returned (mounted_by how.checked k o)
          by None None g w = absurd (cc)
          by None (Some l) g w = absurd (cc)
          by (Some l) None g w = absurd (cc)
          by (Some l) (Some v) g w = let z : t ≡ each_of k.map_count (λ i. get_or l i 0) = cc in rw (lt-ltb (file_set_ref k) k.map_count h, z)

-- ---- the mount that was made of a list of descriptors

-- two choices by which the partitions of all numbers start alike
pub starts-same : (how how' : How) (ps : List Parsed) → ((number : ℕ) → start_of_number how ps number ≡ start_of_number how' ps number) → (maps : List ℕ) (i n : ℕ)
    → starts_from how ps maps i n ≡ starts_from how' ps maps i n
unfolding starts_from
starts-same how how' ps same maps i zero = refl
starts-same how how' ps same maps i (suc n) = rw (same (number_of_map (map_at maps i)), starts-same how how' ps same maps (i + 1) n)

-- it is refused by 2 and by 4 alone
pub mount-refuses : (P : Refusal → Type 0) → P Malformed → P Unsupported → (how : How) (ps : List Parsed) (k : Kept) {r : Refusal} → mount_of how ps k ≡ refused r → P r
unfolding mount_of mapped_mount
mount-refuses P bad other how ps k {r} =
    chosen how.maps (ltb 4 k.map_count) (ltb k.map_table_length (6 * k.map_count)) (ltb 2048 (440 + k.map_table_length))
  where
    is : {w : Refusal} → P w → ◌≡◌ {A = Outcome Mount} (refused w) (refused r) → P r
    is {w} p e = let z : w ≡ r = cc in rw z at p

    by : (o : Option (List ℕ)) → mounted_by how.checked k o ≡ refused r → P r
    by None e = is other e
    by (Some l) e = past (ltb (file_set_ref k) k.map_count) e
      where
        past : (t : Bool) → pick t (answered (mount_from_starts how.checked k (each_of k.map_count (λ i. get_or l i 0)))) (refused Unsupported) ≡ refused r → P r
        past true e = never (sym e)
        past false e = is other e

    chosen : (t a b c : Bool)
        → pick t (pick a (refused Unsupported) (pick b (refused Malformed) (pick c (refused Malformed) (mounted_by how.checked k (map_starts how ps k k.map_count))))) (answered (plain_mount how.checked k)) ≡ refused r
        → P r
    chosen false a b c e = never (sym e)
    chosen true true b c e = is other e
    chosen true false true c e = is bad e
    chosen true false false true e = is bad e
    chosen true false false false e = by (map_starts how ps k k.map_count) e

-- ---- a mount without maps

module _ (how : How) (ps : List Parsed) (k : Kept) where
  pub unmapped-mount : how.maps ≡ false → mount_of how ps k ≡ answered (plain_mount how.checked k)
  unfolding mount_of
  unmapped-mount h = sym (pick_no (Outcome Mount) how.maps how.maps (mapped_mount how ps k) (answered (plain_mount how.checked k)) _ refl h refl)

-- ---- a mount through the maps

-- a place of a mount
each_at : (n : ℕ) (f : ℕ → ℕ) (i : ℕ) → n ≤ 4 → i < n → get_or (each_of n f) i 0 ≡ f i
each_at n f zero l h = rw (lt-ltb 0 n h)
each_at n f (suc zero) l h = rw (lt-ltb 1 n h)
each_at n f (suc (suc zero)) l h = rw (lt-ltb 2 n h)
each_at n f (suc (suc (suc zero))) l h = rw (lt-ltb 3 n h)
each_at n f (suc (suc (suc (suc i)))) l h = absurd (omega arith)

-- a start of several
starts-at : (how : How) (ps : List Parsed) (maps : List ℕ) (i n : ℕ) {l : List ℕ} → starts_from how ps maps i n ≡ Some l → (j : ℕ) → j < n
    → start_of_map how ps (map_at maps (i + j)) ≡ Some (get_or l j 0)
unfolding starts_from
starts-at how ps maps i zero e j h = absurd (omega arith)
starts-at how ps maps i (suc n) {l} e j h = by (start_of_map how ps (map_at maps i)) refl (starts_from how ps maps (i + 1) n) (λ rest q. starts-at how ps maps (i + 1) n {l = rest} q) e j h
  where
    by : (o : Option ℕ) → start_of_map how ps (map_at maps i) ≡ o → (r : Option (List ℕ))
        → ((rest : List ℕ) → r ≡ Some rest → (j : ℕ) → j < n → start_of_map how ps (map_at maps (i + 1 + j)) ≡ Some (get_or rest j 0))
        → start_then o r ≡ Some l → (j : ℕ) → j < suc n → start_of_map how ps (map_at maps (i + j)) ≡ Some (get_or l j 0)
    by None p r f g j h = absurd (let z : ◌≡◌ {A = ℕ} 0 1 = cc in omega arith)
    by (Some s) p None f g j h = absurd (let z : ◌≡◌ {A = ℕ} 0 1 = cc in omega arith)
    by (Some s) p (Some rest) f g zero h = let z : s ∷ rest ≡ l = cc in rw (← z, add-zero) p
    by (Some s) p (Some rest) f g (suc j) h =
        let z : s ∷ rest ≡ l = cc in
        let a : i + suc j ≡ i + 1 + j = omega arith in
        rw (← z, a) (f rest refl j (omega arith))

-- a map that has a start
record Plain (how : How) (ps : List Parsed) (b : List ℕ) (s : ℕ) : Type 0 where
  type : is_plain_map b ≡ true
  start : start_of_number how ps (number_of_map b) ≡ Some s

map-plain : (how : How) (ps : List Parsed) (b : List ℕ) {s : ℕ} → start_of_map how ps b ≡ Some s → Plain how ps b s
map-plain how ps b {s} e =
    let p = picked (λ (o : Option ℕ). o ≡ Some s) (is_plain_map b) (start_of_number how ps (number_of_map b)) None e (λ h. let z : ◌≡◌ {A = ℕ} 0 1 = cc in omega arith) in
    record { type = p.0; start = p.1 }

module _ (how : How) (ps : List Parsed) (k : Kept) {m : Mount} where
  mounted-is : k.map_count ≤ 4 → 6 * k.map_count ≤ k.map_table_length → 440 + k.map_table_length ≤ 2048 → (o : Option (List ℕ)) → map_starts how ps k k.map_count ≡ o
      → mounted_by how.checked k o ≡ answered m → Mapped how ps k m
  mounted-is few table sector None p e = never e
  mounted-is few table sector (Some l) p e = by (ltb (file_set_ref k) k.map_count) refl e
    where
      at : (i : ℕ) → i < k.map_count → Plain how ps (map_in k i) (get_or l i 0)
      at i h = map-plain how ps (map_in k i) (rw zero-add at (starts-at how ps k.maps 0 k.map_count p i h))

      made : file_set_ref k < k.map_count → Mapped how ps k (mount_from_starts how.checked k (each_of k.map_count (λ i. get_or l i 0)))
      made r = record {
        counted = refl;
        one = omega arith;
        few = few;
        table = table;
        sector = sector;
        plain = λ i h. (at i h).type;
        volume = λ i h. each_at k.map_count (λ j. volume_of_map (map_in k j)) i few h;
        numbered = λ i h. each_at k.map_count (λ j. number_of_map (map_in k j)) i few h;
        started = λ i h. rw (each_at k.map_count (λ j. number_of_map (map_in k j)) i few h, each_at k.map_count (λ j. get_or l j 0) i few h) (at i h).start;
        reference = r;
        start_is = refl;
        partition-is = refl;
        checked-is = refl;
      }

      by : (t : Bool) → ltb (file_set_ref k) k.map_count ≡ t
          → pick t (answered (mount_from_starts how.checked k (each_of k.map_count (λ i. get_or l i 0)))) (refused Unsupported) ≡ answered m → Mapped how ps k m
      by true q g =
          let z : mount_from_starts how.checked k (each_of k.map_count (λ i. get_or l i 0)) ≡ m = cc in
          rw (← z) (made (ltb-true (file_set_ref k) k.map_count q))
      by false q g = never g

  pub mapped-mount : how.maps ≡ true → mount_of how ps k ≡ answered m → Mapped how ps k m
  unfolding mount_of mapped_mount
  mapped-mount h e =
      by (ltb 4 k.map_count) (ltb k.map_table_length (6 * k.map_count)) (ltb 2048 (440 + k.map_table_length)) refl refl refl
      (pick_yes (Outcome Mount) how.maps how.maps _ _ _ refl h refl ∙ e)
    where
      by : (a b c : Bool) → ltb 4 k.map_count ≡ a → ltb k.map_table_length (6 * k.map_count) ≡ b → ltb 2048 (440 + k.map_table_length) ≡ c
          → pick a (refused Unsupported) (pick b (refused Malformed) (pick c (refused Malformed) (mounted_by how.checked k (map_starts how ps k k.map_count)))) ≡ answered m → Mapped how ps k m
      by true b c u v w g = never g
      by false true c u v w g = never g
      by false false true u v w g = never g
      by false false false u v w g =
          mounted-is (ltb-false 4 k.map_count u) (ltb-false k.map_table_length (6 * k.map_count) v) (ltb-false 2048 (440 + k.map_table_length) w)
          (map_starts how ps k k.map_count) refl g

  -- every mount says whether bodies are checked
  pub mount-says : mount_of how ps k ≡ answered m → m.checked ≡ pick how.checked 1 0
  mount-says e = by how.maps refl
    where
      by : (t : Bool) → how.maps ≡ t → m.checked ≡ pick how.checked 1 0
      by true h = (mapped-mount h e).checked-is
      by false h = let z : answered m ≡ answered (plain_mount how.checked k) = sym e ∙ unmapped-mount how ps k h in let w : m ≡ plain_mount how.checked k = cc in rw w

  -- so the file set descriptor of a volume with maps stands in its map's partition
  pub mapped-stands : Mapped how ps k m → file_set_in m k ≡ Some (m.start + k.file_set.location.block)
  unfolding placed start_for mapped_start
  mapped-stands p =
      let a : m.maps ≡ 0 → ⊥ = λ z. let o = p.one in omega arith in
      let r : file_set_ref k < min m.maps 4 = let x = p.reference in let y = p.few in omega arith in
      rw (ne_eqb m.maps 0 a, lt-ltb (file_set_ref k) (min m.maps 4) r, ← p.start_is)
