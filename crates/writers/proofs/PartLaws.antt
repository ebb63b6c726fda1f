-- The loops over entries and identifiers. Assumes nothing.
use mathlib.Core.Path.{◌≡◌, refl, ap, sym, ◌∙◌}
use mathlib.Core.Bool.{Bool, true, false}
use mathlib.Core.List.{List, [], ◌∷◌, ◌++◌, append-nil}
use Prim.Native.Nat.{ℕ, zero, suc, ◌+◌, ◌-◌, ◌*◌, ◌/◌, ◌<◌, ◌≤◌, min}
use native.Mathlib.Numerals.{add-one}
use native.Mathlib.Omega.{arith}
use lib.ListN.{length, get_or, take, drop, length-append, length-replicate, drop_of_length-le}
use lib.Seq.{drop-cons, sets, length-take-le, take-length}
use lib.Dec.{eqb, ltb}
use borrow.Author.Tests.{eqb-false, ltb-false}
use Rattle.disc.specs.Choice.{pick}
use Rattle.disc.specs.Images.{sectors_for}
use Rattle.disc.proofs.PickLaws.{not-both}
use Rattle.disc.proofs.MoveLaws.{sets-append}
use Rattle.writers.specs.Layout.{summed, zeros, identifier_size, names_size, directory_size, joined, blanks, sector, sealed, entry_body, identifier_body, file_entry, identifier_at, entries, entries_part, identifiers, directory, directory_part, recognition, recognition_part, sequence, integrity_part, root_part, front, root_entry, anchor_at, primary_body, info_body, partition_body, logical_body, unallocated_body, terminating_body, integrity_body, file_set_body}
use Rattle.writers.specs.Refusing.{longest, names_in, is_good, is_among, are_good, are_short, all_plain}
use Rattle.writers.specs.Inner.Pours.{Poured, Laid, Kept, Named, Sized}
use Rattle.writers.proofs.PourLaws.{poured-then, poured-as, sealed-long, joined-append, laid-append, laid_cons}
use Rattle.writers.proofs.BodyLaws.{identifier-long}
use Rattle.std.specs.Int.{div_ceil}
use Rattle.std.specs.Iterator.{YieldsFirstBy}
use Rattle.std.specs.Iterator.Adapters.{take_source, take_count, take_steps}
use Rattle.std.specs.declared.iter.Take.{Take}
use Rattle.std.proofs.Common.{Bor}
use Rattle.std.proofs.lemmas.Iterator.{YieldsList, YieldsList-from_take}
use Rattle.std.proofs.lemmas.Iterator.Consumers.{YieldsList-from_first}
use Rattle.writers.specs.declared.namings.Names.{Names}
use Rattle.std.specs.List.{sum_by, enumerate_from}
use Rattle.std.proofs.lemmas.List.{length-take, take_all}
use Rattle.std.proofs.lemmas.List.FromFn.{length-enumerate_from, get_or-enumerate_from}
use Rattle.std.proofs.lemmas.List.Sums.{sum_by-cons, sum_by-drop_more}
use Rattle.writers.proofs.FileLaws.{held-is}

-- ---- entries

pub entries-count : (i block : ℕ) (lengths : List ℕ) → length (entries i block lengths) ≡ length lengths
unfolding entries
entries-count i block [] = refl
entries-count i block (n ∷ ns) = ap suc (entries-count (i + 1) (block + sectors_for n) ns)

entry-body-long : (type permissions size unique block : ℕ) → length (entry_body type permissions size unique block) ≡ 168
unfolding entry_body
entry-body-long type permissions size unique block = refl

pub entry-long : (location type permissions size unique block : ℕ) → length (sector (sealed 261 location (entry_body type permissions size unique block))) ≡ 2048
unfolding sector
entry-long location type permissions size unique block =
    let e = sealed-long 261 location (entry_body type permissions size unique block) in
    rw (length-append, length-replicate) (omega (arith, e, entry-body-long type permissions size unique block))

pub entries-long : (i block : ℕ) (lengths : List ℕ) → length (joined (entries i block lengths)) ≡ 2048 * length lengths
unfolding entries joined
entries-long i block [] = refl
entries-long i block (n ∷ ns) =
    rw (length-append, entry-long (16 + i) 5 0x1084 n (16 + i) (pick (eqb n 0) 0 block), entries-long (i + 1) (block + sectors_for n) ns) (omega arith)

-- the loop has come to entry i: its place and its block are bounded whatever the lengths are
pub record Entering (lengths image₀ : List ℕ) (at : ℕ) (image : List ℕ) (place block i : ℕ) : Type 0 where
  pub room : place ≡ at + 2048 * i
  pub fits : at + 2048 * length lengths ≤ length image₀
  pub within : i ≤ length lengths
  pub few : length lengths ≤ 64
  pub low : block ≤ 80 + i * 524287
  pub same : length image ≡ length image₀
  pub rest : are_short lengths ≡ true → sets image place (joined (entries i block (drop i lengths))) ≡ sets image₀ at (joined (entries 0 80 lengths))

module _ {lengths image₀ : List ℕ} {at : ℕ} {image : List ℕ} {place block i : ℕ} (p : Entering lengths image₀ at image place block i) where
  module _ {n : ℕ} (m : n ≡ min (get_or lengths i 0) longest) where
    pub enter-next : i < length lengths → {f : List ℕ} {r : ℕ} → Laid (sector (file_entry i n block) ∷ []) place image f r → {q : ℕ} → q ≡ div_ceil n 2048 → Entering lengths image₀ at f r (block + q) (i + 1)
    unfolding entries joined
    enter-next h {f} {r} l {q} u = record {
      room = omega (arith, p.room, l.poured.place);
      fits = p.fits;
      within = omega arith;
      few = p.few;
      low = omega (arith, p.low, u);
      same = l.poured.same ∙ p.same;
      rest = λ s. sym (next s) ∙ p.rest s;
    }
      where
        next : are_short lengths ≡ true → sets image place (joined (entries i block (drop i lengths))) ≡ sets f r (joined (entries (i + 1) (block + q) (drop (i + 1) lengths)))
        next s =
            let y = l.poured in
            let few : q ≡ sectors_for n = omega (arith, u) in
            let x : List ℕ = sector (file_entry i n block) in
            let others : List ℕ = joined (entries (i + 1) (block + q) (drop (i + 1) lengths)) in
            let dc : drop i lengths ≡ n ∷ drop (i + 1) lengths = rw (add-one i, held-is lengths i m s) (drop-cons lengths i 0 h) in
            let t : joined (entries i block (drop i lengths)) ≡ (x ++ []) ++ others = rw (dc, few) (ap (λ l. l ++ joined (entries (i + 1) (block + sectors_for n) (drop (i + 1) lengths))) (sym (append-nil x))) in
            rw t (sets-append (x ++ []) others image place ∙ rw (y.bytes, y.place, y.long))

  pub enter-ends : length lengths ≤ i → Kept (are_short lengths ≡ true) (joined (entries 0 80 lengths)) (2048 * length lengths) at (at + 2048 * length lengths) image₀ image place
  unfolding entries joined
  enter-ends h =
      let k : place ≡ at + 2048 * length lengths = omega (arith, p.room, p.within) in
      record { above = omega arith; within = omega arith; same = p.same; poured = λ s. record { bytes = done s; long = entries-long 0 80 lengths; place = k; same = p.same } }
    where
      done : are_short lengths ≡ true → image ≡ sets image₀ at (joined (entries 0 80 lengths))
      done s = rw (drop_of_length-le lengths) at (p.rest s)

-- ---- names that are good

pub record Good (n : List ℕ) (ns : List (List ℕ)) : Type 0 where
  pub small : length n ≤ 127
  pub some : 1 ≤ length n
  pub plain : all_plain n ≡ true
  pub once : is_among n ns ≡ false
  pub others : are_good ns ≡ true

pub good-cons : (n : List ℕ) (ns : List (List ℕ)) → are_good (n ∷ ns) ≡ true → Good n ns
unfolding are_good is_good
good-cons n ns e = by (eqb (length n) 0) (ltb 127 (length n)) (all_plain n) (is_among n ns) refl refl refl refl e
  where
    by : (a b c d : Bool) → eqb (length n) 0 ≡ a → ltb 127 (length n) ≡ b → all_plain n ≡ c → is_among n ns ≡ d
        → pick (pick a false (pick b false c)) (pick d false (are_good ns)) false ≡ true → Good n ns
    by true b c d p q r s g = not-both g
    by false true c d p q r s g = not-both g
    by false false false d p q r s g = not-both g
    by false false true true p q r s g = not-both g
    by false false true false p q r s g = record { small = ltb-false 127 (length n) q; some = omega (arith, eqb-false (length n) 0 p); plain = r; once = s; others = g }

pub sizes-few : (names : List (List ℕ)) → are_good names ≡ true → names_size names ≤ length names * 168
unfolding summed
sizes-few [] e = omega arith
sizes-few (n ∷ ns) e = let g = good-cons n ns e in let k : identifier_size (length n) ≤ 168 = omega (arith, g.small) in omega (arith, sizes-few ns g.others)

-- ---- the directory's size, whatever the names are: the first 64 of them, cut to 127 bytes

abbrev pub cut_size : List ℕ → ℕ
cut_size n = identifier_size (min (length n) 127)

cut-is : (names : List (List ℕ)) → are_good names ≡ true → sum_by cut_size names ≡ names_size names
unfolding summed
cut-is [] e = refl
cut-is (n ∷ ns) e =
    let g = good-cons n ns e in
    let k : min (length n) 127 ≡ length n = omega (arith, g.small) in
    rw (sum_by-cons cut_size n ns, k, cut-is ns g.others)

-- the names that are looked at
abbrev pub first_names : List ℕ → List (List ℕ)
first_names names = take 64 (names_in names)

first-few : (names : List ℕ) → length (first_names names) ≤ 64
first-few names = rw length-take (omega arith)

-- what `Names(names).take(64)` gives
pub few-names : (names : List ℕ) {s : Take Names} → (take_source s).0.now ≡ names → take_count s ≡ 64
    → YieldsList (take_steps (YieldsFirstBy (λ (x : Bor (List ℕ)). x.now) (λ (t : Names). names_in t.0.now))) (λ x. x.now) s (first_names names)
few-names names e n = YieldsList-from_take 64 (YieldsList-from_first (λ x. x.now) (λ t. names_in t.0.now) (names_in names) (ap names_in e)) n

-- the loop has come to the i-th of them
pub record Sizing (names : List ℕ) (size i : ℕ) : Type 0 where
  pub small : size ≤ 40 + i * 168
  pub rest : size + sum_by cut_size (drop i (first_names names)) ≡ 40 + sum_by cut_size (first_names names)

module _ {names : List ℕ} {size i : ℕ} (p : Sizing names size i) where
  pub size-next : {name : List ℕ} → i < length (first_names names) → name ≡ get_or (first_names names) i name → Sizing names (size + cut_size name) (i + 1)
  size-next {name} h e =
      let k = sum_by-drop_more cut_size (first_names names) i name h in
      let l : cut_size (get_or (first_names names) i name) ≡ cut_size name = ap cut_size (sym e) in
      record { small = omega (arith, p.small); rest = omega (arith, p.rest, k, l) }

  pub size-ends : i ≡ length (first_names names) → Sized names size
  size-ends h =
      let k : length (first_names names) ≤ i = omega arith in
      let none : sum_by cut_size (drop i (first_names names)) ≡ 0 = rw (drop_of_length-le (first_names names) k) in
      record {
        small = omega (arith, p.small, first-few names);
        is = λ g. let all : sum_by cut_size (first_names names) ≡ names_size (names_in names) = rw (take_all 64 (names_in names) g.few) (cut-is (names_in names) g.good) in omega (arith, p.rest, none, all);
      }

-- ---- identifiers

pub identifier-size : (o i : ℕ) (n : List ℕ) → length (identifier_at o 0 (16 + i) (8 ∷ n)) ≡ identifier_size (length n)
identifier-size o i n = omega (arith, sealed-long 257 (8 + o / 2048) (identifier_body 0 (16 + i) (8 ∷ n)), identifier-long (16 + i) n)

pub identifiers-long : (i o : ℕ) (names : List (List ℕ)) → length (identifiers i o names) ≡ names_size names
unfolding identifiers summed
identifiers-long i o [] = refl
identifiers-long i o (n ∷ ns) = rw (length-append, identifier-size o i n, identifiers-long (i + 1) (o + identifier_size (length n)) ns)

-- the loop has come to the i-th name: its place is bounded whatever the names are; where they are good, what is left to pour is what the names left are
pub record Placed (names : List (List ℕ)) (image₀ : List ℕ) (at : ℕ) (image : List ℕ) (place i : ℕ) : Type 0 where
  pub rest : sets image place (identifiers i (place - at + 40) (drop i names)) ≡ sets image₀ at (identifiers 0 40 names)
  pub room : place + names_size (drop i names) ≡ at + names_size names

pub record Naming (names image₀ : List ℕ) (at : ℕ) (image : List ℕ) (place i : ℕ) : Type 0 where
  pub above : at ≤ place
  pub low : place ≤ at + i * 168
  pub fits : at + 10752 ≤ length image₀
  pub same : length image ≡ length image₀
  pub placed : Named names → Placed (first_names names) image₀ at image place i

-- one of them, with its number
pub numbered : (names : List (List ℕ)) (k i : ℕ) (name : List ℕ) → k < length (enumerate_from 0 names) → (i, name) ≡ get_or (enumerate_from 0 names) k (i, name) → (k < length names) × (i ≡ k) × (name ≡ get_or names k name)
numbered names k i name h e =
    let l : k < length names = rw length-enumerate_from at h in
    let q : (i, name) ≡ (0 + k, get_or names k name) = e ∙ get_or-enumerate_from 0 names k (i, name) l in
    (l, ap (λ (p : ℕ × List ℕ). p.0) q ∙ omega arith, ap (λ (p : ℕ × List ℕ). p.1) q)

good-at : (names : List (List ℕ)) (i : ℕ) (d : List ℕ) → i < length names → are_good names ≡ true → length (get_or names i d) ≤ 127
good-at [] i d h e = absurd (omega arith)
good-at (n ∷ ns) zero d h e = (good-cons n ns e).small
good-at (n ∷ ns) (suc i) d h e = good-at ns i d (omega arith) (good-cons n ns e).others

module _ {names image₀ : List ℕ} {at : ℕ} {image : List ℕ} {place i : ℕ} (p : Naming names image₀ at image place i) where
  module _ {name : List ℕ} (h : i < length (first_names names)) (e : name ≡ get_or (first_names names) i name) {part : List ℕ} (c : part ≡ take (min (length name) 127) name) where
    pub part-long : length part ≡ min (length name) 127
    part-long = rw c (length-take-le (min (length name) 127) name (omega arith))

    pub name-next : {f : List ℕ} {r : ℕ} → Poured (identifier_at (place - at + 40) 0 (16 + i) (8 ∷ part)) (identifier_size (length part)) place image f r → Naming names image₀ at f r (i + 1)
    unfolding identifiers summed
    name-next {f} {r} q₀ = record {
      above = omega (arith, p.above, q₀.place);
      low = omega (arith, p.low, q₀.place, part-long);
      fits = p.fits;
      same = q₀.same ∙ p.same;
      placed = λ g. next g (p.placed g);
    }
      where
        next : Named names → Placed (first_names names) image₀ at image place i → Placed (first_names names) image₀ at f r (i + 1)
        next g w =
            let few : List (List ℕ) = first_names names in
            let good : are_good few ≡ true = rw (take_all 64 (names_in names) g.few) g.good in
            let small : length name ≤ 127 = let k = rw (← e) at (good-at few i name h good) in k in
            let cut : min (length name) 127 ≡ length name = omega arith in
            let whole : part ≡ name = c ∙ rw (cut, take-length) in
            let q : Poured (identifier_at (place - at + 40) 0 (16 + i) (8 ∷ name)) (identifier_size (length name)) place image f r = rw whole at q₀ in
            let o : place - at + 40 + identifier_size (length name) ≡ r - at + 40 = omega (arith, q.place, p.above) in
            let left : drop i few ≡ name ∷ drop (i + 1) few = rw add-one (drop-cons few i name h ∙ ap (λ l. l ∷ drop (suc i) few) (sym e)) in
            let others : List ℕ = identifiers (i + 1) (r - at + 40) (drop (i + 1) few) in
            let s : identifiers i (place - at + 40) (drop i few) ≡ identifier_at (place - at + 40) 0 (16 + i) (8 ∷ name) ++ others = rw (left, o) in
            let t : sets image place (identifiers i (place - at + 40) (drop i few)) ≡ sets f r others =
            rw s (sets-append (identifier_at (place - at + 40) 0 (16 + i) (8 ∷ name)) others image place ∙ rw (q.long, ← q.place, ← q.bytes)) in
            let size : names_size (drop i few) ≡ identifier_size (length name) + names_size (drop (i + 1) few) = rw left in
            record { rest = sym t ∙ w.rest; room = omega (arith, w.room, q.place, size) }

  pub name-ends : i ≡ length (first_names names) → Kept (Named names) (identifiers 0 40 (names_in names)) (names_size (names_in names)) at (at + 10752) image₀ image place
  unfolding identifiers summed
  name-ends h = record { above = p.above; within = omega (arith, p.low, first-few names); same = p.same; poured = λ g. done g (p.placed g) }
    where
      done : Named names → Placed (first_names names) image₀ at image place i → Poured (identifiers 0 40 (names_in names)) (names_size (names_in names)) at image₀ image place
      done g w =
          let all : first_names names ≡ names_in names = take_all 64 (names_in names) g.few in
          let k : length (first_names names) ≤ i = omega arith in
          let none : drop i (first_names names) ≡ [] = drop_of_length-le (first_names names) k in
          record { bytes = rw (none, all) at w.rest; long = identifiers-long 0 40 (names_in names); place = let k = rw (none, all) at w.room in omega (arith, k); same = p.same }

-- ---- the parts

pub directory-long : (names : List (List ℕ)) → length (directory names) ≡ directory_size names
unfolding directory identifier_body
directory-long names = rw (length-append, identifiers-long 0 40 names) (omega (arith, sealed-long 257 8 (identifier_body 10 2 [])))

pub directory-poured : (names : List ℕ) {at m k r : ℕ} {d e f g : List ℕ} → Poured (identifier_at 0 10 2 []) 40 at d e m
    → Kept (Named names) (identifiers 0 40 (names_in names)) (names_size (names_in names)) m (m + 10752) e f k → Poured (zeros (at + 16384 - k)) (at + 16384 - k) k f g r
    → Kept (Named names) (directory_part (names_in names)) 16384 at (at + 16384) d g r
unfolding directory_part directory
directory-poured names {at} {m} {k} {r} {d} {e} {f} {g} p q t = record { above = omega (arith, p.place, q.within, t.place); within = omega (arith, p.place, q.within, t.place); same = t.same ∙ q.same ∙ p.same; poured = λ y. whole y (q.poured y) }
  where
    whole : Named names → Poured (identifiers 0 40 (names_in names)) (names_size (names_in names)) m e f k → Poured (directory_part (names_in names)) 16384 at d g r
    whole y w =
        let h : names_size (names_in names) ≤ 10752 = omega (arith, sizes-few (names_in names) y.good, y.few) in
        let z : at + 16384 - k ≡ 16384 - directory_size (names_in names) = omega (arith, p.place, w.place) in
        poured-as (poured-then (poured-then p w) t) (ap (λ j. (identifier_at 0 10 2 [] ++ identifiers 0 40 (names_in names)) ++ zeros j) z) (omega (arith, p.place, w.place))

pub entries-poured : (lengths : List ℕ) {at m r : ℕ} {d e f : List ℕ}
    → Kept (are_short lengths ≡ true) (joined (entries 0 80 lengths)) (2048 * length lengths) at (at + 2048 * length lengths) d e m → Laid (blanks (64 - length lengths)) m e f r
    → length lengths ≤ 64 → Kept (are_short lengths ≡ true) (joined (entries_part lengths)) 131072 at (at + 131072) d f r
unfolding entries_part
entries-poured lengths p q h =
    let k : length (blanks (64 - length lengths)) ≡ 64 - length lengths = length-replicate (64 - length lengths) (zeros 2048) in
    record {
      above = omega (arith, p.above, q.poured.place);
      within = omega (arith, p.within, q.poured.place);
      same = q.poured.same ∙ p.same;
      poured = λ s. poured-as (poured-then (p.poured s) q.poured) (sym (joined-append (entries 0 80 lengths) (blanks (64 - length lengths)))) (omega arith);
    }

pub end-poured : (n location : ℕ) {at m r : ℕ} {d e f : List ℕ} → Poured (zeros n) n at d e m → Laid (anchor_at location ∷ []) m e f r → Poured (zeros n ++ anchor_at location) (n + 2048) at d f r
unfolding joined
end-poured n location p q = poured-as (poured-then p q.poured) (rw append-nil) refl

-- ---- sectors 0 to 279

pub recognition-poured : {at m₁ m₂ m₃ m₄ r : ℕ} {d e₁ e₂ e₃ e₄ f : List ℕ} → Laid (blanks 16) at d e₁ m₁
    → Laid (recognition 0x42 0x45 0x41 0x30 0x31 ∷ []) m₁ e₁ e₂ m₂ → Laid (recognition 0x4e 0x53 0x52 0x30 0x32 ∷ []) m₂ e₂ e₃ m₃ → Laid (recognition 0x54 0x45 0x41 0x30 0x31 ∷ []) m₃ e₃ e₄ m₄
    → Laid (blanks 13) m₄ e₄ f r → Poured (joined recognition_part) 65536 at d f r
unfolding recognition_part
recognition-poured a b c g h = (laid-append (laid-append a (laid_cons b (laid_cons c g))) h).poured

pub sequence-poured : (location size : ℕ) {at m₁ m₂ m₃ m₄ m₅ m₆ r : ℕ} {d e₁ e₂ e₃ e₄ e₅ e₆ f : List ℕ}
    → Laid (sector (sealed 1 location primary_body) ∷ []) at d e₁ m₁
    → Laid (sector (sealed 4 (location + 1) info_body) ∷ []) m₁ e₁ e₂ m₂
    → Laid (sector (sealed 5 (location + 2) (partition_body size)) ∷ []) m₂ e₂ e₃ m₃
    → Laid (sector (sealed 6 (location + 3) logical_body) ∷ []) m₃ e₃ e₄ m₄
    → Laid (sector (sealed 7 (location + 4) unallocated_body) ∷ []) m₄ e₄ e₅ m₅
    → Laid (sector (sealed 8 (location + 5) terminating_body) ∷ []) m₅ e₅ e₆ m₆
    → Laid (blanks 10) m₆ e₆ f r → Poured (joined (sequence location size)) 32768 at d f r
unfolding sequence
sequence-poured location size a b c g h i j = (laid_cons a (laid_cons b (laid_cons c (laid_cons g (laid_cons h (laid_cons i j)))))).poured

pub integrity-poured : (size files : ℕ) {at m₁ m₂ m₃ m₄ r : ℕ} {d e₁ e₂ e₃ e₄ f : List ℕ}
    → Laid (sector (sealed 9 64 (integrity_body size files)) ∷ []) at d e₁ m₁
    → Laid (sector (sealed 8 65 terminating_body) ∷ []) m₁ e₁ e₂ m₂
    → Laid (blanks 190) m₂ e₂ e₃ m₃ → Laid (anchor_at 256 ∷ []) m₃ e₃ e₄ m₄ → Laid (blanks 15) m₄ e₄ f r
    → Poured (joined (integrity_part size files)) 425984 at d f r
unfolding integrity_part
integrity-poured size files a b c g h = (laid_cons a (laid_cons b (laid-append c (laid_cons g h)))).poured

pub root-poured : (size : ℕ) {at m₁ m₂ m₃ r : ℕ} {d e₁ e₂ e₃ f : List ℕ}
    → Laid (sector (sealed 256 0 file_set_body) ∷ []) at d e₁ m₁ → Laid (blanks 1) m₁ e₁ e₂ m₂ → Laid (sector (root_entry size) ∷ []) m₂ e₂ e₃ m₃ → Laid (blanks 5) m₃ e₃ f r
    → Poured (joined (root_part size)) 16384 at d f r
unfolding root_part
root-poured size a b c g = (laid_cons a (laid_cons b (laid_cons c g))).poured

pub front-poured : (size files directory : ℕ) {at m₁ m₂ m₃ m₄ r : ℕ} {d e₁ e₂ e₃ e₄ f : List ℕ}
    → Poured (joined recognition_part) 65536 at d e₁ m₁ → Poured (joined (sequence 32 size)) 32768 m₁ e₁ e₂ m₂ → Poured (joined (sequence 48 size)) 32768 m₂ e₂ e₃ m₃
    → Poured (joined (integrity_part size files)) 425984 m₃ e₃ e₄ m₄ → Poured (joined (root_part directory)) 16384 m₄ e₄ f r
    → Poured (joined (front size files directory)) 573440 at d f r
unfolding front
front-poured size files directory a b c g h =
    poured-as (poured-then (poured-then (poured-then (poured-then a b) c) g) h)
    (sym (joined-append _ (root_part directory) ∙ ap (λ l. l ++ joined (root_part directory)) (joined-append _ (integrity_part size files) ∙ ap (λ l. l ++ joined (integrity_part size files))
    (joined-append _ (sequence 48 size) ∙ ap (λ l. l ++ joined (sequence 48 size)) (joined-append recognition_part (sequence 32 size))))))
    refl
