-- Laws of a continuation's first sector: what it says of the header, the body and the area is what all sectors joined say. Assumes nothing.
use Rattle.std.specs.Prelude.{Result, Ok, Err}
use mathlib.Core.Path.{◌≡◌, refl, ap, sym, ◌∙◌}
use mathlib.Core.Bool.{Bool, true, false, not, ◌&&◌, ◌||◌}
use mathlib.Core.List.{List, [], ◌∷◌, ◌++◌, append-nil}
use Prim.Native.Nat.{ℕ, zero, suc, ◌+◌, ◌-◌, ◌*◌, ◌<◌, ◌≤◌, min}
use native.Mathlib.Nat.{zero-add}
use native.Mathlib.Omega.{arith}
use lib.ListN.{length, get_or, take, drop, replicate, length-append, length-take, length-drop, length-replicate, get_or-append}
use lib.Seq.{get_or-take, get_or-drop, take_all, take-nil, take-append-le, drop-append-le}
use lib.Dec.{eqb, ltb, leb}
use borrow.Author.Tests.{lt-ltb, le-ltb, lt-leb, le-leb, leb-true, leb-false}
use Rattle.disc.specs.Choice.{pick}
use Rattle.disc.specs.Ask.Ask.{done, refuse}
use Rattle.disc.specs.declared.refusals.Refusal.{Refusal}
use Rattle.disc.specs.Images.{sectors}
use Rattle.disc.specs.Places.{is_checked}
use Rattle.disc.specs.declared.refusals.Refusal.TheVariants.{Malformed, BadCrc}
use Rattle.records.specs.Bytes.{byte, u32at}
use Rattle.crcs.specs.Crcs.{crc_from, crc_of}
use Rattle.crcs.proofs.Promises.{from-joined}
use Rattle.tags.specs.Tags.{tag_of, accepted, read_tag, body_right, with_body, with_id, read_head, aed_after, read_aed}
use Rattle.tags.specs.declared.DescriptorTag.{DescriptorTag}
use Rattle.areas.specs.declared.AllocExtent.{AllocExtent}
use Rattle.areas.specs.Areas.{size_of, Area, area_at}
use Rattle.areas.proofs.AreaLaws.{some_size}
use Rattle.areas.proofs.PartLaws.{same_area}
use Rattle.chains.specs.Chains.{area_in}
use Rattle.drives.specs.Feeds.{Feed, following, crowded, crowded_by, settled_in}
use Rattle.drives.specs.Feeds.Feed.{stop}
use Rattle.drives.specs.FileFeeds.{joined, area_said, named_by}
use Rattle.drives.specs.Readings.{area_of, padded, rest_of, extents_in, is_right, headed, named_in, behind_area}
use Rattle.drives.specs.Inner.Scans.{begun, Scans}
use Rattle.drives.specs.Inner.Turns.{ReadingStands}
use Rattle.drives.specs.Inner.Bodies.{is_header, body_of, no_body, body_in, behind_bytes, in_body, head_behind, with_parts, Lands}
use Rattle.drives.specs.declared.scans.Scan.{Scan}
use Rattle.drives.specs.declared.readings.Body.{Body}
use Rattle.drives.specs.declared.readings.Reading.{Reading}
use Rattle.drives.proofs.SettleLaws.{named-same, headed-ap}
use Rattle.drives.proofs.ScanLaws.{alike_same}
use Rattle.drives.proofs.BodyLaws.{parts-of, padded-parts, leads-crowded, leads-same, scans-full}

-- ---- the front of joined sectors

module _ (b more : List ℕ) (long : length b ≡ 2048) where
  front-byte : (i : ℕ) → i < 2048 → byte (b ++ more) i ≡ byte b i
  front-byte i h = get_or-append b more 0 i (omega arith)

  front-u32 : u32at (b ++ more) 20 ≡ u32at b 20
  front-u32 = rw (front-byte 20 (omega arith), front-byte 21 (omega arith), front-byte 22 (omega arith), front-byte 23 (omega arith))

  front-tag : read_tag (b ++ more) ≡ read_tag b
  front-tag =
      let l = length-append b more in
      rw (
        le-leb 16 (length (b ++ more)) (omega arith),
        le-leb 16 (length b) (omega arith),
        front-byte 0 (omega arith),
        front-byte 1 (omega arith),
        front-byte 2 (omega arith),
        front-byte 3 (omega arith),
        front-byte 4 (omega arith),
        front-byte 5 (omega arith),
        front-byte 6 (omega arith),
        front-byte 7 (omega arith),
        front-byte 8 (omega arith),
        front-byte 9 (omega arith),
        front-byte 10 (omega arith),
        front-byte 11 (omega arith),
        front-byte 12 (omega arith),
        front-byte 13 (omega arith),
        front-byte 14 (omega arith),
        front-byte 15 (omega arith),
      )

  -- ---- the body

  and-pick : (x y : Bool) → (x && y) ≡ pick x y false
  and-pick true y = refl
  and-pick false y = refl

  front-right : (t : DescriptorTag) (size : ℕ) → body_right (b ++ more) t ≡ is_right (body_of t size b) more
  unfolding body_right crc_of
  front-right t size =
      let n = t.crc_length in
      let l : length (drop 16 b) ≡ 2032 = length-drop 16 b ∙ ap (λ k. k - 16) long in
      let z : 16 + n ≡ n + 16 = omega arith in
      and-pick (leb (16 + n) (length (b ++ more))) (eqb (crc_from 0 (take n (drop 16 (b ++ more)))) t.crc)
      ∙ rw (drop-append-le 16 b more (omega arith), parts-of n 2032 (drop 16 b) more l, from-joined (take n (drop 16 b)) (take (n - 2032) more) 0, length-append b more, long, shift n (length more))
    where
      shift : (n m : ℕ) → leb (16 + n) (2048 + m) ≡ leb (n - 2032) m
      shift n m = by (leb (16 + n) (2048 + m)) refl
        where
          by : (t : Bool) → leb (16 + n) (2048 + m) ≡ t → t ≡ leb (n - 2032) m
          by true e = let h = leb-true (16 + n) (2048 + m) e in sym (le-leb (n - 2032) m (omega arith))
          by false e = let h = leb-false (16 + n) (2048 + m) e in sym (lt-leb (n - 2032) m (omega arith))

  -- ---- the area

  padded-long : (n : ℕ) (l : List ℕ) → length (padded n l) ≡ n
  padded-long n l =
      length-take n (l ++ replicate n 0) ∙ least
    where
      least : min n (length (l ++ replicate n 0)) ≡ n
      least = let a = length-append l (replicate n 0) in let c = length-replicate {A = ℕ} n 0 in omega arith

  zeros-past : (n j : ℕ) → ◌≡◌ {A = ℕ} (get_or (replicate n 0) j 0) 0
  zeros-past zero j = refl
  zeros-past (suc n) zero = refl
  zeros-past (suc n) (suc j) = zeros-past n j

  padded-byte : (l : List ℕ) (n j : ℕ) → get_or (l ++ replicate n 0) j 0 ≡ get_or l j 0
  padded-byte [] n j = zeros-past n j
  padded-byte (a ∷ l) n zero = refl
  padded-byte (a ∷ l) n (suc j) = padded-byte l n j

  front-area : (kind n : ℕ) → area_at kind (b ++ more) 24 n ≡ area_of kind (take n (drop 24 b) ++ padded (n - 2024) more)
  unfolding area_of
  front-area kind n =
      let l : length (drop 24 b) ≡ 2024 = length-drop 24 b ∙ ap (λ k. k - 24) long in
      let e = padded-parts n 2024 (drop 24 b) more l in
      let k = padded-long n (drop 24 b ++ more) in
      rw (← e, k) (same_area (b ++ more) (padded n (drop 24 b ++ more)) kind 24 0 n (λ j h. each j h))
    where
      each : (j : ℕ) → j < n → get_or (b ++ more) (24 + j) 0 ≡ get_or (padded n (drop 24 b ++ more)) (0 + j) 0
      each j h =
          rw (zero-add j, get_or-take n ((drop 24 b ++ more) ++ replicate n 0) j 0 h, padded-byte (drop 24 b ++ more) n j, ← drop-append-le 24 b more (omega arith))
          (sym (get_or-drop 24 (b ++ more) j 0))

  -- ---- the header

  -- by the id, and by the area's length
  front-id : (kind size : ℕ) (f : Area → Feed) (i : Bool)
      → following (area_in kind size (b ++ more) (aed_after (b ++ more) (pick i (Ok (tag_of b)) (Err Malformed)))) f
      ≡ pick (i && leb (24 + u32at b 20) size) (f (area_at kind (b ++ more) 24 (u32at b 20))) (stop Malformed)
  unfolding aed_after following
  front-id kind size f false = refl
  front-id kind size f true = rw front-u32 (fit (leb (24 + u32at b 20) size) refl)
    where
      fit : (g : Bool) → leb (24 + u32at b 20) size ≡ g
          → following (pick (ltb size (24 + u32at b 20)) (refuse Malformed) (done (area_at kind (b ++ more) 24 (u32at b 20)))) f
          ≡ pick g (f (area_at kind (b ++ more) 24 (u32at b 20))) (stop Malformed)
      fit true e = rw (le-ltb size (24 + u32at b 20) (leb-true (24 + u32at b 20) size e))
      fit false e = rw (lt-ltb size (24 + u32at b 20) (leb-false (24 + u32at b 20) size e))

  -- by the body
  front-body : (kind size : ℕ) (f : Area → Feed) (c w : Bool)
      → following (area_in kind size (b ++ more) (aed_after (b ++ more) (with_id 258 (pick c (pick w (Ok (tag_of b)) (Err BadCrc)) (Ok (tag_of b)))))) f
      ≡ pick (c && not w) (stop BadCrc) (pick (is_header (tag_of b) size b) (f (area_at kind (b ++ more) 24 (u32at b 20))) (stop Malformed))
  unfolding aed_after with_id following
  front-body kind size f true false = refl
  front-body kind size f true true = front-id kind size f (eqb (tag_of b).id 258)
  front-body kind size f false w = front-id kind size f (eqb (tag_of b).id 258)

  front-head : (check : Bool) (kind size : ℕ) (f : Area → Feed)
      → following (area_in kind size (b ++ more) (read_aed check (b ++ more))) f
      ≡ headed check (body_in (read_tag b) size b) more (f (area_at kind (b ++ more) 24 (u32at b 20)))
  unfolding read_aed read_head with_body with_id aed_after following
  front-head check kind size f =
      let l = length-append b more in
      rw (le-leb 24 (length (b ++ more)) (omega arith)) (ap (λ g. following (area_in kind size (b ++ more) (aed_after (b ++ more) (with_id 258 (with_body check (b ++ more) g)))) f) front-tag ∙ by (leb 16 (length b) && accepted b))
    where
      by : (g : Bool)
          → following (area_in kind size (b ++ more) (aed_after (b ++ more) (with_id 258 (with_body check (b ++ more) (pick g (Ok (tag_of b)) (Err Malformed)))))) f
          ≡ headed check (body_in (pick g (Ok (tag_of b)) (Err Malformed)) size b) more (f (area_at kind (b ++ more) 24 (u32at b 20)))
      by false = refl
      by true = rw (front-right (tag_of b) size) (front-body kind size f check (is_right (body_of (tag_of b) size b) more))

-- ---- what the code makes of the first sector

pub front-none : (headed : Bool) (n : ℕ) → headed ≡ false → 0 ≡ min (pick headed n 0) 2024
front-none headed n e = rw e

pub front-some : (headed : Bool) (n k : ℕ) → headed ≡ true → k ≡ min n 2024 → k ≡ min (pick headed n 0) 2024
front-some headed n k e q = rw e q

pub left-none : (headed : Bool) (n : ℕ) → headed ≡ false → 0 ≡ pick headed n 0
left-none headed n e = rw e

pub left-short : (headed : Bool) (n : ℕ) → headed ≡ true → n < 2024 → 0 ≡ pick headed (n - 2024) 0
left-short headed n e h = rw e (omega arith)

pub left-some : (headed : Bool) (n : ℕ) → headed ≡ true → n - 2024 ≡ pick headed (n - 2024) 0
left-some headed n e = rw e

pub head-body : (t : DescriptorTag) (size : ℕ) (s : List ℕ) {area n k left : ℕ} {h : Bool} → length s ≡ 2048 → area ≡ u32at s 20 → n ≡ min t.crc_length 2032
    → h ≡ (eqb t.id 258 && leb (24 + area) size) → k ≡ crc_from 0 (take (16 + n - 16) (drop 16 s)) → left ≡ pick h (area - 2024) 0
    → record { tagged = true; headed = h; crc = t.crc; summed = k; body_left = t.crc_length - n; area_left = left } ≡ body_of t size s
head-body t size s {area} {n} {k} {left} {h} l a e g q f =
    let y : t.crc_length - n ≡ t.crc_length - 2032 = omega arith in
    let z : h ≡ is_header t size s = rw a at g in
    let w : left ≡ pick (is_header t size s) (u32at s 20 - 2024) 0 = f ∙ rw (z, a) in
    let v : k ≡ crc_from 0 (take t.crc_length (drop 16 s)) = q ∙ ap (crc_from 0) least in
    rw (y, w, v, z)
  where
    least : take (16 + n - 16) (drop 16 s) ≡ take t.crc_length (drop 16 s)
    least =
        let m : length (drop 16 s) ≡ 2032 = length-drop 16 s ∙ ap (λ k. k - 16) l in
        by (leb t.crc_length 2032) refl m
      where
        by : (b : Bool) → leb t.crc_length 2032 ≡ b → length (drop 16 s) ≡ 2032 → take (16 + n - 16) (drop 16 s) ≡ take t.crc_length (drop 16 s)
        by true x m = let h = leb-true t.crc_length 2032 x in let z : 16 + n - 16 ≡ t.crc_length = omega arith in rw z
        by false x m =
            let h = leb-false t.crc_length 2032 x in
            let z : 16 + n - 16 ≡ 2032 = omega arith in
            rw (z, take_all 2032 (drop 16 s) (omega arith), take_all t.crc_length (drop 16 s) (omega arith))

pub head_read : (r : Result DescriptorTag Refusal) (size : ℕ) (s : List ℕ) {t : DescriptorTag} {b : Body} → r ≡ Ok t → b ≡ body_of t size s → b ≡ body_in r size s
head_read r size s e f = rw e f

pub head-refused : (r : Result DescriptorTag Refusal) (size : ℕ) (s : List ℕ) {why : Refusal} → r ≡ Err why → no_body ≡ body_in r size s
head-refused r size s e = rw e

-- nothing is carried at the front of an area
pub head-begins : (kind : ℕ) {n : ℕ} {s : Scan} → s ≡ begun n → s.carried < size_of kind
head-begins kind e = let l = some_size kind in rw e (omega arith)

-- the sectors behind it hold the rest of the area
pub head-held : (size left : ℕ) (s : List ℕ) (r : Result DescriptorTag Refusal) {b : Body} → b ≡ body_in r size s → size ≤ 2048 * (left + 1) → b.area_left ≤ 2048 * left
head-held size left s (Err why) e h = rw e (omega arith)
head-held size left s (Ok t) e h = rw e (by (eqb t.id 258) (leb (24 + u32at s 20) size) refl)
  where
    by : (i f : Bool) → leb (24 + u32at s 20) size ≡ f → pick (i && f) (u32at s 20 - 2024) 0 ≤ 2048 * left
    by true true q = few (u32at s 20) (leb-true (24 + u32at s 20) size q)
      where
        few : (n : ℕ) → 24 + n ≤ size → n - 2024 ≤ 2048 * left
        few n g = omega arith
    by true false q = omega arith
    by false f q = omega arith

-- the area that the header says, and what is left of it behind the first sector
pub area-said : (g : Result DescriptorTag Refusal) (size : ℕ) (s : List ℕ) → pick (body_in g size s).headed (u32at s 20) 0 ≡ area_said size s g
area-said (Ok t) size s = refl
area-said (Err why) size s = refl

area-left : (g : Result DescriptorTag Refusal) (size : ℕ) (s : List ℕ) → (body_in g size s).area_left ≡ area_said size s g - 2024
area-left (Ok t) size s = by (is_header t size s)
  where
    by : (h : Bool) → pick h (u32at s 20 - 2024) 0 ≡ pick h (u32at s 20) 0 - 2024
    by true = refl
    by false = refl
area-left (Err why) size s = refl

module _ (r : Reading) (row : List (List ℕ)) (sector : List ℕ) (row' : List (List ℕ)) (s' : Scan) (l : length sector ≡ 2048)
    {n : ℕ} (q : n ≡ min (area_said r.size sector (read_tag sector)) 2024) (p : Scans r.kind row (begun r.scan.listed) (take (24 + n - 24) (drop 24 sector)) row' s') where
  abbrev es : List AllocExtent
  es = extents_in row r.scan.listed

  abbrev said : ℕ
  said = area_said r.size sector (read_tag sector)

  abbrev body' : Body
  body' = body_in (read_tag sector) r.size sector

  front_long : length (drop 24 sector) ≡ 2024
  front_long = length-drop 24 sector ∙ ap (λ k. k - 24) l

  took : (a : ℕ) → n ≡ min a 2024 → take (24 + n - 24) (drop 24 sector) ≡ take a (drop 24 sector)
  took a = by (leb a 2024) refl
    where
      by : (b : Bool) → leb a 2024 ≡ b → n ≡ min a 2024 → take (24 + n - 24) (drop 24 sector) ≡ take a (drop 24 sector)
      by true x q = let h = leb-true a 2024 x in let z : 24 + n - 24 ≡ a = omega arith in rw z
      by false x q =
          let h = leb-false a 2024 x in
          let z : 24 + n - 24 ≡ 2024 = omega arith in
          let m = front_long in
          rw (z, take_all 2024 (drop 24 sector) (omega arith), take_all a (drop 24 sector) (omega arith))

  -- ---- how many extents are named

  -- the bytes of the area that have come
  come : (more : List ℕ) → area_at r.kind (sector ++ more) 24 (min said (length (sector ++ more) - 24)) ≡ rest_of r.kind (begun r.scan.listed) (take (24 + n - 24) (drop 24 sector) ++ take (said - 2024) more)
  unfolding rest_of
  come more =
      let k : length (sector ++ more) - 24 ≡ 2024 + length more = rw (length-append sector more, l) (omega arith) in
      rw k (front-area sector more l r.kind (min said (2024 + length more)) ∙ ap (area_of r.kind) (ap2 (cut said q) (rest said)))
    where
      ap2 : {a b c d : List ℕ} → a ≡ b → c ≡ d → a ++ c ≡ b ++ d
      ap2 {a} {b} {c} {d} e f = rw (e, f)

      cut : (a : ℕ) → n ≡ min a 2024 → take (min a (2024 + length more)) (drop 24 sector) ≡ take (24 + n - 24) (drop 24 sector)
      cut a e = sym (took (min a (2024 + length more)) (e ∙ least a))
        where
          least : (a : ℕ) → min a 2024 ≡ min (min a (2024 + length more)) 2024
          least a = omega arith

      rest : (a : ℕ) → padded (min a (2024 + length more) - 2024) more ≡ take (a - 2024) more
      rest a = by (leb (a - 2024) (length more)) refl
        where
          by : (b : Bool) → leb (a - 2024) (length more) ≡ b → padded (min a (2024 + length more) - 2024) more ≡ take (a - 2024) more
          by true x =
              let h = leb-true (a - 2024) (length more) x in
              let z : min a (2024 + length more) - 2024 ≡ a - 2024 = omega arith in
              rw z (take-append-le (a - 2024) more (replicate (a - 2024) 0) h)
          by false x =
              let h = leb-false (a - 2024) (length more) x in
              let z : min a (2024 + length more) - 2024 ≡ length more = omega arith in
              rw (z, take-append-le (length more) more (replicate (length more) 0) (omega arith), take_all (length more) more (omega arith), take_all (a - 2024) more (omega arith))

  named-come : (more : List ℕ) → named_by r.kind r.size es (sector ++ more) ≡ length (joined es (rest_of r.kind (begun r.scan.listed) (take (24 + n - 24) (drop 24 sector) ++ take (said - 2024) more)))
  named-come more =
      ap (λ k. length (joined es (area_at r.kind (sector ++ more) 24 (min k (length (sector ++ more) - 24))))) (ap (area_said r.size (sector ++ more)) (front-tag sector more l) ∙ front-said (read_tag sector))
      ∙ ap (λ x. length (joined es x)) (come more)
    where
      front-said : (g : Result DescriptorTag Refusal) → area_said r.size (sector ++ more) g ≡ area_said r.size sector g
      front-said (Ok t) = rw (front-u32 sector more l)
      front-said (Err why) = refl

  head-full : s'.full ≡ (false || ltb (length row) (named_by r.kind r.size es sector))
  head-full =
      let e : named_by r.kind r.size es sector ≡ length (joined es (rest_of r.kind (begun r.scan.listed) (take (24 + n - 24) (drop 24 sector)))) =
      ap (named_by r.kind r.size es) (sym (append-nil sector)) ∙ named-come [] ∙ rw (take-nil (said - 2024), append-nil (take (24 + n - 24) (drop 24 sector))) in
      scans-full r.kind row (begun r.scan.listed) (take (24 + n - 24) (drop 24 sector)) row' s' p ∙ rw e

  same-named : s'.full ≡ false → (more : List ℕ) → named_by r.kind r.size es (sector ++ more) ≡ named_in (with_parts r s' body') row' more
  same-named f more = named-come more ∙ rw (area-left (read_tag sector) r.size sector) (ap length (alike_same (p.behind (take (said - 2024) more)).extents f))

  -- ---- what the area leads to

  abbrev whole : List ℕ → Feed
  whole more = behind_area r es (area_at r.kind (sector ++ more) 24 (u32at sector 20))

  abbrev parted : List ℕ → Feed
  parted more = behind_area (with_parts r s' body') (extents_in row' s'.listed) (rest_of r.kind s' (padded body'.area_left more))

  leads : (a : ℕ) → said ≡ a → (more : List ℕ) → area_at r.kind (sector ++ more) 24 a ≡ rest_of r.kind (begun r.scan.listed) (take (24 + n - 24) (drop 24 sector) ++ padded (a - 2024) more)
  unfolding rest_of
  leads a e more = rw (took a (rw e at q)) (front-area sector more l r.kind a)

  -- by what is to be known of it: all, or what it is where an extent is lost
  pick-headed : {X : Type 0} (g : Feed → X) (more : List ℕ)
      → ((a : ℕ) → g (behind_area r es (rest_of r.kind (begun r.scan.listed) (take (24 + n - 24) (drop 24 sector) ++ padded (a - 2024) more)))
      ≡ g (behind_area (with_parts r s' body') (extents_in row' s'.listed) (rest_of r.kind s' (padded (a - 2024) more))))
      → g (headed (is_checked r.mount) body' more (whole more)) ≡ g (headed (is_checked r.mount) body' more (parted more))
  pick-headed g more h = by body'.headed refl (area-said (read_tag sector) r.size sector)
    where
      by : (b : Bool) → body'.headed ≡ b → pick body'.headed (u32at sector 20) 0 ≡ said
          → g (headed (is_checked r.mount) body' more (whole more)) ≡ g (headed (is_checked r.mount) body' more (parted more))
      by false e k = rw e
      by true e k =
          let a : said ≡ u32at sector 20 = sym k ∙ rw e in
          let b : body'.area_left ≡ u32at sector 20 - 2024 = area-left (read_tag sector) r.size sector ∙ rw a in
          headed-ap g body'.tagged (is_checked r.mount && not (is_right body' more)) body'.headed (whole more) (parted more)
          (rw (leads (u32at sector 20) a more, b) (h (u32at sector 20)))

  head-same : (room : ℕ) → settled_in false (length row) room (head_behind r row sector)
      ≡ settled_in false (length row) room (crowded_by s'.full (in_body (with_parts r s' body') row' r.left (r.at + 1)))
  unfolding head_behind in_body
  head-same room =
      named-same (length row) room (named_by r.kind r.size es sector) (λ more. named_by r.kind r.size es (sector ++ more)) (named_in (with_parts r s' body') row') (sectors r.left (r.at + 1))
      _ (behind_bytes (with_parts r s' body') row') false s'.full head-full
      (λ more. ap crowded (front more) ∙ pick-headed crowded more (λ a. leads-crowded r.mount r.hops r.missing (p.behind (padded (a - 2024) more))))
      same-named
      (λ f more. front more ∙ pick-headed (λ x. x) more (λ a. leads-same r.mount r.hops r.missing (p.behind (padded (a - 2024) more)) f))
    where
      front : (more : List ℕ) → following (area_in r.kind r.size (sector ++ more) (read_aed (is_checked r.mount) (sector ++ more))) (behind_area r es) ≡ headed (is_checked r.mount) body' more (whole more)
      front more = front-head sector more l (is_checked r.mount) r.kind r.size (behind_area r es)

module _ (r : Reading) (row : List (List ℕ)) (sector : List ℕ) (row' : List (List ℕ)) (s' : Scan) (l : length sector ≡ 2048) where
  pub head-lands : {n : ℕ} {area : ℕ} {g : Result DescriptorTag Refusal} {b' : Body} {s₀ : Scan} → g ≡ read_tag sector → b' ≡ body_in g r.size sector → area ≡ u32at sector 20 → n ≡ min (pick b'.headed area 0) 2024 → s₀ ≡ begun r.scan.listed
      → Scans r.kind row s₀ (take (24 + n - 24) (drop 24 sector)) row' s'
      → (y x : Reading) → y ≡ with_parts r s' b' → ReadingStands row' (crowded_by y.scan.full (in_body y row' y.left (y.at + 1))) y x → Lands row (head_behind r row sector) r row' x
  head-lands {n} {area} {g} {b'} {s₀} t e a m s p y x f k =
      let b : b' ≡ body_in (read_tag sector) r.size sector = rw t at e in
      let q : n ≡ min (area_said r.size sector (read_tag sector)) 2024 = m ∙ rw (b, a) (ap (λ i. min i 2024) (area-said (read_tag sector) r.size sector)) in
      let c = rw s at p in
      let d : y ≡ with_parts r s' (body_in (read_tag sector) r.size sector) = f ∙ ap (with_parts r s') b in
      let w = rw d at k in
      let h = (c.behind []).long in
      record {
        long = h;
        left = λ room. head-same r row sector row' s' l q c room ∙ rw h at (w.left room);
        answer = w.answer;
        count = w.count;
        filled = w.length;
        inside = λ i v. rw (w.listed v, h) ((c.behind []).inside i);
      }
