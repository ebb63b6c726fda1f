-- Laws of a continuation whose sectors come one at a time: what they come to is what all of them joined come to. Assumes nothing.
use Rattle.std.specs.Prelude.{Result, Ok, Err}
use mathlib.Core.Path.{◌≡◌, refl, ap, sym, ◌∙◌}
use mathlib.Core.Bool.{Bool, true, false, not, ◌&&◌, ◌||◌}
use mathlib.Core.List.{List, [], ◌∷◌, ◌++◌, append-nil, append_assoc}
use Prim.Native.Nat.{ℕ, zero, suc, ◌+◌, ◌-◌, ◌*◌, ◌<◌, ◌≤◌, min}
use native.Mathlib.Omega.{arith}
use lib.ListN.{length, take, replicate, length-append, length-take}
use lib.Seq.{take_all, take-append-le, take-append-add}
use lib.Dec.{eqb, ltb, leb}
use borrow.Author.Tests.{lt-ltb, le-ltb, lt-leb, le-leb, leb-true, leb-false, eqb-true}
use Rattle.disc.specs.Choice.{pick}
use Rattle.disc.specs.Refusals.{number}
use Rattle.disc.specs.Ask.{then}
use Rattle.disc.specs.Images.{sectors}
use Rattle.disc.specs.Places.{is_checked}
use Rattle.disc.specs.declared.places.Mount.{Mount}
use Rattle.disc.specs.declared.refusals.Refusal.{Refusal}
use Rattle.disc.specs.declared.refusals.Refusal.TheVariants.{Malformed, BadCrc}
use Rattle.crcs.specs.Crcs.{crc_from}
use Rattle.crcs.proofs.Promises.{from-joined}
use Rattle.areas.specs.declared.AllocExtent.{AllocExtent}
use Rattle.areas.specs.declared.AdEnding.{AdEnding}
use Rattle.areas.specs.declared.AdEnding.TheVariants.{End, Continuation, Refused}
use Rattle.areas.specs.Areas.{size_of, ended, area_at}
use Rattle.areas.proofs.AreaLaws.{area-end}
use Rattle.drives.specs.Feeds.{Feed, naming, crowded, settled_in, crowded_by}
use Rattle.drives.specs.Feeds.Feed.{over, stop, name, hold, put, want}
use Rattle.drives.specs.FileFeeds.{joined, chain_feed}
use Rattle.drives.specs.Openings.{most_sectors}
use Rattle.drives.specs.Readings.{extents_in, area_of, ending_of, carried_in, padded, rest_of, is_right, named_in, continuation_phase, feed_of, left_of, number_of}
use Rattle.drives.specs.Inner.Scans.{Leads, Scans}
use Rattle.drives.specs.Inner.Turns.{Ends, quiet, ReadingStands}
use Rattle.drives.specs.Inner.Bodies.{is_wrong, judged, finished, body_behind, behind_bytes, in_body, part_behind, with_parts, Parts, Lands}
use Rattle.drives.specs.declared.scans.Scan.{Scan}
use Rattle.drives.specs.declared.readings.Body.{Body}
use Rattle.drives.specs.declared.readings.Reading.{Reading}
use Rattle.drives.proofs.SettleLaws.{IsWant, want-quiet, crowded-wants, named-same, headed-ap}
use Rattle.drives.proofs.ScanLaws.{alike-lost, alike_same}
use Rattle.drives.proofs.TurnLaws.{stands-stop, one_less, chain-refused, chain-end, chain-on, places-fit}

-- ---- the verdict

module _ (check : Bool) (b : Body) where
  pub wrong-unchecked : check ≡ false → false ≡ is_wrong check b
  wrong-unchecked e = rw e

  pub wrong-short : check ≡ true → (b.body_left ≡ 0 → ⊥) → true ≡ is_wrong check b
  wrong-short e h = rw (e, lt-leb b.body_left 0 (some b.body_left h))
    where
      some : (n : ℕ) → (n ≡ 0 → ⊥) → 0 < n
      some zero h = absurd (h refl)
      some (suc n) h = omega arith

  pub wrong-sum : check ≡ true → b.body_left ≡ 0 → not (eqb b.summed b.crc) ≡ is_wrong check b
  unfolding crc_from
  wrong-sum e z = rw (e, z)

module _ (row : List (List ℕ)) (r x : Reading) {k : Bool} (c : k ≡ is_checked r.mount) {a : Result (Unit {0}) Refusal} (e : a ≡ judged k r.body) where
  verdict : a ≡ judged (is_checked r.mount) r.body
  verdict = rw c at e

  abbrev chain : Feed
  chain = chain_feed r.mount r.kind r.hops r.missing (extents_in row r.scan.listed) (ending_of r.scan)

  pub finish-not : {why : Refusal} → a ≡ Err why → {n : ℕ} → n ≡ number why → Ends r n x → ReadingStands row (finished r row) r x
  unfolding finished settled_in crowded
  finish-not {why} h {n} m p = by r.body.tagged (is_wrong (is_checked r.mount) r.body) r.body.headed (sym h ∙ verdict)
    where
      ended_by : (y : Refusal) → ◌≡◌ {A = Result (Unit {0}) Refusal} (Err why) (Err y) → ReadingStands row (crowded_by r.scan.full (stop y)) r x
      ended_by y q = told r.scan.full
        where
          same : n ≡ number y
          same = m ∙ ap number cc

          told : (b : Bool) → ReadingStands row (pick b (stop y) (stop y)) r x
          told true = stands-stop row (stop y) r x y (rw same at p) (λ room. refl)
          told false = stands-stop row (stop y) r x y (rw same at p) (λ room. refl)

      by : (t w g : Bool) → ◌≡◌ {A = Result (Unit {0}) Refusal} (Err why) (pick t (pick w (Err BadCrc) (pick g (Ok tt) (Err Malformed))) (Err Malformed))
          → ReadingStands row (crowded_by r.scan.full (pick t (pick w (stop BadCrc) (pick g chain (stop Malformed))) (stop Malformed))) r x
      by false w g q = ended_by Malformed q
      by true true g q = ended_by BadCrc q
      by true false false q = ended_by Malformed q
      by true false true q = absurd cc

  pub finish-good : {u : Unit {0}} → a ≡ Ok u → ReadingStands row (crowded_by r.scan.full chain) r x → ReadingStands row (finished r row) r x
  unfolding finished
  finish-good {u} h p = by r.body.tagged (is_wrong (is_checked r.mount) r.body) r.body.headed (sym h ∙ verdict)
    where
      by : (t w g : Bool) → ◌≡◌ {A = Result (Unit {0}) Refusal} (Ok u) (pick t (pick w (Err BadCrc) (pick g (Ok tt) (Err Malformed))) (Err Malformed))
          → ReadingStands row (crowded_by r.scan.full (pick t (pick w (stop BadCrc) (pick g chain (stop Malformed))) (stop Malformed))) r x
      by false w g q = absurd cc
      by true true g q = absurd cc
      by true false false q = absurd cc
      by true false true q = p

-- ---- the next sector, or the end

-- an area of which no byte is left
pub rest-none : (kind : ℕ) (s : Scan) → s.carried < size_of kind → rest_of kind s [] ≡ ended (ending_of s)
unfolding rest_of area_of
rest-none kind s h = by (eqb s.closed 0) refl
  where
    short : length (carried_in s ++ []) < size_of kind
    short = rw (append-nil (carried_in s), length-take s.carried s.carry) (omega arith)

    ends : s.closed ≡ 0 → ending_of s ≡ End
    ends z = rw z

    by : (t : Bool) → eqb s.closed 0 ≡ t → pick t (area_at kind (carried_in s ++ []) 0 (length (carried_in s ++ []))) (ended (ending_of s)) ≡ ended (ending_of s)
    by true e = area-end kind (carried_in s ++ []) 0 (length (carried_in s ++ [])) short ∙ ap ended (sym (ends (eqb-true s.closed 0 e)))
    by false e = refl

in-body-none : (r : Reading) (row : List (List ℕ)) (n at : ℕ) → n ≡ 0 → r.scan.carried < size_of r.kind → r.body.area_left ≤ 2048 * n
    → crowded_by r.scan.full (in_body r row n at) ≡ finished r row
unfolding in_body finished sectors naming
in-body-none r row n at z h l =
    let y : padded r.body.area_left [] ≡ [] = none r.body.area_left (omega arith) in
    rw (z, y, rest-none r.kind r.scan h, append-nil (extents_in row r.scan.listed))
  where
    none : (k : ℕ) → k ≡ 0 → padded k [] ≡ []
    none k e = rw e

-- as the code makes it
abbrev pub in_part : Reading → ℕ → ℕ → Reading
in_part r at left = record {
  phase = continuation_phase;
  at = at;
  left = left;
  mount = r.mount;
  kind = r.kind;
  hops = r.hops;
  missing = r.missing;
  size = r.size;
  next = r.next;
  scan = r.scan;
  body = r.body;
  answer = 0;
  count = r.count;
  length = r.length;
}

body-wants : (r : Reading) (row : List (List ℕ)) (n at : ℕ) → IsWant (in_body r row (suc n) at)
unfolding IsWant in_body naming sectors then
body-wants r row n at = tt

part_left : (r : Reading) (row : List (List ℕ)) (at left : ℕ) → at + left < most_sectors → r.scan.carried < size_of r.kind → r.body.area_left ≤ 2048 * (left + 1)
    → left_of (in_part r at left) row ≡ crowded_by r.scan.full (in_body r row (suc left) at)
unfolding left_of feed_of in_body
part_left r row at left h c a = rw (lt-ltb (at + left) most_sectors h, lt-ltb r.scan.carried (size_of r.kind) c, le-leb r.body.area_left (2048 * (left + 1)) a)

part-number : (b : Bool) (f : Feed) → IsWant f → 0 ≡ number_of (pick b (crowded f) f)
unfolding IsWant crowded
part-number false over h = absurd h
part-number false (stop r) h = absurd h
part-number false (name n f) h = refl
part-number false (hold n f) h = refl
part-number false (put b f) h = refl
part-number false (want s k) h = refl
part-number true over h = absurd h
part-number true (stop r) h = absurd h
part-number true (name n f) h = absurd h
part-number true (hold n f) h = absurd h
part-number true (put b f) h = refl
part-number true (want s k) h = refl

part-stands : (r : Reading) (row : List (List ℕ)) (at left : ℕ) → at + left < most_sectors → r.scan.carried < size_of r.kind → r.body.area_left ≤ 2048 * (left + 1)
    → ReadingStands row (crowded_by r.scan.full (in_body r row (suc left) at)) r (in_part r at left)
part-stands r row at left h c a =
    let e = part_left r row at left h c a in
    let w = body-wants r row left at in
    record {
      left = λ room. want-quiet (length row) room (crowded_by r.scan.full (in_body r row (suc left) at)) (crowded-wants r.scan.full (in_body r row (suc left) at) w) ∙ ap quiet (sym e);
      answer = part-number r.scan.full (in_body r row (suc left) at) w ∙ ap number_of (sym e);
      count = refl;
      length = refl;
      listed = λ u. refl;
    }

module _ (r : Reading) (row : List (List ℕ)) (x : Reading) (c : r.scan.carried < size_of r.kind) (a : r.body.area_left ≤ 2048 * r.left) where
  pub further-last : r.left ≡ 0 → ReadingStands row (finished r row) r x → ReadingStands row (crowded_by r.scan.full (in_body r row r.left (r.at + 1))) r x
  further-last z p = rw (in-body-none r row r.left (r.at + 1) z c a) p

  pub further-next : (r.left ≡ 0 → ⊥) → r.at + r.left < most_sectors → x ≡ in_part r (r.at + 1) (r.left - 1) → ReadingStands row (crowded_by r.scan.full (in_body r row r.left (r.at + 1))) r x
  further-next z h e =
      rw e (rw (one_less r.left z) at (part-stands r row (r.at + 1) (r.left - 1) (less r.at r.left h z) c (held r.left a z)))
    where
      less : (a m : ℕ) → a + m < most_sectors → (m ≡ 0 → ⊥) → a + 1 + (m - 1) < most_sectors
      less a zero l z = absurd (z refl)
      less a (suc m) l z = omega arith

      held : (m : ℕ) → r.body.area_left ≤ 2048 * m → (m ≡ 0 → ⊥) → r.body.area_left ≤ 2048 * (m - 1 + 1)
      held zero l z = absurd (z refl)
      held (suc m) l z = omega arith

-- ---- a further sector

pub take-least : (n : ℕ) (s : List ℕ) → length s ≡ 2048 → take (min n 2048 - 0) s ≡ take n s
take-least n s l = by (leb n 2048) refl
  where
    by : (t : Bool) → leb n 2048 ≡ t → take (min n 2048 - 0) s ≡ take n s
    by true e = let h = leb-true n 2048 e in let z : min n 2048 - 0 ≡ n = omega arith in rw z
    by false e = let h = leb-false n 2048 e in let z : min n 2048 - 0 ≡ 2048 = omega arith in rw (z, take_all n s (omega arith), take_all 2048 s (omega arith))

pub part_body : (b : Body) (s : List ℕ) {n m k : ℕ} → length s ≡ 2048 → n ≡ min b.body_left 2048 → m ≡ min b.area_left 2048 → k ≡ crc_from b.summed (take (n - 0) s)
    → record { tagged = b.tagged; headed = b.headed; crc = b.crc; summed = k; body_left = b.body_left - n; area_left = b.area_left - m } ≡ body_behind b s
part_body b s {n} {m} {k} l e f g =
    let z : b.body_left - n ≡ b.body_left - 2048 = omega arith in
    let y : b.area_left - m ≡ b.area_left - 2048 = omega arith in
    let q : k ≡ crc_from b.summed (take b.body_left s) = g ∙ rw (e, take-least b.body_left s l) in
    rw (z, y, q)

-- the bytes of two parts
pub parts-of : (n k : ℕ) (a b : List ℕ) → length a ≡ k → take n (a ++ b) ≡ take n a ++ take (n - k) b
parts-of n k a b l = by (leb n k) refl
  where
    by : (t : Bool) → leb n k ≡ t → take n (a ++ b) ≡ take n a ++ take (n - k) b
    by true e =
        let h = leb-true n k e in
        let z : n - k ≡ 0 = omega arith in
        rw (take-append-le n a b (omega arith), z, append-nil (take n a))
    by false e =
        let h = leb-false n k e in
        let z : length a + (n - k) ≡ n = omega arith in
        rw (take_all n a (omega arith)) (rw z at (take-append-add a b (n - k)))

pub leb-past : (m a b : ℕ) → leb m (a + b) ≡ leb (m - a) b
leb-past m a b = by (leb m (a + b)) refl
  where
    by : (t : Bool) → leb m (a + b) ≡ t → t ≡ leb (m - a) b
    by true e = let h = leb-true m (a + b) e in sym (le-leb (m - a) b (omega arith))
    by false e = let h = leb-false m (a + b) e in sym (lt-leb (m - a) b (omega arith))

right-parts : (b : Body) (s more : List ℕ) → length s ≡ 2048 → is_right b (s ++ more) ≡ is_right (body_behind b s) more
right-parts b s more l =
    let n = b.body_left in
    rw (parts-of n 2048 s more l, from-joined (take n s) (take (n - 2048) more) b.summed, length-append s more, l, leb-past n 2048 (length more))

-- the bytes that are yet to come, of two parts
padded-less : (n k : ℕ) (l : List ℕ) → n ≤ k → take n (l ++ replicate k 0) ≡ padded n l
padded-less zero k l h = refl
padded-less (suc n) zero l h = absurd (omega arith)
padded-less (suc n) (suc k) [] h = ap (λ x. 0 ∷ x) (padded-less n k [] (omega arith))
padded-less (suc n) (suc k) (a ∷ l) h = ap (λ x. a ∷ x) (padded-less n (suc k) l (omega arith) ∙ sym (padded-less n (suc n) l (omega arith)))

pub padded-parts : (n k : ℕ) (a more : List ℕ) → length a ≡ k → padded n (a ++ more) ≡ take n a ++ padded (n - k) more
padded-parts n k a more l = by (leb n k) refl
  where
    by : (t : Bool) → leb n k ≡ t → padded n (a ++ more) ≡ take n a ++ padded (n - k) more
    by true e =
        let h = leb-true n k e in
        let z : n - k ≡ 0 = omega arith in
        rw (append_assoc a more (replicate n 0), take-append-le n a (more ++ replicate n 0) (omega arith), z, append-nil (take n a))
    by false e =
        let h = leb-false n k e in
        let z : length a + (n - k) ≡ n = omega arith in
        rw (append_assoc a more (replicate n 0), take_all n a (omega arith))
        (rw z at (take-append-add a (more ++ replicate n 0) (n - k)) ∙ ap (λ x. a ++ x) (padded-less (n - k) n more (omega arith)))

-- ---- places that lead to the same

-- where an extent was lost, it is of no account which there are
chain-any : (m : Mount) (kind missing n : ℕ) (a b : List AllocExtent) (how : AdEnding) → crowded (chain_feed m kind n missing a how) ≡ crowded (chain_feed m kind n missing b how)
unfolding crowded
chain-any m kind missing n a b (Refused why) = rw (chain-refused m kind missing a n why, chain-refused m kind missing b n why)
chain-any m kind missing n a b End = rw (chain-end m kind missing a n, chain-end m kind missing b n)
chain-any m kind missing n a b (Continuation c) = rw (chain-on m kind missing a n c, chain-on m kind missing b n c)

module _ (mt : Mount) (hops missing : ℕ) {kind : ℕ} {row row' : List (List ℕ)} {s s' : Scan} {m m' : List ℕ} (p : Leads kind row s m row' s' m') where
  abbrev before : Feed
  before = chain_feed mt kind hops missing (joined (extents_in row s.listed) (rest_of kind s m)) (rest_of kind s m).ending

  abbrev after : Feed
  after = chain_feed mt kind hops missing (joined (extents_in row' s'.listed) (rest_of kind s' m')) (rest_of kind s' m').ending

  pub leads-crowded : crowded before ≡ crowded after
  leads-crowded = rw p.ending (chain-any mt kind missing hops (joined (extents_in row s.listed) (rest_of kind s m)) (joined (extents_in row' s'.listed) (rest_of kind s' m')) (rest_of kind s' m').ending)

  pub leads-same : s'.full ≡ false → before ≡ after
  leads-same e = rw (p.ending, alike_same p.extents e)

-- where one is lost that has no slot, it is lost to the area that names it
chain-lost : (m : Mount) (kind missing n slots room : ℕ) (a : List AllocExtent) (how : AdEnding) → ltb slots (length a) ≡ true
    → settled_in false slots room (chain_feed m kind n missing a how) ≡ settled_in false slots room (crowded (chain_feed m kind n missing a how))
unfolding settled_in crowded
chain-lost m kind missing n slots room a (Refused why) h = rw (chain-refused m kind missing a n why)
chain-lost m kind missing n slots room a End h = rw (chain-end m kind missing a n, h)
chain-lost m kind missing n slots room a (Continuation c) h = rw (chain-on m kind missing a n c, h)

pub leads-settled : (mt : Mount) (hops missing room : ℕ) {kind : ℕ} {row row' : List (List ℕ)} {s s' : Scan} {m m' : List ℕ} (p : Leads kind row s m row' s' m') → s.full ≡ false
    → settled_in false (length row) room (before mt hops missing p) ≡ settled_in false (length row) room (crowded_by s'.full (after mt hops missing p))
unfolding rest_of
leads-settled mt hops missing room {kind} {row} {row'} {s} {s'} {m} {m'} p f = by s'.full refl
  where
    by : (b : Bool) → s'.full ≡ b → settled_in false (length row) room (before mt hops missing p) ≡ settled_in false (length row) room (crowded_by b (after mt hops missing p))
    by false e = ap (settled_in false (length row) room) (leads-same mt hops missing p e)
    by true e =
        let g : ltb (length row) (length (joined (extents_in row s.listed) (rest_of kind s m))) ≡ true = rw (f, e) at (alike-lost p.extents) in
        chain-lost mt kind missing hops (length row) room (joined (extents_in row s.listed) (rest_of kind s m)) (rest_of kind s m).ending g
        ∙ ap (settled_in false (length row) room) (leads-crowded mt hops missing p)

-- whether an extent was lost: one was before, or more are named than there are places
or-false : (b : Bool) → (b || false) ≡ b
or-false true = refl
or-false false = refl

pub scans-full : (kind : ℕ) (row : List (List ℕ)) (s : Scan) (bytes : List ℕ) (row' : List (List ℕ)) (s' : Scan) → Scans kind row s bytes row' s'
    → s'.full ≡ (s.full || ltb (length row) (length (joined (extents_in row s.listed) (rest_of kind s bytes))))
scans-full kind row s bytes row' s' p =
    let q = p.behind [] in
    let e = alike-lost q.extents in
    let z : length (joined (extents_in row' s'.listed) (rest_of kind s' [])) ≤ length row =
    rw (rest-none kind s' q.carries, append-nil (extents_in row' s'.listed)) (rw q.long at (places-fit row' s'.listed)) in
    let n = le-ltb (length row) (length (joined (extents_in row' s'.listed) (rest_of kind s' []))) z in
    sym (or-false s'.full) ∙ ap (λ b. s'.full || b) (sym n) ∙ sym e ∙ rw (append-nil bytes)

pub part_held : (left : ℕ) (b : Body) (s : List ℕ) {b' : Body} → b' ≡ body_behind b s → b.area_left ≤ 2048 * (left + 1) → b'.area_left ≤ 2048 * left
part_held left b s e h = rw e (few b.area_left h)
  where
    few : (n : ℕ) → n ≤ 2048 * (left + 1) → n - 2048 ≤ 2048 * left
    few n h = omega arith

-- what the next sector, or the end, wants of a state
pub part-ready : (r : Reading) (s : Scan) (b : Body) (y : Reading) → Parts r s b y → r.at + r.left < most_sectors → s.carried < size_of r.kind → b.area_left ≤ 2048 * r.left
    → (y.at + y.left < most_sectors) × (y.scan.carried < size_of y.kind) × (y.body.area_left ≤ 2048 * y.left)
part-ready r s b y e h k l = rw e.is (h, k, l)

pub scans-carry : (kind : ℕ) (row : List (List ℕ)) (s : Scan) (bytes : List ℕ) (row' : List (List ℕ)) (s' : Scan) → Scans kind row s bytes row' s' → s'.carried < size_of kind
scans-carry kind row s bytes row' s' p = (p.behind []).carries

-- behind a further sector
module _ (r : Reading) (row : List (List ℕ)) (sector : List ℕ) (row' : List (List ℕ)) (s' : Scan) (b' : Body) (l : length sector ≡ 2048) (e : b' ≡ body_behind r.body sector)
    {n : ℕ} (q : n ≡ min r.body.area_left 2048) (p : Scans r.kind row r.scan (take (n - 0) sector) row' s') where
  abbrev body' : Body
  body' = body_behind r.body sector

  took : take (n - 0) sector ≡ take r.body.area_left sector
  took = rw (q, take-least r.body.area_left sector l)

  -- what all of its bytes lead to, and what they name
  parts : (more : List ℕ) → padded r.body.area_left (sector ++ more) ≡ take (n - 0) sector ++ padded (r.body.area_left - 2048) more
  parts more = padded-parts r.body.area_left 2048 sector more l ∙ ap (λ x. x ++ padded (r.body.area_left - 2048) more) (sym took)

  leads : (more : List ℕ) → Leads r.kind row r.scan (padded r.body.area_left (sector ++ more)) row' s' (padded (r.body.area_left - 2048) more)
  leads more = rw (parts more) (p.behind (padded (r.body.area_left - 2048) more))

  same-crowded : (more : List ℕ) → crowded (behind_bytes r row (sector ++ more)) ≡ crowded (behind_bytes (with_parts r s' body') row' more)
  same-crowded more =
      rw (right-parts r.body sector more l)
      (headed-ap crowded r.body.tagged (is_checked r.mount && not (is_right body' more)) r.body.headed _ _ (leads-crowded r.mount r.hops r.missing (leads more)))

  same_bytes : s'.full ≡ false → (more : List ℕ) → behind_bytes r row (sector ++ more) ≡ behind_bytes (with_parts r s' body') row' more
  same_bytes f more =
      rw (right-parts r.body sector more l)
      (headed-ap (λ x. x) r.body.tagged (is_checked r.mount && not (is_right body' more)) r.body.headed _ _ (leads-same r.mount r.hops r.missing (leads more) f))

  same-named : s'.full ≡ false → (more : List ℕ) → named_in r row (sector ++ more) ≡ named_in (with_parts r s' body') row' more
  same-named f more =
      let j : take r.body.area_left (sector ++ more) ≡ take (n - 0) sector ++ take (r.body.area_left - 2048) more = parts-of r.body.area_left 2048 sector more l ∙ ap (λ x. x ++ take (r.body.area_left - 2048) more) (sym took) in
      rw j (ap length (alike_same (p.behind (take (r.body.area_left - 2048) more)).extents f))

  part-full : s'.full ≡ (r.scan.full || ltb (length row) (named_in r row sector))
  part-full = rw took at (scans-full r.kind row r.scan (take (n - 0) sector) row' s' p)

  part_same : (room : ℕ) → settled_in false (length row) room (part_behind r row sector) ≡ settled_in false (length row) room (crowded_by s'.full (in_body (with_parts r s' b') row' r.left (r.at + 1)))
  unfolding part_behind in_body
  part_same room =
      rw e
      (named-same (length row) room (named_in r row sector) (λ more. named_in r row (sector ++ more)) (named_in (with_parts r s' body') row') (sectors r.left (r.at + 1))
      (λ more. behind_bytes r row (sector ++ more)) (behind_bytes (with_parts r s' body') row') r.scan.full s'.full part-full same-crowded same-named same_bytes)

  pub part-lands : (y x : Reading) → y ≡ with_parts r s' b' → ReadingStands row' (crowded_by y.scan.full (in_body y row' y.left (y.at + 1))) y x → Lands row (part_behind r row sector) r row' x
  part-lands y x f g =
      let w = rw f at g in
      let h = (p.behind []).long in
      record {
        long = h;
        left = λ room. part_same room ∙ rw h at (w.left room);
        answer = w.answer;
        count = w.count;
        filled = w.length;
        inside = λ i v. rw (w.listed v, h) ((p.behind []).inside i);
      }
