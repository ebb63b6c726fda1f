-- Laws of bytes that reach the output as their sector arrives. Assumes nothing.
use mathlib.Core.Path.{◌≡◌, refl, ap, sym, ◌∙◌}
use mathlib.Core.Bool.{Bool, true, false}
use mathlib.Core.List.{List, [], ◌++◌, append-nil}
use Prim.Native.Nat.{ℕ, zero, suc, ◌+◌, ◌-◌, ◌<◌, ◌≤◌, min}
use native.Mathlib.Nat.{add-zero}
use native.Mathlib.Omega.{arith}
use lib.ListN.{length, take, drop, length-take, length-drop, take-append-drop, drop_of_length-le}
use borrow.Rule.Slice.PartMut.{mid_of, put_mid}
use lib.Seq.{take_all, take-take, drop-drop, length-take-le}
use lib.Dec.{eqb, leb}
use borrow.Author.Tests.{lt-leb, le-leb, leb-true, leb-false}
use Rattle.disc.specs.Choice.{pick}
use Rattle.disc.proofs.PickLaws.{pick-both}
use Rattle.disc.specs.Moves.{over as over_front}
use Rattle.disc.specs.Ask.{then}
use Rattle.disc.specs.Images.{sectors}
use Rattle.disc.specs.declared.refusals.Refusal.TheVariants.{NoRoom}
use Rattle.drives.specs.Feeds.{Feed, following, naming, settled_in}
use Rattle.drives.specs.Feeds.Feed.{over}
use Rattle.drives.specs.FileFeeds.{extent_feed, extents_feed}
use Rattle.drives.specs.Openings.{most_sectors}
use Rattle.drives.specs.Readings.{extents_in, behind_extent, feed_of, put_at}
use Rattle.drives.specs.Inner.Turns.{Ends, ReadingStands, extents_behind}
use Rattle.drives.specs.Inner.Bodies.{Lands}
use Rattle.drives.specs.Inner.Arrivals.{bytes_behind, extent_behind, Arrives, filled_by, Nexts}
use Rattle.drives.specs.declared.readings.Reading.{Reading}
use Rattle.drives.proofs.BodyLaws.{take-least}
use Rattle.drives.proofs.SettleLaws.{IsWant, crowded-wants}
use Rattle.drives.proofs.TurnLaws.{stands-done, one_less, in_extent, extent-stands, ends-left, ends-not, end-stop}

-- ---- a state that wants a sector

pub feed-wants : (r : Reading) (row : List (List ℕ)) → IsWant (feed_of r row)
unfolding IsWant feed_of following naming sectors then extent_feed
feed-wants r row =
    pick-both IsWant (eqb r.phase 0) tt
    (pick-both IsWant (eqb r.phase 1) tt
    (pick-both IsWant (eqb r.phase 2) (crowded-wants r.scan.full _ tt) tt))

-- nothing arrives
pub put-nothing : (filled : ℕ) (out : List ℕ) → out ≡ put_at filled [] out
put-nothing filled out = let z : filled + 0 ≡ filled = omega arith in rw z (sym (take-append-drop filled out))

pub lands-arrives : (row : List (List ℕ)) (f : Feed) (r : Reading) (row' : List (List ℕ)) (x : Reading) (out : List ℕ) → Lands row f r row' x → Arrives f r out row row' x out
lands-arrives row f r row' x out p = record {
  goes = rw (p.left (length out - r.length)) (record {
    left = refl;
    answer = p.answer;
    count = p.count;
    filled = p.filled ∙ sym (add-zero r.length);
    output = put-nothing r.length out;
  });
  inside = p.inside;
}

pub stands-arrives : (row : List (List ℕ)) (f : Feed) (r x : Reading) (out : List ℕ) → ReadingStands row f r x → Arrives f r out row row x out
stands-arrives row f r x out p =
    lands-arrives row f r row x out
    (record { long = refl; left = p.left; answer = p.answer; count = p.count; filled = p.length; inside = λ h w. rw (p.listed w) h })

-- ---- bytes into the output

pub put-none : (bytes out : List ℕ) (filled : ℕ) → length out ≤ filled → out ≡ put_at filled (take (length out - filled) bytes) out
put-none bytes out filled h = let z : length out - filled ≡ 0 = omega arith in rw z (put-nothing filled out)

pub put_some : (bytes out : List ℕ) (filled : ℕ) (ys : List ℕ) → filled < length out → ys ≡ over_front bytes (mid_of filled (length out - filled) out)
    → put_mid filled (length out - filled) out ys ≡ put_at filled (take (length out - filled) bytes) out
put_some bytes out filled ys h e =
    let l : length (drop filled out) ≡ length out - filled = length-drop filled out in
    rw (e, take_all (length out - filled) (drop filled out) (omega arith), drop_of_length-le (drop filled out) {i = length out - filled} (omega arith), l, drop-drop, append-nil) (rest (leb (length bytes) (length out - filled)) refl)
  where
    rest : (t : Bool) → leb (length bytes) (length out - filled) ≡ t
        → take filled out ++ (take (length out - filled) bytes ++ drop (filled + length bytes) out)
        ≡ take filled out ++ (take (length out - filled) bytes ++ drop (filled + length (take (length out - filled) bytes)) out)
    rest true q =
        let g = leb-true (length bytes) (length out - filled) q in
        rw (take_all (length out - filled) bytes g)
    rest false q =
        let g = leb-false (length bytes) (length out - filled) q in
        let k = length-take-le (length out - filled) bytes (omega arith) in
        rw (drop_of_length-le out {i = filled + length bytes} (omega arith), drop_of_length-le out {i = filled + length (take (length out - filled) bytes)} (omega arith))

-- ---- behind the bytes of a sector

here-long : (size here : ℕ) (b : List ℕ) → here ≡ min size 2048 → length b ≡ 2048 → length (take size b) ≡ here
here-long size here b e l = length-take size b ∙ rw l (sym e)

module _ (r : Reading) (row : List (List ℕ)) (here : ℕ) (e : here ≡ min r.size 2048) (x : Reading) (f : x ≡ filled_by r (min r.missing here)) (y : Reading) where
  pub next-done : r.missing ≤ here → Ends x 0 y → Nexts r row here x y
  unfolding bytes_behind settled_in
  next-done h p = record { stands = λ b l. stands-done row (bytes_behind r row b) x y p (λ room. rw (here-long r.size here b e l, le-leb r.missing here h)) }

  module _ (h : here < r.missing) where
    few : min r.missing here ≡ here
    few = omega arith

    state : x ≡ filled_by r here
    state = rw few at f

    pub next-extent : r.left ≡ 0 → ReadingStands row (extents_feed x.mount (drop r.next (extents_in row x.scan.listed)) x.missing) x y → Nexts r row here x y
    unfolding bytes_behind extent_feed
    next-extent z p = record {
      stands = λ b l.
          let g : bytes_behind r row b ≡ extents_feed r.mount (drop r.next (extents_in row r.scan.listed)) (r.missing - here) = same b l in
          rw g (rest p);
    }
      where
        same : (b : List ℕ) → length b ≡ 2048 → bytes_behind r row b ≡ extents_feed r.mount (drop r.next (extents_in row r.scan.listed)) (r.missing - here)
        same b l = last r.left r.missing (length (take r.size b)) z (here-long r.size here b e l) h
          where
            last : (n m k : ℕ) → n ≡ 0 → k ≡ here → here < m
                → pick (leb m k) over (extent_feed n (r.at + 1) (r.size - 2048) (m - k) (behind_extent r row)) ≡ extents_feed r.mount (drop r.next (extents_in row r.scan.listed)) (m - here)
            last n m k u v g = rw (u, v, lt-leb m here g, lt-leb (m - here) 0 (omega arith))

        rest : ReadingStands row (extents_feed x.mount (drop r.next (extents_in row x.scan.listed)) x.missing) x y → ReadingStands row (extents_feed r.mount (drop r.next (extents_in row r.scan.listed)) (r.missing - here)) x y
        rest p =
            let g : extents_feed x.mount (drop r.next (extents_in row x.scan.listed)) x.missing ≡ extents_feed r.mount (drop r.next (extents_in row r.scan.listed)) (r.missing - here) = rw state in
            rw g at p

    pub next_more : (r.left ≡ 0 → ⊥) → r.at + r.left < most_sectors → y ≡ in_extent x (r.at + 1) (r.left - 1) (r.size - here) x.next → Nexts r row here x y
    unfolding bytes_behind
    next_more z k g = record {
      stands = λ b l.
          let m : bytes_behind r row b ≡ extent_feed (suc (r.left - 1)) (r.at + 1) (r.size - here) x.missing (extents_behind x row x.next) = more b l in
          rw (m, g) (extent-stands x (r.at + 1) (r.left - 1) (r.size - here) x.next (less r.at r.left k z) row);
    }
      where
        less : (a m : ℕ) → a + m < most_sectors → (m ≡ 0 → ⊥) → a + 1 + (m - 1) < most_sectors
        less a zero l z = absurd (z refl)
        less a (suc m) l z = omega arith

        more : (b : List ℕ) → length b ≡ 2048 → bytes_behind r row b ≡ extent_feed (suc (r.left - 1)) (r.at + 1) (r.size - here) x.missing (extents_behind x row x.next)
        more b l =
            let s : r.size - here ≡ r.size - 2048 = omega arith in
            rw (state, one_less r.left z, s, here-long r.size here b e l, lt-leb r.missing here h)

-- ---- a sector of an extent

take_min : (m s : ℕ) (b : List ℕ) → take m (take s b) ≡ take (min m s) b
take_min m s b = by (leb m s) refl
  where
    by : (t : Bool) → leb m s ≡ t → take m (take s b) ≡ take (min m s) b
    by true e = let h = leb-true m s e in let z : min m s ≡ m = omega arith in rw z (take-take m s b h)
    by false e =
        let h = leb-false m s e in
        let z : min m s ≡ s = omega arith in
        let k = length-take s b in
        rw z (take_all m (take s b) (omega arith))

pub extent-fits : (missing here n k z : ℕ) (s : List ℕ) → n ≡ min missing here → k ≡ min (length (take (n - 0) s)) z → k ≤ missing
extent-fits missing here n k z s q u = let j = length-take (n - 0) s in omega arith

pub extent-state : (r : Reading) (here n k z : ℕ) (s : List ℕ) (x : Reading) → length s ≡ 2048 → here ≡ min r.size 2048 → n ≡ min r.missing here → k ≡ min (length (take (n - 0) s)) z → n ≤ k
    → x ≡ filled_by r k → x ≡ filled_by r (min r.missing here)
extent-state r here n k z s x l e q u h f = let j = length-take (n - 0) s in let y : k ≡ min r.missing here = omega arith in rw y at f

module _ (r : Reading) (row : List (List ℕ)) (sector out : List ℕ) (l : length sector ≡ 2048) {here n k : ℕ} (e : here ≡ min r.size 2048) (q : n ≡ min r.missing here)
    (u : k ≡ min (length (take (n - 0) sector)) (length out - r.length)) where
  abbrev part : List ℕ
  part = take (n - 0) sector

  part-is : take r.missing (take r.size sector) ≡ part
  part-is =
      let z : min (min r.missing r.size) 2048 - 0 ≡ n - 0 = omega arith in
      take_min r.missing r.size sector ∙ sym (take-least (min r.missing r.size) sector l) ∙ rw z

  part-long : length part ≡ n
  part-long = length-take (n - 0) sector ∙ rw l (omega arith)

  module _ (x y : Reading) (f : x ≡ filled_by r k) (out' : List ℕ) (o : out' ≡ put_at r.length (take (length out - r.length) (take (n - 0) sector)) out) where
    pub extent-full : k < n → Ends x 5 y → Arrives (extent_behind r row sector) r out row row y out'
    unfolding extent_behind settled_in
    extent-full h p =
        let j = part-long in
        record {
          goes = rw (part-is, lt-leb (length part) (length out - r.length) (omega arith)) (record {
            left = ends-left x y 5 p row ∙ end-stop NoRoom;
            answer = p.answer;
            count = p.count ∙ rw f;
            filled = p.length ∙ rw f size;
            output = o;
          });
          inside = λ i w. ends-not p w;
        }
      where
        size : r.length + k ≡ r.length + length (take (length out - r.length) part)
        size = let j = part-long in ap (λ a. r.length + a) (sym (length-take (length out - r.length) part ∙ least j))
          where
            least : length part ≡ n → min (length out - r.length) (length part) ≡ k
            least j = omega arith

    pub extent-arrives : n ≤ k → Nexts r row here x y → Arrives (extent_behind r row sector) r out row row y out'
    unfolding extent_behind settled_in
    extent-arrives h p =
        let j = part-long in
        let s = p.stands sector l in
        let t = s.left (length out - r.length - length part) in
        record {
          goes = rw (part-is, le-leb (length part) (length out - r.length) (omega arith), t, append-nil part) (record {
            left = refl;
            answer = s.answer;
            count = s.count ∙ rw f;
            filled = s.length ∙ rw f (ap (λ a. r.length + a) (all j));
            output = o ∙ rw (take_all (length out - r.length) part (omega arith));
          });
          inside = λ i w. rw (s.listed w, f) i;
        }
      where
        all : length part ≡ n → k ≡ length part
        all j = omega arith
