-- The first pass's loop over a directory's entries: whatever visits the rest from here visits the whole from the start. Assumes nothing.
use mathlib.Core.Path.{◌≡◌, refl, sym, ap, ◌∙◌}
use mathlib.Core.Bool.{false}
use mathlib.Core.List.{List, [], ◌∷◌}
use Prim.Native.Nat.{ℕ, suc, ◌+◌, ◌-◌, ◌*◌, ◌≤◌, ◌<◌, ◌^◌}
use native.Mathlib.Omega.{arith}
use lib.ListN.{length, take, drop, length-take, length-append}
use lib.Seq.{length-take-le}
use mir.Syntax.{w64}
use mir.Val.{Fits}
use Rattle.disc.specs.Refusals.{number}
use Rattle.disc.specs.Counts.{reported}
use Rattle.disc.specs.Places.{is_checked}
use Rattle.disc.specs.Ask.{Disc, Ask}
use Rattle.disc.specs.Ask.Outcome.{answered}
use Rattle.disc.specs.Ran.{Ran, ran}
use Rattle.disc.specs.declared.places.Mount.{Mount}
use Rattle.disc.specs.declared.refusals.Refusal.TheVariants.{TooDeep}
use Rattle.disc.proofs.RanLaws.{ran-done, ran-refuse}
use Rattle.records.specs.declared.allocations.LongAd.{LongAd}
use Rattle.listings.specs.Entries.{Entry, entries}
use Rattle.listings.specs.Listings.{entry_record, records}
use Rattle.listings.proofs.GuardLaws.{entries-unchecked}
use Rattle.listings.proofs.WalkLaws.{at-end}
use Rattle.shows.specs.Shows.{Node, nodes_of, nodes_at}
use Rattle.shows.specs.Inner.Turns.{stopped_at, Held, Visited, opening, Opens, turn_of, Handles}
use Rattle.shows.specs.Inner.Placings.{node_placed}
use Rattle.shows.specs.declared.levels.ShowPlace.{ShowPlace}
use Rattle.shows.specs.declared.levels.OpenedLevel.{OpenedLevel}
use Rattle.shows.specs.declared.levels.EntryTurn.{EntryTurn}
use Rattle.shows.proofs.TurnLaws.{level-opening}
use Rattle.shows.proofs.VisitedLaws.{joined, turn-joined, visited-none, visited-refused, visited-after, capped-within, joined-stops, joined-goes}

-- a place by its own number of sectors
pub held-own : {most : ℕ} {p : ShowPlace} → Held most p → Held p.most p
held-own h = rw (sym h.lends) at h

-- what a node adds, said in another way
visited-by : {of of' : Node → List ℕ → List ℕ} → of ≡ of' → {known : ℕ} {r : Ran (List Node)} {p : ShowPlace} {l : List ℕ} {q : ShowPlace} {l' : List ℕ} → Visited of known r p l q l' → Visited of' known r p l q l'
visited-by e s = rw e at s

-- ---- the loop has come to `at`

-- some entries were visited, whatever their level: what a listing has of their records was counted before
abbrev EntriesVisited : Disc → (Node → List ℕ → List ℕ) → (ℕ → LongAd → Ask (List Node)) → List Entry → ShowPlace → List ℕ → ShowPlace → List ℕ → Type 0
EntriesVisited d of inside es p l q l' = (level : ℕ) → Visited of (length (records es)) (ran d (nodes_of (inside level) level es)) p l q l'

-- the entries that are left of those that were parsed
pub record Going (d : Disc) (of : Node → List ℕ → List ℕ) (inside : ℕ → LongAd → Ask (List Node)) (raw : List ℕ) (p₀ : ShowPlace) (l₀ : List ℕ) (es : List Entry) (p : ShowPlace) (l : List ℕ) (at : ℕ) : Type 0 where
  pub left : List Entry
  pub are : entries false (drop at raw) ≡ answered left
  pub leads : (q : ShowPlace) (l' : List ℕ) → EntriesVisited d of inside left p l q l' → EntriesVisited d of inside es p₀ l₀ q l'

pub record Listing (d : Disc) (of : Node → List ℕ → List ℕ) (inside : ℕ → LongAd → Ask (List Node)) (raw : List ℕ) (p₀ : ShowPlace) (l₀ : List ℕ) (p : ShowPlace) (l : List ℕ) (at : ℕ) : Type 0 where
  pub held : Held p₀.most p
  pub within : at ≤ length raw + 3
  pub goes : (es : List Entry) → entries false raw ≡ answered es → Going d of inside raw p₀ l₀ es p l at

-- all entries were visited: what the loop's returns say
abbrev pub AllVisited : Disc → (Node → List ℕ → List ℕ) → (ℕ → LongAd → Ask (List Node)) → List ℕ → ShowPlace → List ℕ → ShowPlace → List ℕ → Type 0
AllVisited d of inside raw p₀ l₀ q l' = (es : List Entry) → entries false raw ≡ answered es → EntriesVisited d of inside es p₀ l₀ q l'

-- what stands under an entry of a level
abbrev pub beneath : Mount → ℕ → ℕ → ℕ → LongAd → Ask (List Node)
beneath m below w level = nodes_at m below (suc level) w

pub list-starts : (d : Disc) (of : Node → List ℕ → List ℕ) (inside : ℕ → LongAd → Ask (List Node)) (raw : List ℕ) (p : ShowPlace) (l : List ℕ) → Held p.most p → Listing d of inside raw p l p l 0
list-starts d of inside raw p l h = record { held = h; within = omega arith; goes = λ es are. record { left = es; are = are; leads = λ q l' s. s } }

module _ (d : Disc) (m : Mount) (below : ℕ) (raw : List ℕ) (w : ℕ) (p₀ : ShowPlace) (l₀ : List ℕ) {p : ShowPlace} {l : List ℕ} {at : ℕ}
    (i : Listing d (node_placed d m p₀.most) (beneath m below w) raw p₀ l₀ p l at) where
  pub list-ends : length raw < at + 38 → AllVisited d (node_placed d m p₀.most) (beneath m below w) raw p₀ l₀ p l
  unfolding nodes_of records
  list-ends h es s =
      let g = i.goes es s in
      let e : answered [] ≡ answered g.left = sym (at-end false raw at h) ∙ g.are in
      let z : g.left ≡ [] = cc in
      g.leads p l (rw z (λ level. visited-none i.held refl (ran-done d []) l))

  module _ {t : EntryTurn} {l' : List ℕ} (h : Handles d m below raw w at p l t l') where
    -- as many sectors may be asked for as at the start
    alike : {known : ℕ} {r : Ran (List Node)} → Visited (node_placed d m p.most) known r p l t.place l' → Visited (node_placed d m p₀.most) known r p l t.place l'
    alike s = visited-by (ap (node_placed d m) i.held.lends) s

    -- the first and the others, by what was counted of each
    several : (x : Entry) (xs : List Entry) (level : ℕ) {q : ShowPlace} {o : List ℕ}
        → Visited (node_placed d m p₀.most) (length (entry_record x) + length (records xs)) (joined (ran d (turn_of (beneath m below w level) level x)) (ran d (nodes_of (beneath m below w level) level xs))) p l q o
        → Visited (node_placed d m p₀.most) (length (records (x ∷ xs))) (ran d (nodes_of (beneath m below w level) level (x ∷ xs))) p l q o
    unfolding records
    several x xs level v = rw (length-append (entry_record x) (records xs), turn-joined d (beneath m below w level) level x xs) v

    pub list-next : t.place.answer ≡ 0 → Listing d (node_placed d m p₀.most) (beneath m below w) raw p₀ l₀ t.place l' t.next
    list-next z = record {
      held = rw i.held.lends at (h.held z);
      within = h.near;
      goes = λ es s.
          let g = i.goes es s in
          let k = h.good g.left g.are in
          record {
            left = k.turned.others;
            are = k.turned.are;
            leads = λ q o v. g.leads q o (rw k.turned.all (λ level. several k.turned.first k.turned.others level (joined-goes (alike (k.shows level)) (v level) z)));
          };
    }

    pub list-stops : (t.place.answer ≡ 0 → ⊥) → AllVisited d (node_placed d m p₀.most) (beneath m below w) raw p₀ l₀ t.place l'
    list-stops z es s =
        let g = i.goes es s in
        let k = h.good g.left g.are in
        g.leads t.place l' (rw k.turned.all (λ level.
        several k.turned.first k.turned.others level (joined-stops (alike (k.shows level)) (ran d (nodes_of (beneath m below w level) level k.turned.others)) z)))

-- ---- the returns of `visit_level`

-- no level left
pub level-none : {of : Node → List ℕ → List ℕ} (d : Disc) (m : Mount) (w : ℕ) (icb : LongAd) {left : ℕ} {p : ShowPlace} → Held p.most p → left ≡ 0 → {a : ℕ} → a ≡ number TooDeep → {q : ShowPlace} → q ≡ stopped_at a p.count
    → {l : List ℕ} (level : ℕ) → Visited of 0 (ran d (nodes_at m left level w icb)) p l q l
unfolding nodes_at
level-none d m w icb {p = p} h z k e level =
    let c : p.count ≡ reported (p.count + 0) = omega (arith, h.counted, h.bounded) in
    let w : reported (p.count + 0) ≤ p.most = omega (arith, h.counted) in
    rw z (visited-refused TooDeep 0 (ran-refuse d TooDeep) (e ∙ rw k (ap (stopped_at (number TooDeep)) c ∙ sym (capped-within p 0 (stopped_at (number TooDeep) (reported (p.count + 0))) w))))

module _ (d : Disc) (m : Mount) (icb : LongAd) {left : ℕ} (some : left ≡ 0 → ⊥) {p : ShowPlace} {work work₁ : List ℕ} {o : OpenedLevel} (a : Opens d m icb p work work₁ o) where
  -- what is done with a directory's bytes and entries
  abbrev does : ℕ → List ℕ → List Entry → Ask (List Node)
  does level b es = nodes_of (beneath m (left - 1) (length work - length b) level) level es

  level-is : (level : ℕ) → nodes_at m left level (length work) icb ≡ opening m (length work) icb (does level)
  level-is level = level-opening m icb level (length work) some

  -- the directory is refused
  pub level-refused : (o.place.answer ≡ 0 → ⊥) → {of : Node → List ℕ → List ℕ} {l : List ℕ} (level : ℕ) → Visited of 0 (ran d (nodes_at m left level (length work) icb)) p l o.place l
  level-refused n {of} {l} level = rw (level-is level) ((a.bad n).shows of (does level) l)

  module _ (z : o.place.answer ≡ 0) where
    pub level-fits : o.length ≤ length work₁
    level-fits = (a.good z).fits

    pub level-held : Held p.most p → Held o.place.most o.place
    level-held h = rw (a.good z).place (record { going = refl; lends = refl; counted = (a.good z).within; bounded = h.bounded; sized = omega arith })

    pub level-lends : o.place.most ≡ p.most
    level-lends = ap (λ (x : ShowPlace). x.most) (a.good z).place

    visited-so : length work₁ ≡ length work → {of : Node → List ℕ → List ℕ} {l : List ℕ} {q : ShowPlace} {l' : List ℕ}
        → AllVisited d of (beneath m (left - 1) (length work₁ - o.length)) (take o.length work₁) o.place l q l'
        → (level : ℕ) → Visited of 0 (ran d (nodes_at m left level (length work) icb)) p l q l'
    visited-so k s level =
        let x = a.good z in
        let n : length (take o.length work₁) ≡ o.length = length-take-le o.length work₁ x.fits in
        let e : length work₁ - o.length ≡ length work - length (take o.length work₁) = rw (k, n) in
        let v = rw e at (s x.es (entries-unchecked (is_checked m) (take o.length work₁) x.are) level) in
        rw (level-is level, x.goes (does level)) (visited-after x.n (length (records x.es)) x.place v)

    -- all its entries were visited
    pub level-visited : length work₁ ≡ length work → {l : List ℕ} {q : ShowPlace} {l' : List ℕ}
        → AllVisited d (node_placed d m o.place.most) (beneath m (left - 1) (length work₁ - o.length)) (take o.length work₁) o.place l q l'
        → (level : ℕ) → Visited (node_placed d m p.most) 0 (ran d (nodes_at m left level (length work) icb)) p l q l'
    level-visited k s level = visited-by (ap (node_placed d m) level-lends) (visited-so k s level)

-- ---- the loop's work space

-- a turn leaves the directory's bytes as they were, so each turn is over the same
pub handles-same : {d : Disc} {m : Mount} {below : ℕ} {raw raw₀ : List ℕ} {w w₀ at : ℕ} {p : ShowPlace} {l : List ℕ} {t : EntryTurn} {l' : List ℕ} → raw ≡ raw₀ → w ≡ w₀
    → Handles d m below raw w at p l t l' → Handles d m below raw₀ w₀ at p l t l'
handles-same e f h = rw (e, f) at h

-- no entry starts more than three bytes behind the directory's end
pub list-fits : {d : Disc} {of : Node → List ℕ → List ℕ} {inside : ℕ → LongAd → Ask (List Node)} (n : ℕ) (work : List ℕ) {p₀ : ShowPlace} {l₀ : List ℕ} {p : ShowPlace} {l : List ℕ} {at : ℕ}
    → Listing d of inside (take n work) p₀ l₀ p l at → n ≤ length work → (most : ℕ) → length work ≡ most → most * 1 < 2 ^ 63 → Fits w64 (at + 38)
list-fits n work i h most e k = omega (arith, i.within, length-take n work)

pub list_over : (n at : ℕ) (work : List ℕ) → n < at + 38 → length (take n work) < at + 38
list_over n at work h = omega (arith, length-take n work)
