-- What is promised of the reader that is fed, on every disc: RULES 14. Assumes nothing.
use Rattle.std.specs.Prelude.{Option, Some, None}
use mathlib.Core.Path.{◌≡◌, refl, ap, sym, ◌∙◌}
use mathlib.Core.Bool.{Bool, true, false}
use mathlib.Core.List.{List, [], ◌∷◌, ◌++◌}
use Prim.Native.Nat.{ℕ, zero, suc, ◌+◌, ◌-◌, ◌<◌, ◌≤◌}
use native.Mathlib.Nat.{zero-add}
use native.Mathlib.Omega.{arith}
use lib.ListN.{length, take}
use lib.Dec.{eqb, leb}
use borrow.Author.Tests.{le-ltb}
use Rattle.disc.specs.Choice.{pick}
use Rattle.disc.specs.Counts.{reported}
use Rattle.disc.specs.Refusals.{refusal_of}
use Rattle.disc.specs.Ask.{Disc, Held, Ask, given, outcome, asked, Agree}
use Rattle.disc.specs.Ask.Held.{holds, lacks}
use Rattle.disc.specs.Ask.Ask.{done, refuse, ask}
use Rattle.disc.specs.Ask.Outcome.{refused}
use Rattle.disc.specs.Places.{placed}
use Rattle.disc.specs.declared.places.Mount.{Mount}
use Rattle.disc.specs.declared.refusals.Refusal.TheVariants.{Io}
use Rattle.disc.proofs.PickLaws.{pick-both, not-both}
use Rattle.disc.proofs.AskLaws.{same_asked, given-asked, given-outcome}
use Rattle.disc.proofs.RanLaws.{same-ran}
use Rattle.records.specs.declared.allocations.LongAd.{LongAd}
use Rattle.areas.specs.declared.AllocExtent.{AllocExtent}
use Rattle.areas.specs.declared.AdEnding.{AdEnding}
use Rattle.areas.specs.declared.AdEnding.TheVariants.{End, Continuation, Refused}
use Rattle.chains.specs.Chains.{next_area}
use Rattle.files.specs.Files.{Located, entry_at, entry_mount, is_embedded, file_bytes}
use Rattle.volumes.specs.Openings.{usual, opening, opened_by, opened_of}
use Rattle.volumes.specs.declared.openings.VolumeRecord.{VolumeRecord}
use Rattle.volumes.specs.declared.openings.Opened.{Opened}
use Rattle.disc.specs.Marks.{Front}
use Rattle.disc.specs.Ran.{ran}
use Rattle.drives.specs.Feeds.{Feed, lent, branch, following, naming, Grown, within, end_of, wanted, arrived, held_most, short_of}
use Rattle.drives.specs.Feeds.Feed.{over, stop, name, hold, put, want}
use Rattle.drives.specs.Feeds.Short.{enough}
use Rattle.drives.specs.FileFeeds.{extent_feed, standing, extents_feed, named_by, chain_feed, entry_feed, file_feed}
use Rattle.drives.specs.Openings.{is_wanting, wanted_sector, tree_of, behind_wanted, said_of, OpeningStands}
use Rattle.drives.specs.declared.openings.Opening.{Opening}
use Rattle.drives.proofs.OpeningLaws.{tree-asks, ended-tree}
use Rattle.drives.proofs.FeedLaws.{file-collected}
use Rattle.drives.proofs.LimitLaws.{collected-outcome, collected-asked, within-front, never-short, Full, within-full, HoldsFirst, Crowded, within-crowded}
use Rattle.drives.specs.Told.{outcome_by, OpeningCame, Opens, OpensAlike}
use Rattle.drives.specs.Walks.{OpeningWalk}
use Rattle.drives.specs.Walks.OpeningWalk.{ends, steps}

-- ---- the opening, over a disc

said-count : (n : ℕ) (t : Ask VolumeRecord) → (said_of n t).count ≡ n
said-count n (done v) = refl
said-count n (refuse r) = refl
said-count n (ask s k) = refl

came-ended : (d : Disc) (m : ℕ) (o : Opening) → is_wanting o ≡ false → (t : Ask VolumeRecord) → OpeningStands t (reported m) o → OpeningCame d t [] m o
unfolding asked outcome
came-ended d m o e (done v) p = record { list = refl; says = let z : m + 0 ≡ m = omega arith in rw z p.says }
came-ended d m o e (refuse r) p = record { list = refl; says = let z : m + 0 ≡ m = omega arith in rw z p.says }
came-ended d m o e (ask s k) p = absurd (never (eqb o.opened.answer 0) (sym (ended-tree o e) ∙ p.tree))
  where
    never : (b : Bool) → pick b (done o.opened.volume) (refuse (refusal_of o.opened.answer)) ≡ ask s k → ⊥
    never true q = let z : ◌≡◌ {A = ℕ} 0 1 = cc in omega arith
    never false q = let z : ◌≡◌ {A = ℕ} 0 1 = cc in omega arith

came-step : (d : Disc) (m : ℕ) (o r q : Opening) (ns s : List ℕ) (t : Ask VolumeRecord) → is_wanting o ≡ true → lent s ≡ d (wanted_sector o) → OpeningStands t (reported m) o
    → OpeningCame d (branch (lent s) (tree_of o)) ns (m + 1) q → OpeningCame d t (wanted_sector o ∷ ns) m q
unfolding asked outcome branch
came-step d m o r q ns s t w h p c =
    let e = tree-asks o w in
    let u : branch (lent s) (tree_of o) ≡ given (d (wanted_sector o)) (behind_wanted o) (refuse Io) = rw (e, h) in
    let x = rw u at c in
    let y : t ≡ ask (wanted_sector o) (behind_wanted o) = sym p.tree ∙ e in
    rw y (record {
      list = ap (λ l. wanted_sector o ∷ l) (x.list ∙ given-asked d (d (wanted_sector o)) (behind_wanted o));
      says = x.says ∙ ap (opened_by (reported (m + 1 + length ns))) (given-outcome d (d (wanted_sector o)) (behind_wanted o)) ∙ counted;
    })
  where
    counted : opened_by (reported (m + 1 + length ns)) (given (d (wanted_sector o)) (λ b. outcome d (behind_wanted o b)) (refused Io)) ≡ opened_by (reported (m + suc (length ns))) (given (d (wanted_sector o)) (λ b. outcome d (behind_wanted o b)) (refused Io))
    counted = let z : m + 1 + length ns ≡ m + suc (length ns) = omega arith in rw z

next-count : (n m : ℕ) → n ≡ reported m → reported (n + 1) ≡ reported (m + 1)
next-count n m e = omega arith

-- walked to its end over a disc, the opening has wanted the sectors of its list in order, and says the answer, the count and the volume of the call
pub walk-comes : {d : Disc} {ns : List ℕ} {o q : Opening} → OpeningWalk d ns o q → (m : ℕ) (t : Ask VolumeRecord) → OpeningStands t (reported m) o → OpeningCame d t ns m q
walk-comes {d} (ends {o} e) m t p = came-ended d m o e t p
walk-comes {d} (steps {o} {r} {q} {ns} s w h f rest) m t p =
    let c : o.opened.count ≡ reported m = ap (λ (x : Opened). x.count) p.says ∙ said-count (reported m) t in
    let z : reported (o.opened.count + 1) ≡ reported (m + 1) = next-count o.opened.count m c in
    came-step d m o r q ns s t w h p (walk-comes rest (m + 1) (branch (lent s) (tree_of o)) (rw z at (f.takes w)))

pub opening-comes : {d : Disc} {ns : List ℕ} {o q : Opening} → OpeningStands (opening usual) 0 o → OpeningWalk d ns o q → Opens d ns q
unfolding ran
opening-comes {d} p w =
    let c = walk-comes w 0 (opening usual) p in
    record { list = c.list; says = c.says ∙ ap (λ x. opened_by (reported x) (outcome d (opening usual))) (zero-add _ ∙ ap length c.list) }

pub openings-alike : {d e : Disc} {ns ns' : List ℕ} {o q q' : Opening} → OpeningStands (opening usual) 0 o → OpeningWalk d ns o q → OpeningWalk e ns' o q' → Agree d e ns → OpensAlike ns ns' q q'
openings-alike {d} {e} p v w a =
    let c = opening-comes p v in
    let g = opening-comes p w in
    let h = rw c.list at a in
    record {
      list = c.list ∙ same_asked (opening usual) d e h ∙ sym g.list;
      says = c.says ∙ ap opened_of (same-ran (opening usual) d e h) ∙ sym g.says;
    }

-- ---- a file's read, over a disc

-- without limits it wants the very sectors of the read, ends as the read does, and what arrives is what the read answers
module _ (d : Disc) (m : Mount) (icb : LongAd) where
  pub feed-asked : wanted d (file_feed m icb) ≡ asked d (file_bytes m icb)
  feed-asked = sym (collected-asked d [] (file_feed m icb)) ∙ ap (asked d) (file-collected m icb)

  pub feed-outcome : outcome_by (end_of d (file_feed m icb)) (arrived d (file_feed m icb)) ≡ outcome d (file_bytes m icb)
  feed-outcome = sym (collected-outcome d [] (file_feed m icb)) ∙ ap (outcome d) (file-collected m icb)

-- extents are held before any byte arrives
following-first : {A : Type 0} (t : Ask A) (f : A → Feed) → ((a : A) → HoldsFirst (f a)) → HoldsFirst (following t f)
unfolding HoldsFirst following
following-first (done a) f h = h a
following-first (refuse r) f h = tt
following-first (ask s k) f h = λ b. following-first (k b) f h

naming-first : {A : Type 0} (named : List ℕ → ℕ) (t : Ask A) (f : A → Feed) → ((a : A) → HoldsFirst (f a)) → HoldsFirst (naming named t f)
unfolding HoldsFirst naming
naming-first named (done a) f h = h a
naming-first named (refuse r) f h = tt
naming-first named (ask s k) f h = λ b. naming-first (λ more. named (b ++ more)) (k b) f h

-- what holds no extent
unfoldable pub Free : Feed → Type 0
Free over = Unit {0}
Free (stop r) = Unit {0}
Free (name n f) = ⊥
Free (hold n f) = ⊥
Free (put b f) = Free f
Free (want s k) = (b : List ℕ) → Free (k b)

pub free-none : (f : Feed) → Free f → (d : Disc) (named : ℕ) → held_most named d f ≡ 0
unfolding Free held_most
free-none over h d named = refl
free-none (stop r) h d named = refl
free-none (name n f) h d named = absurd h
free-none (hold n f) h d named = absurd h
free-none (put b f) h d named = free-none f h d named
free-none (want s k) h d named = by (d s) (λ b. free-none (k b) (h b) d named)
  where
    by : (x : Held) → ((b : List ℕ) → held_most named d (k b) ≡ 0) → given x (λ b. held_most named d (k b)) 0 ≡ 0
    by (holds b) ih = ih b
    by lacks ih = refl

free-first : (f : Feed) → Free f → HoldsFirst f
unfolding Free HoldsFirst
free-first over h = tt
free-first (stop r) h = tt
free-first (name n f) h = absurd h
free-first (hold n f) h = absurd h
free-first (put b f) h = λ d named. free-none f h d named
free-first (want s k) h = λ b. free-first (k b) (h b)

extent-free : (n at size missing : ℕ) (f : ℕ → Feed) → ((w : ℕ) → Free (f w)) → Free (extent_feed n at size missing f)
unfolding Free extent_feed
extent-free zero at size missing f h = h missing
extent-free (suc n) at size missing f h = λ b. pick-both Free (leb missing (length (take size b))) tt (extent-free n (at + 1) (size - 2048) (missing - length (take size b)) f h)

pub extents-free : (m : Mount) (es : List AllocExtent) (missing : ℕ) → Free (extents_feed m es missing)
unfolding Free extents_feed
extents-free m [] missing = tt
extents-free m (e ∷ es) missing = pick-both Free (eqb e.extent_type 0) (by (placed m e.partition_ref e.block.0) (λ w. extents-free m es w)) tt
  where
    by : (o : Option ℕ) → ((w : ℕ) → Free (extents_feed m es w))
        → Free (standing o (λ at. extent_feed (Rattle.disc.specs.Images.sectors_for e.length) at e.length missing (λ left. pick (leb left 0) over (extents_feed m es left))))
    by None ih = tt
    by (Some at) ih = extent-free (Rattle.disc.specs.Images.sectors_for e.length) at e.length missing _ (λ w. pick-both Free (leb w 0) tt (ih w))

chain_first : (m : Mount) (kind n missing : ℕ) (es : List AllocExtent) (how : AdEnding) → HoldsFirst (chain_feed m kind n missing es how)
unfolding HoldsFirst chain_feed
chain_first m kind zero missing es (Refused r) = tt
chain_first m kind zero missing es End = free-first (extents_feed m es missing) (extents-free m es missing)
chain_first m kind zero missing es (Continuation a) = tt
chain_first m kind (suc n) missing es (Refused r) = tt
chain_first m kind (suc n) missing es End = free-first (extents_feed m es missing) (extents-free m es missing)
chain_first m kind (suc n) missing es (Continuation a) = naming-first (named_by kind a.length es) (next_area m kind a) _ (λ x. chain_first m kind n missing (es ++ x.extents) x.ending)

entry_first : (m : Mount) (x : Located) → HoldsFirst (entry_feed m x)
unfolding HoldsFirst entry_feed held_most
entry_first m x = pick-both HoldsFirst (is_embedded x) (λ d named. refl) (chain_first m _ _ _ _ _)

pub file-first : (m : Mount) (icb : LongAd) → HoldsFirst (file_feed m icb)
unfolding file_feed
file-first m icb = following-first (entry_at m icb) (entry_feed (entry_mount m icb)) (entry_first (entry_mount m icb))

module _ (d : Disc) (m : Mount) (icb : LongAd) (slots room : ℕ) where
  -- within lent memory, however it grows: the sectors wanted are always a front of the read's list
  pub read-front : (gs : List Grown) → Front (wanted d (within false slots room gs (file_feed m icb))) (asked d (file_bytes m icb))
  read-front gs = rw feed-asked at (within-front d false slots room gs (file_feed m icb))

  -- with as many slots and as much room as the whole read takes it falls short of nothing
  pub read-enough : (gs : List Grown) → held_most 0 d (file_feed m icb) ≤ slots → length (arrived d (file_feed m icb)) ≤ room → short_of d false slots room gs (file_feed m icb) ≡ enough
  read-enough gs h l = never-short d 0 slots false slots room gs (file_feed m icb) (omega arith) (λ e. not-both e) h l

  -- in memory that stays: 5 exactly where more bytes arrive than there is room for, and it has slots enough; 7 exactly where it hasn't
  pub read-full : held_most 0 d (file_feed m icb) ≤ slots → room < length (arrived d (file_feed m icb)) → Full d room (file_feed m icb) (within false slots room [] (file_feed m icb))
  read-full h l = within-full d 0 false slots room (file_feed m icb) (λ e. not-both e) h l

  pub read-crowded : slots < held_most 0 d (file_feed m icb) → Crowded d (within false slots room [] (file_feed m icb))
  read-crowded l = within-crowded d 0 false slots room (file_feed m icb) (sym (le-ltb slots 0 (omega arith))) (file-first m icb) l
