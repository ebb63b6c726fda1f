-- Every opening and every read that is fed comes to an end, from whatever state and whatever slices are lent, and so there is a walk over every disc.
-- Assumes nothing.
use mathlib.Core.Path.{◌≡◌, refl, ap, sym, ◌∙◌}
use mathlib.Core.Bool.{Bool, true, false, ◌||◌}
use mathlib.Core.List.{List, [], ◌∷◌, ◌++◌, append-nil}
use mathlib.Core.Logic.{⊎_elim}
use Prim.Native.Nat.{ℕ, ◌+◌, ◌-◌, ◌*◌, ◌≤◌, ◌<◌}
use native.Mathlib.Omega.{arith}
use lib.ListN.{length, take, drop, length-drop}
use lib.Seq.{length-take-le}
use lib.Dec.{ltb, leb}
use borrow.Author.Tests.{eq-eqb}
use Rattle.disc.specs.Images.{disc}
use Rattle.disc.proofs.ImageLaws.{split, held, missing}
use Rattle.disc.specs.Ask.{Disc, Held, Ask, given}
use Rattle.disc.specs.Ask.Held.{holds, lacks}
use Rattle.disc.specs.Ask.Ask.{done, refuse, ask}
use Rattle.disc.specs.declared.refusals.Refusal.{Refusal}
use Rattle.disc.specs.declared.refusals.Refusal.TheVariants.{Io, NoRoom, NoSlot}
use Rattle.disc.proofs.PickLaws.{pick-both}
use Rattle.volumes.specs.declared.openings.VolumeRecord.{VolumeRecord}
use Rattle.drives.specs.Feeds.{Feed, lent, branch, crowded, Settled, settled_in, fed_by}
use Rattle.drives.specs.Feeds.Feed.{over, stop, name, hold, put, want}
use Rattle.drives.specs.Openings.{is_wanting as is_opening, wanted_sector as opening_sector, tree_of as opening_tree}
use Rattle.drives.specs.Readings.{feed_of, is_wanting, wanted_sector, left_of, Fed}
use Rattle.drives.specs.Steppers.{Lends, Step, Steps, OpeningSteps}
use Rattle.drives.specs.declared.openings.Opening.{Opening}
use Rattle.drives.specs.declared.readings.Reading.{Reading}
use Rattle.drives.proofs.OpeningLaws.{tree-asks}
use Rattle.drives.proofs.SettleLaws.{settled-lost, want-quiet}
use Rattle.drives.proofs.ArrivalLaws.{feed-wants}
use Rattle.drives.proofs.GrownLaws.{length-free, left_grown}
use Rattle.drives.proofs.WalkLaws.{WantsAt, left_at}
use Rattle.drives.proofs.Walks.{rest-is}
use Rattle.drives.specs.Walks.{with_length, Lengthens, Over, Walked, Opened, OpeningWalked}
use Rattle.drives.specs.Walks.OpeningWalk.{ends as opened, steps as opens}
use Rattle.drives.specs.Walks.Still.{ends, steps}
use Rattle.drives.specs.Walks.Lengthens.{same, inside}
use Rattle.drives.specs.Walks.Over.{now, later}
use Rattle.drives.specs.Walks.Opened.{now, later}

-- ---- a read

-- a feed of which every branch ends, as every feed does, in whatever slots and room
data Finite : Feed → Type 0 where
  done-feed : Finite over
  refused-feed : (why : Refusal) → Finite (stop why)
  branches : (s : ℕ) (k : List ℕ → Feed) → ((h : Held) (slots room : ℕ) → Finite (settled_in false slots room (given h k (stop Io))).rest) → Finite (want s k)

abbrev Ending : Feed → Type 0
Ending f = (lost : Bool) (slots room : ℕ) → Finite (settled_in lost slots room f).rest

held-ends : (k : List ℕ → Feed) → ((b : List ℕ) → Ending (k b)) → (h : Held) (slots room : ℕ) → Finite (settled_in false slots room (given h k (stop Io))).rest
unfolding settled_in
held-ends k ih (holds b) slots room = ih b false slots room
held-ends k ih lacks slots room = refused-feed Io

crowded-ends : (k : List ℕ → Feed) → ((b : List ℕ) → Ending (k b)) → (h : Held) (slots room : ℕ) → Finite (settled_in false slots room (given h (λ b. crowded (k b)) (stop Io))).rest
unfolding settled_in
crowded-ends k ih (holds b) slots room = rw settled-lost at (ih b true slots room)
crowded-ends k ih lacks slots room = refused-feed Io

finite : (f : Feed) → Ending f
unfolding settled_in crowded
finite over lost slots room = done-feed
finite (stop why) lost slots room = refused-feed why
finite (name n f) lost slots room = finite f (lost || ltb slots n) slots room
finite (hold n f) lost slots room = pick-both (λ (x : Settled). Finite x.rest) (lost || ltb slots n) (refused-feed NoSlot) (finite f false slots room)
finite (put b f) lost slots room = pick-both (λ (x : Settled). Finite x.rest) (leb (length b) room) (finite f lost slots (room - length b)) (refused-feed NoRoom)
finite (want s k) true slots room = branches s (λ b. crowded (k b)) (crowded-ends k (λ b. finite (k b)))
finite (want s k) false slots room = branches s k (held-ends k (λ b. finite (k b)))

not-wanting : (r : Reading) (row : List (List ℕ)) (f : Feed) → left_of r row ≡ f → ((s : ℕ) → WantsAt s f → ⊥) → Over r row
not-wanting r row f e h = by (is_wanting r) refl
  where
    by : (b : Bool) → is_wanting r ≡ b → Over r row
    by false w = now w
    by true w = absurd (h (wanted_sector r) (rw e at (left_at r row w)))

lengthened : (r : Reading) (n : ℕ) (row places : List (List ℕ)) → Lengthens r row places → left_of (with_length r n) (row ++ places) ≡ left_of r row
lengthened r n row places (same e) = length-free r n (row ++ places) ∙ rw (e, append-nil row)
lengthened r n row places (inside h) = length-free r n (row ++ places) ∙ left_grown r row places h

over_by : {f : Feed} → Finite f → (r : Reading) (row : List (List ℕ)) → left_of r row ≡ f → Over r row
unfolding WantsAt fed_by
over_by done-feed r row e = not-wanting r row over e (λ s h. h)
over_by (refused-feed why) r row e = not-wanting r row (stop why) e (λ s h. h)
over_by (branches s k h) r row e = by (is_wanting r) refl (λ b slots room x row₁ q. over_by (h (lent b) slots room) x row₁ q)
  where
    by : (t : Bool) → is_wanting r ≡ t
        → ((b : List ℕ) (slots room : ℕ) (x : Reading) (row₁ : List (List ℕ)) → left_of x row₁ ≡ (settled_in false slots room (given (lent b) k (stop Io))).rest → Over x row₁)
        → Over r row
    by false w ih = now w
    by true w ih = later w (λ places n b out x row₁ out₁ l f.
        ih b (length (row ++ places)) (length out - n) x row₁
        (rest-is (with_length r n) (row ++ places) out b x row₁ out₁ w f ∙ ap (λ t. (settled_in false (length (row ++ places)) (length out - n) (fed_by (lent b) t)).rest) (lengthened r n row places l ∙ e)))

-- from any state, one made by hand too
pub read-ends : (r : Reading) (row : List (List ℕ)) → Over r row
unfolding left_of
read-ends r row = by (is_wanting r) refl
  where
    by : (b : Bool) → is_wanting r ≡ b → Over r row
    by false w = now w
    by true w =
        let q : (settled_in false 0 0 (feed_of r row)).rest ≡ feed_of r row = ap (λ (x : Settled). x.rest) (want-quiet 0 0 (feed_of r row) (feed-wants r row)) in
        over_by (rw q at (finite (feed_of r row) false 0 0)) r row (rw w)

-- so there is a walk over every disc whose sectors can be lent, as those of an image can: a part of an image is a slice, and so is one without bytes
pub image-lends : (Slice : List ℕ → Type 0) (image : List ℕ) → ((a n : ℕ) → Slice (take n (drop a image))) → Slice [] → (n : ℕ) → Lends Slice (disc image) n
image-lends Slice image part none n = ⊎_elim
    (λ (h : 2048 * n + 2048 ≤ length image).
    let l : length (take 2048 (drop (2048 * n) image)) ≡ 2048 = length-take-le 2048 (drop (2048 * n) image) (rw length-drop (omega arith)) in
    record { slice = take 2048 (drop (2048 * n) image); typed = part (2048 * n) 2048; is = rw (eq-eqb (length (take 2048 (drop (2048 * n) image))) 2048 l) (sym (held image n h)) })
    (λ (h : length image < 2048 * n + 2048). record { slice = []; typed = none; is = sym (missing image n h) })
    (split (2048 * n + 2048) (length image))

-- a step in front of a walk, over any of both: their parts are never written out
walk-on : {d : Disc} {State : Reading → Type 0} {Row : List (List ℕ) → Type 0} {Slice : List ℕ → Type 0} {r : Reading} {s : List ℕ} {row : List (List ℕ)} {out : List ℕ} → is_wanting r ≡ true
    → lent s ≡ d (wanted_sector r) → (x : Step State Row Slice r s row out) → Walked d x.state x.places x.output → Walked d r row out
walk-on {r = r} {s = s} w l x y =
    record { wanted = wanted_sector r ∷ y.wanted; state = y.state; places = y.places; output = y.output; walk = steps s w l x.fed y.walk }

module _ (d : Disc) (State : Reading → Type 0) (Row : List (List ℕ) → Type 0) (Slice : List ℕ → Type 0) (lend : (n : ℕ) → Lends Slice d n) (step : Steps State Row Slice) where
  walk-by : {r : Reading} {row : List (List ℕ)} (out : List ℕ) → Over r row → State r → Row row → Slice out → Walked d r row out
  walk-by out (now w) p q o = record { wanted = []; state = _; places = _; output = _; walk = ends w }
  walk-by out (later {r} {row} w h) p q o =
      let l = lend (wanted_sector r) in
      let x = step r l.slice row out p l.typed q o in
      let f : Fed r l.slice (row ++ []) out x.state x.places x.output = rw (append-nil row) x.fed in
      walk-on w l.is x (walk-by x.output (h [] r.length l.slice out x.state x.places x.output (same refl) f) x.typed.0 x.typed.1 x.typed.2)

  -- by the contract of `Reading::step`, from any state that a program can have
  pub read-walks : (r : Reading) (row : List (List ℕ)) (out : List ℕ) → State r → Row row → Slice out → Walked d r row out
  read-walks r row out p q o = walk-by out (read-ends r row) p q o

-- ---- an opening

open_by : (t : Ask VolumeRecord) (o : Opening) → opening_tree o ≡ t → Opened o
unfolding branch
open_by (done v) o e = by (is_opening o) refl
  where
    by : (b : Bool) → is_opening o ≡ b → Opened o
    by false w = now w
    by true w = absurd (let q = tree-asks o w in let z : ◌≡◌ {A = ℕ} 0 1 = cc in omega arith)
open_by (refuse why) o e = by (is_opening o) refl
  where
    by : (b : Bool) → is_opening o ≡ b → Opened o
    by false w = now w
    by true w = absurd (let q = tree-asks o w in let z : ◌≡◌ {A = ℕ} 0 1 = cc in omega arith)
open_by (ask s k) o e = by (is_opening o) refl (λ b x q. open_by (k b) x q)
  where
    lost : (x : Opening) → opening_tree x ≡ refuse Io → (b : Bool) → is_opening x ≡ b → Opened x
    lost x q false w = now w
    lost x q true w = absurd (let p = tree-asks x w in let z : ◌≡◌ {A = ℕ} 0 1 = cc in omega arith)

    next : ((b : List ℕ) (x : Opening) → opening_tree x ≡ k b → Opened x) → (h : Held) (x : Opening) → opening_tree x ≡ given h k (refuse Io) → Opened x
    next ih (holds b) x q = ih b x q
    next ih lacks x q = lost x q (is_opening x) refl

    by : (t : Bool) → is_opening o ≡ t → ((b : List ℕ) (x : Opening) → opening_tree x ≡ k b → Opened x) → Opened o
    by false w ih = now w
    by true w ih = later w (λ b x f. next ih (lent b) x ((f.takes w).tree ∙ ap (branch (lent b)) e))

pub opening-ends : (o : Opening) → Opened o
opening-ends o = open_by (opening_tree o) o refl

module _ (d : Disc) (State : Opening → Type 0) (Slice : List ℕ → Type 0) (lend : (n : ℕ) → Lends Slice d n) (step : OpeningSteps State Slice) where
  opening-by : {o : Opening} → Opened o → State o → OpeningWalked d o
  opening-by (now w) p = record { wanted = []; state = _; walk = opened w }
  opening-by (later {o} w h) p =
      let l = lend (opening_sector o) in
      let x = step o l.slice p l.typed in
      let y = opening-by (h l.slice x.state x.fed) x.typed in
      record { wanted = _; state = y.state; walk = opens l.slice w l.is x.fed y.walk }

  -- by the contract of `Opening::step`, from any state that a program can have
  pub opening-walks : (o : Opening) → State o → OpeningWalked d o
  opening-walks o p = opening-by (opening-ends o) p
