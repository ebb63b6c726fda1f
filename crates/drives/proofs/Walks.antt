-- Walks of a file's read over a disc: what a caller does between two steps, and what a walk comes to from whatever state. Assumes nothing.
use mathlib.Core.Path.{◌≡◌, refl, ap, sym, ◌∙◌}
use mathlib.Core.Bool.{Bool, true, false}
use mathlib.Core.List.{List, [], ◌∷◌, ◌++◌, append-nil, append_assoc}
use Prim.Native.Nat.{ℕ, suc, ◌+◌, ◌-◌, ◌≤◌}
use native.Mathlib.Nat.{add-zero}
use native.Mathlib.Omega.{arith}
use lib.ListN.{length, take, drop, replicate, length-append}
use lib.Seq.{drop-drop}
use lib.Dec.{eqb}
use Rattle.disc.specs.Choice.{pick}
use Rattle.disc.specs.Counts.{reported}
use Rattle.disc.specs.Refusals.{number, refusal_of}
use Rattle.disc.specs.Ask.{Disc}
use Rattle.disc.proofs.PickLaws.{not-both}
use Rattle.drives.specs.Feeds.{Feed, lent, Settled, settled_in, fed_by, Grown, first_of, behind_first, within, End, end_of, wanted, arrived}
use Rattle.drives.specs.Feeds.Feed.{over, stop}
use Rattle.drives.specs.Feeds.End.{answers, refuses}
use Rattle.drives.specs.Readings.{is_wanting, wanted_sector, left_of, number_of, put_at, Goes, zeroed, Fed}
use Rattle.drives.specs.declared.readings.Reading.{Reading}
use Rattle.drives.proofs.GrownLaws.{length-free, left_grown}
use Rattle.drives.proofs.WalkLaws.{Feeds, left_at, fed-at, settles, put-fits, put_front, put-behind}
use Rattle.drives.specs.Walks.{Moved, Walk, Still}
use Rattle.drives.specs.Walks.Walk.{ends, steps}
use Rattle.drives.specs.Walks.Still.{ends, steps}

-- ---- walks

-- ---- what a walk comes to

-- the answer number of an end
abbrev pub number_by : End → ℕ
number_by answers = 0
number_by (refuses r) = number r

-- a state after m sectors, as `start` and `step` give it: its extents are in the row, what has arrived is in the output, and the row of one that has ended
-- is zero
pub record Ready (m : ℕ) (r : Reading) (row : List (List ℕ)) (out : List ℕ) : Type 0 where
  pub counted : r.count ≡ reported m
  pub says : r.answer ≡ number_of (left_of r row)
  pub listed : is_wanting r ≡ true → r.scan.listed ≤ length row
  pub fits : r.length ≤ length out
  pub clear : is_wanting r ≡ false → row ≡ zeroed row

-- where g was left of the read in its memory, m sectors had been wanted and `front` stood in the output
pub record Came (d : Disc) (g : Feed) (m : ℕ) (front ns taken : List ℕ) (q : Reading) (row' : List (List ℕ)) (out' : List ℕ) : Type 0 where
  pub list : ns ≡ wanted d g
  pub answer : q.answer ≡ number_by (end_of d g)
  pub count : q.count ≡ reported (m + length ns)
  pub bytes : taken ++ take q.length out' ≡ front ++ arrived d g
  pub fits : q.length ≤ length out'
  pub over : is_wanting q ≡ false
  pub zeros : row' ≡ zeroed row'

-- what is left of a state's read in lent memory
abbrev pub left_within : Reading → List (List ℕ) → List ℕ → List Grown → Feed
left_within r row out gs = within false (length row) (length out - r.length) gs (left_of r row)

came-ended : (d : Disc) (m : ℕ) (gs : List Grown) (r : Reading) (row : List (List ℕ)) (out : List ℕ) → is_wanting r ≡ false → Ready m r row out
    → Came d (left_within r row out gs) m (take r.length out) [] [] r row out
unfolding left_of within wanted end_of arrived
came-ended d m gs r row out w p = rw w (by (eqb r.answer 0) (rw w at p.says))
  where
    by : (b : Bool) → r.answer ≡ number_of (pick b over (stop (refusal_of r.answer)))
        → Came d (within false (length row) (length out - r.length) gs (pick b over (stop (refusal_of r.answer)))) m (take r.length out) [] [] r row out
    by true q = record {
      list = refl;
      answer = q;
      count = p.counted ∙ ap reported (sym (add-zero m));
      bytes = sym (append-nil (take r.length out));
      fits = p.fits;
      over = w;
      zeros = p.clear w;
    }
    by false q = record {
      list = refl;
      answer = q;
      count = p.counted ∙ ap reported (sym (add-zero m));
      bytes = sym (append-nil (take r.length out));
      fits = p.fits;
      over = w;
      zeros = p.clear w;
    }

-- ---- a step

module _ (r : Reading) (row : List (List ℕ)) (out s : List ℕ) (x : Reading) (row₁ : List (List ℕ)) (out₁ : List ℕ) (w : is_wanting r ≡ true) (f : Fed r s row out x row₁ out₁) where
  abbrev settled_by : Settled
  settled_by = settled_in false (length row) (length out - r.length) (fed_by (lent s) (left_of r row))

  goes : Goes settled_by (reported (r.count + 1)) r.length out x row₁ out₁
  goes = f.takes w

  pub rest-is : left_of x row₁ ≡ settled_by.rest
  rest-is = goes.left

  module _ (h : r.length ≤ length out) where
    put-long : length (put_at r.length settled_by.bytes out) ≡ length out
    put-long = ap length (sym goes.output) ∙ f.room

    pub step_fits : x.length ≤ length out₁
    step_fits = rw (goes.filled, f.room) (put-fits r.length settled_by.bytes out h put-long)

    pub step-bytes : take x.length out₁ ≡ take r.length out ++ settled_by.bytes
    step-bytes = rw (goes.filled, goes.output) (put_front r.length settled_by.bytes out h put-long)

    pub step-behind : drop x.length out₁ ≡ drop x.length out
    step-behind = rw (goes.filled, goes.output) (put-behind r.length settled_by.bytes out h put-long)

    ready-next : (m : ℕ) → Ready m r row out → Ready (m + 1) x row₁ out₁
    ready-next m p =
        let c = p.counted in
        record {
          counted = goes.count ∙ rw c (omega arith);
          says = goes.answer ∙ ap number_of (sym rest-is);
          listed = f.inside (p.listed w);
          fits = step_fits;
          clear = λ v. f.ends w v ∙ ap (λ n. replicate n (replicate 4 0)) (sym f.slots);
        }

    -- what is left behind the step, in the slots and the room that are left
    rest-left : (gs : List Grown) → within false (length row) (length out - r.length - length settled_by.bytes) gs settled_by.rest ≡ left_within x row₁ out₁ gs
    rest-left gs =
        let e : length out - r.length - length settled_by.bytes ≡ length out₁ - x.length = rw (goes.filled, f.room) (less (length out) r.length (length settled_by.bytes)) in
        rw (e, ← rest-is, f.slots) refl
      where
        less : (a b c : ℕ) → a - b - c ≡ a - (b + c)
        less a b c = omega arith

    came-step : (d : Disc) (m : ℕ) (gs : List Grown) (front ns took : List ℕ) (q : Reading) (row' : List (List ℕ)) (out' : List ℕ) (g : Feed)
        → lent s ≡ d (wanted_sector r) → Feeds d (wanted_sector r) g (within false (length row) (length out - r.length) gs (fed_by (d (wanted_sector r)) (left_of r row)))
        → Came d (left_within x row₁ out₁ gs) (m + 1) (take x.length out₁) ns took q row' out'
        → Came d g m (take r.length out) (wanted_sector r ∷ ns) took q row' out'
    came-step d m gs front ns took q row' out' g h a c =
        let b = rw (← h) at a in
        let y = rw (rest-left gs) at (settles d false (length row) (length out - r.length) gs (fed_by (lent s) (left_of r row))) in
        record {
          list = ap (λ l. wanted_sector r ∷ l) (c.list ∙ sym y.list) ∙ sym b.list;
          answer = c.answer ∙ ap number_by (sym y.ends ∙ sym b.ends);
          count = c.count ∙ ap reported (sum (length ns));
          bytes = c.bytes ∙ rw step-bytes (append_assoc (take r.length out) settled_by.bytes (arrived d (left_within x row₁ out₁ gs))) ∙ ap (λ b. take r.length out ++ b) (sym (b.bytes ∙ y.bytes));
          fits = c.fits;
          over = c.over;
          zeros = c.zeros;
        }
      where
        sum : (n : ℕ) → m + 1 + n ≡ m + suc n
        sum n = omega arith

-- ---- what a caller does before a step changes nothing of what is left

module _ {g : Grown} {taken : List ℕ} {r : Reading} {row : List (List ℕ)} {out : List ℕ} {r₁ : Reading} {row₁ : List (List ℕ)} {out₁ : List ℕ} (p : Moved g taken r row out r₁ row₁ out₁) where
  pub moved-wanting : is_wanting r₁ ≡ is_wanting r
  moved-wanting = rw p.state refl

  moved-sector : wanted_sector r₁ ≡ wanted_sector r
  moved-sector = rw p.state refl

  moved-slots : length row₁ ≡ length row + g.slots
  moved-slots = rw (p.longer, length-append row p.places, p.slots) refl

  pub moved-left : r.scan.listed ≤ length row → left_of r₁ row₁ ≡ left_of r row
  moved-left h = rw p.longer (ap (λ x. left_of x (row ++ p.places)) p.state ∙ length-free r r₁.length (row ++ p.places) ∙ left_grown r row p.places h)

  moved_ready : (m : ℕ) → is_wanting r ≡ true → Ready m r row out → Ready m r₁ row₁ out₁
  moved_ready m w q = record {
    counted = ap (λ x. x.count) p.state ∙ q.counted;
    says = ap (λ x. x.answer) p.state ∙ q.says ∙ ap number_of (sym (moved-left (q.listed w)));
    listed = λ v. rw (moved-slots, ap (λ x. x.scan.listed) p.state) (let l = q.listed w in omega arith);
    fits = p.inside;
    clear = λ v. not-both (sym v ∙ moved-wanting ∙ w);
  }

-- walked to its end, from whatever state and however its memory grows: the sectors wanted are those of the rest of the read, in order; answer, count and bytes
-- are its own, the bytes being those that were taken away and those that stand in the output; and the row is zero
pub walk-comes : {d : Disc} {ns taken : List ℕ} {gs : List Grown} {r q : Reading} {row row' : List (List ℕ)} {out out' : List ℕ} → Walk d ns gs taken r row out q row' out' → (m : ℕ) → Ready m r row out
    → Came d (left_within r row out gs) m (take r.length out) ns taken q row' out'
walk-comes {d} (ends {gs} {r} {row} {out} e) m p = came-ended d m gs r row out e p
walk-comes {d} (steps {gs} {taken} {took} {ns} {r} {r₁} {x} {q} {row} {row₁} {row₂} {row'} {out} {out₁} {out₂} {out'} s w h v f rest) m p =
    let w₁ : is_wanting r₁ ≡ true = moved-wanting v ∙ w in
    let p₁ = moved_ready v m w p in
    let c = walk-comes rest (m + 1) (ready-next r₁ row₁ out₁ s x row₂ out₂ w₁ f p₁.fits m p₁) in
    let a = fed-at d (wanted_sector r) (length row) (length out - r.length) gs (left_of r row) (left_at r row w) in
    let b : Feeds d (wanted_sector r₁) (left_within r row out gs) (within false (length row₁) (length out₁ - r₁.length) (behind_first gs) (fed_by (d (wanted_sector r₁)) (left_of r₁ row₁))) =
    rw (moved-sector v, moved-slots v, v.room, moved-left v (p.listed w)) a in
    let y = came-step r₁ row₁ out₁ s x row₂ out₂ w₁ f p₁.fits d m (behind_first gs) [] ns took q row' out' (left_within r row out gs) (rw (moved-sector v) h) b c in
    record {
      list = ap (λ n. n ∷ ns) (sym (moved-sector v)) ∙ y.list;
      answer = y.answer;
      count = y.count;
      bytes = append_assoc taken took (take q.length out') ∙ ap (λ b. taken ++ b) y.bytes ∙ sym (append_assoc taken (take r₁.length out₁) (arrived d (left_within r row out gs))) ∙ ap (λ b. b ++ arrived d (left_within r row out gs)) (sym v.kept);
      fits = y.fits;
      over = y.over;
      zeros = y.zeros;
    }

-- ---- the walk in which nothing grows

unmoved : (r : Reading) (row : List (List ℕ)) (out : List ℕ) → r.length ≤ length out → Moved (first_of []) [] r row out r row out
unmoved r row out h = record {
  places = [];
  state = refl;
  longer = sym (append-nil row);
  slots = refl;
  kept = refl;
  inside = h;
  room = sym (add-zero (length out - r.length));
}

pub still-walks : {d : Disc} {ns : List ℕ} {r q : Reading} {row row' : List (List ℕ)} {out out' : List ℕ} → Still d ns r row out q row' out' → r.length ≤ length out
    → Walk d ns [] [] r row out q row' out'
still-walks (ends e) h = ends e
still-walks (steps {r} {x} {q} {row} {row₁} {row'} {out} {out₁} {out'} {ns} s w l f rest) h =
    steps s w l (unmoved r row out h) f (still-walks rest (step_fits r row out s x row₁ out₁ w f h))

-- what stood behind the bytes that arrived stands there still, and row and output are as long as they were
pub record Kept (r : Reading) (row : List (List ℕ)) (out : List ℕ) (q : Reading) (row' : List (List ℕ)) (out' : List ℕ) : Type 0 where
  pub more : r.length ≤ q.length
  pub behind : drop q.length out' ≡ drop q.length out
  pub slots : length row' ≡ length row
  pub room : length out' ≡ length out

pub still-keeps : {d : Disc} {ns : List ℕ} {r q : Reading} {row row' : List (List ℕ)} {out out' : List ℕ} → Still d ns r row out q row' out' → r.length ≤ length out → Kept r row out q row' out'
still-keeps (ends {r} e) h = record { more = omega arith; behind = refl; slots = refl; room = refl }
still-keeps (steps {r} {x} {q} {row} {row₁} {row'} {out} {out₁} {out'} s w l f rest) h =
    let k = still-keeps rest (step_fits r row out s x row₁ out₁ w f h) in
    let g = (f.takes w).filled in
    let e = step-behind r row out s x row₁ out₁ w f h in
    let z : x.length + (q.length - x.length) ≡ q.length = let m = k.more in omega arith in
    let b : drop q.length out₁ ≡ drop q.length out = rw z at (sym (drop-drop (q.length - x.length) x.length out₁) ∙ ap (drop (q.length - x.length)) e ∙ drop-drop (q.length - x.length) x.length out) in
    record { more = let m = k.more in omega arith; behind = k.behind ∙ b; slots = k.slots ∙ f.slots; room = k.room ∙ f.room }
