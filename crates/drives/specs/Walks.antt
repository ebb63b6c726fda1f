-- Walks: a read and an opening, step by step, with whatever a caller does between the steps; and that they end.
use Rattle.std.specs.Prelude.{false, true, [], List, ◌++◌, ◌∷◌, ◌≡◌, ◌≤◌, ℕ, ◌-◌, ◌+◌, length, take}
use Rattle.disc.specs.Ask.{Disc}
use Rattle.drives.specs.Feeds.{lent, Grown, behind_first, first_of}
use Rattle.drives.specs.declared.openings.Opening.{Opening}
use Rattle.drives.specs.declared.readings.Reading.{Reading}
use Rattle.drives.specs.Openings.{is_wanting as is_opening, wanted_sector as opening_sector, Fed as OpeningFed}
use Rattle.drives.specs.Readings.{is_wanting, wanted_sector, Fed}

-- ---- a read

-- the same state with another number of bytes at the output
abbrev pub with_length : Reading → ℕ → Reading
with_length r n = record {
  phase = r.phase;
  at = r.at;
  left = r.left;
  mount = r.mount;
  kind = r.kind;
  hops = r.hops;
  missing = r.missing;
  size = r.size;
  next = r.next;
  scan = r.scan;
  body = r.body;
  answer = r.answer;
  count = r.count;
  length = n;
}

-- what a caller may do before a step: lengthen the row by places that hold anything, lengthen the output, and take the first of the bytes that have arrived
-- away and set `length` back, so that the others stand at the front. Nothing else of the state changes, and there is as much room as before, or more
pub record Moved (g : Grown) (taken : List ℕ) (r : Reading) (row : List (List ℕ)) (out : List ℕ) (r' : Reading) (row' : List (List ℕ)) (out' : List ℕ) : Type 0 where
  pub places : List (List ℕ)
  pub state : r' ≡ with_length r r'.length
  pub longer : row' ≡ row ++ places
  pub slots : length places ≡ g.slots
  pub kept : take r.length out ≡ taken ++ take r'.length out'
  pub inside : r'.length ≤ length out'
  pub room : length out' - r'.length ≡ length out - r.length + g.room

-- as long as a sector is wanted it is lent what the disc has of it, row and output having grown before each step as `gs` says; `ns` are the sectors that were
-- wanted, in order, and `taken` the bytes that were taken away, in order
pub data Walk (d : Disc) : List ℕ → List Grown → List ℕ → Reading → List (List ℕ) → List ℕ → Reading → List (List ℕ) → List ℕ → Type 0 where
  ends : {gs : List Grown} {r : Reading} {row : List (List ℕ)} {out : List ℕ} → is_wanting r ≡ false → Walk d [] gs [] r row out r row out
  steps : {gs : List Grown} {taken took ns : List ℕ} {r r₁ x q : Reading} {row row₁ row₂ row' : List (List ℕ)} {out out₁ out₂ out' : List ℕ} (s : List ℕ)
      → is_wanting r ≡ true → lent s ≡ d (wanted_sector r) → Moved (first_of gs) taken r row out r₁ row₁ out₁ → Fed r₁ s row₁ out₁ x row₂ out₂
      → Walk d ns (behind_first gs) took x row₂ out₂ q row' out' → Walk d (wanted_sector r ∷ ns) gs (taken ++ took) r row out q row' out'

-- the same with row and output the same ones, untouched between steps
pub data Still (d : Disc) : List ℕ → Reading → List (List ℕ) → List ℕ → Reading → List (List ℕ) → List ℕ → Type 0 where
  ends : {r : Reading} {row : List (List ℕ)} {out : List ℕ} → is_wanting r ≡ false → Still d [] r row out r row out
  steps : {r x q : Reading} {row row₁ row' : List (List ℕ)} {out out₁ out' ns : List ℕ} (s : List ℕ) → is_wanting r ≡ true → lent s ≡ d (wanted_sector r)
      → Fed r s row out x row₁ out₁ → Still d ns x row₁ out₁ q row' out' → Still d (wanted_sector r ∷ ns) r row out q row' out'

-- there is such a walk
pub record Walked (d : Disc) (r : Reading) (row : List (List ℕ)) (out : List ℕ) : Type 0 where
  pub wanted : List ℕ
  pub state : Reading
  pub places : List (List ℕ)
  pub output : List ℕ
  pub walk : Still d wanted r row out state places output

-- ---- a read comes to an end

-- the row may be lengthened where the extents that wait are in it, as those of a state that `start` and `step` give are
pub data Lengthens (r : Reading) (row places : List (List ℕ)) : Type 0 where
  same : places ≡ [] → Lengthens r row places
  inside : r.scan.listed ≤ length row → Lengthens r row places

-- every sequence of slices that may be lent from here on comes to an end, whatever outputs are lent with them and whatever `length` is set to: the state has
-- ended, or does so behind whatever is lent next
pub data Over : Reading → List (List ℕ) → Type 0 where
  now : {r : Reading} {row : List (List ℕ)} → is_wanting r ≡ false → Over r row
  later : {r : Reading} {row : List (List ℕ)} → is_wanting r ≡ true
      → ((places : List (List ℕ)) (n : ℕ) (s out : List ℕ) (x : Reading) (row₁ : List (List ℕ)) (out₁ : List ℕ) → Lengthens r row places → Fed (with_length r n) s (row ++ places) out x row₁ out₁ → Over x row₁)
      → Over r row

-- ---- an opening

-- a walk: as long as a sector is wanted it is lent what the disc has of it, `ns` being the sectors that were wanted, in order
pub data OpeningWalk (d : Disc) : List ℕ → Opening → Opening → Type 0 where
  ends : {o : Opening} → is_opening o ≡ false → OpeningWalk d [] o o
  steps : {o r q : Opening} {ns : List ℕ} (s : List ℕ) → is_opening o ≡ true → lent s ≡ d (opening_sector o) → OpeningFed o s r → OpeningWalk d ns r q → OpeningWalk d (opening_sector o ∷ ns) o q

-- there is such a walk
pub record OpeningWalked (d : Disc) (o : Opening) : Type 0 where
  pub wanted : List ℕ
  pub state : Opening
  pub walk : OpeningWalk d wanted o state

-- it comes to an end, whatever is lent
pub data Opened : Opening → Type 0 where
  now : {o : Opening} → is_opening o ≡ false → Opened o
  later : {o : Opening} → is_opening o ≡ true → ((s : List ℕ) (x : Opening) → OpeningFed o s x → Opened x) → Opened o
