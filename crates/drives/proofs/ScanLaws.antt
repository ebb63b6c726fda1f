-- Laws of an area whose bytes come one at a time: each place leads to what the whole area gives. Assumes nothing.
use Rattle.std.specs.Prelude.{Option, Some, None}
use mathlib.Core.Path.{◌≡◌, refl, ap, sym, ◌∙◌}
use mathlib.Core.Bool.{Bool, true, false, ◌||◌}
use mathlib.Core.List.{List, [], ◌∷◌, ◌++◌, map, map-append, append_assoc}
use Prim.Native.Nat.{ℕ, suc, ◌+◌, ◌<◌, ◌≤◌}
use native.Mathlib.Numerals.{add-one}
use native.Mathlib.Omega.{arith}
use lib.ListN.{length, get_or, take, drop, set, length-append, length-set, drop_of_length-le}
use lib.Seq.{take-suc-set, drop-cons, take_all}
use lib.Dec.{ltb}
use borrow.Author.Tests.{lt-ltb, le-ltb, ne_eqb}
use Rattle.disc.proofs.PickLaws.{not-both}
use Rattle.disc.specs.declared.refusals.Refusal.{Refusal}
use Rattle.disc.specs.declared.refusals.Refusal.TheVariants.{Unsupported}
use Rattle.areas.specs.declared.AllocExtent.{AllocExtent}
use Rattle.areas.specs.declared.AdContinuation.{AdContinuation}
use Rattle.areas.specs.declared.AdCursor.{AdCursor}
use Rattle.areas.specs.declared.AdStep.{AdStep}
use Rattle.areas.specs.declared.AdStep.TheVariants.{Extent, Continuation as GoesOn, End as Ends, Refused as Refuses}
use Rattle.areas.specs.declared.AdEnding.TheVariants.{End, Continuation, Refused}
use Rattle.areas.specs.Areas.{size_of, Area, ended, next_of}
use Rattle.areas.proofs.AreaLaws.{some_size, small_size}
use Rattle.areas.proofs.FrontLaws.{front-extent, front-continuation, front-end, front-refused}
use Rattle.drives.specs.Readings.{reference_in, extent_in, extents_in, area_of, carried_in, rest_of}
use Rattle.drives.specs.Inner.Scans.{Alike, Leads, Scans, Stores, Closes, Continues, WholeWith, Whole}
use Rattle.drives.specs.Inner.Scans.Alike.{same, lost}
use Rattle.drives.specs.declared.scans.Scan.{Scan}

-- ---- the numbers of the row

pub reference-unnamed : (r : Option ℕ) → r ≡ None → reference_in 65536 ≡ r
reference-unnamed r e = sym e

pub reference-named : (r : Option ℕ) (p : ℕ) → r ≡ Some p → p < 65536 → reference_in p ≡ r
reference-named r p e h = rw (lt-ltb p 65536 h) (sym e)

pub reference-low : (n : ℕ) → n < 65536 → Some n ≡ reference_in n
reference-low n h = rw (lt-ltb n 65536 h)

pub reference-high : (n : ℕ) → 65536 ≤ n → None ≡ reference_in n
reference-high n h = rw (le-ltb n 65536 h)

pub words_are : (e : AllocExtent) (n : ℕ) → reference_in n ≡ e.partition_ref → extent_in (e.length ∷ e.extent_type ∷ e.block.0 ∷ n ∷ []) ≡ e
words_are e n h = rw h

-- ---- lists that are alike

pub alike-trans : {slots : ℕ} {f g h : Bool} {a b c : List AllocExtent} → Alike slots f a g b → Alike slots g b h c → Alike slots f a h c
alike-trans (same p q) (same u v) = same (p ∙ u) (q ∙ v)
alike-trans {slots} (same p q) (lost u v) = lost (rw (p, q) u) v
alike-trans (lost u v) (same p q) = lost u (sym p ∙ v)
alike-trans (lost u v) (lost p q) = lost u q

-- an extent is lost in both or in none
or-true : (b : Bool) → (b || true) ≡ true
or-true true = refl
or-true false = refl

pub alike-lost : {slots : ℕ} {f g : Bool} {a b : List AllocExtent} → Alike slots f a g b → (f || ltb slots (length a)) ≡ (g || ltb slots (length b))
alike-lost (same p q) = rw (p, q)
alike-lost (lost u v) = u ∙ rw v

pub alike_same : {slots : ℕ} {f g : Bool} {a b : List AllocExtent} → Alike slots f a g b → g ≡ false → a ≡ b
alike_same (same p q) e = q
alike_same (lost u v) e = not-both (sym e ∙ v)

-- ---- an extent is stored

extents-count : (row : List (List ℕ)) (n : ℕ) → length row ≤ n → length (extents_in row n) ≡ length row
extents-count row n h = rw (take_all n row h) (mapped row)
  where
    mapped : (l : List (List ℕ)) → length (map extent_in l) ≡ length l
    mapped [] = refl
    mapped (x ∷ l) = ap suc (mapped l)

module _ (row : List (List ℕ)) (s : Scan) (e : AllocExtent) (s' : Scan) where
  pub store-placed : (w : List ℕ) → extent_in w ≡ e → s.listed < length row → s'.listed ≡ s.listed + 1 → s'.full ≡ s.full → s'.closed ≡ s.closed → s'.carried ≡ 0
      → Stores row s e (set row s.listed w) s'
  store-placed w k h l f c z = record {
    long = length-set row s.listed w;
    closed = c;
    carried = z;
    places = λ more. same (sym f) (rw (l, taken) (sym (append_assoc (extents_in row s.listed) (e ∷ []) more)));
    inside = λ i. rw l (omega arith);
  }
    where
      taken : extents_in (set row s.listed w) (s.listed + 1) ≡ extents_in row s.listed ++ e ∷ []
      taken = rw (add-one, take-suc-set row s.listed w h, map-append extent_in (take s.listed row) (w ∷ []), k)

  pub store-lost : length row ≤ s.listed → s'.listed ≡ s.listed → s'.full ≡ true → s'.closed ≡ s.closed → s'.carried ≡ 0 → Stores row s e row s'
  store-lost h l f c z = record {
    long = refl;
    closed = c;
    carried = z;
    places = λ more. lost (rw (lt-ltb (length row) (length (extents_in row s.listed ++ e ∷ more)) (past more)) (or-true s.full)) f;
    inside = λ i. rw l i;
  }
    where
      past : (more : List AllocExtent) → length row < length (extents_in row s.listed ++ e ∷ more)
      past more = let k = extents-count row s.listed h in rw (length-append (extents_in row s.listed) (e ∷ more), k) (omega arith)

-- ---- an area is closed

module _ (s s' : Scan) (n : s'.listed ≡ s.listed) (f : s'.full ≡ s.full) (z : s'.carried ≡ 0) where
  pub close-is : (closed : ℕ) → s'.closed ≡ closed → Closes s closed s'
  close-is closed e = record { closes = e; carried = z; listed = n; full = f }

  pub continues-is : (a : AdContinuation) → s'.closed ≡ 2 → s'.next_length ≡ a.length → s'.next_block ≡ a.block.0
      → reference_in s'.next_reference ≡ a.partition_ref → Continues s a s'
  continues-is a c x y w = record { closes = c; ending = rw (c, x, y, w); carried = z; listed = n; full = f }

-- ---- a whole descriptor

module _ (kind : ℕ) (carry : List ℕ) (long : length carry ≡ 20) {x : AdStep} {c : AdCursor} (at : c.at ≡ 0) (left : c.left ≡ size_of kind) (e : x ≡ next_of kind carry c) where
  module _ (row : List (List ℕ)) (s : Scan) where
    pub whole-extent : (a : AllocExtent) (n : AdCursor) → x ≡ Extent a n → s.closed ≡ 0 → (row' : List (List ℕ)) (s' : Scan) → Stores row s a row' s' → Whole kind row s carry row' s'
    unfolding rest_of area_of
    whole-extent a n h z row' s' p = record {
      behind = λ more.
          let d = front-extent kind carry long c at left a n (sym e ∙ h) more in
          record { long = p.long; ending = rw (d, p.closed, z, p.carried); extents = rw (d, p.closed, z, p.carried) (p.places (area_of kind more).extents); carried = p.carried; inside = p.inside };
    }

    closed-as : (s' : Scan) (more : List ℕ) (y : Area) → area_of kind (take (size_of kind) carry ++ more) ≡ y → rest_of kind s' more ≡ y → s'.listed ≡ s.listed → s'.full ≡ s.full → s'.carried ≡ 0
        → WholeWith kind row s carry row s' more
    unfolding area_of
    closed-as s' more y a b n f z = record { long = refl; ending = rw (a, b); extents = rw (a, b, n) (same (sym f) refl); carried = z; inside = λ i. rw n i }

    pub whole-continuation : (a : AdContinuation) → x ≡ GoesOn a → (s' : Scan) → Continues s a s' → Whole kind row s carry row s'
    unfolding rest_of area_of
    whole-continuation a h s' p = record {
      behind = λ more.
          closed-as s' more (ended (Continuation a)) (front-continuation kind carry long c at left a (sym e ∙ h) more) (rw (p.ending, p.closes)) p.listed p.full p.carried;
    }

    pub whole-end : x ≡ Ends → (s' : Scan) → Closes s 1 s' → Whole kind row s carry row s'
    unfolding rest_of area_of
    whole-end h s' p = record {
      behind = λ more.
          closed-as s' more (ended End) (front-end kind carry long c at left (sym e ∙ h) more) (rw p.closes) p.listed p.full p.carried;
    }

    pub whole-refused : (why : Refusal) → x ≡ Refuses why → (s' : Scan) → Closes s 3 s' → Whole kind row s carry row s'
    unfolding rest_of area_of
    whole-refused why h s' p = record {
      behind = λ more.
          closed-as s' more (ended (Refused Unsupported)) (front-refused kind carry long c at left why (sym e ∙ h) more) (rw p.closes) p.listed p.full p.carried;
    }

-- ---- a byte

-- a whole descriptor has at most 20
pub byte-index : (kind i : ℕ) → i < size_of kind → i < 20
byte-index kind i h = let l = small_size kind refl in omega arith

module _ (kind : ℕ) (row : List (List ℕ)) (s : Scan) (b : ℕ) (fits : s.carried < size_of kind) where
  pub byte-closed : (s.closed ≡ 0 → ⊥) → Scans kind row s (b ∷ []) row s
  unfolding rest_of
  byte-closed h = record { behind = λ more. record { long = refl; ending = rw (ne_eqb s.closed 0 h); extents = rw (ne_eqb s.closed 0 h) (same refl refl); carries = fits; inside = λ i. i } }

  module _ (z : s.closed ≡ 0) (long : length s.carry ≡ 20) where
    kept : take (s.carried + 1) (set s.carry s.carried b) ≡ carried_in s ++ b ∷ []
    kept = let l = small_size kind refl in rw (add-one, take-suc-set s.carry s.carried b (omega arith))

    pub byte-carried : (s' : Scan) → s.carried + 1 < size_of kind → s'.closed ≡ s.closed → s'.carried ≡ s.carried + 1 → s'.carry ≡ set s.carry s.carried b
        → s'.listed ≡ s.listed → s'.full ≡ s.full → Scans kind row s (b ∷ []) row s'
    unfolding rest_of
    byte-carried s' h c i e n f = record {
      behind = λ more.
          let g : (carried_in s ++ b ∷ []) ++ more ≡ carried_in s ++ b ∷ more = append_assoc (carried_in s) (b ∷ []) more in
          record {
            long = refl;
            ending = rw (c, z, i, e, kept, g);
            extents = rw (c, z, i, e, kept, g, n) (same (sym f) refl);
            carries = rw i h;
            inside = λ j. rw n j;
          };
    }

    pub byte-whole : size_of kind ≤ s.carried + 1 → (row' : List (List ℕ)) (s' : Scan) → Whole kind row s (set s.carry s.carried b) row' s' → Scans kind row s (b ∷ []) row' s'
    unfolding rest_of
    byte-whole h row' s' p = record {
      behind = λ more.
          let e : size_of kind ≡ s.carried + 1 = omega arith in
          let l = some_size kind in
          let k : take (size_of kind) (set s.carry s.carried b) ++ more ≡ carried_in s ++ b ∷ more = rw (e, kept) (append_assoc (carried_in s) (b ∷ []) more) in
          let q = p.behind more in
          record { long = q.long; ending = rw (z, ← k) q.ending; extents = rw (z, ← k) q.extents; carries = rw q.carried (omega arith); inside = q.inside };
    }

-- ---- the loop

leads-trans : {kind : ℕ} {row row' row'' : List (List ℕ)} {s s' s'' : Scan} {m m' m'' : List ℕ}
    → Leads kind row s m row' s' m' → Leads kind row' s' m' row'' s'' m'' → Leads kind row s m row'' s'' m''
leads-trans p q = record {
  long = q.long ∙ p.long;
  ending = p.ending ∙ q.ending;
  extents = alike-trans p.extents (rw p.long at q.extents);
  carries = q.carries;
  inside = λ i. rw p.long at (q.inside (rw p.long (p.inside i)));
}

pub record Along (kind : ℕ) (row : List (List ℕ)) (first : Scan) (bytes : List ℕ) (row' : List (List ℕ)) (s : Scan) (i : ℕ) : Type 0 where
  pub carries : s.carried < size_of kind
  pub leads : (more : List ℕ) → Leads kind row first (bytes ++ more) row' s (drop i bytes ++ more)

module _ (kind : ℕ) (row : List (List ℕ)) (first : Scan) (bytes : List ℕ) where
  pub along-starts : first.carried < size_of kind → Along kind row first bytes row first 0
  along-starts h = record { carries = h; leads = λ more. record { long = refl; ending = refl; extents = same refl refl; carries = h; inside = λ i. i } }

  module _ (row' : List (List ℕ)) (s : Scan) (i : ℕ) (p : Along kind row first bytes row' s i) where
    pub along-fits : s.carried < size_of kind
    along-fits = p.carries

    pub along-long : length row' ≡ length row
    along-long = (p.leads []).long

    pub along-next : (row'' : List (List ℕ)) (s' : Scan) → i < length bytes → Scans kind row' s (get_or bytes i 0 ∷ []) row'' s' → Along kind row first bytes row'' s' (i + 1)
    along-next row'' s' h q = record {
      carries = (q.behind []).carries;
      leads = λ more. rw add-one (leads-trans (rw (drop-cons bytes i 0 h) at (p.leads more)) (q.behind (drop (suc i) bytes ++ more)));
    }

    pub along-ends : length bytes ≤ i → Scans kind row first bytes row' s
    along-ends h = record { behind = λ more. rw (drop_of_length-le bytes h) at (p.leads more) }
