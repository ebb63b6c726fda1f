-- An area whose bytes come one at a time: what the private functions say.
use Rattle.std.specs.Prelude.{ℕ, ◌<◌, ◌≤◌, ◌≡◌, Bool, true, false, ◌||◌, List, ◌∷◌, ◌++◌, length, take, replicate, ltb}
use Rattle.areas.specs.Areas.{size_of}
use Rattle.areas.specs.declared.AllocExtent.{AllocExtent}
use Rattle.areas.specs.declared.AdContinuation.{AdContinuation}
use Rattle.areas.specs.declared.AdEnding.TheVariants.{Continuation}
use Rattle.drives.specs.FileFeeds.{joined}
use Rattle.drives.specs.Readings.{extents_in, area_of, ending_of, rest_of}
use Rattle.drives.specs.declared.scans.Scan.{Scan}

abbrev pub begun : ℕ → Scan
begun listed = record {
  listed = listed;
  full = false;
  closed = 0;
  carried = 0;
  carry = replicate 20 0;
  next_length = 0;
  next_block = 0;
  next_reference = 0;
}

-- two lists of extents are alike for so many slots, each with whether an extent was lost before: the same, or one is lost in both
pub data Alike (slots : ℕ) (full : Bool) (a : List AllocExtent) (full' : Bool) (b : List AllocExtent) : Type 0 where
  same : full ≡ full' → a ≡ b → Alike slots full a full' b
  lost : (full || ltb slots (length a)) ≡ true → full' ≡ true → Alike slots full a full' b

-- two places in an area with the bytes that are yet to come lead to the same
pub record Leads (kind : ℕ) (row : List (List ℕ)) (s : Scan) (more : List ℕ) (row' : List (List ℕ)) (s' : Scan) (more' : List ℕ) : Type 0 where
  pub long : length row' ≡ length row
  pub ending : (rest_of kind s more).ending ≡ (rest_of kind s' more').ending
  pub extents : Alike (length row) s.full (joined (extents_in row s.listed) (rest_of kind s more)) s'.full (joined (extents_in row' s'.listed) (rest_of kind s' more'))
  pub carries : s'.carried < size_of kind
  pub inside : s.listed ≤ length row → s'.listed ≤ length row

-- behind some bytes
pub record Scans (kind : ℕ) (row : List (List ℕ)) (s : Scan) (bytes : List ℕ) (row' : List (List ℕ)) (s' : Scan) : Type 0 where
  pub behind : (more : List ℕ) → Leads kind row s (bytes ++ more) row' s' more

-- an extent that was put into the next place, if there was one
pub record Stores (row : List (List ℕ)) (s : Scan) (e : AllocExtent) (row' : List (List ℕ)) (s' : Scan) : Type 0 where
  pub long : length row' ≡ length row
  pub closed : s'.closed ≡ s.closed
  pub carried : s'.carried ≡ 0
  pub places : (more : List AllocExtent) → Alike (length row) s.full (extents_in row s.listed ++ e ∷ more) s'.full (extents_in row' s'.listed ++ more)
  pub inside : s.listed ≤ length row → s'.listed ≤ length row

-- an area that has ended
pub record Closes (s : Scan) (closed : ℕ) (s' : Scan) : Type 0 where
  pub closes : s'.closed ≡ closed
  pub carried : s'.carried ≡ 0
  pub listed : s'.listed ≡ s.listed
  pub full : s'.full ≡ s.full

pub record Continues (s : Scan) (a : AdContinuation) (s' : Scan) : Type 0 where
  pub closes : s'.closed ≡ 2
  pub ending : ending_of s' ≡ Continuation a
  pub carried : s'.carried ≡ 0
  pub listed : s'.listed ≡ s.listed
  pub full : s'.full ≡ s.full

-- a descriptor that has arrived whole, at the front of `carry`
pub record WholeWith (kind : ℕ) (row : List (List ℕ)) (s : Scan) (carry : List ℕ) (row' : List (List ℕ)) (s' : Scan) (more : List ℕ) : Type 0 where
  pub long : length row' ≡ length row
  pub ending : (area_of kind (take (size_of kind) carry ++ more)).ending ≡ (rest_of kind s' more).ending
  pub extents : Alike (length row) s.full (joined (extents_in row s.listed) (area_of kind (take (size_of kind) carry ++ more))) s'.full (joined (extents_in row' s'.listed) (rest_of kind s' more))
  pub carried : s'.carried ≡ 0
  pub inside : s.listed ≤ length row → s'.listed ≤ length row

pub record Whole (kind : ℕ) (row : List (List ℕ)) (s : Scan) (carry : List ℕ) (row' : List (List ℕ)) (s' : Scan) : Type 0 where
  pub behind : (more : List ℕ) → WholeWith kind row s carry row' s' more
