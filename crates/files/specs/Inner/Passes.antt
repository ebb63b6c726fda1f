-- What the passes over a file's extents report: for the contracts of private functions.
use Rattle.std.specs.Prelude.{ℕ, ◌+◌, ◌≤◌, ◌≡◌, true, List, ◌++◌, length, drop, Result, Ok, Err}
use Rattle.disc.specs.Counts.{reported}
use Rattle.disc.specs.Ask.{Outcome}
use Rattle.disc.specs.Ask.Outcome.{answered, refused}
use Rattle.disc.specs.Ran.{Ran}
use Rattle.disc.specs.Images.{bytes_of, is_answered}
use Rattle.disc.specs.declared.places.Mount.{Mount}
use Rattle.disc.specs.declared.refusals.Refusal.{Refusal}
use Rattle.chains.specs.Inner.Walks.{left, hops_at, weight}
use Rattle.chains.specs.declared.cursors.ChainCursor.{ChainCursor}
use Rattle.files.specs.Reads.{visited}
use Rattle.files.specs.Inner.Pieces.{rest_at}
use Rattle.files.specs.declared.extents.Sizes.{Sizes}
use Rattle.disc.specs.declared.refusals.CountedRefusal.{CountedRefusal}

-- the result of measuring: bytes and sectors, or a refusal and sectors
pub data Came : Type 0 where
  comes : ℕ → ℕ → Came
  stops : Refusal → ℕ → Came

abbrev pub sized_by : {A : Type 0} → ℕ → ℕ → Outcome (List A) → Came
sized_by size count (answered b) = comes (size + length b) count
sized_by size count (refused r) = stops r count

-- the result of measuring r, after `size` bytes (or other elements) and `count` sectors
unfoldable pub sized : {A : Type 0} → ℕ → ℕ → Ran (List A) → Came
sized size count r = sized_by size (reported (count + r.count)) r.outcome

-- the extents begun and those left are all, and so are the areas followed and those left
pub record SizedTo (image : List ℕ) (m : Mount) (kind : ℕ) (first : ChainCursor) (want : ℕ) (s : Sizes) : Type 0 where
  pub came : comes s.size s.count ≡ sized 0 0 (rest_at image m kind first want)
  pub begun : s.visits ≡ visited (left image m kind first) want
  pub all : s.visits + length (left image m kind s.behind) ≡ length (left image m kind first)
  pub gone : s.behind.hops + hops_at image m kind first ≡ first.hops + hops_at image m kind s.behind
  pub room : s.visits + weight s.behind ≤ weight first

abbrev pub Measures : List ℕ → Mount → ℕ → ChainCursor → ℕ → Result Sizes CountedRefusal → Type 0
Measures image m kind first want (Ok s) = SizedTo image m kind first want s
Measures image m kind first want (Err e) = stops e.why e.count ≡ sized 0 0 (rest_at image m kind first want)

-- what a copy of at most `want` bytes leaves: if the read is answered, its bytes over the front; after any read, all past `want` as it came
pub record Copied (r : Ran (List ℕ)) (want : ℕ) (before after : List ℕ) : Type 0 where
  pub bytes : is_answered r.outcome ≡ true → after ≡ bytes_of r.outcome ++ drop (length (bytes_of r.outcome)) before
  pub kept : drop want after ≡ drop want before
