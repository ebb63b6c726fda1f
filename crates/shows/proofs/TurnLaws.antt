-- A directory with a level left, and the entry at `at` in one whose bytes are the first n of the work space, in either pass of a show. Assumes nothing.
use mathlib.Core.Path.{◌≡◌, refl, sym, ap, ◌∙◌}
use mathlib.Core.Bool.{false}
use mathlib.Core.List.{List, ◌∷◌, ◌++◌}
use Prim.Native.Nat.{ℕ, suc, ◌+◌, ◌-◌, ◌*◌, ◌≤◌, ◌<◌, ◌^◌}
use native.Mathlib.Omega.{arith}
use lib.ListN.{length, take, drop}
use lib.Seq.{take-add, drop_at, length-take-le}
use mir.Syntax.{w64}
use mir.Val.{Fits}
use Rattle.disc.specs.Ask.{Outcome}
use Rattle.disc.specs.Ask.Outcome.{answered, refused}
use Rattle.disc.specs.Parts.{Bytes}
use Rattle.disc.proofs.ByteLaws.{bytes-taken, bytes-dropped}
use Rattle.disc.proofs.RanLaws.{never}
use Rattle.disc.specs.declared.places.Mount.{Mount}
use Rattle.records.specs.declared.allocations.LongAd.{LongAd}
use Rattle.identifiers.specs.Identifiers.{next_at}
use Rattle.listings.specs.Entries.{Entry, entry_read, entries}
use Rattle.listings.specs.Inner.Passes.{tail}
use Rattle.listings.proofs.EntryLaws.{Known, known}
use Rattle.listings.proofs.WalkLaws.{tail-is, tail-length, at-bad, at_next, taken}
use Rattle.shows.specs.Shows.{nodes_of, nodes_at}
use Rattle.shows.specs.Inner.Turns.{opening, Turned}

-- a directory with a level left: its bytes and its entries, and the nodes of these
pub level-opening : (m : Mount) (icb : LongAd) {left : ℕ} (level w : ℕ) → (left ≡ 0 → ⊥)
    → nodes_at m left level w icb ≡ opening m w icb (λ b es. nodes_of (nodes_at m (left - 1) (suc level) (w - length b)) level es)
unfolding nodes_at
level-opening m icb {left} level w some =
    let e : left ≡ suc (left - 1) = omega (arith, some) in
    ap (λ n. nodes_at m n level w icb) e

-- a part of the front of a list
part-tail : (work : List ℕ) (n at : ℕ) → at ≤ n → n ≤ length work → take (n - at) (drop at work) ≡ tail (take n work) at
part-tail work n at h k =
    let e : at + (n - at) ≡ n = omega arith in
    let f : take n work ≡ take at work ++ take (n - at) (drop at work) = ap (λ i. take i work) (sym e) ∙ take-add at (n - at) work in
    sym (tail-is (take n work) at ∙ rw f (drop_at (take at work) (take (n - at) (drop at work)) at (length-take-le at work (omega arith))))

-- the bytes from the entry on
abbrev pub part_of : List ℕ → ℕ → ℕ → List ℕ
part_of work n at = take (n - at) (drop at work)

-- the first of the entries that were parsed from there on
pub record FirstRead (work : List ℕ) (n at : ℕ) (es : List Entry) : Type 0 where
  pub first : Entry
  pub others : List Entry
  pub all : es ≡ first ∷ others
  pub reads : entry_read false (part_of work n at) ≡ answered first
  pub knows : Known (part_of work n at) first
  pub are : entries false (drop (at + next_at (part_of work n at)) (take n work)) ≡ answered others

module _ (work : List ℕ) (n at : ℕ) (h : at + 38 ≤ n) (k : n ≤ length work) where
  pub raw-long : length (take n work) ≡ n
  raw-long = length-take-le n work k

  part-is : part_of work n at ≡ tail (take n work) at
  part-is = part-tail work n at (omega arith) k

  pub part-long : length (part_of work n at) ≡ n - at
  part-long = rw part-is (tail-length (take n work) at ∙ ap (λ i. i - at) raw-long)

  pub part-least : 38 ≤ length (part_of work n at)
  part-least = omega (arith, part-long)

  -- where the next entry starts is a number that fits
  pub next_fits : {next : ℕ} → next ≤ length (part_of work n at) + 3 → length work * 1 < 2 ^ 63 → Fits w64 (at + next)
  next_fits e l = omega (arith, part-long)

  pub first_read : Bytes work → (es : List Entry) → entries false (drop at (take n work)) ≡ answered es → FirstRead work n at es
  first_read b es are = by (entry_read false (part_of work n at)) refl
    where
      fits : at + 38 ≤ length (take n work)
      fits = omega (arith, raw-long)

      bytes : Bytes (part_of work n at)
      bytes = bytes-taken (n - at) (drop at work) (bytes-dropped at work b)

      by : (o : Outcome Entry) → entry_read false (part_of work n at) ≡ o → FirstRead work n at es
      by (answered x) e =
          let y = at_next false (take n work) at fits (sym (ap (entry_read false) part-is) ∙ e) (ap next_at part-is) in
          let v = taken x (entries false (drop (at + next_at (part_of work n at)) (take n work))) (sym y ∙ are) in
          record { first = x; others = v.others; all = v.all; reads = e; knows = known false (part_of work n at) bytes e; are = v.are }
      by (refused why) e = never (sym (at-bad false (take n work) at fits (sym (ap (entry_read false) part-is) ∙ e)) ∙ are)

-- it had its turn
abbrev pub turned : {work : List ℕ} {n at : ℕ} {es : List Entry} (f : FirstRead work n at es) {next : ℕ} → next ≡ next_at (part_of work n at) → Turned (take n work) (at + next) es
turned f e = record { first = f.first; others = f.others; all = f.all; are = rw e f.are }
