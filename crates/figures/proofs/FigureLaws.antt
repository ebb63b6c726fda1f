-- What holds of figures in their places, for those who cite them. Assumes nothing.
use mathlib.Core.Path.{◌≡◌, refl, sym, ◌∙◌}
use mathlib.Core.List.{List, [], ◌∷◌, ◌++◌, append_assoc}
use mathlib.Core.Logic.{⊎_elim}
use Prim.Native.Nat.{ℕ, suc, ◌+◌, ◌*◌, ◌<◌, ◌≤◌}
use native.Mathlib.Omega.{arith}
use lib.ListN.{length, get_or, take, drop, replicate, length-append}
use lib.Seq.{take_at, drop_at, drop-append-add}
use Rattle.disc.specs.Counts.{reported}
use borrow.Author.Tests.{le-leb}
use Rattle.disc.proofs.ImageLaws.{split}
use Rattle.figures.specs.Figures.{Figures, Wide, Holds, nothing, most, added, added_to, all_added, each_added, numbers, pairs, row, rows, places_added, total_of, totaled, total_answer, AllWide}
use Rattle.figures.proofs.PairLaws.{over-above, over-within, reported-above, reported-within}
use Rattle.figures.proofs.RowLaws.{each_long, each_append, pairs-long, pairs-added, laid-long}
pub use Rattle.figures.proofs.RowLaws.{pairs-number, pairs-mark}
use Rattle.figures.specs.Figures.AllWide.{none-wide, more-wide}

-- ---- figures

pub zero-holds : Holds nothing (replicate 80 0)
unfolding row pairs
zero-holds = record { wide = record { files-wide = refl; images-wide = refl }; is = refl }

pub added-wide : {f : Figures} (g : Figures) → Wide f → Wide (added f g)
added-wide {f} g w =
    record { files-wide = each_long f.by_files g.by_files ∙ w.files-wide; images-wide = each_long f.by_images g.by_images ∙ w.images-wide }

pub added_to-wide : {f : Figures} (gs : List Figures) → Wide f → Wide (added_to f gs)
unfolding added_to
added_to-wide [] w = w
added_to-wide {f = f} (g ∷ gs) w = added_to-wide {f = added f g} gs (added-wide g w)

pub added_to-append : (f : Figures) (gs hs : List Figures) → added_to f (gs ++ hs) ≡ added_to (added_to f gs) hs
unfolding added_to
added_to-append f [] hs = refl
added_to-append f (g ∷ gs) hs = added_to-append (added f g) gs hs

-- ---- a place

pub numbers-long : {f : Figures} → Wide f → length (numbers f) ≡ 40
numbers-long {f} w = laid-long f.files f.directories f.bytes f.extents f.sectors f.by_files f.by_images f.chain w.files-wide w.images-wide

pub row-long : {f : Figures} → Wide f → length (row f) ≡ 80
unfolding row
row-long {f} w = pairs-long (numbers f) ∙ rw (numbers-long w)

pub holds-long : {f : Figures} {s : List ℕ} → Holds f s → length s ≡ 80
holds-long h = rw h.is (row-long h.wide)

-- the figures but the chain, which is the last
abbrev counts : Figures → List ℕ
counts f = f.files ∷ f.directories ∷ f.bytes ∷ f.extents ∷ f.sectors ∷ (f.by_files ++ f.by_images)

pub row-added : {f g : Figures} → Wide f → Wide g → places_added 39 (row f) (row g) ≡ row (added f g)
unfolding row each_added
row-added {f} {g} v w =
    let l : length (counts f) ≡ 39 = rw length-append (omega arith) in
    let m : length (counts g) ≡ 39 = rw length-append (omega arith) in
    let e : each_added (f.by_files ++ f.by_images) (g.by_files ++ g.by_images) ≡ each_added f.by_files g.by_files ++ each_added f.by_images g.by_images =
    each_append f.by_files f.by_images g.by_files g.by_images (v.files-wide ∙ sym w.files-wide) in
    pairs-added 39 (counts f) (counts g) f.chain g.chain l m ∙ rw e

pub places-added : {f g : Figures} {s t : List ℕ} → Holds f s → Holds g t → Holds (added f g) (places_added 39 s t)
places-added {f} {g} h k = record { wide = added-wide g h.wide; is = rw (h.is, k.is) (row-added h.wide k.wide) }

-- ---- places one behind another, and their total

pub rows_long : {fs : List Figures} → AllWide fs → length (rows fs) ≡ 80 * length fs
unfolding rows
rows_long none-wide = refl
rows_long (more-wide {f} {fs} w ws) = rw (length-append (row f) (rows fs), row-long w, rows_long ws) (omega arith)

total-next : (n : ℕ) (total places : List ℕ) → total_of (suc n) total places ≡ total_of n (places_added 39 total (take 80 places)) (drop 80 places)
unfolding total_of
total-next n total places = refl

rows-added : {fs : List Figures} → AllWide fs → {f : Figures} → Wide f → (rest : List ℕ) → total_of (length fs) (row f) (rows fs ++ rest) ≡ row (added_to f fs)
unfolding rows total_of added_to
rows-added none-wide w rest = refl
rows-added (more-wide {f = g} {fs = gs} v vs) {f} w rest =
    let l : length (row g) ≡ 80 = row-long v in
    let e : (row g ++ rows gs) ++ rest ≡ row g ++ (rows gs ++ rest) = append_assoc (row g) (rows gs) rest in
    rw e (total-next (length gs) (row f) (row g ++ (rows gs ++ rest))
    ∙ rw (take_at (row g) (rows gs ++ rest) 80 l, drop_at (row g) (rows gs ++ rest) 80 l, row-added w v) (rows-added vs (added-wide g w) rest))

module _ {fs : List Figures} (ws : AllWide fs) (rest : List ℕ) (h : 80 ≤ length rest) where
  room : 80 * (length fs + 1) ≤ length (rows fs ++ rest)
  room = rw (length-append, rows_long ws) (omega arith)

  behind : drop (80 * (length fs + 1)) (rows fs ++ rest) ≡ drop 80 rest
  behind =
      let e : 80 * (length fs + 1) ≡ length (rows fs) + 80 = omega (arith, rows_long ws) in
      rw e (drop-append-add (rows fs) rest 80)

  pub rows-answer : total_answer (length fs) (rows fs ++ rest) ≡ 0
  rows-answer = rw (le-leb (80 * (length fs + 1)) (length (rows fs ++ rest)) room)

  pub rows-total : totaled (length fs) (rows fs ++ rest) ≡ rows fs ++ row (all_added fs) ++ drop 80 rest
  rows-total =
      rw (le-leb (80 * (length fs + 1)) (length (rows fs ++ rest)) room, take_at (rows fs) rest (80 * length fs) (rows_long ws), behind, zero-holds.is, rows-added ws zero-holds.wide rest)

-- ---- what the two numbers of a figure tell: a figure of 2^64 - 1 is told from one that is over it

module _ (ns : List ℕ) (i : ℕ) where
  pub over-number : most < get_or ns i 0 → get_or (pairs ns) (2 * i) 0 ≡ most
  over-number h = pairs-number ns i ∙ reported-above (get_or ns i 0) h

  pub over-mark : most < get_or ns i 0 → get_or (pairs ns) (2 * i + 1) 0 ≡ 1
  over-mark h = pairs-mark ns i ∙ over-above (get_or ns i 0) h

  pub within-number : get_or ns i 0 ≤ most → get_or (pairs ns) (2 * i) 0 ≡ get_or ns i 0
  within-number h = pairs-number ns i ∙ reported-within (get_or ns i 0) h

  pub within-mark : get_or ns i 0 ≤ most → get_or (pairs ns) (2 * i + 1) 0 ≡ 0
  within-mark h = pairs-mark ns i ∙ over-within (get_or ns i 0) h

  -- and back: the mark tells which
  pub marked-over : get_or (pairs ns) (2 * i + 1) 0 ≡ 1 → most < get_or ns i 0
  marked-over e = ⊎_elim (λ (h : get_or ns i 0 ≤ most). absurd (omega (arith, within-mark h))) (λ (h : most < get_or ns i 0). h) (split (get_or ns i 0) most)

  pub unmarked-within : get_or (pairs ns) (2 * i + 1) 0 ≡ 0 → get_or ns i 0 ≤ most
  unmarked-within e = ⊎_elim (λ (h : get_or ns i 0 ≤ most). h) (λ (h : most < get_or ns i 0). absurd (omega (arith, over-mark h))) (split (get_or ns i 0) most)

-- ---- the sectors of a place

pub holds-sectors : {f : Figures} {s : List ℕ} → Holds f s → get_or s 8 0 ≡ reported f.sectors
unfolding row
holds-sectors {f} h = rw h.is (pairs-number (numbers f) 4)
