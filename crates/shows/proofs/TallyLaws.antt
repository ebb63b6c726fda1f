-- What an entry adds to the figures of a place, and what the functions leave there. Assumes nothing.
use mathlib.Core.Path.{◌≡◌, refl, ◌∙◌}
use mathlib.Core.Bool.{Bool, true, false}
use mathlib.Core.List.{List}
use Prim.Native.Nat.{ℕ, min, ◌≤◌, ◌<◌}
use native.Mathlib.Omega.{arith}
use lib.ListN.{length, get_or}
use lib.Dec.{leb}
use borrow.Author.Tests.{le-leb, lt-leb}
use Rattle.disc.specs.Choice.{pick}
use Rattle.disc.specs.Refusals.{number}
use Rattle.disc.specs.Ask.{Disc, Outcome}
use Rattle.disc.specs.Ask.Outcome.{answered, refused}
use Rattle.disc.specs.Ran.{ran}
use Rattle.disc.specs.Replies.{measured_by}
use Rattle.disc.specs.declared.places.Mount.{Mount}
use Rattle.disc.proofs.RefusalLaws.{refusal-listed}
use Rattle.records.specs.declared.allocations.LongAd.{LongAd}
use Rattle.files.specs.Files.{file_bytes}
use Rattle.files.specs.Sizes.{sizes_by, sizes_of}
use Rattle.files.specs.declared.sizes.FileSizes.{FileSizes}
use Rattle.figures.specs.Figures.{Figures, Adds, one_file}
use Rattle.figures.specs.Placed.{with_directory}
use Rattle.figures.proofs.AddLaws.{file-adds, no-directory, no-file}
use Rattle.shows.specs.Inner.Placings.{sizes_placed, file_placed, entry_placed}
use Rattle.shows.specs.Tallies.{file_by, of_file}

adds_same : {g h : Figures} {s t : List ℕ} → g ≡ h → Adds g s t → Adds h s t
adds_same e a = rw e at a

-- ---- a file

abbrev told : FileSizes → Figures
told s = one_file (min s.reply.answer 16) s.reply.length s.extents s.reply.count s.hops

told_is : (count : ℕ) (o : Outcome (List ℕ)) (extents hops : ℕ) → told (sizes_by (measured_by count o) o extents hops) ≡ file_by count o extents hops
told_is count (answered b) extents hops = refl
told_is count (refused why) extents hops =
    let n : min (number why) 16 ≡ number why = omega (arith, refusal-listed why) in
    rw n

module _ (d : Disc) (m : Mount) where
  pub file-holds : (icb : LongAd) (s : List ℕ) → Adds (of_file d m icb) s (sizes_placed (sizes_of d m icb) s)
  unfolding sizes_of of_file
  file-holds icb s =
      let z = sizes_of d m icb in
      adds_same (told_is _ (ran d (file_bytes m icb)).outcome _ _) (file-adds (min z.reply.answer 16) z.reply.length z.extents z.reply.count z.hops (omega arith) s)

-- ---- what the functions leave

module _ (d : Disc) (m : Mount) (most : ℕ) (icb : LongAd) where
  -- no file is read any more
  pub file-none : (s : List ℕ) {n : ℕ} → n ≡ get_or s 8 0 → most < n → s ≡ file_placed d m most icb s
  unfolding file_placed
  file-none s e h = rw (lt-leb (get_or s 8 0) most (omega arith))

  pub file-left : {z : FileSizes} → z ≡ sizes_of d m icb → (s : List ℕ) {n : ℕ} → n ≡ get_or s 8 0 → n ≤ most → {t : List ℕ} → t ≡ sizes_placed z s → t ≡ file_placed d m most icb s
  unfolding file_placed
  file-left e s g h f = f ∙ rw (le-leb (get_or s 8 0) most (omega arith), e)

  module _ (directory : Bool) (s : List ℕ) where
    -- a slice that is no place stays as it came
    pub entry-none : (length s ≡ 80 → ⊥) → s ≡ entry_placed d m most directory icb s
    unfolding file_placed
    entry-none h = by directory (leb (get_or s 8 0) most)
      where
        by : (t u : Bool) → s ≡ pick t (with_directory s) (pick u (sizes_placed (sizes_of d m icb) s) s)
        by true u = no-directory h
        by false true = no-file h _ _ _ _ _
        by false false = refl

    pub entry-directory : directory ≡ true → {t : List ℕ} → t ≡ with_directory s → t ≡ entry_placed d m most directory icb s
    entry-directory b e = e ∙ rw b

    pub entry-file : directory ≡ false → {i : LongAd} → i ≡ icb → {t : List ℕ} → t ≡ file_placed d m most i s → t ≡ entry_placed d m most directory icb s
    entry-file b f e = e ∙ rw (b, f)
