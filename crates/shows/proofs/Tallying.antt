-- What is proved of a tree's figures, from the definitions alone: their sectors are those that reading its files reports, each node is a file or a directory, and
-- each file has one answer number. Assumes nothing.
use mathlib.Core.Path.{◌≡◌, refl, sym, ap, ◌∙◌}
use mathlib.Core.Bool.{Bool, true, false}
use mathlib.Core.List.{List, [], ◌∷◌, ◌++◌, map}
use Prim.Native.Nat.{ℕ, zero, suc, ◌+◌, ◌-◌, ◌≤◌}
use native.Mathlib.Omega.{arith}
use lib.ListN.{length, replicate, length-append, length-replicate}
use Rattle.disc.specs.Choice.{pick}
use Rattle.disc.specs.Counts.{reported}
use Rattle.disc.specs.Ask.{Disc, Outcome}
use Rattle.disc.specs.Ask.Outcome.{answered, refused}
use Rattle.disc.specs.Ran.{ran}
use Rattle.disc.specs.declared.places.Mount.{Mount}
use Rattle.disc.proofs.RefusalLaws.{refusal-listed}
use Rattle.records.specs.declared.allocations.LongAd.{LongAd}
use Rattle.files.specs.Files.{file_bytes}
use Rattle.figures.specs.Figures.{Figures, nothing, one_at, one_file, each_added, added, added_to, Wide, sum}
use Rattle.figures.proofs.FigureLaws.{zero-holds, added-wide}
use Rattle.identifiers.specs.Identifiers.{is_directory}
use Rattle.shows.specs.Shows.{Node}
use Rattle.shows.specs.Tallies.{file_by, of_file, of_entry, of_node, of_nodes, read_counts}

-- ---- a file is one file, with one answer number

pub record OneFile (f : Figures) (sectors : ℕ) : Type 0 where
  pub answer : ℕ
  pub listed : answer ≤ 16
  pub bytes : ℕ
  pub extents : ℕ
  pub chain : ℕ
  pub is : f ≡ one_file answer bytes extents sectors chain

one-file : (sectors : ℕ) (o : Outcome (List ℕ)) (extents chain : ℕ) → OneFile (file_by sectors o extents chain) sectors
one-file sectors (answered b) extents chain = record { answer = 0; listed = omega arith; bytes = length b; extents = extents; chain = chain; is = refl }
one-file sectors (refused why) extents chain = record { answer = _; listed = refusal-listed why; bytes = 0; extents = 0; chain = 0; is = refl }

-- ---- numbers added up

sum-joined : (a b : List ℕ) → sum (a ++ b) ≡ sum a + sum b
unfolding sum
sum-joined [] b = omega arith
sum-joined (n ∷ a) b = omega (arith, sum-joined a b)

sum_zeros : (n : ℕ) → sum (replicate n 0) ≡ 0
unfolding sum
sum_zeros zero = refl
sum_zeros (suc n) = omega (arith, sum_zeros n)

one-sum : (n : ℕ) → sum (one_at n) ≡ 1
unfolding sum
one-sum n = sum-joined (replicate n 0) (1 ∷ replicate (16 - n) 0) ∙ omega (arith, sum_zeros n, sum_zeros (16 - n))

one-long : (n : ℕ) → n ≤ 16 → length (one_at n) ≡ 17
one-long n h = length-append (replicate n 0) (1 ∷ replicate (16 - n) 0) ∙ omega (arith, length-replicate {A = ℕ} n 0, length-replicate {A = ℕ} (16 - n) 0)

each-sum : (s t : List ℕ) → length s ≡ length t → sum (each_added s t) ≡ sum s + sum t
unfolding each_added sum
each-sum [] [] h = refl
each-sum [] (b ∷ t) h = absurd (omega arith)
each-sum (a ∷ s) [] h = absurd (omega arith)
each-sum (a ∷ s) (b ∷ t) h = let e = each-sum s t (omega arith) in omega arith

module _ (d : Disc) (m : Mount) where
  pub file-is : (icb : LongAd) → OneFile (of_file d m icb) (reported (ran d (file_bytes m icb)).count)
  unfolding of_file
  file-is icb = one-file _ (ran d (file_bytes m icb)).outcome _ _

  -- ---- the sectors

  sectors-to : (ns : List Node) (f : Figures) → (added_to f (map (of_node d m) ns)).sectors ≡ f.sectors + sum (read_counts d m ns)
  unfolding added_to read_counts sum
  sectors-to [] f = omega arith
  sectors-to (n ∷ ns) f = sectors-to ns (added f (of_node d m n)) ∙ by (is_directory n.entry.identifier)
    where
      icb : LongAd
      icb = n.entry.identifier.icb

      by : (t : Bool) → f.sectors + (of_entry d m t icb).sectors + sum (read_counts d m ns) ≡ f.sectors + sum (pick t (read_counts d m ns) (reported (ran d (file_bytes m icb)).count ∷ read_counts d m ns))
      by true = omega arith
      by false = omega (arith, ap (λ (x : Figures). x.sectors) (file-is icb).is)

  -- they are what reading each of the files reports, in sum
  pub sectors-summed : (ns : List Node) → (of_nodes d m ns).sectors ≡ sum (read_counts d m ns)
  sectors-summed ns = sectors-to ns nothing ∙ omega arith

  -- ---- files and directories

  nodes-to : (ns : List Node) (f : Figures) → (added_to f (map (of_node d m) ns)).files + (added_to f (map (of_node d m) ns)).directories ≡ f.files + f.directories + length ns
  unfolding added_to
  nodes-to [] f = omega arith
  nodes-to (n ∷ ns) f = nodes-to ns (added f (of_node d m n)) ∙ by (is_directory n.entry.identifier)
    where
      icb : LongAd
      icb = n.entry.identifier.icb

      by : (t : Bool) → f.files + (of_entry d m t icb).files + (f.directories + (of_entry d m t icb).directories) + length ns ≡ f.files + f.directories + suc (length ns)
      by true = omega arith
      by false =
          let e = (file-is icb).is in
          omega (arith, ap (λ (x : Figures). x.files) e, ap (λ (x : Figures). x.directories) e)

  -- each node is one or the other
  pub files-directories : (ns : List Node) → (of_nodes d m ns).files + (of_nodes d m ns).directories ≡ length ns
  files-directories ns = nodes-to ns nothing ∙ omega arith

  -- ---- files by their answer numbers

  entry-answered : (t : Bool) (icb : LongAd) → (length (of_entry d m t icb).by_files ≡ 17) × (sum (of_entry d m t icb).by_files ≡ (of_entry d m t icb).files)
  unfolding sum
  entry-answered true icb = (refl, refl)
  entry-answered false icb = let z = file-is icb in rw z.is (one-long z.answer z.listed, one-sum z.answer)

  answers-to : (ns : List Node) (f : Figures) → Wide f → sum f.by_files ≡ f.files → sum (added_to f (map (of_node d m) ns)).by_files ≡ (added_to f (map (of_node d m) ns)).files
  unfolding added_to
  answers-to [] f w h = h
  answers-to (n ∷ ns) f w h =
      let e = entry-answered (is_directory n.entry.identifier) n.entry.identifier.icb in
      answers-to ns (added f (of_node d m n)) (added-wide (of_node d m n) w) (each-sum f.by_files (of_node d m n).by_files (w.files-wide ∙ sym e.0) ∙ rw (h, e.1))

  -- each file has one
  pub files-by-answer : (ns : List Node) → sum (of_nodes d m ns).by_files ≡ (of_nodes d m ns).files
  unfolding sum
  files-by-answer ns = answers-to ns nothing zero-holds.wide refl
