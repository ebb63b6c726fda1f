-- Each figure of a tree's nodes is a number of nodes, a sum over them, or the greatest. Assumes nothing.
use mathlib.Core.Path.{◌≡◌, refl, sym, ap, ◌∙◌}
use mathlib.Core.Bool.{Bool, true, false}
use mathlib.Core.List.{List, [], ◌∷◌, ◌++◌, map}
use Prim.Native.Nat.{ℕ, zero, suc, ◌+◌, ◌-◌, ◌≤◌, max}
use native.Mathlib.Omega.{arith}
use lib.ListN.{length, get_or, replicate, length-append, length-replicate}
use lib.Dec.{eqb}
use borrow.Author.Tests.{ne_eqb, eqb-true, eqb-false}
use Rattle.disc.specs.Choice.{pick}
use Rattle.disc.specs.Ask.{Disc, Outcome}
use Rattle.disc.specs.Ask.Outcome.{answered, refused}
use Rattle.disc.specs.Counts.{reported}
use Rattle.disc.specs.Refusals.{number}
use Rattle.disc.specs.Replies.{answer_of, measured_by}
use Rattle.disc.specs.declared.places.Mount.{Mount}
use Rattle.disc.proofs.RefusalLaws.{refusal-listed, refusal-numbered}
use Rattle.identifiers.specs.Identifiers.{is_directory}
use Rattle.figures.specs.Figures.{Figures, nothing, one_at, each_added, added, added_to, Wide, sum}
use Rattle.figures.proofs.FigureLaws.{zero-holds, added-wide, added_to-wide}
use Rattle.shows.specs.Shows.{Node}
use Rattle.shows.specs.Sums.{directories_in, files_in, read_of, bytes_of, sectors_of, extents_of, hops_of, answering, greatest, SumsOf}
use Rattle.shows.specs.Tallies.{file_by, of_file, of_entry, of_node, of_nodes}

-- ---- a number under an answer number

abbrev zeros : ℕ → List ℕ
zeros n = replicate n 0

zeros-at : (n k : ℕ) → get_or (zeros n) k 0 ≡ 0
zeros-at zero k = refl
zeros-at (suc n) zero = refl
zeros-at (suc n) (suc k) = zeros-at n k

one-there : (n more : ℕ) → get_or (zeros n ++ 1 ∷ zeros more) n 0 ≡ 1
one-there zero more = refl
one-there (suc n) more = one-there n more

one-elsewhere : (n more k : ℕ) → (n ≡ k → ⊥) → get_or (zeros n ++ 1 ∷ zeros more) k 0 ≡ 0
one-elsewhere zero more zero h = absurd (h refl)
one-elsewhere zero more (suc k) h = zeros-at more k
one-elsewhere (suc n) more zero h = refl
one-elsewhere (suc n) more (suc k) h = one-elsewhere n more k (λ e. h (ap suc e))

one-at : (n k : ℕ) → get_or (one_at n) k 0 ≡ pick (eqb n k) 1 0
one-at n k = by (eqb n k) refl
  where
    by : (t : Bool) → eqb n k ≡ t → get_or (one_at n) k 0 ≡ pick t 1 0
    by true e = rw (sym (eqb-true n k e)) (one-there n (16 - n))
    by false e = one-elsewhere n (16 - n) k (eqb-false n k e)

pub each_at : (s t : List ℕ) (k : ℕ) → length s ≡ length t → get_or (each_added s t) k 0 ≡ get_or s k 0 + get_or t k 0
unfolding each_added
each_at [] [] k h = refl
each_at [] (b ∷ t) k h = absurd (omega arith)
each_at (a ∷ s) [] k h = absurd (omega arith)
each_at (a ∷ s) (b ∷ t) zero h = refl
each_at (a ∷ s) (b ∷ t) (suc k) h = each_at s t k (omega arith)

-- ---- what a file adds

record Adding (d : Disc) (m : Mount) (n : Node) (f : Figures) : Type 0 where
  files : f.files ≡ 1
  directories : f.directories ≡ 0
  bytes : f.bytes ≡ bytes_of d m n
  extents : f.extents ≡ pick (eqb (answer_of (read_of d m n).outcome) 0) (extents_of d m n) 0
  sectors : f.sectors ≡ sectors_of d m n
  by_answer : f.by_files ≡ one_at (answer_of (read_of d m n).outcome)
  small : answer_of (read_of d m n).outcome ≤ 16
  chain : f.chain ≡ pick (eqb (answer_of (read_of d m n).outcome) 0) (hops_of d m n) 0

file-adds : (d : Disc) (m : Mount) (n : Node) → Adding d m n (of_file d m n.entry.identifier.icb)
unfolding of_file
file-adds d m n = by (read_of d m n).outcome refl
  where
    by : (o : Outcome (List ℕ)) → (read_of d m n).outcome ≡ o → Adding d m n (file_by (reported (read_of d m n).count) o (extents_of d m n) (hops_of d m n))
    by (answered b) e = record {
      files = refl;
      directories = refl;
      bytes = sym (ap (λ (o : Outcome (List ℕ)). (measured_by (reported (read_of d m n).count) o).length) e);
      extents = rw e;
      sectors = sym (ap (λ (o : Outcome (List ℕ)). (measured_by (reported (read_of d m n).count) o).count) e);
      by_answer = rw e;
      small = rw e (omega arith);
      chain = rw e;
    }
    by (refused why) e = let z : eqb (number why) 0 ≡ false = ne_eqb (number why) 0 (refusal-numbered why) in record {
      files = refl;
      directories = refl;
      bytes = sym (ap (λ (o : Outcome (List ℕ)). (measured_by (reported (read_of d m n).count) o).length) e);
      extents = rw (e, z);
      sectors = sym (ap (λ (o : Outcome (List ℕ)). (measured_by (reported (read_of d m n).count) o).count) e);
      by_answer = rw e;
      small = rw e (refusal-listed why);
      chain = rw (e, z);
    }

one-long : (n : ℕ) → n ≤ 16 → length (one_at n) ≡ 17
one-long n h = length-append (zeros n) (1 ∷ zeros (16 - n)) ∙ omega (arith, length-replicate {A = ℕ} n 0, length-replicate {A = ℕ} (16 - n) 0)

module _ (d : Disc) (m : Mount) where
  -- ---- any figure, by what each node adds

  fold-to : (get : Figures → ℕ) (op : ℕ → ℕ → ℕ) → ((x : ℕ) → op x 0 ≡ x) → ((x y z : ℕ) → op (op x y) z ≡ op x (op y z)) → (of : List Node → ℕ) → of [] ≡ 0
      → ((a : Figures) (n : Node) → Wide a → get (added a (of_node d m n)) ≡ op (get a) (get (of_node d m n))) → ((n : Node) (ns : List Node) → of (n ∷ ns) ≡ op (get (of_node d m n)) (of ns))
      → (ns : List Node) (f : Figures) → Wide f → get (added_to f (map (of_node d m) ns)) ≡ op (get f) (of ns)
  unfolding added_to
  fold-to get op none assoc of nil one cons [] f w = rw nil (sym (none (get f)))
  fold-to get op none assoc of nil one cons (n ∷ ns) f w =
      fold-to get op none assoc of nil one cons ns (added f (of_node d m n)) (added-wide (of_node d m n) w)
      ∙ rw (one f n w, cons n ns) (assoc (get f) (get (of_node d m n)) (of ns))

  -- from no figures on
  total : (get : Figures → ℕ) (of : List Node → ℕ) → get nothing ≡ 0 → of [] ≡ 0
      → ((a : Figures) (n : Node) → Wide a → get (added a (of_node d m n)) ≡ get a + get (of_node d m n)) → ((n : Node) (ns : List Node) → of (n ∷ ns) ≡ get (of_node d m n) + of ns)
      → (ns : List Node) → get (of_nodes d m ns) ≡ of ns
  total get of start nil one cons ns = fold-to get (λ x y. x + y) (λ x. omega arith) (λ x y z. omega arith) of nil one cons ns nothing zero-holds.wide ∙ rw start (omega arith)

  -- ---- what each node adds

  files-one : (n : Node) (ns : List Node) → length (files_in (n ∷ ns)) ≡ (of_node d m n).files + length (files_in ns)
  unfolding files_in
  files-one n ns = by (is_directory n.entry.identifier)
    where
      by : (t : Bool) → length (pick t (files_in ns) (n ∷ files_in ns)) ≡ (of_entry d m t n.entry.identifier.icb).files + length (files_in ns)
      by true = omega arith
      by false = omega (arith, (file-adds d m n).files)

  directories-one : (n : Node) (ns : List Node) → length (directories_in (n ∷ ns)) ≡ (of_node d m n).directories + length (directories_in ns)
  unfolding directories_in
  directories-one n ns = by (is_directory n.entry.identifier)
    where
      by : (t : Bool) → length (pick t (n ∷ directories_in ns) (directories_in ns)) ≡ (of_entry d m t n.entry.identifier.icb).directories + length (directories_in ns)
      by true = omega arith
      by false = omega (arith, (file-adds d m n).directories)

  bytes_one : (n : Node) (ns : List Node) → sum (map (bytes_of d m) (files_in (n ∷ ns))) ≡ (of_node d m n).bytes + sum (map (bytes_of d m) (files_in ns))
  unfolding files_in sum
  bytes_one n ns = by (is_directory n.entry.identifier)
    where
      by : (t : Bool) → sum (map (bytes_of d m) (pick t (files_in ns) (n ∷ files_in ns))) ≡ (of_entry d m t n.entry.identifier.icb).bytes + sum (map (bytes_of d m) (files_in ns))
      by true = omega arith
      by false = omega (arith, (file-adds d m n).bytes)

  sectors-one : (n : Node) (ns : List Node) → sum (map (sectors_of d m) (files_in (n ∷ ns))) ≡ (of_node d m n).sectors + sum (map (sectors_of d m) (files_in ns))
  unfolding files_in sum
  sectors-one n ns = by (is_directory n.entry.identifier)
    where
      by : (t : Bool) → sum (map (sectors_of d m) (pick t (files_in ns) (n ∷ files_in ns))) ≡ (of_entry d m t n.entry.identifier.icb).sectors + sum (map (sectors_of d m) (files_in ns))
      by true = omega arith
      by false = omega (arith, (file-adds d m n).sectors)

  abbrev read_in : List Node → List Node
  read_in ns = answering d m 0 (files_in ns)

  extents-one : (n : Node) (ns : List Node) → sum (map (extents_of d m) (read_in (n ∷ ns))) ≡ (of_node d m n).extents + sum (map (extents_of d m) (read_in ns))
  unfolding files_in answering sum
  extents-one n ns = by (is_directory n.entry.identifier)
    where
      read : (t : Bool) → sum (map (extents_of d m) (pick t (n ∷ read_in ns) (read_in ns))) ≡ pick t (extents_of d m n) 0 + sum (map (extents_of d m) (read_in ns))
      read true = refl
      read false = omega arith

      by : (t : Bool) → sum (map (extents_of d m) (answering d m 0 (pick t (files_in ns) (n ∷ files_in ns)))) ≡ (of_entry d m t n.entry.identifier.icb).extents + sum (map (extents_of d m) (read_in ns))
      by true = omega arith
      by false = rw (file-adds d m n).extents (read (eqb (answer_of (read_of d m n).outcome) 0))

  chain-one : (n : Node) (ns : List Node) → greatest (map (hops_of d m) (read_in (n ∷ ns))) ≡ max (of_node d m n).chain (greatest (map (hops_of d m) (read_in ns)))
  unfolding files_in answering greatest
  chain-one n ns = by (is_directory n.entry.identifier)
    where
      read : (t : Bool) → greatest (map (hops_of d m) (pick t (n ∷ read_in ns) (read_in ns))) ≡ max (pick t (hops_of d m n) 0) (greatest (map (hops_of d m) (read_in ns)))
      read true = refl
      read false = omega arith

      by : (t : Bool) → greatest (map (hops_of d m) (answering d m 0 (pick t (files_in ns) (n ∷ files_in ns)))) ≡ max (of_entry d m t n.entry.identifier.icb).chain (greatest (map (hops_of d m) (read_in ns)))
      by true = omega arith
      by false = rw (file-adds d m n).chain (read (eqb (answer_of (read_of d m n).outcome) 0))

  answers_one : (k : ℕ) (n : Node) (ns : List Node) → length (answering d m k (files_in (n ∷ ns))) ≡ get_or (of_node d m n).by_files k 0 + length (answering d m k (files_in ns))
  unfolding files_in answering
  answers_one k n ns = by (is_directory n.entry.identifier)
    where
      read : (t : Bool) → length (pick t (n ∷ answering d m k (files_in ns)) (answering d m k (files_in ns))) ≡ pick t 1 0 + length (answering d m k (files_in ns))
      read true = omega arith
      read false = omega arith

      by : (t : Bool) → length (answering d m k (pick t (files_in ns) (n ∷ files_in ns))) ≡ get_or (of_entry d m t n.entry.identifier.icb).by_files k 0 + length (answering d m k (files_in ns))
      by true = omega (arith, zeros-at 17 k)
      by false = rw ((file-adds d m n).by_answer, one-at (answer_of (read_of d m n).outcome) k) (read (eqb (answer_of (read_of d m n).outcome) k))

  node-many : (n : Node) → length (of_node d m n).by_files ≡ 17
  node-many n = by (is_directory n.entry.identifier)
    where
      by : (t : Bool) → length (of_entry d m t n.entry.identifier.icb).by_files ≡ 17
      by true = refl
      by false = rw (file-adds d m n).by_answer (one-long (answer_of (read_of d m n).outcome) (file-adds d m n).small)

  -- ---- the figures of the nodes are these sums

  pub nodes-summed : (ns : List Node) → SumsOf d m ns (of_nodes d m ns)
  unfolding files_in directories_in answering sum greatest
  nodes-summed ns = record {
    files = total (λ f. f.files) (λ l. length (files_in l)) refl refl (λ a n w. refl) files-one ns;
    directories = total (λ f. f.directories) (λ l. length (directories_in l)) refl refl (λ a n w. refl) directories-one ns;
    bytes = total (λ f. f.bytes) (λ l. sum (map (bytes_of d m) (files_in l))) refl refl (λ a n w. refl) bytes_one ns;
    extents = total (λ f. f.extents) (λ l. sum (map (extents_of d m) (read_in l))) refl refl (λ a n w. refl) extents-one ns;
    sectors = total (λ f. f.sectors) (λ l. sum (map (sectors_of d m) (files_in l))) refl refl (λ a n w. refl) sectors-one ns;
    many = (added_to-wide (map (of_node d m) ns) zero-holds.wide).files-wide;
    by_files = λ k h. total (λ f. get_or f.by_files k 0) (λ l. length (answering d m k (files_in l))) (zeros-at 17 k) refl
        (λ a n w. each_at a.by_files (of_node d m n).by_files k (w.files-wide ∙ sym (node-many n))) (answers_one k) ns;
    chain = fold-to (λ f. f.chain) max (λ x. omega arith) (λ x y z. omega arith) (λ l. greatest (map (hops_of d m) (read_in l))) refl (λ a n w. refl) chain-one ns nothing zero-holds.wide ∙ omega arith;
  }
