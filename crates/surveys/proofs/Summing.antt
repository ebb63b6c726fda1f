-- What each figure of an image is, where its opening and its tree are answered: a number of nodes, a sum over them, or the greatest. RULES 16.4 and 16.7. Assumes nothing.
use Rattle.std.specs.Prelude.{Option}
use mathlib.Core.Path.{◌≡◌}
use mathlib.Core.Bool.{true}
use mathlib.Core.List.{List}
use Prim.Native.Nat.{ℕ}
use native.Mathlib.Omega.{arith}
use Rattle.disc.specs.Images.{disc}
use Rattle.disc.specs.Ask.{Disc}
use Rattle.disc.specs.Ask.Outcome.{answered}
use Rattle.disc.specs.declared.places.Mount.{Mount}
use Rattle.volumes.specs.declared.openings.VolumeRecord.{VolumeRecord}
use Rattle.figures.specs.Figures.{Figures, one_image, added}
use Rattle.figures.proofs.RowLaws.{each_none}
use Rattle.shows.specs.Shows.{Node}
use Rattle.shows.specs.Sums.{SumsOf}
use Rattle.shows.specs.Tallies.{of_nodes, reads_within}
use Rattle.shows.proofs.Summing.{nodes-summed}
use Rattle.surveys.specs.Surveys.{of_image}
use Rattle.surveys.specs.Shelves.{lent_opening, lent_tree, lent_reads}
use Rattle.surveys.proofs.Promises.{image-tallied}
use Rattle.volumes.specs.declared.openings.How.{How}

-- an image more changes nothing of its nodes
image-more : (d : Disc) (m : Mount) (ns : List Node) (f : Figures) → SumsOf d m ns f → SumsOf d m ns (added f (one_image 0))
image-more d m ns f s = record {
  files = omega (arith, s.files);
  directories = omega (arith, s.directories);
  bytes = omega (arith, s.bytes);
  extents = omega (arith, s.extents);
  sectors = omega (arith, s.sectors);
  many = rw (each_none f.by_files 17) s.many;
  by_files = λ k h. rw (each_none f.by_files 17) (s.by_files k h);
  chain = omega (arith, s.chain);
}

module _ (how : Option How) (most work : ℕ) (image : List ℕ) {v : VolumeRecord} (o : (lent_opening how most image).outcome ≡ answered v) {ns : List Node} (e : (lent_tree how most work image v).outcome ≡ answered ns)
    (w : reads_within (disc image) v.mount (lent_reads how most work image v) ns ≡ true) where
  pub image-summed : SumsOf (disc image) v.mount ns (of_image how most work image)
  image-summed = rw (image-tallied how most work image o e w) (image-more (disc image) v.mount ns (of_nodes (disc image) v.mount ns) (nodes-summed (disc image) v.mount ns))
