-- Laws of the state in which an opening and a read begin, field by field. Assumes nothing.
use Rattle.std.specs.Prelude.{Option, Some, None}
use mathlib.Core.Path.{◌≡◌, refl, ◌∙◌}
use borrow.Author.Tests.{eq-eqb, ne_eqb}
use Rattle.disc.specs.Places.{icb_placed, StandsIn}
use Rattle.disc.specs.declared.places.Mount.{Mount}
use Rattle.disc.specs.declared.places.Sector.{Sector}
use Rattle.disc.proofs.PlaceLaws.{in-nowhere, in-at}
use Rattle.records.specs.declared.allocations.LongAd.{LongAd}
use Rattle.volumes.specs.Sequences.{nothing}
use Rattle.volumes.specs.declared.sequences.Kept.{Kept}
use Rattle.files.specs.Files.{entry_mount}
use Rattle.drives.specs.Beginnings.{at_anchor, start_of}
use Rattle.drives.specs.Inner.Turns.{Ends}
use Rattle.drives.specs.Inner.Arrivals.{beginning}
use Rattle.drives.specs.declared.openings.Opening.{Opening}
use Rattle.drives.specs.declared.readings.Reading.{Reading}
use Rattle.drives.proofs.OpeningLaws.{place}

pub anchor-is : (r : Opening) {k : Kept} → k ≡ nothing → r ≡ place 0 256 0 k 0 → r ≡ at_anchor
anchor-is r e h = h ∙ rw e refl

module _ (m : Mount) (icb : LongAd) {r : Reading} {o : Mount} (f : o ≡ entry_mount m icb) where
  pub short-is : (x : Reading) → icb.length ≡ 0 → r ≡ beginning o 0 → Ends r 2 x → x ≡ start_of m icb
  unfolding start_of
  short-is x l b p = p.is ∙ rw (b, f, eq-eqb icb.length 0 l) refl

  module _ (l : icb.length ≡ 0 → ⊥) {p : Option Sector} (q : StandsIn (icb_placed m icb.location.partition_ref icb.location.block) p) where
    pub nowhere-is : p ≡ None → (x : Reading) → r ≡ beginning o 0 → Ends r 4 x → x ≡ start_of m icb
    unfolding start_of
    nowhere-is e x b g = g.is ∙ rw (b, f, ne_eqb icb.length 0 l, in-nowhere _ q e) refl

    pub placed-is : {s : Sector} → p ≡ Some s → r ≡ beginning o s.0 → r ≡ start_of m icb
    unfolding start_of
    placed-is e b = b ∙ rw (f, ne_eqb icb.length 0 l, in-at _ q e) refl
