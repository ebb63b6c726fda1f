-- One sector of a volume descriptor sequence, by its id: which case of its definition the code is in. Assumes nothing.
use Rattle.std.specs.Prelude.{⊤, true, Result, Ok, Err}
use Prim.Native.Nat.{ℕ}
use mathlib.Core.Path.{◌≡◌, refl, ap, sym, ◌∙◌}
use mathlib.Core.List.{List}
use borrow.Author.Tests.{ne_eqb}
use Rattle.disc.specs.Ask.{Outcome}
use Rattle.disc.specs.Ask.Outcome.{answered, refused}
use Rattle.disc.specs.declared.refusals.Refusal.{Refusal}
use Rattle.records.specs.Bytes.{u16at}
use Rattle.descriptors.specs.Volumes.{read_primary, read_partition, read_logical}
use Rattle.descriptors.specs.declared.primaries.PrimaryVolumeDescriptor.{PrimaryVolumeDescriptor}
use Rattle.descriptors.specs.declared.logicals.LogicalVolumeDescriptor.{LogicalVolumeDescriptor}
use Rattle.volumes.specs.Sequences.{order_of, any_partition, wanted_of, primary_in, partition_in, logical_in, says_in, turned, turned_on, turn_of}
use Rattle.volumes.specs.Sequences.Says.{passed, over}
use Rattle.volumes.specs.declared.sequences.Kept.{Kept}
use Rattle.volumes.specs.declared.sequences.Wanted.{Wanted}
use Rattle.volumes.specs.declared.sequences.SectorTurn.{SectorTurn}
use Rattle.volumes.specs.declared.openings.How.{How}

-- which partition descriptors are wanted says nothing of the other two kinds
same-primary : (how : How) (wanted : Wanted) (k : Kept) (x : Outcome PrimaryVolumeDescriptor) → turn_of (order_of how) any_partition k (primary_in x) ≡ turn_of (order_of how) (wanted_of wanted) k (primary_in x)
same-primary how wanted k (answered d) = refl
same-primary how wanted k (refused r) = refl

same-logical : (how : How) (wanted : Wanted) (k : Kept) (x : Outcome LogicalVolumeDescriptor) → turn_of (order_of how) any_partition k (logical_in x) ≡ turn_of (order_of how) (wanted_of wanted) k (logical_in x)
same-logical how wanted k (answered d) = refl
same-logical how wanted k (refused r) = refl

-- what a descriptor comes to, as what its sector comes to
pub went : {r : Result ⊤ Refusal} {l : Kept} {x : SectorTurn} {u : ⊤} → turned r l ≡ x → r ≡ Ok u → turned_on (Ok true) l ≡ x
went {r} {l} q h = ap (λ y. turned y l) (sym h) ∙ q

pub failed : {r : Result ⊤ Refusal} (l : Kept) {x : SectorTurn} {why : Refusal} → turned r l ≡ x → r ≡ Err why → turned_on (Err why) l ≡ x
failed {r} l q h = ap (λ y. turned y l) (sym h) ∙ q

module _ (how : How) (wanted : Wanted) (k : Kept) (b : List ℕ) {id : ℕ} (i : id ≡ u16at b 0) where
  pub id-primary : {t : SectorTurn} → id ≡ 1 → t ≡ turn_of (order_of how) any_partition k (primary_in (read_primary how.checked b)) → t ≡ turn_of (order_of how) (wanted_of wanted) k (says_in how.checked b)
  unfolding says_in
  id-primary h q = rw (← i, h) (q ∙ same-primary how wanted k (read_primary how.checked b))

  pub id-partition : {t : SectorTurn} → id ≡ 5 → t ≡ turn_of (order_of how) (wanted_of wanted) k (partition_in (read_partition how.checked b)) → t ≡ turn_of (order_of how) (wanted_of wanted) k (says_in how.checked b)
  unfolding says_in
  id-partition h q = rw (← i, h) q

  pub id-logical : {t : SectorTurn} → id ≡ 6 → t ≡ turn_of (order_of how) any_partition k (logical_in (read_logical how.checked b)) → t ≡ turn_of (order_of how) (wanted_of wanted) k (says_in how.checked b)
  unfolding says_in
  id-logical h q = rw (← i, h) (q ∙ same-logical how wanted k (read_logical how.checked b))

  pub id-terminating : id ≡ 8 → turn_of (order_of how) (wanted_of wanted) k over ≡ turn_of (order_of how) (wanted_of wanted) k (says_in how.checked b)
  unfolding says_in
  id-terminating h = rw (← i, h)

  pub id_other : (id ≡ 1 → ⊥) → (id ≡ 5 → ⊥) → (id ≡ 6 → ⊥) → (id ≡ 8 → ⊥) → turn_of (order_of how) (wanted_of wanted) k passed ≡ turn_of (order_of how) (wanted_of wanted) k (says_in how.checked b)
  unfolding says_in
  id_other p q r s = rw (← i, ne_eqb id 1 p, ne_eqb id 5 q, ne_eqb id 6 r, ne_eqb id 8 s)
