-- Opening answers with no label but one that is a name, so the label call refuses as opening does. Assumes nothing.
use Rattle.std.specs.Prelude.{Option, Some, None, Result, Ok, Err}
use mathlib.Core.Path.{◌≡◌, refl}
use mathlib.Core.Bool.{Bool, true, false}
use mathlib.Core.List.{List, [], ◌∷◌}
use Prim.Native.Nat.{ℕ, zero, suc, ◌+◌}
use native.Mathlib.Omega.{arith}
use lib.Dec.{eqb}
use Rattle.disc.specs.Choice.{pick}
use Rattle.disc.specs.Ask.{Disc, Held, Ask, Outcome, outcome, then, given, ended}
use Rattle.disc.specs.Ask.Held.{holds, lacks}
use Rattle.disc.specs.Ask.Ask.{done, refuse, ask}
use Rattle.disc.specs.Ask.Outcome.{answered, refused}
use Rattle.disc.specs.Places.{standing}
use Rattle.disc.specs.declared.places.Mount.{Mount}
use Rattle.disc.specs.declared.refusals.Refusal.{Refusal}
use Rattle.disc.specs.declared.refusals.Refusal.TheVariants.{Io, NotBluray, Unsupported}
use Rattle.disc.proofs.OnlyLaws.{only_then}
use Rattle.disc.proofs.PickLaws.{pick-both}
use Rattle.records.specs.Bytes.{u16at}
use Rattle.names.specs.Names.{name_of, name_of_field}
use Rattle.descriptors.specs.Volumes.{read_anchor, read_partition, read_primary, read_logical}
use Rattle.descriptors.specs.FileSets.{read_file_set}
use Rattle.descriptors.specs.declared.primaries.PrimaryVolumeDescriptor.{PrimaryVolumeDescriptor}
use Rattle.descriptors.specs.declared.logicals.LogicalVolumeDescriptor.{LogicalVolumeDescriptor}
use Rattle.descriptors.specs.declared.file_sets.FileSetDescriptor.{FileSetDescriptor}
use Rattle.descriptors.proofs.AnswerLaws.{primary-good}
use Rattle.volumes.specs.declared.sequences.Kept.{Kept}
use Rattle.volumes.specs.declared.openings.VolumeRecord.{VolumeRecord}
use Rattle.volumes.specs.declared.openings.How.{How}
use Rattle.volumes.specs.Sequences.{nothing, Parsed, Order, order_of, any_partition, counts, replacing, prevailing, kept_of, Says, primary_in, partition_in, logical_in, says_in, go_on, scan}
use Rattle.volumes.specs.Sequences.Parsed.{primary, partition, logical}
use Rattle.volumes.specs.Sequences.Says.{found, passed, over, fails}
use Rattle.volumes.specs.Openings.{mount_of, file_set_in, volume_in, file_set_on, mounting_of, mounting, anchored, opening}
use Rattle.disc.specs.Refusing.{Only}
use Rattle.descriptors.specs.declared.partitions.PartitionDescriptor.{PartitionDescriptor}
use Rattle.descriptors.specs.declared.anchors.AnchorVolumeDescriptorPointer.{AnchorVolumeDescriptorPointer}

-- ---- a tree that answers with nothing but what is Q

abbrev pub Answers : {A : Type 0} → (A → Type 0) → Ask A → Type 0
Answers Q m = Only (λ why. Unit {0}) Q m

pub record IsAnswered {A : Type 0} (o : Outcome A) : Type 0 where
  pub value : A
  pub is : o ≡ answered value

-- what follows without a question, and refuses nothing, refuses as what it follows
pub refused-before : {A B : Type 0} (d : Disc) (m : Ask A) (f : A → Outcome B) {r : Refusal} → Answers (λ a. IsAnswered (f a)) m
    → outcome d (then m (λ a. ended (f a))) ≡ refused r → outcome d m ≡ refused r
unfolding Only then outcome
refused-before d (done a) f p e = absurd (let h = rw p.is at e in let z : ◌≡◌ {A = ℕ} 0 1 = cc in omega arith)
refused-before d (refuse q) f {r} p e = let z : q ≡ r = cc in rw z
refused-before {A} {B} d (ask s k) f {r} p e = by (d s) (λ b. refused-before d (k b) f (p b)) e
  where
    by : (x : Held) → ((b : List ℕ) → outcome d (then (k b) (λ a. ended (f a))) ≡ refused r → outcome d (k b) ≡ refused r)
        → given x (λ b. outcome d (then (k b) (λ a. ended (f a)))) (refused Io) ≡ refused r → given x (λ b. outcome d (k b)) (refused Io) ≡ refused r
    by (holds b) h g = h b g
    by lacks h g = let z : Io ≡ r = cc in rw z

-- ---- the labels that are kept

abbrev Named : List ℕ → Type 0
Named label = IsAnswered (name_of_field label)

nothing-named : Named nothing.label
unfolding name_of_field name_of
nothing-named = record { value = []; is = refl }

abbrev Labelled : Parsed → Type 0
Labelled (primary d) = Named d.volume_identifier
Labelled (partition d) = Unit {0}
Labelled (logical d) = Unit {0}

unfoldable AllLabelled : List Parsed → Type 0
AllLabelled [] = Unit {0}
AllLabelled (p ∷ ps) = Labelled p × AllLabelled ps

replacing-named : (k : Kept) (p : Parsed) → Named k.label → Labelled p → Named (replacing k p).label
replacing-named k (primary d) h l = l
replacing-named k (partition d) h l = h
replacing-named k (logical d) h l = h

prevailing-named : (o : Order) (w : ℕ → Bool) (k : Kept) (p : Parsed) → Named k.label → Labelled p → Named (prevailing o w k p).label
prevailing-named o w k p h l = pick-both (λ (x : Kept). Named x.label) (counts o w k p) (replacing-named k p h l) h

kept-named : (o : Order) (w : ℕ → Bool) (k : Kept) (ps : List Parsed) → Named k.label → AllLabelled ps → Named (kept_of o w k ps).label
unfolding kept_of AllLabelled
kept-named o w k [] h l = h
kept-named o w k (p ∷ ps) h l = kept-named o w (prevailing o w k p) ps (prevailing-named o w k p h l.0) l.1

-- ---- the sequence

says-labelled : (check : Bool) (b : List ℕ) {p : Parsed} → says_in check b ≡ found p → Labelled p
unfolding says_in
says-labelled check b {p} = by (eqb (u16at b 0) 1) (eqb (u16at b 0) 5) (eqb (u16at b 0) 6) (eqb (u16at b 0) 8)
  where
    first : (x : Outcome PrimaryVolumeDescriptor) → read_primary check b ≡ x → primary_in x ≡ found p → Labelled p
    first (answered d) h e =
        let g = primary-good check b h in
        let q : primary d ≡ p = cc in
        rw (← q) (record { value = g.name; is = g.named })
    first (refused r) h e = absurd (let z : ◌≡◌ {A = ℕ} 0 1 = cc in omega arith)

    parted : (x : Result PartitionDescriptor Refusal) → partition_in x ≡ found p → Labelled p
    parted (Ok d) e = let q : partition d ≡ p = cc in rw (← q) tt
    parted (Err r) e = absurd (let z : ◌≡◌ {A = ℕ} 0 1 = cc in omega arith)

    whole : (x : Outcome LogicalVolumeDescriptor) → logical_in x ≡ found p → Labelled p
    whole (answered d) e = let q : logical d ≡ p = cc in rw (← q) tt
    whole (refused r) e = absurd (let z : ◌≡◌ {A = ℕ} 0 1 = cc in omega arith)

    by : (t u v w : Bool) → pick t (primary_in (read_primary check b)) (pick u (partition_in (read_partition check b)) (pick v (logical_in (read_logical check b)) (pick w over passed))) ≡ found p → Labelled p
    by true u v w e = first (read_primary check b) refl e
    by false true v w e = parted (read_partition check b) e
    by false false true w e = whole (read_logical check b) e
    by false false false true e = absurd (let z : ◌≡◌ {A = ℕ} 0 1 = cc in omega arith)
    by false false false false e = absurd (let z : ◌≡◌ {A = ℕ} 0 1 = cc in omega arith)

scan-labelled : (check : Bool) (n at : ℕ) → Answers AllLabelled (scan check n at)
unfolding Only scan AllLabelled
scan-labelled check zero at = tt
scan-labelled check (suc n) at = λ b. by b (says_in check b) refl (scan-labelled check n (at + 1))
  where
    by : (b : List ℕ) (x : Says) → says_in check b ≡ x → Answers AllLabelled (scan check n (at + 1)) → Answers AllLabelled (go_on x (scan check n (at + 1)))
    by b (found p) e h = only_then (λ why. Unit {0}) AllLabelled AllLabelled (scan check n (at + 1)) (λ ps. done (p ∷ ps)) h (λ ps l. (says-labelled check b e, l))
    by b passed e h = h
    by b over e h = tt
    by b (fails r) e h = tt

-- ---- opening

abbrev pub Titled : VolumeRecord → Type 0
Titled v = Named v.label

mounting-named : (how : How) (ps : List Parsed) (k : Kept) → Named k.label → Answers Titled (mounting_of how ps k)
unfolding Only mounting_of then
mounting-named how ps k h = by k.has_primary k.has_partition k.has_logical (eqb k.block_size 2048)
  where
    set : (m : Mount) (x : Outcome FileSetDescriptor) → Answers Titled (ended (volume_in m k x))
    set m (answered d) = h
    set m (refused r) = tt

    stands : (m : Mount) (o : Option ℕ) → Answers Titled (standing o (λ s. ask s (λ b. ended (volume_in m k (read_file_set how.checked b)))))
    stands m None = tt
    stands m (Some s) = λ b. set m (read_file_set how.checked b)

    mounted : (x : Outcome Mount) → Answers Titled (then (ended x) (file_set_on how.checked k))
    mounted (answered m) = stands m (file_set_in m k)
    mounted (refused r) = tt

    by : (t u v w : Bool) → Answers Titled (pick t (pick u (pick v (pick w (then (ended (mount_of how ps k)) (file_set_on how.checked k)) (refuse Unsupported)) (refuse NotBluray)) (refuse NotBluray)) (refuse NotBluray))
    by true true true true = mounted (mount_of how ps k)
    by true true true false = tt
    by true true false w = tt
    by true false v w = tt
    by false u v w = tt

pub opening-named : (how : How) → Answers Titled (opening how)
unfolding Only opening
opening-named how = λ b. by (read_anchor how.checked b)
  where
    by : (x : Result AnchorVolumeDescriptorPointer Refusal) → Answers Titled (anchored how x)
    by (Err r) = tt
    by (Ok a) =
        only_then (λ why. Unit {0}) AllLabelled Titled (scan how.checked _ _) (mounting how) (scan-labelled how.checked _ _)
        (λ ps l. mounting-named how ps (kept_of (order_of how) any_partition nothing ps) (kept-named (order_of how) any_partition nothing ps nothing-named l))
