-- What is promised of the calls on an image, beside their contracts: a contract leaves one result, how many sectors are asked for, and
-- that nothing but those decides. Assumes nothing.
use Rattle.std.specs.Prelude.{Option, Some, None, Result, Ok, Err}
use mathlib.Core.Path.{◌≡◌, refl, ap, sym, ◌∙◌, fun_ext}
use mathlib.Core.Bool.{Bool, true, false}
use mathlib.Core.List.{List, [], ◌∷◌, ◌++◌, append-nil}
use Prim.Native.Nat.{ℕ, ◌+◌, ◌/◌, ◌<◌, ◌≤◌}
use native.Mathlib.Omega.{arith}
use lib.ListN.{length}
use lib.Dec.{eqb}
use borrow.Author.Tests.{eqb-true}
use Rattle.disc.specs.Choice.{pick}
use Rattle.disc.specs.Counts.{reported}
use Rattle.disc.specs.Ask.{Held, Disc, Ask, Outcome, outcome, asked, then, given, ended, Agree}
use Rattle.disc.specs.Ask.Ask.{refuse, ask}
use Rattle.disc.specs.Ask.Held.{holds, lacks}
use Rattle.disc.specs.Ask.Outcome.{answered, refused}
use Rattle.disc.specs.Images.{disc}
use Rattle.disc.specs.Ran.{Ran, ran, onward, followed}
use Rattle.disc.specs.Places.{start_for, crossing, placed, standing}
use Rattle.disc.specs.Replies.{Replied}
use Rattle.disc.specs.declared.places.Mount.{Mount}
use Rattle.disc.specs.declared.refusals.Refusal.{Refusal}
use Rattle.disc.specs.declared.refusals.Refusal.TheVariants.{Io, NotBluray, Unsupported, NoRoom}
use Rattle.disc.specs.declared.replies.Reply.{Reply}
use Rattle.disc.proofs.PickLaws.{not-both, picked}
use Rattle.disc.proofs.AskLaws.{asked-then}
use Rattle.disc.proofs.RanLaws.{ran-missing, ran_then, same-ran, never}
use Rattle.disc.proofs.ReplyLaws.{replied-one, same-replied}
use Rattle.descriptors.specs.Volumes.{read_anchor}
use Rattle.descriptors.specs.FileSets.{read_file_set}
use Rattle.descriptors.specs.declared.file_sets.FileSetDescriptor.{FileSetDescriptor}
use Rattle.volumes.specs.Sequences.{nothing, Parsed, Order, latest, highest, order_of, any_partition, kept_of}
use Rattle.volumes.specs.Sequences.Parsed.{primary, partition, logical}
use Rattle.volumes.specs.Openings.{no_volume, plain_mount, start_in, start_of_number, file_set_ref, mapped_mount, mount_of, file_set_in, volume_in, file_set_at, file_set_on, mounting_of, anchored, opening, opened_by, opened_of}
use Rattle.volumes.specs.Labels.{label_of, labelling}
use Rattle.volumes.specs.declared.sequences.Kept.{Kept}
use Rattle.volumes.specs.declared.openings.VolumeRecord.{VolumeRecord}
use Rattle.volumes.specs.declared.openings.Opened.{Opened}
use Rattle.volumes.specs.declared.openings.How.{How}
use Rattle.volumes.proofs.OpeningLaws.{ask-count, anchored-count}
use Rattle.volumes.proofs.MapLaws.{starts-same, unmapped-mount, mapped-mount}
use Rattle.volumes.proofs.NamedLaws.{refused-before, opening-named}
use Rattle.volumes.proofs.Prevailing.{highest-prevails, highest-wanted, latest-wanted, kept-number, rising-order}
use Rattle.disc.specs.Lists.{asked_behind}
use Rattle.volumes.specs.Made.{Mapped, main_length, sequence_in, sequence, chosen, Sequenced, Mounted, Made, own_mounting, Started}
use Rattle.volumes.specs.Prevailing.{Kind, kind_of, number_of, has_of, Keeps, Every, Prevails, Rising, wanted_in}
use Rattle.volumes.specs.Prevailing.Kind.{primaries, partitions, logicals}
use Rattle.descriptors.specs.declared.anchors.AnchorVolumeDescriptorPointer.{AnchorVolumeDescriptorPointer}

-- ---- a contract leaves one result

pub opened_one : (how : How) (image : List ℕ) {o o' : Opened} → o ≡ opened_of (ran (disc image) (opening how)) → o' ≡ opened_of (ran (disc image) (opening how)) → o ≡ o'
opened_one how image e f = e ∙ sym f

pub label-one : (how : How) (image : List ℕ) {before after after' : List ℕ} {p p' : Reply}
    → Replied NoRoom (ran (disc image) (labelling how)) before after p
    → Replied NoRoom (ran (disc image) (labelling how)) before after' p'
    → (p ≡ p') × (after ≡ after')
label-one how image e f = replied-one e f

-- ---- RULES 2.7: images that agree on the sectors of a call's list give the same answer, count, volume and output

pub opening-same : (how : How) (image other : List ℕ) → Agree (disc image) (disc other) (asked (disc image) (opening how)) → {o o' : Opened}
    → o ≡ opened_of (ran (disc image) (opening how))
    → o' ≡ opened_of (ran (disc other) (opening how))
    → o ≡ o'
opening-same how image other h e f = e ∙ ap opened_of (same-ran (opening how) (disc image) (disc other) h) ∙ sym f

pub label_same : (how : How) (image other : List ℕ) → Agree (disc image) (disc other) (asked (disc image) (labelling how)) → {before after after' : List ℕ} {p p' : Reply}
    → Replied NoRoom (ran (disc image) (labelling how)) before after p
    → Replied NoRoom (ran (disc other) (labelling how)) before after' p'
    → (p ≡ p') × (after ≡ after')
label_same how image other h e f = replied-one (same-replied (labelling how) (disc image) (disc other) h e) f

-- the label's list is opening's
nothing-behind : (d : Disc) (o : Outcome VolumeRecord) → asked_behind d o (λ v. ended (label_of v)) ≡ []
unfolding asked
nothing-behind d (refused r) = refl
nothing-behind d (answered v) = by (label_of v)
  where
    by : (o : Outcome (List ℕ)) → asked d (ended o) ≡ []
    by (answered name) = refl
    by (refused why) = refl

pub label-asks : (how : How) (d : Disc) → asked d (labelling how) ≡ asked d (opening how)
unfolding labelling
label-asks how d = asked-then d (opening how) (λ v. ended (label_of v)) ∙ rw (nothing-behind d (outcome d (opening how))) (append-nil (asked d (opening how)))

-- and its refusals are opening's, with 5 behind them: opening has refused a label that is no name
pub label-refuses : (how : How) (d : Disc) {why : Refusal} → outcome d (labelling how) ≡ refused why → outcome d (opening how) ≡ refused why
unfolding labelling
label-refuses how d e = refused-before d (opening how) label_of (opening-named how) e

-- ---- how many sectors opening asks for

-- on any disc, at most 2 + main length div 2,048
pub opening-count : (how : How) (d : Disc) → length (asked d (opening how)) ≤ 2 + main_length how.checked (d 256) / 2048
unfolding opening ran
opening-count how d =
    let h = ask-count d 256 (λ b. anchored how (read_anchor how.checked b)) (1 + main_length how.checked (d 256) / 2048) (λ b e. rw e (anchored-count d how (read_anchor how.checked b))) in
    omega arith

-- and so is the count that is reported
reported-within : (n : ℕ) (r : Ran VolumeRecord) → r.count ≤ n → (opened_of r).count ≤ n
reported-within n r h = by r.outcome
  where
    by : (o : Outcome VolumeRecord) → (opened_by (reported r.count) o).count ≤ n
    by (answered v) = omega arith
    by (refused w) = omega arith

pub opened-count : (how : How) (d : Disc) → (opened_of (ran d (opening how))).count ≤ 2 + main_length how.checked (d 256) / 2048
unfolding ran
opened-count how d = reported-within (2 + main_length how.checked (d 256) / 2048) (ran d (opening how)) (opening-count how d)

-- ---- nothing at sector 256: that sector alone is asked for

pub opening-nothing : (how : How) (image : List ℕ) → disc image 256 ≡ lacks → asked (disc image) (opening how) ≡ 256 ∷ []
unfolding opening asked
opening-nothing how image h = rw h

pub opened_nothing : (how : How) (image : List ℕ) → disc image 256 ≡ lacks → {o : Opened}
    → o ≡ opened_of (ran (disc image) (opening how))
    → o ≡ record { answer = 1; count = 1; volume = no_volume }
unfolding opening
opened_nothing how image h e = e ∙ ap opened_of (ran-missing (disc image) 256 (λ b. anchored how (read_anchor how.checked b)) h)

-- ---- the choice on opening

pub opening-is : (how : How) → opening how ≡ then (sequence how.checked) (chosen how)
unfolding opening sequence then
opening-is how = λ i. ask 256 (λ b. by (read_anchor how.checked b) i)
  where
    by : (x : Result AnchorVolumeDescriptorPointer Refusal) → anchored how x ≡ then (sequence_in how.checked x) (chosen how)
    by (Err r) = refl
    by (Ok a) = refl

opening-runs : (d : Disc) (how : How) → ran d (opening how) ≡ followed (ran d (sequence how.checked)) (λ ps. ran d (chosen how ps))
opening-runs d how = ap (ran d) (opening-is how) ∙ ran_then d (sequence how.checked) (chosen how)

pub scan-same : (d : Disc) (how : How) → Sequenced d how
unfolding ran
scan-same d how = record {
  asks = lists;
  refuses = λ e. (lists ∙ rw e (append-nil (asked d (sequence how.checked))), opening-runs d how ∙ rw e);
}
  where
    lists : asked d (opening how) ≡ asked d (sequence how.checked) ++ asked_behind d (outcome d (sequence how.checked)) (chosen how)
    lists = ap (asked d) (opening-is how) ∙ asked-then d (sequence how.checked) (chosen how)

-- what two choices make of it that keep the same of every list of wanted descriptors, check bodies alike and go through the maps alike
module _ (how how' : How) (ps : List Parsed) (k : Kept) (alike : how.checked ≡ how'.checked) (mapped : how.maps ≡ how'.maps)
    (same : (number : ℕ) → start_of_number how ps number ≡ start_of_number how' ps number) where
  mapped-same : mapped_mount how ps k ≡ mapped_mount how' ps k
  unfolding mapped_mount
  mapped-same = rw (starts-same how how' ps same k.maps 0 k.map_count, alike)

  mount-same : mount_of how ps k ≡ mount_of how' ps k
  unfolding mount_of
  mount-same = λ i. pick (mapped i) (mapped-same i) (answered (plain_mount (alike i) k))

  mounting-same : mounting_of how ps k ≡ mounting_of how' ps k
  unfolding mounting_of
  mounting-same =
      ap (λ (m : Ask VolumeRecord). pick k.has_primary (pick k.has_partition (pick k.has_logical (pick (eqb k.block_size 2048) m (refuse Unsupported)) (refuse NotBluray)) (refuse NotBluray)) (refuse NotBluray))
      (λ i. then (ended (mount-same i)) (file_set_on (alike i) k))

-- where each kind's numbers never fall along the sequence, two choices that check bodies alike and go through the maps alike open the same volume,
-- ask for the same sectors, or refuse the same
module _ (d : Disc) (how how' : How) (alike : how.checked ≡ how'.checked) (mapped : how.maps ≡ how'.maps) {ps : List Parsed} (e : outcome d (sequence how.checked) ≡ answered ps)
    (r : Rising ps) where
  abbrev here : Ask (List Parsed)
  here = sequence how.checked

  rising-starts : (number : ℕ) → start_of_number how ps number ≡ start_of_number how' ps number
  unfolding start_of_number
  rising-starts number = ap start_in (rising-order how (eqb number) ps r ∙ sym (rising-order how' (eqb number) ps r))

  rising-chosen : chosen how ps ≡ chosen how' ps
  rising-chosen =
      ap (mounting_of how ps) (rising-order how any_partition ps r ∙ sym (rising-order how' any_partition ps r))
      ∙ mounting-same how how' ps (kept_of (order_of how') any_partition nothing ps) alike mapped rising-starts

  rising-behind : asked_behind d (outcome d here) (chosen how) ≡ asked_behind d (outcome d here) (chosen how')
  rising-behind = rw (e, rising-chosen)

  pub rising-asks : asked d (opening how) ≡ asked d (opening how')
  rising-asks = (scan-same d how).asks ∙ ap (λ l. asked d here ++ l) rising-behind ∙ rw alike (sym (scan-same d how').asks)

  rising-follows : followed (ran d here) (λ qs. ran d (chosen how qs)) ≡ followed (ran d here) (λ qs. ran d (chosen how' qs))
  unfolding ran
  rising-follows = rw (e, rising-chosen)

  pub rising-same : ran d (opening how) ≡ ran d (opening how')
  rising-same = opening-runs d how ∙ rising-follows ∙ rw alike (sym (opening-runs d how'))

  rising-labels : followed (ran d (opening how)) (λ v. ran d (ended (label_of v))) ≡ followed (ran d (opening how')) (λ v. ran d (ended (label_of v)))
  rising-labels = ap (λ (x : Ran VolumeRecord). followed x (λ v. ran d (ended (label_of v)))) rising-same

  pub rising-label : ran d (labelling how) ≡ ran d (labelling how')
  unfolding labelling
  rising-label = ran_then d (opening how) (λ v. ended (label_of v)) ∙ rising-labels ∙ sym (ran_then d (opening how') (λ v. ended (label_of v)))

-- ---- what an opened volume is made of

-- behind the checks of what was kept: how the volume is read, where the file set descriptor stands, its sector, and its parse
module _ (how : How) (ps : List Parsed) (d : Disc) (k : Kept) {v : VolumeRecord} (all : (kind : Kind) → has_of kind k ≡ true) where
  made_of : (m : Mount) → mount_of how ps k ≡ answered m → (x : Outcome FileSetDescriptor) → outcome d (ended (volume_in m k x)) ≡ answered v → Mounted how ps k v
  unfolding outcome
  made_of m q (answered f) e =
      let w : record { mount = m; root = f.root_directory_icb; label = k.label } ≡ v = cc in
      record { has = all; mounted = q ∙ ap (λ (x : VolumeRecord). answered x.mount) w; labelled = sym (ap (λ (x : VolumeRecord). x.label) w) }
  made_of m q (refused why) e = never e

  made_in : (m : Mount) → mount_of how ps k ≡ answered m → (x : Held) → given x (λ b. outcome d (ended (volume_in m k (read_file_set how.checked b)))) (refused Io) ≡ answered v → Mounted how ps k v
  made_in m q (holds b) e = made_of m q (read_file_set how.checked b) e
  made_in m q lacks e = never e

  made_at : (m : Mount) → mount_of how ps k ≡ answered m → (o : Option ℕ) → outcome d (standing o (file_set_at how.checked k m)) ≡ answered v → Mounted how ps k v
  unfolding outcome
  made_at m q None e = never e
  made_at m q (Some s) e = made_in m q (d s) e

  made_by : (x : Outcome Mount) → mount_of how ps k ≡ x → outcome d (then (ended x) (file_set_on how.checked k)) ≡ answered v → Mounted how ps k v
  unfolding outcome then
  made_by (answered m) q e = made_at m q (file_set_in m k) e
  made_by (refused r) q e = never e

mounting-made : (how : How) (ps : List Parsed) (d : Disc) (k : Kept) {v : VolumeRecord} → outcome d (mounting_of how ps k) ≡ answered v → Mounted how ps k v
unfolding mounting_of outcome
mounting-made how ps d k {v} = by k.has_primary k.has_partition k.has_logical (eqb k.block_size 2048) refl refl refl
  where
    all : k.has_primary ≡ true → k.has_partition ≡ true → k.has_logical ≡ true → (kind : Kind) → has_of kind k ≡ true
    all p q r primaries = p
    all p q r partitions = q
    all p q r logicals = r

    by : (t u w x : Bool) → k.has_primary ≡ t → k.has_partition ≡ u → k.has_logical ≡ w
        → outcome d (pick t (pick u (pick w (pick x (then (ended (mount_of how ps k)) (file_set_on how.checked k)) (refuse Unsupported)) (refuse NotBluray)) (refuse NotBluray)) (refuse NotBluray)) ≡ answered v
        → Mounted how ps k v
    by true true true true p q r e = made_by how ps d k (all p q r) (mount_of how ps k) refl e
    by true true true false p q r e = never e
    by true true false x p q r e = never e
    by true false w x p q r e = never e
    by false u w x p q r e = never e

pub opened-made : (d : Disc) (how : How) {v : VolumeRecord} → outcome d (opening how) ≡ answered v → Made d how v
unfolding ran
opened-made d how {v} e = by (outcome d (sequence how.checked)) refl (sym (ap (λ (r : Ran VolumeRecord). r.outcome) (opening-runs d how)) ∙ e)
  where
    by : (x : Outcome (List Parsed)) → outcome d (sequence how.checked) ≡ x → (onward x (length (asked d (sequence how.checked))) (λ ps. ran d (chosen how ps))).outcome ≡ answered v → Made d how v
    by (answered ps) s h = record { parsed = ps; scanned = s; made = mounting-made how ps d (kept_of (order_of how) any_partition nothing ps) h }
    by (refused why) s h = never h

-- so the volume that is opened by the highest numbers has its label and its partition of the descriptors that prevail by them
pub highest-opened : (check maps : Bool) (d : Disc) {v : VolumeRecord} (m : Made d (record { highest = true; checked = check; maps = maps }) v) (kind : Kind)
    → Prevails (λ n o. n ≤ o) (λ n o. n < o) kind m.parsed (kept_of highest any_partition nothing m.parsed)
highest-opened check maps d m kind = highest-prevails kind m.parsed (m.made.has kind)

-- ---- without maps nothing is changed

module _ (how : How) (h : how.maps ≡ false) where
  own-file-set : (k : Kept) → file_set_on how.checked k (plain_mount how.checked k)
      ≡ pick (eqb (file_set_ref k) k.partition_number) (ask (k.partition_start + k.file_set.location.block) (λ b. ended (volume_in (plain_mount how.checked k) k (read_file_set how.checked b)))) (refuse Unsupported)
  unfolding placed start_for
  own-file-set k = by (eqb (file_set_ref k) k.partition_number)
    where
      by : (t : Bool) → standing (crossing k.file_set.location.block (pick t (Some k.partition_start) None)) (file_set_at how.checked k (plain_mount how.checked k))
          ≡ pick t (ask (k.partition_start + k.file_set.location.block) (λ b. ended (volume_in (plain_mount how.checked k) k (read_file_set how.checked b)))) (refuse Unsupported)
      by true = refl
      by false = refl

  own-mounting : (ps : List Parsed) (k : Kept) → mounting_of how ps k ≡ own_mounting how.checked k
  unfolding mounting_of then
  own-mounting ps k = rw (unmapped-mount how ps k h, own-file-set k)

  pub opening-unmapped : opening how ≡ then (sequence how.checked) (λ ps. own_mounting how.checked (kept_of (order_of how) any_partition nothing ps))
  opening-unmapped = opening-is how ∙ ap (then (sequence how.checked)) (fun_ext (λ ps. own-mounting ps (kept_of (order_of how) any_partition nothing ps)))

  -- the volume's record has no maps
  pub opened-unmapped : (d : Disc) {v : VolumeRecord} (m : Made d how v) → v.mount ≡ plain_mount how.checked (kept_of (order_of how) any_partition nothing m.parsed)
  opened-unmapped d {v} m =
      let k = kept_of (order_of how) any_partition nothing m.parsed in
      let e : answered v.mount ≡ answered (plain_mount how.checked k) = sym m.made.mounted ∙ unmapped-mount how m.parsed k h in
      cc

-- ---- through the maps

-- the volume's record has the maps of the logical volume descriptor that prevails, each with the start of its number's partition (`Mapped`)
pub opened-mapped : (how : How) → how.maps ≡ true → (d : Disc) {v : VolumeRecord} (m : Made d how v) → Mapped how m.parsed (kept_of (order_of how) any_partition nothing m.parsed) v.mount
opened-mapped how h d m = mapped-mount how m.parsed (kept_of (order_of how) any_partition nothing m.parsed) h m.made.mounted

module _ (Before Behind : ℕ → ℕ → Type 0) (ps : List Parsed) (number : ℕ) {start : ℕ} where
  started-by : (k : Kept) → Prevails Before Behind partitions (wanted_in (eqb number) ps) k → eqb number k.partition_number ≡ true → k.partition_start ≡ start → Started Before Behind ps number start
  started-by k w n e = by w.one w.stands w.of-kind w.keeps w.over-before w.over-behind
    where
      by : (p : Parsed) → wanted_in (eqb number) ps ≡ w.before ++ (p ∷ w.behind) → kind_of p ≡ partitions → Keeps k p
          → Every partitions (λ n. Before n (number_of p)) w.before → Every partitions (λ n. Behind n (number_of p)) w.behind → Started Before Behind ps number start
      by (primary d) s q h x y = absurd (let z : ◌≡◌ {A = ℕ} 0 1 = cc in omega arith)
      by (partition d) s q h x y =
          record {
            before = w.before;
            descriptor = d;
            behind = w.behind;
            stands = s;
            numbered = sym h.2 ∙ sym (eqb-true number k.partition_number n);
            starts = sym h.3 ∙ e;
            over-before = x;
            over-behind = y;
          }
      by (logical d) s q h x y = absurd (let z : ◌≡◌ {A = ℕ} 0 1 = cc in omega arith)

  -- what was kept of a number, by an order
  started_of : (o : Order) → ((e : (kept_of o (eqb number) nothing ps).has_partition ≡ true) → Prevails Before Behind partitions (wanted_in (eqb number) ps) (kept_of o (eqb number) nothing ps))
      → start_in (kept_of o (eqb number) nothing ps) ≡ Some start → Started Before Behind ps number start
  started_of o f e =
      let k = kept_of o (eqb number) nothing ps in
      let p = picked (λ (x : Option ℕ). x ≡ Some start) k.has_partition (Some k.partition_start) None e (λ z. let w : ◌≡◌ {A = ℕ} 0 1 = cc in omega arith) in
      let s : k.partition_start ≡ start = let q = p.1 in cc in
      started-by k (f p.0) (kept-number o (eqb number) ps p.0) s

-- by the highest number among them, and of equal ones the later; by the default the last one
module _ (how : How) (ps : List Parsed) (number : ℕ) {start : ℕ} (e : start_of_number how ps number ≡ Some start) where
  pub highest-started : how.highest ≡ true → Started (λ n m. n ≤ m) (λ n m. n < m) ps number start
  unfolding start_of_number
  highest-started h = by how.highest h e
    where
      by : (t : Bool) → t ≡ true → start_in (kept_of (λ a b. pick t (highest a b) (latest a b)) (eqb number) nothing ps) ≡ Some start → Started (λ n m. n ≤ m) (λ n m. n < m) ps number start
      by true q f = started_of (λ n m. n ≤ m) (λ n m. n < m) ps number highest (highest-wanted (eqb number) partitions ps) f
      by false q f = not-both q

  pub latest-started : how.highest ≡ false → Started (λ n m. Unit {0}) (λ n m. ⊥) ps number start
  unfolding start_of_number
  latest-started h = by how.highest h e
    where
      by : (t : Bool) → t ≡ false → start_in (kept_of (λ a b. pick t (highest a b) (latest a b)) (eqb number) nothing ps) ≡ Some start → Started (λ n m. Unit {0}) (λ n m. ⊥) ps number start
      by true q f = not-both (sym q)
      by false q f = started_of (λ n m. Unit {0}) (λ n m. ⊥) ps number latest (latest-wanted (eqb number) partitions ps) f
