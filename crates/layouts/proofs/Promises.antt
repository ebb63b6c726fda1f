-- The promises of layouts: what follows from the contracts and the definitions alone. Assumes nothing.
use Rattle.std.specs.Prelude.{Option, Some, None}
use mathlib.Core.Path.{◌≡◌, refl, ap, sym, ◌∙◌}
use mathlib.Core.Bool.{Bool, true, false}
use mathlib.Core.List.{List, [], ◌∷◌, ◌++◌, map, map-map, map-append}
use Prim.Native.Nat.{ℕ, zero, suc, ◌-◌, ◌*◌, min}
use native.Mathlib.Omega.{arith}
use lib.ListN.{length, take, drop, length-map}
use lib.Dec.{eqb, leb}
use Rattle.disc.specs.Choice.{pick}
use Rattle.disc.specs.Counts.{reported}
use Rattle.disc.specs.Ask.{Disc, Outcome, outcome, asked, then, Agree}
use Rattle.disc.specs.Ask.Ask.{done, refuse}
use Rattle.disc.specs.Ask.Outcome.{answered, refused}
use Rattle.disc.specs.Ran.{Ran, ran, after, onward, each_in}
use Rattle.disc.specs.Images.{disc, sectors_for}
use Rattle.disc.specs.Places.{placed, standing}
use Rattle.disc.specs.Replies.{answer_of, reply_by, left_by}
use Rattle.disc.specs.declared.places.Mount.{Mount}
use Rattle.disc.specs.declared.refusals.Refusal.TheVariants.{Unsupported, NoSlot}
use Rattle.disc.specs.declared.replies.Reply.{Reply}
use Rattle.disc.proofs.AskLaws.{asked-then, asked-done}
use Rattle.disc.proofs.RanLaws.{ran-done, ran_then, same-ran}
use Rattle.disc.proofs.ReplyLaws.{replied-one}
use Rattle.records.specs.declared.allocations.LongAd.{LongAd}
use Rattle.areas.specs.declared.AllocExtent.{AllocExtent}
use Rattle.chains.proofs.AskedLaws.{done-asks, then-asks}
use Rattle.files.specs.Reads.{joining, extent_bytes, extents_bytes}
use Rattle.files.specs.Files.{Located, entry_mount, File, file_at, content_of, file_bytes, Part, part_of, file_part, extents_of, file_extents}
use Rattle.files.specs.Files.File.{embedded, chained}
use Rattle.files.proofs.Promises.{file-few}
use Rattle.layouts.specs.Calls.{part_in, PartReplied, extent_of, fields_of, words_of, Listed}
use Rattle.layouts.specs.Runs.{run_here, running, extents_runs, runs_of, file_runs, gathered, RunsListed}
use Rattle.layouts.specs.Inner.RunLists.{runs_in}
use Rattle.layouts.specs.declared.lists.Extent.{Extent}
use Rattle.layouts.specs.declared.runs.Run.{Run}
use Rattle.layouts.proofs.PartLaws.{part-stands}
use Rattle.layouts.proofs.RunLaws.{no_run, inside-alone, hold-here, extents-gathered, extents-inside}
use Rattle.disc.specs.Lists.{asked_behind}
use Rattle.disc.specs.Parts.{PartAt}
use Rattle.chains.specs.Totals.{AtMost}
use Rattle.layouts.specs.Inside.{AllInside}

-- ---- a list's contract leaves one result, whatever a slot holds of an extent

pub listed-one : {A : Type 0} (f : AllocExtent → A) (r : Ran (List AllocExtent)) {before after after' : List A} {reply reply' : Reply}
    → Listed f r before after reply → Listed f r before after' reply' → (reply ≡ reply') × (after ≡ after')
listed-one f r p q = replied-one p q

-- so do that of the runs and that of the part

pub runs-one : (r : Ran (List Run)) {before after after' : List (List ℕ)} {reply reply' : Reply}
    → RunsListed r before after reply → RunsListed r before after' reply' → (reply ≡ reply') × (after ≡ after')
runs-one r p q = replied-one p q

pub part-one : (r : Ran Part) {part part' : List ℕ} {answer answer' count count' : ℕ}
    → PartReplied r part answer count → PartReplied r part' answer' count' → (part ≡ part') × (answer ≡ answer') × (count ≡ count')
part-one r p q = (p.gives ∙ sym q.gives, p.says ∙ sym q.says, p.counts ∙ sym q.counts)

-- ---- the two rows say the same: four numbers are a record's fields

map-drop : {A B : Type 0} (g : A → B) (n : ℕ) (l : List A) → map g (drop n l) ≡ drop n (map g l)
map-drop g zero l = refl
map-drop g (suc n) [] = refl
map-drop g (suc n) (x ∷ l) = map-drop g n l

left-map : {A B : Type 0} (g : A → B) (f : AllocExtent → A) (row : List A) (o : Outcome (List AllocExtent))
    → map g (left_by row (each_in f o)) ≡ left_by (map g row) (each_in (λ e. g (f e)) o)
left-map g f row (refused r) = refl
left-map g f row (answered es) = simp length-map (by-test (leb (length es) (length row)))
  where
    by-test : (b : Bool) → map g (pick b (map f es ++ drop (length es) row) row) ≡ pick b (map (λ e. g (f e)) es ++ drop (length es) (map g row)) (map g row)
    by-test true = rw (map-append, map-map, map-drop)
    by-test false = refl

reply-map : {A B : Type 0} (f : AllocExtent → A) (g : AllocExtent → B) (room n : ℕ) (o : Outcome (List AllocExtent)) → reply_by NoSlot room n (each_in f o) ≡ reply_by NoSlot room n (each_in g o)
reply-map f g room n (refused r) = refl
reply-map f g room n (answered es) = simp length-map

pub rows_agree : (r : Ran (List AllocExtent)) {before after : List Extent} {reply : Reply} → Listed extent_of r before after reply → Listed words_of r (map fields_of before) (map fields_of after) reply
rows_agree r {before} p = record {
  says = rw length-map (p.says ∙ reply-map extent_of words_of (length before) (reported r.count) r.outcome);
  leaves = rw p.leaves (left-map fields_of extent_of before r.outcome);
}

-- ---- RULES 2.7: images that agree on the sectors that a call asks for give the same answer and the same memory

pub part_same : (image image' : List ℕ) (m : Mount) (icb : LongAd)
    → Agree (disc image) (disc image') (asked (disc image) (file_part m icb))
    → {part part' : List ℕ} {answer answer' count count' : ℕ}
    → PartReplied (ran (disc image) (file_part m icb)) part answer count
    → PartReplied (ran (disc image') (file_part m icb)) part' answer' count'
    → (part ≡ part') × (answer ≡ answer') × (count ≡ count')
part_same image image' m icb h p q =
    let e = same-ran (file_part m icb) (disc image) (disc image') h in (
      p.gives ∙ ap (λ (r : Ran Part). (part_in r.outcome).bytes) e ∙ sym q.gives,
      p.says ∙ ap (λ (r : Ran Part). answer_of r.outcome) e ∙ sym q.says,
      p.counts ∙ ap (λ (r : Ran Part). reported r.count) e ∙ sym q.counts,
    )

pub part-at-same : (image image' : List ℕ) (m : Mount) (icb : LongAd)
    → Agree (disc image) (disc image') (asked (disc image) (file_part m icb))
    → (part_in (ran (disc image) (file_part m icb)).outcome).at ≡ (part_in (ran (disc image') (file_part m icb)).outcome).at
part-at-same image image' m icb h = ap (λ (r : Ran Part). (part_in r.outcome).at) (same-ran (file_part m icb) (disc image) (disc image') h)

pub extents-same : {A : Type 0} (f : AllocExtent → A) (image image' : List ℕ) (m : Mount) (icb : LongAd)
    → Agree (disc image) (disc image') (asked (disc image) (file_extents m icb))
    → {before after after' : List A} {reply reply' : Reply}
    → Listed f (ran (disc image) (file_extents m icb)) before after reply
    → Listed f (ran (disc image') (file_extents m icb)) before after' reply'
    → (reply ≡ reply') × (after ≡ after')
extents-same f image image' m icb h p q = listed-one f (ran (disc image) (file_extents m icb)) p (rw (sym (same-ran (file_extents m icb) (disc image) (disc image') h)) at q)

-- ---- both ask for the entry's and the chain's sectors and no others, on any disc

pub part-asks : (d : Disc) (m : Mount) (icb : LongAd) → asked d (file_part m icb) ≡ asked d (file_at m icb)
unfolding file_part
part-asks d m icb = asked-done d (file_at m icb) part_of

pub extents-ask : (d : Disc) (m : Mount) (icb : LongAd) → asked d (file_extents m icb) ≡ asked d (file_at m icb)
unfolding file_extents
extents-ask d m icb = asked-done d (file_at m icb) extents_of

pub part-bound : (m : Mount) (icb : LongAd) → AtMost 16385 (file_part m icb)
unfolding file_part
part-bound m icb = then-asks (file_at m icb) _ 16385 0 (file-few m icb) (λ f. done-asks _ 0)

pub extents-few : (m : Mount) (icb : LongAd) → AtMost 16385 (file_extents m icb)
unfolding file_extents
extents-few m icb = then-asks (file_at m icb) _ 16385 0 (file-few m icb) (λ f. done-asks _ 0)

-- ---- the runs of a file: the read's questions on any disc, and on an image the read's outcome and count, its bytes the runs' bytes joined

module _ (d : Disc) where
  asks-joined : (m : Mount) (es : List AllocExtent) (want at : ℕ) (b : List ℕ) → asked d (extents_runs m es (want - length b)) ≡ asked d (extents_bytes m es (want - length b))
      → asked d (running want at (length b) (extents_runs m es (want - length b))) ≡ asked d (joining want b (extents_bytes m es (want - length b)))
  unfolding asked
  asks-joined m es want at b ih = by (leb want (length b))
    where
      by : (t : Bool) → asked d (pick t (done (run_here at (min (length b) want))) (then (extents_runs m es (want - length b)) (λ rest. done (run_here at (length b) ++ rest))))
          ≡ asked d (pick t (done (take want b)) (then (extents_bytes m es (want - length b)) (λ rest. done (b ++ rest))))
      by true = refl
      by false = asked-done d (extents_runs m es (want - length b)) (λ rest. run_here at (length b) ++ rest) ∙ ih ∙ sym (asked-done d (extents_bytes m es (want - length b)) (λ rest. b ++ rest))

  asks-extents : (m : Mount) (es : List AllocExtent) (want : ℕ) → asked d (extents_runs m es want) ≡ asked d (extents_bytes m es want)
  unfolding asked extents_runs extents_bytes
  asks-extents m [] want = refl
  asks-extents m (e ∷ es) want = typed (eqb e.extent_type 0) (placed m e.partition_ref e.block.0) (λ w. asks-extents m es w)
    where
      read : (at : ℕ) (o : Outcome (List ℕ)) → ((w : ℕ) → asked d (extents_runs m es w) ≡ asked d (extents_bytes m es w))
          → asked_behind d o (λ b. running want (2048 * at) (length b) (extents_runs m es (want - length b))) ≡ asked_behind d o (λ b. joining want b (extents_bytes m es (want - length b)))
      read at (refused r) ih = refl
      read at (answered b) ih = asks-joined m es want (2048 * at) b (ih (want - length b))

      typed : (t : Bool) (o : Option ℕ) → ((w : ℕ) → asked d (extents_runs m es w) ≡ asked d (extents_bytes m es w))
          → asked d (pick t (standing o (λ at. then (extent_bytes (sectors_for e.length) at e.length want) (λ b. running want (2048 * at) (length b) (extents_runs m es (want - length b))))) (refuse Unsupported))
          ≡ asked d (pick t (standing o (λ at. then (extent_bytes (sectors_for e.length) at e.length want) (λ b. joining want b (extents_bytes m es (want - length b))))) (refuse Unsupported))
      typed false o ih = refl
      typed true None ih = refl
      typed true (Some at) ih =
          asked-then d (extent_bytes (sectors_for e.length) at e.length want) _
          ∙ rw (read at (outcome d (extent_bytes (sectors_for e.length) at e.length want)) ih) (sym (asked-then d (extent_bytes (sectors_for e.length) at e.length want) _))

  pub runs-ask : (m : Mount) (icb : LongAd) → asked d (file_runs m icb) ≡ asked d (file_bytes m icb)
  unfolding file_runs file_bytes asked
  runs-ask m icb = asked-then d (file_at m icb) _ ∙ rw (by (outcome d (file_at m icb))) (sym (asked-then d (file_at m icb) _))
    where
      by : (o : Outcome File) → asked_behind d o (runs_of (entry_mount m icb)) ≡ asked_behind d o (content_of (entry_mount m icb))
      by (refused r) = refl
      by (answered (embedded x)) = refl
      by (answered (chained x es)) = asks-extents (entry_mount m icb) es x.entry.information_length

module _ (image : List ℕ) (m : Mount) (icb : LongAd) where
  entry-held : (x : Located) → (ran (disc image) (file_at m icb)).outcome ≡ answered (embedded x) → PartAt image (part_of (embedded x)).bytes (part_of (embedded x)).at
  unfolding file_part
  entry-held x e =
      let q : (ran (disc image) (file_part m icb)).outcome ≡ answered (part_of (embedded x)) = rw (ran_then, e, ran-done) in
      rw q at (part-stands image m icb)

  pub runs-gathered : ran (disc image) (file_bytes m icb) ≡ gathered image (ran (disc image) (file_runs m icb))
  unfolding file_bytes file_runs
  runs-gathered = rw (ran_then, ran_then) (by (ran (disc image) (file_at m icb)).outcome refl (ran (disc image) (file_at m icb)).count)
    where
      by : (o : Outcome File) → (ran (disc image) (file_at m icb)).outcome ≡ o → (n : ℕ)
          → onward o n (λ f. ran (disc image) (content_of (entry_mount m icb) f)) ≡ gathered image (onward o n (λ f. ran (disc image) (runs_of (entry_mount m icb) f)))
      by (refused r) e n = refl
      by (answered (embedded x)) e n = rw (ran-done, ran-done, hold-here, (entry-held x e).bytes)
      by (answered (chained x es)) e n = ap (after n) (extents-gathered image (entry_mount m icb) es x.entry.information_length)

  -- each run has a byte, and stands in the image
  pub runs-inside : AllInside image (runs_in (ran (disc image) (file_runs m icb)).outcome)
  unfolding file_runs
  runs-inside = rw ran_then (by (ran (disc image) (file_at m icb)).outcome refl (ran (disc image) (file_at m icb)).count)
    where
      by : (o : Outcome File) → (ran (disc image) (file_at m icb)).outcome ≡ o → (n : ℕ) → AllInside image (runs_in (onward o n (λ f. ran (disc image) (runs_of (entry_mount m icb) f))).outcome)
      by (refused r) e n = no_run image
      by (answered (embedded x)) e n = rw ran-done (inside-alone image (part_of (embedded x)).at (length (part_of (embedded x)).bytes) (omega (arith, (entry-held x e).inside)))
      by (answered (chained x es)) e n = extents-inside image (entry_mount m icb) es x.entry.information_length

pub runs_same : (image image' : List ℕ) (m : Mount) (icb : LongAd)
    → Agree (disc image) (disc image') (asked (disc image) (file_runs m icb))
    → {before after after' : List (List ℕ)} {reply reply' : Reply}
    → RunsListed (ran (disc image) (file_runs m icb)) before after reply
    → RunsListed (ran (disc image') (file_runs m icb)) before after' reply'
    → (reply ≡ reply') × (after ≡ after')
runs_same image image' m icb h p q = replied-one p (rw (sym (same-ran (file_runs m icb) (disc image) (disc image') h)) at q)
