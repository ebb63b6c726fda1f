-- RULES 2.11 to 2.13, of a read by ICB that waits for its image: which sector it waits for, and when it is ready. Assumes nothing.
use mathlib.Core.Path.{◌≡◌, refl, ap, sym, ◌∙◌}
use mathlib.Core.Bool.{Bool, true, false}
use mathlib.Core.List.{List}
use Prim.Native.Nat.{ℕ, ◌+◌, ◌-◌, ◌≤◌, ◌<◌}
use native.Mathlib.Omega.{arith}
use lib.ListN.{length}
use lib.Dec.{eqb}
use borrow.Author.Tests.{le-leb}
use Rattle.disc.specs.Choice.{pick}
use Rattle.disc.specs.Counts.{reported}
use Rattle.disc.specs.Replies.{reply_by}
use Rattle.disc.specs.Ask.{Outcome, outcome, asked}
use Rattle.disc.specs.Ask.Ask.{done}
use Rattle.disc.specs.Ask.Outcome.{answered, refused}
use Rattle.disc.specs.Images.{disc}
use Rattle.disc.specs.Refusing.{is_io}
use Rattle.disc.specs.Ran.{ran, onward}
use Rattle.disc.specs.declared.refusals.Refusal.TheVariants.{NoRoom}
use Rattle.disc.proofs.RanLaws.{ran-done, ran_then, never}
use Rattle.areas.specs.declared.AllocExtent.{AllocExtent}
use Rattle.files.specs.ExtentSectors.{extent_sectors}
use Rattle.files.specs.Files.{File, Located, entry_mount, embedded_bytes, file_at, content_of, file_bytes, extents_of, file_extents}
use Rattle.files.specs.Files.File.{embedded, chained}
use Rattle.files.specs.Inner.Pieces.{rest_of}
use Rattle.files.proofs.WaitingLaws.{Ended, extents-wait, extents-end}
use Rattle.files.proofs.WaitingLaws.Ended.{bytes, missing as lacked, unsupported}
use Rattle.records.specs.declared.allocations.LongAd.{LongAd}
use Rattle.volumes.specs.declared.openings.VolumeRecord.{VolumeRecord}
use Rattle.vault.specs.Calls.{reading, extent_listing, reads, extents}
use Rattle.vault.specs.Public.Call.{reads as as_read, extents as as_extents}
use Rattle.vault.proofs.Promises.{io-1, missing, counts}
use Rattle.vault.specs.Public.{lacking}
use Rattle.disc.specs.Lists.{Waits}

-- ---- a read by ICB

module _ (image : List ℕ) (v : VolumeRecord) (icb : LongAd) where
  -- where the extents are listed and the read is refused by 1, it waits for the sector of these at the count of the read less that of the list
  module _ {es : List AllocExtent} (h : outcome (disc image) (extent_listing v icb) ≡ answered es) where
    file-waits : (o : Outcome File) (n : ℕ) → (onward o n (λ f. ran (disc image) (done (extents_of f)))).outcome ≡ answered es
        → is_io (onward o n (λ f. ran (disc image) (content_of (entry_mount v.mount icb) f))).outcome ≡ true
        → Waits image (extent_sectors (entry_mount v.mount icb) es) ((onward o n (λ f. ran (disc image) (content_of (entry_mount v.mount icb) f))).count - (onward o n (λ f. ran (disc image) (done (extents_of f)))).count)
    file-waits (refused r) n p q = never p
    file-waits (answered (embedded x)) n p q = absurd (let z = rw (ran-done {A = List ℕ} (disc image) (embedded_bytes x)) at q in let w : ◌≡◌ {A = ℕ} 0 1 = cc in omega arith)
    file-waits (answered (chained x l)) n p q =
        let a : answered l ≡ answered es = rw (ran-done {A = List AllocExtent} (disc image) l) at p in
        let e : l ≡ es = cc in
        rw (ran-done {A = List AllocExtent} (disc image) l, less n (rest_of image (entry_mount v.mount icb) l x.entry.information_length).count, ← e) (extents-wait image (entry_mount v.mount icb) l x.entry.information_length q)
      where
        less : (n k : ℕ) → n + k - (n + 0) ≡ k
        less n k = omega arith

    listed-runs : (ran (disc image) (extent_listing v icb)).outcome ≡ answered es
    unfolding ran
    listed-runs = h

    runs-wait : is_io (ran (disc image) (reading v icb)).outcome ≡ true → Waits image (extent_sectors (entry_mount v.mount icb) es) ((ran (disc image) (reading v icb)).count - (ran (disc image) (extent_listing v icb)).count)
    unfolding file_bytes file_extents
    runs-wait q =
        let r = ran_then (disc image) (file_at v.mount icb) (content_of (entry_mount v.mount icb)) in
        let x = ran_then (disc image) (file_at v.mount icb) (λ f. done (extents_of f)) in
        rw (r, x) (file-waits (ran (disc image) (file_at v.mount icb)).outcome (ran (disc image) (file_at v.mount icb)).count (rw x at listed-runs) (rw r at q))

    pub read-waits-at : {A : Type 0} (f : AllocExtent → A) (out : List ℕ) (row : List A)
        → (reads image v icb out).reply.answer ≡ 1 → (reads image v icb out).reply.count < 0xffff_ffff_ffff_ffff
        → Waits image (extent_sectors (entry_mount v.mount icb) es) ((reads image v icb out).reply.count - (extents f image v icb row).reply.count)
    unfolding ran
    read-waits-at f out row a b =
        let n = reported (length (asked (disc image) (reading v icb))) in
        let q : is_io (outcome (disc image) (reading v icb)) ≡ true = sym (io-1 (as_read v icb out) image) ∙ ap (λ k. eqb k 1) a in
        let w = runs-wait q in
        let e : (reads image v icb out).reply.count - (extents f image v icb row).reply.count ≡ length (asked (disc image) (reading v icb)) - length (asked (disc image) (extent_listing v icb))
        = omega (arith, counts (as_read v icb out) image, counts (as_extents f v icb row) image, w.place) in
        rw e w

  -- ---- ready: the entry and the chain are read, the file isn't embedded, and the read isn't refused by 4. Then, with room enough, it is answered exactly when all
  -- sectors of its list are there, and else it is refused by 1

  module _ {x : Located} {es : List AllocExtent} (h : outcome (disc image) (file_at v.mount icb) ≡ answered (chained x es)) where
    file-runs : (ran (disc image) (file_at v.mount icb)).outcome ≡ answered (chained x es)
    unfolding ran
    file-runs = h

    -- the read of a chained file is refused by 1 or by 4 alone
    read-ends : Ended (ran (disc image) (reading v icb)).outcome
    unfolding file_bytes
    read-ends =
        let r = ran_then (disc image) (file_at v.mount icb) (content_of (entry_mount v.mount icb)) in
        rw (r, file-runs) (extents-end image (entry_mount v.mount icb) es x.entry.information_length)

    pub read-ready : (out : List ℕ) → ((reads image v icb out).reply.answer ≡ 4 → ⊥) → ((b : List ℕ) → outcome (disc image) (reading v icb) ≡ answered b → length b ≤ length out)
        → (reads image v icb out).reply.answer ≡ pick (lacking image (reading v icb)) 1 0
    unfolding ran
    read-ready out met room = by (outcome (disc image) (reading v icb)) refl read-ends met (lacking image (reading v icb)) (sym (io-1 (as_read v icb out) image) ∙ missing (as_read v icb out) image)
      where
        n : ℕ
        n = reported (length (asked (disc image) (reading v icb)))

        by : (o : Outcome (List ℕ)) → outcome (disc image) (reading v icb) ≡ o → Ended o → ((reply_by NoRoom (length out) n o).answer ≡ 4 → ⊥) → (t : Bool) → is_io o ≡ t
            → (reply_by NoRoom (length out) n o).answer ≡ pick t 1 0
        by o e (bytes b) f true p = absurd (let w : ◌≡◌ {A = ℕ} 0 1 = cc in omega arith)
        by o e (bytes b) f false p = rw (le-leb (length b) (length out) (room b e))
        by o e lacked f true p = refl
        by o e lacked f false p = absurd (let w : ◌≡◌ {A = ℕ} 0 1 = cc in omega arith)
        by o e unsupported f t p = absurd (f refl)
