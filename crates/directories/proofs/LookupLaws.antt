-- What is asked of a path, by the walk's end. Assumes nothing.
use mathlib.Core.Path.{◌≡◌, refl, sym, ap, ◌∙◌}
use mathlib.Core.List.{List}
use Prim.Native.Nat.{ℕ, ◌+◌, ◌-◌, ◌≤◌, ◌<◌, ◌^◌}
use native.Mathlib.Omega.{arith}
use lib.ListN.{length, take, drop, length-drop}
use lib.Seq.{length-take-le}
use mir.Syntax.{w64}
use mir.Val.{Fits}
use Rattle.disc.specs.declared.places.Mount.{Mount}
use Rattle.listings.specs.declared.matchings.Matching.{Matching}
use Rattle.disc.specs.Counts.{reported}
use Rattle.disc.specs.Ask.{Disc, Outcome, and_then}
use Rattle.disc.specs.Ask.Outcome.{answered, refused}
use Rattle.disc.specs.Ran.{Ran, ran, onward, followed}
use Rattle.disc.specs.Replies.{Replied}
use Rattle.disc.specs.declared.refusals.Refusal.TheVariants.{NoRoom}
use Rattle.disc.specs.declared.replies.Reply.{Reply}
use Rattle.disc.proofs.PartLaws.{part_slice}
use Rattle.disc.proofs.CountLaws.{reported-sum}
use Rattle.disc.proofs.RanLaws.{ran_then, ran-known}
use Rattle.disc.proofs.RefusalLaws.{refusal-numbered}
use Rattle.disc.proofs.ReplyLaws.{reply-refused, reply-counts, recount}
use Rattle.records.specs.declared.allocations.LongAd.{LongAd}
use Rattle.files.specs.Files.{file_bytes}
use Rattle.listings.specs.Paths.{Component}
use Rattle.directories.specs.Lookups.{seek_path, icb_of, lookup_of, read_path_of, found_to, found_of, failed_of, failed_reply}
use Rattle.directories.specs.Inner.Walks.{Walks}
use Rattle.directories.specs.declared.lookups.Found.{Found}
use Rattle.directories.specs.declared.walks.PathEnd.{PathEnd}
use Rattle.directories.proofs.PlaceLaws.{failed-stands}

-- ---- a lookup, and the component that failed

module _ (d : Disc) (matching : Matching) (v : Mount) (work : ℕ) (root : LongAd) (path : List ℕ) where
  pub look_is : ran d (lookup_of matching v work root path) ≡ record { outcome = and_then (ran d (seek_path matching v work root path)).outcome icb_of; count = (ran d (seek_path matching v work root path)).count }
  unfolding lookup_of
  look_is = ran-known d (seek_path matching v work root path) icb_of

  module _ {q : PathEnd} (w : Walks d matching v work root path q) where
    pub look-found : record { answer = q.answer; count = q.count; icb = q.icb } ≡ found_of (ran d (lookup_of matching v work root path))
    look-found = w.found ∙ ap found_of (sym look_is)

    pub look_at : q.from ≡ (failed_of (ran d (seek_path matching v work root path))).component.at
    look_at = ap (λ (c : Component). c.at) w.lost

    pub look-length : record { answer = q.answer; count = q.count; length = q.end - q.from } ≡ failed_reply (failed_of (ran d (seek_path matching v work root path)))
    look-length =
        let n : length (take (q.end - q.from) (drop q.from path)) ≡ q.end - q.from =
        length-take-le (q.end - q.from) (drop q.from path) (rw length-drop (omega (arith, w.within))) in
        let c : length (failed_of (ran d (seek_path matching v work root path))).component.bytes ≡ q.end - q.from = rw (← w.lost) n in
        let a : q.answer ≡ (failed_of (ran d (seek_path matching v work root path))).answer = ap (λ (f : Found). f.answer) w.found in
        let k : q.count ≡ (failed_of (ran d (seek_path matching v work root path))).count = ap (λ (f : Found). f.count) w.found in
        rw (a, k, c)

-- ---- the component as a part of the path

module _ (d : Disc) (matching : Matching) (v : Mount) (work : ℕ) (root : LongAd) (path : List ℕ) {reply : Reply}
    (e : reply ≡ failed_reply (failed_of (ran d (seek_path matching v work root path)))) where
  pub failed-answer : reply.answer ≡ (failed_of (ran d (seek_path matching v work root path))).answer
  failed-answer = rw e

  pub failed-count : reply.count ≡ (failed_of (ran d (seek_path matching v work root path))).count
  failed-count = rw e

  module _ {at : ℕ} (h : at ≡ (failed_of (ran d (seek_path matching v work root path))).component.at) where
    pub failed-part : take (at + reply.length - at) (drop at path) ≡ (failed_of (ran d (seek_path matching v work root path))).component.bytes
    failed-part = rw (e, h) (part_slice (failed-stands d matching v work root path))

    pub failed-room : at + reply.length ≤ length path
    failed-room = rw (e, h) (failed-stands d matching v work root path).inside

    pub failed-fits : length path < 2 ^ 64 → Fits w64 (at + reply.length)
    failed-fits l = omega (arith, failed-room)

-- ---- a file read by its path

-- a lookup that was refused refuses the read
refused-path : (o : Outcome LongAd) (n : ℕ) {found : Found} → found ≡ found_to o (reported n) → (found.answer ≡ 0 → ⊥) → (f : LongAd → Ran (List ℕ)) (lent : List ℕ) {reply : Reply}
    → reply ≡ record { answer = found.answer; count = found.count; length = 0 } → Replied NoRoom (onward o n f) lent lent reply
refused-path (answered icb) n p h f lent q = absurd (h (rw p))
refused-path (refused r) n p h f lent q = reply-refused r n (reported n) refl (q ∙ rw p)

-- one that was answered goes on at its ICB, counts added
found-path : (o : Outcome LongAd) (n : ℕ) {found : Found} → found ≡ found_to o (reported n) → found.answer ≡ 0 → (f : LongAd → Ran (List ℕ)) {lent after : List ℕ} (read : Reply)
    → Replied NoRoom (f found.icb) lent after read → {c : ℕ} → c ≡ reported (found.count + read.count)
    → Replied NoRoom (onward o n f) lent after (record { answer = read.answer; count = c; length = read.length })
found-path (refused r) n p h f read q e = absurd (refusal-numbered r (sym (ap (λ (x : Found). x.answer) p) ∙ h))
found-path (answered icb) n {found} p h f {lent} read q {c} e =
    let i : found.icb ≡ icb = rw p in
    let a : found.count ≡ reported n = rw p in
    let s : Replied NoRoom (f icb) lent _ read = rw i at q in
    let b : read.count ≡ reported (f icb).count = ap (λ (x : Reply). x.count) s.says ∙ reply-counts NoRoom (length lent) (reported (f icb).count) (f icb).outcome in
    record {
      says = rw (e, a, b, reported-sum) (recount NoRoom (length lent) (reported (f icb).count) (reported (n + (f icb).count)) (f icb).outcome s.says);
      leaves = s.leaves;
    }

module _ (d : Disc) (matching : Matching) (v : Mount) (work : ℕ) (root : LongAd) (path : List ℕ) where
  path-is : ran d (read_path_of matching v work root path) ≡ followed (ran d (lookup_of matching v work root path)) (λ icb. ran d (file_bytes v icb))
  unfolding read_path_of
  path-is = ran_then d (lookup_of matching v work root path) (λ icb. file_bytes v icb)

  module _ {q : PathEnd} (w : Walks d matching v work root path q) where
    pub path-refused : (q.answer ≡ 0 → ⊥) → (lent : List ℕ) {reply : Reply} → reply ≡ record { answer = q.answer; count = q.count; length = 0 }
        → Replied NoRoom (ran d (read_path_of matching v work root path)) lent lent reply
    path-refused h lent e =
        rw path-is
        (refused-path (ran d (lookup_of matching v work root path)).outcome (ran d (lookup_of matching v work root path)).count (look-found d matching v work root path w) h (λ icb. ran d (file_bytes v icb)) lent e)

    pub path-read : q.answer ≡ 0 → {lent after : List ℕ} (read : Reply) → Replied NoRoom (ran d (file_bytes v q.icb)) lent after read
        → {c : ℕ} → c ≡ reported (q.count + read.count)
        → Replied NoRoom (ran d (read_path_of matching v work root path)) lent after (record { answer = read.answer; count = c; length = read.length })
    path-read h read r e =
        rw path-is
        (found-path (ran d (lookup_of matching v work root path)).outcome (ran d (lookup_of matching v work root path)).count (look-found d matching v work root path w) h (λ icb. ran d (file_bytes v icb)) read r e)
