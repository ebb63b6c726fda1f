-- A directory's bytes in the work space, and what follows them without a question. Assumes nothing.
use mathlib.Core.Path.{◌≡◌, refl, sym, ap, ◌∙◌}
use mathlib.Core.Bool.{Bool, true, false}
use mathlib.Core.List.{List, ◌++◌}
use Prim.Native.Nat.{ℕ, ◌-◌, ◌≤◌, zero-le}
use native.Mathlib.Nat.{sub-zero}
use native.Mathlib.Omega.{arith}
use lib.ListN.{length, take, drop, length-append}
use lib.Seq.{take-append_seam}
use lib.Dec.{leb}
use Rattle.disc.specs.declared.places.Mount.{Mount}
use Rattle.disc.specs.Choice.{pick}
use Rattle.disc.specs.Refusals.{number}
use Rattle.disc.specs.Counts.{reported}
use Rattle.disc.specs.Ask.{Disc, Outcome, and_then}
use Rattle.disc.specs.Ask.Outcome.{answered, refused}
use Rattle.disc.specs.Ran.{Ran, ran}
use Rattle.disc.specs.Replies.{reply_by, left_by, Replied}
use Rattle.disc.specs.declared.refusals.Refusal.TheVariants.{NoWork}
use Rattle.disc.specs.declared.replies.Reply.{Reply}
use Rattle.disc.proofs.RanLaws.{ran-known}
use Rattle.disc.proofs.RefusalLaws.{refusal-numbered}
use Rattle.records.specs.declared.allocations.LongAd.{LongAd}
use Rattle.files.specs.Files.{file_bytes}
use Rattle.directories.specs.Directories.{within, directory_bytes}
use Rattle.directories.specs.Inner.Spaces.{reply_to, on_front, Reads}

-- ---- a directory read

reply-within : (o : Outcome (List ℕ)) (room n : ℕ) → reply_by NoWork room n o ≡ reply_to (and_then o (within room)) n
unfolding within
reply-within (refused r) room n = refl
reply-within (answered b) room n = by (leb (length b) room)
  where
    by : (t : Bool) → pick t (record { answer = 0; count = n; length = length b }) (record { answer = number NoWork; count = n; length = 0 }) ≡ reply_to (pick t (answered b) (refused NoWork)) n
    by true = refl
    by false = refl

left-within : (o : Outcome (List ℕ)) (w : List ℕ) → left_by w o ≡ on_front (and_then o (within (length w))) w
unfolding within
left-within (refused r) w = refl
left-within (answered b) w = by (leb (length b) (length w))
  where
    by : (t : Bool) → pick t (b ++ drop (length b) w) w ≡ on_front (pick t (answered b) (refused NoWork)) w
    by true = refl
    by false = refl

pub read-within : (d : Disc) (v : Mount) (icb : LongAd) {w w' : List ℕ} {reply : Reply}
    → Replied NoWork (ran d (file_bytes v icb)) w w' reply → Reads (ran d (directory_bytes v (length w) icb)) w w' reply
unfolding directory_bytes
read-within d v icb {w} p =
    rw (ran-known d (file_bytes v icb) (within (length w)))
    (record {
      says = p.says ∙ reply-within (ran d (file_bytes v icb)).outcome (length w) _;
      leaves = p.leaves ∙ left-within (ran d (file_bytes v icb)).outcome w;
    })

-- ---- what such a reply says of the outcome o

module _ (o : Outcome (List ℕ)) (n : ℕ) {reply : Reply} (p : reply ≡ reply_to o n) where
  pub reply-count : reply.count ≡ n
  reply-count = by o p
    where
      by : (o : Outcome (List ℕ)) → reply ≡ reply_to o n → reply.count ≡ n
      by (answered b) p = rw p
      by (refused r) p = rw p

  pub reply-length : (w w' : List ℕ) → w' ≡ on_front o w → reply.length ≤ length w'
  reply-length w w' q = by o p q
    where
      by : (o : Outcome (List ℕ)) → reply ≡ reply_to o n → w' ≡ on_front o w → reply.length ≤ length w'
      by (answered b) p q = rw (p, q, length-append) (omega arith)
      by (refused r) p q = rw p zero-le

  -- what was read, where something was
  pub reply-bytes : reply.answer ≡ 0 → (w w' : List ℕ) → w' ≡ on_front o w → o ≡ answered (take reply.length w')
  reply-bytes h w w' q = by o p q
    where
      by : (o : Outcome (List ℕ)) → reply ≡ reply_to o n → w' ≡ on_front o w → o ≡ answered (take reply.length w')
      by (answered b) p q = rw (p, q) (ap answered (sym (take-append_seam b _)))
      by (refused r) p q = absurd (refusal-numbered r (sym (ap (λ (x : Reply). x.answer) p) ∙ h))

-- the same of a run
module _ {r : Ran (List ℕ)} {w w' : List ℕ} {reply : Reply} (p : Reads r w w' reply) where
  pub reads-count : reply.count ≡ reported r.count
  reads-count = reply-count r.outcome (reported r.count) p.says

  pub reads-room : reply.length ≤ length w'
  reads-room = reply-length r.outcome (reported r.count) p.says w w' p.leaves

  pub reads_bytes : reply.answer ≡ 0 → r.outcome ≡ answered (take (reply.length - 0) (drop 0 w'))
  reads_bytes h = reply-bytes r.outcome (reported r.count) p.says h w w' p.leaves ∙ rw sub-zero

-- ---- the contract of a read leaves one result

pub reads-one : {r : Ran (List ℕ)} {before after after' : List ℕ} {reply reply' : Reply}
    → Reads r before after reply → Reads r before after' reply' → (reply ≡ reply') × (after ≡ after')
reads-one p q = (p.says ∙ sym q.says, p.leaves ∙ sym q.leaves)
