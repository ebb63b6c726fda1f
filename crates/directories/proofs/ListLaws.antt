-- A directory listed, against its tree. Assumes nothing.
use mathlib.Core.Path.{◌≡◌, refl}
use mathlib.Core.Bool.{Bool}
use mathlib.Core.List.{List}
use Prim.Native.Nat.{ℕ, ◌-◌}
use lib.ListN.{length, take, drop}
use Rattle.disc.specs.declared.places.Mount.{Mount}
use Rattle.disc.specs.Places.{is_checked}
use Rattle.disc.specs.Counts.{reported}
use Rattle.disc.specs.Ask.{Disc, Outcome, and_then}
use Rattle.disc.specs.Ask.Outcome.{answered, refused}
use Rattle.disc.specs.Ran.{Ran, ran, told}
use Rattle.disc.specs.Replies.{Replied}
use Rattle.disc.specs.declared.refusals.Refusal.TheVariants.{NoRoom}
use Rattle.disc.specs.declared.replies.Reply.{Reply}
use Rattle.disc.proofs.ReplyLaws.{recount}
use Rattle.disc.proofs.RanLaws.{ran-known}
use Rattle.records.specs.declared.allocations.LongAd.{LongAd}
use Rattle.listings.specs.Listings.{listing}
use Rattle.directories.specs.Directories.{directory_bytes, listing_at}
use Rattle.directories.specs.Inner.Spaces.{reply_to, Reads}
use Rattle.directories.proofs.SpaceLaws.{reads-count, reads_bytes}

-- a read that was refused refuses what follows it
refused-replied : (o : Outcome (List ℕ)) (n : ℕ) {reply : Reply} → reply ≡ reply_to o (reported n) → (reply.answer ≡ 0 → ⊥) → (f : List ℕ → Outcome (List ℕ)) (d : List ℕ)
    → Replied NoRoom (record { outcome = and_then o f; count = n }) d d reply
refused-replied (answered b) n p h f d = absurd (h (rw p))
refused-replied (refused r) n p h f d = record { says = p; leaves = refl }

module _ (d : Disc) (v : Mount) (icb : LongAd) (w w' : List ℕ) {read : Reply} (p : Reads (ran d (directory_bytes v (length w) icb)) w w' read) where
  abbrev R : Ran (List ℕ)
  R = ran d (directory_bytes v (length w) icb)

  listing-is : ran d (listing_at v (length w) icb) ≡ record { outcome = and_then R.outcome (listing (is_checked v)); count = R.count }
  unfolding listing_at
  listing-is = ran-known d (directory_bytes v (length w) icb) (listing (is_checked v))

  pub list-refused : (read.answer ≡ 0 → ⊥) → (o : List ℕ) → Replied NoRoom (ran d (listing_at v (length w) icb)) o o read
  list-refused h o = rw listing-is (refused-replied R.outcome R.count p.says h (listing (is_checked v)) o)

  pub list-listed : read.answer ≡ 0 → {check : Bool} → check ≡ is_checked v → {o o' : List ℕ} (l : Reply) → Replied NoRoom (told (listing check (take (read.length - 0) (drop 0 w')))) o o' l
      → Replied NoRoom (ran d (listing_at v (length w) icb)) o o' (record { answer = l.answer; count = read.count; length = l.length })
  list-listed h {check} k {o} l e =
      let b : List ℕ = take (read.length - 0) (drop 0 w') in
      rw (listing-is, reads_bytes p h, reads-count p, ← k)
      (record { says = recount NoRoom (length o) 0 (reported R.count) (listing check b) e.says; leaves = e.leaves })
