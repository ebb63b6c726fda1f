-- RULES 8.2 to 8.10 and 8.22 to 8.24, of a directory's bytes at hand. A listing is a read of the directory and `list_bytes` of what it gave; a step of a
-- lookup is such a read and `find_in`. Every answer of `find_in` is in the table, and a refusal has zeros; of `list_bytes` this is Promises, since it is a
-- call that asks for no sector. Assumes nothing.
use Rattle.std.specs.Prelude.{Option, Some, None}
use mathlib.Core.Path.{◌≡◌, refl, ap, ◌∙◌}
use mathlib.Core.Bool.{Bool, true, false}
use mathlib.Core.List.{List, ◌∷◌}
use Prim.Native.Nat.{ℕ, ◌≤◌}
use native.Mathlib.Nat.{add-zero}
use lib.ListN.{length}
use lib.Dec.{leb}
use borrow.Author.Tests.{ne_eqb, le-leb}
use Rattle.disc.specs.Choice.{pick}
use Rattle.disc.specs.Counts.{reported}
use Rattle.disc.specs.Places.{is_checked}
use Rattle.disc.specs.Refusals.{number}
use Rattle.disc.specs.Ask.{Disc, Outcome, outcome, asked, and_then, ended}
use Rattle.disc.specs.Ask.Outcome.{answered, refused}
use Rattle.disc.specs.Images.{disc}
use Rattle.disc.specs.Ran.{Ran, ran, after, onward}
use Rattle.disc.specs.Replies.{reply_by}
use Rattle.disc.specs.declared.refusals.Refusal.{Refusal}
use Rattle.disc.specs.declared.refusals.Refusal.TheVariants.{NoRoom}
use Rattle.disc.specs.declared.replies.Reply.{Reply}
use Rattle.disc.proofs.RanLaws.{ran_then, ran-known}
use Rattle.disc.proofs.RefusalLaws.{refusal-numbered, refusal-known}
use Rattle.records.specs.declared.allocations.LongAd.{LongAd}
use Rattle.listings.specs.Entries.{Entry}
use Rattle.listings.specs.Listings.{find_in, unnamed, named_of, listing as listing_in}
use Rattle.listings.specs.Paths.{Component}
use Rattle.listings.specs.declared.matchings.Matching.{Matching}
use Rattle.identifiers.specs.Identifiers.{is_directory}
use Rattle.directories.specs.Directories.{within, directory_bytes, listing_at}
use Rattle.directories.specs.Lookups.{entering, or_lost, seeking}
use Rattle.volumes.specs.declared.openings.VolumeRecord.{VolumeRecord}
use Rattle.vault.specs.Calls.{reading, listing, cleared, lists, lists_bytes, finds_in}
use Rattle.listings.proofs.RefusingLaws.{named-only}
use Rattle.disc.specs.Refusing.{Only, Any}
use Rattle.vault.specs.AtHand.{counted, in_find, on_from}

-- ---- a listing is a read, and `list_bytes` of the bytes that it gave, after the read's sectors

module _ (image : List ℕ) (v : VolumeRecord) (icb : LongAd) (out work b : List ℕ) (n : ℕ) (h : ran (disc image) (reading v icb) ≡ record { outcome = answered b; count = n }) (fits : length b ≤ length work) where
  read : ran (disc image) (directory_bytes v.mount (length work) icb) ≡ record { outcome = answered b; count = n }
  unfolding directory_bytes within
  read = ran-known (disc image) (reading v icb) (within (length work)) ∙ rw (h, le-leb (length b) (length work) fits)

  run : ran (disc image) (listing v (length work) icb) ≡ record { outcome = listing_in (is_checked v.mount) b; count = n }
  unfolding listing_at
  run = ran-known (disc image) (directory_bytes v.mount (length work) icb) (listing_in (is_checked v.mount)) ∙ rw read

  recounted : (o : Outcome (List ℕ)) → reply_by NoRoom (length out) (reported n) o ≡ counted (reported n) (reply_by NoRoom (length out) (reported 0) o)
  recounted (refused why) = refl
  recounted (answered c) = by (leb (length c) (length out))
    where
      by : (t : Bool) → pick {A = Reply} t (record { answer = 0; count = reported n; length = length c }) (record { answer = number NoRoom; count = reported n; length = 0 })
          ≡ counted (reported n) (pick t (record { answer = 0; count = reported 0; length = length c }) (record { answer = number NoRoom; count = reported 0; length = 0 }))
      by true = refl
      by false = refl

  pub list-is-read : lists image v icb out work ≡ record { reply = counted (reported n) (lists_bytes v b out).reply; out = (lists_bytes v b out).out; work = cleared work }
  list-is-read = rw (run, recounted (listing_in (is_checked v.mount) b))

-- ---- a step of a lookup is a read of the directory, and `find_in` of its bytes

module _ (d : Disc) (v : VolumeRecord) (work : ℕ) (matching : Matching) (c : Component) (cs : List Component) where
  taken : (n : ℕ) (o : Outcome (Option Entry))
      → onward o n (λ x. ran d (or_lost c x (λ e. seeking matching v.mount work cs e.identifier.icb (is_directory e.identifier)))) ≡ after n ((on_from d v work matching c cs) (named_of o))
  unfolding ran outcome asked
  taken n (answered None) = refl
  taken n (answered (Some e)) = refl
  taken n (refused why) = rw (ne_eqb (number why) 0 (refusal-numbered why), refusal-known why, add-zero)

  pub step-finds : (icb : LongAd) (b : List ℕ) (n : ℕ) → ran d (directory_bytes v.mount work icb) ≡ record { outcome = answered b; count = n }
      → ran d (seeking matching v.mount work (c ∷ cs) icb true) ≡ after n ((on_from d v work matching c cs) (finds_in v b c.bytes matching))
  unfolding seeking entering
  step-finds icb b n h =
      ran_then d (entering matching v.mount work icb c.bytes) _
      ∙ ap (λ (r : Ran (Option Entry)). onward r.outcome r.count (λ x. ran d (or_lost c x (λ e. seeking matching v.mount work cs e.identifier.icb (is_directory e.identifier)))))
      (ran-known d (directory_bytes v.mount work icb) (find_in (is_checked v.mount) matching c.bytes) ∙ ap (λ (r : Ran (List ℕ)). record { outcome = and_then r.outcome (find_in (is_checked v.mount) matching c.bytes); count = r.count }) h)
      ∙ taken n (find_in (is_checked v.mount) matching c.bytes b)

-- ---- `find_in`: under any number but 0 there are zeros

pub find-bare : (v : VolumeRecord) (bytes component : List ℕ) (matching : Matching) → ((finds_in v bytes component matching).answer ≡ 0 → ⊥) → finds_in v bytes component matching ≡ unnamed (finds_in v bytes component matching).answer
find-bare v bytes component matching = by (find_in (is_checked v.mount) matching component bytes)
  where
    by : (o : Outcome (Option Entry)) → ((named_of o).answer ≡ 0 → ⊥) → named_of o ≡ unnamed (named_of o).answer
    by (answered None) h = refl
    by (answered (Some e)) h = absurd (h refl)
    by (refused why) h = refl

-- and every answer is in the table

pub find-listed : (v : VolumeRecord) (bytes component : List ℕ) (matching : Matching) → in_find v matching (finds_in v bytes component matching).answer ≡ true
unfolding Only
find-listed v bytes component matching =
    by (find_in (is_checked v.mount) matching component bytes) (named-only Said refl (is_checked v.mount) (λ k. k) matching (λ e. rw e) component bytes).only
  where
    Said : Refusal → Type 0
    Said why = in_find v matching (number why) ≡ true

    by : (o : Outcome (Option Entry)) → Only Said Any (ended o) → in_find v matching (named_of o).answer ≡ true
    by (answered None) p = refl
    by (answered (Some e)) p = refl
    by (refused why) p = p
