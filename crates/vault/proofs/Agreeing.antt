-- How the choices of matching agree, said of the calls that take a path. Wherever the third isn't refused by 9, the first gives the same; a lookup that
-- the second and the third answer has one ICB; where no two names of the directories on the path are equal with ASCII case ignored, the first and the
-- third give the same, and the second gives the same or is refused by 3. And 9 is given exactly when several entries match. Assumes nothing.
use mathlib.Core.Path.{◌≡◌, refl, ap, sym, ◌∙◌}
use mathlib.Core.Bool.{true}
use mathlib.Core.List.{List}
use mathlib.Core.Logic.{◌⊎◌, inl, inr}
use Prim.Native.Nat.{ℕ}
use native.Mathlib.Omega.{arith}
use lib.ListN.{length}
use Rattle.disc.specs.Refusals.{number}
use Rattle.disc.specs.Counts.{reported}
use Rattle.disc.specs.Ask.{Outcome, outcome, and_then}
use Rattle.disc.specs.Ask.Outcome.{answered, refused}
use Rattle.disc.specs.Images.{disc}
use Rattle.disc.specs.Ran.{Ran, ran}
use Rattle.disc.specs.Replies.{answer_of}
use Rattle.disc.specs.declared.refusals.Refusal.{Refusal}
use Rattle.disc.specs.declared.refusals.Refusal.TheVariants.{Ambiguous}
use Rattle.disc.proofs.OnlyLaws.{refuses-within}
use Rattle.disc.proofs.RanLaws.{ran_then}
use Rattle.disc.proofs.RefusalLaws.{refusal-numbered}
use Rattle.records.specs.declared.allocations.LongAd.{LongAd}
use Rattle.listings.specs.Paths.{components}
use Rattle.listings.specs.declared.matchings.Matching.{Matching}
use Rattle.listings.specs.declared.matchings.Matching.TheVariants.{CaseIgnored, AsWritten, Unambiguous}
use Rattle.directories.specs.Directories.{directory_bytes}
use Rattle.directories.specs.Lookups.{Sought, seek_path, icb_of, read_path_of}
use Rattle.directories.specs.Lookups.Sought.{reached, lost}
use Rattle.directories.proofs.LookupLaws.{look_is}
use Rattle.directories.proofs.MatchingLaws.{only-agrees, written-agrees-only, apart-only, apart-written-agrees, doubles-refused, refused-doubles}
use Rattle.volumes.specs.declared.openings.VolumeRecord.{VolumeRecord}
use Rattle.vault.specs.Calls.{reading, seeking as seeking_of, finding, path_reading, worked, looked, finds, lost as lost_by, lost_place}
use Rattle.directories.proofs.RefusingLaws.{directory-only}
use Rattle.vault.specs.Public.{way, leaves, answer_on}
use Rattle.vault.proofs.Along.{walk_refused, refused-walk}
use Rattle.disc.specs.Refusing.{Within}
use Rattle.directories.specs.Leads.{IsLost}
use Rattle.vault.specs.Along.{Walker, along, Same}
use Rattle.vault.specs.Along.Walker.{finder, failer, placer, reader}
use Rattle.vault.specs.Paths.{AllApart, SeveralOn, sectors_of_several}

-- ---- calls whose walks are the same

module _ (image : List ℕ) (v : VolumeRecord) (path work : List ℕ) where
  abbrev W : Matching → Ran Sought
  W matching = ran (disc image) (seeking_of v (length work) path matching)

  looks : (matching : Matching) → ran (disc image) (finding v (length work) path matching) ≡ record { outcome = and_then (W matching).outcome icb_of; count = (W matching).count }
  looks matching = look_is (disc image) matching v.mount (length work) v.root path

  looked-same : (matching matching' : Matching) → W matching ≡ W matching' → ran (disc image) (finding v (length work) path matching) ≡ ran (disc image) (finding v (length work) path matching')
  looked-same matching matching' h = looks matching ∙ ap (λ (r : Ran Sought). record { outcome = and_then r.outcome icb_of; count = r.count }) h ∙ sym (looks matching')

  read_same : (matching matching' : Matching) → W matching ≡ W matching' → ran (disc image) (path_reading v (length work) path matching) ≡ ran (disc image) (path_reading v (length work) path matching')
  unfolding read_path_of
  read_same matching matching' h =
      ran_then (disc image) (finding v (length work) path matching) (λ icb. reading v icb)
      ∙ rw (looked-same matching matching' h) refl
      ∙ sym (ran_then (disc image) (finding v (length work) path matching') (λ icb. reading v icb))

  same : (matching matching' : Matching) → W matching ≡ W matching' → Same image v path matching matching' work
  same matching matching' h = record { calls = by }
    where
      by : {A R : Type 0} (w : Walker A R) → leaves (along w v path matching work) image ≡ leaves (along w v path matching' work) image
      by finder = ap (looked work) (looked-same matching matching' h)
      by failer = ap (lost_by work) h
      by placer = ap (lost_place work) h
      by (reader out) = ap (worked out work) (read_same matching matching' h)

  -- ---- the third choice and the first

  -- wherever the third isn't refused by 9, the first gives the same: answer, count and memory
  pub only_same : ((finds image v path Unambiguous work).found.answer ≡ 9 → ⊥) → Same image v path CaseIgnored Unambiguous work
  unfolding seek_path
  only_same n =
      same CaseIgnored Unambiguous
      (only-agrees (disc image) v.mount (length work) (components path) v.root true
      (λ k. n (ap (λ (r : Ran LongAd). answer_of r.outcome) (looks Unambiguous) ∙ ap (λ (o : Outcome Sought). answer_of (and_then o icb_of)) k)))

  -- ---- the second choice and the third

  record Arrived (o : Outcome Sought) : Type 0 where
    at : LongAd
    is : o ≡ answered (reached at)

  arrived : (matching : Matching) → (finds image v path matching work).found.answer ≡ 0 → Arrived (W matching).outcome
  arrived matching h = by (W matching).outcome (sym (ap (λ (r : Ran LongAd). answer_of r.outcome) (looks matching)) ∙ h)
    where
      by : (o : Outcome Sought) → answer_of (and_then o icb_of) ≡ 0 → Arrived o
      by (answered (reached icb)) e = record { at = icb; is = refl }
      by (answered (lost c)) e = absurd (omega arith)
      by (refused why) e = absurd (refusal-numbered why e)

  -- a lookup that both answer has the same ICB, after as many sectors
  pub written-only-same : (finds image v path AsWritten work).found.answer ≡ 0 → (finds image v path Unambiguous work).found.answer ≡ 0 → Same image v path AsWritten Unambiguous work
  unfolding seek_path
  written-only-same h k =
      same AsWritten Unambiguous
      (written-agrees-only (disc image) v.mount (length work) (components path) v.root true (arrived AsWritten h).is (arrived Unambiguous k).is)

  -- ---- where no two listed names of the directories on the path are equal with case ignored

  -- the first choice and the third give the same,
  pub apart-same : (AllApart image v path work) → Same image v path Unambiguous CaseIgnored work
  unfolding seek_path
  apart-same a = same Unambiguous CaseIgnored (apart-only (disc image) v.mount (length work) (components path) v.root true a)

  -- and the second gives the same too, or is refused by 3
  pub apart-written-same : (AllApart image v path work) → Same image v path AsWritten CaseIgnored work ⊎ ((finds image v path AsWritten work).found.answer ≡ 3)
  unfolding seek_path
  apart-written-same a = by (apart-written-agrees (disc image) v.mount (length work) (components path) v.root true a)
    where
      by : (W AsWritten ≡ W CaseIgnored) ⊎ IsLost (W AsWritten) → Same image v path AsWritten CaseIgnored work ⊎ ((finds image v path AsWritten work).found.answer ≡ 3)
      by (inl h) = inl (same AsWritten CaseIgnored h)
      by (inr l) = inr (ap (λ (r : Ran LongAd). answer_of r.outcome) (looks AsWritten) ∙ ap (λ (o : Outcome Sought). answer_of (and_then o icb_of)) l.is)

  -- ---- 9 exactly when several entries of a directory on the path match the component that is to be found there

  abbrev ButNine : Refusal → Type 0
  ButNine why = number why ≡ 9 → ⊥

  never-nine : (icb : LongAd) → (ran (disc image) (directory_bytes v.mount (length work) icb)).outcome ≡ refused Ambiguous → ⊥
  unfolding ran Within
  never-nine icb h =
      by (outcome (disc image) (directory_bytes v.mount (length work) icb)) h
      (refuses-within ButNine (λ e. omega arith) (disc image)
      (directory-only ButNine (λ e. omega arith) (λ e. omega arith) (λ e. omega arith) v.mount (λ c e. omega arith) (length work) icb))
    where
      by : (o : Outcome (List ℕ)) → o ≡ refused Ambiguous → Within ButNine o → ⊥
      by (answered b) h w = let z : ◌≡◌ {A = ℕ} 0 1 = cc in omega arith
      by (refused why) h w = let z : why ≡ Ambiguous = cc in w (ap number z)

  pub along-9 : {A R : Type 0} (w : Walker A R) → answer_on (along w v path Unambiguous work) image ≡ 9 → (SeveralOn image v path work)
  unfolding seek_path
  along-9 w e = refused-doubles (disc image) v.mount (length work) never-nine (components path) v.root (refused-walk image v path Unambiguous work Ambiguous (inr refl) w e)

  -- and always then, after the sectors of the way to the directory and of its read; the component that failed is empty, and all else is as a refusal has it
  module _ (o : (SeveralOn image v path work)) where
    pub several-along : {A R : Type 0} (w : Walker A R) → leaves (along w v path Unambiguous work) image ≡ (way (along w v path Unambiguous work)).bare 9 (reported (sectors_of_several image v path work o))
    unfolding seek_path
    several-along w = walk_refused image v path Unambiguous work Ambiguous (sectors_of_several image v path work o) (doubles-refused (disc image) v.mount (length work) (components path) v.root o) w
