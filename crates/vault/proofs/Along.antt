-- The four calls that walk a path, as one: where the walk is refused they leave what is bare, and a number that no read says by itself is the walk's. Assumes nothing.
use mathlib.Core.Path.{◌≡◌, refl, ap, sym, ◌∙◌}
use mathlib.Core.Bool.{true}
use mathlib.Core.List.{List}
use mathlib.Core.Logic.{◌⊎◌, inl, inr}
use Prim.Native.Nat.{ℕ}
use native.Mathlib.Omega.{arith}
use lib.ListN.{length}
use Rattle.disc.specs.Refusals.{number}
use Rattle.disc.specs.Counts.{reported}
use Rattle.disc.specs.Ask.{Outcome, outcome, and_then}
use Rattle.disc.specs.Ask.Outcome.{answered, refused}
use Rattle.disc.specs.Images.{disc}
use Rattle.disc.specs.Ran.{Ran, ran, onward}
use Rattle.disc.specs.Replies.{answer_of}
use Rattle.disc.specs.declared.refusals.Refusal.{Refusal}
use Rattle.disc.proofs.RanLaws.{ran_then}
use Rattle.disc.proofs.RefusalLaws.{refusal_is}
use Rattle.records.specs.declared.allocations.LongAd.{LongAd}
use Rattle.listings.specs.declared.matchings.Matching.{Matching}
use Rattle.directories.specs.Lookups.{Sought, icb_of, read_path_of}
use Rattle.directories.specs.Lookups.Sought.{reached, lost}
use Rattle.directories.proofs.LookupLaws.{look_is}
use Rattle.volumes.specs.declared.openings.VolumeRecord.{VolumeRecord}
use Rattle.vault.specs.Calls.{reading, seeking, finding}
use Rattle.vault.specs.Public.{by_bytes, by_work, tree, way, may, leaves, answer_on, number_of}
use Rattle.vault.specs.Public.Call.{reads, reads_path}
use Rattle.vault.proofs.Promises.{tells, order, listed}
use Rattle.vault.specs.Along.{Walker, along}
use Rattle.vault.specs.Along.Walker.{finder, failer, placer, reader}

module _ (image : List ℕ) (v : VolumeRecord) (path : List ℕ) (matching : Matching) (work : List ℕ) where
  abbrev pub walk : Ran Sought
  walk = ran (disc image) (seeking v (length work) path matching)

  looks : ran (disc image) (finding v (length work) path matching) ≡ record { outcome = and_then walk.outcome icb_of; count = walk.count }
  looks = look_is (disc image) matching v.mount (length work) v.root path

  -- ---- where the walk is refused

  module _ (why : Refusal) (n : ℕ) (h : walk ≡ record { outcome = refused why; count = n }) where
    run : {A R : Type 0} (w : Walker A R) → ran (disc image) (tree (along w v path matching work)) ≡ record { outcome = refused why; count = n }
    unfolding read_path_of
    run finder = looks ∙ rw h
    run failer = h
    run placer = h
    run (reader out) = ran_then (disc image) (finding v (length work) path matching) (λ icb. reading v icb) ∙ rw (looks, h)

    pub walk_refused : {A R : Type 0} (w : Walker A R) → leaves (along w v path matching work) image ≡ (way (along w v path matching work)).bare (number why) (reported n)
    walk_refused w = ap (way (along w v path matching work)).told (run w) ∙ (tells (along w v path matching work)).refuses why n

  -- ---- 6 and 9 are the walk's: no read says them

  module _ (why : Refusal) (h : (number why ≡ 6) ⊎ (number why ≡ 9)) where
    unread : (icb : LongAd) (out : List ℕ) → number_of (by_work out work) (outcome (disc image) (reading v icb)) ≡ number why → ⊥
    unread icb out e = by h (listed (reads v icb out) image) (order (reads v icb out) image ∙ same (outcome (disc image) (reading v icb)) ∙ e)
      where
        same : (o : Outcome (List ℕ)) → number_of (by_bytes out) o ≡ number_of (by_work out work) o
        same (answered b) = refl
        same (refused r) = refl

        by : (number why ≡ 6) ⊎ (number why ≡ 9) → may (reads v icb out) (answer_on (reads v icb out) image) ≡ true → answer_on (reads v icb out) image ≡ number why → ⊥
        by (inl k) l q = let z = rw (q, k) at l in let y : ◌≡◌ {A = ℕ} 0 1 = cc in omega arith
        by (inr k) l q = let z = rw (q, k) at l in let y : ◌≡◌ {A = ℕ} 0 1 = cc in omega arith

    number-walk : {A R : Type 0} (w : Walker A R) → answer_on (along w v path matching work) image ≡ number why → answer_of (and_then walk.outcome icb_of) ≡ number why
    unfolding ran read_path_of
    number-walk finder e = sym (ap (λ (r : Ran LongAd). answer_of r.outcome) looks) ∙ e
    number-walk failer e = e
    number-walk placer e = e
    number-walk (reader out) e =
        sym (ap (λ (r : Ran LongAd). answer_of r.outcome) looks)
        ∙ by (ran (disc image) (finding v (length work) path matching)).outcome (ran (disc image) (finding v (length work) path matching)).count (λ icb. ran (disc image) (reading v icb)) (λ icb. unread icb out)
        (ap (λ (r : Ran (List ℕ)). number_of (by_work out work) r.outcome) (sym (ran_then (disc image) (finding v (length work) path matching) (λ icb. reading v icb))) ∙ sym (order (reads_path v path matching out work) image) ∙ e)
      where
        by : (o : Outcome LongAd) (n : ℕ) (f : LongAd → Ran (List ℕ)) → ((icb : LongAd) → number_of (by_work out work) (f icb).outcome ≡ number why → ⊥) → number_of (by_work out work) (onward o n f).outcome ≡ number why → answer_of o ≡ number why
        by (answered icb) n f u k = absurd (u icb k)
        by (refused r) n f u k = k

    pub refused-walk : {A R : Type 0} (w : Walker A R) → answer_on (along w v path matching work) image ≡ number why → walk.outcome ≡ refused why
    refused-walk w e = by walk.outcome h (number-walk w e)
      where
        by : (o : Outcome Sought) → (number why ≡ 6) ⊎ (number why ≡ 9) → answer_of (and_then o icb_of) ≡ number why → o ≡ refused why
        by (answered (reached icb)) (inl k) q = absurd (omega arith)
        by (answered (reached icb)) (inr k) q = absurd (omega arith)
        by (answered (lost c)) (inl k) q = absurd (omega arith)
        by (answered (lost c)) (inr k) q = absurd (omega arith)
        by (refused r) k q = ap refused (refusal_is r why q)
