-- The choices as one number: which case the code is in, and what every number comes to. Assumes nothing.
use Rattle.std.specs.Prelude.{Option, Some, None}
use Prim.Native.Nat.{ℕ, ◌/◌, ◌≤◌}
use mathlib.Core.Path.{◌≡◌, refl, ap}
use mathlib.Core.Bool.{true, false}
use mathlib.Core.List.{List}
use native.Mathlib.Omega.{arith}
use borrow.Author.Tests.{ne_eqb}
use Rattle.disc.specs.declared.replies.Reply.{Reply}
use Rattle.volumes.specs.Openings.{usual, no_volume}
use Rattle.volumes.specs.Choices.{how_of}
use Rattle.volumes.specs.declared.openings.How.{How}
use Rattle.volumes.specs.declared.openings.Opened.{Opened}
use Rattle.vault.specs.Calls.{opens, Written, labels}
use Rattle.vault.specs.Public.{by_volume, by_bytes}
use Rattle.vault.specs.Public.Call.{opens as as_open, labels as as_label}
use Rattle.vault.proofs.Promises.{listed, sound}
use Rattle.vault_c.specs.Choosing.{opens_by, opens_as, labels_by, labels_as, may_by}

-- ---- the calls

module _ (image : List ℕ) (n : ℕ) {c : Option How} (q : c ≡ how_of n) where
  pub open_unknown : c ≡ None → {r : Opened} → r ≡ record { answer = 4; count = 0; volume = no_volume } → r ≡ opens_as image n
  open_unknown u {r} e = by (how_of n) q
    where
      by : (o : Option How) → c ≡ o → r ≡ opens_by image o
      by (Some how) p = absurd (let z : ◌≡◌ {A = ℕ} 0 1 = cc in omega arith)
      by None p = e

  pub open-known : {how : How} → c ≡ Some how → {r : Opened} → r ≡ opens image how → r ≡ opens_as image n
  open-known {how} k {r} e = by (how_of n) q
    where
      by : (o : Option How) → c ≡ o → r ≡ opens_by image o
      by (Some other) p = let s : how ≡ other = cc in rw (← s) e
      by None p = absurd (let z : ◌≡◌ {A = ℕ} 0 1 = cc in omega arith)

  module _ (out : List ℕ) where
    pub label-unknown : c ≡ None → {r : Reply} → r ≡ record { answer = 4; count = 0; length = 0 } → ◌≡◌ {A = Written} (record { reply = r; out = out }) (labels_as image n out)
    label-unknown u {r} e = by (how_of n) q
      where
        by : (o : Option How) → c ≡ o → ◌≡◌ {A = Written} (record { reply = r; out = out }) (labels_by image o out)
        by (Some how) p = absurd (let z : ◌≡◌ {A = ℕ} 0 1 = cc in omega arith)
        by None p = rw e

    pub label-known : {how : How} → c ≡ Some how → {w : Written} → w ≡ labels image how out → w ≡ labels_as image n out
    label-known {how} k {w} e = by (how_of n) q
      where
        by : (o : Option How) → c ≡ o → w ≡ labels_by image o out
        by (Some other) p = let s : how ≡ other = cc in rw (← s) e
        by None p = absurd (let z : ◌≡◌ {A = ℕ} 0 1 = cc in omega arith)

-- ---- what a number comes to: 0 is the default, 1 that bodies are checked, 2 that references go through the maps, 4 the highest number, their sums all that
-- are in it, and every number from 8 on is refused

pub none-chosen : how_of 0 ≡ Some usual
none-chosen = refl

pub checked-chosen : how_of 1 ≡ Some (record { highest = false; checked = true; maps = false })
checked-chosen = refl

pub maps-chosen : how_of 2 ≡ Some (record { highest = false; checked = false; maps = true })
maps-chosen = refl

pub highest-chosen : how_of 4 ≡ Some (record { highest = true; checked = false; maps = false })
highest-chosen = refl

pub all-chosen : how_of 7 ≡ Some (record { highest = true; checked = true; maps = true })
all-chosen = refl

pub no_other : (n : ℕ) → 8 ≤ n → how_of n ≡ None
no_other n h = rw (ne_eqb (n / 8) 0 (λ e. omega arith))

-- so with every other number nothing is asked for, and every value and every byte is as a refusal has it
module _ (image : List ℕ) (n : ℕ) (h : 8 ≤ n) where
  pub open-other : opens_as image n ≡ record { answer = 4; count = 0; volume = no_volume }
  open-other = ap (opens_by image) (no_other n h)

  pub label-other : (out : List ℕ) → labels_as image n out ≡ record { reply = record { answer = 4; count = 0; length = 0 }; out = out }
  label-other out = ap (λ o. labels_by image o out) (no_other n h)

-- ---- whatever number is handed in, the answer is of the table, and a refusal has zeros and leaves the output as it came

module _ (image : List ℕ) where
  pub open-as-sound : (n : ℕ) → (may_by as_open (how_of n) (opens_as image n).answer ≡ true)
      × (((opens_as image n).answer ≡ 0 → ⊥) → opens_as image n ≡ by_volume.bare (opens_as image n).answer (opens_as image n).count)
  open-as-sound n = by (how_of n)
    where
      by : (o : Option How) → (may_by as_open o (opens_by image o).answer ≡ true)
          × (((opens_by image o).answer ≡ 0 → ⊥) → opens_by image o ≡ by_volume.bare (opens_by image o).answer (opens_by image o).count)
      by (Some how) = (listed (as_open how) image, sound (as_open how) image)
      by None = (refl, λ h. refl)

  pub label-as-sound : (n : ℕ) (out : List ℕ) → (may_by (λ how. as_label how out) (how_of n) (labels_as image n out).reply.answer ≡ true)
      × (((labels_as image n out).reply.answer ≡ 0 → ⊥) → labels_as image n out ≡ (by_bytes out).bare (labels_as image n out).reply.answer (labels_as image n out).reply.count)
  label-as-sound n out = by (how_of n)
    where
      by : (o : Option How) → (may_by (λ how. as_label how out) o (labels_by image o out).reply.answer ≡ true)
          × (((labels_by image o out).reply.answer ≡ 0 → ⊥) → labels_by image o out ≡ (by_bytes out).bare (labels_by image o out).reply.answer (labels_by image o out).reply.count)
      by (Some how) = (listed (as_label how out) image, sound (as_label how out) image)
      by None = (refl, λ h. refl)
