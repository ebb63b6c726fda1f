-- Laws of the probe, as the code's loop asks for them. Assumes nothing.
use mathlib.Core.Path.{◌≡◌, refl, sym, ◌∙◌}
use mathlib.Core.Bool.{Bool, false}
use mathlib.Core.List.{List}
use Prim.Native.Nat.{ℕ, suc, ◌+◌, ◌-◌, ◌*◌, ◌/◌, ◌<◌, ◌≤◌}
use native.Mathlib.Omega.{arith}
use lib.ListN.{length}
use Rattle.disc.specs.Ask.{Disc, Ask, bytes_in, outcome}
use Rattle.disc.specs.Ask.Ask.{done}
use Rattle.disc.specs.Images.{disc, held_from}
use Rattle.disc.proofs.ImageLaws.{held, missing}
use Rattle.descriptors.specs.Recognition.{structure_of}
use Rattle.descriptors.specs.declared.recognition.Structure.{Structure}
use Rattle.descriptors.specs.declared.recognition.Structure.TheVariants.{Beginning, Nsr, Terminating, Other, Unknown}
use Rattle.probes.specs.Probes.{probed_by, probing, yes, probed}
use Rattle.probes.specs.Inner.Steps.{step_of}
use Rattle.probes.specs.declared.Seen.{Seen}
use Rattle.probes.specs.declared.Seen.TheVariants.{Over, On}

-- ---- one sector

-- what is left of the probe, by what a sector told
abbrev told : Seen → (Bool → Bool → Ask Bool) → Ask Bool
told (Over a) rest = done a
told (On b n) rest = rest b n

step-is : (s : Structure) (b n : Bool) (rest : Bool → Bool → Ask Bool) → probed_by s b n rest ≡ told (step_of s b n) rest
step-is Beginning b n rest = refl
step-is Nsr b n rest = refl
step-is Terminating b n rest = refl
step-is Other b n rest = refl
step-is Unknown b n rest = refl

yes-done : (d : Disc) (b : Bool) → yes (outcome d (done b)) ≡ b
unfolding outcome
yes-done d b = refl

-- ---- the loop has come to sector s, of 16 to 23

pub record Probing (image : List ℕ) (began named : Bool) (s : ℕ) : Type 0 where
  pub rest : probed image ≡ yes (outcome (disc image) (probing (24 - s) s began named))

pub probe-starts : (image : List ℕ) → Probing image false false 16
unfolding probed
probe-starts image = record { rest = refl }

module _ {image : List ℕ} {began named : Bool} {s : ℕ} (p : Probing image began named s) (h : s < 24) where
  one_more : 24 - s ≡ suc (24 - (s + 1))
  one_more = omega arith

  -- the sector is there
  module _ {m : ℕ} (n : m ≡ held_from image s) (z : m ≡ 0 → ⊥) {b : List ℕ} {x : Structure} {t : Seen} (g : b ≡ bytes_in (disc image s)) (f : x ≡ structure_of b) (e : t ≡ step_of x began named) where
    turn-rest : probed image ≡ yes (outcome (disc image) (probed_by x began named (λ y z. probing (24 - (s + 1)) (s + 1) y z)))
    unfolding probing outcome
    turn-rest =
        let q = held image s (here (length image) s n) in
        p.rest ∙ rw (one_more, f, g, q)
      where
        here : (l a : ℕ) → m ≡ l / 2048 - a → 2048 * a + 2048 ≤ l
        here l a e = omega (arith, z)

    pub probe-next : {began' named' : Bool} → t ≡ On began' named' → Probing image began' named' (s + 1)
    probe-next y = record { rest = turn-rest ∙ rw (step-is x began named (λ y z. probing (24 - (s + 1)) (s + 1) y z), ← e, y) }

    pub probe-stops : {a : Bool} → t ≡ Over a → a ≡ probed image
    probe-stops {a} y = sym (turn-rest ∙ rw (step-is x began named (λ y z. probing (24 - (s + 1)) (s + 1) y z), ← e, y) (yes-done (disc image) a))

  -- it isn't
  pub probe-gone : {m : ℕ} → m ≡ held_from image s → m ≡ 0 → false ≡ probed image
  unfolding probing outcome
  probe-gone {m} n z = sym (p.rest ∙ rw (one_more, missing image s (gone (length image) s n)))
    where
      gone : (l a : ℕ) → m ≡ l / 2048 - a → l < 2048 * a + 2048
      gone l a e = omega arith

pub probe-ends : {image : List ℕ} {began named : Bool} {s : ℕ} → Probing image began named s → 24 ≤ s → false ≡ probed image
unfolding probing outcome
probe-ends {image} {began} {named} {s} p h =
    let z : 24 - s ≡ 0 = omega arith in
    sym (p.rest ∙ rw z)

-- ---- the contract leaves one result

pub probe-one : (image : List ℕ) {b b' : Bool} → b ≡ probed image → b' ≡ probed image → b ≡ b'
probe-one image e f = e ∙ sym f
