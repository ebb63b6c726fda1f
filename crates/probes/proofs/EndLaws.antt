-- The sector that ends the probe with a yes, by what the sectors say they are: by induction on how many may yet be looked at.
-- Assumes nothing.
use mathlib.Core.Path.{◌≡◌, refl, sym, ◌∙◌}
use mathlib.Core.Bool.{Bool, true, false, ◌&&◌}
use mathlib.Core.List.{List}
use mathlib.Core.Logic.{◌⊎◌, inl, inr, ⊎_elim}
use Prim.Native.Nat.{ℕ, zero, suc, ◌+◌, ◌*◌, ◌<◌, ◌≤◌}
use native.Mathlib.Omega.{arith}
use lib.ListN.{length, take, drop}
use Rattle.disc.specs.Ask.{outcome}
use Rattle.disc.specs.Images.{disc}
use Rattle.disc.proofs.ImageLaws.{split, held, missing}
use Rattle.disc.proofs.PickLaws.{not-both}
use Rattle.descriptors.specs.Recognition.{structure_of}
use Rattle.descriptors.specs.declared.recognition.Structure.{Structure}
use Rattle.descriptors.specs.declared.recognition.Structure.TheVariants.{Beginning, Nsr, Terminating, Other, Unknown}
use Rattle.probes.specs.Probes.{probed_by, probing, yes}

-- what sector s says it is, by its 2,048 bytes
abbrev pub structure_at : List ℕ → ℕ → Structure
structure_at image s = structure_of (take 2048 (drop (2048 * s) image))

-- its first byte is 0 and its identifier is one of the list, and not TEA01
abbrev pub Listed : Structure → Type 0
Listed x = (x ≡ Beginning) ⊎ (x ≡ Nsr) ⊎ (x ≡ Other)

-- a sector of this structure stands from `first` on and before sector t
pub record StructureStands (image : List ℕ) (first t : ℕ) (x : Structure) : Type 0 where
  pub sector : ℕ
  pub from : first ≤ sector
  pub before : sector < t
  pub is : structure_at image sector ≡ x

-- of n sectors from `first` on, t ends the probe with a yes; `began` and `named` tell of the sectors before them
pub record Ended (image : List ℕ) (n first : ℕ) (began named : Bool) (t : ℕ) : Type 0 where
  pub from : first ≤ t
  pub within : t < first + n
  pub there : 2048 * t + 2048 ≤ length image
  pub listed : (s : ℕ) → first ≤ s → s < t → Listed (structure_at image s)
  pub last : structure_at image t ≡ Terminating
  pub begins : (began ≡ true) ⊎ StructureStands image first t Beginning
  pub names : (named ≡ true) ⊎ StructureStands image first t Nsr

-- the probe of those says yes; one of them ends it so
module _ (image : List ℕ) (n first : ℕ) (b m : Bool) where
  abbrev pub Says : Type 0
  Says = yes (outcome (disc image) (probing n first b m)) ≡ true

  abbrev pub Ends : Type 0
  Ends = (t : ℕ) × Ended image n first b m t

-- ---- one sector

-- it is there
turn : (image : List ℕ) (n at : ℕ) (b m : Bool) → 2048 * at + 2048 ≤ length image
    → yes (outcome (disc image) (probing (suc n) at b m)) ≡ yes (outcome (disc image) (probed_by (structure_at image at) b m (λ x y. probing n (at + 1) x y)))
unfolding probing outcome
turn image n at b m h = rw (held image at h)

-- it isn't
gone : (image : List ℕ) (n at : ℕ) (b m : Bool) → length image < 2048 * at + 2048 → yes (outcome (disc image) (probing (suc n) at b m)) ≡ false
unfolding probing outcome
gone image n at b m h = rw (missing image at h)

and-true : (a b : Bool) → (a && b) ≡ true → (a ≡ true) × (b ≡ true)
and-true true b e = (refl, e)
and-true false b e = not-both e

-- a TEA01 with both before it
ends-here : (image : List ℕ) (n at : ℕ) (b m : Bool) → 2048 * at + 2048 ≤ length image → structure_at image at ≡ Terminating → (b && m) ≡ true
    → Ended image (suc n) at b m at
ends-here image n at b m h e q =
    record {
      from = omega arith;
      within = omega arith;
      there = h;
      listed = λ s f g. absurd (omega arith);
      last = e;
      begins = inl (and-true b m q).0;
      names = inl (and-true b m q).1;
    }

-- ---- a sector passed over: `b` and `m` before it, `c` and `d` behind it

-- what stands from the next sector on stands from this one on, and back
module _ (image : List ℕ) (at t : ℕ) (x : Structure) where
  wider : {b c : Bool} → at < t → (c ≡ true → (b ≡ true) ⊎ (structure_at image at ≡ x)) → (c ≡ true) ⊎ StructureStands image (at + 1) t x → (b ≡ true) ⊎ StructureStands image at t x
  wider h k (inl e) = ⊎_elim inl (λ q. inr (record { sector = at; from = omega arith; before = h; is = q })) (k e)
  wider h k (inr p) = inr (record { sector = p.sector; from = omega (arith, p.from); before = p.before; is = p.is })

  narrower : {b c : Bool} → (b ≡ true → c ≡ true) → (structure_at image at ≡ x → c ≡ true) → (b ≡ true) ⊎ StructureStands image at t x → (c ≡ true) ⊎ StructureStands image (at + 1) t x
  narrower h k (inl e) = inl (h e)
  narrower h k (inr p) = ⊎_elim
      (λ (l : p.sector ≤ at).
      let e : p.sector ≡ at = omega (arith, p.from) in
      inl (k (rw (← e) p.is)))
      (λ (l : at < p.sector). inr (record { sector = p.sector; from = omega arith; before = p.before; is = p.is }))
      (split p.sector at)

-- what ends the rest ends the whole, and back
module _ (image : List ℕ) (n at : ℕ) (b m c d : Bool) where
  later : Listed (structure_at image at)
      → (c ≡ true → (b ≡ true) ⊎ (structure_at image at ≡ Beginning))
      → (d ≡ true → (m ≡ true) ⊎ (structure_at image at ≡ Nsr))
      → Ends image n (at + 1) c d → Ends image (suc n) at b m
  later l f g (t, p) =
      let h : at < t = omega (arith, p.from) in (
        t,
        record {
          from = omega arith;
          within = omega (arith, p.within);
          there = p.there;
          listed = λ s j k. ⊎_elim
              (λ (o : s ≤ at).
              let e : s ≡ at = omega arith in
              rw e l)
              (λ (o : at < s). p.listed s (omega arith) k)
              (split s at);
          last = p.last;
          begins = wider image at t Beginning h f p.begins;
          names = wider image at t Nsr h g p.names;
        },
      )

  sooner : {t : ℕ} → at < t
      → (b ≡ true → c ≡ true) → (structure_at image at ≡ Beginning → c ≡ true)
      → (m ≡ true → d ≡ true) → (structure_at image at ≡ Nsr → d ≡ true)
      → Ended image (suc n) at b m t → Ended image n (at + 1) c d t
  sooner {t} h f f' g g' p =
      record {
        from = omega arith;
        within = omega (arith, p.within);
        there = p.there;
        listed = λ s j k. p.listed s (omega arith) k;
        last = p.last;
        begins = narrower image at t Beginning f f' p.begins;
        names = narrower image at t Nsr g g' p.names;
      }

-- ---- the two ways, by what the first sector is

module _ (image : List ℕ) (n at : ℕ) (b m : Bool) where
  abbrev Turn : Structure → Type 0
  Turn x = yes (outcome (disc image) (probed_by x b m (λ y z. probing n (at + 1) y z))) ≡ true

  ends_by : ((c d : Bool) → Says image n (at + 1) c d → Ends image n (at + 1) c d) → 2048 * at + 2048 ≤ length image
      → (x : Structure) → structure_at image at ≡ x → Turn x → Ends image (suc n) at b m
  unfolding outcome
  ends_by rest h Beginning e q = later image n at b m true m (inl e) (λ _. inr e) inl (rest true m q)
  ends_by rest h Nsr e q = later image n at b m b true (inr (inl e)) inl (λ _. inr e) (rest b true q)
  ends_by rest h Terminating e q = (at, ends-here image n at b m h e q)
  ends_by rest h Other e q = later image n at b m b m (inr (inr e)) inl inl (rest b m q)
  ends_by rest h Unknown e q = not-both q

  says-later : ((c d : Bool) (t : ℕ) → Ended image n (at + 1) c d t → Says image n (at + 1) c d) → (t : ℕ) → at < t → Ended image (suc n) at b m t
      → Listed (structure_at image at) → Turn (structure_at image at)
  says-later rest t h p (inl e) = rw e (rest true m t (sooner image n at b m true m h (λ _. refl) (λ _. refl) (λ q. q) (λ q. cc) p))
  says-later rest t h p (inr (inl e)) = rw e (rest b true t (sooner image n at b m b true h (λ q. q) (λ q. cc) (λ _. refl) (λ _. refl) p))
  says-later rest t h p (inr (inr e)) = rw e (rest b m t (sooner image n at b m b m h (λ q. q) (λ q. cc) (λ q. q) (λ q. cc) p))

  says_here : Ended image (suc n) at b m at → Turn (structure_at image at)
  unfolding outcome
  says_here p = rw (p.last, so Beginning b p.begins, so Nsr m p.names)
    where
      so : (x : Structure) (c : Bool) → (c ≡ true) ⊎ StructureStands image at at x → c ≡ true
      so x c (inl e) = e
      so x c (inr q) = absurd (omega (arith, q.from, q.before))

-- ---- and by induction

pub ends : (image : List ℕ) (n at : ℕ) (b m : Bool) → Says image n at b m → Ends image n at b m
unfolding probing outcome
ends image zero at b m e = not-both e
ends image (suc n) at b m e = ⊎_elim
    (λ (h : 2048 * at + 2048 ≤ length image). ends_by image n at b m (λ c d q. ends image n (at + 1) c d q) h (structure_at image at) refl (sym (turn image n at b m h) ∙ e))
    (λ (h : length image < 2048 * at + 2048). not-both (sym (gone image n at b m h) ∙ e))
    (split (2048 * at + 2048) (length image))

pub says : (image : List ℕ) (n at : ℕ) (b m : Bool) (t : ℕ) → Ended image n at b m t → Says image n at b m
says image zero at b m t p = absurd (omega (arith, p.from, p.within))
says image (suc n) at b m t p = turn image n at b m (omega (arith, p.from, p.there)) ∙ ⊎_elim
    (λ (h : t ≤ at).
    let e : t ≡ at = omega (arith, p.from) in
    says_here image n at b m (rw e at p))
    (λ (h : at < t). says-later image n at b m (λ c d u q. says image n (at + 1) c d u q) t h p (p.listed at (omega arith) h))
    (split t at)
