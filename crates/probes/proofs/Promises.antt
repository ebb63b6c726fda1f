-- What is promised of the probe: RULES 5.17, stated over the bytes of the sectors beside the recursion that `probed` is.
-- Assumes nothing.
use mathlib.Core.Path.{◌≡◌, ◌∙◌}
use mathlib.Core.Bool.{Bool, true, false}
use mathlib.Core.List.{List}
use mathlib.Core.Logic.{◌⊎◌, inl, inr, ⊎_elim}
use Prim.Native.Nat.{ℕ, ◌+◌, ◌*◌, ◌≤◌}
use native.Mathlib.Omega.{arith}
use lib.ListN.{length, take, drop, length-drop}
use lib.Seq.{take-take, length-take-le}
use Rattle.disc.proofs.PickLaws.{not-both}
use Rattle.descriptors.specs.declared.recognition.Structure.{Structure}
use Rattle.descriptors.specs.declared.recognition.Structure.TheVariants.{Beginning, Nsr, Terminating, Other}
use Rattle.probes.specs.Probes.{probed}
use Rattle.probes.proofs.Fronts.{Told, bea01, nsr02, nsr03, tea01, cd001, cdw02, told}
use Rattle.probes.proofs.EndLaws.{structure_at, Listed, StructureStands, Ended, ends, says}
use Rattle.probes.specs.Fronts.{BEA01, NSR02, NSR03, front, Passed, Before, Recognised}

-- ---- a sector's structure by its first six bytes

module _ (image : List ℕ) (s : ℕ) where
  whole : 2048 * s + 2048 ≤ length image → length (take 2048 (drop (2048 * s) image)) ≡ 2048
  whole h = length-take-le 2048 (drop (2048 * s) image) (rw length-drop (omega arith))

  cut : take 6 (take 2048 (drop (2048 * s) image)) ≡ front image s
  cut = take-take 6 2048 (drop (2048 * s) image) (omega arith)

  starts : (x : Structure) → 2048 * s + 2048 ≤ length image → structure_at image s ≡ x → Told (front image s) x
  starts x h e = rw (← e, ← cut) (told (take 2048 (drop (2048 * s) image)) (rw (whole h) (omega arith)))

  passed : 2048 * s + 2048 ≤ length image → Listed (structure_at image s) → Passed (front image s)
  passed h (inl e) = inl (starts Beginning h e)
  passed h (inr (inl e)) = ⊎_elim (λ q. inr (inl q)) (λ q. inr (inr (inl q))) (starts Nsr h e)
  passed h (inr (inr e)) = ⊎_elim (λ q. inr (inr (inr (inl q)))) (λ q. inr (inr (inr (inr q)))) (starts Other h e)

  listed_by : Passed (front image s) → Listed (structure_at image s)
  listed_by (inl e) = inl (bea01 _ (cut ∙ e))
  listed_by (inr (inl e)) = inr (inl (nsr02 _ (cut ∙ e)))
  listed_by (inr (inr (inl e))) = inr (inl (nsr03 _ (cut ∙ e)))
  listed_by (inr (inr (inr (inl e)))) = inr (inr (cd001 _ (cut ∙ e)))
  listed_by (inr (inr (inr (inr e)))) = inr (inr (cdw02 _ (cut ∙ e)))

-- ---- those before the last

module _ (image : List ℕ) (t : ℕ) where
  -- nothing has begun or was named before sector 16
  stood : {x : Structure} → (◌≡◌ {A = Bool} false true) ⊎ StructureStands image 16 t x → StructureStands image 16 t x
  stood (inl e) = not-both e
  stood (inr p) = p

  began-by : 2048 * t + 2048 ≤ length image → StructureStands image 16 t Beginning → Before image t BEA01
  began-by h p = record { sector = p.sector; from = p.from; before = p.before; is = starts image p.sector Beginning (omega (arith, p.before)) p.is }

  named_by : 2048 * t + 2048 ≤ length image → StructureStands image 16 t Nsr → Before image t NSR02 ⊎ Before image t NSR03
  named_by h p = ⊎_elim
      (λ q. inl (record { sector = p.sector; from = p.from; before = p.before; is = q }))
      (λ q. inr (record { sector = p.sector; from = p.from; before = p.before; is = q }))
      (starts image p.sector Nsr (omega (arith, p.before)) p.is)

  stands : {f : List ℕ} {x : Structure} → ((s : ℕ) → front image s ≡ f → structure_at image s ≡ x) → Before image t f → StructureStands image 16 t x
  stands law p = record { sector = p.sector; from = p.from; before = p.before; is = law p.sector p.is }

-- ---- RULES 5.17: a yes exactly if

pub probe-yes : (image : List ℕ) → probed image ≡ true → (t : ℕ) × Recognised image t
unfolding probed
probe-yes image e = by (ends image 8 16 false false e)
  where
    by : (t : ℕ) × Ended image 8 16 false false t → (t : ℕ) × Recognised image t
    by (t, p) = (
      t,
      record {
        from = p.from;
        within = p.within;
        there = p.there;
        listed = λ s h k. passed image s (omega (arith, p.there)) (p.listed s h k);
        last = starts image t Terminating p.there p.last;
        began = began-by image t p.there (stood image t p.begins);
        named = named_by image t p.there (stood image t p.names);
      },
    )

pub probe-if : (image : List ℕ) (t : ℕ) → Recognised image t → probed image ≡ true
unfolding probed
probe-if image t p =
    says image 8 16 false false t (record {
      from = p.from;
      within = p.within;
      there = p.there;
      listed = λ s h k. listed_by image s (p.listed s h k);
      last = tea01 _ (cut image t ∙ p.last);
      begins = inr (stands image t (λ s e. bea01 _ (cut image s ∙ e)) p.began);
      names = inr (⊎_elim (stands image t (λ s e. nsr02 _ (cut image s ∙ e))) (stands image t (λ s e. nsr03 _ (cut image s ∙ e))) p.named);
    })
