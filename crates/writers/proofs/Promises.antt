-- The promises of the writer: a vault that was written is opened, listed and read by the reader's own definitions. Assumes nothing.
use mathlib.Core.Path.{◌≡◌, refl, ap, sym, ◌∙◌}
use mathlib.Core.Bool.{Bool, true, false}
use mathlib.Core.List.{List, [], ◌∷◌, ◌++◌}
use Prim.Native.Nat.{ℕ, suc, ◌+◌, ◌*◌, ◌/◌, ◌≤◌, ◌<◌}
use native.Mathlib.Omega.{arith}
use lib.ListN.{length, get_or, take, drop}
use lib.Seq.{split_at, length-take-le}
use lib.Dec.{leb}
use mathlib.Core.Logic.{◌⊎◌, inl, inr}
use borrow.Author.Tests.{leb-true, leb-false, le-leb, lt-leb}
use Rattle.disc.specs.Choice.{pick}
use Rattle.disc.specs.Ask.Outcome.{answered}
use Rattle.disc.specs.Ran.{ran}
use Rattle.disc.specs.Images.{disc, sectors_for}
use Rattle.disc.specs.declared.refusals.Refusal.TheVariants.{NoRoom, BadName, BadFiles}
use Rattle.files.specs.Files.{file_bytes}
use Rattle.listings.specs.declared.matchings.Matching.{Matching}
use Rattle.directories.specs.Directories.{listing_at}
use Rattle.directories.specs.Lookups.{lookup_of, read_path_of}
use Rattle.volumes.specs.Openings.{opening}
use Rattle.volumes.specs.Labels.{labelling}
use Rattle.volumes.specs.declared.openings.How.{How}
use Rattle.writers.specs.Layout.{total, partition_for, names_size, directory_size, label, directory, image}
use Rattle.writers.specs.Refusing.{names_in, are_good, sum, good_names, good_files, refused_by, Written, writes}
use Rattle.writers.proofs.CallLaws.{files-good, names-good}
use Rattle.writers.proofs.OpeningLaws.{opening-runs, label-runs}
use Rattle.writers.proofs.LookupLaws.{listing-runs, lookup-runs, path-runs}
use Rattle.writers.proofs.ImageLaws.{behind_front, disk-front, small, root-runs, file-runs}
use Rattle.writers.specs.Vaults.{icb_at, vault_for, listed, Accepted, Left, written, root_count, its, made}

-- ---- what a call that wasn't refused leaves

-- by what was tested
abbrev left_by : List ℕ → List ℕ → List ℕ → List ℕ → Bool → Bool → Bool → Bool → Written
left_by names lengths staging lent a b c d =
    pick a
    (pick b
    (pick c
    (pick d
    (record {
      reply = record { answer = 0; sectors = total lengths };
      image = Rattle.writers.specs.Layout.image (names_in names) lengths staging ++ drop (2048 * total lengths) lent;
    })
    (record { reply = refused_by NoRoom; image = lent }))
    (record { reply = refused_by BadFiles; image = lent }))
    (record { reply = refused_by BadFiles; image = lent }))
    (record { reply = refused_by BadName; image = lent })

pub write-leaves : (names lengths staging lent : List ℕ) → (writes names lengths staging lent).reply.answer ≡ 0 → Left names lengths staging lent (writes names lengths staging lent)
unfolding writes
write-leaves names lengths staging lent e =
    by (good_names names) (good_files names lengths) (leb (sum lengths) (length staging)) (leb (total lengths) (length lent / 2048)) refl refl refl refl e
  where
    by : (a b c d : Bool) → good_names names ≡ a → good_files names lengths ≡ b → leb (sum lengths) (length staging) ≡ c → leb (total lengths) (length lent / 2048) ≡ d
        → (left_by names lengths staging lent a b c d).reply.answer ≡ 0 → Left names lengths staging lent (left_by names lengths staging lent a b c d)
    by false b c d p q r s z = absurd (omega arith)
    by true false c d p q r s z = absurd (omega arith)
    by true true false d p q r s z = absurd (omega arith)
    by true true true false p q r s z = absurd (omega arith)
    by true true true true p q r s z =
        let f = files-good names lengths q in
        record {
          accepted = record { good = (names-good names p).good; few = f.few; alike = f.alike; short = f.short; staged = leb-true (sum lengths) (length staging) r };
          sectors = refl;
          image = refl;
          room = leb-true (total lengths) (length lent / 2048) s;
        }

-- ---- the image, with whatever stands behind it, under every choice of opening

module _ (names : List (List ℕ)) (lengths staging more : List ℕ) (h : Accepted names lengths staging) (how : How) where
  -- opening succeeds, after eight sectors
  pub vault-opens : ran (disc (written names lengths staging more)) (opening how) ≡ record { outcome = answered (vault_for how); count = 8 }
  vault-opens = rw (disk-front names lengths staging more h) (opening-runs (partition_for (total lengths)) (length names) (directory_size names) (behind_front names lengths staging more h) how)

  -- the label is "VAULT"
  pub vault-labelled : ran (disc (written names lengths staging more)) (labelling how) ≡ record { outcome = answered label; count = 8 }
  vault-labelled = rw (disk-front names lengths staging more h) (label-runs (partition_for (total lengths)) (length names) (directory_size names) (behind_front names lengths staging more h) how)

  module _ (work : ℕ) (room : directory_size names ≤ work) where
    -- the root lists exactly the names, in the given order
    pub vault-lists : ran (disc (written names lengths staging more)) (listing_at (vault_for how).mount work (vault_for how).root) ≡ record { outcome = answered (listed 0 names); count = (root_count names) }
    vault-lists =
        listing-runs (disc (written names lengths staging more)) (vault_for how).mount (icb_at 2) work (root_count names) names (root-runs names lengths staging more h how) room h.good h.few (small names lengths staging more h)
        ∙ ap (λ n. record { outcome = answered (listed 0 names); count = n }) (omega arith)

    module _ (m : Matching) (n : List ℕ) (before after : List (List ℕ)) (e : names ≡ before ++ n ∷ after) where
      root : ran (disc (written names lengths staging more)) (file_bytes (vault_for how).mount (icb_at 2)) ≡ record { outcome = answered (directory (before ++ n ∷ after)); count = (root_count names) }
      root = root-runs names lengths staging more h how ∙ ap (λ ns. record { outcome = answered (directory ns); count = (root_count names) }) e

      enough : directory_size (before ++ n ∷ after) ≤ work
      enough = let q = ap directory_size e in omega (arith, room)

      good : are_good (before ++ n ∷ after) ≡ true
      good = ap are_good (sym e) ∙ h.good

      few : length (before ++ n ∷ after) ≤ 64
      few = let q = ap length e in omega (arith, h.few)

      low : names_size (before ++ n ∷ after) ≤ 10752
      low = let q = ap names_size e in omega (arith, small names lengths staging more h)

      -- a name is found, under every choice of matching
      finds : ran (disc (written names lengths staging more)) (lookup_of m (vault_for how).mount work (vault_for how).root n) ≡ record { outcome = answered (icb_at (16 + length before)); count = (root_count names) }
      finds =
          let z : 0 + length before ≡ length before = omega arith in
          rw z at (lookup-runs (disc (written names lengths staging more)) (vault_for how).mount (icb_at 2) work (root_count names) m n before after root enough good few low)
          ∙ ap (λ k. record { outcome = answered (icb_at (16 + length before)); count = k }) (omega arith)

      -- and reading it gives its file
      reads : (ahead : List ℕ) (l : ℕ) (behind : List ℕ) → lengths ≡ ahead ++ l ∷ behind → length before ≡ length ahead
          → ran (disc (written names lengths staging more)) (read_path_of m (vault_for how).mount work (vault_for how).root n)
          ≡ record { outcome = answered (take l (drop (sum ahead) staging)); count = (root_count names) + (1 + sectors_for l) }
      reads ahead l behind f g =
          let z : 0 + length before ≡ length ahead = omega arith in
          let file : ran (disc (written names lengths staging more)) (file_bytes (vault_for how).mount (icb_at (16 + (0 + length before)))) ≡ record { outcome = answered (take l (drop (sum ahead) staging)); count = 1 + sectors_for l } = rw z (file-runs names lengths staging more h ahead l behind f how) in
          path-runs (disc (written names lengths staging more)) (vault_for how).mount (icb_at 2) work (root_count names) m n before after root enough good few low file
          ∙ ap (λ k. record { outcome = answered (take l (drop (sum ahead) staging)); count = k }) (omega arith)

    -- the same of the i-th name
    module _ (m : Matching) (i : ℕ) (k : i < length names) where
      pub vault-finds : ran (disc (written names lengths staging more)) (lookup_of m (vault_for how).mount work (vault_for how).root (its names i)) ≡ record { outcome = answered (icb_at (16 + i)); count = (root_count names) }
      vault-finds =
          let l : length (take i names) ≡ i = length-take-le i names (omega arith) in
          rw l at (finds m (its names i) (take i names) (drop (suc i) names) (split_at names i [] k))

      pub vault-reads : ran (disc (written names lengths staging more)) (read_path_of m (vault_for how).mount work (vault_for how).root (its names i))
          ≡ record { outcome = answered (take (get_or lengths i 0) (drop (sum (take i lengths)) staging)); count = (root_count names) + (1 + sectors_for (get_or lengths i 0)) }
      vault-reads =
          let j : i < length lengths = omega (arith, h.alike) in
          let l : length (take i names) ≡ i = length-take-le i names (omega arith) in
          let q : length (take i lengths) ≡ i = length-take-le i lengths (omega arith) in
          reads m (its names i) (take i names) (drop (suc i) names) (split_at names i [] k) (take i lengths) (get_or lengths i 0) (drop (suc i) lengths) (split_at lengths i 0 j) (l ∙ sym q)

-- ---- the refusals

module _ (names lengths staging lent : List ℕ) where
  -- a refusal writes nothing, and has no sectors
  pub write-unchanged : ((made names lengths staging lent).reply.answer ≡ 0 → ⊥) → ((made names lengths staging lent).image ≡ lent) × ((made names lengths staging lent).reply.sectors ≡ 0)
  unfolding writes
  write-unchanged n = by (good_names names) (good_files names lengths) (leb (sum lengths) (length staging)) (leb (total lengths) (length lent / 2048)) n
    where
      by : (a b c d : Bool) → ((left_by names lengths staging lent a b c d).reply.answer ≡ 0 → ⊥) → ((left_by names lengths staging lent a b c d).image ≡ lent) × ((left_by names lengths staging lent a b c d).reply.sectors ≡ 0)
      by false b c d n = (refl, refl)
      by true false c d n = (refl, refl)
      by true true false d n = (refl, refl)
      by true true true false n = (refl, refl)
      by true true true true n = absurd (n refl)

  -- 13 exactly where a name is bad, whatever else is
  pub bad-name-only : (made names lengths staging lent).reply.answer ≡ 13 → good_names names ≡ false
  unfolding writes
  bad-name-only e = by (good_names names) (good_files names lengths) (leb (sum lengths) (length staging)) (leb (total lengths) (length lent / 2048)) e
    where
      by : (a b c d : Bool) → (left_by names lengths staging lent a b c d).reply.answer ≡ 13 → a ≡ false
      by false b c d e = refl
      by true false c d e = absurd (omega arith)
      by true true false d e = absurd (omega arith)
      by true true true false e = absurd (omega arith)
      by true true true true e = absurd (omega arith)

  pub bad-name-enough : good_names names ≡ false → (made names lengths staging lent).reply.answer ≡ 13
  unfolding writes
  bad-name-enough e = rw e

  -- 5 exactly where nothing else is refused and the layout's sectors exceed the whole sectors lent
  pub no-room-only : (made names lengths staging lent).reply.answer ≡ 5 → (good_names names ≡ true) × (good_files names lengths ≡ true) × (sum lengths ≤ length staging) × (length lent / 2048 < total lengths)
  unfolding writes
  no-room-only e = by (good_names names) (good_files names lengths) (leb (sum lengths) (length staging)) (leb (total lengths) (length lent / 2048)) refl refl refl refl e
    where
      by : (a b c d : Bool) → good_names names ≡ a → good_files names lengths ≡ b → leb (sum lengths) (length staging) ≡ c → leb (total lengths) (length lent / 2048) ≡ d
          → (left_by names lengths staging lent a b c d).reply.answer ≡ 5 → (good_names names ≡ true) × (good_files names lengths ≡ true) × (sum lengths ≤ length staging) × (length lent / 2048 < total lengths)
      by false b c d p q r s e = absurd (omega arith)
      by true false c d p q r s e = absurd (omega arith)
      by true true false d p q r s e = absurd (omega arith)
      by true true true false p q r s e = (p, q, leb-true _ _ r, leb-false _ _ s)
      by true true true true p q r s e = absurd (omega arith)

  pub no-room-enough : good_names names ≡ true → good_files names lengths ≡ true → sum lengths ≤ length staging → length lent / 2048 < total lengths → (made names lengths staging lent).reply.answer ≡ 5
  unfolding writes
  no-room-enough p q r s = rw (p, q, le-leb (sum lengths) (length staging) r, lt-leb (total lengths) (length lent / 2048) s)

  -- 14 exactly where the names are good and the files aren't, or pass the staging area
  pub bad-files-only : (made names lengths staging lent).reply.answer ≡ 14 → (good_names names ≡ true) × ((good_files names lengths ≡ false) ⊎ (length staging < sum lengths))
  unfolding writes
  bad-files-only e = by (good_names names) (good_files names lengths) (leb (sum lengths) (length staging)) (leb (total lengths) (length lent / 2048)) refl refl refl e
    where
      by : (a b c d : Bool) → good_names names ≡ a → good_files names lengths ≡ b → leb (sum lengths) (length staging) ≡ c
          → (left_by names lengths staging lent a b c d).reply.answer ≡ 14 → (good_names names ≡ true) × ((good_files names lengths ≡ false) ⊎ (length staging < sum lengths))
      by false b c d p q r e = absurd (omega arith)
      by true false c d p q r e = (p, inl q)
      by true true false d p q r e = (p, inr (leb-false _ _ r))
      by true true true false p q r e = absurd (omega arith)
      by true true true true p q r e = absurd (omega arith)

  pub bad-files-enough : good_names names ≡ true → (good_files names lengths ≡ false) ⊎ (length staging < sum lengths) → (made names lengths staging lent).reply.answer ≡ 14
  unfolding writes
  bad-files-enough p (inl q) = rw (p, q)
  bad-files-enough p (inr q) = rw (p, lt-leb (sum lengths) (length staging) q) (by (good_files names lengths))
    where
      by : (b : Bool) → (pick {A = Written} b (record { reply = refused_by BadFiles; image = lent }) (record { reply = refused_by BadFiles; image = lent })).reply.answer ≡ 14
      by true = refl
      by false = refl
