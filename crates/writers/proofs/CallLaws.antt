-- The returns of the two calls. Assumes nothing.
use mathlib.Core.Path.{◌≡◌, refl, ap, sym, ◌∙◌}
use mathlib.Core.Bool.{Bool, true, false}
use mathlib.Core.List.{List, ◌++◌, append_assoc}
use Prim.Native.Nat.{ℕ, ◌+◌, ◌-◌, ◌*◌, ◌/◌, ◌<◌, ◌≤◌}
use native.Mathlib.Omega.{arith}
use lib.ListN.{length, take, drop}
use lib.Seq.{length-take-le}
use Rattle.std.specs.Int.{next_multiple_of}
use lib.Dec.{eqb, leb, ltb}
use borrow.Author.Tests.{eq-eqb, ne_eqb, lt-ltb, le-ltb, le-leb, lt-leb, eqb-true, ltb-false}
use Rattle.disc.specs.Choice.{pick}
use Rattle.disc.specs.declared.refusals.Refusal.{Refusal}
use Rattle.disc.specs.declared.refusals.Refusal.TheVariants.{NoRoom, BadName, BadFiles}
use Rattle.disc.proofs.PickLaws.{not-both}
use Rattle.disc.proofs.RefusalLaws.{refusal-numbered}
use Rattle.disc.proofs.MoveLaws.{sets-whole}
use Rattle.disc.specs.Images.{sectors_for}
use Rattle.writers.specs.Layout.{zeros, blocks_of, total, joined, front, directory_part, entries_part, files_part, anchor_at, image}
use Rattle.writers.specs.Refusing.{names_in, is_ended, are_good, good_names, are_short, sum, good_files, refused_by, total_of, Written, writes}
use Rattle.writers.specs.Inner.Pours.{Poured, Kept, Named, Heads, Staged, Ready, Sized, Sums, head}
use Rattle.writers.specs.declared.WriteReply.{WriteReply}
use Rattle.writers.proofs.PourLaws.{poured-then, poured-as, poured-front}
use Rattle.writers.proofs.FileLaws.{blocks-few}

-- ---- the files

module _ (names lengths : List ℕ) {n : ℕ} (e : n ≡ length (names_in names)) where
  pub files-many : 64 < n → false ≡ good_files names lengths
  unfolding good_files
  files-many h = rw (← e, lt-ltb 64 n h)

  module _ (h : n ≤ 64) where
    pub files-unlike : (n ≡ length lengths → ⊥) → false ≡ good_files names lengths
    unfolding good_files
    files-unlike k = rw (← e, le-ltb 64 n h, ne_eqb n (length lengths) k)

    pub files-short : n ≡ length lengths → {b : Bool} → b ≡ are_short lengths → b ≡ good_files names lengths
    unfolding good_files
    files-short k f = rw (← e, le-ltb 64 n h, eq-eqb n (length lengths) k) f

-- what it tells
pub record Files (names lengths : List ℕ) : Type 0 where
  pub few : length (names_in names) ≤ 64
  pub alike : length (names_in names) ≡ length lengths
  pub short : are_short lengths ≡ true

pub files-good : (names lengths : List ℕ) → good_files names lengths ≡ true → Files names lengths
unfolding good_files
files-good names lengths e = by (ltb 64 (length (names_in names))) (eqb (length (names_in names)) (length lengths)) refl refl e
  where
    by : (a b : Bool) → ltb 64 (length (names_in names)) ≡ a → eqb (length (names_in names)) (length lengths) ≡ b → pick a false (pick b (are_short lengths) false) ≡ true → Files names lengths
    by true b p q g = not-both g
    by false false p q g = not-both g
    by false true p q g = record { few = ltb-false 64 (length (names_in names)) p; alike = eqb-true _ _ q; short = g }

pub record Names (names : List ℕ) : Type 0 where
  pub ended : is_ended names ≡ true
  pub good : are_good (names_in names) ≡ true

pub names-good : (names : List ℕ) → good_names names ≡ true → Names names
unfolding good_names
names-good names e = by (is_ended names) refl e
  where
    by : (a : Bool) → is_ended names ≡ a → pick a (are_good (names_in names)) false ≡ true → Names names
    by true p g = record { ended = p; good = g }
    by false p g = not-both g

-- ---- the returns of `total`

module _ (names lengths : List ℕ) {b : Bool} (e : b ≡ good_names names) where
  pub total-bad : b ≡ false → refused_by BadName ≡ total_of names lengths
  unfolding total_of
  total-bad h = rw (← e, h)

  module _ (h : b ≡ true) {c : Bool} (f : c ≡ good_files names lengths) where
    pub total-files : c ≡ false → refused_by BadFiles ≡ total_of names lengths
    unfolding total_of
    total-files g = rw (← e, h, ← f, g)

    pub total-done : c ≡ true → {n t : ℕ} → Sums sectors_for lengths n → t ≡ next_multiple_of (353 + n) 32 → record { answer = 0; sectors = t } ≡ total_of names lengths
    unfolding total_of
    total-done g {n} {t} k u =
        let blocks : n ≡ blocks_of lengths = k.is (files-good names lengths (sym f ∙ g)).short in
        let is : t ≡ total lengths = omega (arith, u, blocks) in
        rw (← e, h, ← f, g, is)

module _ (names lengths : List ℕ) {c : Bool} (f : c ≡ good_files names lengths) (g : c ≡ true) where
  pub good-few : length lengths ≤ 64
  good-few = let q = files-good names lengths (sym f ∙ g) in omega (arith, q.few, q.alike)

-- ---- the returns of `write`

pub write-refused : (names lengths : List ℕ) (why : Refusal) → refused_by why ≡ total_of names lengths → (staging lent : List ℕ) → record { reply = refused_by why; image = lent } ≡ writes names lengths staging lent
unfolding total_of writes
write-refused names lengths why e staging lent = by (good_names names) (good_files names lengths) e
  where
    by : (a b : Bool) → refused_by why ≡ pick a (pick b (record { answer = 0; sectors = total lengths }) (refused_by BadFiles)) (refused_by BadName)
        → ◌≡◌ {A = Written} (record { reply = refused_by why; image = lent }) (pick a (pick b (pick (leb (sum lengths) (length staging)) (pick (leb (total lengths) (length lent / 2048)) (record { reply = record { answer = 0; sectors = total lengths }; image = image (names_in names) lengths staging ++ drop (2048 * total lengths) lent }) (record { reply = refused_by NoRoom; image = lent })) (record { reply = refused_by BadFiles; image = lent })) (record { reply = refused_by BadFiles; image = lent })) (record { reply = refused_by BadName; image = lent }))
    by true true q = absurd (refusal-numbered why (ap (λ (x : WriteReply). x.answer) q))
    by true false q = ap (λ x. record { reply = x; image = lent }) q
    by false b q = ap (λ x. record { reply = x; image = lent }) q

record Passed (names lengths : List ℕ) (n : ℕ) : Type 0 where
  named : good_names names ≡ true
  filed : good_files names lengths ≡ true
  is : n ≡ total lengths

module _ (names lengths : List ℕ) {n : ℕ} (e : record { answer = 0; sectors = n } ≡ total_of names lengths) where
  passed : Passed names lengths n
  unfolding total_of
  passed = by (good_names names) (good_files names lengths) refl refl e
    where
      by : (a b : Bool) → good_names names ≡ a → good_files names lengths ≡ b
          → record { answer = 0; sectors = n } ≡ pick a (pick b (record { answer = 0; sectors = total lengths }) (refused_by BadFiles)) (refused_by BadName) → Passed names lengths n
      by true true p q k = record { named = p; filed = q; is = ap (λ (x : WriteReply). x.sectors) k }
      by true false p q k = absurd (let z : 0 ≡ 14 = ap (λ (x : WriteReply). x.answer) k in omega arith)
      by false b p q k = absurd (let z : 0 ≡ 13 = ap (λ (x : WriteReply). x.answer) k in omega arith)

  filed : Files names lengths
  filed = files-good names lengths passed.filed

  is : n ≡ total lengths
  is = passed.is

  pub write-few : length lengths ≤ 64
  write-few = omega (arith, filed.few, filed.alike)

  pub write-least : 384 ≤ n
  write-least = omega (arith, is)

  pub write-most : n ≤ 67108864
  write-most = omega (arith, is, blocks-few lengths filed.short, write-few)

  module _ {s : ℕ} (f : Sums (λ n. n) lengths s) (staging lent : List ℕ) where
    summed-is : s ≡ sum lengths
    summed-is = f.is filed.short

    pub write-staging : length staging < s → record { reply = refused_by BadFiles; image = lent } ≡ writes names lengths staging lent
    unfolding writes
    write-staging k = rw (passed.named, passed.filed, lt-leb (sum lengths) (length staging) (omega (arith, summed-is)))

    module _ (k : s ≤ length staging) where
      staged : leb (sum lengths) (length staging) ≡ true
      staged = le-leb (sum lengths) (length staging) (omega (arith, summed-is))

      pub write-room : length lent / 2048 < n → record { reply = refused_by NoRoom; image = lent } ≡ writes names lengths staging lent
      unfolding writes
      write-room l = rw (passed.named, passed.filed, staged, lt-leb (total lengths) (length lent / 2048) (omega (arith, is)))

      ready : Ready names lengths staging n
      ready =
          let w = names-good names passed.named in
          record { heads = record { named = record { good = w.good; few = filed.few }; short = filed.short }; alike = filed.alike; staged = omega (arith, summed-is); is = is }

      module _ (l : n ≤ length lent / 2048) where
        write-end : n * 2048 ≤ length lent
        write-end = omega arith

        pub write-lent : length (take (n * 2048) lent) ≡ 2048 * n
        write-lent = length-take-le (n * 2048) lent write-end ∙ omega arith

        pub write_done : {d : List ℕ} → (Ready names lengths staging n → d ≡ image (names_in names) lengths staging)
            → record { reply = record { answer = 0; sectors = n }; image = d ++ drop (n * 2048) lent } ≡ writes names lengths staging lent
        unfolding writes
        write_done {d} g =
            let e : n * 2048 ≡ 2048 * total lengths = omega (arith, is) in
            let u : d ++ drop (n * 2048) lent ≡ image (names_in names) lengths staging ++ drop (2048 * total lengths) lent = rw (g ready, e) in
            rw (passed.named, passed.filed, staged, le-leb (total lengths) (length lent / 2048) (omega (arith, is)), u, is)

-- ---- the image

pub head-poured : (names lengths : List ℕ) (size : ℕ) {b m k r : ℕ} {d e f g : List ℕ} → Sized names b → Poured (joined (front size (length lengths) b)) 573440 0 d e m
    → Kept (Named names) (directory_part (names_in names)) 16384 m (m + 16384) e f k → Kept (are_short lengths ≡ true) (joined (entries_part lengths)) 131072 k (k + 131072) f g r
    → Kept (Heads names lengths) (head (names_in names) lengths size) 720896 0 720896 d g r
head-poured names lengths size h p q t = record {
  above = omega arith;
  within = omega (arith, p.place, q.within, t.within);
  same = t.same ∙ q.same ∙ p.same;
  poured = λ y. poured-as (poured-then (poured-then p (q.poured y.named)) (t.poured y.short)) (rw (h.is y.named)) refl;
}

module _ (names lengths staging : List ℕ) (sectors : ℕ) (d : List ℕ) (h : (length lengths ≤ 64) × (384 ≤ sectors) × (sectors ≤ 67108864) × (length d ≡ 2048 * sectors)) where
  last : 2048 ≤ length d
  last = omega (arith, h.1, h.3)

  module _ {m : ℕ} {e : List ℕ} (p : Kept (Heads names lengths) (head (names_in names) lengths (sectors - 273)) 720896 0 720896 d e m) where
    abbrev files : List ℕ
    files = take (length d - 2048) e

    pour-front : length d - 2048 ≤ length e
    pour-front = omega (arith, p.same)

    files-room : length files ≡ length d - 2048
    files-room = length-take-le (length d - 2048) e pour-front

    module _ {k : ℕ} {y : List ℕ} (q : Kept (Staged lengths staging m files) (files_part lengths staging) (2048 * blocks_of lengths) m (length files) files y k) where
      pour-left : k ≤ length d - 2048
      pour-left = omega (arith, q.within, files-room)

      pub pour-done : {r : ℕ} {g : List ℕ} → Poured (zeros (length d - 2048 - k) ++ anchor_at (sectors - 1)) (length d - 2048 - k + 2048) k (y ++ drop (length d - 2048) e) g r
          → Ready names lengths staging sectors → g ≡ image (names_in names) lengths staging
      unfolding image
      pour-done t z =
          let first = p.poured z.heads in
          let fits : m + 2048 * blocks_of lengths ≤ length d - 2048 = omega (arith, first.place, h.3, z.is) in
          let body = poured-front pour-front fits (q.poured (record { whole = z.staged; room = omega (arith, fits, files-room) })) in
          let whole = poured-then (poured-then first body) t in
          let n : length d - 2048 - k ≡ 2048 * (total lengths - 353 - blocks_of lengths) = omega (arith, first.place, body.place, h.3, z.is) in
          let is : (head (names_in names) lengths (sectors - 273) ++ files_part lengths staging) ++ (zeros (length d - 2048 - k) ++ anchor_at (sectors - 1)) ≡ image (names_in names) lengths staging = rw (n, z.is, ← z.alike) (simp append_assoc) in
          let all : 720896 + 2048 * blocks_of lengths + (length d - 2048 - k + 2048) ≡ length d = omega (arith, first.place, body.place, pour-left, last) in
          whole.bytes ∙ sets-whole _ d (whole.long ∙ all) ∙ is
