-- The bodies that have a number stored into them. Assumes nothing.
use mathlib.Core.Path.{◌≡◌, refl, ap, ◌∙◌}
use mathlib.Core.List.{List, [], ◌∷◌, ◌++◌}
use Prim.Native.Nat.{ℕ, zero, suc, ◌+◌, ◌-◌, ◌*◌, ◌/◌, ◌≤◌}
use native.Mathlib.Omega.{arith}
use lib.ListN.{length, take, drop, set, length-append, length-replicate}
use lib.Seq.{sets, sets-eq, take-append-add, drop-append-add}
use Rattle.records.specs.Bytes.{le16, le32}
use Rattle.writers.specs.Layout.{zeros, identifier_size, long_at, sector, sealed, identifier_body, identifier_at}
use Rattle.writers.specs.Inner.Pours.{Poured, Laid, long_body}
use Rattle.writers.proofs.PourLaws.{poured-as}

-- ---- a file identifier

abbrev head : ℕ → ℕ → List ℕ
head k block = le16 1 ++ 0 ∷ k ∷ long_at block ++ le16 0 ++ 8 ∷ []

-- the longest name's body, before the name is stored
abbrev pub unnamed : ℕ → ℕ → List ℕ
unnamed k block = head k block ++ zeros 129

one : (n : ℕ) → 1 + n ≡ suc n
one n = omega arith

pub long-ends : (block : ℕ) (name : List ℕ) → length name ≤ 127 → {b c : List ℕ} {m r : ℕ}
    → b ≡ sets (set (unnamed 0 0) 3 (1 + length name)) 8 (le32 block)
    → Poured name m 23 b c r
    → c ≡ long_body block name
unfolding long_body
long-ends block name h {b} {c} e p =
    let f : b ≡ unnamed (suc (length name)) block = e ∙ ap (λ j. sets (set (unnamed 0 0) 3 j) 8 (le32 block)) (one (length name)) in
    let k : 23 + length name ≤ length (unnamed (suc (length name)) block) = omega arith in
    p.bytes ∙ rw f (sets-eq name (unnamed (suc (length name)) block) 23 k ∙ behind)
  where
    cut : (n m : ℕ) → drop n (zeros (n + m)) ≡ zeros m
    cut zero m = let e : 0 + m ≡ m = omega arith in rw e
    cut (suc n) m = let e : suc n + m ≡ suc (n + m) = omega arith in rw e (cut n m)

    behind : take 23 (unnamed (suc (length name)) block) ++ name ++ drop (23 + length name) (unnamed (suc (length name)) block) ≡ long_body block name
    behind =
        let e : 129 ≡ length name + (129 - length name) = omega arith in
        let f : drop (23 + length name) (unnamed (suc (length name)) block) ≡ drop (length name) (zeros 129) = drop-append-add (head (suc (length name)) block) (zeros 129) (length name) in
        rw f (ap (λ l. head (suc (length name)) block ++ name ++ l) (ap (λ j. drop (length name) (zeros j)) e ∙ cut (length name) (129 - length name)))

-- cut to its size
zeros-cut : (n m : ℕ) → n ≤ m → take n (zeros m) ≡ zeros n
zeros-cut zero m h = refl
zeros-cut (suc n) zero h = absurd (omega arith)
zeros-cut (suc n) (suc m) h = ap (λ l. 0 ∷ l) (zeros-cut n m (omega arith))

pub identifier-cut : (block : ℕ) (name : List ℕ) → length name ≤ 127 → take ((length name + 42) / 4 * 4 - 16) (long_body block name) ≡ identifier_body 0 block (8 ∷ name)
unfolding long_body identifier_body
identifier-cut block name h =
    let n = length name in
    let p : ℕ = (38 + suc n + 3) / 4 * 4 - (38 + suc n) in
    let e : (n + 42) / 4 * 4 - 16 ≡ length (head (suc n) block ++ name) + p = rw length-append (omega arith) in
    let k : p ≤ 129 - n = omega arith in
    rw e (take-append-add (head (suc n) block ++ name) (zeros (129 - n)) p ∙ rw (zeros-cut p (129 - n) k))

pub identifier-long : (block : ℕ) (name : List ℕ) → length (identifier_body 0 block (8 ∷ name)) ≡ identifier_size (length name) - 16
unfolding identifier_body
identifier-long block name = simp (length-append, length-replicate) (omega arith)

pub identifier-ends : (o i : ℕ) (name : List ℕ) → length name ≤ 127 → {b : List ℕ} (body : List ℕ) {size : ℕ} {d f : List ℕ} {at r : ℕ}
    → b ≡ long_body (16 + i) name → size ≡ identifier_size (length name) → body ≡ take (size - 16) b
    → Poured (sealed 257 (8 + o / 2048) body) (16 + length body) at d f r
    → Poured (identifier_at o 0 (16 + i) (8 ∷ name)) (identifier_size (length name)) at d f r
identifier-ends o i name h body e s f p =
    let q : body ≡ identifier_body 0 (16 + i) (8 ∷ name) = f ∙ rw (e, s) (identifier-cut (16 + i) name h) in
    let l = ap length q ∙ identifier-long (16 + i) name in
    poured-as p (rw q) (omega arith)

-- ---- a body that was made

pub body-laid : (id location : ℕ) {at r : ℕ} (body text : List ℕ) {d f : List ℕ} → body ≡ text → Laid (sector (sealed id location body) ∷ []) at d f r → Laid (sector (sealed id location text) ∷ []) at d f r
body-laid id location body text e p = rw e at p
