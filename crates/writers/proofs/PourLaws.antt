-- Bytes poured one behind another. Assumes nothing.
use mathlib.Core.Path.{◌≡◌, refl, sym, ap, ◌∙◌}
use mathlib.Core.List.{List, [], ◌∷◌, ◌++◌, append-nil, append_assoc}
use Prim.Native.Nat.{ℕ, zero, suc, ◌+◌, ◌-◌, ◌*◌, ◌≤◌}
use native.Mathlib.Nat.{add-sub_cancel_left}
use native.Mathlib.Omega.{arith}
use lib.ListN.{length, take, drop, replicate, length-append, length-drop, length-replicate, replicate-append-replicate, take-append-drop}
use lib.Seq.{sets, sets-eq, length-sets, drop-drop, length-take-le, drop-length, take-length, take-append-le, drop-append-le}
use borrow.Rule.Slice.PartMut.{mid_of, put_mid}
use Rattle.disc.specs.Moves.{over}
use Rattle.disc.proofs.MoveLaws.{sets-append}
use Rattle.crcs.specs.Crcs.{crc_of}
use Rattle.tags.specs.Tags.{encode_tag}
use Rattle.writers.specs.Layout.{zeros, joined, blanks, sector, sealed}
use Rattle.writers.specs.Inner.Pours.{Poured, Laid}

-- ---- a part of what is lent

module _ (at n : ℕ) (xs : List ℕ) (h : at + n ≤ length xs) where
  mid-long : length (mid_of at (at + n - at) xs) ≡ n
  mid-long = rw add-sub_cancel_left (length-take-le n (drop at xs) (rw length-drop (omega arith)))

  mid-poured : (v : List ℕ) → length v ≡ n → {ys : List ℕ} → ys ≡ v → Poured v n at xs (put_mid at (at + n - at) xs ys) (at + n)
  mid-poured v l {ys} e =
      let k : at + length v ≤ length xs = omega arith in
      let q : put_mid at (at + n - at) xs ys ≡ sets xs at v = rw (e, add-sub_cancel_left, drop-drop, ← l) (sym (append_assoc (take at xs) v (drop (at + length v) xs)) ∙ sym (sets-eq v xs at k)) in
      record { bytes = q; long = l; place = refl; same = rw (q, length-sets) }

pub put-ends : (text : List ℕ) (at : ℕ) (xs : List ℕ) → at + length text ≤ length xs → {ys : List ℕ} → ys ≡ over text (mid_of at (at + length text - at) xs)
    → Poured text (length text) at xs (put_mid at (at + length text - at) xs ys) (at + length text)
put-ends text at xs h e = mid-poured at (length text) xs h text refl (e ∙ whole (mid_of at (at + length text - at) xs) (mid-long at (length text) xs h))
  where
    whole : (mid : List ℕ) → length mid ≡ length text → over text mid ≡ text
    whole mid l = rw (l, take-length, ← l, drop-length) (append-nil text)

pub blank-ends : (n at : ℕ) (xs : List ℕ) → at + n ≤ length xs → {ys : List ℕ} → ys ≡ replicate (length (mid_of at (at + n - at) xs)) 0
    → Poured (zeros n) n at xs (put_mid at (at + n - at) xs ys) (at + n)
blank-ends n at xs h e = mid-poured at n xs h (zeros n) (length-replicate n 0) (e ∙ ap zeros (mid-long at n xs h))

-- ---- one behind another

pub poured-then : {a b d e f : List ℕ} {n k at m r : ℕ} → Poured a n at d e m → Poured b k m e f r → Poured (a ++ b) (n + k) at d f r
poured-then {a} {b} {d} {e} {f} {n} {k} {at} {m} {r} p q = record {
  bytes = q.bytes ∙ rw (p.bytes, p.place, ← p.long) (sym (sets-append a b d at));
  long = rw length-append (omega (arith, p.long, q.long));
  place = omega (arith, p.place, q.place);
  same = q.same ∙ p.same;
}

pub poured-as : {a b d e : List ℕ} {n k at r : ℕ} → Poured a n at d e r → a ≡ b → n ≡ k → Poured b k at d e r
poured-as p e f = rw (e, f) at p

-- ---- a front of what is lent

sets-left : (v a b : List ℕ) (at : ℕ) → at + length v ≤ length a → sets (a ++ b) at v ≡ sets a at v ++ b
sets-left v a b at h =
    let k : at ≤ length a = omega arith in
    let l : at + length v ≤ length (a ++ b) = rw length-append (omega arith) in
    sets-eq v (a ++ b) at l ∙ rw (take-append-le at a b k, drop-append-le (at + length v) a b h, sets-eq v a at h) (simp append_assoc)

-- what is poured into the front is poured into the whole
pub poured-front : {text d y : List ℕ} {size at n r : ℕ} → n ≤ length d → at + size ≤ n → Poured text size at (take n d) y r → Poured text size at d (y ++ drop n d) r
poured-front {text} {d} {y} {size} {at} {n} h k p =
    let e : y ++ drop n d ≡ sets d at text = rw p.bytes (sym (sets-left text (take n d) (drop n d) at (rw (length-take-le n d h) (omega (arith, p.long)))) ∙ rw take-append-drop) in
    record { bytes = e; long = p.long; place = p.place; same = rw (e, length-sets) }

-- ---- sectors

pub joined-append : (ss ts : List (List ℕ)) → joined (ss ++ ts) ≡ joined ss ++ joined ts
unfolding joined
joined-append [] ts = refl
joined-append (s ∷ ss) ts = ap (λ l. s ++ l) (joined-append ss ts) ∙ sym (append_assoc s (joined ss) (joined ts))

pub joined-blanks : (n : ℕ) → joined (blanks n) ≡ zeros (2048 * n)
unfolding joined
joined-blanks zero = refl
joined-blanks (suc n) =
    let e : 2048 * suc n ≡ 2048 + 2048 * n = omega arith in
    ap (λ l. zeros 2048 ++ l) (joined-blanks n) ∙ replicate-append-replicate 2048 (2048 * n) 0 ∙ ap zeros (sym e)

pub laid-append : {ss ts : List (List ℕ)} {d e f : List ℕ} {at m r : ℕ} → Laid ss at d e m → Laid ts m e f r → Laid (ss ++ ts) at d f r
laid-append {ss} {ts} p q = record { poured = poured-as (poured-then p.poured q.poured) (sym (joined-append ss ts)) (rw length-append (omega arith)) }

pub laid_cons : {s : List ℕ} {ts : List (List ℕ)} {d e f : List ℕ} {at m r : ℕ} → Laid (s ∷ []) at d e m → Laid ts m e f r → Laid (s ∷ ts) at d f r
laid_cons p q = laid-append p q

pub blanks-laid : (n : ℕ) {d e : List ℕ} {at r : ℕ} → Poured (zeros (2048 * n)) (2048 * n) at d e r → Laid (blanks n) at d e r
blanks-laid n p = record { poured = poured-as p (sym (joined-blanks n)) (rw (length-replicate n (zeros 2048))) }

-- one sector is laid where its bytes are poured
pub one-laid : {s : List ℕ} {d e : List ℕ} {at r : ℕ} → Poured s 2048 at d e r → Laid (s ∷ []) at d e r
unfolding joined
one-laid {s} p = record { poured = poured-as p (sym (append-nil s)) refl }

sector-laid : {s : List ℕ} {n k at m r : ℕ} {d e f : List ℕ} → Poured s n at d e m → Poured (zeros k) k m e f r → n + k ≡ 2048 → Laid (sector s ∷ []) at d f r
unfolding sector
sector-laid {s} {n} {k} p q h =
    let l : k ≡ 2048 - length s = omega (arith, p.long) in
    one-laid (poured-as (poured-then p q) (ap (λ j. s ++ zeros j) l) h)

pub text-laid : (s : List ℕ) {at m r : ℕ} {d e f : List ℕ} → Poured s (length s) at d e m → Poured (zeros (2048 - length s)) (2048 - length s) m e f r → length s ≤ 2048
    → Laid (sector s ∷ []) at d f r
text-laid s p q h = sector-laid p q (omega arith)

pub sealed-laid : (id location : ℕ) (body : List ℕ) {at m r : ℕ} {d e f : List ℕ} → Poured (sealed id location body) (16 + length body) at d e m
    → Poured (zeros (2032 - length body)) (2032 - length body) m e f r → length body ≤ 2032 → Laid (sector (sealed id location body) ∷ []) at d f r
sealed-laid id location body p q h = sector-laid p q (omega arith)

-- ---- a descriptor

pub sealed-long : (id location : ℕ) (body : List ℕ) → length (sealed id location body) ≡ 16 + length body
unfolding sealed
sealed-long id location body = omega arith

pub seal-ends : (id location : ℕ) (body : List ℕ) {c : ℕ} {t : List ℕ} {n at m r : ℕ} {d e f : List ℕ} → c ≡ crc_of body
    → t ≡ encode_tag (record { id = id; descriptor_version = 2; serial_number = 0; crc = c; crc_length = length body; location = location })
    → Poured t n at d e m → Poured body (length body) m e f r → Poured (sealed id location body) (16 + length body) at d f r
unfolding sealed
seal-ends id location body {c} {t} {n} p q u v =
    let w : t ≡ encode_tag (record { id = id; descriptor_version = 2; serial_number = 0; crc = crc_of body; crc_length = length body; location = location }) = q ∙ rw p in
    let x : n ≡ 16 = sym u.long ∙ ap length w in
    poured-as (poured-then u v) (rw w) (omega arith)
