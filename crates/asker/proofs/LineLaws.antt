-- What a line holds behind what is put into it: a text, cut where the line's room ends. Assumes nothing.
use Rattle.std.proofs.Common.{◌≡◌, refl, sym, ap, ◌∙◌, ℕ, zero, suc, ◌+◌, ◌-◌, ◌<◌, ◌≤◌, min, List, [], ◌∷◌, ◌++◌, length, take, drop, arith, append_assoc, append-nil, length-append, add-one, slice_set}
use Rattle.std.proofs.lemmas.List.{take-append-le, take_all, take_min, length-take, length-take-le, length-drop}
use Rattle.std.proofs.Math.Seq.{take-append-add, take_at, take-suc-set}
use Rattle.disc.specs.Moves.{over}

-- to cut a text, put another behind it and cut again is to put it there and cut once
pub cut-again : (n : ℕ) (xs ys : List ℕ) → take n (take n xs ++ ys) ≡ take n (xs ++ ys)
cut-again zero xs ys = refl
cut-again (suc n) [] ys = refl
cut-again (suc n) (x ∷ xs) ys = ap (λ (s : List ℕ). x ∷ s) (cut-again n xs ys)

-- what was cut once is not changed by another cut
pub stays-cut : (n : ℕ) (xs : List ℕ) {s : List ℕ} → s ≡ take n xs → s ≡ take n s
stays-cut n xs {s} e = e ∙ sym (ap (take n) e ∙ ap (take n) (sym (append-nil (take n xs))) ∙ cut-again n xs [] ∙ ap (take n) (append-nil xs))

-- to put two texts, one after the other, is to put both as one
pub puts : (n : ℕ) (t x y : List ℕ) {u v : List ℕ} → u ≡ take n (t ++ x) → v ≡ take n (u ++ y) → v ≡ take n (t ++ (x ++ y))
puts n t x y first second =
    second ∙ ap (λ (s : List ℕ). take n (s ++ y)) first ∙ cut-again n (t ++ x) y ∙ ap (take n) (append_assoc t x y)

module _ (bytes : List ℕ) (n : ℕ) (long : length bytes ≡ 65536) where
  -- a line never holds more than its room
  pub held : take n bytes ≡ take 65536 (take n bytes)
  held = let size = length-take n bytes in sym (take_all 65536 (take n bytes) (omega arith))

  -- a line that is full stays as it is
  pub full : (more : List ℕ) → 65536 ≤ n → take n bytes ≡ take 65536 (take n bytes ++ more)
  full more h =
      let size = length-take n bytes in held ∙ sym (take-append-le 65536 (take n bytes) more (omega arith))

  -- a byte put into a line that has room
  pub pushed : (b : ℕ) → n < 65536 → take (n + 1) (slice_set bytes n b) ≡ take 65536 (take n bytes ++ (b ∷ []))
  pushed b h =
      let size = length-take-le n bytes (omega arith) in
      let more = length-append (take n bytes) (b ∷ []) in
      ap (λ (k : ℕ). take k (slice_set bytes n b)) (add-one n) ∙ take-suc-set bytes n b (omega arith) ∙ sym (take_all 65536 (take n bytes ++ (b ∷ [])) (omega arith))

  -- a text put into a line, as much of it as there is room for
  pub put : (text behind : List ℕ) (from m : ℕ) {out : List ℕ} → from ≡ min n 65536 → m ≡ min (length text) (65536 - from) → out ≡ over text (take (length bytes - from) (drop from bytes))
      → take (from + m) (take from bytes ++ (out ++ behind)) ≡ take 65536 (take n bytes ++ text)
  put text behind from m {out} e f copied =
      let size = length-take-le from bytes (omega arith) in
      let room = length-drop from bytes in
      let left : length (drop from bytes) ≡ 65536 - from = omega arith in
      let counted : min (65536 - from) (length text) ≡ m = omega arith in
      let front : min n (length bytes) ≡ from = omega arith in
      let whole : 65536 ≡ length (take from bytes) + (65536 - from) = omega arith in
      let fits : out ++ behind ≡ take (65536 - from) text ++ (drop (length text) (drop from bytes) ++ behind) =
      ap (λ (s : List ℕ). s ++ behind) (copied ∙ ap (over text) (take_all _ (drop from bytes) (omega arith))) ∙ append_assoc _ (drop (length text) (drop from bytes)) behind
      ∙ ap (λ (k : ℕ). take k text ++ (drop (length text) (drop from bytes) ++ behind)) left in
      let taken : take m (out ++ behind) ≡ take (65536 - from) text = ap (take m) fits ∙ take_at (take (65536 - from) text) _ m (length-take (65536 - from) text ∙ counted) in
      let kept : take n bytes ≡ take from bytes = sym (take_min n bytes) ∙ ap (λ (k : ℕ). take k bytes) front in
      ap (λ (k : ℕ). take (k + m) (take from bytes ++ (out ++ behind))) (sym size)
      ∙ take-append-add (take from bytes) (out ++ behind) m
      ∙ ap (λ (s : List ℕ). take from bytes ++ s) taken
      ∙ sym (ap (λ (k : ℕ). take k (take n bytes ++ text)) whole
      ∙ ap (λ (s : List ℕ). take (length (take from bytes) + (65536 - from)) (s ++ text)) kept
      ∙ take-append-add (take from bytes) text (65536 - from))
