-- What a recorded name says, and when two names match: RULES 4.
-- D-strings are those of OSTA UDF 2.1.3, and d-string fields those of ECMA-167 1/7.2.12.
use Rattle.std.specs.Prelude.{ℕ, ◌+◌, ◌-◌, ◌*◌, ◌/◌, ◌%◌, ◌≡◌, Bool, true, false, ◌||◌, List, [], ◌∷◌, ◌++◌, length, get_or, take, ltb, eqb, Result, Ok, Err}
use Rattle.disc.specs.Choice.{pick}
use Rattle.disc.specs.Moves.{over}
use Rattle.disc.specs.Ask.{Outcome}
use Rattle.disc.specs.Ask.Outcome.{answered, refused}
use Rattle.disc.specs.Images.{bytes_of}
use Rattle.disc.specs.Refusals.{number}
use Rattle.disc.specs.Replies.{Answer, answer_in}
use Rattle.disc.specs.declared.refusals.Refusal.TheVariants.{Malformed}
use Rattle.names.specs.declared.matching.Fold.{Fold}
use Rattle.names.specs.declared.matching.Fold.TheVariants.{Lower, AsIs}
use Rattle.disc.specs.declared.refusals.Refusal.{Refusal}

-- ---- code points

-- Big-endian pairs.
unfoldable pub pairs : List ℕ → List ℕ
pairs [] = []
pairs (a ∷ []) = []
pairs (a ∷ b ∷ s) = (a * 256 + b) ∷ pairs s

-- The list up to the first zero.
unfoldable pub until_zero : List ℕ → List ℕ
until_zero [] = []
until_zero (u ∷ us) = pick (eqb u 0) [] (u ∷ until_zero us)

-- The values D800 to DFFF, which are no code points.
unfoldable pub surrogate : ℕ → Bool
surrogate u = pick (ltb u 0xd800) false (ltb u 0xe000)

-- The list without its surrogates.
unfoldable pub drop_surrogates : List ℕ → List ℕ
drop_surrogates [] = []
drop_surrogates (u ∷ us) = pick (surrogate u) (drop_surrogates us) (u ∷ drop_surrogates us)

-- ---- UTF-8

-- One code point of at most 16 bits.
unfoldable pub encode : ℕ → List ℕ
encode u =
    pick (ltb u 0x80) (u ∷ [])
    (pick (ltb u 0x800) ((0xc0 + u / 64) ∷ (0x80 + u % 64) ∷ [])
    ((0xe0 + u / 4096) ∷ (0x80 + u / 64 % 64) ∷ (0x80 + u % 64) ∷ []))

-- Code points one after the other.
unfoldable pub utf8 : List ℕ → List ℕ
utf8 [] = []
utf8 (u ∷ us) = encode u ++ utf8 us

-- ---- names

-- The compression ids of an empty name, whatever follows them: 0, and those of deleted names, 254 and 255 (OSTA UDF 2.1.1 of 2.01).
abbrev pub nameless : ℕ → Bool
nameless id = (eqb id 0 || eqb id 254) || eqb id 255

-- The name of a d-string as UTF-8. The first byte is the compression id of OSTA UDF 2.1.1.
unfoldable pub name_of : List ℕ → Outcome (List ℕ)
name_of [] = answered []
name_of (id ∷ body) =
    pick (nameless id) (answered [])
    (pick (eqb id 8) (answered (utf8 (until_zero body)))
    (pick (eqb id 16) (pick (eqb (length body % 2) 1) (refused Malformed) (answered (utf8 (drop_surrogates (until_zero (pairs body))))))
    (refused Malformed)))

-- The name in a d-string field, whose last byte is the length of its d-string: ECMA-167 1/7.2.12.
unfoldable pub name_of_field : List ℕ → Outcome (List ℕ)
name_of_field f =
    pick (eqb (length f) 0) (answered [])
    (pick (ltb (length f - 1) (get_or f (length f - 1) 0)) (refused Malformed)
    (name_of (take (get_or f (length f - 1) 0) f)))

-- The bytes written for a name: none where it is refused.
abbrev pub written : Outcome (List ℕ) → List ℕ
written name = bytes_of name

-- The size of a name as the code reports it.
abbrev pub size_of : Outcome (List ℕ) → Result ℕ Refusal
size_of (refused why) = Err why
size_of (answered name) = Ok (length name)

-- The answer number with the name, or with its size: RULES 12.3.
abbrev pub name_answer : Outcome (List ℕ) → Answer (List ℕ)
name_answer o = answer_in [] o

abbrev pub size_answer : Result ℕ Refusal → Answer ℕ
size_answer (Ok n) = record { number = 0; value = n }
size_answer (Err why) = record { number = number why; value = 0 }

-- A text was written over the front of what was lent, and its length was returned.
pub record Wrote (text before after : List ℕ) (r : ℕ) : Type 0 where
  pub count : r ≡ length text
  pub bytes : after ≡ over text before

-- ---- matching

-- A to Z as a to z, and every other byte as it is.
unfoldable pub lower : ℕ → ℕ
lower b = pick (ltb b 0x41) b (pick (ltb b 0x5b) (b + 0x20) b)

-- Every byte as it is.
abbrev pub as_is : ℕ → ℕ
as_is b = b

-- The function that each fold of the code applies.
abbrev pub fold_of : Fold → ℕ → ℕ
fold_of Lower = lower
fold_of AsIs = as_is

-- Two names match where their bytes are equal under a fold.
unfoldable pub same_name : (ℕ → ℕ) → List ℕ → List ℕ → Bool
same_name fold [] [] = true
same_name fold [] (b ∷ t) = false
same_name fold (a ∷ s) [] = false
same_name fold (a ∷ s) (b ∷ t) = pick (eqb (fold a) (fold b)) (same_name fold s t) false

-- A refused name matches no component.
abbrev pub matched : (ℕ → ℕ) → Outcome (List ℕ) → List ℕ → Bool
matched fold (refused why) component = false
matched fold (answered name) component = same_name fold name component

-- A d-string names a component of a path. One of more than 255 bytes names none: no directory entry records it (ECMA-167 4/14.4.4).
unfoldable pub is_named : (ℕ → ℕ) → List ℕ → List ℕ → Bool
is_named fold s component = pick (ltb 255 (length s)) false (matched fold (name_of s) component)
