-- The names and the lengths of a vault that is to be written, what is refused of them, and the call: RULES 15.1 to 15.10, 15.14.
use Rattle.std.specs.Prelude.{ℕ, ◌*◌, ◌/◌, Bool, true, false, List, [], ◌∷◌, ◌++◌, length, drop, eqb, leb, ltb}
use Rattle.disc.specs.Choice.{pick}
use Rattle.disc.specs.Refusals.{number}
use Rattle.disc.specs.declared.refusals.Refusal.{Refusal}
use Rattle.disc.specs.declared.refusals.Refusal.TheVariants.{NoRoom, BadName, BadFiles}
use Rattle.names.specs.Names.{until_zero, lower, same_name}
use Rattle.writers.specs.Layout.{summed, total, image}
use Rattle.writers.specs.declared.WriteReply.{WriteReply}

-- ---- names

-- the names, each ended by a zero byte: one begins at the front of s where `begins`, and one behind each zero but the last byte
unfoldable pub names_from : Bool → List ℕ → List (List ℕ)
names_from begins [] = []
names_from true (b ∷ s) = until_zero (b ∷ s) ∷ names_from (eqb b 0) s
names_from false (b ∷ s) = names_from (eqb b 0) s

abbrev pub names_in : List ℕ → List (List ℕ)
names_in s = names_from true s

-- the last of them has its zero byte: what is left behind the zeros is nothing
unfoldable pub ends_from : Bool → List ℕ → Bool
ends_from begins [] = begins
ends_from begins (b ∷ s) = ends_from (eqb b 0) s

abbrev pub is_ended : List ℕ → Bool
is_ended s = ends_from true s

-- a byte of a name: 21 to 7E, and not 2F, the slash
unfoldable pub is_plain : ℕ → Bool
is_plain b = pick (ltb b 0x21) false (pick (ltb 0x7e b) false (pick (eqb b 0x2f) false true))

unfoldable pub all_plain : List ℕ → Bool
all_plain [] = true
all_plain (b ∷ s) = pick (is_plain b) (all_plain s) false

-- a name: 1 to 127 such bytes
unfoldable pub is_good : List ℕ → Bool
is_good n = pick (eqb (length n) 0) false (pick (ltb 127 (length n)) false (all_plain n))

-- it stands among others, with ASCII case ignored as the reader ignores it
unfoldable pub is_among : List ℕ → List (List ℕ) → Bool
is_among n [] = false
is_among n (m ∷ ms) = pick (same_name lower n m) true (is_among n ms)

-- every name is good, and none stands behind it again
unfoldable pub are_good : List (List ℕ) → Bool
are_good [] = true
are_good (n ∷ ns) = pick (is_good n) (pick (is_among n ns) false (are_good ns)) false

unfoldable pub good_names : List ℕ → Bool
good_names s = pick (is_ended s) (are_good (names_in s)) false

-- ---- lengths

-- the most bytes of a file: 524,287 blocks, so that its one descriptor's raw length has type 0
abbrev pub longest : ℕ
longest = 1073739776

unfoldable pub are_short : List ℕ → Bool
are_short [] = true
are_short (n ∷ ns) = pick (ltb longest n) false (are_short ns)

-- the bytes of all files
abbrev pub sum : List ℕ → ℕ
sum lengths = summed (λ n. n) lengths

-- up to 64 files, as many names as lengths, none too long
unfoldable pub good_files : List ℕ → List ℕ → Bool
good_files names lengths =
    pick (ltb 64 (length (names_in names))) false
    (pick (eqb (length (names_in names)) (length lengths)) (are_short lengths) false)

-- ---- the sector total

abbrev pub refused_by : Refusal → WriteReply
refused_by why = record { answer = number why; sectors = 0 }

unfoldable pub total_of : List ℕ → List ℕ → WriteReply
total_of names lengths =
    pick (good_names names)
    (pick (good_files names lengths)
    (record { answer = 0; sectors = total lengths })
    (refused_by BadFiles))
    (refused_by BadName)

-- ---- the call: its reply, and what it leaves of what was lent

pub record Written : Type 0 where
  pub reply : WriteReply
  pub image : List ℕ

-- 13; 14, the staging area last; 5, where the layout has more sectors than there are whole ones; and then the image, with what is behind it as it came
unfoldable pub writes : List ℕ → List ℕ → List ℕ → List ℕ → Written
writes names lengths staging lent =
    pick (good_names names)
    (pick (good_files names lengths)
    (pick (leb (sum lengths) (length staging))
    (pick (leb (total lengths) (length lent / 2048))
    (record {
      reply = record { answer = 0; sectors = total lengths };
      image = Rattle.writers.specs.Layout.image (names_in names) lengths staging ++ drop (2048 * total lengths) lent;
    })
    (record { reply = refused_by NoRoom; image = lent }))
    (record { reply = refused_by BadFiles; image = lent }))
    (record { reply = refused_by BadFiles; image = lent }))
    (record { reply = refused_by BadName; image = lent })
