-- For the private functions: the body of a d-string unit by unit, and what is found out about it first. The public contracts cite `Names` alone.
use Rattle.std.specs.Prelude.{ℕ, ◌≤◌, ◌+◌, ◌*◌, ◌≡◌, List, [], length, get_or, take, drop, eqb, Option, Some, None}
use Rattle.std.proofs.lemmas.List.Edits.{sets}
use Rattle.disc.specs.Choice.{pick}
use Rattle.disc.specs.Ask.{Outcome}
use Rattle.disc.specs.Ask.Outcome.{answered, refused}
use Rattle.disc.specs.declared.refusals.Refusal.TheVariants.{Malformed}
use Rattle.names.specs.declared.dstrings.Form.{Form}
use Rattle.names.specs.declared.dstrings.Form.TheVariants.{Empty, Units, Bad}
use Rattle.names.specs.Names.{pairs, until_zero, surrogate, drop_surrogates, encode, utf8, name_of, name_of_field}

-- ---- one unit: a byte, or two

-- The unit at i.
unfoldable pub unit_at : List ℕ → ℕ → ℕ → ℕ
unit_at s i step = pick (eqb step 2) (get_or s i 0 * 256 + get_or s (i + 1) 0) (get_or s i 0)

-- The UTF-8 of a unit that is not 0.
unfoldable pub unit_bytes : ℕ → List ℕ
unit_bytes u = pick (surrogate u) [] (encode u)

-- A text was stored from `at` on, and its end was returned.
pub record WroteAt (at : ℕ) (text before after : List ℕ) (r : ℕ) : Type 0 where
  pub count : r ≡ at + length text
  pub bytes : after ≡ sets before at text

-- ---- a body

-- The units of a body, of `step` bytes each.
unfoldable pub units : ℕ → List ℕ → List ℕ
units step s = pick (eqb step 2) (pairs s) s

-- The UTF-8 of a body.
unfoldable pub text_of : ℕ → List ℕ → List ℕ
text_of step s = utf8 (drop_surrogates (until_zero (units step s)))

-- There is a body, and its units take `step` bytes.
pub record Body (s : List ℕ) (step : ℕ) : Type 0 where
  pub some_byte : 1 ≤ length s
  pub one : 1 ≤ step
  pub two : step ≤ 2

-- A loop over the units of a body has come to i.
pub record At (step : ℕ) (s : List ℕ) (i : ℕ) : Type 0 where
  pub body : Body s step
  pub within : i ≤ length s

-- The name of a d-string that has this form.
abbrev pub name_as : Form → List ℕ → Outcome (List ℕ)
name_as Empty s = answered []
name_as (Units step) s = answered (text_of step (drop 1 s))
name_as Bad s = refused Malformed

-- What is known besides: where there are units, there is a body.
abbrev pub Readable : Form → List ℕ → Type 0
Readable Empty s = Unit {0}
Readable (Units step) s = Body s step
Readable Bad s = Unit {0}

-- The d-string s has the form f.
pub record Formed (s : List ℕ) (f : Form) : Type 0 where
  pub name : name_of s ≡ name_as f s
  pub body : Readable f s

-- ---- a field

-- The name of a field, by the length of its d-string.
abbrev pub front_name : Option ℕ → List ℕ → Outcome (List ℕ)
front_name (Some n) f = name_of (take n f)
front_name None f = refused Malformed

-- What is known besides: a length is within the field.
abbrev pub Within : Option ℕ → List ℕ → Type 0
Within (Some n) f = n ≤ length f
Within None f = Unit {0}

-- The field f has a d-string of the length r.
pub record FieldMeasured (f : List ℕ) (r : Option ℕ) : Type 0 where
  pub name : name_of_field f ≡ front_name r f
  pub within : Within r f
