-- What the opening through the partition maps refuses, as a row of checks: RULES 5.11 and 5.28, in their order; written from the rules, with no word of how
-- `Openings` goes through them.
use Rattle.std.specs.Prelude.{ℕ, zero, suc, ◌+◌, ◌*◌, Bool, true, false, not, List, [], ◌∷◌, ◌++◌, eqb, leb, ltb, Option, Some, None}
use Rattle.disc.specs.Choice.{pick}
use Rattle.disc.specs.Ask.{Outcome}
use Rattle.disc.specs.Ask.Outcome.{answered, refused}
use Rattle.disc.specs.declared.refusals.Refusal.{Refusal}
use Rattle.disc.specs.declared.refusals.Refusal.TheVariants.{Malformed, NotBluray, Unsupported}
use Rattle.volumes.specs.declared.sequences.Kept.{Kept}
use Rattle.volumes.specs.declared.openings.How.{How}
use Rattle.volumes.specs.Sequences.{nothing, Parsed, order_of, any_partition, kept_of}
use Rattle.volumes.specs.Sequences.Parsed.{primary, partition, logical}
use Rattle.volumes.specs.Openings.{map_at, map_in, is_plain_map, number_of_map, start_of_number, file_set_ref}

-- whether a partition descriptor of a list has this partition number (3/10.5.4)
unfoldable pub is_numbered : ℕ → List Parsed → Bool
is_numbered n [] = false
is_numbered n (primary d ∷ ps) = is_numbered n ps
is_numbered n (partition d ∷ ps) = pick (eqb n d.partition_number) true (is_numbered n ps)
is_numbered n (logical d ∷ ps) = is_numbered n ps

-- whether one of n maps from the i-th on is such
unfoldable pub any_map : (List ℕ → Bool) → List ℕ → ℕ → ℕ → Bool
any_map such maps i zero = false
any_map such maps i (suc n) = pick (such (map_at maps i)) true (any_map such maps (i + 1) n)

-- ---- checks

-- whether it fails, and the refusal where it does
pub record Check : Type 0 where
  pub fails : Bool
  pub why : Refusal

abbrev pub check : Bool → Refusal → Check
check fails why = record { fails = fails; why = why }

-- the refusal of the first that fails, none where all hold
unfoldable pub first_of : List Check → Option Refusal
first_of [] = None
first_of (c ∷ cs) = pick c.fails (Some c.why) (first_of cs)

-- of what was kept (5.11): no PVD, no PD, no LVD, another block size
abbrev pub kept_checks : Kept → List Check
kept_checks k =
    check (not k.has_primary) NotBluray ∷
    check (not k.has_partition) NotBluray ∷
    check (not k.has_logical) NotBluray ∷
    check (not (eqb k.block_size 2048)) Unsupported ∷
    []

-- of the maps (5.28): over four; six bytes to each pass the table; the table passes the sector; one isn't begun 01 06; one has a number that no PD of the
-- sequence has; the file set's reference isn't below their number
abbrev pub map_checks : List Parsed → Kept → List Check
map_checks ps k =
    check (ltb 4 k.map_count) Unsupported ∷
    check (ltb k.map_table_length (6 * k.map_count)) Malformed ∷
    check (ltb 2048 (440 + k.map_table_length)) Malformed ∷
    check (any_map (λ b. not (is_plain_map b)) k.maps 0 k.map_count) Unsupported ∷
    check (any_map (λ b. not (is_numbered (number_of_map b) ps)) k.maps 0 k.map_count) Unsupported ∷
    check (leb k.map_count (file_set_ref k)) Unsupported ∷
    []

-- all of them, of the descriptors of a sequence
abbrev pub mapped_checks : How → List Parsed → List Check
mapped_checks how ps = kept_checks (kept_of (order_of how) any_partition nothing ps) ++ map_checks ps (kept_of (order_of how) any_partition nothing ps)

-- ---- behind them

-- the sector that is asked for where none fails: the file set's block, from the start of the partition that its reference's map names
abbrev pub start_or : Option ℕ → ℕ
start_or None = 0
start_or (Some s) = s

abbrev pub file_set_sector : How → List Parsed → ℕ
file_set_sector how ps =
    let k = kept_of (order_of how) any_partition nothing ps in
    start_or (start_of_number how ps (number_of_map (map_in k (file_set_ref k)))) + k.file_set.location.block

-- ---- what an outcome refuses

abbrev pub refusal_of : {A : Type 0} → Outcome A → Option Refusal
refusal_of (answered a) = None
refusal_of (refused r) = Some r

-- whether there is one
abbrev pub is_there : {A : Type 0} → Option A → Bool
is_there None = false
is_there (Some a) = true
