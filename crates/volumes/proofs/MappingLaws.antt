-- What the opening through the maps refuses is the first of its checks that fails, and nothing else. Assumes nothing.
use Rattle.std.specs.Prelude.{Option, Some, None}
use mathlib.Core.Path.{◌≡◌, refl, ap, sym, ◌∙◌}
use mathlib.Core.Bool.{Bool, true, false, not}
use mathlib.Core.List.{List, [], ◌∷◌, ◌++◌, append-nil}
use Prim.Native.Nat.{ℕ, zero, suc, ◌+◌, ◌*◌, min}
use native.Mathlib.Omega.{arith}
use lib.ListN.{length, get_or, length-append}
use lib.Dec.{eqb, leb, ltb}
use borrow.Author.Tests.{lt-ltb, ltb-true, ltb-false, le-leb, lt-leb, ne_eqb}
use Rattle.disc.specs.Choice.{pick}
use Rattle.disc.specs.Ask.{Held, Disc, Ask, Outcome, outcome, asked, then, given, ended}
use Rattle.disc.specs.Ask.Held.{holds, lacks}
use Rattle.disc.specs.Ask.Ask.{refuse}
use Rattle.disc.specs.Ask.Outcome.{answered, refused}
use Rattle.disc.specs.Ran.{Ran, ran}
use Rattle.disc.specs.Places.{mapped_start, start_for, placed}
use Rattle.disc.specs.declared.places.Mount.{Mount}
use Rattle.disc.specs.declared.refusals.Refusal.{Refusal}
use Rattle.disc.specs.declared.refusals.Refusal.TheVariants.{Malformed, NotBluray, Unsupported}
use Rattle.disc.proofs.PickLaws.{not-both, pick_yes}
use Rattle.disc.proofs.RanLaws.{ran_then}
use Rattle.descriptors.specs.FileSets.{read_file_set}
use Rattle.volumes.specs.declared.sequences.Kept.{Kept}
use Rattle.volumes.specs.declared.openings.How.{How}
use Rattle.volumes.specs.declared.openings.VolumeRecord.{VolumeRecord}
use Rattle.volumes.specs.Sequences.{nothing, Parsed, Order, order_of, any_partition, counts, replacing, prevailing, kept_of}
use Rattle.volumes.specs.Sequences.Parsed.{primary, partition, logical}
use Rattle.volumes.specs.Openings.{map_at, map_in, is_plain_map, number_of_map, start_of_number, start_of_map, start_then, starts_from, map_starts, each_of, file_set_ref, mount_from_starts, mounted_by, mapped_mount, mount_of, file_set_in, volume_in, file_set_at, file_set_on, mounting_of, opening}
use Rattle.volumes.specs.Mapping.{is_numbered, any_map, first_of, kept_checks, map_checks, mapped_checks, start_or, file_set_sector, refusal_of, is_there}
use Rattle.volumes.proofs.MapLaws.{mapped-mount}
use Rattle.volumes.proofs.Promises.{opening-is, scan-same}
use Rattle.volumes.specs.Made.{sequence, chosen}

-- ---- the descriptors of a number

-- whether a partition descriptor is kept, once p has been met
has-next : (o : Order) (n : ℕ) (k : Kept) (p : Parsed) → (prevailing o (eqb n) k p).has_partition ≡ pick k.has_partition true (is_numbered n (p ∷ []))
unfolding is_numbered
has-next o n k (primary d) = by (counts o (eqb n) k (primary d)) k.has_partition refl
  where
    by : (t h : Bool) → k.has_partition ≡ h → (pick t (replacing k (primary d)) k).has_partition ≡ pick h true false
    by true true e = e
    by true false e = e
    by false true e = e
    by false false e = e
has-next o n k (logical d) = by (counts o (eqb n) k (logical d)) k.has_partition refl
  where
    by : (t h : Bool) → k.has_partition ≡ h → (pick t (replacing k (logical d)) k).has_partition ≡ pick h true false
    by true true e = e
    by true false e = e
    by false true e = e
    by false false e = e
has-next o n k (partition d) = by (eqb n d.partition_number) k.has_partition refl (o k.partition_sequence d.volume_descriptor_sequence_number)
  where
    by : (t h : Bool) → k.has_partition ≡ h → (u : Bool) → (pick (pick t (pick h u true) false) (replacing k (partition d)) k).has_partition ≡ pick h true (pick t true false)
    by true true e true = refl
    by true true e false = e
    by true false e u = refl
    by false true e u = e
    by false false e u = e

numbered-cons : (n : ℕ) (p : Parsed) (ps : List Parsed) → is_numbered n (p ∷ ps) ≡ pick (is_numbered n (p ∷ [])) true (is_numbered n ps)
unfolding is_numbered
numbered-cons n (primary d) ps = refl
numbered-cons n (logical d) ps = refl
numbered-cons n (partition d) ps = by (eqb n d.partition_number)
  where
    by : (t : Bool) → pick t true (is_numbered n ps) ≡ pick (pick t true false) true (is_numbered n ps)
    by true = refl
    by false = refl

none-numbered : (n : ℕ) → is_numbered n [] ≡ false
unfolding is_numbered
none-numbered n = refl

has_all : (o : Order) (n : ℕ) (k : Kept) (ps : List Parsed) → (kept_of o (eqb n) k ps).has_partition ≡ pick k.has_partition true (is_numbered n ps)
unfolding kept_of
has_all o n k [] = rw (none-numbered n) (by k.has_partition)
  where
    by : (h : Bool) → h ≡ pick h true false
    by true = refl
    by false = refl
has_all o n k (p ∷ ps) =
    has_all o n (prevailing o (eqb n) k p) ps ∙ rw (has-next o n k p, numbered-cons n p ps) (by k.has_partition (is_numbered n (p ∷ [])))
  where
    by : (h t : Bool) → pick (pick h true t) true (is_numbered n ps) ≡ pick h true (pick t true (is_numbered n ps))
    by true t = refl
    by false true = refl
    by false false = refl

module _ (how : How) (ps : List Parsed) (n : ℕ) where
  numbered-start : is_there (start_of_number how ps n) ≡ is_numbered n ps
  unfolding start_of_number
  numbered-start = by (kept_of (order_of how) (eqb n) nothing ps).has_partition (kept_of (order_of how) (eqb n) nothing ps).partition_start ∙ has_all (order_of how) n nothing ps
    where
      by : (h : Bool) (s : ℕ) → is_there (pick h (Some s) None) ≡ h
      by true s = refl
      by false s = refl

  -- where no start is found for a number, no partition descriptor of the sequence has it
  pub started_none : start_of_number how ps n ≡ None → is_numbered n ps ≡ false
  started_none e = sym numbered-start ∙ ap is_there e

  -- and where none has it, none is found
  pub unnumbered-none : is_numbered n ps ≡ false → start_of_number how ps n ≡ None
  unnumbered-none e = by (start_of_number how ps n) (numbered-start ∙ e)
    where
      by : (o : Option ℕ) → is_there o ≡ false → o ≡ None
      by None h = refl
      by (Some s) h = not-both (sym h)

-- ---- the maps

abbrev other : List ℕ → Bool
other b = not (is_plain_map b)

abbrev unnumbered : List Parsed → List ℕ → Bool
unnumbered ps b = not (is_numbered (number_of_map b) ps)

map-there : (how : How) (ps : List Parsed) (b : List ℕ) → is_there (start_of_map how ps b) ≡ pick (is_plain_map b) (is_numbered (number_of_map b) ps) false
map-there how ps b = by (is_plain_map b)
  where
    by : (t : Bool) → is_there (pick t (start_of_number how ps (number_of_map b)) None) ≡ pick t (is_numbered (number_of_map b) ps) false
    by true = numbered-start how ps (number_of_map b)
    by false = refl

then-there : (o : Option ℕ) (r : Option (List ℕ)) → is_there (start_then o r) ≡ pick (is_there o) (is_there r) false
then-there None r = refl
then-there (Some s) None = refl
then-there (Some s) (Some l) = refl

starts-there : (how : How) (ps : List Parsed) (maps : List ℕ) (i n : ℕ) → is_there (starts_from how ps maps i n) ≡ pick (any_map other maps i n) false (not (any_map (unnumbered ps) maps i n))
unfolding starts_from any_map
starts-there how ps maps i zero = refl
starts-there how ps maps i (suc n) =
    then-there (start_of_map how ps (map_at maps i)) (starts_from how ps maps (i + 1) n)
    ∙ rw (map-there how ps (map_at maps i), starts-there how ps maps (i + 1) n)
    (by (is_plain_map (map_at maps i)) (is_numbered (number_of_map (map_at maps i)) ps) (any_map other maps (i + 1) n) (any_map (unnumbered ps) maps (i + 1) n))
  where
    by : (t u x y : Bool) → pick (pick t u false) (pick x false (not y)) false ≡ pick (pick (not t) true x) false (not (pick (not u) true y))
    by true true x y = refl
    by true false true y = refl
    by true false false y = refl
    by false u x y = refl

-- ---- the mount

module _ (how : How) (ps : List Parsed) (k : Kept) where
  past : (l : List ℕ) → refusal_of (mounted_by how.checked k (Some l)) ≡ pick (leb k.map_count (file_set_ref k)) (Some Unsupported) None
  past l = by (ltb (file_set_ref k) k.map_count) refl
    where
      by : (t : Bool) → ltb (file_set_ref k) k.map_count ≡ t
          → refusal_of (pick t (answered (mount_from_starts how.checked k (each_of k.map_count (λ i. get_or l i 0)))) (refused Unsupported)) ≡ pick (leb k.map_count (file_set_ref k)) (Some Unsupported) None
      by true e = rw (lt-leb k.map_count (file_set_ref k) (ltb-true (file_set_ref k) k.map_count e))
      by false e = rw (le-leb k.map_count (file_set_ref k) (ltb-false (file_set_ref k) k.map_count e))

  mounted-refusal : (o : Option (List ℕ)) → refusal_of (mounted_by how.checked k o) ≡ pick (is_there o) (pick (leb k.map_count (file_set_ref k)) (Some Unsupported) None) (Some Unsupported)
  mounted-refusal None = refl
  mounted-refusal (Some l) = past l

  -- what is refused of the maps is the first of their checks that fails
  pub mapped-refusal : refusal_of (mapped_mount how ps k) ≡ first_of (map_checks ps k)
  unfolding mapped_mount first_of
  mapped-refusal = by (ltb 4 k.map_count) (ltb k.map_table_length (6 * k.map_count)) (ltb 2048 (440 + k.map_table_length))
    where
      x : Bool
      x = any_map other k.maps 0 k.map_count

      y : Bool
      y = any_map (unnumbered ps) k.maps 0 k.map_count

      maps : (x y : Bool) (last : Option Refusal) → pick (pick x false (not y)) last (Some Unsupported) ≡ pick x (Some Unsupported) (pick y (Some Unsupported) last)
      maps true y last = refl
      maps false true last = refl
      maps false false last = refl

      rest : refusal_of (mounted_by how.checked k (map_starts how ps k k.map_count)) ≡ pick x (Some Unsupported) (pick y (Some Unsupported) (pick (leb k.map_count (file_set_ref k)) (Some Unsupported) None))
      rest = mounted-refusal (map_starts how ps k k.map_count) ∙ rw (starts-there how ps k.maps 0 k.map_count) (maps x y (pick (leb k.map_count (file_set_ref k)) (Some Unsupported) None))

      by : (a b c : Bool)
          → refusal_of (pick a (refused Unsupported) (pick b (refused Malformed) (pick c (refused Malformed) (mounted_by how.checked k (map_starts how ps k k.map_count)))))
          ≡ pick a (Some Unsupported) (pick b (Some Malformed) (pick c (Some Malformed) (pick x (Some Unsupported) (pick y (Some Unsupported) (pick (leb k.map_count (file_set_ref k)) (Some Unsupported) None)))))
      by true b c = refl
      by false true c = refl
      by false false true = refl
      by false false false = rest

-- ---- behind the sequence

module _ (how : How) (ps : List Parsed) (k : Kept) (h : how.maps ≡ true) where
  mapped-is : mount_of how ps k ≡ mapped_mount how ps k
  unfolding mount_of
  mapped-is = sym (pick_yes (Outcome Mount) how.maps how.maps (mapped_mount how ps k) _ _ refl h refl)

  stops : {r : Refusal} → first_of (map_checks ps k) ≡ Some r → mount_of how ps k ≡ refused r
  stops {r} e = mapped-is ∙ by (mapped_mount how ps k) (mapped-refusal how ps k ∙ e)
    where
      by : (x : Outcome Mount) → refusal_of x ≡ Some r → x ≡ refused r
      by (answered m) q = absurd (let z : ◌≡◌ {A = ℕ} 0 1 = cc in omega arith)
      by (refused w) q = let z : w ≡ r = cc in rw z

  mounting-refused : {r : Refusal} → first_of (kept_checks k ++ map_checks ps k) ≡ Some r → mounting_of how ps k ≡ refuse r
  unfolding mounting_of first_of then
  mounting-refused {r} = by k.has_primary k.has_partition k.has_logical (eqb k.block_size 2048)
    where
      is : {w : Refusal} → ◌≡◌ {A = Option Refusal} (Some w) (Some r) → ◌≡◌ {A = Ask VolumeRecord} (refuse w) (refuse r)
      is {w} q = let z : w ≡ r = cc in rw z

      by : (t u w x : Bool)
          → pick (not t) (Some NotBluray) (pick (not u) (Some NotBluray) (pick (not w) (Some NotBluray) (pick (not x) (Some Unsupported) (first_of (map_checks ps k))))) ≡ Some r
          → pick t (pick u (pick w (pick x (then (ended (mount_of how ps k)) (file_set_on how.checked k)) (refuse Unsupported)) (refuse NotBluray)) (refuse NotBluray)) (refuse NotBluray) ≡ refuse r
      by true true true true e = rw (stops e)
      by true true true false e = is e
      by true true false x e = is e
      by true false w x e = is e
      by false u w x e = is e

  -- the sector of the file set descriptor
  abbrev at : ℕ
  at = start_or (start_of_number how ps (number_of_map (map_in k (file_set_ref k)))) + k.file_set.location.block

  placed_at : {m : Mount} → mount_of how ps k ≡ answered m → file_set_in m k ≡ Some at
  unfolding placed start_for mapped_start
  placed_at {m} e =
      let w = mapped-mount how ps k h e in
      let mapped : eqb m.maps 0 ≡ false = ne_eqb m.maps 0 (λ z. omega (arith, w.one)) in
      let low : ltb (file_set_ref k) (min m.maps 4) ≡ true = lt-ltb (file_set_ref k) (min m.maps 4) (omega (arith, w.reference, w.few)) in
      let s : start_of_number how ps (number_of_map (map_in k (file_set_ref k))) ≡ Some (get_or m.starts (file_set_ref k) 0) = rw (w.numbered (file_set_ref k) w.reference) at (w.started (file_set_ref k) w.reference) in
      rw (mapped, low, s)

  module _ (d : Disc) where
    ended-asks : (o : Outcome VolumeRecord) → asked d (ended o) ≡ []
    unfolding asked
    ended-asks (answered v) = refl
    ended-asks (refused r) = refl

    reads-once : (m : Mount) (s : ℕ) → asked d (file_set_at how.checked k m s) ≡ s ∷ []
    unfolding asked
    reads-once m s = ap (λ (l : List ℕ). s ∷ l) (by (d s))
      where
        by : (x : Held) → given x (λ b. asked d (ended (volume_in m k (read_file_set how.checked b)))) [] ≡ []
        by (holds b) = ended-asks (volume_in m k (read_file_set how.checked b))
        by lacks = refl

    goes : first_of (map_checks ps k) ≡ None → asked d (then (ended (mount_of how ps k)) (file_set_on how.checked k)) ≡ at ∷ []
    unfolding then
    goes e = by (mount_of how ps k) refl (ap refusal_of mapped-is ∙ mapped-refusal how ps k ∙ e)
      where
        by : (x : Outcome Mount) → mount_of how ps k ≡ x → refusal_of x ≡ None → asked d (then (ended x) (file_set_on how.checked k)) ≡ at ∷ []
        by (answered m) q n = rw (placed_at q) (reads-once m at)
        by (refused w) q n = absurd (let z : ◌≡◌ {A = ℕ} 0 1 = cc in omega arith)

    mounting-asks : first_of (kept_checks k ++ map_checks ps k) ≡ None → asked d (mounting_of how ps k) ≡ at ∷ []
    unfolding mounting_of first_of
    mounting-asks = by k.has_primary k.has_partition k.has_logical (eqb k.block_size 2048)
      where
        not_none : {w : Refusal} {A : Type 0} → ◌≡◌ {A = Option Refusal} (Some w) None → A
        not_none q = absurd (let z : ◌≡◌ {A = ℕ} 0 1 = cc in omega arith)

        by : (t u w x : Bool)
            → pick (not t) (Some NotBluray) (pick (not u) (Some NotBluray) (pick (not w) (Some NotBluray) (pick (not x) (Some Unsupported) (first_of (map_checks ps k))))) ≡ None
            → asked d (pick t (pick u (pick w (pick x (then (ended (mount_of how ps k)) (file_set_on how.checked k)) (refuse Unsupported)) (refuse NotBluray)) (refuse NotBluray)) (refuse NotBluray)) ≡ at ∷ []
        by true true true true e = goes e
        by true true true false e = not_none e
        by true true false x e = not_none e
        by true false w x e = not_none e
        by false u w x e = not_none e

-- ---- the opening

then-outcome : {A B : Type 0} (d : Disc) (m : Ask A) (f : A → Ask B) {a : A} → outcome d m ≡ answered a → outcome d (then m f) ≡ outcome d (f a)
unfolding ran
then-outcome {A} {B} d m f e = ap (λ (r : Ran B). r.outcome) (ran_then d m f) ∙ rw e

module _ (d : Disc) (r : Refusal) where
  refuse-outcome : outcome {A = VolumeRecord} d (refuse r) ≡ refused r
  unfolding outcome
  refuse-outcome = refl

  refuse-asked : asked {A = VolumeRecord} d (refuse r) ≡ []
  unfolding asked
  refuse-asked = refl

module _ (d : Disc) (how : How) (h : how.maps ≡ true) {ps : List Parsed} (e : outcome d (sequence how.checked) ≡ answered ps) where
  abbrev k : Kept
  k = kept_of (order_of how) any_partition nothing ps

  abbrev first : Option Refusal
  first = first_of (mapped_checks how ps)

  -- where a check fails, opening is refused by the first that does, and has asked for the sectors of the sequence alone
  pub mapped-refused : {r : Refusal} → first_of (mapped_checks how ps) ≡ Some r → (outcome d (opening how) ≡ refused r) × (asked d (opening how) ≡ asked d (sequence how.checked))
  mapped-refused {r} q =
      let stop : chosen how ps ≡ refuse r = mounting-refused how ps k h q in (
        ap (outcome d) (opening-is how) ∙ then-outcome d (sequence how.checked) (chosen how) e ∙ ap (outcome d) stop ∙ refuse-outcome d r,
        (scan-same d how).asks ∙ rw e (ap (λ t. asked d (sequence how.checked) ++ asked d t) stop ∙ rw (refuse-asked d r) (append-nil (asked d (sequence how.checked)))),
      )

  -- where none fails, it asks for the file set descriptor's sector besides
  pub mapped-asks : first_of (mapped_checks how ps) ≡ None → asked d (opening how) ≡ asked d (sequence how.checked) ++ file_set_sector how ps ∷ []
  mapped-asks q = (scan-same d how).asks ∙ rw e (ap (λ l. asked d (sequence how.checked) ++ l) (mounting-asks how ps k h d q))

  -- so a refusal that comes before that sector is asked for is that of the first check that fails
  pub mapped-only : {r : Refusal} → outcome d (opening how) ≡ refused r → asked d (opening how) ≡ asked d (sequence how.checked) → first_of (mapped_checks how ps) ≡ Some r
  mapped-only {r} o a = by first refl
    where
      by : (x : Option Refusal) → first ≡ x → x ≡ Some r
      by None q =
          let l = ap length (sym (mapped-asks q) ∙ a) in
          absurd (omega (arith, l, length-append (asked d (sequence how.checked)) (file_set_sector how ps ∷ [])))
      by (Some w) q = let z : refused w ≡ refused r = sym (mapped-refused q).0 ∙ o in cc
