-- Laws of opening: how the descriptors that were kept lead to a volume, and how the scan and what follows it are one call.
-- Assumes nothing.
use Rattle.std.specs.Prelude.{Option, Some, None, Result, Ok, Err}
use mathlib.Core.Path.{◌≡◌, refl, ap, sym, ◌∙◌}
use mathlib.Core.Bool.{Bool, true, false}
use mathlib.Core.List.{List, ◌∷◌}
use Prim.Native.Nat.{ℕ, zero, suc, ◌+◌, ◌-◌, ◌*◌, ◌/◌, ◌<◌, ◌≤◌, ◌^◌}
use native.Mathlib.Omega.{arith}
use lib.ListN.{length}
use lib.Dec.{eqb}
use Rattle.disc.specs.Choice.{pick}
use Rattle.disc.specs.Refusals.{number}
use Rattle.disc.specs.Counts.{reported}
use Rattle.disc.specs.Replies.{returned}
use Rattle.disc.specs.Ask.{Held, Disc, Ask, Outcome, bytes_in, then, ended}
use Rattle.disc.specs.Ask.Ask.{done, refuse, ask}
use Rattle.disc.specs.Ask.Held.{holds, lacks}
use Rattle.disc.specs.Ask.Outcome.{answered, refused}
use Rattle.disc.specs.Ran.{Ran, ran, after, onward}
use Rattle.disc.specs.Images.{disc, held_from}
use Rattle.disc.specs.Places.{standing, BlockStands}
use Rattle.disc.specs.declared.places.Mount.{Mount}
use Rattle.disc.specs.declared.places.Sector.{Sector}
use Rattle.disc.specs.declared.refusals.Refusal.{Refusal}
use Rattle.disc.specs.declared.refusals.Refusal.TheVariants.{NotBluray, Unsupported}
use Rattle.disc.proofs.PlaceLaws.{stands-nowhere}
use Rattle.disc.proofs.RanLaws.{ran-done, ran-refuse, ran-there, ran-missing, ran_then, ran-ended}
use Rattle.disc.proofs.ImageLaws.{held, missing}
use Rattle.descriptors.specs.Volumes.{read_anchor}
use Rattle.descriptors.specs.FileSets.{read_file_set}
use Rattle.descriptors.specs.declared.anchors.AnchorVolumeDescriptorPointer.{AnchorVolumeDescriptorPointer}
use Rattle.volumes.specs.Sequences.{nothing, Parsed, order_of, any_partition, kept_of, Says, says_in, go_on, scan, scanned_by, scanned_of}
use Rattle.volumes.specs.Sequences.Says.{found, passed, over, fails}
use Rattle.volumes.specs.Openings.{no_volume, file_set_ref, mount_of, file_set_in, volume_in, file_set_at, file_set_on, mounting_of, mounting, anchored, opening, opened_by, opened_of}
use Rattle.volumes.specs.Inner.Steps.{mountable, mount_behind, parsed_in, scanned_in}
use Rattle.volumes.specs.declared.sequences.Kept.{Kept}
use Rattle.volumes.specs.declared.sequences.Scanned.{Scanned}
use Rattle.volumes.specs.declared.openings.VolumeRecord.{VolumeRecord}
use Rattle.volumes.specs.declared.openings.Opened.{Opened}
use Rattle.volumes.specs.declared.openings.How.{How}
use Rattle.volumes.specs.Made.{main_length_in}

-- ---- the sector of the file set descriptor

-- the file set descriptor in a sector
module _ (check : Bool) (image : List ℕ) (k : Kept) (v : Mount) (n : ℕ) (few : n < 2 ^ 32) (s : ℕ) {m : ℕ} (g : m ≡ held_from image s) where
  pub set-gone : {o : Opened} → m ≡ 0 → o ≡ record { answer = 1; count = n + 1; volume = no_volume } → o ≡ opened_of (after n (ran (disc image) (file_set_at check k v s)))
  set-gone z q =
      let c : reported (n + 1) ≡ n + 1 = omega arith in
      rw (ran-missing (disc image) s _ (missing image s (gone (length image) s g z)), c) q
    where
      gone : (l a : ℕ) → m ≡ l / 2048 - a → m ≡ 0 → l < 2048 * a + 2048
      gone l a u w = omega arith

  pub set_there : {b : List ℕ} {o : Opened}
      → (m ≡ 0 → ⊥)
      → b ≡ bytes_in (disc image s)
      → o ≡ opened_by (n + 1) (volume_in v k (read_file_set check b))
      → o ≡ opened_of (after n (ran (disc image) (file_set_at check k v s)))
  set_there {b} z u q =
      let p = held image s (there (length image) s g) in
      let w : disc image s ≡ holds b = p ∙ ap holds (sym (u ∙ rw p)) in
      let c : reported (n + (1 + 0)) ≡ n + 1 = omega arith in
      rw (ran-there (disc image) s _ b w, ran-ended (disc image) (volume_in v k (read_file_set check b)), c) q
    where
      there : (l a : ℕ) → m ≡ l / 2048 - a → 2048 * a + 2048 ≤ l
      there l a u = omega (arith, z)

-- a call that is refused after n sectors
refused-after : (d : Disc) {x : Ask VolumeRecord} (r : Refusal) (n : ℕ) {a : ℕ} {o : Opened}
    → x ≡ refuse r
    → a ≡ number r
    → n < 2 ^ 32
    → o ≡ record { answer = a; count = n; volume = no_volume }
    → o ≡ opened_of (after n (ran d x))
refused-after d r n e q h k =
    let c : reported (n + 0) ≡ n = omega arith in
    rw (e, ran-refuse d r, c, ← q) k

-- where the file set descriptor stands
module _ (check : Bool) (image : List ℕ) (k : Kept) (m : Mount) (n : ℕ) {p : Option Sector} (q : BlockStands m (Some (file_set_ref k)) k.file_set.location.block p) where
  pub mount-nowhere : n < 2 ^ 32 → p ≡ None → {o : Opened} → o ≡ record { answer = 4; count = n; volume = no_volume } → o ≡ opened_of (after n (ran (disc image) (file_set_on check k m)))
  mount-nowhere few z g = refused-after (disc image) Unsupported n (rw (stands-nowhere m (Some (file_set_ref k)) k.file_set.location.block q z)) refl few g

-- ---- what was kept, and what follows it

-- behind the mount that what was kept leads to
abbrev pub mounted_by : How → Kept → Result Mount Refusal → Ask VolumeRecord
mounted_by how k (Ok m) = file_set_on how.checked k m
mounted_by how k (Err r) = refuse r

mounts : (how : How) (ps : List Parsed) (k : Kept) → mounting_of how ps k ≡ mounted_by how k (mount_behind (mountable k) (returned (mount_of how ps k)))
unfolding mounting_of mountable then
mounts how ps k = by k.has_primary k.has_partition k.has_logical (eqb k.block_size 2048) (mount_of how ps k)
  where
    by : (a b c e : Bool) (x : Outcome Mount)
        → pick a
        (pick b
        (pick c (pick e (then (ended x) (file_set_on how.checked k)) (refuse Unsupported)) (refuse NotBluray))
        (refuse NotBluray))
        (refuse NotBluray)
        ≡ mounted_by how k (mount_behind (pick a (pick b (pick c (pick e (Ok tt) (Err Unsupported)) (Err NotBluray)) (Err NotBluray)) (Err NotBluray)) (returned x))
    by false b c e x = refl
    by true false c e x = refl
    by true true false e x = refl
    by true true true false x = refl
    by true true true true (answered m) = refl
    by true true true true (refused r) = refl

-- the returns of `open_kept`
module _ (image : List ℕ) (how : How) (k : Kept) (first l n : ℕ) {r : Result Mount Refusal} (e : r ≡ mount_behind (mountable k) (returned (mount_of how (scanned_in image how first l) k))) where
  mount-told : {x : Result Mount Refusal} → r ≡ x → mounting_of how (scanned_in image how first l) k ≡ mounted_by how k x
  mount-told h = mounts how (scanned_in image how first l) k ∙ ap (mounted_by how k) (sym e ∙ h)

  pub mount-refused : {why : Refusal} {a : ℕ} {o : Opened} → r ≡ Err why → a ≡ number why → n < 2 ^ 32 → o ≡ record { answer = a; count = n; volume = no_volume }
      → o ≡ opened_of (after n (ran (disc image) (mounting_of how (scanned_in image how first l) k)))
  mount-refused {why} h m few q = refused-after (disc image) why n (mount-told h) m few q

  pub mount-leads : {m : Mount} {o : Opened} → r ≡ Ok m → o ≡ opened_of (after n (ran (disc image) (file_set_on how.checked k m)))
      → o ≡ opened_of (after n (ran (disc image) (mounting_of how (scanned_in image how first l) k)))
  mount-leads h q = q ∙ ap (λ (x : Ask VolumeRecord). opened_of (after n (ran (disc image) x))) (sym (mount-told h))

-- ---- a scan asks for no more sectors than it was given

-- one question, and what follows it
pub ask-count : {A : Type 0} (d : Disc) (s : ℕ) (k : List ℕ → Ask A) (n : ℕ) → ((b : List ℕ) → d s ≡ holds b → (ran d (k b)).count ≤ n) → (ran d (ask s k)).count ≤ suc n
ask-count d s k n h = by (d s) refl
  where
    by : (x : Held) → d s ≡ x → (ran d (ask s k)).count ≤ suc n
    by (holds b) e = let m = h b e in rw (ran-there d s k b e) (omega arith)
    by lacks e = rw (ran-missing d s k e) (omega arith)

scan-turn : (d : Disc) (n : ℕ) (x : Says) (rest : Ask (List Parsed)) → (ran d rest).count ≤ n → (ran d (go_on x rest)).count ≤ n
scan-turn d n (found p) rest h = rw ran_then (by (ran d rest).outcome (ran d rest).count h)
  where
    by : (o : Outcome (List Parsed)) (c : ℕ) → c ≤ n → (onward o c (λ ps. ran d (done (p ∷ ps)))).count ≤ n
    by (answered ps) c l = rw ran-done (omega arith)
    by (refused r) c l = l
scan-turn d n passed rest h = h
scan-turn d n over rest h = rw ran-done (omega arith)
scan-turn d n (fails r) rest h = rw ran-refuse (omega arith)

pub scan-count : (check : Bool) (d : Disc) (n at : ℕ) → (ran d (scan check n at)).count ≤ n
unfolding scan
scan-count check d zero at = rw ran-done (omega arith)
scan-count check d (suc n) at = ask-count d at _ n (λ b e. scan-turn d n (says_in check b) (scan check n (at + 1)) (scan-count check d n (at + 1)))

-- one call behind another
then-count : (d : Disc) (how : How) (m : Ask (List Parsed)) (n : ℕ) → (ran d m).count ≤ n → ((ps : List Parsed) → (ran d (mounting how ps)).count ≤ 1) → (ran d (then m (mounting how))).count ≤ 1 + n
then-count d how m n h g = rw (ran_then d m (mounting how)) (by (ran d m).outcome (ran d m).count h)
  where
    by : (o : Outcome (List Parsed)) (c : ℕ) → c ≤ n → (onward o c (λ ps. ran d (mounting how ps))).count ≤ 1 + n
    by (answered ps) c h = let z = g ps in omega arith
    by (refused r) c h = omega arith

mount-count : (d : Disc) (how : How) (ps : List Parsed) (k : Kept) → (ran d (mounting_of how ps k)).count ≤ 1
mount-count d how ps k = rw (mounts how ps k) (by (mount_behind (mountable k) (returned (mount_of how ps k))))
  where
    set : (m : Mount) (s : ℕ) → (ran d (file_set_at how.checked k m s)).count ≤ 1
    set m s = ask-count d s (λ b. ended (volume_in m k (read_file_set how.checked b))) 0 (λ b (u : d s ≡ holds b). rw (ran-ended d (volume_in m k (read_file_set how.checked b))) (omega arith))

    on : (m : Mount) (x : Option ℕ) → (ran d (standing x (file_set_at how.checked k m))).count ≤ 1
    on m None = rw (ran-refuse {A = VolumeRecord} d Unsupported) (omega arith)
    on m (Some s) = set m s

    by : (x : Result Mount Refusal) → (ran d (mounted_by how k x)).count ≤ 1
    by (Ok m) = on m (file_set_in m k)
    by (Err r) = rw (ran-refuse {A = VolumeRecord} d r) (omega arith)

-- as the code reports it
scanned-count : (how : How) (r : Ran (List Parsed)) → (scanned_of (order_of how) any_partition nothing r).count ≡ r.count
scanned-count how r = by r.outcome
  where
    by : (o : Outcome (List Parsed)) → (scanned_by (order_of how) any_partition nothing o r.count).count ≡ r.count
    by (answered k) = refl
    by (refused w) = refl

-- the main sequence has a length of 32 bits, so a count has room for the anchor's sector and the file set descriptor's
module _ (d : Disc) (how : How) (l at : ℕ) {s : Scanned} (h : l < 2 ^ 32) (e : s ≡ scanned_of (order_of how) any_partition nothing (ran d (scan how.checked (l / 2048) at))) where
  scan-within : s.count ≤ l / 2048
  scan-within =
      let c : s.count ≡ (ran d (scan how.checked (l / 2048) at)).count = rw e (scanned-count how (ran d (scan how.checked (l / 2048) at))) in
      rw c (scan-count how.checked d (l / 2048) at)

  pub scan-few : s.count + 1 < 2 ^ 32
  scan-few = let m = scan-within in omega arith

  pub scan-fits : s.count + 1 < 2 ^ 64
  scan-fits = let m = scan-within in omega arith

-- ---- behind the anchor

pub anchor-not : (image : List ℕ) (how : How) {x : Result AnchorVolumeDescriptorPointer Refusal} {why : Refusal} {n : ℕ} {o : Opened}
    → x ≡ Err why
    → n ≡ number why
    → o ≡ record { answer = n; count = 1; volume = no_volume }
    → o ≡ opened_of (after 1 (ran (disc image) (anchored how x)))
anchor-not image how {x} {why} e q k = refused-after (disc image) why 1 (rw e) q (omega arith) k

-- a scan, and what follows it, after one sector
module _ (d : Disc) (how : How) {s : Scanned} {o : Opened} where
  scan-refuses : (r : Ran (List Parsed)) {why : Refusal} {a : ℕ} → s ≡ scanned_of (order_of how) any_partition nothing r → s.kept ≡ Err why → a ≡ number why → s.count + 1 < 2 ^ 32
      → o ≡ record { answer = a; count = s.count + 1; volume = no_volume }
      → o ≡ opened_of (after 1 (onward r.outcome r.count (λ ps. ran d (mounting how ps))))
  scan-refuses r {why} {a} = by r.outcome r.count
    where
      by : (x : Outcome (List Parsed)) (n : ℕ) → s ≡ scanned_by (order_of how) any_partition nothing x n → s.kept ≡ Err why → a ≡ number why → s.count + 1 < 2 ^ 32
          → o ≡ record { answer = a; count = s.count + 1; volume = no_volume }
          → o ≡ opened_of (after 1 (onward x n (λ ps. ran d (mounting how ps))))
      by (answered k) n e h w m q = absurd (let z : Ok (kept_of (order_of how) any_partition nothing k) ≡ Err why = sym (ap (λ (z : Scanned). z.kept) e) ∙ h in cc)
      by (refused r) n e h w m q =
          let g : Err r ≡ Err why = sym (ap (λ (z : Scanned). z.kept) e) ∙ h in
          let y : r ≡ why = cc in
          let b : s.count ≡ n = ap (λ (z : Scanned). z.count) e in
          let c : reported (1 + n) ≡ s.count + 1 = omega arith in
          rw (c, y, ← w) q

  scan-mounts : (r : Ran (List Parsed)) {k : Kept} → s ≡ scanned_of (order_of how) any_partition nothing r → s.kept ≡ Ok k
      → o ≡ opened_of (after (s.count + 1) (ran d (mounting_of how (parsed_in r.outcome) k)))
      → o ≡ opened_of (after 1 (onward r.outcome r.count (λ ps. ran d (mounting how ps))))
  scan-mounts r {k} = by r.outcome r.count
    where
      by : (x : Outcome (List Parsed)) (n : ℕ) → s ≡ scanned_by (order_of how) any_partition nothing x n → s.kept ≡ Ok k
          → o ≡ opened_of (after (s.count + 1) (ran d (mounting_of how (parsed_in x) k)))
          → o ≡ opened_of (after 1 (onward x n (λ ps. ran d (mounting how ps))))
      by (answered ps) n e h q =
          let g : Ok k ≡ Ok (kept_of (order_of how) any_partition nothing ps) = sym h ∙ ap (λ (z : Scanned). z.kept) e in
          let a : k ≡ kept_of (order_of how) any_partition nothing ps = cc in
          let b : s.count ≡ n = ap (λ (z : Scanned). z.count) e in
          let c : 1 + (n + (ran d (mounting how ps)).count) ≡ s.count + 1 + (ran d (mounting how ps)).count = omega arith in
          rw c (rw a at q)
      by (refused w) n e h q = absurd (let z : Ok k ≡ Err w = sym h ∙ ap (λ (z : Scanned). z.kept) e in cc)

-- the main sequence
abbrev main_scan : Bool → AnchorVolumeDescriptorPointer → Ask (List Parsed)
main_scan check a = scan check (a.main_volume_descriptor_sequence.length / 2048) a.main_volume_descriptor_sequence.location

module _ (image : List ℕ) (how : How) {x : Result AnchorVolumeDescriptorPointer Refusal} {a : AnchorVolumeDescriptorPointer} (e : x ≡ Ok a)
    {s : Scanned} (f : s ≡ scanned_of (order_of how) any_partition nothing (ran (disc image) (main_scan how.checked a))) {o : Opened} where
  pub anchor-stops : {why : Refusal} {c : ℕ} → a.main_volume_descriptor_sequence.length < 2 ^ 32
      → s.kept ≡ Err why
      → c ≡ number why
      → o ≡ record { answer = c; count = s.count + 1; volume = no_volume }
      → o ≡ opened_of (after 1 (ran (disc image) (anchored how x)))
  anchor-stops few h w q =
      let m = scan-few (disc image) how a.main_volume_descriptor_sequence.length a.main_volume_descriptor_sequence.location few f in
      rw (e, ran_then (disc image) (main_scan how.checked a) (mounting how)) (scan-refuses (disc image) how (ran (disc image) (main_scan how.checked a)) f h w m q)

  pub anchor-leads : {k : Kept} → s.kept ≡ Ok k
      → o ≡ opened_of (after (s.count + 1) (ran (disc image) (mounting_of how (scanned_in image how a.main_volume_descriptor_sequence.location (a.main_volume_descriptor_sequence.length / 2048)) k)))
      → o ≡ opened_of (after 1 (ran (disc image) (anchored how x)))
  unfolding scanned_in
  anchor-leads h q = rw (e, ran_then (disc image) (main_scan how.checked a) (mounting how)) (scan-mounts (disc image) how (ran (disc image) (main_scan how.checked a)) f h q)

-- ---- the whole call

module _ (image : List ℕ) (how : How) {m : ℕ} (g : m ≡ held_from image 256) where
  pub opening-gone : {o : Opened} → m ≡ 0 → o ≡ record { answer = 1; count = 1; volume = no_volume } → o ≡ opened_of (ran (disc image) (opening how))
  unfolding opening
  opening-gone z q = rw (ran-missing (disc image) 256 (λ b. anchored how (read_anchor how.checked b)) (missing image 256 (gone (length image) g))) q
    where
      gone : (l : ℕ) → m ≡ l / 2048 - 256 → l < 2048 * 256 + 2048
      gone l u = omega arith

  pub opening-there : {b : List ℕ} {x : Result AnchorVolumeDescriptorPointer Refusal} {o : Opened}
      → (m ≡ 0 → ⊥)
      → b ≡ bytes_in (disc image 256)
      → x ≡ read_anchor how.checked b
      → o ≡ opened_of (after 1 (ran (disc image) (anchored how x)))
      → o ≡ opened_of (ran (disc image) (opening how))
  unfolding opening
  opening-there {b} {x} z u f q =
      let p = held image 256 (there (length image) g) in
      let v : disc image 256 ≡ holds b = p ∙ ap holds (sym (u ∙ rw p)) in
      rw (ran-there (disc image) 256 (λ b. anchored how (read_anchor how.checked b)) b v, ← f) q
    where
      there : (l : ℕ) → m ≡ l / 2048 - 256 → 2048 * 256 + 2048 ≤ l
      there l u = omega (arith, z)

-- ---- how many sectors

pub anchored-count : (d : Disc) (how : How) (x : Result AnchorVolumeDescriptorPointer Refusal) → (ran d (anchored how x)).count ≤ 1 + main_length_in x / 2048
anchored-count d how (Ok a) =
    then-count d how (main_scan how.checked a) (a.main_volume_descriptor_sequence.length / 2048) (scan-count how.checked d _ _) (λ ps. mount-count d how ps (kept_of (order_of how) any_partition nothing ps))
anchored-count d how (Err r) = rw (ran-refuse {A = VolumeRecord} d r) (omega arith)
