-- The written image on the disc that it is: its directory, its entries and its files, each where the layout has it. Assumes nothing.
use mathlib.Core.Path.{◌≡◌, refl, ap, sym, ◌∙◌}
use mathlib.Core.Bool.{Bool, true, false}
use mathlib.Core.List.{List, [], ◌∷◌, ◌++◌, append_assoc}
use Prim.Native.Nat.{ℕ, suc, ◌+◌, ◌-◌, ◌*◌, ◌≤◌, ◌<◌, ◌^◌}
use native.Mathlib.Omega.{arith}
use lib.ListN.{length, get_or, take, drop, length-append, length-replicate, length-drop}
use lib.Seq.{length-take-le, drop-drop}
use lib.Dec.{eqb, lit<}
use borrow.Author.Tests.{eqb-true, eqb-false}
use Rattle.disc.specs.Choice.{pick}
use Rattle.disc.specs.Ask.Held.{holds}
use Rattle.disc.specs.Ask.Outcome.{answered}
use Rattle.disc.specs.Ran.{Ran, ran}
use Rattle.disc.specs.Images.{disc, sectors_for, held_from}
use Rattle.files.specs.Files.{file_bytes}
use Rattle.volumes.specs.declared.openings.How.{How}
use Rattle.writers.specs.Layout.{summed, blocks_of, total, partition_for, names_size, directory_size, zeros, joined, blanks, sector, sealed, entry_body, root_entry, file_entry, anchor_at, front, directory, directory_part, entries, entries_part, files_part, image}
use Rattle.writers.specs.Refusing.{are_short, sum}
use Rattle.writers.proofs.FileLaws.{blocks-few, short-cons}
use Rattle.writers.proofs.PartLaws.{sizes-few, entries-count, directory-long}
use Rattle.writers.proofs.SealLaws.{sector-long}
use Rattle.writers.proofs.SectorLaws.{Whole, whole_append, whole-blanks, whole_long, sector-at, run_at}
use Rattle.writers.proofs.OpeningLaws.{entry-seal, front-whole, front-count, root-there}
use Rattle.writers.proofs.ReadLaws.{empty-read, file-read}
use Rattle.writers.specs.Vaults.{mount_for, icb_at, Accepted}

-- ---- sums over joined lists

pub summed-append : {A : Type 0} (f : A → ℕ) (a b : List A) → summed f (a ++ b) ≡ summed f a + summed f b
unfolding summed
summed-append f [] b = omega arith
summed-append f (x ∷ a) b = rw (summed-append f a b) (omega arith)

-- ---- entries

entries-whole : (i block : ℕ) (lengths : List ℕ) → i + length lengths ≤ 64 → Whole (entries i block lengths)
unfolding entries Whole
entries-whole i block [] h = tt
entries-whole i block (n ∷ ns) h = (
  sector-long (entry_body 5 0x1084 n (16 + i) (pick (eqb n 0) 0 block)) (entry-seal (16 + i) 5 0x1084 n (16 + i) (pick (eqb n 0) 0 block) (omega arith)),
  entries-whole (i + 1) (block + sectors_for n) ns (omega arith),
)

pub part-whole : (lengths : List ℕ) → length lengths ≤ 64 → Whole (entries_part lengths)
unfolding entries_part
part-whole lengths h = whole_append (entries 0 80 lengths) (blanks (64 - length lengths)) (entries-whole 0 80 lengths (omega arith)) (whole-blanks (64 - length lengths))

pub part_count : (lengths : List ℕ) → length lengths ≤ 64 → length (entries_part lengths) ≡ 64
unfolding entries_part
part_count lengths h = rw (length-append, entries-count 0 80 lengths, length-replicate (64 - length lengths) (zeros 2048)) (omega arith)

entry_at : (i block : ℕ) (before : List ℕ) (n : ℕ) (after : List ℕ) (rest : List (List ℕ))
    → get_or (entries i block (before ++ n ∷ after) ++ rest) (length before) [] ≡ sector (file_entry (i + length before) n (block + blocks_of before))
unfolding entries summed
entry_at i block [] n after rest =
    let z : i + 0 ≡ i = omega arith in
    let y : block + 0 ≡ block = omega arith in
    rw (z, y)
entry_at i block (x ∷ before) n after rest =
    let z : i + 1 + length before ≡ i + suc (length before) = omega arith in
    let y : block + sectors_for x + blocks_of before ≡ block + (sectors_for x + blocks_of before) = omega arith in
    rw (← z, ← y) (entry_at (i + 1) (block + sectors_for x) before n after rest)

-- ---- files

files-split : (before : List ℕ) (n : ℕ) (after staging : List ℕ)
    → files_part (before ++ n ∷ after) staging ≡ files_part before staging ++ (take n (drop (sum before) staging) ++ (zeros (2048 * sectors_for n - n) ++ files_part after (drop n (drop (sum before) staging))))
unfolding files_part summed
files-split [] n after staging = append_assoc (take n staging) (zeros (2048 * sectors_for n - n)) (files_part after (drop n staging))
files-split (x ∷ before) n after staging =
    let rest : List ℕ = take n (drop (x + sum before) staging) ++ (zeros (2048 * sectors_for n - n) ++ files_part after (drop n (drop (x + sum before) staging))) in
    let e : files_part (before ++ n ∷ after) (drop x staging) ≡ files_part before (drop x staging) ++ rest = rw (← drop-drop (sum before) x staging) (files-split before n after (drop x staging)) in
    ap (λ l. (take x staging ++ zeros (2048 * sectors_for x - x)) ++ l) e ∙ sym (append_assoc (take x staging ++ zeros (2048 * sectors_for x - x)) (files_part before (drop x staging)) rest)

files-size : (lengths staging : List ℕ) → sum lengths ≤ length staging → length (files_part lengths staging) ≡ 2048 * blocks_of lengths
unfolding files_part summed
files-size [] staging h = refl
files-size (n ∷ ns) staging h =
    let k : length (take n staging) ≡ n = length-take-le n staging (omega arith) in
    let l : length (files_part ns (drop n staging)) ≡ 2048 * blocks_of ns = files-size ns (drop n staging) (rw length-drop (omega arith)) in
    rw (length-append, length-append, k, length-replicate, l) (omega arith)

short-in : (before : List ℕ) (n : ℕ) (after : List ℕ) → are_short (before ++ n ∷ after) ≡ true → n ≤ 1073739776
short-in [] n after e = (short-cons n after e).0
short-in (x ∷ before) n after e = short-in before n after (short-cons x (before ++ n ∷ after) e).1

-- ---- the image with what stands behind it

module _ (names : List (List ℕ)) (lengths staging more : List ℕ) (h : Accepted names lengths staging) where
  abbrev pub disk : List ℕ
  disk = image names lengths staging ++ more

  abbrev the_front : List (List ℕ)
  the_front = front (partition_for (total lengths)) (length names) (directory_size names)

  abbrev tail : List ℕ
  tail = zeros (2048 * (total lengths - 353 - blocks_of lengths)) ++ (anchor_at (total lengths - 1) ++ more)

  abbrev pub behind_front : List ℕ
  behind_front = directory_part names ++ (joined (entries_part lengths) ++ (files_part lengths staging ++ tail))

  pub disk-front : disk ≡ joined the_front ++ behind_front
  unfolding image
  disk-front = simp append_assoc

  pub disk-entries : disk ≡ (joined the_front ++ directory_part names) ++ (joined (entries_part lengths) ++ (files_part lengths staging ++ tail))
  unfolding image
  disk-entries = simp append_assoc

  disk-files : disk ≡ (joined the_front ++ directory_part names ++ joined (entries_part lengths)) ++ (files_part lengths staging ++ tail)
  unfolding image
  disk-files = simp append_assoc

  pub front_long : length (joined the_front) ≡ 573440
  front_long = whole_long the_front (front-whole (partition_for (total lengths)) (length names) (directory_size names)) ∙ ap (λ n. 2048 * n) (front-count (partition_for (total lengths)) (length names) (directory_size names))

  pub small : names_size names ≤ 10752
  small = omega (arith, sizes-few names h.good, h.few)

  pub few-files : length lengths ≤ 64
  few-files = omega (arith, h.few, h.alike)

  pub few-blocks : blocks_of lengths ≤ 33554368
  few-blocks = omega (arith, blocks-few lengths h.short, few-files)

  pub directory-part-long : length (directory_part names) ≡ 16384
  unfolding directory_part
  directory-part-long = rw (length-append, length-replicate) (omega (arith, directory-long names, small))

  pub entries-part-long : length (joined (entries_part lengths)) ≡ 131072
  entries-part-long = whole_long (entries_part lengths) (part-whole lengths few-files) ∙ ap (λ n. 2048 * n) (part_count lengths few-files)

  -- ---- the root

  directory-there : take (directory_size names) (drop (2048 * 280) disk) ≡ directory names
  unfolding directory_part
  directory-there =
      let rest : List ℕ = zeros (16384 - directory_size names) ++ (joined (entries_part lengths) ++ (files_part lengths staging ++ tail)) in
      let e : disk ≡ joined the_front ++ (directory names ++ rest) = disk-front ∙ ap (λ l. joined the_front ++ l) (append_assoc (directory names) (zeros (16384 - directory_size names)) _) in
      let q : take (length (directory names)) (drop (2048 * 280) (joined the_front ++ (directory names ++ rest))) ≡ directory names = run_at (joined the_front) (directory names) rest 280 front_long in
      rw e (rw directory-long at q)

  root-room : sectors_for (directory_size names) ≤ held_from disk 280
  root-room =
      let l : length disk ≡ length (joined the_front) + (length (directory_part names) + length (joined (entries_part lengths) ++ (files_part lengths staging ++ tail))) = ap length disk-front ∙ length-append (joined the_front) behind_front ∙ ap (λ j. length (joined the_front) + j) (length-append (directory_part names) _) in
      omega (arith, l, front_long, directory-part-long, small)

  pub root-runs : (how : How) → ran (disc disk) (file_bytes (mount_for how) (icb_at 2)) ≡ record { outcome = answered (directory names); count = 1 + sectors_for (directory_size names) }
  root-runs how =
      let there : disc disk 274 ≡ holds (sector (root_entry (directory_size names))) = rw disk-front (root-there (partition_for (total lengths)) (length names) (directory_size names) behind_front) in
      file-read 2 4 0x14a5 (directory_size names) 0 8 (lit< tt) how disk there (omega (arith, small)) (lit< tt) (λ z. omega arith) root-room
      ∙ ap (λ b. record { outcome = answered b; count = 1 + sectors_for (directory_size names) }) directory-there

  -- ---- a file

  module _ (before : List ℕ) (n : ℕ) (after : List ℕ) (e : lengths ≡ before ++ n ∷ after) where
    abbrev at : ℕ
    at = 80 + blocks_of before

    count : length lengths ≡ length before + suc (length after)
    count = ap length e ∙ length-append before (n ∷ after)

    pub blocks : blocks_of lengths ≡ blocks_of before + (sectors_for n + blocks_of after)
    unfolding summed
    blocks = ap blocks_of e ∙ summed-append sectors_for before (n ∷ after)

    bytes : sum lengths ≡ sum before + (n + sum after)
    unfolding summed
    bytes = ap sum e ∙ summed-append (λ m. m) before (n ∷ after)

    pub entry-there : disc disk (272 + (16 + length before)) ≡ holds (sector (file_entry (length before) n at))
    unfolding entries_part
    entry-there =
        let i : ℕ = length before in
        let z : 272 + (16 + i) ≡ 288 + i = omega arith in
        let y : 0 + i ≡ i = omega arith in
        let k : i < length (entries_part lengths) = omega (arith, part_count lengths few-files, count, few-files) in
        let p : length (joined the_front ++ directory_part names) ≡ 2048 * 288 = length-append (joined the_front) (directory_part names) ∙ rw (front_long, directory-part-long) in
        let g : get_or (entries_part lengths) i [] ≡ sector (file_entry (0 + i) n at) = rw e (entry_at 0 80 before n after (blanks (64 - length (before ++ n ∷ after)))) in
        rw (z, disk-entries) (sector-at (joined the_front ++ directory_part names) 288 p (entries_part lengths) (files_part lengths staging ++ tail) (part-whole lengths few-files) i k ∙ ap holds (rw y at g))

    abbrev content : List ℕ
    content = take n (drop (sum before) staging)

    content-long : length content ≡ n
    content-long = length-take-le n (drop (sum before) staging) (rw length-drop (omega (arith, bytes, h.staged)))

    abbrev ahead : List ℕ
    ahead = (joined the_front ++ directory_part names ++ joined (entries_part lengths)) ++ files_part before staging

    abbrev rest : List ℕ
    rest = zeros (2048 * sectors_for n - n) ++ files_part after (drop n (drop (sum before) staging)) ++ tail

    disk-file : disk ≡ ahead ++ (content ++ rest)
    disk-file = disk-files ∙ rw (e, files-split before n after staging) (simp append_assoc)

    ahead-long : length ahead ≡ 2048 * (272 + at)
    ahead-long =
        let l : length (joined the_front ++ directory_part names ++ joined (entries_part lengths)) ≡ 573440 + 16384 + 131072 = rw (length-append, length-append, front_long, directory-part-long, entries-part-long) in
        length-append (joined the_front ++ directory_part names ++ joined (entries_part lengths)) (files_part before staging) ∙ rw (l, files-size before staging (omega (arith, bytes, h.staged))) (omega arith)

    content-there : take n (drop (2048 * (272 + at)) disk) ≡ content
    content-there =
        let q : take (length content) (drop (2048 * (272 + at)) (ahead ++ (content ++ rest))) ≡ content = run_at ahead content rest (272 + at) ahead-long in
        rw disk-file (rw content-long at q)

    file-room : sectors_for n ≤ held_from disk (272 + at)
    file-room =
        let l : length disk ≡ length ahead + (length content + length rest) = ap length disk-file ∙ length-append ahead (content ++ rest) ∙ ap (λ j. length ahead + j) (length-append content rest) in
        let r : 2048 * sectors_for n - n ≤ length rest = rw (length-append, length-append, length-replicate) (omega arith) in
        omega (arith, l, ahead-long, content-long, r)

    pub short : n < 2 ^ 30
    short = omega (arith, short-in before n after (ap are_short (sym e) ∙ h.short))

    pub near : 16 + length before < 2 ^ 32
    near = omega (arith, count, few-files)

    none : n ≡ 0 → ◌≡◌ {A = Ran (List ℕ)} (record { outcome = answered []; count = 1 }) (record { outcome = answered content; count = 1 + sectors_for n })
    none z = rw z refl

    -- the entry in block 16 + i leads to the file's bytes, empty files too
    pub file-runs : (how : How) → ran (disc disk) (file_bytes (mount_for how) (icb_at (16 + length before))) ≡ record { outcome = answered content; count = 1 + sectors_for n }
    file-runs how = by (eqb n 0) refl
      where
        by : (t : Bool) → eqb n 0 ≡ t → ran (disc disk) (file_bytes (mount_for how) (icb_at (16 + length before))) ≡ record { outcome = answered content; count = 1 + sectors_for n }
        by true f =
            let z : n ≡ 0 = eqb-true n 0 f in
            empty-read (16 + length before) 5 0x1084 n (16 + length before) (pick (eqb n 0) 0 at) near how disk entry-there (rw f (lit< tt)) z ∙ none z
        by false f =
            let there : disc disk (272 + (16 + length before)) ≡ holds (sector (sealed 261 (16 + length before) (entry_body 5 0x1084 n (16 + length before) at))) = rw f at entry-there in
            file-read (16 + length before) 5 0x1084 n (16 + length before) at near how disk there short (omega (arith, blocks, few-blocks)) (eqb-false n 0 f) file-room
            ∙ ap (λ b. record { outcome = answered b; count = 1 + sectors_for n }) content-there
