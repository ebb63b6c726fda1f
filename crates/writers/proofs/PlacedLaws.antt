-- Every tag of the image is in place by the reader's place check. Assumes nothing.
use Rattle.std.specs.Prelude.{Result, Ok, Err}
use mathlib.Core.Path.{◌≡◌, refl, ap, sym, ◌∙◌}
use mathlib.Core.Bool.{true}
use mathlib.Core.List.{List, [], ◌∷◌, ◌++◌, append-nil, append_assoc}
use Prim.Native.Nat.{ℕ, zero, suc, ◌+◌, ◌-◌, ◌*◌, ◌/◌, ◌≤◌, ◌<◌, ◌^◌}
use native.Mathlib.Omega.{arith}
use lib.ListN.{length, get_or, drop, length-append, length-replicate}
use lib.Seq.{drop_at}
use lib.Dec.{eqb, lit<, lit≤}
use Rattle.disc.specs.Choice.{pick}
use Rattle.disc.specs.Ask.Held.{holds}
use Rattle.disc.specs.Images.{disc, sectors_for}
use Rattle.disc.specs.declared.refusals.Refusal.{Refusal}
use Rattle.disc.specs.declared.refusals.Refusal.TheVariants.{Malformed}
use Rattle.tags.specs.Tags.{read_tag, in_place}
use Rattle.tags.specs.declared.DescriptorTag.{DescriptorTag}
use Rattle.writers.specs.Layout.{summed, blocks_of, total, partition_for, identifier_size, names_size, directory_size, identifiers, directory, zeros, recognition, recognitions, joined, blanks, directory_part, sector, tag_for, sealed, primary_body, info_body, partition_body, logical_body, unallocated_body, terminating_body, integrity_body, anchor_body, file_set_body, entry_body, identifier_body, identifier_at, recognition_part, sequence, integrity_part, root_part, front, anchor_at, entries, entries_part, files_part, image}
use Rattle.writers.proofs.SealLaws.{Seal, sector-long, tag_read, volume-placed, partition-placed}
use Rattle.writers.proofs.SectorLaws.{Whole, sector-at}
use Rattle.writers.proofs.OpeningLaws.{primary-seal, info-seal, partition-seal, logical-seal, unallocated-seal, terminating-seal, integrity-seal, anchor-seal, file-set-seal, entry-seal, front-count, at_front}
use Rattle.writers.proofs.DirectoryLaws.{identifier-seal}
use Rattle.writers.proofs.FileLaws.{files-long}
use Rattle.writers.proofs.PourLaws.{sealed-long}
use Rattle.writers.proofs.PartLaws.{good-cons, identifiers-long}
use Rattle.writers.specs.Refusing.{are_good}
use Rattle.writers.proofs.ImageLaws.{summed-append, small, disk-front, disk-entries, behind_front, part-whole, part_count, front_long, directory-part-long, entries-part-long, few-files, few-blocks}
use Rattle.writers.specs.Vaults.{Accepted, Placed}

no-tag : (n : ℕ) (s : List ℕ) {why : Refusal} → read_tag s ≡ Err why → Placed n s
no-tag n s e t q = absurd (let z : ◌≡◌ {A = ℕ} 0 1 = cc in omega arith)

sector-tag : {id location : ℕ} (body : List ℕ) → Seal id location body → read_tag (sector (sealed id location body)) ≡ Ok (tag_for id location body)
unfolding sector
sector-tag {id} {location} body h = tag_read body h (zeros (2048 - length (sealed id location body)))

pub volume-sector : {id location : ℕ} (body : List ℕ) → Seal id location body → 1 ≤ id → id ≤ 9 → (n : ℕ) → n ≡ location → Placed n (sector (sealed id location body))
volume-sector {id} {location} body h k l n e t q =
    let w : tag_for id location body ≡ t = same (sym (sector-tag body h) ∙ q) in
    rw (← w, e) (volume-placed body h k l (location - 272))
  where
    same : {a b : DescriptorTag} → ◌≡◌ {A = Result DescriptorTag Refusal} (Ok a) (Ok b) → a ≡ b
    same f = cc

pub partition-sector : {id location : ℕ} (body : List ℕ) → Seal id location body → 256 ≤ id → id ≤ 266 → (n : ℕ) → n - 272 ≡ location → Placed n (sector (sealed id location body))
partition-sector {id} {location} body h k l n e t q =
    let w : tag_for id location body ≡ t = same (sym (sector-tag body h) ∙ q) in
    rw (← w, e) (partition-placed body h k l n)
  where
    same : {a b : DescriptorTag} → ◌≡◌ {A = Result DescriptorTag Refusal} (Ok a) (Ok b) → a ≡ b
    same f = cc

-- ---- sectors one behind another

unfoldable pub AllPlaced : ℕ → List (List ℕ) → Type 0
AllPlaced n [] = Unit {0}
AllPlaced n (s ∷ ss) = Placed n s × AllPlaced (n + 1) ss

all_append : (n : ℕ) (ss ts : List (List ℕ)) (m : ℕ) → m ≡ n + length ss → AllPlaced n ss → AllPlaced m ts → AllPlaced n (ss ++ ts)
unfolding AllPlaced
all_append n [] ts m e h k = let z : m ≡ n = omega arith in rw z at k
all_append n (s ∷ ss) ts m e h k = (h.0, all_append (n + 1) ss ts m (omega arith) h.1 k)

all-blanks : (n k : ℕ) → AllPlaced n (blanks k)
unfolding AllPlaced
all-blanks n zero = tt
all-blanks n (suc k) = (no-tag n (zeros 2048) refl, all-blanks (n + 1) k)

all-at : (n : ℕ) (ss : List (List ℕ)) → AllPlaced n ss → (i : ℕ) → i < length ss → Placed (n + i) (get_or ss i [])
unfolding AllPlaced
all-at n [] h i k = absurd (omega arith)
all-at n (s ∷ ss) h zero k = let z : n + 0 ≡ n = omega arith in rw z h.0
all-at n (s ∷ ss) h (suc i) k = let z : n + suc i ≡ n + 1 + i = omega arith in rw z (all-at (n + 1) ss h.1 i (omega arith))

-- ---- the front

recognition-placed : AllPlaced 0 recognition_part
unfolding recognition_part AllPlaced sector
recognition-placed =
    all_append 0 (blanks 16 ++ recognitions) (blanks 13) 19 refl
    (all_append 0 (blanks 16) recognitions 16 refl (all-blanks 0 16) (no-tag 16 (recognition 0x42 0x45 0x41 0x30 0x31) {why = Malformed} refl, (no-tag 17 (recognition 0x4e 0x53 0x52 0x30 0x32) {why = Malformed} refl, (no-tag 18 (recognition 0x54 0x45 0x41 0x30 0x31) {why = Malformed} refl, tt))))
    (all-blanks 19 13)

sequence-placed : (at size : ℕ) → at + 5 < 2 ^ 32 → AllPlaced at (sequence at size)
unfolding sequence AllPlaced
sequence-placed at size h = (
  volume-sector primary_body (primary-seal at (omega arith)) (lit≤ tt) (lit≤ tt) at refl,
  (
    volume-sector info_body (info-seal (at + 1) (omega arith)) (lit≤ tt) (lit≤ tt) (at + 1) refl,
    (
      volume-sector (partition_body size) (partition-seal (at + 2) size (omega arith)) (lit≤ tt) (lit≤ tt) (at + 1 + 1) (omega arith),
      (
        volume-sector logical_body (logical-seal (at + 3) (omega arith)) (lit≤ tt) (lit≤ tt) (at + 1 + 1 + 1) (omega arith),
        (
          volume-sector unallocated_body (unallocated-seal (at + 4) (omega arith)) (lit≤ tt) (lit≤ tt) (at + 1 + 1 + 1 + 1) (omega arith),
          (
            volume-sector terminating_body (terminating-seal (at + 5) h) (lit≤ tt) (lit≤ tt) (at + 1 + 1 + 1 + 1 + 1) (omega arith),
            all-blanks (at + 1 + 1 + 1 + 1 + 1 + 1) 10,
          ),
        ),
      ),
    ),
  ),
)

integrity-placed : (size files : ℕ) → AllPlaced 64 (integrity_part size files)
unfolding integrity_part AllPlaced anchor_at
integrity-placed size files = (
  volume-sector (integrity_body size files) (integrity-seal size files) (lit≤ tt) (lit≤ tt) 64 refl,
  (
    volume-sector terminating_body (terminating-seal 65 (lit< tt)) (lit≤ tt) (lit≤ tt) 65 refl,
    all_append 66 (blanks 190) (anchor_at 256 ∷ blanks 15) 256 refl (all-blanks 66 190)
        (volume-sector anchor_body (anchor-seal 256 (lit< tt)) (lit≤ tt) (lit≤ tt) 256 refl, all-blanks 257 15),
  ),
)

root-placed : (size : ℕ) → AllPlaced 272 (root_part size)
unfolding root_part AllPlaced
root-placed size = (
  partition-sector file_set_body file-set-seal (lit≤ tt) (lit≤ tt) 272 refl,
  (
    no-tag 273 (zeros 2048) refl,
    (
      partition-sector (entry_body 4 0x14a5 size 0 8) (entry-seal 2 4 0x14a5 size 0 8 (lit< tt)) (lit≤ tt) (lit≤ tt) 274 refl,
      all-blanks 275 5,
    ),
  ),
)

pub front-placed : (size files directory : ℕ) → AllPlaced 0 (front size files directory)
unfolding front recognition_part sequence integrity_part
front-placed size files directory =
    all_append 0 (recognition_part ++ sequence 32 size ++ sequence 48 size ++ integrity_part size files) (root_part directory) 272 refl
    (all_append 0 (recognition_part ++ sequence 32 size ++ sequence 48 size) (integrity_part size files) 64 refl
    (all_append 0 (recognition_part ++ sequence 32 size) (sequence 48 size) 48 refl
    (all_append 0 recognition_part (sequence 32 size) 32 refl recognition-placed (sequence-placed 32 size (lit< tt)))
    (sequence-placed 48 size (lit< tt)))
    (integrity-placed size files))
    (root-placed directory)

-- ---- the entries

entries-placed : (i block : ℕ) (lengths : List ℕ) → i + length lengths ≤ 64 → (n : ℕ) → n ≡ 288 + i → AllPlaced n (entries i block lengths)
unfolding entries AllPlaced
entries-placed i block [] h n e = tt
entries-placed i block (l ∷ ls) h n e = (
  partition-sector (entry_body 5 0x1084 l (16 + i) (pick (eqb l 0) 0 block)) (entry-seal (16 + i) 5 0x1084 l (16 + i) (pick (eqb l 0) 0 block) (omega arith)) (lit≤ tt) (lit≤ tt) n (omega arith),
  entries-placed (i + 1) (block + sectors_for l) ls (omega arith) (n + 1) (omega arith),
)

part_placed : (lengths : List ℕ) → length lengths ≤ 64 → AllPlaced 288 (entries_part lengths)
unfolding entries_part
part_placed lengths h = all_append 288 (entries 0 80 lengths) (blanks (64 - length lengths)) _ refl (entries-placed 0 80 lengths (omega arith) 288 refl) (all-blanks _ (64 - length lengths))

-- ---- the image, with whatever stands behind it

module _ (names : List (List ℕ)) (lengths staging more : List ℕ) (h : Accepted names lengths staging) where
  held_same : {a b : List ℕ} → holds a ≡ holds b → a ≡ b
  held_same e = cc

  -- sectors 0 to 279
  pub vault-front-placed : (s : ℕ) → s < 280 → {b : List ℕ} → disc (image names lengths staging ++ more) s ≡ holds b → Placed s b
  vault-front-placed s k {b} e =
      let size : ℕ = partition_for (total lengths) in
      let at : disc (image names lengths staging ++ more) s ≡ holds (get_or (front size (length names) (directory_size names)) s []) = rw (disk-front names lengths staging more h) (at_front size (length names) (directory_size names) (behind_front names lengths staging more h) s k) in
      let q : get_or (front size (length names) (directory_size names)) s [] ≡ b = held_same (sym at ∙ e) in
      let z : 0 + s ≡ s = omega arith in
      rw (q, z) at (all-at 0 (front size (length names) (directory_size names)) (front-placed size (length names) (directory_size names)) s (rw (front-count size (length names) (directory_size names)) k))

  -- sectors 288 to 351
  pub vault-entries-placed : (i : ℕ) → i < 64 → {b : List ℕ} → disc (image names lengths staging ++ more) (288 + i) ≡ holds b → Placed (288 + i) b
  vault-entries-placed i k {b} e =
      let few : length lengths ≤ 64 = few-files names lengths staging more h in
      let j : i < length (entries_part lengths) = omega (arith, part_count lengths few) in
      let ahead : List ℕ = joined (front (partition_for (total lengths)) (length names) (directory_size names)) ++ directory_part names in
      let p : length ahead ≡ 2048 * 288 = length-append (joined (front (partition_for (total lengths)) (length names) (directory_size names))) (directory_part names) ∙ rw (front_long names lengths staging more h, directory-part-long names lengths staging more h) in
      let at : disc (image names lengths staging ++ more) (288 + i) ≡ holds (get_or (entries_part lengths) i []) = rw (disk-entries names lengths staging more h) (sector-at ahead 288 p (entries_part lengths) _ (part-whole lengths few) i j) in
      let q : get_or (entries_part lengths) i [] ≡ b = held_same (sym at ∙ e) in
      rw q at (all-at 288 (entries_part lengths) (part_placed lengths few) i j)

  -- the last sector is the second anchor
  abbrev ahead : List ℕ
  ahead =
      joined (front (partition_for (total lengths)) (length names) (directory_size names)) ++ directory_part names ++ joined (entries_part lengths) ++ files_part lengths staging ++
      zeros (2048 * (total lengths - 353 - blocks_of lengths))

  last-seal : Seal 2 (total lengths - 1) anchor_body
  last-seal = anchor-seal (total lengths - 1) (omega (arith, few-blocks names lengths staging more h))

  ahead-long : length ahead ≡ 2048 * (total lengths - 1)
  ahead-long =
      rw (
        length-append,
        length-append,
        length-append,
        length-append,
        front_long names lengths staging more h,
        directory-part-long names lengths staging more h,
        entries-part-long names lengths staging more h,
        files-long lengths staging h.staged,
        length-replicate,
      ) (size (blocks_of lengths))
    where
      size : (blocks : ℕ) → 573440 + 16384 + 131072 + 2048 * blocks + 2048 * ((384 + blocks) / 32 * 32 - 353 - blocks) ≡ 2048 * ((384 + blocks) / 32 * 32 - 1)
      size blocks = omega arith

  last-whole : Whole (anchor_at (total lengths - 1) ∷ [])
  unfolding Whole anchor_at
  last-whole = (sector-long anchor_body last-seal, tt)

  disk-last : image names lengths staging ++ more ≡ ahead ++ (joined (anchor_at (total lengths - 1) ∷ []) ++ more)
  unfolding image joined
  disk-last = append_assoc ahead (anchor_at (total lengths - 1)) more ∙ ap (λ l. ahead ++ (l ++ more)) (sym (append-nil (anchor_at (total lengths - 1))))

  pub last-there : disc (image names lengths staging ++ more) (total lengths - 1) ≡ holds (anchor_at (total lengths - 1))
  last-there =
      let z : total lengths - 1 + 0 ≡ total lengths - 1 = omega arith in
      rw disk-last (rw z at (sector-at ahead (total lengths - 1) ahead-long (anchor_at (total lengths - 1) ∷ []) more last-whole 0 (lit< tt)))

  -- and its tag is in place
  pub last-placed : Placed (total lengths - 1) (anchor_at (total lengths - 1))
  unfolding anchor_at
  last-placed = volume-sector anchor_body last-seal (lit≤ tt) (lit≤ tt) (total lengths - 1) refl

-- an identifier at place o of the directory, whose first byte is in block 8 + o div 2,048
pub identifier-placed : (o characteristics block : ℕ) (recorded rest : List ℕ) → o < 2 ^ 32 → length recorded ≤ 128 → (t : DescriptorTag)
    → read_tag (identifier_at o characteristics block recorded ++ rest) ≡ Ok t → in_place t (280 + o / 2048) (8 + o / 2048) ≡ true
identifier-placed o characteristics block recorded rest h k t q =
    let seal = identifier-seal o characteristics block recorded h k in
    let w : tag_for 257 (8 + o / 2048) (identifier_body characteristics block recorded) ≡ t = same (sym (tag_read (identifier_body characteristics block recorded) seal rest) ∙ q) in
    rw (← w) (partition-placed (identifier_body characteristics block recorded) seal (lit≤ tt) (lit≤ tt) (280 + o / 2048))
  where
    same : {a b : DescriptorTag} → ◌≡◌ {A = Result DescriptorTag Refusal} (Ok a) (Ok b) → a ≡ b
    same f = cc

-- ---- the identifiers in the image: each at its place of the directory, which begins in sector 280

identifiers-split : (i o : ℕ) (before : List (List ℕ)) (n : List ℕ) (after : List (List ℕ))
    → identifiers i o (before ++ n ∷ after)
    ≡ identifiers i o before ++ (identifier_at (o + names_size before) 0 (16 + (i + length before)) (8 ∷ n) ++ identifiers (i + length before + 1) (o + names_size before + identifier_size (length n)) after)
unfolding identifiers summed
identifiers-split i o [] n after = let z : o + 0 ≡ o = omega arith in let y : i + 0 ≡ i = omega arith in rw (z, y)
identifiers-split i o (b ∷ bs) n after =
    let z : o + (identifier_size (length b) + names_size bs) ≡ o + identifier_size (length b) + names_size bs = omega arith in
    let y : i + suc (length bs) ≡ i + 1 + length bs = omega arith in
    rw (z, y) (ap (λ l. identifier_at o 0 (16 + i) (8 ∷ b) ++ l) (identifiers-split (i + 1) (o + identifier_size (length b)) bs n after) ∙ sym (append_assoc (identifier_at o 0 (16 + i) (8 ∷ b)) (identifiers (i + 1) (o + identifier_size (length b)) bs) _))

good-among : (before : List (List ℕ)) (n : List ℕ) (after : List (List ℕ)) → are_good (before ++ n ∷ after) ≡ true → length n ≤ 127
good-among [] n after e = (good-cons n after e).small
good-among (b ∷ bs) n after e = good-among bs n after (good-cons b (bs ++ n ∷ after) e).others

module _ (names : List (List ℕ)) (lengths staging more : List ℕ) (h : Accepted names lengths staging) where
  abbrev behind_directory : List ℕ
  behind_directory =
      zeros (16384 - directory_size names) ++
      (joined (entries_part lengths) ++ (files_part lengths staging ++ (zeros (2048 * (total lengths - 353 - blocks_of lengths)) ++ (anchor_at (total lengths - 1) ++ more))))

  abbrev ahead_of : List ℕ
  ahead_of = joined (front (partition_for (total lengths)) (length names) (directory_size names))

  disk-directory : image names lengths staging ++ more ≡ ahead_of ++ (directory names ++ behind_directory)
  unfolding directory_part
  disk-directory = disk-front names lengths staging more h ∙ ap (λ l. ahead_of ++ l) (append_assoc (directory names) (zeros (16384 - directory_size names)) _)

  -- the parent's
  pub parent-there : drop 573440 (image names lengths staging ++ more) ≡ identifier_at 0 10 2 [] ++ (identifiers 0 40 names ++ behind_directory)
  unfolding directory
  parent-there =
      rw disk-directory (drop_at ahead_of (directory names ++ behind_directory) 573440 (front_long names lengths staging more h))
      ∙ append_assoc (identifier_at 0 10 2 []) (identifiers 0 40 names) behind_directory

  pub vault-parent-placed : (t : DescriptorTag) → read_tag (drop 573440 (image names lengths staging ++ more)) ≡ Ok t → in_place t 280 8 ≡ true
  vault-parent-placed t q = identifier-placed 0 10 2 [] (identifiers 0 40 names ++ behind_directory) (lit< tt) (lit≤ tt) t (sym (ap read_tag parent-there) ∙ q)

  -- a file's: behind those of the files before it
  module _ (before : List (List ℕ)) (n : List ℕ) (after : List (List ℕ)) (e : names ≡ before ++ n ∷ after) where
    abbrev behind_it : List ℕ
    behind_it = identifiers (length before + 1) (directory_size before + identifier_size (length n)) after ++ behind_directory

    abbrev ahead_of_it : List ℕ
    ahead_of_it = ahead_of ++ (identifier_at 0 10 2 [] ++ identifiers 0 40 before)

    ahead-of-it : length ahead_of_it ≡ 573440 + directory_size before
    unfolding identifier_body
    ahead-of-it =
        rw (length-append, length-append, front_long names lengths staging more h, identifiers-long 0 40 before) (omega (arith, sealed-long 257 8 (identifier_body 10 2 [])))

    split : directory names ≡ (identifier_at 0 10 2 [] ++ identifiers 0 40 before) ++ (identifier_at (directory_size before) 0 (16 + length before) (8 ∷ n) ++ identifiers (length before + 1) (directory_size before + identifier_size (length n)) after)
    unfolding directory
    split =
        let z : 0 + length before ≡ length before = omega arith in
        ap (λ ns. identifier_at 0 10 2 [] ++ identifiers 0 40 ns) e
        ∙ ap (λ l. identifier_at 0 10 2 [] ++ l) (rw z at (identifiers-split 0 40 before n after))
        ∙ sym (append_assoc (identifier_at 0 10 2 []) (identifiers 0 40 before) _)

    pub identifier-there : drop (573440 + directory_size before) (image names lengths staging ++ more) ≡ identifier_at (directory_size before) 0 (16 + length before) (8 ∷ n) ++ behind_it
    identifier-there =
        rw (disk-directory, split)
        (ap (λ l. drop (573440 + directory_size before) l) (sym (simp append_assoc))
        ∙ drop_at ahead_of_it (identifier_at (directory_size before) 0 (16 + length before) (8 ∷ n) ++ behind_it) (573440 + directory_size before) ahead-of-it)

    pub vault-identifiers-placed : (t : DescriptorTag) → read_tag (drop (573440 + directory_size before) (image names lengths staging ++ more)) ≡ Ok t
        → in_place t (280 + directory_size before / 2048) (8 + directory_size before / 2048) ≡ true
    vault-identifiers-placed t q =
        let s = ap names_size e ∙ summed-append (λ m. identifier_size (length m)) before (n ∷ after) in
        let g : length n ≤ 127 = good-among before n after (ap are_good (sym e) ∙ h.good) in
        identifier-placed (directory_size before) 0 (16 + length before) (8 ∷ n) behind_it (omega (arith, s, small names lengths staging more h)) (omega arith) t (sym (ap read_tag identifier-there) ∙ q)
