-- Every descriptor of the image stands where the table has it, and is sound to the reader. Assumes nothing.
use mathlib.Core.Path.{◌≡◌, refl, ap, sym, ◌∙◌}
use mathlib.Core.Bool.{true}
use mathlib.Core.List.{List, [], ◌∷◌, ◌++◌, append_assoc}
use Prim.Native.Nat.{ℕ, zero, suc, ◌+◌, ◌-◌, ◌*◌, ◌/◌, ◌≤◌, ◌<◌, ◌^◌}
use native.Mathlib.Omega.{arith}
use lib.ListN.{length, get_or, drop, replicate, length-append, get_or-append}
use lib.Seq.{drop_at, drop-drop}
use lib.Dec.{eqb, lit<, lit≤}
use Rattle.disc.specs.Choice.{pick}
use Rattle.disc.specs.Ask.{Disc}
use Rattle.disc.specs.Ask.Held.{holds}
use Rattle.disc.specs.Images.{disc, sectors_for}
use Rattle.records.proofs.Numbers.{u32-le32}
use Rattle.tags.specs.Tags.{in_place}
use Rattle.writers.specs.Layout.{summed, total, partition_for, identifier_size, names_size, directory_size, zeros, joined, blanks, sector, tag_for, sealed, primary_body, info_body, partition_body, logical_body, unallocated_body, terminating_body, integrity_body, anchor_body, file_set_body, entry_body, identifier_body, identifier_at, identifiers, directory_part, sequence, recognition_part, integrity_part, root_part, front, anchor_at, entries, entries_part, image}
use Rattle.writers.specs.Descriptors.{Slot, slot, sequence_slots, entry_slots, slots, Standing, AllStanding, Identifying, AllIdentifying, Alike, Closed}
use Rattle.writers.specs.Refusing.{are_good}
use Rattle.writers.proofs.PourLaws.{sealed-long}
use Rattle.writers.proofs.BodyLaws.{identifier-long}
use Rattle.writers.proofs.PartLaws.{good-cons, entries-count}
use Rattle.writers.proofs.DirectoryLaws.{identifier-seal}
use Rattle.writers.proofs.SealLaws.{Seal, tag_read, body-right, volume-placed, partition-placed}
use Rattle.writers.proofs.SectorLaws.{sector-at}
use Rattle.writers.proofs.OpeningLaws.{primary-seal, info-seal, partition-seal, logical-seal, unallocated-seal, terminating-seal, integrity-seal, anchor-seal, file-set-seal, entry-seal, on_disc, at_front}
use Rattle.writers.proofs.ImageLaws.{disk-front, disk-entries, behind_front, part-whole, part_count, small, front_long, directory-part-long, few-files, few-blocks}
use Rattle.writers.proofs.PlacedLaws.{last-there, parent-there}
use Rattle.writers.specs.Vaults.{written, Accepted}

-- ---- a sealed descriptor in a sector of its own

module _ (d : Disc) {id location : ℕ} (body : List ℕ) (h : Seal id location body) where
  behind : drop (16 + length body) (sector (sealed id location body)) ≡ replicate (2032 - length body) 0
  unfolding sector
  behind =
      let l : length (sealed id location body) ≡ 16 + length body = sealed-long id location body in
      let k : 2048 - length (sealed id location body) ≡ 2032 - length body = omega arith in
      drop_at (sealed id location body) (zeros (2048 - length (sealed id location body))) (16 + length body) l ∙ ap zeros k

  standing : (n : ℕ) → d n ≡ holds (sector (sealed id location body)) → in_place (tag_for id location body) n (n - 272) ≡ true → Standing d (slot n id)
  unfolding sector
  standing n e p =
      let rest : List ℕ = zeros (2048 - length (sealed id location body)) in
      record {
        bytes = sector (sealed id location body);
        tag = tag_for id location body;
        there = e;
        sound = record { read = tag_read body h rest; named = refl; right = body-right body h rest; placed = p };
        whole = behind;
      }

  volume-standing : 1 ≤ id → id ≤ 9 → d location ≡ holds (sector (sealed id location body)) → Standing d (slot location id)
  volume-standing k l e = standing location e (volume-placed body h k l (location - 272))

  partition-standing : 256 ≤ id → id ≤ 266 → (n : ℕ) → n - 272 ≡ location → d n ≡ holds (sector (sealed id location body)) → Standing d (slot n id)
  partition-standing k l n q e = standing n e (rw q (partition-placed body h k l n))

all_append : (d : Disc) (xs ys : List Slot) → AllStanding d xs → AllStanding d ys → AllStanding d (xs ++ ys)
unfolding AllStanding
all_append d [] ys h k = k
all_append d (x ∷ xs) ys h k = (h.0, all_append d xs ys h.1 k)

-- ---- the front

module _ (size files directory : ℕ) (rest : List ℕ) where
  abbrev d : Disc
  d = on_disc size files directory rest

  main-standing : AllStanding d (sequence_slots 32)
  unfolding AllStanding front recognition_part sequence integrity_part root_part
  main-standing = (
    volume-standing d primary_body (primary-seal 32 (lit< tt)) (lit≤ tt) (lit≤ tt) (at_front size files directory rest 32 (lit< tt)),
    (
      volume-standing d info_body (info-seal 33 (lit< tt)) (lit≤ tt) (lit≤ tt) (at_front size files directory rest 33 (lit< tt)),
      (
        volume-standing d (partition_body size) (partition-seal 34 size (lit< tt)) (lit≤ tt) (lit≤ tt) (at_front size files directory rest 34 (lit< tt)),
        (
          volume-standing d logical_body (logical-seal 35 (lit< tt)) (lit≤ tt) (lit≤ tt) (at_front size files directory rest 35 (lit< tt)),
          (
            volume-standing d unallocated_body (unallocated-seal 36 (lit< tt)) (lit≤ tt) (lit≤ tt) (at_front size files directory rest 36 (lit< tt)),
            (volume-standing d terminating_body (terminating-seal 37 (lit< tt)) (lit≤ tt) (lit≤ tt) (at_front size files directory rest 37 (lit< tt)), tt),
          ),
        ),
      ),
    ),
  )

  reserve-standing : AllStanding d (sequence_slots 48)
  unfolding AllStanding front recognition_part sequence integrity_part root_part
  reserve-standing = (
    volume-standing d primary_body (primary-seal 48 (lit< tt)) (lit≤ tt) (lit≤ tt) (at_front size files directory rest 48 (lit< tt)),
    (
      volume-standing d info_body (info-seal 49 (lit< tt)) (lit≤ tt) (lit≤ tt) (at_front size files directory rest 49 (lit< tt)),
      (
        volume-standing d (partition_body size) (partition-seal 50 size (lit< tt)) (lit≤ tt) (lit≤ tt) (at_front size files directory rest 50 (lit< tt)),
        (
          volume-standing d logical_body (logical-seal 51 (lit< tt)) (lit≤ tt) (lit≤ tt) (at_front size files directory rest 51 (lit< tt)),
          (
            volume-standing d unallocated_body (unallocated-seal 52 (lit< tt)) (lit≤ tt) (lit≤ tt) (at_front size files directory rest 52 (lit< tt)),
            (volume-standing d terminating_body (terminating-seal 53 (lit< tt)) (lit≤ tt) (lit≤ tt) (at_front size files directory rest 53 (lit< tt)), tt),
          ),
        ),
      ),
    ),
  )

  others-standing : AllStanding d (slot 64 9 ∷ slot 65 8 ∷ slot 256 2 ∷ slot 272 256 ∷ slot 274 261 ∷ [])
  unfolding AllStanding front recognition_part sequence integrity_part root_part anchor_at
  others-standing = (
    volume-standing d (integrity_body size files) (integrity-seal size files) (lit≤ tt) (lit≤ tt) (at_front size files directory rest 64 (lit< tt)),
    (
      volume-standing d terminating_body (terminating-seal 65 (lit< tt)) (lit≤ tt) (lit≤ tt) (at_front size files directory rest 65 (lit< tt)),
      (
        volume-standing d anchor_body (anchor-seal 256 (lit< tt)) (lit≤ tt) (lit≤ tt) (at_front size files directory rest 256 (lit< tt)),
        (
          partition-standing d file_set_body file-set-seal (lit≤ tt) (lit≤ tt) 272 refl (at_front size files directory rest 272 (lit< tt)),
          (
            partition-standing d (entry_body 4 0x14a5 directory 0 8) (entry-seal 2 4 0x14a5 directory 0 8 (lit< tt)) (lit≤ tt) (lit≤ tt) 274 refl (at_front size files directory rest 274 (lit< tt)),
            tt,
          ),
        ),
      ),
    ),
  )

-- ---- the entries

entries-standing : (d : Disc) (i block : ℕ) (lengths : List ℕ) → i + length lengths ≤ 64 → (n : ℕ) → n ≡ 288 + i
    → ((j : ℕ) → j < length lengths → d (n + j) ≡ holds (get_or (entries i block lengths) j [])) → AllStanding d (entry_slots n (length lengths))
unfolding entries AllStanding entry_slots
entries-standing d i block [] h n e there = tt
entries-standing d i block (l ∷ ls) h n e there =
    let z : n + 0 ≡ n = omega arith in
    let body : List ℕ = entry_body 5 0x1084 l (16 + i) (pick (eqb l 0) 0 block) in
    let seal : Seal 261 (16 + i) body = entry-seal (16 + i) 5 0x1084 l (16 + i) (pick (eqb l 0) 0 block) (omega arith) in (
      partition-standing d body seal (lit≤ tt) (lit≤ tt) n (omega arith) (rw z at (there 0 (omega arith))),
      entries-standing d (i + 1) (block + sectors_for l) ls (omega arith) (n + 1) (omega arith) (λ j k. let y : n + suc j ≡ n + 1 + j = omega arith in rw y at (there (suc j) (omega arith))),
    )

-- ---- the identifiers

identifying : (image : List ℕ) (o characteristics block : ℕ) (recorded rest : List ℕ) → o < 2 ^ 32 → length recorded ≤ 128
    → drop (573440 + o) image ≡ identifier_at o characteristics block recorded ++ rest → (size : ℕ) → 16 + length (identifier_body characteristics block recorded) ≡ size → Identifying image o size
identifying image o characteristics block recorded rest h k e size q =
    let body : List ℕ = identifier_body characteristics block recorded in
    let seal : Seal 257 (8 + o / 2048) body = identifier-seal o characteristics block recorded h k in
    let z : 280 + o / 2048 - 272 ≡ 8 + o / 2048 = omega arith in
    record {
      tag = tag_for 257 (8 + o / 2048) body;
      sound = record {
        read = rw e (tag_read body seal rest);
        named = refl;
        right = rw e (body-right body seal rest);
        placed = rw z (partition-placed body seal (lit≤ tt) (lit≤ tt) (280 + o / 2048));
      };
      whole = q;
    }

identifiers-all : (image : List ℕ) (i o : ℕ) (names : List (List ℕ)) (rest : List ℕ) → are_good names ≡ true → o + names_size names < 2 ^ 31
    → drop (573440 + o) image ≡ identifiers i o names ++ rest → AllIdentifying image o names
unfolding identifiers summed AllIdentifying
identifiers-all image i o [] rest g h e = tt
identifiers-all image i o (n ∷ ns) rest g h e =
    let good = good-cons n ns g in
    let size : ℕ = identifier_size (length n) in
    let others : List ℕ = identifiers (i + 1) (o + size) ns ++ rest in
    let it : List ℕ = identifier_at o 0 (16 + i) (8 ∷ n) in
    let l = identifier-long (16 + i) n in
    let split : drop (573440 + o) image ≡ it ++ others = e ∙ append_assoc it (identifiers (i + 1) (o + size) ns) rest in
    let long : length it ≡ size = sealed-long 257 (8 + o / 2048) (identifier_body 0 (16 + i) (8 ∷ n)) ∙ sizes (length n) l in
    let z : 573440 + (o + size) ≡ 573440 + o + size = omega arith in
    let next : drop (573440 + (o + size)) image ≡ others = rw z (sym (drop-drop size (573440 + o) image) ∙ ap (drop size) split ∙ drop_at it others size long) in (
      identifying image o 0 (16 + i) (8 ∷ n) others (omega arith) (omega (arith, good.small)) split size (sizes (length n) l),
      identifiers-all image (i + 1) (o + size) ns rest good.others (omega arith) next,
    )
  where
    sizes : (k : ℕ) {b : ℕ} → b ≡ identifier_size k - 16 → 16 + b ≡ identifier_size k
    sizes k q = omega arith

-- ---- the two sequences

-- what stands behind others
pub skipped : (xs ys : List (List ℕ)) (k : ℕ) → get_or (xs ++ ys) (length xs + k) [] ≡ get_or ys k []
skipped [] ys k = let z : 0 + k ≡ k = omega arith in rw z
skipped (x ∷ xs) ys k = let z : suc (length xs) + k ≡ suc (length xs + k) = omega arith in rw z (skipped xs ys k)

sequence-same : (a b size k : ℕ) → drop 16 (get_or (sequence a size) k []) ≡ drop 16 (get_or (sequence b size) k [])
unfolding sequence sector sealed
sequence-same a b size zero = refl
sequence-same a b size (suc zero) = refl
sequence-same a b size (suc (suc zero)) = refl
sequence-same a b size (suc (suc (suc zero))) = refl
sequence-same a b size (suc (suc (suc (suc zero)))) = refl
sequence-same a b size (suc (suc (suc (suc (suc zero))))) = refl
sequence-same a b size (suc (suc (suc (suc (suc (suc k)))))) = refl

module _ (size files directory k : ℕ) (l : k < 16) where
  main-at : get_or (front size files directory) (32 + k) [] ≡ get_or (sequence 32 size) k []
  unfolding front recognition_part sequence
  main-at =
      let rest : List (List ℕ) = sequence 48 size ++ (integrity_part size files ++ root_part directory) in
      let e : front size files directory ≡ recognition_part ++ (sequence 32 size ++ rest) = simp append_assoc in
      rw e (skipped recognition_part (sequence 32 size ++ rest) k ∙ get_or-append (sequence 32 size) rest [] k l)

  reserve-at : get_or (front size files directory) (48 + k) [] ≡ get_or (sequence 48 size) k []
  unfolding front recognition_part sequence
  reserve-at =
      let rest : List (List ℕ) = integrity_part size files ++ root_part directory in
      let e : front size files directory ≡ (recognition_part ++ sequence 32 size) ++ (sequence 48 size ++ rest) = simp append_assoc in
      rw e (skipped (recognition_part ++ sequence 32 size) (sequence 48 size ++ rest) k ∙ get_or-append (sequence 48 size) rest [] k l)

-- ---- the image, with whatever stands behind it

module _ (names : List (List ℕ)) (lengths staging more : List ℕ) (h : Accepted names lengths staging) where
  abbrev size : ℕ
  size = partition_for (total lengths)

  abbrev behind_it : List ℕ
  behind_it = behind_front names lengths staging more h

  files-standing : AllStanding (disc (written names lengths staging more)) (entry_slots 288 (length lengths))
  unfolding entries_part
  files-standing = entries-standing (disc (written names lengths staging more)) 0 80 lengths (omega (arith, few)) 288 refl there
    where
      few : length lengths ≤ 64
      few = few-files names lengths staging more h

      there : (j : ℕ) → j < length lengths → disc (written names lengths staging more) (288 + j) ≡ holds (get_or (entries 0 80 lengths) j [])
      there j k =
          let ahead : List ℕ = joined (front size (length names) (directory_size names)) ++ directory_part names in
          let p : length ahead ≡ 2048 * 288 = length-append (joined (front size (length names) (directory_size names))) (directory_part names) ∙ rw (front_long names lengths staging more h, directory-part-long names lengths staging more h) in
          let w : j < length (entries_part lengths) = omega (arith, part_count lengths few, few) in
          let v : j < length (entries 0 80 lengths) = omega (arith, entries-count 0 80 lengths) in
          rw (disk-entries names lengths staging more h) (sector-at ahead 288 p (entries_part lengths) _ (part-whole lengths few) j w)
          ∙ ap holds (get_or-append (entries 0 80 lengths) (blanks (64 - length lengths)) [] j v)

  last-standing : Standing (disc (written names lengths staging more)) (slot (total lengths - 1) 2)
  unfolding anchor_at
  last-standing =
      let seal : Seal 2 (total lengths - 1) anchor_body = anchor-seal (total lengths - 1) (omega (arith, few-blocks names lengths staging more h)) in
      volume-standing (disc (written names lengths staging more)) anchor_body seal (lit≤ tt) (lit≤ tt) (last-there names lengths staging more h)

  front-standing : AllStanding (disc (written names lengths staging more)) (sequence_slots 32 ++ sequence_slots 48 ++ slot 64 9 ∷ slot 65 8 ∷ slot 256 2 ∷ slot 272 256 ∷ slot 274 261 ∷ [])
  front-standing = rw (disk-front names lengths staging more h) (
      all_append _ (sequence_slots 32 ++ sequence_slots 48) _ (all_append _ (sequence_slots 32) (sequence_slots 48)
      (main-standing size (length names) (directory_size names) behind_it) (reserve-standing size (length names) (directory_size names) behind_it))
      (others-standing size (length names) (directory_size names) behind_it))

  -- every descriptor of the table is there, and is sound
  pub vault-descriptors : AllStanding (disc (written names lengths staging more)) (slots (total lengths) (length lengths))
  unfolding AllStanding
  vault-descriptors =
      all_append (disc (written names lengths staging more)) (sequence_slots 32 ++ sequence_slots 48 ++ slot 64 9 ∷ slot 65 8 ∷ slot 256 2 ∷ slot 272 256 ∷ slot 274 261 ∷ [])
      (entry_slots 288 (length lengths) ++ slot (total lengths - 1) 2 ∷ []) front-standing
      (all_append (disc (written names lengths staging more)) (entry_slots 288 (length lengths)) (slot (total lengths - 1) 2 ∷ []) files-standing (last-standing, tt))

  -- and so is every identifier of the directory: the parent's at its front, and that of each name behind the one before it
  pub vault-parent-identifier : Identifying (written names lengths staging more) 0 40
  unfolding identifier_body
  vault-parent-identifier = identifying (written names lengths staging more) 0 10 2 [] _ (lit< tt) (lit≤ tt) (parent-there names lengths staging more h) 40 refl

  pub vault-identifiers : AllIdentifying (written names lengths staging more) 40 names
  unfolding sealed identifier_body
  vault-identifiers =
      let parent : List ℕ = identifier_at 0 10 2 [] in
      let at : drop (573440 + 40) (written names lengths staging more) ≡ identifiers 0 40 names ++ _ = sym (drop-drop 40 573440 (written names lengths staging more)) ∙ ap (drop 40) (parent-there names lengths staging more h) ∙ drop_at parent _ 40 refl in
      identifiers-all (written names lengths staging more) 0 40 names _ h.good (omega (arith, small names lengths staging more h)) at

  -- ---- what stands twice

  -- the reserve sequence is the main one but for the tags
  pub vault-reserve : (k : ℕ) → k < 16 → Alike (disc (written names lengths staging more)) (32 + k) (48 + k)
  vault-reserve k l = record {
    first = get_or (sequence 32 size) k [];
    second = get_or (sequence 48 size) k [];
    first-there = rw (disk-front names lengths staging more h) (at_front size (length names) (directory_size names) behind_it (32 + k) (omega arith)) ∙ ap holds (main-at size (length names) (directory_size names) k l);
    second-there = rw (disk-front names lengths staging more h) (at_front size (length names) (directory_size names) behind_it (48 + k) (omega arith)) ∙ ap holds (reserve-at size (length names) (directory_size names) k l);
    same = sequence-same 32 48 size k;
  }

  -- and the last anchor is the first
  pub vault-anchors : Alike (disc (written names lengths staging more)) 256 (total lengths - 1)
  unfolding front recognition_part sequence integrity_part root_part anchor_at sector sealed
  vault-anchors = record {
    first = anchor_at 256;
    second = anchor_at (total lengths - 1);
    first-there = rw (disk-front names lengths staging more h) (at_front size (length names) (directory_size names) behind_it 256 (lit< tt));
    second-there = last-there names lengths staging more h;
    same = refl;
  }

  -- ---- the integrity descriptor says that the volume was closed, and how much is in it
  pub vault-closed : Closed (disc (written names lengths staging more)) (partition_for (total lengths)) (length lengths)
  unfolding front recognition_part sequence integrity_part root_part sector sealed integrity_body
  vault-closed = record {
    bytes = sector (sealed 9 64 (integrity_body size (length names)));
    there = rw (disk-front names lengths staging more h) (at_front size (length names) (directory_size names) behind_it 64 (lit< tt));
    type = refl;
    partitions = refl;
    free = refl;
    size = u32-le32 size (omega (arith, few-blocks names lengths staging more h));
    file-count = u32-le32 (length names) (omega (arith, h.few)) ∙ h.alike;
    directory-count = refl;
  }
