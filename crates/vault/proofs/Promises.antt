-- The promises, each once over all calls that read an image. Assumes nothing.
use mathlib.Core.Path.{◌≡◌, refl, ap, sym, ◌∙◌}
use mathlib.Core.Bool.{Bool, true, false, not, ◌||◌}
use mathlib.Core.List.{List, ◌++◌, map}
use mathlib.Core.Logic.{◌⊎◌, inl, inr}
use Prim.Native.Nat.{ℕ, min, ◌<◌}
use native.Mathlib.Omega.{arith}
use lib.ListN.{length, drop, length-map}
use lib.Dec.{eqb, leb}
use borrow.Author.Tests.{ne_eqb, eq-eqb}
use Rattle.disc.specs.Choice.{pick}
use Rattle.disc.specs.Counts.{reported}
use Rattle.disc.specs.Places.{is_checked}
use Rattle.disc.specs.Refusals.{number}
use Rattle.disc.specs.Replies.{measured_by}
use Rattle.disc.specs.Ask.{Outcome, outcome, asked, Agree}
use Rattle.disc.specs.Ask.Outcome.{answered, refused}
use Rattle.disc.specs.Images.{disc}
use Rattle.disc.specs.Ran.{ran, each_in}
use Rattle.disc.specs.declared.refusals.Refusal.{Refusal}
use Rattle.disc.specs.declared.refusals.Refusal.TheVariants.{NoRoom, NoSlot}
use Rattle.disc.specs.declared.replies.Reply.{Reply}
use Rattle.disc.proofs.ImageLaws.{image-grown}
use Rattle.disc.proofs.OnlyLaws.{refuses-within, refused-missing, only-weaker}
use Rattle.disc.proofs.BudgetLaws.{budgeted-only, budgeted-guards}
use Rattle.disc.proofs.MarkedLaws.{guards-bad, guards-outcome, guards-asked, guards-front}
use Rattle.disc.proofs.GrownLaws.{grown-ran, refused-waits}
use Rattle.disc.proofs.RanLaws.{same-ran}
use Rattle.disc.proofs.ReplyLaws.{reply-counts}
use Rattle.volumes.specs.Openings.{opened_by}
use Rattle.volumes.specs.declared.openings.VolumeRecord.{VolumeRecord}
use Rattle.volumes.proofs.GuardLaws.{opening-guards, labelling-guards}
use Rattle.files.proofs.GuardLaws.{bytes-guards, part-guards, extents-guards}
use Rattle.listings.proofs.GuardLaws.{listing-guards as listed-guards}
use Rattle.directories.specs.Lookups.{Sought}
use Rattle.directories.specs.Lookups.Sought.{reached, lost}
use Rattle.directories.proofs.GuardLaws.{listing-guards, seeking-guards, lookup-guards, path-guards}
use Rattle.shows.proofs.GuardLaws.{tree-records-guards}
use Rattle.files.proofs.RefusingLaws.{bytes-only, part-only, list-only}
use Rattle.layouts.proofs.RefusingLaws.{runs-only}
use Rattle.layouts.proofs.GuardLaws.{runs-guards}
use Rattle.volumes.proofs.RefusingLaws.{opening-only, label-only}
use Rattle.listings.proofs.RefusingLaws.{listed-only}
use Rattle.directories.proofs.RefusingLaws.{listing-only, seek-only, lookup-only, path-only}
use Rattle.shows.proofs.Promises.{tree-records-only}
use Rattle.vault.specs.Public.{Way, by_volume, by_size, by_icb, by_part, by_place, by_bytes, by_work, by_row, by_lost, by_lost_place, gives, says, Call, spec, tree, way, may, leaves, answer_on, count_on, number_of, lacking, exceeds}
use Rattle.vault.specs.Public.Call.{opens, labels, reads, measures, parts, parts_at, extents, runs, lists, shows, finds, fails, fails_at, lists_bytes, reads_path}
use Rattle.disc.specs.Refusing.{Refuses, Within, Any, is_io}
use Rattle.disc.specs.Lists.{Waits}
use Rattle.disc.specs.Marks.{is_bad, any_wrong, parsed, Front, Guards}
use Rattle.tags.specs.Heads.{right_at}
use Rattle.vault.specs.Checks.{plain}

-- ---- how each way tells

pub record Tells {A R : Type 0} (w : Way A R) : Type 0 where
  pub counts : (o : Outcome A) (n : ℕ) → w.count (w.told (record { outcome = o; count = n })) ≡ reported n
  pub refuses : (why : Refusal) (n : ℕ) → w.told (record { outcome = refused why; count = n }) ≡ w.bare (number why) (reported n)
  pub numbered : (a n : ℕ) → w.answer (w.bare a n) ≡ a
  pub answers : (a : A) (n : ℕ) → w.answer (w.told (record { outcome = answered a; count = n })) ≡ gives w a
  pub empty : (a : A) (n : ℕ) → (gives w a ≡ w.holds → ⊥) → w.told (record { outcome = answered a; count = n }) ≡ w.bare (gives w a) (reported n)
  pub others : (eqb w.last 1 ≡ false) × (eqb w.last 10 ≡ false)

volume-tells : Tells by_volume
volume-tells = record { counts = by; refuses = λ why n. refl; numbered = λ a n. refl; answers = λ v n. refl; empty = λ v n h. absurd (h refl); others = (refl, refl) }
  where
    by : (o : Outcome VolumeRecord) (n : ℕ) → (opened_by (reported n) o).count ≡ reported n
    by (answered v) n = refl
    by (refused why) n = refl

size-tells : Tells by_size
size-tells = record { counts = by; refuses = λ why n. refl; numbered = λ a n. refl; answers = λ v n. refl; empty = λ v n h. absurd (h refl); others = (refl, refl) }
  where
    by : (o : Outcome (List ℕ)) (n : ℕ) → (measured_by (reported n) o).count ≡ reported n
    by (answered v) n = refl
    by (refused why) n = refl

part-tells : Tells by_part
part-tells = record { counts = λ o n. refl; refuses = λ why n. refl; numbered = λ a n. refl; answers = λ p n. refl; empty = λ v n h. absurd (h refl); others = (refl, refl) }

place-tells : Tells by_place
place-tells = record { counts = λ o n. refl; refuses = λ why n. refl; numbered = λ a n. refl; answers = λ p n. refl; empty = λ v n h. absurd (h refl); others = (refl, refl) }

-- where room is lent: t says whether it suffices
module _ {B : Type 0} (full n size : ℕ) (lent over : List B) where
  abbrev said : Bool → Reply
  said t = pick t (record { answer = 0; count = n; length = size }) (record { answer = full; count = n; length = 0 })

  roomed : (t : Bool) → (said t).answer ≡ pick t 0 full
  roomed true = refl
  roomed false = refl

  unsaid : (t : Bool) → (pick t 0 full ≡ 0 → ⊥) → said t ≡ record { answer = pick t 0 full; count = n; length = 0 }
  unsaid true h = absurd (h refl)
  unsaid false h = refl

  unmoved : (t : Bool) → (pick t 0 full ≡ 0 → ⊥) → pick t over lent ≡ lent
  unmoved true h = absurd (h refl)
  unmoved false h = refl

module _ (out : List ℕ) where
  bytes-tell : Tells (by_bytes out)
  bytes-tell = record {
    counts = λ o n. reply-counts NoRoom (length out) (reported n) o;
    refuses = λ why n. refl;
    numbered = λ a n. refl;
    answers = λ b n. roomed 5 (reported n) (length b) out out (leb (length b) (length out));
    empty = λ b n h. rw (unsaid 5 (reported n) (length b) out out (leb (length b) (length out)) h, unmoved 5 n n out (b ++ drop (length b) out) (leb (length b) (length out)) h);
    others = (refl, refl);
  }

  work-tells : (work : List ℕ) → Tells (by_work out work)
  work-tells work = record {
    counts = bytes-tell.counts;
    refuses = λ why n. refl;
    numbered = λ a n. refl;
    answers = bytes-tell.answers;
    empty = λ b n h. rw (unsaid 5 (reported n) (length b) out out (leb (length b) (length out)) h, unmoved 5 n n out (b ++ drop (length b) out) (leb (length b) (length out)) h);
    others = (refl, refl);
  }

row-tells : {E B : Type 0} (f : E → B) (row : List B) → Tells (by_row f row)
row-tells f row = record {
  counts = λ o n. reply-counts NoSlot (length row) (reported n) (each_in f o);
  refuses = λ why n. refl;
  numbered = λ a n. refl;
  answers = λ l n. rw length-map (roomed 7 (reported n) (length l) row row (leb (length l) (length row)));
  empty = λ l n h. rw (length-map, unsaid 7 (reported n) (length l) row row (leb (length l) (length row)) h, unmoved 7 n n row (map f l ++ drop (length l) row) (leb (length l) (length row)) h);
  others = (refl, refl);
}

module _ (work : List ℕ) where
  icb-tells : Tells (by_icb work)
  icb-tells = record { counts = λ o n. refl; refuses = λ why n. refl; numbered = λ a n. refl; answers = λ icb n. refl; empty = λ v n h. absurd (h refl); others = (refl, refl) }

  lost-tells : Tells (by_lost work)
  lost-tells = record { counts = λ o n. refl; refuses = λ why n. refl; numbered = λ a n. refl; answers = by; empty = bare; others = (refl, refl) }
    where
      by : (s : Sought) (n : ℕ) → (by_lost work).answer ((by_lost work).told (record { outcome = answered s; count = n })) ≡ gives (by_lost work) s
      by (reached icb) n = refl
      by (lost c) n = refl

      bare : (s : Sought) (n : ℕ) → (gives (by_lost work) s ≡ 3 → ⊥) → (by_lost work).told (record { outcome = answered s; count = n }) ≡ (by_lost work).bare (gives (by_lost work) s) (reported n)
      bare (reached icb) n h = refl
      bare (lost c) n h = absurd (h refl)

  lost-place-tells : Tells (by_lost_place work)
  lost-place-tells = record { counts = λ o n. refl; refuses = λ why n. refl; numbered = λ a n. refl; answers = lost-tells.answers; empty = bare; others = (refl, refl) }
    where
      bare : (s : Sought) (n : ℕ) → (gives (by_lost_place work) s ≡ 3 → ⊥) → (by_lost_place work).told (record { outcome = answered s; count = n }) ≡ (by_lost_place work).bare (gives (by_lost_place work) s) (reported n)
      bare (reached icb) n h = refl
      bare (lost c) n h = absurd (h refl)

-- ---- of each call: how it tells, what its questions say, and the same call without the check of bodies

pub tells : {A R : Type 0} (c : Call A R) → Tells (way c)
tells (opens how) = volume-tells
tells (labels how out) = bytes-tell out
tells (reads v icb out) = bytes-tell out
tells (measures v icb) = size-tells
tells (parts v icb) = part-tells
tells (parts_at v icb) = place-tells
tells (extents f v icb row) = row-tells f row
tells (runs v icb row) = row-tells _ row
tells (lists v icb out work) = work-tells out work
tells (lists_bytes v bytes out) = bytes-tell out
tells (shows v levels most out work) = work-tells out work
tells (finds v path matching work) = icb-tells work
tells (fails v path matching work) = lost-tells work
tells (fails_at v path matching work) = lost-place-tells work
tells (reads_path v path matching out work) = work-tells out work

abbrev Said : {A R : Type 0} → Call A R → Refusal → Type 0
Said c why = says (spec c).row (number why) ≡ true

said-by : {A R : Type 0} (c : Call A R) → Refuses (Said c) Any (tree c)
said-by (opens how) = opening-only (Said (opens how)) refl refl refl how (λ k. k)
said-by (labels how out) = label-only (Said (labels how out)) refl refl refl how (λ k. k)
said-by (reads v icb out) = bytes-only (Said (reads v icb out)) refl refl v.mount (λ k. k) icb
said-by (measures v icb) = bytes-only (Said (measures v icb)) refl refl v.mount (λ k. k) icb
said-by (parts v icb) = part-only (Said (parts v icb)) refl refl v.mount (λ k. k) icb
said-by (parts_at v icb) = part-only (Said (parts_at v icb)) refl refl v.mount (λ k. k) icb
said-by (extents f v icb row) = list-only (Said (extents f v icb row)) refl refl v.mount (λ k. k) icb
said-by (runs v icb row) = runs-only (Said (runs v icb row)) refl refl v.mount (λ k. k) icb
said-by (lists v icb out work) = listing-only (Said (lists v icb out work)) refl refl refl v.mount (λ k. k) (length work) icb
said-by (lists_bytes v bytes out) = listed-only (Said (lists_bytes v bytes out)) refl (is_checked v.mount) (λ k. k) bytes
said-by (shows v levels most out work) =
    budgeted-only most (λ b. rw b)
    (tree-records-only (Said (shows v levels most out work)) v.mount (bytes-only (Said (shows v levels most out work)) refl refl v.mount (λ k. k)) refl (λ k. k) refl refl levels (length work) v.root)
said-by (finds v path matching work) = lookup-only (Said (finds v path matching work)) refl refl refl matching (λ e. rw e) v.mount (λ k. k) (length work) refl v.root path
said-by (fails v path matching work) = seek-only (Said (fails v path matching work)) refl refl refl matching (λ e. rw e) v.mount (λ k. k) (length work) v.root path
said-by (fails_at v path matching work) = seek-only (Said (fails_at v path matching work)) refl refl refl matching (λ e. rw e) v.mount (λ k. k) (length work) v.root path
said-by (reads_path v path matching out work) = path-only (Said (reads_path v path matching out work)) refl refl refl matching (λ e. rw e) v.mount (λ k. k) (length work) refl v.root path

-- ---- RULES 2.7: images that agree on a call's list

pub same : {A R : Type 0} (c : Call A R) (image other : List ℕ) → Agree (disc image) (disc other) (asked (disc image) (tree c)) → leaves c image ≡ leaves c other
same c image other h = ap (way c).told (same-ran (tree c) (disc image) (disc other) h)

-- ---- RULES 2.4: the count

pub counts : {A R : Type 0} (c : Call A R) (image : List ℕ) → count_on c image ≡ min (length (asked (disc image) (tree c))) 0xffff_ffff_ffff_ffff
unfolding ran
counts c image = (tells c).counts (outcome (disc image) (tree c)) (length (asked (disc image) (tree c)))

-- ---- the number: the refusal's, or that of what is given, so that 5 and 7 come after every other

module _ {A R : Type 0} {w : Way A R} (t : Tells w) where
  number-told : (o : Outcome A) (n : ℕ) → w.answer (w.told (record { outcome = o; count = n })) ≡ number_of w o
  number-told (answered a) n = t.answers a n
  number-told (refused why) n = ap w.answer (t.refuses why n) ∙ t.numbered (number why) (reported n)

  bare-told : (o : Outcome A) (n : ℕ) → (number_of w o ≡ w.holds → ⊥) → w.told (record { outcome = o; count = n }) ≡ w.bare (number_of w o) (reported n)
  bare-told (answered a) n h = t.empty a n h
  bare-told (refused why) n h = t.refuses why n

  given : (k : ℕ) → eqb 0 k ≡ false → eqb w.last k ≡ false → (t : Bool) → eqb (pick t 0 w.last) k ≡ false
  given k z l true = z
  given k z l false = l

  io-told : (o : Outcome A) → eqb (number_of w o) 1 ≡ is_io o
  io-told (answered a) = given 1 refl t.others.0 (w.fits a)
  io-told (refused why) = refl

  bad-told : (o : Outcome A) → eqb (number_of w o) 10 ≡ is_bad o
  bad-told (answered a) = given 10 refl t.others.1 (w.fits a)
  bad-told (refused why) = refl

pub order : {A R : Type 0} (c : Call A R) (image : List ℕ) → answer_on c image ≡ number_of (way c) (outcome (disc image) (tree c))
unfolding ran
order c image = number-told (tells c) (outcome (disc image) (tree c)) _

-- ---- a number that isn't in the call's row is never said by its questions

pub never-by : {A R : Type 0} (c : Call A R) (k : ℕ) → says (spec c).row k ≡ false → Refuses (λ why. number why ≡ k → ⊥) Any (tree c)
never-by c k f = record { only = only-weaker (λ why p e. let z : says (spec c).row k ≡ true = rw e at p in let w : ◌≡◌ {A = ℕ} 0 1 = cc in omega arith) (tree c) (said-by c).only }

-- ---- RULES 1.1 of 1: exactly when a sector of the list isn't wholly inside the image

pub io-1 : {A R : Type 0} (c : Call A R) (image : List ℕ) → eqb (answer_on c image) 1 ≡ is_io (outcome (disc image) (tree c))
io-1 c image = ap (λ n. eqb n 1) (order c image) ∙ io-told (tells c) (outcome (disc image) (tree c))

pub missing : {A R : Type 0} (c : Call A R) (image : List ℕ) → eqb (answer_on c image) 1 ≡ lacking image (tree c)
missing c image = io-1 c image ∙ refused-missing image (never-by c 1 refl)

-- ---- RULES 2.10: a call that isn't refused by 1 leaves the same, whatever is added at the image's end, and one that is waits for the sector at its count

pub grown : {A R : Type 0} (c : Call A R) (image : List ℕ) → (answer_on c image ≡ 1 → ⊥) → (more : List ℕ) → leaves c (image ++ more) ≡ leaves c image
grown c image h more = ap (way c).told (grown-ran (tree c) (disc image) (disc (image ++ more)) (image-grown image more) (sym (io-1 c image) ∙ ne_eqb _ 1 h))

pub waits : {A R : Type 0} (c : Call A R) (image more : List ℕ) → answer_on c image ≡ 1 → count_on c image < 0xffff_ffff_ffff_ffff → Waits image (asked (disc (image ++ more)) (tree c)) (count_on c image)
waits c image more a k =
    let n : count_on c image ≡ length (asked (disc image) (tree c)) = omega (arith, counts c image) in
    rw n (refused-waits image (disc (image ++ more)) (image-grown image more) (never-by c 1 refl) (sym (io-1 c image) ∙ ap (λ j. eqb j 1) a))

-- ---- RULES 1.1, 1.5 and 1.6: every answer is in the table, and under any number but that of what is given the call leaves what is bare

pub listed : {A R : Type 0} (c : Call A R) (image : List ℕ) → may c (answer_on c image) ≡ true
unfolding Within
listed {A} c image = rw (order c image) (in_table (outcome (disc image) (tree c)) (refuses-within (λ why. may c (number why) ≡ true) refl (disc image) own))
  where
    third : (a b d e : Bool) → d ≡ true → (a || b || d || e) ≡ true
    third true b d e p = refl
    third false true d e p = refl
    third false false d e p = rw p

    fourth : (a b d e : Bool) → e ≡ true → (a || b || d || e) ≡ true
    fourth true b d e p = refl
    fourth false true d e p = refl
    fourth false false true e p = refl
    fourth false false false e p = p

    own : Refuses (λ why. may c (number why) ≡ true) Any (tree c)
    own = record { only = only-weaker (λ why p. fourth (eqb (number why) 0) (eqb (number why) 1) (eqb (number why) (way c).last) (says (spec c).row (number why)) p) (tree c) (said-by c).only }

    end : (t : Bool) → may c (pick t 0 (way c).last) ≡ true
    end true = refl
    end false = third (eqb (way c).last 0) (eqb (way c).last 1) (eqb (way c).last (way c).last) (says (spec c).row (way c).last) (eq-eqb (way c).last (way c).last refl)

    in_table : (o : Outcome A) → Within (λ why. may c (number why) ≡ true) o → may c (number_of (way c) o) ≡ true
    in_table (answered a) w = end ((way c).fits a)
    in_table (refused why) w = w

pub sound : {A R : Type 0} (c : Call A R) (image : List ℕ) → (answer_on c image ≡ (way c).holds → ⊥) → leaves c image ≡ (way c).bare (answer_on c image) (count_on c image)
unfolding ran
sound c image h = rw (order c image, counts c image) (bare-told (tells c) (outcome (disc image) (tree c)) _ (rw (order c image) at h))

-- ---- RULES 1.1 of 5 and 7: exactly when what would be given exceeds what was lent

pub short : {A R : Type 0} (c : Call A R) → ((way c).last ≡ 5) ⊎ ((way c).last ≡ 7) → (image : List ℕ) → eqb (answer_on c image) (way c).last ≡ exceeds (way c) (outcome (disc image) (tree c))
unfolding Within
short {A} c h image =
    ap (λ n. eqb n (way c).last) (order c image)
    ∙ by-memory (outcome (disc image) (tree c)) (refuses-within (λ why. number why ≡ (way c).last → ⊥) (early h) (disc image) (never-by c (way c).last (unsaid-by h)))
  where
    early : ((way c).last ≡ 5) ⊎ ((way c).last ≡ 7) → 1 ≡ (way c).last → ⊥
    early (inl e) q = omega arith
    early (inr e) q = omega arith

    unsaid-by : ((way c).last ≡ 5) ⊎ ((way c).last ≡ 7) → says (spec c).row (way c).last ≡ false
    unsaid-by (inl e) = rw e
    unsaid-by (inr e) = rw e

    late : ((way c).last ≡ 5) ⊎ ((way c).last ≡ 7) → eqb 0 (way c).last ≡ false
    late (inl e) = rw e
    late (inr e) = rw e

    fitting : (t : Bool) → eqb (pick t 0 (way c).last) (way c).last ≡ not t
    fitting true = late h
    fitting false = eq-eqb (way c).last (way c).last refl

    by-memory : (o : Outcome A) → Within (λ why. number why ≡ (way c).last → ⊥) o → eqb (number_of (way c) o) (way c).last ≡ exceeds (way c) o
    by-memory (answered a) w = fitting ((way c).fits a)
    by-memory (refused why) w = ne_eqb (number why) (way c).last w

-- ---- RULES 3.23 to 3.25: the call without the check of bodies

-- where bodies are checked both calls are one tree, in which it is marked where a descriptor is parsed
pub guards : {A R : Type 0} (c : Call A R) → (spec c).row.ten ≡ true → Guards right_at (tree c) (plain c)
guards (opens how) k = rw k (opening-guards how.highest how.maps)
guards (labels how out) k = rw k (labelling-guards how.highest how.maps)
guards (reads v icb out) k = bytes-guards v.mount k icb
guards (measures v icb) k = bytes-guards v.mount k icb
guards (parts v icb) k = part-guards v.mount k icb
guards (parts_at v icb) k = part-guards v.mount k icb
guards (extents f v icb row) k = extents-guards v.mount k icb
guards (runs v icb row) k = runs-guards v.mount k icb
guards (lists v icb out work) k = listing-guards v.mount k (length work) icb
guards (lists_bytes v bytes out) k = rw k (listed-guards bytes)
guards (shows v levels most out work) k = budgeted-guards most (tree-records-guards v.mount k levels (length work) v.root)
guards (finds v path matching work) k = lookup-guards v.mount k (length work) matching v.root path
guards (fails v path matching work) k = seeking-guards v.mount k (length work) matching v.root path
guards (fails_at v path matching work) k = seeking-guards v.mount k (length work) matching v.root path
guards (reads_path v path matching out work) k = path-guards v.mount k (length work) matching v.root path

module _ {A R : Type 0} (c : Call A R) (image : List ℕ) where
  bad-10 : eqb (answer_on c image) 10 ≡ is_bad (outcome (disc image) (tree c))
  bad-10 = ap (λ n. eqb n 10) (order c image) ∙ bad-told (tells c) (outcome (disc image) (tree c))

  -- 10 exactly when a descriptor that the call without the check parses has a wrong body
  pub wrong : (g : Guards right_at (tree c) (plain c)) → eqb (answer_on c image) 10 ≡ any_wrong right_at (parsed (disc image) g.tree)
  wrong g = bad-10 ∙ guards-bad g (disc image)

module _ {A R : Type 0} (c : Call A R) (k : (spec c).row.ten ≡ true) (image : List ℕ) where
  -- where it isn't refused by 10 it comes to the same, after as many sectors,
  pub checked-run : (answer_on c image ≡ 10 → ⊥) → ran (disc image) (tree c) ≡ ran (disc image) (plain c)
  unfolding ran
  checked-run h =
      let e : is_bad (outcome (disc image) (tree c)) ≡ false = sym (bad-10 c image) ∙ ne_eqb _ 10 h in
      λ i. record { outcome = guards-outcome (guards c k) (disc image) e i; count = length (guards-asked (guards c k) (disc image) e i) }

  -- and leaves the same
  pub checked : (answer_on c image ≡ 10 → ⊥) → leaves c image ≡ (way c).told (ran (disc image) (plain c))
  checked h = ap (way c).told (checked-run h)

  -- its list is a front of that call's
  pub front : Front (asked (disc image) (tree c)) (asked (disc image) (plain c))
  front = guards-front (guards c k) (disc image)
