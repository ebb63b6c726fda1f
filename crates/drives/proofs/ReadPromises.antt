-- What is promised of a file's read that is fed, on every disc, however row and output grow between its steps and whatever is taken away meanwhile: RULES 14.
-- Assumes nothing. StillPromises has the walk in which nothing grows, beside the read by its own contract.
--
--   the sectors wanted are a front of the read's list, and counted                                        front-wanted, count-told
--   what arrived is what was taken away and what stands in the output, in order; it is a front of the read's bytes    bytes-hold, bytes-front
--   5 exactly when a byte that arrives has no room at its step                                            short-five, five-short
--   7 exactly when an extent had no slot at the step that named it, once its area is accepted             short-seven, seven-short
--   any other answer is the read's own, after the very sectors of its list                                own-answer
--   an answered read has the read's bytes                                                                 done-reads
--   slots and room for the whole read are enough from the start on, however they grow                     ample
--   the row is zero when the read ends, however it ends                                                   row_zero
--   an answered read is over within 16,385 + L div 2,048 + E steps                                        steps-within
--   discs that agree on the sectors wanted give the same list, answer, count and bytes                    agreed-alike
--   every read ends, from whatever state                                                                  EndPromises read-ends, read-walks
use mathlib.Core.Path.{◌≡◌, refl, ap, sym, ◌∙◌}
use mathlib.Core.Bool.{false}
use mathlib.Core.List.{List, [], ◌++◌}
use Prim.Native.Nat.{ℕ, ◌+◌, ◌/◌, ◌≤◌}
use native.Mathlib.Nat.{zero-add, sub-zero}
use native.Mathlib.Omega.{arith}
use lib.ListN.{length, take, replicate, length-append, length-replicate}
use lib.Seq.{length-take-le}
use Rattle.disc.specs.Counts.{reported}
use Rattle.disc.specs.Ask.{Disc, Outcome, outcome, asked, Agree}
use Rattle.disc.specs.Ask.Outcome.{answered, refused}
use Rattle.disc.specs.Marks.{Front}
use Rattle.disc.specs.Ran.{ran}
use Rattle.disc.specs.Replies.{answer_of}
use Rattle.disc.specs.Images.{disc}
use Rattle.disc.specs.declared.places.Mount.{Mount}
use Rattle.disc.proofs.RanLaws.{never}
use Rattle.disc.proofs.RefusalLaws.{refusal-numbered}
use Rattle.records.specs.declared.allocations.LongAd.{LongAd}
use Rattle.files.specs.Files.{file_bytes, file_visited, visits_in}
use Rattle.files.proofs.Promises.{read-bound}
use Rattle.drives.specs.Feeds.{Feed, Grown, within, End, end_of, arrived, held_most, Short}
use Rattle.drives.specs.Feeds.End.{answers, refuses}
use Rattle.drives.specs.Feeds.Short.{enough, of_slots, of_room}
use Rattle.drives.specs.FileFeeds.{file_feed}
use Rattle.drives.specs.Told.{bounded_by, shortfall, Own, Done, ReadAlike, outcome_by}
use Rattle.drives.specs.Readings.{number_of, zeroed, Starts}
use Rattle.drives.specs.declared.readings.Reading.{Reading}
use Rattle.drives.proofs.WalkLaws.{same-feed}
use Rattle.drives.proofs.Walks.{number_by, Ready, Came, walk-comes}
use Rattle.drives.proofs.LimitLaws.{within-arrived, Whole, short_none, short-slots, short-room}
use Rattle.drives.proofs.RefusalLaws.{says-end, file-says}
use Rattle.drives.proofs.Promises.{feed-asked, feed-outcome, read-front, read-enough}
use Rattle.drives.specs.Walks.{Walk}

pub starts-long : {f : Feed} {row₀ row : List (List ℕ)} {r : Reading} → Starts f row₀ row r → length row ≡ length row₀
starts-long st = rw st.zeros (simp length-replicate)

-- where a read starts nothing has been wanted, and nothing stands in the output
pub starts-ready : {f : Feed} {row₀ row : List (List ℕ)} {r : Reading} → Starts f row₀ row r → (out : List ℕ) → Ready 0 r row out
starts-ready st out = record {
  counted = st.count;
  says = st.answer ∙ ap number_of (sym st.left);
  listed = λ w. rw (st.listed w) (omega arith);
  fits = rw st.filled (omega arith);
  clear = λ v. st.zeros ∙ ap (λ n. replicate n (replicate 4 0)) (sym (starts-long st));
}

module _ (d : Disc) (m : Mount) (icb : LongAd) {row₀ row row' : List (List ℕ)} {out out' ns taken : List ℕ} {gs : List Grown} {r q : Reading} (st : Starts (file_feed m icb) row₀ row r)
    (w : Walk d ns gs taken r row out q row' out') where
  pub came : Came d (bounded_by m icb row₀ out gs) 0 [] ns taken q row' out'
  came =
      let c = walk-comes w 0 (starts-ready st out) in
      rw (starts-long st, st.left, st.filled, sub-zero) at c

  -- the sectors wanted are always a front of the read's list; how many they are, held at 2^64 - 1, is the count
  pub front-wanted : Front ns (asked d (file_bytes m icb))
  front-wanted = rw came.list (read-front d m icb (length row₀) (length out) gs)

  pub count-told : q.count ≡ reported (length ns)
  count-told = came.count ∙ ap reported (zero-add (length ns))

  -- what arrived, also before a refusal, is what was taken away and behind it what stands at the front of the output; how many bytes stand there is told
  pub bytes-hold : taken ++ take q.length out' ≡ arrived d (bounded_by m icb row₀ out gs)
  bytes-hold = came.bytes

  pub bytes-told : length taken + q.length ≡ length (arrived d (bounded_by m icb row₀ out gs))
  bytes-told = sym (ap length (sym bytes-hold) ∙ length-append taken (take q.length out') ∙ ap (λ n. length taken + n) (length-take-le q.length out' came.fits))

  pub bytes-front : Front (taken ++ take q.length out') (arrived d (file_feed m icb))
  bytes-front = rw bytes-hold (within-arrived d false (length row₀) (length out) gs (file_feed m icb))

  -- the row is zero, however the read ended
  pub row_zero : row' ≡ zeroed row'
  row_zero = came.zeros

  -- slots and room for the whole read are enough, however they grow
  pub ample : held_most 0 d (file_feed m icb) ≤ length row₀ → length (arrived d (file_feed m icb)) ≤ length out → (shortfall d m icb row₀ out gs) ≡ enough
  ample h l = read-enough d m icb (length row₀) (length out) gs h l

  -- ---- nothing falls short: list, answer, count and bytes are the read's

  module _ (e : (shortfall d m icb row₀ out gs) ≡ enough) where
    whole : Whole d (file_feed m icb) (bounded_by m icb row₀ out gs)
    whole = short_none d false (length row₀) (length out) gs (file_feed m icb) e

    pub whole-list : ns ≡ asked d (file_bytes m icb)
    whole-list = came.list ∙ whole.asks ∙ feed-asked d m icb

    pub whole-answer : q.answer ≡ answer_of (outcome d (file_bytes m icb))
    whole-answer = came.answer ∙ ap number_by whole.ends ∙ by (end_of d (file_feed m icb)) ∙ ap answer_of (feed-outcome d m icb)
      where
        by : (e : End) → number_by e ≡ answer_of (outcome_by e (arrived d (file_feed m icb)))
        by answers = refl
        by (refuses why) = refl

    pub whole-count : q.count ≡ reported (ran d (file_bytes m icb)).count
    unfolding ran
    whole-count = count-told ∙ ap (λ x. reported (length x)) whole-list

    pub whole-bytes : {b : List ℕ} → outcome d (file_bytes m icb) ≡ answered b → arrived d (bounded_by m icb row₀ out gs) ≡ b
    whole-bytes {b} g = whole.gives ∙ by (end_of d (file_feed m icb)) (feed-outcome d m icb ∙ g)
      where
        by : (x : End) → outcome_by x (arrived d (file_feed m icb)) ≡ answered b → arrived d (file_feed m icb) ≡ b
        by answers p = cc
        by (refuses why) p = never p

    -- the read by itself says neither 5 nor 7
    pub whole-own : (q.answer ≡ 5 → ⊥) × (q.answer ≡ 7 → ⊥)
    whole-own = by (end_of d (file_feed m icb)) refl (came.answer ∙ ap number_by whole.ends)
      where
        by : (e : End) → end_of d (file_feed m icb) ≡ e → q.answer ≡ number_by e → (q.answer ≡ 5 → ⊥) × (q.answer ≡ 7 → ⊥)
        by answers g p = (λ x. omega arith, λ x. omega arith)
        by (refuses why) g p = let o = says-end d (file_feed m icb) (file-says m icb) g in (λ x. o.0 (sym p ∙ x), λ x. o.1 (sym p ∙ x))

  -- ---- 5 exactly when a byte has no room, 7 exactly when an extent has no slot

  pub short-five : (shortfall d m icb row₀ out gs) ≡ of_room → q.answer ≡ 5
  short-five e = came.answer ∙ ap number_by (short-room d false (length row₀) (length out) gs (file_feed m icb) e)

  pub short-seven : (shortfall d m icb row₀ out gs) ≡ of_slots → q.answer ≡ 7
  short-seven e = came.answer ∙ ap number_by (short-slots d false (length row₀) (length out) gs (file_feed m icb) e)

  pub five-short : q.answer ≡ 5 → (shortfall d m icb row₀ out gs) ≡ of_room
  five-short e = by (shortfall d m icb row₀ out gs) refl
    where
      by : (x : Short) → (shortfall d m icb row₀ out gs) ≡ x → (shortfall d m icb row₀ out gs) ≡ of_room
      by enough g = absurd ((whole-own g).0 e)
      by of_slots g = absurd (let z = short-seven g in omega arith)
      by of_room g = g

  pub seven-short : q.answer ≡ 7 → (shortfall d m icb row₀ out gs) ≡ of_slots
  seven-short e = by (shortfall d m icb row₀ out gs) refl
    where
      by : (x : Short) → (shortfall d m icb row₀ out gs) ≡ x → (shortfall d m icb row₀ out gs) ≡ of_slots
      by enough g = absurd ((whole-own g).1 e)
      by of_slots g = g
      by of_room g = absurd (let z = short-five g in omega arith)

  pub own-enough : (q.answer ≡ 5 → ⊥) → (q.answer ≡ 7 → ⊥) → (shortfall d m icb row₀ out gs) ≡ enough
  own-enough n5 n7 = by (shortfall d m icb row₀ out gs) refl
    where
      by : (x : Short) → (shortfall d m icb row₀ out gs) ≡ x → (shortfall d m icb row₀ out gs) ≡ enough
      by enough g = g
      by of_slots g = absurd (n7 (short-seven g))
      by of_room g = absurd (n5 (short-five g))

  -- any other answer, 0 among them, is the read's own, after the very sectors of its list
  pub own-answer : (q.answer ≡ 5 → ⊥) → (q.answer ≡ 7 → ⊥) → (Own d m icb ns q)
  own-answer n5 n7 = let e = own-enough n5 n7 in record { list = whole-list e; answer = whole-answer e; count = whole-count e }

  -- an answered read is the read
  pub done-reads : q.answer ≡ 0 → (Done d m icb ns taken out' q)
  done-reads e = by (outcome d (file_bytes m icb)) refl
    where
      own : (shortfall d m icb row₀ out gs) ≡ enough
      own = own-enough (λ x. omega arith) (λ x. omega arith)

      by : (o : Outcome (List ℕ)) → outcome d (file_bytes m icb) ≡ o → (Done d m icb ns taken out' q)
      by (answered b) g =
          let a = whole-bytes own g in
          record { bytes = b; reads = g; list = whole-list own; holds = bytes-hold ∙ a; told = bytes-told ∙ ap length a }
      by (refused why) g = absurd (refusal-numbered why (sym (whole-answer own ∙ ap answer_of g) ∙ e))

-- ---- the bound: a read answered with L bytes after E extents is over within 16,385 + L div 2,048 + E steps, a step being one sector lent or denied

pub steps-within : (image : List ℕ) (m : Mount) (icb : LongAd) {row₀ row row' : List (List ℕ)} {out out' ns taken : List ℕ} {gs : List Grown} {r q : Reading} → Starts (file_feed m icb) row₀ row r
    → Walk (disc image) ns gs taken r row out q row' out' → q.answer ≡ 0
    → length ns ≤ 16385 + (length taken + q.length) / 2048 + visits_in (ran (disc image) (file_visited m icb)).outcome
unfolding ran
steps-within image m icb st w e =
    let p = done-reads (disc image) m icb st w e in
    let b = read-bound image m icb p.bytes p.reads in
    rw (p.list, p.told) b

-- ---- discs that agree on the sectors wanted give the same list, answer, count and bytes, where row and output grow alike

pub agreed-alike : (d e : Disc) (m : Mount) (icb : LongAd) {row₀ row row₁ row₂ : List (List ℕ)} {out out₁ out₂ ns ns' taken taken' : List ℕ} {gs : List Grown} {r q q' : Reading}
    → Starts (file_feed m icb) row₀ row r → Walk d ns gs taken r row out q row₁ out₁ → Walk e ns' gs taken' r row out q' row₂ out₂ → Agree d e ns
    → ReadAlike ns ns' q q' (taken ++ take q.length out₁) (taken' ++ take q'.length out₂)
agreed-alike d e m icb {row₀} {out = out} {gs = gs} st v w a =
    let c = came d m icb st v in
    let g = came e m icb st w in
    let s = same-feed (within false (length row₀) (length out) gs (file_feed m icb)) d e (rw c.list at a) in
    let l = c.list ∙ s.list ∙ sym g.list in
    record {
      list = l;
      answer = c.answer ∙ ap number_by s.ends ∙ sym g.answer;
      count = c.count ∙ ap (λ x. reported (0 + length x)) l ∙ sym g.count;
      bytes = c.bytes ∙ s.bytes ∙ sym g.bytes;
    }
