-- A read, put together from its passes. Assumes nothing.
use Rattle.std.specs.Prelude.{Result, Ok, Err}
use mathlib.Core.Path.{◌≡◌, refl, ap, ◌∙◌}
use mathlib.Core.Bool.{true}
use mathlib.Core.List.{List, ◌++◌}
use Prim.Native.Nat.{ℕ, ◌+◌, ◌-◌, ◌≤◌, ◌<◌, min}
use native.Mathlib.Omega.{arith}
use lib.ListN.{length, take, drop, length-drop}
use lib.Seq.{length-take-le}
use borrow.Author.Tests.{le-leb, lt-leb}
use Rattle.disc.specs.Counts.{reported}
use Rattle.disc.specs.Refusals.{number}
use Rattle.disc.specs.Ask.{Outcome}
use Rattle.disc.specs.Ask.Outcome.{answered, refused}
use Rattle.disc.specs.Ran.{Ran, ran, after}
use Rattle.disc.specs.Images.{disc, bytes_of, is_answered}
use Rattle.disc.specs.Replies.{Replied}
use Rattle.disc.specs.declared.places.Mount.{Mount}
use Rattle.disc.specs.declared.refusals.Refusal.{Refusal}
use Rattle.disc.specs.declared.replies.Reply.{Reply}
use Rattle.disc.proofs.RanLaws.{ran-done, ran_then}
use Rattle.disc.proofs.ReplyLaws.{reply-refused}
use Rattle.records.specs.declared.allocations.LongAd.{LongAd}
use Rattle.chains.specs.Inner.Walks.{left}
use Rattle.chains.specs.declared.cursors.ChainCursor.{ChainCursor}
use Rattle.files.specs.declared.icbs.FilePlace.{FilePlace}
use Rattle.files.specs.declared.extents.Sizes.{Sizes}
use Rattle.files.specs.Files.{entry_mount, file_bytes}
use Rattle.files.specs.Inner.Pieces.{rest_at}
use Rattle.files.specs.Inner.Passes.{sized_by, sized, Measures, Copied}
use Rattle.files.specs.Inner.Passes.Came.{comes, stops}
use Rattle.files.specs.Inner.Wholes.{embedded_in, embedded_run, front_of, EmbeddedFile, ChainedFile, Resolves}
use Rattle.files.proofs.BoundLaws.{same_bytes}
use Rattle.disc.specs.declared.refusals.CountedRefusal.{CountedRefusal}
use Rattle.files.specs.declared.resolves.Resolved.TheVariants.{Embedded, Chained}
use Rattle.files.specs.declared.resolves.Resolved.{Resolved}

-- a reply is right where what is answered is right
pub replied-as : {full : Refusal} {r s : Ran (List ℕ)} → r ≡ s → {a b : List ℕ} {x : Reply} → Replied full s a b x → Replied full r a b x
replied-as e p = rw e p

-- ---- the bytes in the entry

module _ (full : Refusal) (image : List ℕ) (p : FilePlace) (h : p.at + p.size ≤ length image) {n : ℕ} (e : n ≡ min p.size p.information) (out : List ℕ) where
  long : length (embedded_in image p) ≡ n
  long = rw (← e) (length-take-le n (drop p.at image) (rw length-drop (omega arith)))

  pub embedded-full : length out < n → {m : ℕ} → m ≡ number full → {x : Reply} → x ≡ record { answer = m; count = 1; length = 0 }
      → Replied full (embedded_run image p) out out x
  embedded-full k f g = record { says = rw (long, lt-leb n (length out) k, g, f); leaves = rw (long, lt-leb n (length out) k) }

  pub embedded-source : n ≤ length image - p.at
  embedded-source = omega arith

  pub embedded-done : n ≤ length out → {z : List ℕ} → z ≡ take n (drop p.at image) ++ drop n out
      → Replied full (embedded_run image p) out z (record { answer = 0; count = 1; length = n })
  embedded-done k w = record { says = rw (long, le-leb n (length out) k); leaves = rw (long, le-leb n (length out) k) (w ∙ rw e) }

-- ---- the bytes of extents that were measured

pub record Told (r : Ran (List ℕ)) (size m : ℕ) : Type 0 where
  pub answers : is_answered r.outcome ≡ true
  pub is : size ≡ length (bytes_of r.outcome)
  pub count : m ≡ reported r.count

told-sized : (o : Outcome (List ℕ)) (j size m : ℕ) → comes size m ≡ sized_by 0 (reported (0 + j)) o → Told (record { outcome = o; count = j }) size m
told-sized (answered b) j size m e =
    let p : size ≡ 0 + length b = cc in
    let q : m ≡ reported (0 + j) = cc in
    record { answers = refl; is = omega arith; count = omega arith }
told-sized (refused a) j size m e = absurd (let z : ◌≡◌ {A = ℕ} 0 1 = cc in omega arith)

pub record ToldRefused (r : Ran (List ℕ)) (a : Refusal) (m : ℕ) : Type 0 where
  pub outcome : r.outcome ≡ refused a
  pub count : m ≡ reported r.count

told-refused : (o : Outcome (List ℕ)) (j : ℕ) (a : Refusal) (m : ℕ) → stops a m ≡ sized_by 0 (reported (0 + j)) o → ToldRefused (record { outcome = o; count = j }) a m
told-refused (answered b) j a m e = absurd (let z : ◌≡◌ {A = ℕ} 0 1 = cc in omega arith)
told-refused (refused b) j a m e =
    let q : m ≡ reported (0 + j) = cc in
    record { outcome = cc; count = omega arith }

-- an answer that fits, and one that doesn't
fits : (full : Refusal) (r : Ran (List ℕ)) (before after : List ℕ) → is_answered r.outcome ≡ true → length (bytes_of r.outcome) ≤ length before
    → after ≡ bytes_of r.outcome ++ drop (length (bytes_of r.outcome)) before
    → Replied full r before after (record { answer = 0; count = reported r.count; length = length (bytes_of r.outcome) })
fits full r before after h k w = by r.outcome h k w
  where
    by : (o : Outcome (List ℕ)) → is_answered o ≡ true → length (bytes_of o) ≤ length before → after ≡ bytes_of o ++ drop (length (bytes_of o)) before
        → Replied full (record { outcome = o; count = r.count }) before after (record { answer = 0; count = reported r.count; length = length (bytes_of o) })
    by (answered b) h k w = record { says = rw (le-leb _ _ k); leaves = rw (le-leb _ _ k) w }
    by (refused a) h k w = absurd (let z : ◌≡◌ {A = ℕ} 0 1 = cc in omega arith)

too_many : (full : Refusal) (r : Ran (List ℕ)) (before : List ℕ) → is_answered r.outcome ≡ true → length before < length (bytes_of r.outcome)
    → Replied full r before before (record { answer = number full; count = reported r.count; length = 0 })
too_many full r before h k = by r.outcome h k
  where
    by : (o : Outcome (List ℕ)) → is_answered o ≡ true → length before < length (bytes_of o)
        → Replied full (record { outcome = o; count = r.count }) before before (record { answer = number full; count = reported r.count; length = 0 })
    by (answered b) h k = record { says = rw (lt-leb _ _ k); leaves = rw (lt-leb _ _ k) }
    by (refused a) h k = absurd (let z : ◌≡◌ {A = ℕ} 0 1 = cc in omega arith)

-- t is what `measure` found
module _ (image : List ℕ) (v : Mount) (kind : ℕ) (first : ChainCursor) (want : ℕ) (t : Result Sizes CountedRefusal) (q : Measures image v kind first want t) where
  abbrev rest : ℕ → Ran (List ℕ)
  rest w = rest_at image v kind first w

  pub told-no : {why : Refusal} {j : ℕ} → t ≡ Err (record { why = why; count = j }) → ToldRefused (rest want) why j
  unfolding sized
  told-no {why} {j} f =
      let p : Measures image v kind first want (Err (record { why = why; count = j })) = rw f at q in
      told-refused (rest want).outcome (rest want).count why j p

  pub told-yes : {s : Sizes} → t ≡ Ok s → Told (rest want) s.size s.count
  unfolding sized
  told-yes {s} f =
      let p : Measures image v kind first want (Ok s) = rw f at q in
      told-sized (rest want).outcome (rest want).count s.size s.count p.came

  module _ (full : Refusal) (n : ℕ) (out : List ℕ) where
    pub whole-refused : {why : Refusal} {j : ℕ} → t ≡ Err (record { why = why; count = j }) → {a : ℕ} → a ≡ number why → {k : ℕ} → k ≡ reported (n + j) → {x : Reply} → x ≡ record { answer = a; count = k; length = 0 }
        → Replied full (after n (rest want)) out out x
    whole-refused {why} f g {k} h e =
        let d = told-no f in
        rw d.outcome (reply-refused why (n + (rest want).count) k (omega (arith, d.count)) (e ∙ rw g))

    module _ {s : Sizes} (f : t ≡ Ok s) {k : ℕ} (g : k ≡ reported (n + s.count)) where
      counted : reported (n + (rest want).count) ≡ k
      counted = let d = told-yes f in omega (arith, d.count)

      pub whole-full : length out < s.size → {a : ℕ} → a ≡ number full → {x : Reply} → x ≡ record { answer = a; count = k; length = 0 } → Replied full (after n (rest want)) out out x
      whole-full h d y =
          let c = told-yes f in
          rw (y, d, ← counted) (too_many full (after n (rest want)) out c.answers (omega (arith, c.is)))

      -- the copy wants as many bytes as were measured, which is all that the read answers
      same_outcome : (rest s.size).outcome ≡ (rest want).outcome
      same_outcome = by (rest want).outcome refl (told-yes f).answers (told-yes f).is
        where
          by : (o : Outcome (List ℕ)) → (rest want).outcome ≡ o → is_answered o ≡ true → s.size ≡ length (bytes_of o) → (rest s.size).outcome ≡ o
          by (answered b) e a i = rw i (same_bytes image v (left image v kind first) want b e)
          by (refused r) e a i = absurd (let z : ◌≡◌ {A = ℕ} 0 1 = cc in omega arith)

      pub whole-done : s.size ≤ length out → {z : List ℕ} → Copied (rest s.size) s.size out z → Replied full (after n (rest want)) out z (record { answer = 0; count = k; length = s.size })
      whole-done h {z} w =
          let c = told-yes f in
          let e = same_outcome in
          let a : is_answered (rest s.size).outcome ≡ true = rw e c.answers in
          let b : z ≡ bytes_of (rest want).outcome ++ drop (length (bytes_of (rest want).outcome)) out = rw (← e) (w.bytes a) in
          rw (← counted, c.is) (fits full (after n (rest want)) out z c.answers (omega (arith, c.is)) b)

-- ---- a file: r is what `resolve` found

module _ (full : Refusal) (image : List ℕ) (m : Mount) (icb : LongAd) (out : List ℕ) (r : Result Resolved CountedRefusal) (y : Resolves image m icb r) where
  abbrev file : Ran (List ℕ)
  file = ran (disc image) (file_bytes m icb)

  pub read-refused : {why : Refusal} {n : ℕ} → r ≡ Err (record { why = why; count = n }) → {a : ℕ} → a ≡ number why → {x : Reply} → x ≡ record { answer = a; count = n; length = 0 } → Replied full file out out x
  unfolding file_bytes
  read-refused {why} {n} e g f =
      let q : Resolves image m icb (Err (record { why = why; count = n })) = rw e at y in
      rw (ran_then, q.runs) (reply-refused why n n (omega (arith, q.few)) (f ∙ rw g))

  module _ {p : FilePlace} (e : r ≡ Ok (Embedded p)) where
    in_entry : EmbeddedFile image m icb p
    in_entry = rw e at y

    pub read-in : {z : List ℕ} {x : Reply} → Replied full (embedded_run image p) out z x → Replied full file out z x
    unfolding file_bytes
    read-in q = replied-as (rw (ran_then, in_entry.runs, ran-done, in_entry.bytes)) q

  module _ {p : FilePlace} {n : ℕ} (e : r ≡ Ok (Chained p n)) where
    in-chain : ChainedFile image m icb p n
    in-chain = rw e at y

    pub read_out : {own : Mount} → own ≡ entry_mount m icb → {front : ChainCursor} → front ≡ front_of p → {z : List ℕ} {x : Reply} → Replied full (after n (rest_at image own p.kind front p.information)) out z x
        → Replied full file out z x
    unfolding file_bytes
    read_out o g q =
        let w : p.information ≡ in-chain.entry.entry.information_length = ap (λ (x : FilePlace). x.information) in-chain.is in
        replied-as (rw (ran_then, in-chain.runs, ← w, o, g)) q

-- the entry's area, or the embedded file, lies in the image
pub place_inside : (image : List ℕ) (m : Mount) (icb : LongAd) (r : Result Resolved CountedRefusal) → Resolves image m icb r → {p : FilePlace} → r ≡ Ok (Embedded p) → p.at + p.size ≤ length image
place_inside image m icb r y {p} e = let q : EmbeddedFile image m icb p = rw e at y in q.inside

pub chain-little : (image : List ℕ) (m : Mount) (icb : LongAd) (r : Result Resolved CountedRefusal) → Resolves image m icb r → {p : FilePlace} {n : ℕ} → r ≡ Ok (Chained p n) → {front : ChainCursor} → front ≡ front_of p → front.left ≤ 2048
chain-little image m icb r y {p} {n} e g = let q : ChainedFile image m icb p n = rw e at y in rw g q.small
