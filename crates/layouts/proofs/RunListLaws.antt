-- The runs of a file, counted, listed and stored. Assumes nothing.
use Rattle.std.specs.Prelude.{Result, Ok, Err}
use mathlib.Core.Path.{◌≡◌, refl, ap, sym, ◌∙◌}
use mathlib.Core.List.{List, [], ◌∷◌, map}
use mathlib.Core.Logic.{⊎_elim}
use Prim.Native.Nat.{ℕ, zero, suc, ◌+◌, ◌-◌, ◌≤◌, ◌<◌, ◌^◌, min}
use native.Mathlib.Nat.{add-zero, zero-add}
use native.Mathlib.Numerals.{add-one}
use native.Mathlib.Omega.{arith}
use lib.ListN.{length, drop, set, length-append, length-drop, length-map, length-set, drop_of_length-le}
use lib.Seq.{length-take-le, sets, sets-eq}
use mir.Syntax.{w64}
use mir.Val.{Fits}
use borrow.Author.Tests.{le-leb, lt-leb}
use Rattle.disc.specs.Counts.{reported}
use Rattle.disc.specs.Refusals.{number}
use Rattle.disc.specs.Ask.{Outcome}
use Rattle.disc.specs.Ask.Outcome.{answered, refused}
use Rattle.disc.specs.Ran.{Ran, ran, each_in}
use Rattle.disc.specs.Images.{disc}
use Rattle.disc.specs.Replies.{reply_of, left_by}
use Rattle.disc.specs.declared.places.Mount.{Mount}
use Rattle.disc.specs.declared.refusals.Refusal.{Refusal}
use Rattle.disc.specs.declared.refusals.Refusal.TheVariants.{NoSlot}
use Rattle.disc.specs.declared.replies.Reply.{Reply}
use Rattle.disc.proofs.RanLaws.{ran-done, ran_then}
use Rattle.disc.proofs.ImageLaws.{split}
use Rattle.records.specs.declared.allocations.LongAd.{LongAd}
use Rattle.chains.specs.Inner.Walks.{left, weight}
use Rattle.chains.specs.declared.cursors.ChainCursor.{ChainCursor}
use Rattle.files.specs.declared.icbs.FilePlace.{FilePlace}
use Rattle.files.specs.declared.pieces.Turn.{Turn}
use Rattle.files.specs.declared.pieces.Turn.TheVariants.{Piece, Hop, Refused as Stopped, End}
use Rattle.files.specs.Files.{entry_mount, part_of}
use Rattle.files.specs.Files.File.{embedded}
use Rattle.files.specs.Inner.Pieces.{PieceTurn, HopTurn, EndTurn, Turned}
use Rattle.files.specs.Inner.Turns.{turn_at}
use Rattle.files.proofs.TurnLaws.{turned}
use Rattle.files.specs.Inner.Passes.{Came, sized_by, sized}
use Rattle.files.specs.Inner.Passes.Came.{comes, stops}
use Rattle.files.specs.Inner.Wholes.{embedded_in, front_of, EmbeddedFile, ChainedFile, Resolves}
use Rattle.layouts.specs.declared.runs.Run.{Run}
use Rattle.layouts.specs.Runs.{run_here, file_runs, pair_of, RunsListed}
use Rattle.layouts.specs.declared.runs.Running.{Running}
use Rattle.layouts.specs.Inner.RunLists.{runs_at, runs_in, counted_by, RunFront, RunStands, RunsLeft, RunsPlanned, alone_by, entry_run, EntryPlanned, chain_runs}
use Rattle.layouts.proofs.ListLaws.{At, at, Fit, fit, reply-each, stored}
use Rattle.layouts.proofs.RunLaws.{before_runs, joined_runs, here-long, runs-refused, none-wanted, turn_end, turn-piece}
use Rattle.disc.specs.Parts.{Bytes}
use Rattle.layouts.specs.declared.runs.RunCount.{RunCount}
use Rattle.disc.specs.declared.refusals.CountedRefusal.{CountedRefusal}
use Rattle.files.specs.declared.resolves.Resolved.TheVariants.{Embedded, Chained}
use Rattle.files.specs.declared.resolves.Resolved.{Resolved}

-- ---- how many, piece by piece

two-parts : {a b c d : ℕ} → a ≡ b → c ≡ d → comes a c ≡ comes b d
two-parts p q = rw (p, q)

module _ (b : List Run) (j : ℕ) (e : length b ≡ j) (runs count n : ℕ) where
  counted-front : (o : Outcome (List Run)) (c : ℕ)
      → sized runs count (record { outcome = before_runs b o; count = n + c }) ≡ sized (runs + j) (reported (count + n)) (record { outcome = o; count = c })
  unfolding sized
  counted-front (answered a) c = two-parts (rw (length-append, e) (omega arith)) (omega arith)
  counted-front (refused a) c = ap (stops a) (omega arith)

  module _ (k want : ℕ) (r : Ran (List Run)) where
    counted-more : k < want → sized runs count (joined_runs b n k want r) ≡ sized (runs + j) (reported (count + n)) r
    counted-more h = rw (lt-leb want k h) (counted-front r.outcome r.count)

    counted-enough : want ≤ k → sized runs count (joined_runs b n k want r) ≡ comes (runs + j) (reported (count + n))
    unfolding sized
    counted-enough h = rw (le-leb want k h, e)

-- ---- the loop that counts

module _ (image : List ℕ) (m : Mount) (kind want : ℕ) (c₀ : ChainCursor) where
  abbrev whole : Came
  whole = sized 0 0 (runs_at image m kind c₀ want)

  pub record Counting (c : ChainCursor) (missing runs count : ℕ) : Type 0 where
    pub rest : sized runs count (runs_at image m kind c missing) ≡ whole
    pub room : runs + weight c ≤ weight c₀
    pub deep : weight c₀ < 2 ^ 63
    pub counts : count < 2 ^ 64
    pub known : Bytes image

  pub count-starts : c₀.left ≤ 2048 → c₀.hops < 2 ^ 8 → Bytes image → Counting c₀ want 0 0
  count-starts l h b = record { rest = refl; room = omega arith; deep = omega arith; counts = omega arith; known = b }

  module _ (c : ChainCursor) (missing runs count : ℕ) (i : Counting c missing runs count) {t : Turn} (gave : t ≡ turn_at image m kind c missing) where
    counted-turn : Turned image m kind c missing t
    counted-turn = turned image m kind c missing i.known gave

    pub count-end : t ≡ End → counted_by (Ok (record { runs = runs; count = count })) ≡ whole
    unfolding sized
    count-end e =
        let q : EndTurn image m kind c missing = rw e at counted-turn in
        let n : reported (count + 0) ≡ count = omega (arith, i.counts) in
        (rw (turn_end image m kind c missing q.list, n, add-zero) at i.rest)

    pub count-refused : {a : Refusal} {n k : ℕ} → t ≡ Stopped a n → k ≡ reported (count + n) → counted_by (Err (record { why = a; count = k })) ≡ whole
    unfolding sized
    count-refused {a} {n} {k} e f =
        let q : Turned image m kind c missing (Stopped a n) = rw e at counted-turn in
        (rw (runs-refused image m (left image m kind c) missing q, ← f) at i.rest)

    module _ {c' : ChainCursor} (e : t ≡ Hop c') where
      hops : HopTurn image m kind c missing c'
      hops = rw e at counted-turn

      pub count-hop : Counting c' missing runs count
      count-hop = record { rest = (rw hops.list at i.rest); room = omega (arith, i.room, hops.less); deep = i.deep; counts = i.counts; known = i.known }

      pub count-hop-less : weight c' < weight c
      count-hop-less = hops.less

    module _ {from n k : ℕ} {c' : ChainCursor} (e : t ≡ Piece from n k c') where
      turn : PieceTurn image m kind c missing from n k c'
      turn = rw e at counted-turn

      pub count_less : weight c' < weight c
      count_less = turn.less

      module _ {j : ℕ} (g : j ≡ min k 1) where
        pub count-adds : Fits w64 (runs + j)
        count-adds = omega (arith, i.room, i.deep, turn.less)

        one : length (run_here from k) ≡ j
        one = here-long from k ∙ sym g

        module _ {h : ℕ} (f : h ≡ reported (count + n)) where
          pub count-enough : missing ≤ k → counted_by (Ok (record { runs = (runs + j); count = h })) ≡ whole
          count-enough l =
              rw (f, ← counted-enough (run_here from k) j one runs count n k missing (runs_at image m kind c' (missing - k)) l, ← turn-piece image m kind c missing turn) i.rest

          pub count_next : k < missing → Counting c' (missing - k) (runs + j) h
          count_next l = record {
            rest = rw (f, ← counted-more (run_here from k) j one runs count n k missing (runs_at image m kind c' (missing - k)) l, ← turn-piece image m kind c missing turn) i.rest;
            room = omega (arith, i.room, turn.less);
            deep = i.deep;
            counts = omega arith;
            known = i.known;
          }

-- ---- the loop that finds the next run

-- any listing stands for no runs
stands-empty : (image : List ℕ) {rs : List Run} → rs ≡ [] → {reply : Reply} {l : Running} → l.reply ≡ reply → RunStands image rs reply l
stands-empty image h e = record { same = e; next = λ x rest k. absurd (let z : ◌≡◌ {A = ℕ} 0 1 = cc in omega arith) }

alone-says : {m : Mount} {x y : ℕ} {reply : Reply} {l : Running} → l ≡ alone_by m x y reply → l.reply ≡ reply
alone-says e = rw e

before-none : (o : Outcome (List Run)) → runs_in (before_runs [] o) ≡ runs_in o
before-none (answered rs) = refl
before-none (refused r) = refl

module _ (image : List ℕ) (m : Mount) (kind want : ℕ) (c₀ : ChainCursor) where
  pub record Walking (c : ChainCursor) : Type 0 where
    pub list : runs_in (runs_at image m kind c want).outcome ≡ runs_in (runs_at image m kind c₀ want).outcome
    pub known : Bytes image

  pub walk-starts : Bytes image → Walking c₀
  walk-starts b = record { list = refl; known = b }

  module _ (c : ChainCursor) (w : Walking c) {t : Turn} (gave : t ≡ turn_at image m kind c want) where
    walked-turn : Turned image m kind c want t
    walked-turn = turned image m kind c want w.known gave

    pub walk_end : t ≡ End → {reply : Reply} {x y : ℕ} {l : Running} → l ≡ alone_by m x y reply → RunsLeft image m kind c₀ want reply l
    walk_end e f =
        let q : EndTurn image m kind c want = rw e at walked-turn in
        stands-empty image (sym w.list ∙ rw (turn_end image m kind c want q.list)) (alone-says f)

    pub walk_refused : {a : Refusal} {n : ℕ} → t ≡ Stopped a n → {reply : Reply} {x y : ℕ} {l : Running} → l ≡ alone_by m x y reply → RunsLeft image m kind c₀ want reply l
    walk_refused {a} {n} e f =
        let q : Turned image m kind c want (Stopped a n) = rw e at walked-turn in
        stands-empty image (sym w.list ∙ rw (runs-refused image m (left image m kind c) want q)) (alone-says f)

    module _ {c' : ChainCursor} (e : t ≡ Hop c') where
      steps : HopTurn image m kind c want c'
      steps = rw e at walked-turn

      pub walk-hop : Walking c'
      walk-hop = record { list = (rw steps.list at w.list); known = w.known }

      pub walk-hop-less : weight c' < weight c
      walk-hop-less = steps.less

    module _ {from n k : ℕ} {c' : ChainCursor} (e : t ≡ Piece from n k c') where
      piece : PieceTurn image m kind c want from n k c'
      piece = rw e at walked-turn

      pub walk-less : weight c' < weight c
      walk-less = piece.less

      pub walk-cut : k ≤ want
      walk-cut = piece.lies.small

      -- no byte is wanted
      pub walk_none : want ≡ 0 → {reply : Reply} {x y : ℕ} {l : Running} → l ≡ alone_by m x y reply → RunsLeft image m kind c₀ want reply l
      walk_none z f = stands-empty image (sym w.list ∙ rw z (none-wanted image m (left image m kind c))) (alone-says f)

      -- the extent has none
      pub walk-next : k ≡ 0 → (want ≡ 0 → ⊥) → Walking c'
      walk-next z h =
          let s : want - 0 ≡ want = omega arith in
          let l : 0 < want = omega arith in
          let q : runs_at image m kind c want ≡ joined_runs (run_here from 0) n 0 want (runs_at image m kind c' (want - 0)) = (rw z at (turn-piece image m kind c want piece)) in
          record { list = sym (before-none (runs_at image m kind c' want).outcome) ∙ sym (ap (λ (x : Ran (List Run)). runs_in x.outcome) q ∙ rw (lt-leb want 0 l, s)) ∙ w.list; known = w.known }

      -- it has some
      module _ (z : k ≡ 0 → ⊥) (reply : Reply) where
        abbrev found : Running
        found = record { reply = reply; mount = m; kind = kind; at = from; length = k; behind = c'; want = want - k }

        one-run : run_here from k ≡ record { at = from; length = k } ∷ []
        one-run = by k z
          where
            by : (x : ℕ) → (x ≡ 0 → ⊥) → run_here from x ≡ record { at = from; length = x } ∷ []
            by zero u = absurd (u refl)
            by (suc x) u = refl

        fronts : (r : Run) (rest : List Run) → runs_in (joined_runs (run_here from k) n k want (runs_at image m kind c' (want - k))).outcome ≡ r ∷ rest → RunFront image r rest found
        fronts r rest q = ⊎_elim
            (λ (h : want ≤ k).
            let s : want - k ≡ 0 = omega arith in
            let g : record { at = from; length = k } ∷ [] ≡ r ∷ rest = (rw (le-leb want k h, one-run) at q) in
            let u : ◌≡◌ {A = List Run} [] rest = cc in
            record { at = cc; length = cc; behind = rw s (none-wanted image m (left image m kind c')) ∙ u })
            (λ (h : k < want). more (runs_at image m kind c' (want - k)).outcome refl (rw (lt-leb want k h, one-run) at q))
            (split want k)
          where
            more : (o : Outcome (List Run)) → (runs_at image m kind c' (want - k)).outcome ≡ o → runs_in (before_runs (record { at = from; length = k } ∷ []) o) ≡ r ∷ rest → RunFront image r rest found
            more (answered rs) f g = record { at = cc; length = cc; behind = rw f cc }
            more (refused why) f g = absurd (let u : ◌≡◌ {A = ℕ} 0 1 = cc in omega arith)

        pub walk-found : RunsLeft image m kind c₀ want reply (record { reply = reply; mount = m; kind = kind; at = from; length = k; behind = c'; want = want - k })
        walk-found = record {
          same = refl;
          next = λ r rest q. fronts r rest (sym (ap (λ (x : Ran (List Run)). runs_in x.outcome) (turn-piece image m kind c want piece)) ∙ w.list ∙ q);
        }

-- ---- the returns of `plan_entry`

module _ (m : Mount) (p : FilePlace) (room : ℕ) {n : ℕ} (e : n ≡ min p.size p.information) {runs : ℕ} (f : runs ≡ min n 1) where
  entry-long : length (run_here p.at n) ≡ runs
  entry-long = here-long p.at n ∙ sym f

  pub entry-full : room < runs → {a : ℕ} → a ≡ number NoSlot → {x : Reply} → x ≡ record { answer = a; count = 1; length = 0 } → {l : Running} → l ≡ alone_by m 0 0 x → EntryPlanned p room l
  entry-full h g j k = record { on = λ image. rw (← e, entry-long, lt-leb runs room h) (stands-empty image refl (alone-says k ∙ j ∙ rw g)) }

  alone-front : (image : List ℕ) (reply : Reply) (k : ℕ) (r : Run) (rest : List Run) → run_here p.at k ≡ r ∷ rest → RunFront image r rest (alone_by m p.at k reply)
  alone-front image reply zero r rest q = absurd (let z : ◌≡◌ {A = ℕ} 0 1 = cc in omega arith)
  alone-front image reply (suc k) r rest q =
      let u : ◌≡◌ {A = List Run} [] rest = cc in
      record { at = cc; length = cc; behind = none-wanted image m (left image m 0 (record { at = 0; left = 0; hops = 0 })) ∙ u }

  pub entry_done : runs ≤ room → {l : Running} → l ≡ alone_by m p.at n (record { answer = 0; count = 1; length = runs }) → EntryPlanned p room l
  entry_done h k = record {
    on = λ image. rw (← e, entry-long, le-leb runs room h, k) (record { same = refl; next = alone-front image (record { answer = 0; count = 1; length = runs }) n });
  }

-- ---- the returns of `plan_chain`: t is what `count_runs` found

record Told (r : Ran (List Run)) (runs j : ℕ) : Type 0 where
  list : List Run
  is : r.outcome ≡ answered list
  long : runs ≡ length list
  count : j ≡ reported r.count

told-counted : (o : Outcome (List Run)) (c runs j : ℕ) → comes runs j ≡ sized_by 0 (reported (0 + c)) o → Told (record { outcome = o; count = c }) runs j
told-counted (answered b) c runs j e =
    let p : runs ≡ 0 + length b = cc in
    let q : j ≡ reported (0 + c) = cc in
    record { list = b; is = refl; long = omega arith; count = omega arith }
told-counted (refused a) c runs j e = absurd (let z : ◌≡◌ {A = ℕ} 0 1 = cc in omega arith)

record ToldRefused (r : Ran (List Run)) (why : Refusal) (j : ℕ) : Type 0 where
  is : r.outcome ≡ refused why
  count : j ≡ reported r.count

told-refused : (o : Outcome (List Run)) (c : ℕ) (why : Refusal) (j : ℕ) → stops why j ≡ sized_by 0 (reported (0 + c)) o → ToldRefused (record { outcome = o; count = c }) why j
told-refused (answered b) c why j e = absurd (let z : ◌≡◌ {A = ℕ} 0 1 = cc in omega arith)
told-refused (refused a) c why j e =
    let q : j ≡ reported (0 + c) = cc in
    record { is = cc; count = omega arith }

pub chain-little : (p : FilePlace) {front : ChainCursor} → front ≡ front_of p → p.size ≤ 2048 → front.left ≤ 2048
chain-little p g h = rw g h

module _ (image : List ℕ) (v : Mount) (p : FilePlace) (n room : ℕ) {front : ChainCursor} (g : front ≡ front_of p) (t : Result RunCount CountedRefusal)
    (q : counted_by t ≡ sized 0 0 (runs_at image v p.kind front p.information)) where
  abbrev rest : Ran (List Run)
  rest = runs_at image v p.kind (front_of p) p.information

  counts-as : counted_by t ≡ sized 0 0 rest
  counts-as = rw g at q

  pub chain-refused : {why : Refusal} {j : ℕ} → t ≡ Err (record { why = why; count = j }) → {a : ℕ} → a ≡ number why → {k : ℕ} → k ≡ reported (n + j) → {x : Reply} → x ≡ record { answer = a; count = k; length = 0 }
      → {l : Running} → l ≡ alone_by v 0 0 x → RunsPlanned image (chain_runs image v p n) room l
  unfolding sized
  chain-refused {why} {j} f a {k} h e u =
      let d = told-refused rest.outcome rest.count why j (rw f at counts-as) in
      let c : k ≡ reported (n + rest.count) = omega (arith, d.count) in
      rw d.is (stands-empty image refl (alone-says u ∙ e ∙ rw (a, c)))

  module _ {runs j : ℕ} (f : t ≡ Ok (record { runs = runs; count = j })) {k : ℕ} (h : k ≡ reported (n + j)) where
    told : Told rest runs j
    unfolding sized
    told = told-counted rest.outcome rest.count runs j (rw f at counts-as)

    counted : reported (n + rest.count) ≡ k
    counted = let d = told in omega (arith, d.count)

    pub chain-full : room < runs → {a : ℕ} → a ≡ number NoSlot → {x : Reply} → x ≡ record { answer = a; count = k; length = 0 } → {l : Running} → l ≡ alone_by v 0 0 x
        → RunsPlanned image (chain_runs image v p n) room l
    chain-full s a e u =
        let d = told in
        rw (d.is, ← d.long, lt-leb runs room s, counted) (stands-empty image refl (alone-says u ∙ e ∙ rw a))

    pub chain-done : runs ≤ room → {front' : ChainCursor} → front' ≡ front_of p → {l : Running} → RunsLeft image v p.kind front' p.information (record { answer = 0; count = k; length = runs }) l
        → RunsPlanned image (chain_runs image v p n) room l
    chain-done s e {l} y =
        let d = told in
        let z : RunStands image d.list (record { answer = 0; count = k; length = runs }) l = (rw (e, d.is) at y) in
        rw (d.is, ← d.long, le-leb runs room s, counted) z

-- ---- the returns of `plan_runs`: r is what `resolve` found

entry_runs : (image : List ℕ) (m : Mount) (icb : LongAd) {p : FilePlace} → EmbeddedFile image m icb p → ran (disc image) (file_runs m icb) ≡ entry_run p
unfolding file_runs
entry_runs image m icb {p} q =
    let l : length (embedded_in image p) ≡ min p.size p.information = length-take-le _ (drop p.at image) (rw length-drop (omega (arith, q.inside))) in
    let s : (part_of (embedded q.entry)).at ≡ p.at = sym (ap (λ (x : FilePlace). x.at) q.is) in
    rw (ran_then, q.runs, ran-done, q.bytes, l, s)

module _ (image : List ℕ) (m : Mount) (icb : LongAd) (r : Result Resolved CountedRefusal) (y : Resolves image m icb r) (room : ℕ) where
  abbrev file : Ran (List Run)
  file = ran (disc image) (file_runs m icb)

  pub plan-refused : {why : Refusal} {n : ℕ} → r ≡ Err (record { why = why; count = n }) → {a : ℕ} → a ≡ number why → {x : Reply} → x ≡ record { answer = a; count = n; length = 0 } → {l : Running} → l ≡ alone_by m 0 0 x
      → RunsPlanned image file room l
  unfolding file_runs
  plan-refused {why} {n} e a f u =
      let q : Resolves image m icb (Err (record { why = why; count = n })) = rw e at y in
      let z : reported n ≡ n = omega (arith, q.few) in
      rw (ran_then, q.runs, z) (stands-empty image refl (alone-says u ∙ f ∙ rw a))

  pub plan-in : {p : FilePlace} → r ≡ Ok (Embedded p) → {l : Running} → EntryPlanned p room l → RunsPlanned image file room l
  plan-in {p} e h = let q : EmbeddedFile image m icb p = rw e at y in rw (entry_runs image m icb q) (h.on image)

  module _ {p : FilePlace} {n : ℕ} (e : r ≡ Ok (Chained p n)) where
    in-chain : ChainedFile image m icb p n
    in-chain = rw e at y

    pub plan-small : p.size ≤ 2048
    plan-small = in-chain.small

    pub plan-out : {own : Mount} → own ≡ entry_mount m icb → {l : Running} → RunsPlanned image (chain_runs image own p n) room l → RunsPlanned image file room l
    unfolding file_runs
    plan-out o q =
        let i : p.information ≡ in-chain.entry.entry.information_length = ap (λ (x : FilePlace). x.information) in-chain.is in
        rw (ran_then, in-chain.runs, ← i, ← o) q

-- ---- the loop that stores: what is stored and what is left to store are all there is

record Storing (image : List ℕ) (r : Ran (List Run)) (d₀ d : List (List ℕ)) (l : Running) (n i : ℕ) : Type 0 where
  stands : RunStands image (drop i (stored r d₀)) (reply_of NoSlot (length d₀) r) l
  rest : sets d i (map pair_of (drop i (stored r d₀))) ≡ sets d₀ 0 (map pair_of (stored r d₀))
  long : length d ≡ length d₀
  many : n ≡ length (stored r d₀)

module _ (image : List ℕ) (r : Ran (List Run)) (d₀ : List (List ℕ)) where
  abbrev fitted : Fit pair_of d₀ (stored r d₀) (left_by d₀ (each_in pair_of r.outcome)) (reply_of NoSlot (length d₀) r)
  fitted = fit pair_of d₀ (reported r.count) r.outcome

  store-starts : {l : Running} → RunsPlanned image r (length d₀) l → Storing image r d₀ d₀ l l.reply.length 0
  store-starts p = record { stands = p; rest = refl; long = refl; many = ap (λ (x : Reply). x.length) p.same ∙ fitted.counts }

  module _ {d : List (List ℕ)} {l : Running} {n i : ℕ} (s : Storing image r d₀ d l n i) where
    store-ends : n ≤ i → RunsListed r d₀ d l.reply
    store-ends h =
        let past : drop i (stored r d₀) ≡ [] = drop_of_length-le (stored r d₀) {i = i} (omega (arith, s.many)) in
        let all : d ≡ sets d₀ 0 (map pair_of (stored r d₀)) = rw past at s.rest in
        let room : 0 + length (map pair_of (stored r d₀)) ≤ length d₀ = rw (zero-add, length-map) fitted.fits in
        record {
          says = s.stands.same ∙ sym (reply-each pair_of (length d₀) (reported r.count) r.outcome);
          leaves = all ∙ sets-eq (map pair_of (stored r d₀)) d₀ 0 room ∙ rw (zero-add, length-map) (sym fitted.leaves);
        }

    module _ (h : i < n) where
      abbrev here : At (stored r d₀) i
      here = at (stored r d₀) i (omega (arith, s.many))

      abbrev front : RunFront image here.e (drop (suc i) (stored r d₀)) l
      front = s.stands.next here.e (drop (suc i) (stored r d₀)) here.is

      store-slot : i < length d
      store-slot = omega (arith, s.many, s.long, fitted.fits)

      store-next : {l' : Running} → RunsLeft image l.mount l.kind l.behind l.want l.reply l' → Storing image r d₀ (set d i (l.at ∷ l.length ∷ [])) l' n (i + 1)
      store-next t = rw (add-one, front.at, front.length) (record {
        stands = rw (s.stands.same, front.behind) at t;
        rest = rw here.is at s.rest;
        long = rw length-set s.long;
        many = s.many;
      })

-- the run is known only from the listing that the loop began with
pub record Stores (image : List ℕ) (l₀ : Running) (d₀ d : List (List ℕ)) (l : Running) (n i : ℕ) : Type 0 where
  whole : (r : Ran (List Run)) → RunsPlanned image r (length d₀) l₀ → Storing image r d₀ d l n i

pub stores-start : (image : List ℕ) (l : Running) (d : List (List ℕ)) → Stores image l d d l l.reply.length 0
stores-start image l d = record { whole = λ r p. store-starts image r d p }

module _ (image : List ℕ) (r : Ran (List Run)) (l₀ : Running) (d₀ : List (List ℕ)) (p : RunsPlanned image r (length d₀) l₀)
    {d : List (List ℕ)} {l : Running} {n i : ℕ} (s : Stores image l₀ d₀ d l n i) where
  pub stores-slot : i < n → i < length d
  stores-slot h = store-slot image r d₀ (s.whole r p) h

  pub stores-long : length d ≡ length d₀
  stores-long = (s.whole r p).long

  -- that a slot's number and its place in bytes fit is known of the row as it was lent
  pub stores-below : i < n → i < length d₀
  stores-below h = omega (arith, stores-slot h, stores-long)

  pub stores-adds : i < n → length d₀ < 2 ^ 64 → Fits w64 (i + 1)
  stores-adds h k = omega (arith, stores-below h)

  pub stores-end : n ≤ i → RunsListed r d₀ d l.reply
  stores-end h = store-ends image r d₀ (s.whole r p) h

pub stores-next : (image : List ℕ) (l₀ : Running) (d₀ : List (List ℕ)) {d : List (List ℕ)} {l : Running} {n i : ℕ} → Stores image l₀ d₀ d l n i → i < n
    → {l' : Running} → RunsLeft image l.mount l.kind l.behind l.want l.reply l' → Stores image l₀ d₀ (set d i (l.at ∷ l.length ∷ [])) l' n (i + 1)
stores-next image l₀ d₀ s h t = record { whole = λ r p. store-next image r d₀ (s.whole r p) h t }
