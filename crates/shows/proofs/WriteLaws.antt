-- The second pass of a show: records written one behind another. Assumes nothing.
use mathlib.Core.Path.{◌≡◌, refl, sym, ap, ◌∙◌}
use mathlib.Core.Bool.{Bool, true, false}
use mathlib.Core.List.{List, [], ◌∷◌, ◌++◌}
use Prim.Native.Nat.{ℕ, suc, ◌+◌, ◌-◌, ◌*◌, ◌≤◌, ◌<◌, ◌^◌}
use native.Mathlib.Numerals.{add-one}
use native.Mathlib.Omega.{arith}
use lib.ListN.{length, take, drop, length-append, length-take, length-drop}
use lib.Seq.{sets, length-take-le}
use borrow.Rule.Slice.PartMut.{mid_of, put_mid}
use mir.Syntax.{w64}
use mir.Val.{Fits}
use Rattle.disc.specs.Choice.{pick}
use Rattle.disc.specs.Parts.{Bytes}
use Rattle.disc.specs.Places.{is_checked}
use Rattle.disc.specs.Ask.{Disc, Ask, Outcome, then, ended}
use Rattle.disc.specs.Ask.Outcome.{answered, refused}
use Rattle.disc.specs.Ran.{Ran, ran, onward, told}
use Rattle.disc.specs.declared.places.Mount.{Mount}
use Rattle.disc.specs.declared.refusals.Refusal.TheVariants.{TooDeep}
use Rattle.disc.specs.declared.replies.Reply.{Reply}
use Rattle.disc.proofs.MoveLaws.{sets-append}
use Rattle.disc.proofs.RanLaws.{ran-done, ran-refuse, ran_then, ran-ended, never}
use Rattle.records.specs.Allocations.{long_of}
use Rattle.records.specs.declared.allocations.LongAd.{LongAd}
use Rattle.identifiers.specs.Identifiers.{is_directory}
use Rattle.listings.specs.Entries.{Entry, entry_read, is_skipped, entries}
use Rattle.listings.proofs.EntryLaws.{tail-over, Known}
use Rattle.listings.proofs.GuardLaws.{entries-unchecked}
use Rattle.listings.proofs.WalkLaws.{at-end}
use Rattle.directories.specs.Directories.{directory_bytes}
use Rattle.directories.specs.Inner.Spaces.{Reads}
use Rattle.directories.proofs.SpaceLaws.{reply-bytes}
use Rattle.shows.specs.Shows.{Node, nodes_of, nodes_at, node_record, node_records}
use Rattle.shows.specs.Inner.Turns.{opening, turn_of}
use Rattle.shows.specs.Inner.Writes.{own_record, NodePuts, Writes, EntryWrites}
use Rattle.shows.specs.declared.nodes.NodePut.{NodePut}
use Rattle.shows.specs.declared.writing.WriteTurn.{WriteTurn}
use Rattle.shows.proofs.TurnLaws.{level-opening, part_of, raw-long, part-long, first_read, turned}
use Rattle.shows.proofs.VisitedLaws.{joined, turn-joined, turn-skipped, turn-file, turn-directory, records-joined, records-one}

-- ---- parts behind each other

-- two runs whose lists are joined are both answered
record Both (r k : Ran (List Node)) (ns : List Node) : Type 0 where
  a : List Node
  b : List Node
  first : r.outcome ≡ answered a
  second : k.outcome ≡ answered b
  all : ns ≡ a ++ b

both : (r k : Ran (List Node)) {ns : List Node} → (joined r k).outcome ≡ answered ns → Both r k ns
both r k {ns} e = by r.outcome refl k.outcome refl e
  where
    by : (o : Outcome (List Node)) → r.outcome ≡ o → (o' : Outcome (List Node)) → k.outcome ≡ o' → (onward o r.count (λ a. onward o' k.count (λ b. told (answered (a ++ b))))).outcome ≡ answered ns → Both r k ns
    by (answered a) f (answered b) g e = record { a = a; b = b; first = f; second = g; all = cc }
    by (answered a) f (refused why) g e = never e
    by (refused why) f o' g e = never e

joined-long : (a b : List Node) → length (node_records (a ++ b)) ≡ length (node_records a) + length (node_records b)
joined-long a b = rw (records-joined a b, length-append)

pub writes-joined : {r : Ran (List Node)} {from : ℕ} {d d₁ : List ℕ} {mid : ℕ} → Writes r from d d₁ mid → length d₁ ≡ length d → {k : Ran (List Node)} {d₂ : List ℕ} {to : ℕ} → Writes k mid d₁ d₂ to → Writes (joined r k) from d d₂ to
writes-joined {r} {from} {d} {d₁} {mid} s l {k} {d₂} {to} t = record {
  inside = omega (arith, t.inside);
  ends = λ ns e room.
      let x = both r k e in
      let long = ap (λ m. length (node_records m)) x.all ∙ joined-long x.a x.b in
      let y : mid ≡ from + length (node_records x.a) = s.ends x.a x.first (omega (arith, long)) in
      t.ends x.b x.second (omega (arith, long)) ∙ omega (arith, long);
  puts = λ ns e room.
      let x = both r k e in
      let long = ap (λ m. length (node_records m)) x.all ∙ joined-long x.a x.b in
      let y : mid ≡ from + length (node_records x.a) = s.ends x.a x.first (omega (arith, long)) in
      let z : d₁ ≡ sets d from (node_records x.a) = s.puts x.a x.first (omega (arith, long)) in
      let w : sets d₁ mid (node_records x.b) ≡ sets d from (node_records x.a ++ node_records x.b) = rw (y, z) (sym (sets-append (node_records x.a) (node_records x.b) d from)) in
      t.puts x.b x.second (omega (arith, long)) ∙ w ∙ ap (sets d from) (sym (records-joined x.a x.b) ∙ ap node_records (sym x.all));
}

-- what is promised only where a part is answered, and has room, is shown of a part that is answered the same
record Led (from : ℕ) (d d' : List ℕ) (to : ℕ) (ns : List Node) : Type 0 where
  r : Ran (List Node)
  goes : r.outcome ≡ answered ns
  writes : Writes r from d d' to

writes-led : {r : Ran (List Node)} {from : ℕ} {d d' : List ℕ} {to : ℕ} → to ≤ length d → ((ns : List Node) → r.outcome ≡ answered ns → from + length (node_records ns) ≤ length d → Led from d d' to ns) → Writes r from d d' to
writes-led h f = record {
  inside = h;
  ends = λ ns e room. let x = f ns e room in x.writes.ends ns x.goes room;
  puts = λ ns e room. let x = f ns e room in x.writes.puts ns x.goes room;
}

-- a part of no nodes
writes-none : {r : Ran (List Node)} → r ≡ told (answered []) → (from : ℕ) (d : List ℕ) → from ≤ length d → Writes r from d d from
unfolding node_records
writes-none e from d h = rw e (record {
  inside = h;
  ends = λ ns k room. let z : ns ≡ [] = cc in rw z (omega arith);
  puts = λ ns k room. let z : ns ≡ [] = cc in rw z;
})

-- ---- what is lent behind the first `from` bytes

module _ (from : ℕ) (out : List ℕ) (f : from ≤ length out) where
  lent-long : length (mid_of from (length out - from) out) ≡ length out - from
  lent-long = simp (length-take, length-drop) (omega arith)

  module _ {level : ℕ} {s : List ℕ} {e : NodePut} {ys : List ℕ} (t : NodePuts level s (mid_of from (length out - from) out) ys e) where
    pub wrote-inside : from + e.wrote ≤ length out
    wrote-inside = omega (arith, t.inside, lent-long)

    pub wrote-fits : length out * 1 < 2 ^ 63 → Fits w64 (from + e.wrote)
    wrote-fits l = omega (arith, wrote-inside)

-- ---- the turn of the entry at `at` in a directory whose bytes are the first n of the work space

module _ (d : Disc) (m : Mount) (left level : ℕ) (work : List ℕ) (n at : ℕ) (h : at + 38 ≤ n) (k : n ≤ length work) (b : Bytes work) (from : ℕ) (out : List ℕ) (f : from ≤ length out)
    {e : NodePut} {ys : List ℕ} (t : NodePuts level (part_of work n at) (mid_of from (length out - from) out) ys e) where
  abbrev out₁ : List ℕ
  out₁ = put_mid from (length out - from) out ys

  abbrev inside : LongAd → Ask (List Node)
  inside = nodes_at m left (suc level) (length work - n)

  lent_is : length (mid_of from (length out - from) out) ≡ length out - from
  lent_is = lent-long from out f

  end_is : from + e.wrote ≤ length out
  end_is = wrote-inside from out f t

  -- its own turn was written, and the others stand behind it
  written : {to : ℕ} {out₂ : List ℕ} → to ≤ length out
      → ((x : Entry) → entry_read false (part_of work n at) ≡ answered x → Known (part_of work n at) x → Writes (ran d (turn_of inside level x)) from out out₂ to)
      → EntryWrites d m left level (take n work) (length work - n) at from out (record { to = to; next = at + e.next }) out₂
  written i s = record {
    further = omega (arith, t.further);
    near = omega (arith, t.near, part-long work n at h k, raw-long work n at h k);
    inside = i;
    good = λ es are.
        let g = first_read work n at h k b es are in
        record { turned = turned g (t.next g.first g.reads); writes = s g.first g.reads g.knows };
  }

  module _ {x : Entry} (g : entry_read false (part_of work n at) ≡ answered x) where
    abbrev node : Node
    node = record { level = level; entry = x }

    -- a part whose records are the entry's own
    own-writes : {r : Ran (List Node)} {ns : List Node} → r ≡ told (answered ns) → node_records ns ≡ own_record level x → Writes r from out out₁ (from + e.wrote)
    own-writes {ns = ns} p q = rw p (record {
      inside = end_is;
      ends = λ ms i room.
          let z : ms ≡ ns = cc in
          let y : node_records ms ≡ own_record level x = ap node_records z ∙ q in
          let u : length (own_record level x) ≤ length (mid_of from (length out - from) out) = omega (arith, lent_is, ap length y) in
          omega (arith, (t.wrote x g u).count, ap length y);
      puts = λ ms i room.
          let z : ms ≡ ns = cc in
          let y : node_records ms ≡ own_record level x = ap node_records z ∙ q in
          let u : length (own_record level x) ≤ length (mid_of from (length out - from) out) = omega (arith, lent_is, ap length y) in
          tail-over from out (own_record level x) ys (omega (arith, ap length y)) (t.wrote x g u).bytes ∙ ap (sets out from) (sym y);
    })

    -- the entry is skipped, a file, or a directory
    own-skipped : is_skipped x.identifier ≡ true → Writes (ran d (turn_of inside level x)) from out out₁ (from + e.wrote)
    unfolding node_records
    own-skipped s = own-writes (turn-skipped d inside level x s) (rw s)

    module _ (s : is_skipped x.identifier ≡ false) where
      own-listed : {r : Ran (List Node)} → r ≡ told (answered (node ∷ [])) → Writes r from out out₁ (from + e.wrote)
      own-listed p = own-writes p (records-one node ∙ rw s)

      own-directory : is_directory x.identifier ≡ true → {out₂ : List ℕ} {to : ℕ} → length out₁ ≡ length out → Writes (ran d (inside x.identifier.icb)) (from + e.wrote) out₁ out₂ to → Writes (ran d (turn_of inside level x)) from out out₂ to
      own-directory i l v = rw (turn-directory d inside level x s i) (writes-joined (own-listed refl) l v)

    -- where all of it has room, so has the entry's own record
    own_room : (ns : List Node) → (ran d (turn_of inside level x)).outcome ≡ answered ns → from + length (node_records ns) ≤ length out → length (own_record level x) ≤ length (mid_of from (length out - from) out)
    own_room ns p room = by (is_skipped x.identifier) refl (is_directory x.identifier) refl
      where
        by : (u : Bool) → is_skipped x.identifier ≡ u → (v : Bool) → is_directory x.identifier ≡ v → length (own_record level x) ≤ length (mid_of from (length out - from) out)
        by true s v i = rw s (omega arith)
        by false s false i =
            let q : answered (node ∷ []) ≡ answered ns = sym (ap (λ (r : Ran (List Node)). r.outcome) (turn-file d inside level x s i)) ∙ p in
            let z : ns ≡ node ∷ [] = cc in
            rw s (omega (arith, lent_is, ap (λ m. length (node_records m)) z, ap length (records-one node)))
        by false s true i =
            let q = both (told (answered (node ∷ []))) (ran d (inside x.identifier.icb)) (sym (ap (λ (r : Ran (List Node)). r.outcome) (turn-directory d inside level x s i)) ∙ p) in
            let y : node ∷ [] ≡ q.a = let w = q.first in cc in
            let z : length (node_records ns) ≡ length (node_record node) + length (node_records q.b) =
            ap (λ m. length (node_records m)) q.all ∙ joined-long q.a q.b ∙ ap (λ m. length (node_records m) + length (node_records q.b)) (sym y) ∙ rw (records-one node) in
            rw s (omega (arith, lent_is))

  -- no directory's record was written
  pub turn-plain : e.directory ≡ false → EntryWrites d m left level (take n work) (length work - n) at from out (record { to = from + e.wrote; next = at + e.next }) out₁
  turn-plain v = written end_is (λ x g y. writes-led end_is (λ ns p room.
      record { r = _; goes = p; writes = by x g (is_skipped x.identifier) refl (is_directory x.identifier) refl (sym v ∙ t.directory x g (own_room g ns p room)) }))
    where
      by : (x : Entry) → entry_read false (part_of work n at) ≡ answered x → (u : Bool) → is_skipped x.identifier ≡ u → (w : Bool) → is_directory x.identifier ≡ w → false ≡ pick (is_skipped x.identifier) false (is_directory x.identifier)
          → Writes (ran d (turn_of inside level x)) from out out₁ (from + e.wrote)
      by x g true s w i q = own-skipped g s
      by x g false s false i q = own-listed g s (turn-file d inside level x s i)
      by x g false s true i q = absurd (let z : false ≡ true = q ∙ rw (s, i) in let y : ◌≡◌ {A = ℕ} 0 1 = cc in omega arith)

  -- one was, and what stands under it was written from the work space behind n on
  pub turn-deeper : e.directory ≡ true → length out₁ ≡ length out → {icb : LongAd} → icb ≡ long_of (part_of work n at) 20 → {out₂ : List ℕ} {to : ℕ}
      → Writes (ran d (nodes_at m left (level + 1) (length (mid_of n (length work - n) work)) icb)) (from + e.wrote) out₁ out₂ to
      → EntryWrites d m left level (take n work) (length work - n) at from out (record { to = to; next = at + e.next }) out₂
  turn-deeper v l {icb} j {out₂} {to} w = written end (λ x g y. writes-led end (λ ns p room.
      record { r = _; goes = p; writes = by x g y (is_skipped x.identifier) refl (is_directory x.identifier) refl (sym v ∙ t.directory x g (own_room g ns p room)) }))
    where
      end : to ≤ length out
      end = omega (arith, w.inside)

      by : (x : Entry) → entry_read false (part_of work n at) ≡ answered x → Known (part_of work n at) x → (u : Bool) → is_skipped x.identifier ≡ u → (i : Bool) → is_directory x.identifier ≡ i
          → true ≡ pick (is_skipped x.identifier) false (is_directory x.identifier) → Writes (ran d (turn_of inside level x)) from out out₂ to
      by x g y false s true i q =
          let z : length (mid_of n (length work - n) work) ≡ length work - n = simp (length-take, length-drop) (omega arith) in
          let c : icb ≡ x.identifier.icb = j ∙ sym y.whole.icb in
          own-directory g s i l (rw (z, add-one level, c) at w)
      by x g y false s false i q = absurd (let z : true ≡ false = q ∙ rw (s, i) in let y : ◌≡◌ {A = ℕ} 0 1 = cc in omega arith)
      by x g y true s i r q = absurd (let z : true ≡ false = q ∙ rw s in let y : ◌≡◌ {A = ℕ} 0 1 = cc in omega arith)

-- ---- the loop over a directory's entries has come to `at`

-- the entries that are left of those that were parsed: whatever writes these from here writes all from the start
pub record Going (d : Disc) (inside : LongAd → Ask (List Node)) (level : ℕ) (raw : List ℕ) (from₀ : ℕ) (out₀ : List ℕ) (es : List Entry) (from : ℕ) (out : List ℕ) (at : ℕ) : Type 0 where
  pub left : List Entry
  pub are : entries false (drop at raw) ≡ answered left
  pub leads : (out' : List ℕ) (to : ℕ) → Writes (ran d (nodes_of inside level left)) from out out' to → Writes (ran d (nodes_of inside level es)) from₀ out₀ out' to

pub record Writing (d : Disc) (inside : LongAd → Ask (List Node)) (level : ℕ) (raw : List ℕ) (from₀ : ℕ) (out₀ : List ℕ) (from : ℕ) (out : List ℕ) (at : ℕ) : Type 0 where
  pub within : at ≤ length raw + 3
  pub room : from ≤ length out
  pub long : length out ≡ length out₀
  pub goes : (es : List Entry) → entries false raw ≡ answered es → Going d inside level raw from₀ out₀ es from out at

-- all entries were written: what the loop's end says
abbrev AllWritten : Disc → (LongAd → Ask (List Node)) → ℕ → List ℕ → ℕ → List ℕ → List ℕ → ℕ → Type 0
AllWritten d inside level raw from out out' to = (es : List Entry) → entries false raw ≡ answered es → Writes (ran d (nodes_of inside level es)) from out out' to

pub write-starts : (d : Disc) (inside : LongAd → Ask (List Node)) (level : ℕ) (raw : List ℕ) (from : ℕ) (out : List ℕ) → from ≤ length out → Writing d inside level raw from out from out 0
write-starts d inside level raw from out h = record { within = omega arith; room = h; long = refl; goes = λ es are. record { left = es; are = are; leads = λ out' to w. w } }

module _ (d : Disc) (m : Mount) (below level : ℕ) (raw : List ℕ) (w : ℕ) (from₀ : ℕ) (out₀ : List ℕ) {from : ℕ} {out : List ℕ} {at : ℕ} (i : Writing d (nodes_at m below (suc level) w) level raw from₀ out₀ from out at) where
  write-ends : length raw < at + 38 → AllWritten d (nodes_at m below (suc level) w) level raw from₀ out₀ out from
  unfolding nodes_of
  write-ends h es s =
      let g = i.goes es s in
      let e : answered [] ≡ answered g.left = sym (at-end false raw at h) ∙ g.are in
      let z : g.left ≡ [] = cc in
      g.leads out from (rw z (writes-none (ran-done d []) from out i.room))

  pub write-next : {t : WriteTurn} {out' : List ℕ} → EntryWrites d m below level raw w at from out t out' → length out' ≡ length out → Writing d (nodes_at m below (suc level) w) level raw from₀ out₀ t.to out' t.next
  write-next {t} {out'} h l = record {
    within = h.near;
    room = omega (arith, h.inside);
    long = l ∙ i.long;
    goes = λ es s.
        let g = i.goes es s in
        let k = h.good g.left g.are in
        record {
          left = k.turned.others;
          are = k.turned.are;
          leads = λ o to v. g.leads o to (rw (k.turned.all, turn-joined d (nodes_at m below (suc level) w) level k.turned.first k.turned.others) (writes-joined k.writes l v));
        };
  }

-- a turn leaves the directory's bytes as they were, so each turn is over the same
pub writes-same : {d : Disc} {m : Mount} {below level : ℕ} {raw raw₀ : List ℕ} {w w₀ at from : ℕ} {out : List ℕ} {t : WriteTurn} {out' : List ℕ} → raw ≡ raw₀ → w ≡ w₀
    → EntryWrites d m below level raw w at from out t out' → EntryWrites d m below level raw₀ w₀ at from out t out'
writes-same e f h = rw (e, f) at h

-- no entry starts more than three bytes behind the directory's end
pub write-fits : {d : Disc} {inside : LongAd → Ask (List Node)} {level : ℕ} (n : ℕ) (work : List ℕ) {from₀ : ℕ} {out₀ : List ℕ} {from : ℕ} {out : List ℕ} {at : ℕ}
    → Writing d inside level (take n work) from₀ out₀ from out at → n ≤ length work → (most : ℕ) → length work ≡ most → most * 1 < 2 ^ 63 → Fits w64 (at + 38)
write-fits n work i h most e k = omega (arith, i.within, length-take n work)

-- ---- the returns of `write_level`

-- no level left: such a tree is refused
pub level-unwritten : (d : Disc) (m : Mount) (level w : ℕ) (icb : LongAd) {left : ℕ} → left ≡ 0 → {from : ℕ} {out : List ℕ} → from ≤ length out → Writes (ran d (nodes_at m left level w icb)) from out out from
unfolding nodes_at
level-unwritten d m level w icb e h = rw (e, ran-refuse {A = List Node} d TooDeep) (record { inside = h; ends = λ ns k. never k; puts = λ ns k. never k })

-- a tree that is answered: the root's bytes and entries, and what is done with these
record Answered (d : Disc) (m : Mount) (w : ℕ) (icb : LongAd) (f : List ℕ → List Entry → Ask (List Node)) (ns : List Node) : Type 0 where
  b : List ℕ
  es : List Entry
  read : (ran d (directory_bytes m w icb)).outcome ≡ answered b
  parsed : entries (is_checked m) b ≡ answered es
  goes : (ran d (f b es)).outcome ≡ answered ns

opening-answered : (d : Disc) (m : Mount) (w : ℕ) (icb : LongAd) (f : List ℕ → List Entry → Ask (List Node)) {ns : List Node} → (ran d (opening m w icb f)).outcome ≡ answered ns → Answered d m w icb f ns
opening-answered d m w icb f {ns} e = by (ran d (directory_bytes m w icb)).outcome refl (sym (ap (λ (r : Ran (List Node)). r.outcome) (ran_then d (directory_bytes m w icb) (λ b. then (ended (entries (is_checked m) b)) (f b)))) ∙ e)
  where
    on : (b : List ℕ) → (ran d (directory_bytes m w icb)).outcome ≡ answered b → (o : Outcome (List Entry)) → entries (is_checked m) b ≡ o → (onward o 0 (λ es. ran d (f b es))).outcome ≡ answered ns → Answered d m w icb f ns
    on b r (answered es) p e = record { b = b; es = es; read = r; parsed = p; goes = e }
    on b r (refused why) p e = never e

    parses : (b : List ℕ) → (ran d (then (ended (entries (is_checked m) b)) (f b))).outcome ≡ (onward (entries (is_checked m) b) 0 (λ es. ran d (f b es))).outcome
    parses b = ap (λ (r : Ran (List Node)). r.outcome) (ran_then d (ended (entries (is_checked m) b)) (f b)) ∙ rw (ran-ended d (entries (is_checked m) b))

    by : (o : Outcome (List ℕ)) → (ran d (directory_bytes m w icb)).outcome ≡ o → (onward o (ran d (directory_bytes m w icb)).count (λ b. ran d (then (ended (entries (is_checked m) b)) (f b)))).outcome ≡ answered ns → Answered d m w icb f ns
    by (answered b) r e = on b r (entries (is_checked m) b) refl (sym (parses b) ∙ e)
    by (refused why) r e = never e

module _ (d : Disc) (m : Mount) (icb : LongAd) {left : ℕ} (level : ℕ) (some : left ≡ 0 → ⊥) (work : List ℕ) {work₁ : List ℕ} {read : Reply} (p : Reads (ran d (directory_bytes m (length work) icb)) work work₁ read) where
  -- what was read, where something was
  bytes-are : {b : List ℕ} → (ran d (directory_bytes m (length work) icb)).outcome ≡ answered b → b ≡ take read.length work₁
  bytes-are {b} e =
      let z : read.answer ≡ 0 = ap (λ (r : Reply). r.answer) p.says ∙ rw e in
      let q = reply-bytes (ran d (directory_bytes m (length work) icb)).outcome _ p.says z work work₁ p.leaves in
      let y : answered b ≡ answered (take read.length work₁) = sym e ∙ q in
      cc

  -- all its entries were written
  pub level-written : read.length ≤ length work₁ → length work₁ ≡ length work → (from₀ : ℕ) (out₀ : List ℕ) {from : ℕ} {out : List ℕ} {at : ℕ}
      → Writing d (nodes_at m (left - 1) (suc level) (length work₁ - read.length)) level (take read.length work₁) from₀ out₀ from out at → read.length < at + 38
      → Writes (ran d (nodes_at m left level (length work) icb)) from₀ out₀ out from
  level-written h l from₀ out₀ {from} {out} i g = writes-led (omega (arith, i.room, i.long)) (λ ns e room.
      let x = opening-answered d m (length work) icb does (sym (ap (λ (t : Ask (List Node)). (ran d t).outcome) (level-opening m icb level (length work) some)) ∙ e) in
      let y : x.b ≡ raw = bytes-are x.read in
      let n : length raw ≡ read.length = length-take-le read.length work₁ h in
      let z : length work₁ - read.length ≡ length work - length x.b = rw (l, y, n) in
      let q : entries false raw ≡ answered x.es = rw y at (entries-unchecked (is_checked m) x.b x.parsed) in
      let w = write-ends d m (left - 1) level raw (length work₁ - read.length) from₀ out₀ i (omega (arith, n)) x.es q in
      record { r = ran d (does x.b x.es); goes = x.goes; writes = rw z at w })
    where
      raw : List ℕ
      raw = take read.length work₁

      does : List ℕ → List Entry → Ask (List Node)
      does b es = nodes_of (nodes_at m (left - 1) (suc level) (length work - length b)) level es
