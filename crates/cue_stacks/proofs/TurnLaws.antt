-- One item read behind those before it. Assumes nothing.
use Rattle.std.specs.Prelude.{Some, None}
use mathlib.Core.Path.{◌≡◌, refl, ap, sym, ◌∙◌}
use mathlib.Core.Bool.{Bool, true, false, ◌||◌}
use mathlib.Core.List.{List, [], ◌++◌, append-nil, append_assoc}
use Prim.Native.Nat.{ℕ, suc, ◌+◌, ◌-◌, ◌<◌, ◌≤◌, ◌^◌, min}
use native.Mathlib.Nat.{zero-add}
use native.Mathlib.Numerals.{add-one}
use native.Mathlib.Omega.{arith}
use lib.ListN.{length, take, drop, set, length-append, length-take, length-drop, length-set, drop_of_length-le, take-append-drop}
use lib.Seq.{take_all, drop-drop, length-take-le, take-append-add, drop-append-add}
use lib.Dec.{leb}
use borrow.Author.Tests.{le-leb, lt-leb, leb-true, leb-false}
use borrow.Rule.Slice.PartMut.{mid_of, put_mid}
use mir.Syntax.{w64}
use mir.Val.{Fits}
use Rattle.disc.specs.Choice.{pick}
use Rattle.disc.specs.Refusals.{number}
use Rattle.disc.specs.Counts.{reported}
use Rattle.disc.specs.Ask.{Disc, Outcome}
use Rattle.disc.specs.Ask.Outcome.{answered, refused}
use Rattle.disc.specs.Ran.{Ran, ran}
use Rattle.disc.specs.Replies.{reply_by, Replied}
use Rattle.disc.specs.declared.places.Mount.{Mount}
use Rattle.disc.specs.declared.refusals.Refusal.TheVariants.{NoRoom, TooMany}
use Rattle.disc.specs.declared.replies.Reply.{Reply}
use Rattle.disc.proofs.RefusalLaws.{refusal-small}
use Rattle.disc.proofs.ReplyLaws.{reply-counts}
use Rattle.records.specs.declared.allocations.LongAd.{LongAd}
use Rattle.listings.specs.declared.matchings.Matching.{Matching}
use Rattle.directories.specs.Lookups.{read_path_of}
use Rattle.cue_stacks.specs.Stacks.{item, items_behind, items, reply_in, room_left, Stack, on_top, stacked, Stacked, read_all_of}
use Rattle.cue_stacks.specs.Inner.Turns.{is_last, place_behind, items_at, laid_at, leads_to, start, all_read, Next, On, Enough, turns_left, Turns, Passes}
use Rattle.cue_stacks.specs.declared.stacks.ItemPlace.{ItemPlace}
use Rattle.disc.proofs.MoveLaws.{sets-front}
use Rattle.cue_stacks.proofs.StackLaws.{reply-fits, left-long, lengths-many, answers-many}
use Rattle.cue_stacks.proofs.ItemLaws.{item-short, item-front, behind-none, behind-zero}

-- ---- the place behind an item

never : false ≡ true → ⊥
never e = let z : ◌≡◌ {A = ℕ} 0 1 = cc in omega arith

module _ (bytes rows : ℕ) (p : ItemPlace) (end : ℕ) (reply : Reply) {n : ℕ} (c : n ≡ reported (p.count + reply.count)) {last : Bool} (e : last ≡ is_last bytes rows end (p.places + 1)) where
  pub behind-last : last ≡ true → record { next = None; places = p.places + 1; filled = p.filled + reply.length; count = n } ≡ place_behind bytes rows p end reply
  unfolding place_behind
  behind-last h = rw (sym e, h, c)

  pub behind-next : last ≡ false → record { next = Some (end + 1); places = p.places + 1; filled = p.filled + reply.length; count = n } ≡ place_behind bytes rows p end reply
  unfolding place_behind
  behind-next h = rw (sym e, h, c)

-- the next one starts in the list, or at its end
pub next_fits : (bytes rows end places : ℕ) {last : Bool} → last ≡ is_last bytes rows end places → last ≡ false → Fits w64 bytes → Fits w64 (end + 1)
unfolding is_last
next_fits bytes rows end places e h k = by (leb bytes end) refl (sym e ∙ h)
  where
    by : (t : Bool) → leb bytes end ≡ t → t || leb rows places ≡ false → Fits w64 (end + 1)
    by true f g = absurd (never (sym g))
    by false f g = record { fits = omega (arith, leb-false bytes end f, k.fits) }

-- ---- what an item's reply says of numbers

reply-small : (room n : ℕ) (o : Outcome (List ℕ)) → (reply_by NoRoom room n o).answer < 2 ^ 32
reply-small room n (refused why) = refusal-small why
reply-small room n (answered b) = by (leb (length b) room)
  where
    by : (t : Bool) → (pick {A = Reply} t (record { answer = 0; count = n; length = length b }) (record { answer = number NoRoom; count = n; length = 0 })).answer < 2 ^ 32
    by true = omega arith
    by false = omega arith

-- a row of 32 bits holds every answer number
answer-fits : {r : Ran (List ℕ)} {before after : List ℕ} {reply : Reply} → Replied NoRoom r before after reply → reply.answer < 2 ^ 32
answer-fits {r} {before} e = rw e.says (omega (arith, reply-small (length before) (reported r.count) r.outcome))

-- what is read into the room that is left has room
pub fills : (out : List ℕ) (filled : ℕ) {r : Ran (List ℕ)} {after : List ℕ} {reply : Reply} → filled ≤ length out → Replied NoRoom r (mid_of filled (length out - filled) out) after reply
    → filled + reply.length ≤ length out
fills out filled {r} {reply = reply} h e =
    let l : length (mid_of filled (length out - filled) out) ≡ length out - filled = simp (length-take, length-drop) (omega arith) in
    let f : reply.length ≤ length out - filled = rw (e.says, l) (reply-fits (length out - filled) (reported r.count) r.outcome) in
    omega arith

-- ---- one turn

module _ (paths : List ℕ) {p : ItemPlace} {out rows from : ℕ} (g : p.next ≡ Some from) (o : On (length paths) out rows p) where
  inside : (from ≤ length paths) × (p.places < rows)
  inside = rw g at o.next

  abbrev s : List ℕ
  s = drop from paths

  left_is : items_at paths p ≡ items s
  unfolding items_at
  left_is = rw g

  module _ {end : ℕ} (e : end ≡ from + length (item s)) where
    pub end-within : end ≤ length paths
    end-within = omega (arith, inside.0, item-short s, length-drop from paths)

    -- the place behind the item, by its parts
    record Behind (reply : Reply) (q : ItemPlace) : Type 0 where
      places : q.places ≡ p.places + 1
      filled : q.filled ≡ p.filled + reply.length
      count : q.count ≡ reported (p.count + reply.count)
      next : Next (length paths) rows q.places q.next
      less : turns_left (length paths) q < turns_left (length paths) p
      left : Enough paths rows p → items_at paths q ≡ items_behind s

    -- an item that is followed by another isn't in the last place, where there are enough
    goes_on : end < length paths → Enough paths rows p → p.places + 1 < rows
    goes_on h k =
        let l : items_behind s ≡ items (drop (suc (length (item s))) s) = behind-zero s (rw length-drop (omega arith)) in
        omega (arith, k, ap length left_is, ap length l)

    behind : (reply : Reply) → Behind reply (place_behind (length paths) rows p end reply)
    unfolding place_behind is_last items_at
    behind reply = by (leb (length paths) end) refl (leb rows (p.places + 1)) refl
      where
        by : (t : Bool) → leb (length paths) end ≡ t → (u : Bool) → leb rows (p.places + 1) ≡ u
            → Behind reply (record { next = pick (t || u) None (Some (end + 1)); places = p.places + 1; filled = p.filled + reply.length; count = reported (p.count + reply.count) })
        by true f u k =
            let h : length paths ≤ end = leb-true (length paths) end f in
            record {
              places = refl;
              filled = refl;
              count = refl;
              next = tt;
              less = rw g (omega arith);
              left = λ w. sym (behind-none s (rw length-drop (omega arith)));
            }
        by false f true k =
            let h : end < length paths = leb-false (length paths) end f in
            let l : rows ≤ p.places + 1 = leb-true rows (p.places + 1) k in
            record {
              places = refl;
              filled = refl;
              count = refl;
              next = tt;
              less = rw g (omega arith);
              left = λ w. absurd (omega (arith, goes_on h w));
            }
        by false f false k =
            let h : end < length paths = leb-false (length paths) end f in
            let l : from + suc (length (item s)) ≡ end + 1 = omega arith in
            record {
              places = refl;
              filled = refl;
              count = refl;
              next = (omega arith, leb-false rows (p.places + 1) k);
              less = rw g (omega arith);
              left = λ w. sym (behind-zero s (rw length-drop (omega arith)) ∙ rw (drop-drop, l));
            }

-- what the stores and the next place ask for
module _ {bytes out : ℕ} (lengths answers : ℕ) {p : ItemPlace} {from : ℕ} (g : p.next ≡ Some from) (o : On bytes out (min lengths answers) p) where
  inside_rows : (from ≤ bytes) × (p.places < min lengths answers)
  inside_rows = rw g at o.next

  pub put-fits : {r : Ran (List ℕ)} {before after : List ℕ} {reply : Reply} → Replied NoRoom r before after reply → (reply.answer < 2 ^ 32) × (p.places < lengths) × (p.places < answers)
  put-fits e = (answer-fits e, omega (arith, inside_rows.1), omega (arith, inside_rows.1))

  pub behind-fits : (n : ℕ) → p.filled + n ≤ out → out < 2 ^ 64 → lengths < 2 ^ 64 → (p.places + 1 < 2 ^ 64) × (p.filled + n < 2 ^ 64)
  behind-fits n h k l = (omega (arith, inside_rows.1), omega arith)

-- equal by their parts
same-stacked : {m m' n n' : ℕ} {a a' b b' c c' : List ℕ} → m ≡ m' → n ≡ n' → a ≡ a' → b ≡ b' → c ≡ c'
    → ◌≡◌ {A = Stacked}
    (record { reply = record { answer = 0; count = m; length = n }; out = a; lengths = b; answers = c })
    (record { reply = record { answer = 0; count = m'; length = n' }; out = a'; lengths = b'; answers = c' })
same-stacked e f g h k = rw (e, f, g, h, k)

-- counts are held as they are added
count-on : (a b c : ℕ) → reported (reported (a + reported b) + c) ≡ reported (a + (b + c))
count-on a b c = omega arith

module _ (read : List ℕ → Ran (List ℕ)) (paths : List ℕ) {p : ItemPlace} (out lengths answers : List ℕ)
    {from : ℕ} (g : p.next ≡ Some from) (o : On (length paths) (length out) (min (length lengths) (length answers)) p) {end : ℕ} (e : end ≡ from + length (item (drop from paths)))
    {ys : List ℕ} {reply : Reply} (r : Replied NoRoom (read (take (end - from) (drop from paths))) (mid_of p.filled (length out - p.filled) out) ys reply) where
  abbrev t : List ℕ
  t = drop from paths

  abbrev room : List ℕ
  room = drop p.filled out

  room-long : length room ≤ length out - p.filled
  room-long = rw length-drop (omega arith)

  -- the item, read into all the room that is left
  replied : Replied NoRoom (read (item t)) room ys reply
  replied =
      let a : end - from ≡ length (item t) = omega arith in
      let b : take (end - from) t ≡ item t = rw a (item-front t) in
      rw (b, take_all (length out - p.filled) room room-long) at r

  abbrev out' : List ℕ
  out' = put_mid p.filled (length out - p.filled) out ys

  out-is : out' ≡ take p.filled out ++ ys
  out-is = rw (drop_of_length-le room room-long, append-nil)

  front_long : length (take p.filled out) ≡ p.filled
  front_long = length-take-le p.filled out o.room

  taken : take (p.filled + reply.length) out' ≡ take p.filled out ++ take reply.length ys
  taken = rw out-is (rw front_long at (take-append-add (take p.filled out) ys reply.length))

  dropped : drop (p.filled + reply.length) out' ≡ drop reply.length ys
  dropped = rw out-is (rw front_long at (drop-append-add (take p.filled out) ys reply.length))

  module _ {lengths' answers' : List ℕ} (j : lengths' ≡ set lengths p.places reply.length) (k : answers' ≡ set answers p.places reply.answer)
      {rows : ℕ} (m : rows ≡ min (length lengths) (length answers)) {q : ItemPlace} (f : q ≡ place_behind (length paths) rows p end reply) where
    b : Behind paths g o e reply q
    b = rw (f, m) (behind paths g o e reply)

    abbrev R : Ran (List ℕ)
    R = read (item t)

    -- what the items behind it will leave
    abbrev rest : Stack
    rest = stacked read (room_left room R) (items_behind t)

    says-length : reply.length ≡ (reply_in room R).length
    says-length = ap (λ (x : Reply). x.length) replied.says

    says-answer : reply.answer ≡ (reply_in room R).answer
    says-answer = ap (λ (x : Reply). x.answer) replied.says

    says-count : reply.count ≡ reported R.count
    says-count = ap (λ (x : Reply). x.count) replied.says ∙ reply-counts NoRoom (length room) (reported R.count) R.outcome

    laid_on : laid_at q out' lengths' answers' rest ≡ laid_at p out lengths answers (on_top room R rest)
    laid_on = same-stacked
        (rw (b.count, says-count) (count-on p.count R.count rest.count))
        (omega (arith, b.filled, says-length))
        (rw (b.filled, taken, says-length, replied.leaves, append_assoc))
        (rw (j, b.places, add-one, says-length))
        (rw (k, b.places, add-one, says-answer))

    abbrev enough : Type 0
    enough = Enough paths (min (length lengths) (length answers)) p

    behind-it : enough → stacked read (drop q.filled out') (items_at paths q) ≡ rest
    behind-it h = cc (b.filled, b.left h, dropped, says-length, replied.leaves)

    from-it : stacked read room (items_at paths p) ≡ on_top room R rest
    unfolding stacked
    from-it = rw (left_is paths g o)

    leads : enough → leads_to read paths q out' lengths' answers' ≡ leads_to read paths p out lengths answers
    unfolding leads_to
    leads h = ap (laid_at q out' lengths' answers') (behind-it h) ∙ laid_on ∙ sym (ap (laid_at p out lengths answers) from-it)

    pub turn : Turns read paths p out lengths answers q out' lengths' answers'
    turn = record {
      on = record {
        room = rw b.filled (fills out p.filled o.room r);
        next = b.next;
        counted = rw b.count (omega arith);
      };
      out-long = rw (out-is, length-append, front_long, replied.leaves, left-long, length-drop) (omega (arith, o.room));
      lengths-long = rw (j, length-set);
      answers-long = rw (k, length-set);
      less = b.less;
      enough = λ h. omega (arith, b.places, ap length (b.left h), h, ap length (left_is paths g o));
      same = leads;
    }

-- ---- the loop over the items: where there are places enough, what the place that it has come to leads to is what the whole comes to

abbrev pub PlacesEnough : List ℕ → List ℕ → List ℕ → Type 0
PlacesEnough paths lengths answers = length (items paths) ≤ min (length lengths) (length answers)

pub record Reading (read : List ℕ → Ran (List ℕ)) (paths out₀ lengths₀ answers₀ : List ℕ) (p : ItemPlace) (out lengths answers : List ℕ) : Type 0 where
  pub on : On (length paths) (length out) (min (length lengths) (length answers)) p
  pub out-long : length out ≡ length out₀
  pub lengths-long : length lengths ≡ length lengths₀
  pub answers-long : length answers ≡ length answers₀
  pub enough : PlacesEnough paths lengths₀ answers₀ → Enough paths (min (length lengths) (length answers)) p
  pub same : PlacesEnough paths lengths₀ answers₀ → leads_to read paths p out lengths answers ≡ all_read read paths out₀ lengths₀ answers₀

module _ (read : List ℕ → Ran (List ℕ)) (paths out₀ lengths₀ answers₀ : List ℕ) where
  abbrev whole : Stack
  whole = stacked read out₀ (items paths)

  starts-same : PlacesEnough paths lengths₀ answers₀ → leads_to read paths start out₀ lengths₀ answers₀ ≡ all_read read paths out₀ lengths₀ answers₀
  unfolding leads_to items_at
  starts-same h = same-stacked
      (ap reported (zero-add whole.count))
      (zero-add whole.filled)
      refl
      (sets-front whole.lengths lengths₀ (rw (lengths-many read out₀ (items paths)) (omega arith)))
      (sets-front whole.answers answers₀ (rw (answers-many read out₀ (items paths)) (omega arith)))

  pub read-starts : (0 < length lengths₀) × (0 < length answers₀) → Reading read paths out₀ lengths₀ answers₀ start out₀ lengths₀ answers₀
  unfolding items_at
  read-starts h = record {
    on = record { room = omega arith; next = (omega arith, omega (arith, h.0, h.1)); counted = omega arith };
    out-long = refl;
    lengths-long = refl;
    answers-long = refl;
    enough = λ k. omega (arith, k);
    same = starts-same;
  }

  module _ {p : ItemPlace} {out lengths answers : List ℕ} (i : Reading read paths out₀ lengths₀ answers₀ p out lengths answers) where
    read_next : {q : ItemPlace} {out' lengths' answers' : List ℕ} → Turns read paths p out lengths answers q out' lengths' answers' → Reading read paths out₀ lengths₀ answers₀ q out' lengths' answers'
    read_next t = record {
      on = rw (t.out-long, t.lengths-long, t.answers-long) t.on;
      out-long = t.out-long ∙ i.out-long;
      lengths-long = t.lengths-long ∙ i.lengths-long;
      answers-long = t.answers-long ∙ i.answers-long;
      enough = λ h. rw (t.lengths-long, t.answers-long) (t.enough (i.enough h));
      same = λ h. t.same (i.enough h) ∙ i.same h;
    }

    abbrev left : Stacked
    left = record { reply = record { answer = 0; count = p.count; length = p.filled }; out = out; lengths = lengths; answers = answers }

    ends_same : p.next ≡ None → PlacesEnough paths lengths₀ answers₀ → left ≡ all_read read paths out₀ lengths₀ answers₀
    unfolding leads_to items_at stacked
    ends_same g h =
        let z : leads_to read paths p out lengths answers ≡ laid_at p out lengths answers (record { out = drop p.filled out; lengths = []; answers = []; count = 0; filled = 0 }) = rw g in
        same-stacked (omega (arith, i.on.counted)) (omega arith) (sym (take-append-drop p.filled out)) refl refl ∙ sym z ∙ i.same h

    pub read-ends : p.next ≡ None → Passes read paths out₀ lengths₀ answers₀ left
    read-ends g = record {
      room = rw (sym i.out-long) i.on.room;
      out-long = i.out-long;
      lengths-long = i.lengths-long;
      answers-long = i.answers-long;
      whole = ends_same g;
    }

-- the next turn finds a work space of the same size
pub read-on : (d : Disc) (matching : Matching) (v : Mount) (root : LongAd) (paths out₀ lengths₀ answers₀ : List ℕ) {w w₀ : ℕ} → w ≡ w₀
    → {p : ItemPlace} {out lengths answers : List ℕ} → Reading (λ path. ran d (read_path_of matching v w₀ root path)) paths out₀ lengths₀ answers₀ p out lengths answers
    → {q : ItemPlace} {out' lengths' answers' : List ℕ} → Turns (λ path. ran d (read_path_of matching v w root path)) paths p out lengths answers q out' lengths' answers'
    → Reading (λ path. ran d (read_path_of matching v w₀ root path)) paths out₀ lengths₀ answers₀ q out' lengths' answers'
read-on d matching v root paths out₀ lengths₀ answers₀ {w} {w₀} e {p} {out} {lengths} {answers} i {q} {out'} {lengths'} {answers'} t =
    let s : Turns (λ path. ran d (read_path_of matching v w₀ root path)) paths p out lengths answers q out' lengths' answers' = rw e at t in
    read_next (λ path. ran d (read_path_of matching v w₀ root path)) paths out₀ lengths₀ answers₀ i s

-- ---- the two ends of the call: m is the lesser of the rows' places, n how many items stand behind the first

module _ (read : List ℕ → Ran (List ℕ)) (paths out lengths answers : List ℕ) {m n : ℕ} (e : n ≡ length (items_behind paths)) (f : m ≡ min (length lengths) (length answers)) where
  pub all-refused : m ≤ n → {a : ℕ} → a ≡ number TooMany → {reply : Reply} → reply ≡ record { answer = a; count = 0; length = 0 }
      → record { reply = reply; out = out; lengths = lengths; answers = answers } ≡ read_all_of read paths out lengths answers
  unfolding read_all_of
  all-refused h {a} g {reply} k =
      let w : min (length lengths) (length answers) < length (items paths) = omega arith in
      rw (lt-leb _ _ w, k, g)

  pub some-places : n < m → (0 < length lengths) × (0 < length answers)
  some-places h = (omega arith, omega arith)

  pub all_read_lem : n < m → {left : Stacked} → Passes read paths out lengths answers left → left ≡ read_all_of read paths out lengths answers
  unfolding read_all_of
  all_read_lem h k =
      let w : length (items paths) ≤ min (length lengths) (length answers) = omega arith in
      k.whole w ∙ rw (le-leb _ _ w)
