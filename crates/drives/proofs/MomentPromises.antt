-- What is promised of the sector at which a read by steps tells 5: RULES 14.7 and 14.10. Assumes nothing. SlotPromises has that of 7.
--
--   as row and output grow, the sectors wanted are those up to the first with which more bytes have come than there was room for    five-at
--   in an output that stays the last of them holds the first byte without room                                                     still-five
--   the bytes that the sectors of an answered read bring add up to its bytes                                                       shares-all
use Rattle.std.specs.Prelude.{Option, Some, None, Result, Ok, Err}
use mathlib.Core.Path.{◌≡◌, refl, ap, sym, ◌∙◌}
use mathlib.Core.Bool.{Bool, true, false, ◌||◌}
use mathlib.Core.List.{List, [], ◌∷◌, ◌++◌, append-nil, append_assoc}
use mathlib.Core.Logic.{⊎_elim}
use Prim.Native.Nat.{ℕ, zero, suc, ◌+◌, ◌-◌, ◌*◌, ◌<◌, ◌≤◌}
use native.Mathlib.Nat.{add-zero, zero-add}
use native.Mathlib.Omega.{arith}
use lib.ListN.{length, take, drop, replicate, length-append, length-drop}
use lib.Seq.{length-take-le}
use lib.Dec.{eqb, ltb, leb}
use borrow.Author.Tests.{leb-false}
use Rattle.disc.specs.Choice.{pick}
use Rattle.disc.specs.Ask.{Disc, Held, Ask, Outcome, given, outcome, asked, then, and_then}
use Rattle.disc.specs.Ask.Held.{holds, lacks}
use Rattle.disc.specs.Ask.Ask.{done, refuse}
use Rattle.disc.specs.Ask.Outcome.{answered, refused}
use Rattle.disc.specs.Images.{disc}
use Rattle.disc.specs.Places.{icb_placed, is_checked, standing as placing}
use Rattle.disc.specs.declared.places.Mount.{Mount}
use Rattle.disc.specs.declared.refusals.Refusal.TheVariants.{Malformed, NoRoom, NoSlot}
use Rattle.disc.proofs.ImageLaws.{split, held, missing as lacking}
use Rattle.disc.proofs.RanLaws.{never}
use Rattle.disc.proofs.AskLaws.{asked-then, asked-done, outcome-then}
use Rattle.records.specs.declared.allocations.LongAd.{LongAd}
use Rattle.areas.specs.declared.AllocExtent.{AllocExtent}
use Rattle.areas.specs.declared.AdEnding.{AdEnding}
use Rattle.areas.specs.declared.AdEnding.TheVariants.{End, Continuation, Refused}
use Rattle.areas.specs.Areas.{Area}
use Rattle.entries.specs.FileEntries.{read_entry}
use Rattle.chains.specs.Chains.{most_continuations, next_area, continued}
use Rattle.files.specs.Reads.{extents_bytes}
use Rattle.files.specs.Files.{Located, entry_at, entry_mount, is_embedded, embedded_bytes, located, entry_in, chain_of, File, resolved, file_at, content_of, file_bytes}
use Rattle.files.specs.Files.File.{embedded, chained}
use Rattle.drives.specs.Feeds.{Feed, naming, Grown, first_of, within, End as Ending, end_of, wanted, arrived, short_of}
use Rattle.drives.specs.Feeds.End.{answers, refuses}
use Rattle.drives.specs.Feeds.Feed.{over, stop, put}
use Rattle.drives.specs.Feeds.Short.{enough, of_slots, of_room}
use Rattle.drives.specs.FileFeeds.{extents_feed, joined, named_by, chain_feed, entry_feed, file_feed}
use Rattle.drives.specs.Readings.{Starts}
use Rattle.drives.specs.Moments.{slots_by, room_by, extent_shares, file_shares, brought, FullAt, FiveAt, FiveStill}
use Rattle.drives.specs.declared.readings.Reading.{Reading}
use Rattle.drives.proofs.FeedLaws.{collected-extents}
use Rattle.drives.proofs.LimitLaws.{collected-outcome}
use Rattle.drives.proofs.MomentLaws.{later, room-none, Passes, naming-passes, naming-refused, following-passes, following-refused, full-first, full-zeros}
use Rattle.drives.proofs.AcceptedLaws.{upto, area_of}
use Rattle.drives.proofs.ShareLaws.{Sized, AllSized, lent-sized, sized-back, not-room, extents-tell, extents-sum}
use Rattle.drives.proofs.Walks.{still-walks}
use Rattle.drives.proofs.ReadPromises as reads
use Rattle.disc.specs.Lists.{asked_behind}
use Rattle.drives.specs.Walks.{Walk, Still}
use Rattle.drives.specs.Walks.Walk.{ends, steps}
use Rattle.drives.specs.Told.{outcome_by}
use Rattle.entries.specs.declared.file_entries.FileEntry.{FileEntry}
use Rattle.disc.specs.declared.refusals.Refusal.{Refusal}

slots-not-room : {A : Type 0} → of_slots ≡ of_room → A
slots-not-room e = absurd (let z : ◌≡◌ {A = ℕ} 0 1 = cc in omega arith)

zeros-add : (a b : ℕ) (s : List ℕ) → replicate (a + b) 0 ++ s ≡ replicate a 0 ++ (replicate b 0 ++ s)
zeros-add zero b s = rw (zero-add b)
zeros-add (suc a) b s = let z : suc a + b ≡ suc (a + b) = omega arith in rw z (ap (λ x. 0 ∷ x) (zeros-add a b s))

-- behind sectors that bring no byte
five-on : (room : ℕ) (gs : List Grown) (ws zs ns : List ℕ) {shares shares' : List ℕ} (all : List ℕ) → all ≡ ws ++ zs → shares ≡ shares'
    → FullAt (room + room_by (length ws) gs) (later (length ws) gs) (replicate (length zs) 0 ++ shares) (length ns) → FullAt room gs (replicate (length all) 0 ++ shares') (length (ws ++ ns))
five-on room gs ws zs ns {shares} all e g p =
    rw (e, ← g, length-append ws ns, length-append ws zs, zeros-add (length ws) (length zs) shares) (full-zeros (length ws) room gs (replicate (length zs) 0 ++ shares) (length ns) p)

-- ---- the chain

module _ (d : Disc) (m : Mount) (kind missing : ℕ) where
  abbrev zeros : Ask (List AllocExtent) → List ℕ
  zeros t = replicate (length (asked d t)) 0

  -- 5 behind an area: the chain was answered, and its sectors bring none of the bytes
  record Fives (n : ℕ) (es : List AllocExtent) (how : AdEnding) (room : ℕ) (gs : List Grown) (ns : List ℕ) : Type 0 where
    more : List AllocExtent
    answers : outcome d (continued m kind n how) ≡ answered more
    full : FullAt room gs (zeros (continued m kind n how) ++ extent_shares (es ++ more) missing) (length ns)

  -- where an area is accepted
  past-hold : (f : Feed) (slots room : ℕ) (gs : List Grown) (P : List ℕ → Type 0)
      → (short_of d false slots room gs f ≡ of_room → AllSized d (wanted d (within false slots room gs f)) → P (wanted d (within false slots room gs f)))
      → (t : Bool) → pick t of_slots (short_of d false slots room gs f) ≡ of_room → AllSized d (wanted d (pick t (stop NoSlot) (within false slots room gs f)))
      → P (wanted d (pick t (stop NoSlot) (within false slots room gs f)))
  past-hold f slots room gs P h true e a = slots-not-room e
  past-hold f slots room gs P h false e a = h e a

  no_more : (n : ℕ) (es : List AllocExtent) (room : ℕ) (gs : List Grown) (ns : List ℕ) → outcome d (continued m kind n End) ≡ answered [] → asked d (continued m kind n End) ≡ []
      → FullAt room gs (extent_shares es missing) (length ns) → Fives n es End room gs ns
  no_more n es room gs ns e l p = record { more = []; answers = e; full = rw (l, append-nil es) p }

  chain-five : (n : ℕ) (es : List AllocExtent) (how : AdEnding) (lost : Bool) (slots room : ℕ) (gs : List Grown) → short_of d lost slots room gs (chain_feed m kind n missing es how) ≡ of_room
      → AllSized d (wanted d (within lost slots room gs (chain_feed m kind n missing es how))) → Fives n es how room gs (wanted d (within lost slots room gs (chain_feed m kind n missing es how)))
  unfolding chain_feed continued outcome asked short_of within
  chain-five zero es (Refused r) lost slots room gs e a = not-room e
  chain-five zero es End lost slots room gs e a =
      past-hold (extents_feed m es missing) slots room gs (Fives zero es End room gs) (λ e a. no_more zero es room gs _ refl refl (extents-tell d m es missing false slots room gs e a)) (lost || ltb slots (length es)) e a
  chain-five zero es (Continuation b) lost slots room gs e a = past-hold (stop Malformed) slots room gs (Fives zero es (Continuation b) room gs) (λ e a. not-room e) (lost || ltb slots (length es)) e a
  chain-five (suc n) es (Refused r) lost slots room gs e a = not-room e
  chain-five (suc n) es End lost slots room gs e a =
      past-hold (extents_feed m es missing) slots room gs (Fives (suc n) es End room gs) (λ e a. no_more (suc n) es room gs _ refl refl (extents-tell d m es missing false slots room gs e a)) (lost || ltb slots (length es)) e a
  chain-five (suc n) es (Continuation b) lost slots room gs e a =
      past-hold next slots room gs (Fives (suc n) es (Continuation b) room gs) (λ e a. by (outcome d (next_area m kind b)) refl e a (λ x. chain-five n (joined es x) x.ending)) (lost || ltb slots (length es)) e a
    where
      behind : Area → Feed
      behind x = chain_feed m kind n missing (joined es x) x.ending

      next : Feed
      next = naming (named_by kind b.length es) (next_area m kind b) behind

      all : Area → Ask (List AllocExtent)
      all x = then (continued m kind n x.ending) (λ more. done (x.extents ++ more))

      by : (o : Outcome Area) → outcome d (next_area m kind b) ≡ o → short_of d false slots room gs next ≡ of_room → AllSized d (wanted d (within false slots room gs next))
          → ((x : Area) (lost : Bool) (slots room : ℕ) (gs : List Grown) → short_of d lost slots room gs (behind x) ≡ of_room → AllSized d (wanted d (within lost slots room gs (behind x)))
          → Fives n (joined es x) x.ending room gs (wanted d (within lost slots room gs (behind x))))
          → Fives (suc n) es (Continuation b) room gs (wanted d (within false slots room gs next))
      by (refused r) g e a ih = not-room (sym (naming-refused d behind (next_area m kind b) (named_by kind b.length es) g false slots room gs) ∙ e)
      by (answered x) g e a ih = rw p.list (record {
        more = x.extents ++ f.more;
        answers = outcome-then d (next_area m kind b) all ∙ ap (λ o. and_then o (λ y. outcome d (all y))) g ∙ outcome-then d (continued m kind n x.ending) (λ more. done (x.extents ++ more)) ∙ ap (λ o. and_then o (λ more. answered (x.extents ++ more))) f.answers;
        full = five-on room gs ws (asked d (continued m kind n x.ending)) after _ listed (ap (λ l. extent_shares l missing) (append_assoc es x.extents f.more)) f.full;
      })
        where
          ws : List ℕ
          ws = asked d (next_area m kind b)

          p : Passes d (length (joined es x)) false slots room gs next ws (behind x)
          p = naming-passes d (length (joined es x)) behind x (next_area m kind b) (named_by kind b.length es) (upto d m kind missing es b x g) g false slots room gs

          after : List ℕ
          after = wanted d (within p.lost' (slots + slots_by (length ws) gs) (room + room_by (length ws) gs) (later (length ws) gs) (behind x))

          f : Fives n (joined es x) x.ending (room + room_by (length ws) gs) (later (length ws) gs) after
          f = ih x p.lost' _ _ _ (sym p.short ∙ e) (sized-back d ws after (rw p.list at a))

          listed : asked d (then (next_area m kind b) all) ≡ ws ++ asked d (continued m kind n x.ending)
          listed =
              asked-then d (next_area m kind b) all ∙ ap (λ o. ws ++ asked_behind d o all) g
              ∙ ap (λ l. ws ++ l) (asked-done d (continued m kind n x.ending) (λ more. x.extents ++ more))

-- ---- the file

-- an entry is one sector
entry-one : (d : Disc) (m : Mount) (icb : LongAd) (x : Located) → outcome d (entry_at m icb) ≡ answered x → length (asked d (entry_at m icb)) ≡ 1
unfolding entry_at outcome asked
entry-one d m icb x e = by (eqb icb.length 0) (icb_placed m icb.location.partition_ref icb.location.block) e
  where
    tree : Bool → Option ℕ → Ask Located
    tree t o = pick t (refuse Malformed) (placing o (entry_in (is_checked m)))

    by : (t : Bool) (o : Option ℕ) → outcome d (tree t o) ≡ answered x → length (asked d (tree t o)) ≡ 1
    by true o e = never e
    by false None e = never e
    by false (Some at) e = ap suc (held (d at))
      where
        read : (s : List ℕ) (r : Result FileEntry Refusal) → length (asked d (located at s r)) ≡ 0
        read s (Ok y) = refl
        read s (Err r) = refl

        held : (h : Held) → length (given h (λ s. asked d (located at s (read_entry (is_checked m) s))) []) ≡ 0
        held (holds s) = read s (read_entry (is_checked m) s)
        held lacks = refl

module _ (d : Disc) (m : Mount) (icb : LongAd) (x : Located) (e : outcome d (entry_at m icb) ≡ answered x) where
  abbrev M : Mount
  M = entry_mount m icb

  abbrev ws : List ℕ
  ws = asked d (entry_at m icb)

  abbrev rest : Ask (List AllocExtent)
  rest = continued M x.entry.kind most_continuations (area_of x).ending

  abbrev file : Bool → Ask File
  file t = pick t (done (embedded x)) (then (chain_of M x) (λ es. done (chained x es)))

  abbrev feed : Bool → Feed
  feed t = pick t (put (embedded_bytes x) over) (chain_feed M x.entry.kind most_continuations x.entry.information_length (area_of x).extents (area_of x).ending)

  resolve : (t : Bool) → is_embedded x ≡ t → outcome d (file_at m icb) ≡ outcome d (file t)
  unfolding file_at
  resolve t g = outcome-then d (entry_at m icb) (resolved M) ∙ ap (λ o. and_then o (λ y. outcome d (resolved M y))) e ∙ ap (λ t. outcome d (file t)) g

  asks : (t : Bool) → is_embedded x ≡ t → asked d (file_at m icb) ≡ ws ++ asked d (file t)
  unfolding file_at
  asks t g = asked-then d (entry_at m icb) (resolved M) ∙ ap (λ o. ws ++ asked_behind d o (resolved M)) e ∙ ap (λ t. ws ++ asked d (file t)) g

  -- behind the entry
  entry-five : (t : Bool) → is_embedded x ≡ t → (lost : Bool) (slots room : ℕ) (gs : List Grown) → short_of d lost slots (room + room_by (length ws) gs) (later (length ws) gs) (feed t) ≡ of_room
      → AllSized d (wanted d (within lost slots (room + room_by (length ws) gs) (later (length ws) gs) (feed t)))
      → FiveAt d m icb room gs (ws ++ wanted d (within lost slots (room + room_by (length ws) gs) (later (length ws) gs) (feed t)))
  unfolding short_of within wanted outcome room_by
  entry-five true t lost slots room gs s a = fits (leb (length (embedded_bytes x)) (room + room_by (length ws) gs)) refl s
    where
      fits : (b : Bool) → leb (length (embedded_bytes x)) (room + room_by (length ws) gs) ≡ b → pick b enough of_room ≡ of_room
          → FiveAt d m icb room gs (ws ++ wanted d (pick b (put (embedded_bytes x) over) (put (take (room + room_by (length ws) gs) (embedded_bytes x)) (stop NoRoom))))
      fits true b s = not-room s
      fits false b s =
          let l = rw (entry-one d m icb x e) at (leb-false (length (embedded_bytes x)) (room + room_by (length ws) gs) b) in
          record {
            file = embedded x;
            resolves = resolve true t;
            full = rw (append-nil ws, entry-one d m icb x e) (full-first room gs (length (embedded_bytes x)) [] (rw (add-zero (first_of gs).room) at l));
          }
  entry-five false t lost slots room gs s a =
      let f = chain-five d M x.entry.kind x.entry.information_length most_continuations (area_of x).extents (area_of x).ending lost slots (room + room_by (length ws) gs) (later (length ws) gs) s a in
      record {
        file = chained x ((area_of x).extents ++ f.more);
        resolves = resolve false t ∙ outcome-then d (chain_of M x) (λ es. done (chained x es))
            ∙ ap (λ o. and_then o (λ es. answered (chained x es))) (outcome-then d rest (λ more. done ((area_of x).extents ++ more)) ∙ ap (λ o. and_then o (λ more. answered ((area_of x).extents ++ more))) f.answers);
        full = five-on room gs ws (asked d rest) (wanted d (within lost slots (room + room_by (length ws) gs) (later (length ws) gs) (feed false))) _
            (asks false t ∙ ap (λ l. ws ++ l) (asked-done d (chain_of M x) (λ es. chained x es) ∙ asked-done d rest (λ more. (area_of x).extents ++ more))) refl f.full;
      }

pub file-five : (d : Disc) (m : Mount) (icb : LongAd) (slots room : ℕ) (gs : List Grown) → short_of d false slots room gs (file_feed m icb) ≡ of_room
    → AllSized d (wanted d (within false slots room gs (file_feed m icb))) → FiveAt d m icb room gs (wanted d (within false slots room gs (file_feed m icb)))
unfolding file_feed entry_feed
file-five d m icb slots room gs s a = by (outcome d (entry_at m icb)) refl
  where
    ws₀ : List ℕ
    ws₀ = asked d (entry_at m icb)

    by : (o : Outcome Located) → outcome d (entry_at m icb) ≡ o → FiveAt d m icb room gs (wanted d (within false slots room gs (file_feed m icb)))
    by (refused r) e = not-room (sym (following-refused d (entry_feed (entry_mount m icb)) (entry_at m icb) e false slots room gs) ∙ s)
    by (answered x) e =
        let p = following-passes d 0 (entry_feed (entry_mount m icb)) x (entry_at m icb) e false slots room gs in
        rw p.list (entry-five d m icb x e (is_embedded x) refl p.lost' (slots + slots_by (length ws₀) gs) room gs (sym p.short ∙ s) (sized-back d ws₀ _ (rw p.list at a)))

-- ---- walks

walk-sized : {d : Disc} {ns taken : List ℕ} {gs : List Grown} {r q : Reading} {row row' : List (List ℕ)} {out out' : List ℕ} → Walk d ns gs taken r row out q row' out' → AllSized d ns
unfolding AllSized
walk-sized (ends e) = tt
walk-sized (steps s w h v f rest) = (rw h at (lent-sized s), walk-sized rest)

-- as row and output grow: the sectors wanted, a front of the read's list (ReadPromises `front-wanted`), are as many as bring the first byte that has no room
pub five-at : (d : Disc) (m : Mount) (icb : LongAd) {row₀ row row' : List (List ℕ)} {out out' ns taken : List ℕ} {gs : List Grown} {r q : Reading} → Starts (file_feed m icb) row₀ row r
    → Walk d ns gs taken r row out q row' out' → q.answer ≡ 5 → FiveAt d m icb (length out) gs ns
five-at d m icb {row₀} {out = out} {ns = ns} {gs = gs} st w e =
    let l = (reads.came d m icb st w).list in
    rw l (file-five d m icb (length row₀) (length out) gs (reads.five-short d m icb st w e) (rw l at (walk-sized w)))

-- in an output that stays: with one sector fewer there was room for all that had come
pub still-five : (d : Disc) (m : Mount) (icb : LongAd) {row₀ row row' : List (List ℕ)} {out out' ns : List ℕ} {r q : Reading} → Starts (file_feed m icb) row₀ row r
    → Still d ns r row out q row' out' → q.answer ≡ 5 → FiveStill d m icb (length out) ns
unfolding brought
still-five d m icb {out = out} {ns = ns} st w e =
    let f = five-at d m icb st (still-walks w (rw st.filled (omega arith))) e in
    let p = rw (room-none (length ns), add-zero (length out)) at f.full.past in
    let Some : 0 < length ns = least (length ns) (file_shares (length (asked d (file_at m icb))) f.file) p in
    record {
      file = f.file;
      resolves = f.resolves;
      fits = rw (room-none (length ns - 1), add-zero (length out)) at (f.full.before (length ns - 1) (omega arith));
      past = p;
    }
  where
    least : (n : ℕ) (shares : List ℕ) → length out < brought (take n shares) → 0 < n
    least zero shares l = absurd (omega arith)
    least (suc n) shares l = omega arith

-- ---- what the sectors bring is the file

brought-zeros : (n : ℕ) (s : List ℕ) → brought (replicate n 0 ++ s) ≡ brought s
unfolding brought
brought-zeros zero s = refl
brought-zeros (suc n) s = rw (zero-add (brought (replicate n 0 ++ s))) (brought-zeros n s)

image-sized : (image : List ℕ) (ns : List ℕ) → AllSized (disc image) ns
unfolding AllSized Sized
image-sized image [] = tt
image-sized image (n ∷ ns) = (one, image-sized image ns)
  where
    one : Sized (disc image n)
    one = ⊎_elim
        (λ (h : 2048 * n + 2048 ≤ length image). rw (held image n h) (length-take-le 2048 (drop (2048 * n) image) (rw length-drop (omega arith))))
        (λ (h : length image < 2048 * n + 2048). rw (lacking image n h) tt)
        (split (2048 * n + 2048) (length image))

-- over an image, the shares of a read that is answered add up to its bytes, whatever number of sectors entry and chain have
pub shares-all : (image : List ℕ) (m : Mount) (icb : LongAd) (f : File) (b : List ℕ) (n : ℕ) → outcome (disc image) (file_at m icb) ≡ answered f → outcome (disc image) (file_bytes m icb) ≡ answered b
    → brought (file_shares n f) ≡ length b
unfolding file_bytes outcome brought
shares-all image m icb f b n e g =
    by f (ap (λ o. and_then o (λ y. outcome (disc image) (content_of (entry_mount m icb) y))) (sym e) ∙ sym (outcome-then (disc image) (file_at m icb) (content_of (entry_mount m icb))) ∙ g)
  where
    d : Disc
    d = disc image

    by : (f : File) → outcome d (content_of (entry_mount m icb) f) ≡ answered b → brought (file_shares n f) ≡ length b
    by (embedded x) q = let z : embedded_bytes x ≡ b = cc in add-zero (length (embedded_bytes x)) ∙ ap length z
    by (chained x es) q = brought-zeros n (extent_shares es x.entry.information_length) ∙ told (end_of d feed₀) refl (sym (collected-outcome d [] feed₀) ∙ ap (outcome d) (collected-extents (entry_mount m icb) es x.entry.information_length []) ∙ same)
      where
        feed₀ : Feed
        feed₀ = extents_feed (entry_mount m icb) es x.entry.information_length

        same : outcome d (then (extents_bytes (entry_mount m icb) es x.entry.information_length) (λ b. done ([] ++ b))) ≡ answered b
        same = outcome-then d (extents_bytes (entry_mount m icb) es x.entry.information_length) (λ b. done ([] ++ b)) ∙ ap (λ o. and_then o (λ b. answered b)) q

        told : (y : Ending) → end_of d feed₀ ≡ y → outcome_by y (arrived d feed₀) ≡ answered b → brought (extent_shares es x.entry.information_length) ≡ length b
        told answers h k = let z : arrived d feed₀ ≡ b = cc in sym (extents-sum d (entry_mount m icb) es x.entry.information_length h (image-sized image (wanted d feed₀))) ∙ ap length z
        told (refuses r) h k = never k
