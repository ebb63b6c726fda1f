-- What is promised of 7, by the file's areas and its extent list: RULES 14.6 and 14.10. Assumes nothing.
--
--   the extents that a read holds are those of the areas that are accepted                                held-areas
--   where the extent list is answered they are that list, and so many places are needed                   areas-list, held-list
--   an embedded file, or one whose entry is refused, needs none, and 7 can't come                         embedded-none, refused_none, none-seven
--   7 only where the row has fewer places at first than there are extents                                 seven-few, seven-listed
--   and always where it has fewer at the last sector of entry and chain                                   few-seven, listed-seven
--   in a row that stays: exactly when it has fewer places than there are extents                          still-seven, still-few, still-listed-seven, still-listed-few
--   7 is told at the last sector of an area                                                               seven_at, still-at
--   where the list is answered the sectors wanted by then are a front of its sectors; if the area is the last of the chain, all of them    seven-front, seven-last
use mathlib.Core.Path.{◌≡◌, refl, ap, sym, ◌∙◌}
use mathlib.Core.Bool.{Bool, true, false}
use mathlib.Core.List.{List, [], ◌∷◌, ◌++◌, append_assoc}
use mathlib.Core.Logic.{⊎_elim}
use Prim.Native.Nat.{ℕ, zero, suc, ◌+◌, ◌<◌, ◌≤◌}
use native.Mathlib.Nat.{add-zero}
use native.Mathlib.Omega.{arith}
use lib.ListN.{length, take, drop, length-append}
use lib.Seq.{take_all}
use lib.Dec.{leb}
use Rattle.disc.specs.Choice.{pick}
use Rattle.disc.specs.Ask.{Disc, Outcome, outcome, asked, and_then}
use Rattle.disc.specs.Ask.Ask.{done}
use Rattle.disc.specs.Ask.Outcome.{answered, refused}
use Rattle.disc.specs.declared.places.Mount.{Mount}
use Rattle.disc.specs.declared.refusals.Refusal.{Refusal}
use Rattle.disc.proofs.AskLaws.{asked-done, outcome-then}
use Rattle.disc.proofs.RanLaws.{never}
use Rattle.disc.proofs.PickLaws.{not-both}
use Rattle.records.specs.declared.allocations.LongAd.{LongAd}
use Rattle.areas.specs.declared.AllocExtent.{AllocExtent}
use Rattle.areas.specs.declared.AdEnding.{AdEnding}
use Rattle.areas.specs.declared.AdEnding.TheVariants.{End, Continuation, Refused}
use Rattle.chains.specs.Chains.{most_continuations}
use Rattle.files.specs.Files.{Located, entry_at, entry_mount, is_embedded, embedded_bytes, File, file_at, extents_of, file_extents}
use Rattle.drives.specs.Feeds.{Feed, Grown, within, wanted, held_most, short_of}
use Rattle.drives.specs.Feeds.Feed.{over, put}
use Rattle.drives.specs.Feeds.Short.{enough, of_slots, of_room}
use Rattle.drives.specs.FileFeeds.{chain_feed, entry_feed, file_feed}
use Rattle.drives.specs.Readings.{Starts}
use Rattle.drives.specs.Moments.{slots_by, room_by, Accepted, unless_refused, areas_from, areas_behind, entry_areas, file_areas, extents_named, sectors_asked, CrowdedAt, CrowdedStill}
use Rattle.drives.specs.declared.readings.Reading.{Reading}
use Rattle.drives.proofs.MomentLaws.{later, slots-none, slots-add, following-passes, following-held, following-refused, following-holds-none}
use Rattle.drives.proofs.AcceptedLaws.{not-slots, held_by, Crowds, chain_held, refused-enough, chain-seven, chain-many, kept, chain-lists, area_of, FileIs, file-is}
use Rattle.drives.proofs.AcceptedLaws.FileIs.{in_entry, in-extents}
use Rattle.drives.proofs.Walks.{still-walks}
use Rattle.disc.specs.Marks.{Front}
use Rattle.drives.proofs.ReadPromises as reads
use Rattle.drives.specs.Walks.{Walk, Still}

-- ---- the entry

-- the first area in front of those behind it
crowded-first : (slots : ℕ) (gs : List Grown) (x : Accepted) (xs : List Accepted) (ns : List ℕ)
    → Crowds slots (slots + slots_by (length x.sectors) gs) (later (length x.sectors) gs) (length x.extents) xs ns → CrowdedAt slots gs (x ∷ xs) (x.sectors ++ ns)
unfolding extents_named sectors_asked slots_by
crowded-first slots gs x xs ns c = record {
  areas = suc c.areas;
  list = ap (λ l. x.sectors ++ l) c.list;
  before = each;
  past = rw (length-append x.extents (extents_named (take c.areas xs))) c.past;
}
  where
    each : (j : ℕ) → j < suc c.areas → length (extents_named (take j (x ∷ xs))) ≤ slots + slots_by (length (sectors_asked (take j (x ∷ xs)))) gs
    each zero l = omega arith
    each (suc j) l =
        let b = c.before j (omega arith) in
        rw (
          length-append x.extents (extents_named (take j xs)),
          length-append x.sectors (sectors_asked (take j xs)),
          slots-add (length x.sectors) (length (sectors_asked (take j xs))) gs,
        ) (omega arith)

module _ (d : Disc) (m : Mount) (x : Located) (ws : List ℕ) where
  abbrev areas : List Accepted
  areas = entry_areas d m ws (answered x)

  abbrev behind : AdEnding → List Accepted
  behind how = areas_behind d m x.entry.kind most_continuations how

  entry-held : held_most 0 d (entry_feed m x) ≡ length (extents_named areas)
  unfolding entry_feed held_most extents_named
  entry-held = by (is_embedded x)
    where
      by : (t : Bool)
          → held_most 0 d (pick t (put (embedded_bytes x) over) (chain_feed m x.entry.kind most_continuations x.entry.information_length (area_of x).extents (area_of x).ending))
          ≡ length (extents_named (pick t [] (areas_from ws (answered (area_of x)) behind)))
      by true = refl
      by false =
          chain_held d m x.entry.kind x.entry.information_length most_continuations (area_of x).extents (area_of x).ending 0 (omega arith)
          ∙ told (area_of x).ending
        where
          told : (how : AdEnding)
              → held_by how (length (area_of x).extents + length (extents_named (behind how)))
              ≡ length (extents_named (unless_refused how (record { sectors = ws; extents = (area_of x).extents } ∷ behind how)))
          told (Refused r) = refl
          told End = sym (length-append (area_of x).extents (extents_named (behind End)))
          told (Continuation a) = sym (length-append (area_of x).extents (extents_named (behind (Continuation a))))

  -- 7 behind the entry's sectors and those of its areas
  entry-seven : (lost : Bool) (slots room : ℕ) (gs : List Grown) → (lost ≡ true → ⊥) → short_of d lost (slots + slots_by (length ws) gs) room (later (length ws) gs) (entry_feed m x) ≡ of_slots
      → CrowdedAt slots gs areas (ws ++ wanted d (within lost (slots + slots_by (length ws) gs) room (later (length ws) gs) (entry_feed m x)))
  unfolding entry_feed short_of
  entry-seven lost slots room gs c e = by (is_embedded x) e
    where
      more : ℕ
      more = slots + slots_by (length ws) gs

      chain : Feed
      chain = chain_feed m x.entry.kind most_continuations x.entry.information_length (area_of x).extents (area_of x).ending

      by : (t : Bool) → short_of d lost more room (later (length ws) gs) (pick t (put (embedded_bytes x) over) chain) ≡ of_slots
          → CrowdedAt slots gs (pick t [] (areas_from ws (answered (area_of x)) behind)) (ws ++ wanted d (within lost more room (later (length ws) gs) (pick t (put (embedded_bytes x) over) chain)))
      by true e = none (leb (length (embedded_bytes x)) room) e
        where
          none : {A : Type 0} (t : Bool) → pick t enough of_room ≡ of_slots → A
          none true e = not-slots e
          none false e = absurd (let z : ◌≡◌ {A = ℕ} 0 1 = cc in omega arith)
      by false e =
          told (area_of x).ending refl (chain-seven d m x.entry.kind x.entry.information_length most_continuations (area_of x).extents (area_of x).ending lost more room slots (later (length ws) gs) (omega arith) (λ t. absurd (c t)) e)
        where
          after : List ℕ
          after = wanted d (within lost more room (later (length ws) gs) chain)

          told : (how : AdEnding) → (area_of x).ending ≡ how → Crowds slots more (later (length ws) gs) (length (area_of x).extents) (behind how) after
              → CrowdedAt slots gs (unless_refused how (record { sectors = ws; extents = (area_of x).extents } ∷ behind how)) (ws ++ after)
          told (Refused r) h c =
              not-slots (sym (refused-enough d m x.entry.kind x.entry.information_length most_continuations (area_of x).extents r lost more room (later (length ws) gs))
              ∙ ap (λ how. short_of d lost more room (later (length ws) gs) (chain_feed m x.entry.kind most_continuations x.entry.information_length (area_of x).extents how)) (sym h) ∙ e)
          told End h c = crowded-first slots gs (record { sectors = ws; extents = (area_of x).extents }) (behind End) after c
          told (Continuation a) h c = crowded-first slots gs (record { sectors = ws; extents = (area_of x).extents }) (behind (Continuation a)) after c

  -- more extents than slots
  entry-many : (lost : Bool) (slots room : ℕ) (gs : List Grown) → slots + slots_by (length (sectors_asked areas)) gs < length (extents_named areas)
      → short_of d lost (slots + slots_by (length ws) gs) room (later (length ws) gs) (entry_feed m x) ≡ of_slots
  unfolding entry_feed extents_named sectors_asked
  entry-many lost slots room gs = by (is_embedded x)
    where
      more : ℕ
      more = slots + slots_by (length ws) gs

      chain : AdEnding → Feed
      chain how = chain_feed m x.entry.kind most_continuations x.entry.information_length (area_of x).extents how

      on : (how : AdEnding) → ((r : Refusal) → how ≡ Refused r → ⊥) → slots + slots_by (length (ws ++ sectors_asked (behind how))) gs < length ((area_of x).extents ++ extents_named (behind how))
          → short_of d lost more room (later (length ws) gs) (chain how) ≡ of_slots
      on how c l =
          let z = rw (length-append ws (sectors_asked (behind how)), slots-add (length ws) (length (sectors_asked (behind how))) gs, length-append (area_of x).extents (extents_named (behind how))) at l in
          chain-many d m x.entry.kind x.entry.information_length most_continuations (area_of x).extents how lost more room (later (length ws) gs) c (omega arith)

      told : (how : AdEnding)
          → slots + slots_by (length (sectors_asked (unless_refused how (record { sectors = ws; extents = (area_of x).extents } ∷ behind how)))) gs
          < length (extents_named (unless_refused how (record { sectors = ws; extents = (area_of x).extents } ∷ behind how)))
          → short_of d lost more room (later (length ws) gs) (chain how) ≡ of_slots
      told (Refused r) l = absurd (omega arith)
      told End l = on End (λ r g. absurd (let z : ◌≡◌ {A = ℕ} 0 1 = cc in omega arith)) l
      told (Continuation a) l = on (Continuation a) (λ r g. absurd (let z : ◌≡◌ {A = ℕ} 0 1 = cc in omega arith)) l

      by : (t : Bool)
          → slots + slots_by (length (sectors_asked (pick t [] (areas_from ws (answered (area_of x)) behind)))) gs < length (extents_named (pick t [] (areas_from ws (answered (area_of x)) behind)))
          → short_of d lost more room (later (length ws) gs) (pick t (put (embedded_bytes x) over) (chain (area_of x).ending)) ≡ of_slots
      by true l = absurd (omega arith)
      by false l = told (area_of x).ending l

-- ---- the file

module _ (d : Disc) (m : Mount) (icb : LongAd) where
  -- the extents that a read holds are those of the areas that are accepted
  pub held-areas : held_most 0 d (file_feed m icb) ≡ length (extents_named (file_areas d m icb))
  unfolding file_feed file_areas extents_named
  held-areas = by (outcome d (entry_at m icb)) refl
    where
      by : (o : Outcome Located) → outcome d (entry_at m icb) ≡ o → held_most 0 d (file_feed m icb) ≡ length (extents_named (entry_areas d (entry_mount m icb) (asked d (entry_at m icb)) o))
      by (refused r) e = following-holds-none d (entry_feed (entry_mount m icb)) (entry_at m icb) e 0
      by (answered x) e = following-held d 0 (entry_feed (entry_mount m icb)) x (entry_at m icb) e 0 ∙ entry-held d (entry_mount m icb) x (asked d (entry_at m icb))

  -- an entry that is refused has no areas, and neither has an embedded file
  pub refused_none : {r : Refusal} → outcome d (entry_at m icb) ≡ refused r → file_areas d m icb ≡ []
  unfolding file_areas
  refused_none e = rw e refl

  pub embedded-none : {x : Located} → outcome d (entry_at m icb) ≡ answered x → is_embedded x ≡ true → file_areas d m icb ≡ []
  unfolding file_areas
  embedded-none e t = rw (e, t) refl

  pub file-seven : (slots room : ℕ) (gs : List Grown) → short_of d false slots room gs (file_feed m icb) ≡ of_slots
      → CrowdedAt slots gs (file_areas d m icb) (wanted d (within false slots room gs (file_feed m icb)))
  unfolding file_feed file_areas
  file-seven slots room gs s = by (outcome d (entry_at m icb)) refl
    where
      ws : List ℕ
      ws = asked d (entry_at m icb)

      by : (o : Outcome Located) → outcome d (entry_at m icb) ≡ o → CrowdedAt slots gs (entry_areas d (entry_mount m icb) ws o) (wanted d (within false slots room gs (file_feed m icb)))
      by (refused r) e = not-slots (sym (following-refused d (entry_feed (entry_mount m icb)) (entry_at m icb) e false slots room gs) ∙ s)
      by (answered x) e =
          let p = following-passes d 0 (entry_feed (entry_mount m icb)) x (entry_at m icb) e false slots room gs in
          rw p.list (entry-seven d (entry_mount m icb) x ws p.lost' slots (room + room_by (length ws) gs) gs (λ t. ⊎_elim (λ u. not-both u) (λ u. absurd (omega arith)) (p.losing t)) (sym p.short ∙ s))

  pub file-many : (slots room : ℕ) (gs : List Grown) → slots + slots_by (length (sectors_asked (file_areas d m icb))) gs < length (extents_named (file_areas d m icb)) → short_of d false slots room gs (file_feed m icb) ≡ of_slots
  unfolding file_feed file_areas extents_named sectors_asked
  file-many slots room gs = by (outcome d (entry_at m icb)) refl
    where
      ws : List ℕ
      ws = asked d (entry_at m icb)

      by : (o : Outcome Located) → outcome d (entry_at m icb) ≡ o
          → slots + slots_by (length (sectors_asked (entry_areas d (entry_mount m icb) ws o))) gs < length (extents_named (entry_areas d (entry_mount m icb) ws o))
          → short_of d false slots room gs (file_feed m icb) ≡ of_slots
      by (refused r) e l = absurd (omega arith)
      by (answered x) e l =
          let p = following-passes d 0 (entry_feed (entry_mount m icb)) x (entry_at m icb) e false slots room gs in
          p.short ∙ entry-many d (entry_mount m icb) x ws p.lost' slots (room + room_by (length ws) gs) gs l

  -- ---- beside the extent list

  -- a list that was answered is that of a file
  record Resolves (es : List AllocExtent) : Type 0 where
    file : File
    is : outcome d (file_at m icb) ≡ answered file
    lists : extents_of file ≡ es

  resolves : {es : List AllocExtent} → outcome d (file_extents m icb) ≡ answered es → Resolves es
  unfolding file_extents outcome
  resolves {es} e = by (outcome d (file_at m icb)) refl (sym (outcome-then d (file_at m icb) (λ f. done (extents_of f))) ∙ e)
    where
      by : (o : Outcome File) → outcome d (file_at m icb) ≡ o → and_then o (λ f. answered (extents_of f)) ≡ answered es → Resolves es
      by (refused r) g q = never q
      by (answered f) g q = record { file = f; is = g; lists = cc }

  -- where it is answered the areas have the extents of the list
  pub areas-list : {es : List AllocExtent} → outcome d (file_extents m icb) ≡ answered es → extents_named (file_areas d m icb) ≡ es
  unfolding file_areas extents_named
  areas-list e = let p = resolves e in by p.file (file-is d m icb p.file p.is) ∙ p.lists
    where
      by : (f : File) → FileIs d m icb f → extents_named (file_areas d m icb) ≡ extents_of f
      by f (in_entry x g t l) = rw (g, t) refl
      by f (in-extents x more g t h l) =
          let y = chain-lists d (entry_mount m icb) x.entry.kind most_continuations (area_of x).ending more h in
          rw (g, t, kept (area_of x).ending (record { sectors = asked d (entry_at m icb); extents = (area_of x).extents } ∷ areas_behind d (entry_mount m icb) x.entry.kind most_continuations (area_of x).ending) y.closed)
          (ap (λ z. (area_of x).extents ++ z) y.extents)

  -- and so many places are needed: none for an embedded file, whose list is empty
  pub held-list : {es : List AllocExtent} → outcome d (file_extents m icb) ≡ answered es → held_most 0 d (file_feed m icb) ≡ length es
  held-list e = held-areas ∙ ap length (areas-list e)

  -- of a file that has extents the areas have the sectors of the list
  pub areas-sectors : {es : List AllocExtent} → outcome d (file_extents m icb) ≡ answered es → 0 < length es → sectors_asked (file_areas d m icb) ≡ asked d (file_extents m icb)
  unfolding file_areas file_extents sectors_asked
  areas-sectors {es} e some = let p = resolves e in by p.file p.lists (file-is d m icb p.file p.is) ∙ sym (asked-done d (file_at m icb) extents_of)
    where
      by : (f : File) → extents_of f ≡ es → FileIs d m icb f → sectors_asked (file_areas d m icb) ≡ asked d (file_at m icb)
      by f q (in_entry x g t l) = absurd (let z : length es ≡ 0 = ap length (sym q) in omega arith)
      by f q (in-extents x more g t h l) =
          let y = chain-lists d (entry_mount m icb) x.entry.kind most_continuations (area_of x).ending more h in
          rw (g, t, kept (area_of x).ending (record { sectors = asked d (entry_at m icb); extents = (area_of x).extents } ∷ areas_behind d (entry_mount m icb) x.entry.kind most_continuations (area_of x).ending) y.closed)
          (ap (λ z. asked d (entry_at m icb) ++ z) y.sectors ∙ sym l)

-- ---- a walk, as row and output grow

first-fewer : (k : ℕ) (xs : List Accepted) → length (extents_named (take k xs)) ≤ length (extents_named xs)
unfolding extents_named
first-fewer zero xs = omega arith
first-fewer (suc k) [] = omega arith
first-fewer (suc k) (x ∷ xs) =
    let l = first-fewer k xs in
    rw (length-append x.extents (extents_named (take k xs)), length-append x.extents (extents_named xs)) (omega arith)

areas-parts : (k : ℕ) (xs : List Accepted) → sectors_asked xs ≡ sectors_asked (take k xs) ++ sectors_asked (drop k xs)
unfolding sectors_asked
areas-parts zero xs = refl
areas-parts (suc k) [] = refl
areas-parts (suc k) (x ∷ xs) = ap (λ l. x.sectors ++ l) (areas-parts k xs) ∙ sym (append_assoc x.sectors (sectors_asked (take k xs)) (sectors_asked (drop k xs)))

module _ (d : Disc) (m : Mount) (icb : LongAd) {row₀ row row' : List (List ℕ)} {out out' ns taken : List ℕ} {gs : List Grown} {r q : Reading} (st : Starts (file_feed m icb) row₀ row r)
    (w : Walk d ns gs taken r row out q row' out') where
  -- at which sector 7 is told: the last of an area's, with whose extents there are more than the row had places at first
  pub seven_at : q.answer ≡ 7 → CrowdedAt (length row₀) gs (file_areas d m icb) ns
  seven_at e = rw (reads.came d m icb st w).list (file-seven d m icb (length row₀) (length out) gs (reads.seven-short d m icb st w e))

  -- 7 only where the areas have more extents than the row has places at first; and always where they have more than it has at the last sector of them
  pub seven-few : q.answer ≡ 7 → length row₀ < length (extents_named (file_areas d m icb))
  seven-few e = let c = seven_at e in let p = c.past in let l = first-fewer c.areas (file_areas d m icb) in omega arith

  pub few-seven : length row₀ + slots_by (length (sectors_asked (file_areas d m icb))) gs < length (extents_named (file_areas d m icb)) → q.answer ≡ 7
  few-seven l = reads.short-seven d m icb st w (file-many d m icb (length row₀) (length out) gs l)

  -- so it can't come where there are no areas
  pub none-seven : file_areas d m icb ≡ [] → q.answer ≡ 7 → ⊥
  unfolding extents_named
  none-seven e a = let l = rw e at (seven-few a) in omega arith

  -- by the extent list, where it is answered
  module _ {es : List AllocExtent} (e : outcome d (file_extents m icb) ≡ answered es) where
    pub seven-listed : q.answer ≡ 7 → length row₀ < length es
    seven-listed a = rw (areas-list d m icb e) at (seven-few a)

    pub listed-seven : length row₀ + slots_by (length (asked d (file_extents m icb))) gs < length es → q.answer ≡ 7
    listed-seven l = few-seven (rw (areas-sectors d m icb e (omega arith), areas-list d m icb e) l)

    listed-all : q.answer ≡ 7 → sectors_asked (file_areas d m icb) ≡ asked d (file_extents m icb)
    listed-all a = areas-sectors d m icb e (let l = seven-listed a in omega arith)

    -- the sectors wanted by then are a front of the list's; all of them, if the area is the last of the chain
    pub seven-front : q.answer ≡ 7 → Front ns (asked d (file_extents m icb))
    seven-front a =
        let c = seven_at a in
        record { rest = sectors_asked (drop c.areas (file_areas d m icb)); is = sym (listed-all a) ∙ areas-parts c.areas (file_areas d m icb) ∙ ap (λ l. l ++ sectors_asked (drop c.areas (file_areas d m icb))) (sym c.list) }

    pub seven-last : q.answer ≡ 7 → (c : CrowdedAt (length row₀) gs (file_areas d m icb) ns) → length (file_areas d m icb) ≤ c.areas → ns ≡ asked d (file_extents m icb)
    seven-last a c l = c.list ∙ ap sectors_asked (take_all c.areas (file_areas d m icb) l) ∙ listed-all a

-- ---- a walk in which nothing grows

module _ (d : Disc) (m : Mount) (icb : LongAd) {row₀ row row' : List (List ℕ)} {out out' ns : List ℕ} {r q : Reading} (st : Starts (file_feed m icb) row₀ row r)
    (still : Still d ns r row out q row' out') where
  w : Walk d ns [] [] r row out q row' out'
  w = still-walks still (rw st.filled (omega arith))

  -- 7 exactly when there are more extents than places, whether the extent list is answered or refused
  pub still-seven : q.answer ≡ 7 → length row₀ < length (extents_named (file_areas d m icb))
  still-seven e = seven-few d m icb st w e

  pub still-few : length row₀ < length (extents_named (file_areas d m icb)) → q.answer ≡ 7
  still-few l = few-seven d m icb st w (rw (slots-none (length (sectors_asked (file_areas d m icb))), add-zero (length row₀)) l)

  module _ {es : List AllocExtent} (e : outcome d (file_extents m icb) ≡ answered es) where
    pub still-listed-seven : q.answer ≡ 7 → length row₀ < length es
    still-listed-seven a = seven-listed d m icb st w e a

    pub still-listed-few : length row₀ < length es → q.answer ≡ 7
    still-listed-few l = listed-seven d m icb st w e (rw (slots-none (length (asked d (file_extents m icb))), add-zero (length row₀)) l)

  -- the sectors wanted then
  pub still-at : q.answer ≡ 7 → CrowdedStill (length row₀) (file_areas d m icb) ns
  unfolding extents_named
  still-at e = let c = seven_at d m icb st w e in by c.areas c.list c.before c.past
    where
      xs : List Accepted
      xs = file_areas d m icb

      by : (k : ℕ) → ns ≡ sectors_asked (take k xs) → ((j : ℕ) → j < k → length (extents_named (take j xs)) ≤ length row₀ + slots_by (length (sectors_asked (take j xs))) []) → length row₀ < length (extents_named (take k xs))
          → CrowdedStill (length row₀) (file_areas d m icb) ns
      by zero l b p = absurd (omega arith)
      by (suc k) l b p =
          let f = b k (omega arith) in
          record { areas = k; list = l; fits = rw (slots-none (length (sectors_asked (take k xs))), add-zero (length row₀)) at f; past = p }
