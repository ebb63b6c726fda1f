-- Laws of the areas of a file that are accepted: the read holds their extents, and 7 is told behind their sectors. Assumes nothing.
use mathlib.Core.Path.{◌≡◌, refl, ap, sym, ◌∙◌}
use mathlib.Core.Bool.{Bool, true, false, ◌||◌}
use mathlib.Core.List.{List, [], ◌∷◌, ◌++◌, append-nil}
use mathlib.Core.Logic.{⊎_elim}
use Prim.Native.Nat.{ℕ, zero, suc, ◌+◌, ◌-◌, ◌<◌, ◌≤◌, max}
use native.Mathlib.Nat.{add-zero}
use native.Mathlib.Omega.{arith}
use lib.ListN.{length, take, length-append}
use lib.Dec.{ltb, leb}
use borrow.Author.Tests.{lt-ltb, ltb-true, ltb-false}
use Rattle.disc.specs.Choice.{pick}
use Rattle.disc.specs.Ask.{Disc, Held, Ask, Outcome, given, outcome, asked, then, and_then}
use Rattle.disc.specs.Ask.Held.{holds, lacks}
use Rattle.disc.specs.Ask.Ask.{done}
use Rattle.disc.specs.Ask.Outcome.{answered, refused}
use Rattle.disc.specs.declared.places.Mount.{Mount}
use Rattle.disc.specs.declared.refusals.Refusal.{Refusal}
use Rattle.disc.specs.declared.refusals.Refusal.TheVariants.{Malformed, NoSlot}
use Rattle.disc.proofs.AskLaws.{asked-then, asked-done, outcome-then}
use Rattle.disc.proofs.RanLaws.{never}
use Rattle.disc.proofs.PickLaws.{not-both}
use Rattle.records.specs.declared.allocations.LongAd.{LongAd}
use Rattle.areas.specs.declared.AllocExtent.{AllocExtent}
use Rattle.areas.specs.declared.AdContinuation.{AdContinuation}
use Rattle.areas.specs.declared.AdEnding.{AdEnding}
use Rattle.areas.specs.declared.AdEnding.TheVariants.{End, Continuation, Refused}
use Rattle.areas.specs.Areas.{Area, area_at}
use Rattle.chains.specs.Chains.{most_continuations, next_area, continued}
use Rattle.files.specs.Files.{Located, entry_at, entry_mount, is_embedded, chain_of, File, resolved, file_at}
use Rattle.files.specs.Files.File.{embedded, chained}
use Rattle.drives.specs.Feeds.{Feed, naming, Grown, first_of, behind_first, within, wanted, held_most, Short, short_of}
use Rattle.drives.specs.Feeds.Feed.{over, stop, name, hold, put, want}
use Rattle.drives.specs.Feeds.Short.{enough, of_slots, of_room}
use Rattle.drives.specs.FileFeeds.{extents_feed, joined, named_by, chain_feed}
use Rattle.drives.specs.Moments.{slots_by, room_by, Accepted, unless_refused, areas_from, areas_behind, extents_named, sectors_asked}
use Rattle.drives.proofs.MomentLaws.{later, slots-add, path_of, Passes, naming-passes, naming-names, naming-refused, naming-holds-none}
use Rattle.drives.proofs.SlotLaws.{whole_area, named-below, next-whole}
use Rattle.drives.proofs.Promises.{Free, free-none, extents-free}
use Rattle.disc.specs.Lists.{asked_behind}

-- ---- what holds no extent needs no slot

pub not-slots : {A : Type 0} → enough ≡ of_slots → A
not-slots e = absurd (let z : ◌≡◌ {A = ℕ} 0 1 = cc in omega arith)

pub free-slots : {A : Type 0} (d : Disc) (lost : Bool) (slots room : ℕ) (gs : List Grown) (f : Feed) → Free f → short_of d lost slots room gs f ≡ of_slots → A
unfolding Free short_of
free-slots d lost slots room gs over h e = not-slots e
free-slots d lost slots room gs (stop r) h e = not-slots e
free-slots d lost slots room gs (name n f) h e = absurd h
free-slots d lost slots room gs (hold n f) h e = absurd h
free-slots {A} d lost slots room gs (put b f) h e = by (leb (length b) room) e (free-slots d lost slots (room - length b) gs f h)
  where
    by : (t : Bool) → pick t (short_of d lost slots (room - length b) gs f) of_room ≡ of_slots → (short_of d lost slots (room - length b) gs f ≡ of_slots → A) → A
    by true e ih = ih e
    by false e ih = absurd (let z : ◌≡◌ {A = ℕ} 0 1 = cc in omega arith)
free-slots {A} d lost slots room gs (want s k) h e =
    by (d s) e (λ b g. free-slots d lost (slots + (first_of gs).slots) (room + (first_of gs).room) (behind_first gs) (k b) (h b) g)
  where
    after : List ℕ → Short
    after b = short_of d lost (slots + (first_of gs).slots) (room + (first_of gs).room) (behind_first gs) (k b)

    by : (x : Held) → given x after enough ≡ of_slots → ((b : List ℕ) → after b ≡ of_slots → A) → A
    by (holds b) e ih = ih b e
    by lacks e ih = not-slots e

-- ---- the chain

-- nothing is held of an area that is refused by itself
abbrev pub held_by : AdEnding → ℕ → ℕ
held_by (Refused r) n = 0
held_by End n = n
held_by (Continuation a) n = n

-- 7 behind an area with which there are e extents: after the sectors of the first areas behind it
pub record Crowds (base slots : ℕ) (gs : List Grown) (e : ℕ) (xs : List Accepted) (ns : List ℕ) : Type 0 where
  pub areas : ℕ
  pub list : ns ≡ sectors_asked (take areas xs)
  pub before : (j : ℕ) → j < areas → e + length (extents_named (take j xs)) ≤ slots + slots_by (length (sectors_asked (take j xs))) gs
  pub past : base < e + length (extents_named (take areas xs))

-- an area that is behind one: of its extents x there are e before
crowds-on : (base slots : ℕ) (gs : List Grown) (es : List AllocExtent) (x : Accepted) (xs : List Accepted) (ns : List ℕ) → length es ≤ slots
    → Crowds base (slots + slots_by (length x.sectors) gs) (later (length x.sectors) gs) (length (es ++ x.extents)) xs ns → Crowds base slots gs (length es) (x ∷ xs) (x.sectors ++ ns)
unfolding extents_named sectors_asked slots_by
crowds-on base slots gs es x xs ns h c = record {
  areas = suc c.areas;
  list = ap (λ l. x.sectors ++ l) c.list;
  before = each;
  past = rw (length-append x.extents (extents_named (take c.areas xs))) (sum c.past);
}
  where
    sum : base < length (es ++ x.extents) + length (extents_named (take c.areas xs)) → base < length es + (length x.extents + length (extents_named (take c.areas xs)))
    sum l = let q = length-append es x.extents in omega arith

    each : (j : ℕ) → j < suc c.areas → length es + length (extents_named (take j (x ∷ xs))) ≤ slots + slots_by (length (sectors_asked (take j (x ∷ xs)))) gs
    each zero l = rw (add-zero (length es), add-zero slots) h
    each (suc j) l =
        let b = c.before j (omega arith) in
        let q = length-append es x.extents in
        rw (
          length-append x.extents (extents_named (take j xs)),
          length-append x.sectors (sectors_asked (take j xs)),
          slots-add (length x.sectors) (length (sectors_asked (take j xs))) gs,
        ) (omega arith)

-- more extents than slots where they are accepted
full-row : (es : List AllocExtent) (x : Short) (lost : Bool) (slots : ℕ) → slots < length es → pick (lost || ltb slots (length es)) of_slots x ≡ of_slots
full-row es x true slots l = refl
full-row es x false slots l = rw (lt-ltb slots (length es) l)

slots-short : {x : Short} (t : Bool) → x ≡ of_slots → pick t of_slots x ≡ of_slots
slots-short true e = refl
slots-short false e = e

module _ (d : Disc) (m : Mount) (kind missing : ℕ) where
  -- what follows a continuation that was read
  abbrev behind : ℕ → List AllocExtent → Area → Feed
  behind n es x = chain_feed m kind n missing (joined es x) x.ending

  abbrev next : ℕ → List AllocExtent → AdContinuation → Feed
  next n es a = naming (named_by kind a.length es) (next_area m kind a) (behind n es)

  pub upto : (es : List AllocExtent) (a : AdContinuation) (x : Area) → outcome d (next_area m kind a) ≡ answered x
      → (p q : List ℕ) → p ++ q ≡ path_of d (next_area m kind a) → named_by kind a.length es p ≤ length (joined es x)
  upto es a x e p q g =
      let z : x ≡ whole_area kind (p ++ q) = next-whole d m kind a x e ∙ ap (whole_area kind) (sym g) in
      rw z (named-below kind a.length es p q)

  -- ---- the extents that are held are those of the areas

  free-held : (h : ℕ) (es : List AllocExtent) → h ≤ length es → max (max h (length es)) (held_most 0 d (extents_feed m es missing)) ≡ length es + 0
  free-held h es l = rw (free-none (extents_feed m es missing) (extents-free m es missing) d 0) (omega arith)

  pub chain_held : (n : ℕ) (es : List AllocExtent) (how : AdEnding) (h : ℕ) → h ≤ length es
      → held_most h d (chain_feed m kind n missing es how) ≡ held_by how (length es + length (extents_named (areas_behind d m kind n how)))
  unfolding chain_feed areas_behind held_most extents_named
  chain_held zero es (Refused r) h l = refl
  chain_held zero es End h l = free-held h es l
  chain_held zero es (Continuation a) h l = omega arith
  chain_held (suc n) es (Refused r) h l = refl
  chain_held (suc n) es End h l = free-held h es l
  chain_held (suc n) es (Continuation a) h l = by (outcome d (next_area m kind a)) refl (λ x. chain_held n (joined es x) x.ending)
    where
      by : (o : Outcome Area) → outcome d (next_area m kind a) ≡ o
          → ((x : Area) (h : ℕ) → h ≤ length (joined es x) → held_most h d (behind n es x) ≡ held_by x.ending (length (joined es x) + length (extents_named (areas_behind d m kind n x.ending))))
          → max (max h (length es)) (held_most 0 d (next n es a)) ≡ length es + length (extents_named (areas_from (asked d (next_area m kind a)) o (λ how. areas_behind d m kind n how)))
      by (refused r) e ih = rw (naming-holds-none d (behind n es) (next_area m kind a) (named_by kind a.length es) e 0) (omega arith)
      by (answered x) e ih =
          let p = naming-names d (length (joined es x)) (behind n es) x (next_area m kind a) (named_by kind a.length es) (upto es a x e) e 0 in
          told x.ending (p.same ∙ ih x p.most (let q = p.below in omega arith))
        where
          told : (how : AdEnding) → held_most 0 d (next n es a) ≡ held_by how (length (joined es x) + length (extents_named (areas_behind d m kind n how)))
              → max (max h (length es)) (held_most 0 d (next n es a))
              ≡ length es + length (extents_named (unless_refused how (record { sectors = asked d (next_area m kind a); extents = x.extents } ∷ areas_behind d m kind n how)))
          told (Refused r) q = rw q (omega arith)
          told End q =
              let i = length-append es x.extents in
              rw (q, length-append x.extents (extents_named (areas_behind d m kind n End))) (omega arith)
          told (Continuation c) q =
              let i = length-append es x.extents in
              rw (q, length-append x.extents (extents_named (areas_behind d m kind n (Continuation c)))) (omega arith)

  -- ---- 7 behind the sectors of the areas

  -- where an area is accepted: 7 at once, or what comes behind it
  at-hold : (es : List AllocExtent) (xs : List Accepted) (f : Feed) (lost : Bool) (slots room base : ℕ) (gs : List Grown) → base ≤ slots → (lost ≡ true → base < length es)
      → (length es ≤ slots → short_of d false slots room gs f ≡ of_slots → Crowds base slots gs (length es) xs (wanted d (within false slots room gs f)))
      → (t : Bool) → (lost || ltb slots (length es)) ≡ t → pick t of_slots (short_of d false slots room gs f) ≡ of_slots
      → Crowds base slots gs (length es) xs (wanted d (pick t (stop NoSlot) (within false slots room gs f)))
  unfolding wanted extents_named sectors_asked
  at-hold es xs f lost slots room base gs i q rest true t e = record { areas = 0; list = refl; before = λ j l. absurd (omega arith); past = told lost t q }
    where
      told : (lost : Bool) → (lost || ltb slots (length es)) ≡ true → (lost ≡ true → base < length es) → base < length es + 0
      told true t q = let l = q refl in omega arith
      told false t q = let l = ltb-true slots (length es) t in omega arith
  at-hold es xs f lost slots room base gs i q rest false t e = rest (room_for lost t) e
    where
      room_for : (lost : Bool) → (lost || ltb slots (length es)) ≡ false → length es ≤ slots
      room_for true t = not-both (sym t)
      room_for false t = ltb-false slots (length es) t

  pub refused-enough : (n : ℕ) (es : List AllocExtent) (r : Refusal) (lost : Bool) (slots room : ℕ) (gs : List Grown) → short_of d lost slots room gs (chain_feed m kind n missing es (Refused r)) ≡ enough
  unfolding chain_feed short_of
  refused-enough zero es r lost slots room gs = refl
  refused-enough (suc n) es r lost slots room gs = refl

  pub chain-seven : (n : ℕ) (es : List AllocExtent) (how : AdEnding) (lost : Bool) (slots room base : ℕ) (gs : List Grown) → base ≤ slots → (lost ≡ true → base < length es)
      → short_of d lost slots room gs (chain_feed m kind n missing es how) ≡ of_slots
      → Crowds base slots gs (length es) (areas_behind d m kind n how) (wanted d (within lost slots room gs (chain_feed m kind n missing es how)))
  unfolding chain_feed areas_behind short_of within
  chain-seven zero es (Refused r) lost slots room base gs i q e = not-slots e
  chain-seven zero es End lost slots room base gs i q e =
      at-hold es [] (extents_feed m es missing) lost slots room base gs i q (λ l g. free-slots d false slots room gs (extents_feed m es missing) (extents-free m es missing) g) (lost || ltb slots (length es)) refl e
  chain-seven zero es (Continuation a) lost slots room base gs i q e = at-hold es [] (stop Malformed) lost slots room base gs i q (λ l g. not-slots g) (lost || ltb slots (length es)) refl e
  chain-seven (suc n) es (Refused r) lost slots room base gs i q e = not-slots e
  chain-seven (suc n) es End lost slots room base gs i q e =
      at-hold es [] (extents_feed m es missing) lost slots room base gs i q (λ l g. free-slots d false slots room gs (extents_feed m es missing) (extents-free m es missing) g) (lost || ltb slots (length es)) refl e
  chain-seven (suc n) es (Continuation a) lost slots room base gs i q e =
      at-hold es (areas_from (asked d (next_area m kind a)) (outcome d (next_area m kind a)) (λ how. areas_behind d m kind n how)) (next n es a) lost slots room base gs i q
      (λ l g. by (outcome d (next_area m kind a)) refl l g (λ x. chain-seven n (joined es x) x.ending)) (lost || ltb slots (length es)) refl e
    where
      Behind : Area → Type 0
      Behind x = (lost : Bool) (slots room base : ℕ) (gs : List Grown) → base ≤ slots → (lost ≡ true → base < length (joined es x)) → short_of d lost slots room gs (behind n es x) ≡ of_slots
          → Crowds base slots gs (length (joined es x)) (areas_behind d m kind n x.ending) (wanted d (within lost slots room gs (behind n es x)))

      by : (o : Outcome Area) → outcome d (next_area m kind a) ≡ o → length es ≤ slots → short_of d false slots room gs (next n es a) ≡ of_slots → ((x : Area) → Behind x)
          → Crowds base slots gs (length es) (areas_from (asked d (next_area m kind a)) o (λ how. areas_behind d m kind n how)) (wanted d (within false slots room gs (next n es a)))
      by (refused r) g l s ih = not-slots (sym (naming-refused d (behind n es) (next_area m kind a) (named_by kind a.length es) g false slots room gs) ∙ s)
      by (answered x) g l s ih = rw p.list (told x.ending refl c)
        where
          ws : List ℕ
          ws = asked d (next_area m kind a)

          p : Passes d (length (joined es x)) false slots room gs (next n es a) ws (behind n es x)
          p = naming-passes d (length (joined es x)) (behind n es) x (next_area m kind a) (named_by kind a.length es) (upto es a x g) g false slots room gs

          after : List ℕ
          after = wanted d (within p.lost' (slots + slots_by (length ws) gs) (room + room_by (length ws) gs) (later (length ws) gs) (behind n es x))

          c : Crowds base (slots + slots_by (length ws) gs) (later (length ws) gs) (length (joined es x)) (areas_behind d m kind n x.ending) after
          c = ih x p.lost' (slots + slots_by (length ws) gs) (room + room_by (length ws) gs) base (later (length ws) gs) (omega arith)
              (λ t. ⊎_elim (λ u. not-both u) (λ u. omega arith) (p.losing t)) (sym p.short ∙ s)

          told : (how : AdEnding) → x.ending ≡ how → Crowds base (slots + slots_by (length ws) gs) (later (length ws) gs) (length (joined es x)) (areas_behind d m kind n how) after
              → Crowds base slots gs (length es) (unless_refused how (record { sectors = ws; extents = x.extents } ∷ areas_behind d m kind n how)) (ws ++ after)
          told (Refused r) h c = not-slots (sym (refused-enough n (joined es x) r _ _ _ _) ∙ ap (λ how. short_of d p.lost' (slots + slots_by (length ws) gs) (room + room_by (length ws) gs) (later (length ws) gs) (chain_feed m kind n missing (joined es x) how)) (sym h) ∙ sym p.short ∙ s)
          told End h c = crowds-on base slots gs es (record { sectors = ws; extents = x.extents }) (areas_behind d m kind n End) after l c
          told (Continuation b) h c = crowds-on base slots gs es (record { sectors = ws; extents = x.extents }) (areas_behind d m kind n (Continuation b)) after l c

  -- ---- and more extents than slots are 7

  pub chain-many : (n : ℕ) (es : List AllocExtent) (how : AdEnding) (lost : Bool) (slots room : ℕ) (gs : List Grown) → ((r : Refusal) → how ≡ Refused r → ⊥)
      → slots + slots_by (length (sectors_asked (areas_behind d m kind n how))) gs < length es + length (extents_named (areas_behind d m kind n how))
      → short_of d lost slots room gs (chain_feed m kind n missing es how) ≡ of_slots
  unfolding chain_feed areas_behind short_of extents_named sectors_asked slots_by
  chain-many zero es (Refused r) lost slots room gs c l = absurd (c r refl)
  chain-many zero es End lost slots room gs c l = full-row es _ lost slots (omega arith)
  chain-many zero es (Continuation a) lost slots room gs c l = full-row es _ lost slots (omega arith)
  chain-many (suc n) es (Refused r) lost slots room gs c l = absurd (c r refl)
  chain-many (suc n) es End lost slots room gs c l = full-row es _ lost slots (omega arith)
  chain-many (suc n) es (Continuation a) lost slots room gs c l =
      by (outcome d (next_area m kind a)) refl l (λ x. chain-many n (joined es x) x.ending)
    where
      ws : List ℕ
      ws = asked d (next_area m kind a)

      areas : Outcome Area → List Accepted
      areas o = areas_from ws o (λ how. areas_behind d m kind n how)

      Behind : Area → Type 0
      Behind x = (lost : Bool) (slots room : ℕ) (gs : List Grown) → ((r : Refusal) → x.ending ≡ Refused r → ⊥)
          → slots + slots_by (length (sectors_asked (areas_behind d m kind n x.ending))) gs < length (joined es x) + length (extents_named (areas_behind d m kind n x.ending))
          → short_of d lost slots room gs (behind n es x) ≡ of_slots

      by : (o : Outcome Area) → outcome d (next_area m kind a) ≡ o → slots + slots_by (length (sectors_asked (areas o))) gs < length es + length (extents_named (areas o)) → ((x : Area) → Behind x)
          → pick (lost || ltb slots (length es)) of_slots (short_of d false slots room gs (next n es a)) ≡ of_slots
      by (refused r) e l ih = full-row es _ lost slots (omega arith)
      by (answered x) e l ih = told x.ending refl l
        where
          p : Passes d (length (joined es x)) false slots room gs (next n es a) ws (behind n es x)
          p = naming-passes d (length (joined es x)) (behind n es) x (next_area m kind a) (named_by kind a.length es) (upto es a x e) e false slots room gs

          on : (how : AdEnding) → x.ending ≡ how → ((r : Refusal) → how ≡ Refused r → ⊥)
              → slots + slots_by (length (ws ++ sectors_asked (areas_behind d m kind n how))) gs < length es + length (x.extents ++ extents_named (areas_behind d m kind n how))
              → pick (lost || ltb slots (length es)) of_slots (short_of d false slots room gs (next n es a)) ≡ of_slots
          on how h c l =
              let i = length-append es x.extents in
              let z = rw (length-append ws (sectors_asked (areas_behind d m kind n how)), slots-add (length ws) (length (sectors_asked (areas_behind d m kind n how))) gs, length-append x.extents (extents_named (areas_behind d m kind n how))) at l in
              slots-short (lost || ltb slots (length es)) (p.short ∙ ih x p.lost' _ _ _ (λ r g. c r (sym h ∙ g)) (rw h (omega arith)))

          told : (how : AdEnding) → x.ending ≡ how
              → slots + slots_by (length (sectors_asked (unless_refused how (record { sectors = ws; extents = x.extents } ∷ areas_behind d m kind n how)))) gs
              < length es + length (extents_named (unless_refused how (record { sectors = ws; extents = x.extents } ∷ areas_behind d m kind n how)))
              → pick (lost || ltb slots (length es)) of_slots (short_of d false slots room gs (next n es a)) ≡ of_slots
          told (Refused r) h l = full-row es _ lost slots (omega arith)
          told End h l = on End h (λ r g. absurd (let z : ◌≡◌ {A = ℕ} 0 1 = cc in omega arith)) l
          told (Continuation b) h l = on (Continuation b) h (λ r g. absurd (let z : ◌≡◌ {A = ℕ} 0 1 = cc in omega arith)) l

-- ---- a chain that is answered: its areas have its extents, and its sectors

pub record Lists (d : Disc) (m : Mount) (kind n : ℕ) (how : AdEnding) (more : List AllocExtent) : Type 0 where
  pub extents : extents_named (areas_behind d m kind n how) ≡ more
  pub sectors : sectors_asked (areas_behind d m kind n how) ≡ asked d (continued m kind n how)
  pub closed : (r : Refusal) → how ≡ Refused r → ⊥

pub kept : (how : AdEnding) (xs : List Accepted) → ((r : Refusal) → how ≡ Refused r → ⊥) → unless_refused how xs ≡ xs
kept (Refused r) xs c = absurd (c r refl)
kept End xs c = refl
kept (Continuation a) xs c = refl

-- how an answered chain goes on behind a continuation
record Onward (d : Disc) (m : Mount) (kind n : ℕ) (a : AdContinuation) (more : List AllocExtent) : Type 0 where
  area : Area
  rest : List AllocExtent
  first : outcome d (next_area m kind a) ≡ answered area
  then-on : outcome d (continued m kind n area.ending) ≡ answered rest
  joins : more ≡ area.extents ++ rest
  list : asked d (continued m kind (suc n) (Continuation a)) ≡ asked d (next_area m kind a) ++ asked d (continued m kind n area.ending)

onward : (d : Disc) (m : Mount) (kind n : ℕ) (a : AdContinuation) (more : List AllocExtent) → outcome d (continued m kind (suc n) (Continuation a)) ≡ answered more → Onward d m kind n a more
unfolding continued outcome
onward d m kind n a more e = by (outcome d (next_area m kind a)) refl (sym (outcome-then d (next_area m kind a) all) ∙ e)
  where
    all : Area → Ask (List AllocExtent)
    all x = then (continued m kind n x.ending) (λ more. done (x.extents ++ more))

    by : (o : Outcome Area) → outcome d (next_area m kind a) ≡ o → and_then o (λ x. outcome d (all x)) ≡ answered more → Onward d m kind n a more
    by (refused r) g q = never q
    by (answered x) g q = told (outcome d (continued m kind n x.ending)) refl (sym (outcome-then d (continued m kind n x.ending) (λ more. done (x.extents ++ more))) ∙ q)
      where
        told : (o : Outcome (List AllocExtent)) → outcome d (continued m kind n x.ending) ≡ o → and_then o (λ rest. answered (x.extents ++ rest)) ≡ answered more → Onward d m kind n a more
        told (refused r) h q = never q
        told (answered rest) h q =
            let z : x.extents ++ rest ≡ more = cc in
            record {
              area = x;
              rest = rest;
              first = g;
              then-on = h;
              joins = sym z;
              list = asked-then d (next_area m kind a) all ∙ ap (λ o. asked d (next_area m kind a) ++ asked_behind d o all) g ∙ ap (λ l. asked d (next_area m kind a) ++ l) (asked-done d (continued m kind n x.ending) (λ more. x.extents ++ more));
            }

pub chain-lists : (d : Disc) (m : Mount) (kind n : ℕ) (how : AdEnding) (more : List AllocExtent) → outcome d (continued m kind n how) ≡ answered more → Lists d m kind n how more
unfolding continued outcome asked areas_behind extents_named sectors_asked
chain-lists d m kind zero End more e = record { extents = cc; sectors = refl; closed = λ r g. absurd (let z : ◌≡◌ {A = ℕ} 0 1 = cc in omega arith) }
chain-lists d m kind zero (Refused r) more e = never e
chain-lists d m kind zero (Continuation a) more e = never e
chain-lists d m kind (suc n) End more e = record { extents = cc; sectors = refl; closed = λ r g. absurd (let z : ◌≡◌ {A = ℕ} 0 1 = cc in omega arith) }
chain-lists d m kind (suc n) (Refused r) more e = never e
chain-lists d m kind (suc n) (Continuation a) more e =
    let o = onward d m kind n a more e in
    by o (chain-lists d m kind n o.area.ending o.rest o.then-on)
  where
    by : (o : Onward d m kind n a more) → Lists d m kind n o.area.ending o.rest → Lists d m kind (suc n) (Continuation a) more
    by o l =
        let is = ap (λ x. areas_from (asked d (next_area m kind a)) x (λ how. areas_behind d m kind n how)) o.first ∙ kept o.area.ending _ l.closed in
        record {
          extents = ap extents_named is ∙ ap (λ y. o.area.extents ++ y) l.extents ∙ sym o.joins;
          sectors = ap sectors_asked is ∙ ap (λ y. asked d (next_area m kind a) ++ y) l.sectors ∙ sym o.list;
          closed = λ r g. absurd (let z : ◌≡◌ {A = ℕ} 0 1 = cc in omega arith);
        }

-- ---- a file that was resolved

-- the area in an entry
abbrev pub area_of : Located → Area
area_of x = area_at x.entry.kind x.sector x.entry.area_at x.entry.area_length

-- embedded in its entry, or the extents of its area and of those behind it
pub data FileIs (d : Disc) (m : Mount) (icb : LongAd) : File → Type 0 where
  in_entry : (x : Located) → outcome d (entry_at m icb) ≡ answered x → is_embedded x ≡ true → asked d (file_at m icb) ≡ asked d (entry_at m icb) → FileIs d m icb (embedded x)
  in-extents : (x : Located) (more : List AllocExtent) → outcome d (entry_at m icb) ≡ answered x → is_embedded x ≡ false
      → outcome d (continued (entry_mount m icb) x.entry.kind most_continuations (area_of x).ending) ≡ answered more
      → asked d (file_at m icb) ≡ asked d (entry_at m icb) ++ asked d (continued (entry_mount m icb) x.entry.kind most_continuations (area_of x).ending)
      → FileIs d m icb (chained x ((area_of x).extents ++ more))

pub file-is : (d : Disc) (m : Mount) (icb : LongAd) (f : File) → outcome d (file_at m icb) ≡ answered f → FileIs d m icb f
unfolding file_at outcome asked
file-is d m icb f e = by (outcome d (entry_at m icb)) refl (sym (outcome-then d (entry_at m icb) (resolved (entry_mount m icb))) ∙ e)
  where
    Asks : Located → Type 0
    Asks x = asked d (file_at m icb) ≡ asked d (entry_at m icb) ++ asked d (resolved (entry_mount m icb) x)

    by : (o : Outcome Located) → outcome d (entry_at m icb) ≡ o → and_then o (λ x. outcome d (resolved (entry_mount m icb) x)) ≡ answered f → FileIs d m icb f
    by (refused r) g q = never q
    by (answered x) g q = told (is_embedded x) refl q (asked-then d (entry_at m icb) (resolved (entry_mount m icb)) ∙ ap (λ o. asked d (entry_at m icb) ++ asked_behind d o (resolved (entry_mount m icb))) g)
      where
        rest : Ask (List AllocExtent)
        rest = continued (entry_mount m icb) x.entry.kind most_continuations (area_of x).ending

        told : (t : Bool) → is_embedded x ≡ t → outcome d (pick t (done (embedded x)) (then (chain_of (entry_mount m icb) x) (λ es. done (chained x es)))) ≡ answered f
            → asked d (file_at m icb) ≡ asked d (entry_at m icb) ++ asked d (pick t (done (embedded x)) (then (chain_of (entry_mount m icb) x) (λ es. done (chained x es)))) → FileIs d m icb f
        told true t q l = let z : embedded x ≡ f = cc in rw (← z) (in_entry x g t (l ∙ append-nil (asked d (entry_at m icb))))
        told false t q l = ends (outcome d rest) refl (sym (outcome-then d rest (λ more. done ((area_of x).extents ++ more))))
          where
            ends : (o : Outcome (List AllocExtent)) → outcome d rest ≡ o → and_then o (λ more. answered ((area_of x).extents ++ more)) ≡ outcome d (chain_of (entry_mount m icb) x) → FileIs d m icb f
            ends (refused r) h k = never (ap (λ o. and_then o (λ es. answered (chained x es))) k ∙ sym (outcome-then d (chain_of (entry_mount m icb) x) (λ es. done (chained x es))) ∙ q)
            ends (answered more) h k =
                let w = ap (λ o. and_then o (λ es. answered (chained x es))) k ∙ sym (outcome-then d (chain_of (entry_mount m icb) x) (λ es. done (chained x es))) ∙ q in
                let z : chained x ((area_of x).extents ++ more) ≡ f = cc in
                rw (← z) (in-extents x more g t h
                (l ∙ ap (λ y. asked d (entry_at m icb) ++ y) (asked-done d (chain_of (entry_mount m icb) x) (λ es. chained x es) ∙ asked-done d rest (λ more. (area_of x).extents ++ more))))
