-- What a step makes of a feed on a disc, as lent memory grows: the sector that is wanted is the front of the list, and the bytes that arrive are the front of
-- all that do. Assumes nothing.
use mathlib.Core.Path.{◌≡◌, refl, ap, sym, ◌∙◌}
use mathlib.Core.Bool.{Bool, true, false, ◌||◌}
use mathlib.Core.List.{List, [], ◌∷◌, ◌++◌, append_assoc}
use Prim.Native.Nat.{ℕ, ◌+◌, ◌-◌, ◌≤◌}
use native.Mathlib.Nat.{add-zero, sub-zero}
use native.Mathlib.Omega.{arith}
use lib.ListN.{length, take, drop, length-append}
use lib.Seq.{length-take-le, take-append_seam, take-append-add, drop-append-add}
use lib.Dec.{eqb, ltb, leb}
use Rattle.disc.specs.Choice.{pick}
use Rattle.disc.specs.Ask.{Disc, Held, given, then, Agree}
use Rattle.disc.specs.Ask.Held.{holds, lacks}
use Rattle.disc.specs.Images.{sectors}
use Rattle.disc.specs.declared.refusals.Refusal.TheVariants.{Io, NoRoom, NoSlot}
use Rattle.disc.proofs.PickLaws.{pick-both}
use Rattle.drives.specs.Feeds.{Feed, following, naming, crowded, Settled, settled_behind, settled_in, fed_by, Grown, first_of, behind_first, within, end_of, wanted, arrived}
use Rattle.drives.specs.Feeds.Feed.{over, stop, name, hold, put, want}
use Rattle.drives.specs.FileFeeds.{extent_feed}
use Rattle.drives.specs.Readings.{feed_of, is_wanting, wanted_sector, left_of, put_at}
use Rattle.drives.specs.declared.readings.Reading.{Reading}
use Rattle.drives.proofs.SettleLaws.{within-lost}

-- ---- the sector that is wanted

unfoldable pub WantsAt : ℕ → Feed → Type 0
WantsAt s over = ⊥
WantsAt s (stop r) = ⊥
WantsAt s (name n f) = ⊥
WantsAt s (hold n f) = ⊥
WantsAt s (put b f) = ⊥
WantsAt s (want t k) = t ≡ s

feed-at : (r : Reading) (row : List (List ℕ)) → WantsAt r.at (feed_of r row)
unfolding WantsAt feed_of following naming crowded sectors then extent_feed
feed-at r row =
    pick-both (WantsAt r.at) (eqb r.phase 0) refl
    (pick-both (WantsAt r.at) (eqb r.phase 1) refl
    (pick-both (WantsAt r.at) (eqb r.phase 2) (pick-both (WantsAt r.at) r.scan.full refl refl) refl))

pub left_at : (r : Reading) (row : List (List ℕ)) → is_wanting r ≡ true → WantsAt (wanted_sector r) (left_of r row)
unfolding left_of
left_at r row w = rw w (feed-at r row)

-- g is what a disc makes of f by its sector s
pub record Feeds (d : Disc) (s : ℕ) (f g : Feed) : Type 0 where
  pub list : wanted d f ≡ s ∷ wanted d g
  pub ends : end_of d f ≡ end_of d g
  pub bytes : arrived d f ≡ arrived d g

-- the sector is lent in what memory has grown to
pub fed-at : (d : Disc) (s slots room : ℕ) (gs : List Grown) (f : Feed) → WantsAt s f
    → Feeds d s (within false slots room gs f) (within false (slots + (first_of gs).slots) (room + (first_of gs).room) (behind_first gs) (fed_by (d s) f))
unfolding WantsAt wanted end_of arrived fed_by within
fed-at d s slots room gs over h = absurd h
fed-at d s slots room gs (stop r) h = absurd h
fed-at d s slots room gs (name n f) h = absurd h
fed-at d s slots room gs (hold n f) h = absurd h
fed-at d s slots room gs (put b f) h = absurd h
fed-at d s slots room gs (want t k) h = rw h (by (d s) refl)
  where
    cut : Feed → Feed
    cut f = within false (slots + (first_of gs).slots) (room + (first_of gs).room) (behind_first gs) f

    by : (x : Held) → d s ≡ x → Feeds d s (want s (λ b. cut (k b))) (cut (given x k (stop Io)))
    by (holds b) e = record { list = rw e refl; ends = rw e refl; bytes = rw e refl }
    by lacks e = record { list = rw e refl; ends = rw e refl; bytes = rw e refl }

-- ---- what arrives before the next sector is wanted

-- behind those bytes f is g
pub record Settles (d : Disc) (b : List ℕ) (f g : Feed) : Type 0 where
  pub list : wanted d f ≡ wanted d g
  pub ends : end_of d f ≡ end_of d g
  pub bytes : arrived d f ≡ b ++ arrived d g

-- what is left behind a step, in the room that is left
abbrev left_in : ℕ → ℕ → List Grown → Settled → Feed
left_in slots room gs x = within false slots (room - length x.bytes) gs x.rest

pub settles : (d : Disc) (lost : Bool) (slots room : ℕ) (gs : List Grown) (f : Feed)
    → Settles d (settled_in lost slots room f).bytes (within lost slots room gs f) (left_in slots room gs (settled_in lost slots room f))
unfolding wanted end_of arrived settled_in within
settles d lost slots room gs over = record { list = refl; ends = refl; bytes = refl }
settles d lost slots room gs (stop r) = record { list = refl; ends = refl; bytes = refl }
settles d lost slots room gs (name n f) = settles d (lost || ltb slots n) slots room gs f
settles d lost slots room gs (hold n f) = by (lost || ltb slots n) (settles d false slots room gs f)
  where
    by : (t : Bool) → Settles d (settled_in false slots room f).bytes (within false slots room gs f) (left_in slots room gs (settled_in false slots room f))
        → Settles d (pick t (record { bytes = []; rest = stop NoSlot }) (settled_in false slots room f)).bytes (pick t (stop NoSlot) (within false slots room gs f))
        (left_in slots room gs (pick t (record { bytes = []; rest = stop NoSlot }) (settled_in false slots room f)))
    by true ih = record { list = refl; ends = refl; bytes = refl }
    by false ih = ih
settles d lost slots room gs (put b f) = by (leb (length b) room) (settles d lost slots (room - length b) gs f)
  where
    by : (t : Bool) → Settles d (settled_in lost slots (room - length b) f).bytes (within lost slots (room - length b) gs f) (left_in slots (room - length b) gs (settled_in lost slots (room - length b) f))
        → Settles d (pick t (settled_behind b (settled_in lost slots (room - length b) f)) (record { bytes = take room b; rest = stop NoRoom })).bytes
        (pick t (put b (within lost slots (room - length b) gs f)) (put (take room b) (stop NoRoom)))
        (left_in slots room gs (pick t (settled_behind b (settled_in lost slots (room - length b) f)) (record { bytes = take room b; rest = stop NoRoom })))
    by true ih = fits (settled_in lost slots (room - length b) f) ih
      where
        fits : (x : Settled) → Settles d x.bytes (within lost slots (room - length b) gs f) (left_in slots (room - length b) gs x)
            → Settles d (b ++ x.bytes) (put b (within lost slots (room - length b) gs f)) (left_in slots room gs (settled_behind b x))
        fits x ih =
            let z : room - length (b ++ x.bytes) ≡ room - length b - length x.bytes = rw (length-append b x.bytes) (omega arith) in
            rw z (record { list = ih.list; ends = ih.ends; bytes = ap (λ a. b ++ a) ih.bytes ∙ sym (append_assoc b x.bytes (arrived d (left_in slots (room - length b) gs x))) })
    by false ih = record { list = refl; ends = refl; bytes = refl }
settles d true slots room gs (want s k) =
    rw (sub-zero, ← within-lost slots room gs (want s k)) (record { list = refl; ends = refl; bytes = refl })
settles d false slots room gs (want s k) = rw sub-zero (record { list = refl; ends = refl; bytes = refl })

-- ---- bytes behind those that were filled

module _ (from : ℕ) (b out : List ℕ) (h : from ≤ length out) (l : length (put_at from b out) ≡ length out) where
  front_long : length (take from out) ≡ from
  front_long = length-take-le from out h

  pub put-fits : from + length b ≤ length out
  put-fits =
      let i = length-append (take from out) (b ++ drop (from + length b) out) in
      let j = length-append b (drop (from + length b) out) in
      let k = front_long in
      omega arith

  pub put_front : take (from + length b) (put_at from b out) ≡ take from out ++ b
  put_front = rw front_long at (take-append-add (take from out) (b ++ drop (from + length b) out) (length b)) ∙ ap (λ x. take from out ++ x) (take-append_seam b (drop (from + length b) out))

  pub put-behind : drop (from + length b) (put_at from b out) ≡ drop (from + length b) out
  put-behind =
      rw front_long at (drop-append-add (take from out) (b ++ drop (from + length b) out) (length b))
      ∙ rw (add-zero (length b)) at (drop-append-add b (drop (from + length b) out) 0)

-- ---- two discs that agree on the sectors wanted

pub record Same (d e : Disc) (f : Feed) : Type 0 where
  pub list : wanted d f ≡ wanted e f
  pub ends : end_of d f ≡ end_of e f
  pub bytes : arrived d f ≡ arrived e f

pub same-feed : (f : Feed) (d e : Disc) → Agree d e (wanted d f) → Same d e f
unfolding wanted end_of arrived Agree
same-feed over d e h = record { list = refl; ends = refl; bytes = refl }
same-feed (stop r) d e h = record { list = refl; ends = refl; bytes = refl }
same-feed (name n f) d e h = let p = same-feed f d e h in record { list = p.list; ends = p.ends; bytes = p.bytes }
same-feed (hold n f) d e h = let p = same-feed f d e h in record { list = p.list; ends = p.ends; bytes = p.bytes }
same-feed (put b f) d e h = let p = same-feed f d e h in record { list = p.list; ends = p.ends; bytes = ap (λ x. b ++ x) p.bytes }
same-feed (want s k) d e h = by (d s) refl h.0 h.1 (λ b. same-feed (k b) d e)
  where
    by : (x : Held) → d s ≡ x → d s ≡ e s → Agree d e (given x (λ b. wanted d (k b)) []) → ((b : List ℕ) → Agree d e (wanted d (k b)) → Same d e (k b)) → Same d e (want s k)
    by (holds b) q g h ih =
        let p = ih b h in
        let o : e s ≡ holds b = sym g ∙ q in
        record { list = rw (q, o) (ap (λ l. s ∷ l) p.list); ends = rw (q, o) p.ends; bytes = rw (q, o) p.bytes }
    by lacks q g h ih =
        let o : e s ≡ lacks = sym g ∙ q in
        record { list = rw (q, o) refl; ends = rw (q, o) refl; bytes = rw (q, o) refl }
