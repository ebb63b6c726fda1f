-- A file's runs, against the bytes that a read takes from them, and one turn of a walk at a time. Assumes nothing.
use Rattle.std.specs.Prelude.{Option, Some, None}
use mathlib.Core.Path.{◌≡◌, refl, ap, sym, ◌∙◌}
use mathlib.Core.Bool.{Bool, true, false}
use mathlib.Core.List.{List, [], ◌∷◌, ◌++◌, append-nil}
use mathlib.Core.Logic.{◌⊎◌, inl, inr, ⊎_elim}
use Prim.Native.Nat.{ℕ, zero, suc, ◌+◌, ◌-◌, ◌*◌, ◌≤◌, ◌<◌, min}
use native.Mathlib.Nat.{add-zero}
use native.Mathlib.Omega.{arith}
use lib.ListN.{length, take, drop}
use lib.Dec.{eqb, leb}
use borrow.Author.Tests.{eq-eqb, ne_eqb, le-leb, lt-leb, eqb-true, eqb-false}
use Rattle.disc.specs.Choice.{pick}
use Rattle.disc.specs.Ask.{Disc, Outcome}
use Rattle.disc.specs.Ask.Ask.{done}
use Rattle.disc.specs.Ask.Outcome.{answered, refused}
use Rattle.disc.specs.Ran.{Ran, ran, after, followed}
use Rattle.disc.specs.Images.{disc, held_from}
use Rattle.disc.specs.Places.{placed}
use Rattle.disc.specs.declared.places.Mount.{Mount}
use Rattle.disc.specs.declared.refusals.Refusal.{Refusal}
use Rattle.disc.specs.declared.refusals.Refusal.TheVariants.{Io, Unsupported}
use Rattle.disc.proofs.RanLaws.{ran-done, ran-refuse, ran_then, never}
use Rattle.disc.proofs.ImageLaws.{split}
use Rattle.areas.specs.declared.AllocExtent.{AllocExtent}
use Rattle.chains.specs.Inner.Walks.{left}
use Rattle.chains.specs.declared.cursors.ChainCursor.{ChainCursor}
use Rattle.files.specs.Reads.{extents_bytes}
use Rattle.files.specs.Inner.Pieces.{sectors_read, in_front, joined, rest_of, There, PieceTurn}
use Rattle.files.proofs.ExtentLaws.{extent_runs, extent-runs}
use Rattle.files.proofs.PieceLaws.{part-long, weigh-type, weigh-nowhere, weigh-missing, weigh-held}
use Rattle.layouts.specs.declared.runs.Run.{Run}
use Rattle.layouts.specs.Runs.{run_here, running, extents_runs, runs_hold, gathered}
use Rattle.layouts.specs.Inner.RunLists.{runs_on, runs_at, runs_in}
use Rattle.layouts.specs.Inside.{AllInside}

-- runs in front of what is answered: they are all that was wanted, or more come behind them
abbrev pub before_runs : List Run → Outcome (List Run) → Outcome (List Run)
before_runs b (answered more) = answered (b ++ more)
before_runs b (refused r) = refused r

abbrev pub joined_runs : List Run → ℕ → ℕ → ℕ → Ran (List Run) → Ran (List Run)
joined_runs b n k want more = pick (leb want k) (record { outcome = answered b; count = n }) (record { outcome = before_runs b more.outcome; count = n + more.count })

same_runs : {a b : List Run} {m n : ℕ} → a ≡ b → m ≡ n → ◌≡◌ {A = Ran (List Run)} (record { outcome = answered a; count = m }) (record { outcome = answered b; count = n })
same_runs p q = rw (p, q)

behind-runs : (d : Disc) (b : List Run) (n : ℕ) (o : Outcome (List Run)) (m : ℕ)
    → after n (followed (record { outcome = o; count = m }) (λ a. ran d (done (b ++ a)))) ≡ record { outcome = before_runs b o; count = n + m }
behind-runs d b n (answered a) m = rw ran-done (same_runs refl (omega arith))
behind-runs d b n (refused r) m = refl

-- no more than one
pub here-long : (at n : ℕ) → length (run_here at n) ≡ min n 1
here-long at zero = omega arith
here-long at (suc n) = omega arith

-- ---- an extent is refused, or held

module _ (image : List ℕ) (m : Mount) (e : AllocExtent) (want : ℕ) where
  abbrev size : ℕ
  size = min e.length want

  abbrev sectors : ℕ
  sectors = sectors_read e.length want

  record Off : Type 0 where
    why : Refusal
    n : ℕ
    bytes : (es : List AllocExtent) → rest_of image m (e ∷ es) want ≡ record { outcome = refused why; count = n }
    runs : (es : List AllocExtent) → runs_on image m (e ∷ es) want ≡ record { outcome = refused why; count = n }

  off-type : (e.extent_type ≡ 0 → ⊥) → (es : List AllocExtent) → runs_on image m (e ∷ es) want ≡ record { outcome = refused Unsupported; count = 0 }
  unfolding extents_runs
  off-type h es = rw (ne_eqb _ 0 h) (ran-refuse (disc image) Unsupported)

  module _ (h : e.extent_type ≡ 0) where
    off-nowhere : placed m e.partition_ref e.block.0 ≡ None → (es : List AllocExtent) → runs_on image m (e ∷ es) want ≡ record { outcome = refused Unsupported; count = 0 }
    unfolding extents_runs
    off-nowhere k es = rw (eq-eqb _ 0 h, k) (ran-refuse (disc image) Unsupported)

    module _ {s : ℕ} (p : placed m e.partition_ref e.block.0 ≡ Some s) (es : List AllocExtent) where
      first : runs_on image m (e ∷ es) want
          ≡ followed (extent_runs image s e.length want) (λ b. ran (disc image) (running want (2048 * s) (length b) (extents_runs m es (want - length b))))
      unfolding extents_runs
      first = rw (eq-eqb _ 0 h, p, ran_then, extent-runs image _ s e.length want refl)

      off-missing : held_from image s < sectors → runs_on image m (e ∷ es) want ≡ record { outcome = refused Io; count = held_from image s + 1 }
      off-missing k = first ∙ rw (lt-leb sectors (held_from image s) k)

      -- its bytes are one run
      joins : after sectors (ran (disc image) (running want (2048 * s) size (extents_runs m es (want - size)))) ≡ joined_runs (run_here (2048 * s) size) sectors size want (runs_on image m es (want - size))
      joins =
          let c : min size want ≡ size = omega arith in
          ⊎_elim
          (λ (t : want ≤ size). rw (le-leb want size t, ran-done, c, add-zero))
          (λ (t : size < want). rw (lt-leb want size t, ran_then) (behind-runs (disc image) _ sectors (runs_on image m es (want - size)).outcome (runs_on image m es (want - size)).count))
          (split want size)

      held-runs : sectors ≤ held_from image s → runs_on image m (e ∷ es) want ≡ joined_runs (run_here (2048 * s) size) sectors size want (runs_on image m es (want - size))
      held-runs k =
          let l : length (take size (drop (2048 * s) image)) ≡ size = part-long image (2048 * s) size want (weigh-held image m e want h p k).lies in
          first ∙ rw (le-leb sectors (held_from image s) k, l) joins

  weighs : There image m e want ⊎ Off
  weighs = typed (eqb e.extent_type 0) refl
    where
      typed : (t : Bool) → eqb e.extent_type 0 ≡ t → There image m e want ⊎ Off
      typed false p = let h = eqb-false _ _ p in inr (record { why = Unsupported; n = 0; bytes = weigh-type image m e want h; runs = off-type h })
      typed true p = stands (placed m e.partition_ref e.block.0) refl
        where
          stands : (o : Option ℕ) → placed m e.partition_ref e.block.0 ≡ o → There image m e want ⊎ Off
          stands None g = let h = eqb-true _ _ p in inr (record { why = Unsupported; n = 0; bytes = weigh-nowhere image m e want h g; runs = off-nowhere h g })
          stands (Some s) g = let h = eqb-true _ _ p in ⊎_elim
              (λ (k : sectors ≤ held_from image s). inl (record { at = s; recorded = h; stands = g; held = k }))
              (λ (k : held_from image s < sectors). inr (record { why = Io; n = held_from image s + 1; bytes = weigh-missing image m e want h g k; runs = λ es. off-missing h g es k }))
              (split sectors (held_from image s))

-- ---- runs inside an image

pub no_run : (image : List ℕ) → AllInside image []
unfolding AllInside
no_run image = tt

-- ---- the runs' bytes, joined, are those of the read; a refusal and the count are the same

module _ (image : List ℕ) where
  pub hold-here : (at n : ℕ) → runs_hold image (run_here at n) ≡ take n (drop at image)
  unfolding runs_hold
  hold-here at zero = refl
  hold-here at (suc n) = append-nil _

  hold-front : (at n : ℕ) (more : List Run) → runs_hold image (run_here at n ++ more) ≡ take n (drop at image) ++ runs_hold image more
  unfolding runs_hold
  hold-front at zero more = refl
  hold-front at (suc n) more = refl

  gather-front : (at k n c : ℕ) (o : Outcome (List Run))
      → in_front (take k (drop at image)) n (gathered image (record { outcome = o; count = c })) ≡ gathered image (record { outcome = before_runs (run_here at k) o; count = n + c })
  gather-front at k n c (answered more) = rw hold-front
  gather-front at k n c (refused r) = refl

  gather-joined : (at k n want : ℕ) (r : Ran (List Run)) → joined (take k (drop at image)) n k want (gathered image r) ≡ gathered image (joined_runs (run_here at k) n k want r)
  gather-joined at k n want r = by (leb want k)
    where
      by : (t : Bool) → pick t (record { outcome = answered (take k (drop at image)); count = n }) (in_front (take k (drop at image)) n (gathered image r))
          ≡ gathered image (pick t (record { outcome = answered (run_here at k); count = n }) (record { outcome = before_runs (run_here at k) r.outcome; count = n + r.count }))
      by true = rw hold-here
      by false = gather-front at k n r.count r.outcome

  inside-here : (at n : ℕ) (more : List Run) → n ≤ length image - at → AllInside image more → AllInside image (run_here at n ++ more)
  unfolding AllInside
  inside-here at zero more h k = k
  inside-here at (suc n) more h k = (record { byte = omega arith; within = omega arith }, k)

  pub inside-alone : (at n : ℕ) → n ≤ length image - at → AllInside image (run_here at n)
  inside-alone at n h = rw (append-nil (run_here at n)) at (inside-here at n [] h (no_run image))

  inside-joined : (at k n want : ℕ) (r : Ran (List Run)) → k ≤ length image - at → AllInside image (runs_in r.outcome) → AllInside image (runs_in (joined_runs (run_here at k) n k want r).outcome)
  inside-joined at k n want r h rest = by (leb want k) r.outcome rest
    where
      by : (t : Bool) (o : Outcome (List Run)) → AllInside image (runs_in o)
          → AllInside image (runs_in (pick {A = Ran (List Run)} t (record { outcome = answered (run_here at k); count = n }) (record { outcome = before_runs (run_here at k) o; count = n + r.count })).outcome)
      by true o p = inside-alone at k h
      by false (answered more) p = inside-here at k more h p
      by false (refused why) p = no_run image

  module _ (m : Mount) where
    pub extents-gathered : (es : List AllocExtent) (want : ℕ) → rest_of image m es want ≡ gathered image (runs_on image m es want)
    unfolding extents_bytes extents_runs runs_hold
    extents-gathered [] want = rw (ran-done, ran-done)
    extents-gathered (e ∷ es) want = ⊎_elim
        (λ (y : There image m e want).
        (weigh-held image m e want y.recorded y.stands y.held).runs es
        ∙ rw (extents-gathered es (want - min e.length want)) (gather-joined (2048 * y.at) (min e.length want) (sectors_read e.length want) want (runs_on image m es (want - min e.length want)))
        ∙ ap (gathered image) (sym (held-runs image m e want y.recorded y.stands es y.held)))
        (λ (y : Off image m e want). y.bytes es ∙ sym (ap (gathered image) (y.runs es)))
        (weighs image m e want)

    -- each has a byte, and stands in the image
    pub extents-inside : (es : List AllocExtent) (want : ℕ) → AllInside image (runs_in (runs_on image m es want).outcome)
    unfolding extents_runs AllInside
    extents-inside [] want = rw ran-done tt
    extents-inside (e ∷ es) want = ⊎_elim
        (λ (y : There image m e want).
        rw (held-runs image m e want y.recorded y.stands es y.held)
        (inside-joined (2048 * y.at) (min e.length want) (sectors_read e.length want) want (runs_on image m es (want - min e.length want))
        (weigh-held image m e want y.recorded y.stands y.held).lies.within (extents-inside es (want - min e.length want))))
        (λ (y : Off image m e want). rw (y.runs es) tt)
        (weighs image m e want)

    -- a read that is refused has no runs
    pub runs-refused : (es : List AllocExtent) (want : ℕ) {why : Refusal} {n : ℕ} → rest_of image m es want ≡ record { outcome = refused why; count = n }
        → runs_on image m es want ≡ record { outcome = refused why; count = n }
    runs-refused es want {why} {n} q = by (runs_on image m es want).outcome (runs_on image m es want).count (sym (extents-gathered es want) ∙ q)
      where
        by : (o : Outcome (List Run)) (c : ℕ) → gathered image (record { outcome = o; count = c }) ≡ record { outcome = refused why; count = n }
            → ◌≡◌ {A = Ran (List Run)} (record { outcome = o; count = c }) (record { outcome = refused why; count = n })
        by (answered rs) c h = never (sym (ap (λ (x : Ran (List ℕ)). x.outcome) h))
        by (refused r) c h =
            let a : refused r ≡ refused why = ap (λ (x : Ran (List ℕ)). x.outcome) h in
            let b : c ≡ n = ap (λ (x : Ran (List ℕ)). x.count) h in
            let w : r ≡ why = cc in
            rw (w, b)

    -- where no byte is wanted there is no run
    pub none-wanted : (es : List AllocExtent) → runs_in (runs_on image m es 0).outcome ≡ []
    unfolding extents_runs
    none-wanted [] = rw ran-done
    none-wanted (e ∷ es) = ⊎_elim
        (λ (y : There image m e 0).
        let z : min e.length 0 ≡ 0 = omega arith in
        let l : leb 0 (min e.length 0) ≡ true = le-leb 0 (min e.length 0) (omega arith) in
        ap (λ (x : Ran (List Run)). runs_in x.outcome) (held-runs image m e 0 y.recorded y.stands es y.held) ∙ rw (l, z))
        (λ (y : Off image m e 0). ap (λ (x : Ran (List Run)). runs_in x.outcome) (y.runs es))
        (weighs image m e 0)

    -- ---- a turn of a walk

    module _ (kind : ℕ) (c : ChainCursor) (want : ℕ) where
      pub turn_end : left image m kind c ≡ [] → runs_at image m kind c want ≡ record { outcome = answered []; count = 0 }
      unfolding extents_runs
      turn_end e = rw e (ran-done (disc image) [])

      pub turn-piece : {from n k : ℕ} {c' : ChainCursor} → PieceTurn image m kind c want from n k c'
          → runs_at image m kind c want ≡ joined_runs (run_here from k) n k want (runs_at image m kind c' (want - k))
      turn-piece {from} {n} {k} {c'} t =
          let y : There image m t.extent want = t.piece.there in
          rw (t.list, t.piece.place, t.piece.sectors, t.piece.cut) (held-runs image m t.extent want y.recorded y.stands (left image m kind c') y.held)
