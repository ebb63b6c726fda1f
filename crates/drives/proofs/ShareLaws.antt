-- Laws of the bytes that each sector of a read brings: 5 is told behind the first with which there are more than there is room for. Assumes nothing.
use Rattle.std.specs.Prelude.{Option, Some, None}
use mathlib.Core.Path.{◌≡◌, refl, ap, sym, ◌∙◌}
use mathlib.Core.Bool.{Bool, true, false}
use mathlib.Core.List.{List, [], ◌∷◌, ◌++◌, append-nil}
use Prim.Native.Nat.{ℕ, zero, suc, ◌+◌, ◌-◌, ◌*◌, ◌≤◌, min}
use native.Mathlib.Nat.{zero-add, add_assoc}
use native.Mathlib.Omega.{arith}
use lib.ListN.{length, take, length-append, length-take}
use lib.Dec.{eqb, leb}
use borrow.Author.Tests.{leb-true, leb-false, eqb-true}
use Rattle.disc.specs.Choice.{pick}
use Rattle.disc.specs.Ask.{Disc, Held, given}
use Rattle.disc.specs.Ask.Held.{holds, lacks}
use Rattle.disc.specs.Images.{sectors_for}
use Rattle.disc.specs.Places.{placed}
use Rattle.disc.specs.declared.places.Mount.{Mount}
use Rattle.disc.specs.declared.refusals.Refusal.{Refusal}
use Rattle.disc.specs.declared.refusals.Refusal.TheVariants.{Io, Unsupported, NoRoom}
use Rattle.areas.specs.declared.AllocExtent.{AllocExtent}
use Rattle.drives.specs.Feeds.{Feed, lent, Grown, first_of, behind_first, within, end_of, wanted, arrived, short_of}
use Rattle.drives.specs.Feeds.End.{answers, refuses}
use Rattle.drives.specs.Feeds.Feed.{over, stop, put}
use Rattle.drives.specs.Feeds.Short.{enough, of_room}
use Rattle.drives.specs.FileFeeds.{extent_feed, standing, extents_feed}
use Rattle.drives.specs.Moments.{sector_shares, extent_shares, brought, FullAt}
use Rattle.drives.proofs.MomentLaws.{full-one, full-first}

-- ---- sectors that are lent have 2,048 bytes

unfoldable pub Sized : Held → Type 0
Sized (holds b) = length b ≡ 2048
Sized lacks = Unit {0}

unfoldable pub AllSized : Disc → List ℕ → Type 0
AllSized d [] = Unit {0}
AllSized d (s ∷ rest) = Sized (d s) × AllSized d rest

pub lent-sized : (b : List ℕ) → Sized (lent b)
unfolding Sized
lent-sized b = by (eqb (length b) 2048) refl
  where
    by : (t : Bool) → eqb (length b) 2048 ≡ t → Sized (pick t (holds b) lacks)
    by true e = eqb-true (length b) 2048 e
    by false e = tt

pub sized-back : (d : Disc) (a b : List ℕ) → AllSized d (a ++ b) → AllSized d b
unfolding AllSized
sized-back d [] b h = h
sized-back d (s ∷ a) b h = sized-back d a b h.1

pub not-room : {A : Type 0} → enough ≡ of_room → A
not-room e = absurd (let z : ◌≡◌ {A = ℕ} 0 1 = cc in omega arith)

full-same : {room room' : ℕ} {gs : List Grown} {a b : List ℕ} {n : ℕ} → room ≡ room' → a ≡ b → FullAt room gs a n → FullAt room' gs b n
full-same e g p = rw (← e, ← g) p

-- ---- an extent

module _ (d : Disc) where
  -- 5 is told where the shares say
  abbrev pub Tells : Feed → List ℕ → Type 0
  Tells f shares = (lost : Bool) (slots room : ℕ) (gs : List Grown) → short_of d lost slots room gs f ≡ of_room → AllSized d (wanted d (within lost slots room gs f))
      → FullAt room gs shares (length (wanted d (within lost slots room gs f)))

  pub extent-tells : (n at size missing : ℕ) (f : ℕ → Feed) (rest : ℕ → List ℕ) → size ≤ 2048 * n → ((left : ℕ) → Tells (f left) (rest left))
      → Tells (extent_feed n at size missing f) (sector_shares n size missing ++ rest (missing - size))
  unfolding extent_feed sector_shares short_of within wanted AllSized Sized
  extent-tells zero at size missing f rest l h lost slots room gs e a = let z : missing - size ≡ missing = omega arith in rw z (h missing lost slots room gs e a)
  extent-tells (suc n) at size missing f rest l h lost slots room gs e a =
      by (d at) refl e a (λ left. extent-tells n (at + 1) (size - 2048) left f rest (omega arith) h lost (slots + (first_of gs).slots))
    where
      more : ℕ
      more = room + (first_of gs).room

      slots₁ : ℕ
      slots₁ = slots + (first_of gs).slots

      gs₁ : List Grown
      gs₁ = behind_first gs

      onward : ℕ → Feed
      onward left = extent_feed n (at + 1) (size - 2048) left f

      -- behind a sector that holds k bytes of the extent
      behind : List ℕ → Feed
      behind c = put (take missing c) (pick (leb missing (length c)) over (onward (missing - length c)))

      Ih : Type 0
      Ih = (left room : ℕ) (gs : List Grown) → short_of d lost slots₁ room gs (onward left) ≡ of_room → AllSized d (wanted d (within lost slots₁ room gs (onward left)))
          → FullAt room gs (sector_shares n (size - 2048) left ++ rest (left - (size - 2048))) (length (wanted d (within lost slots₁ room gs (onward left))))

      goes : (c : List ℕ) → length c ≡ min size 2048 → short_of d lost slots₁ more gs₁ (behind c) ≡ of_room → AllSized d (wanted d (within lost slots₁ more gs₁ (behind c))) → Ih
          → FullAt room gs (min missing (min size 2048) ∷ sector_shares n (size - 2048) (missing - min size 2048) ++ rest (missing - size)) (suc (length (wanted d (within lost slots₁ more gs₁ (behind c)))))
      goes c z e a ih = fits (leb (length (take missing c)) more) refl e a
        where
          put-long : length (take missing c) ≡ min missing (min size 2048)
          put-long = length-take missing c ∙ ap (min missing) z

          fits : (t : Bool) → leb (length (take missing c)) more ≡ t
              → pick t (short_of d lost slots₁ (more - length (take missing c)) gs₁ (pick (leb missing (length c)) over (onward (missing - length c)))) of_room ≡ of_room
              → AllSized d (wanted d (pick t (put (take missing c) (within lost slots₁ (more - length (take missing c)) gs₁ (pick (leb missing (length c)) over (onward (missing - length c))))) (put (take more (take missing c)) (stop NoRoom))))
              → FullAt room gs (min missing (min size 2048) ∷ sector_shares n (size - 2048) (missing - min size 2048) ++ rest (missing - size))
              (suc (length (wanted d (pick t (put (take missing c) (within lost slots₁ (more - length (take missing c)) gs₁ (pick (leb missing (length c)) over (onward (missing - length c))))) (put (take more (take missing c)) (stop NoRoom))))))
          fits false t e a = let l = leb-false (length (take missing c)) more t in full-first room gs (min missing (min size 2048)) _ (rw put-long at l)
          fits true t e a = ends (leb missing (length c)) refl e a
            where
              ends : (u : Bool) → leb missing (length c) ≡ u → short_of d lost slots₁ (more - length (take missing c)) gs₁ (pick u over (onward (missing - length c))) ≡ of_room
                  → AllSized d (wanted d (within lost slots₁ (more - length (take missing c)) gs₁ (pick u over (onward (missing - length c)))))
                  → FullAt room gs (min missing (min size 2048) ∷ sector_shares n (size - 2048) (missing - min size 2048) ++ rest (missing - size))
                  (suc (length (wanted d (within lost slots₁ (more - length (take missing c)) gs₁ (pick u over (onward (missing - length c)))))))
              ends true u e a = not-room e
              ends false u e a =
                  let k = leb-true (length (take missing c)) more t in
                  let y : missing - min size 2048 - (size - 2048) ≡ missing - size = omega arith in
                  let p = ih (missing - length c) (more - length (take missing c)) gs₁ e a in
                  full-one room gs (min missing (min size 2048)) _ _ (rw put-long at k)
                  (full-same (ap (λ x. more - x) put-long) (ap (λ x. sector_shares n (size - 2048) (missing - x) ++ rest (missing - x - (size - 2048))) z ∙ ap (λ x. sector_shares n (size - 2048) (missing - min size 2048) ++ rest x) y) p)

      by : (x : Held) → d at ≡ x → given x (λ b. short_of d lost slots₁ more gs₁ (behind (take size b))) enough ≡ of_room
          → Sized x × AllSized d (given x (λ b. wanted d (within lost slots₁ more gs₁ (behind (take size b)))) []) → Ih
          → FullAt room gs (min missing (min size 2048) ∷ sector_shares n (size - 2048) (missing - min size 2048) ++ rest (missing - size))
          (suc (length (given x (λ b. wanted d (within lost slots₁ more gs₁ (behind (take size b)))) [])))
      by (holds b) g e a ih = goes (take size b) (length-take size b ∙ ap (min size) a.0) e a.1 ih
      by lacks g e a ih = not-room e

  -- ---- extents

  pub extents-tell : (m : Mount) (es : List AllocExtent) (missing : ℕ) → Tells (extents_feed m es missing) (extent_shares es missing)
  unfolding extents_feed extent_shares short_of
  extents-tell m [] missing lost slots room gs e a = not-room e
  extents-tell m (x ∷ es) missing lost slots room gs e a =
      by (eqb x.extent_type 0) (placed m x.partition_ref x.block.0) (λ left. extents-tell m es left) e a
    where
      f : ℕ → Feed
      f left = pick (leb left 0) over (extents_feed m es left)

      next : ((left : ℕ) → Tells (extents_feed m es left) (extent_shares es left)) → (left : ℕ) → Tells (f left) (extent_shares es left)
      next ih left lost slots room gs e a = told (leb left 0) e a
        where
          told : (t : Bool) → short_of d lost slots room gs (pick t over (extents_feed m es left)) ≡ of_room → AllSized d (wanted d (within lost slots room gs (pick t over (extents_feed m es left))))
              → FullAt room gs (extent_shares es left) (length (wanted d (within lost slots room gs (pick t over (extents_feed m es left)))))
          told true e a = not-room e
          told false e a = ih left lost slots room gs e a

      held : (n : ℕ) → n ≤ 2048 * sectors_for n
      held n = omega arith

      by : (t : Bool) (o : Option ℕ) → ((left : ℕ) → Tells (extents_feed m es left) (extent_shares es left))
          → short_of d lost slots room gs (pick t (standing o (λ at. extent_feed (sectors_for x.length) at x.length missing f)) (stop Unsupported)) ≡ of_room
          → AllSized d (wanted d (within lost slots room gs (pick t (standing o (λ at. extent_feed (sectors_for x.length) at x.length missing f)) (stop Unsupported))))
          → FullAt room gs (sector_shares (sectors_for x.length) x.length missing ++ extent_shares es (missing - x.length))
          (length (wanted d (within lost slots room gs (pick t (standing o (λ at. extent_feed (sectors_for x.length) at x.length missing f)) (stop Unsupported)))))
      by false o ih e a = not-room e
      by true None ih e a = not-room e
      by true (Some at) ih e a = extent-tells (sectors_for x.length) at x.length missing f (extent_shares es) (held x.length) (next ih) lost slots room gs e a

  -- ---- the shares of what is answered add up to its bytes

  abbrev Sums : Feed → List ℕ → Type 0
  Sums f shares = end_of d f ≡ answers → AllSized d (wanted d f) → length (arrived d f) ≡ brought shares

  brought-append : (a b : List ℕ) → brought (a ++ b) ≡ brought a + brought b
  unfolding brought
  brought-append [] b = sym (zero-add (brought b))
  brought-append (n ∷ a) b = rw (brought-append a b) (sym (add_assoc n (brought a) (brought b)))

  sector-none : (n size : ℕ) → brought (sector_shares n size 0) ≡ 0
  unfolding brought sector_shares
  sector-none zero size = refl
  sector-none (suc n) size =
      let z : min 0 (min size 2048) ≡ 0 = omega arith in
      let y : 0 - min size 2048 ≡ 0 = omega arith in
      rw (z, y, sector-none n (size - 2048)) refl

  extent-none : (es : List AllocExtent) → brought (extent_shares es 0) ≡ 0
  unfolding brought extent_shares
  extent-none [] = refl
  extent-none (e ∷ es) =
      let y : 0 - e.length ≡ 0 = omega arith in
      rw (brought-append (sector_shares (sectors_for e.length) e.length 0) (extent_shares es (0 - e.length)), sector-none (sectors_for e.length) e.length, y, extent-none es) refl

  not-answered : {A : Type 0} {r : Refusal} → refuses r ≡ answers → A
  not-answered e = absurd (let z : ◌≡◌ {A = ℕ} 0 1 = cc in omega arith)

  extent-sums : (n at size missing : ℕ) (f : ℕ → Feed) (rest : ℕ → List ℕ) → size ≤ 2048 * n → brought (rest 0) ≡ 0 → ((left : ℕ) → Sums (f left) (rest left))
      → Sums (extent_feed n at size missing f) (sector_shares n size missing ++ rest (missing - size))
  unfolding extent_feed sector_shares end_of arrived wanted brought AllSized Sized
  extent-sums zero at size missing f rest l o h e a = let z : missing - size ≡ missing = omega arith in rw z (h missing e a)
  extent-sums (suc n) at size missing f rest l o h e a = by (d at) e a (λ left. extent-sums n (at + 1) (size - 2048) left f rest (omega arith) o h)
    where
      onward : ℕ → Feed
      onward left = extent_feed n (at + 1) (size - 2048) left f

      goes : (c : List ℕ) → length c ≡ min size 2048 → (t : Bool) → leb missing (length c) ≡ t → end_of d (pick t over (onward (missing - length c))) ≡ answers
          → AllSized d (wanted d (pick t over (onward (missing - length c))))
          → ((left : ℕ) → Sums (onward left) (sector_shares n (size - 2048) left ++ rest (left - (size - 2048))))
          → length (take missing c ++ arrived d (pick t over (onward (missing - length c)))) ≡ min missing (min size 2048) + brought (sector_shares n (size - 2048) (missing - min size 2048) ++ rest (missing - size))
      goes c z true t e a ih =
          let k = leb-true missing (length c) t in
          let x : missing - min size 2048 ≡ 0 = omega arith in
          let y : missing - size ≡ 0 = omega arith in
          rw (append-nil (take missing c), length-take missing c, z, x, y, brought-append (sector_shares n (size - 2048) 0) (rest 0), sector-none n (size - 2048), o) (omega arith)
      goes c z false t e a ih =
          let y : missing - min size 2048 - (size - 2048) ≡ missing - size = omega arith in
          let p = ih (missing - length c) e a in
          let q : brought (sector_shares n (size - 2048) (missing - length c) ++ rest (missing - length c - (size - 2048))) ≡ brought (sector_shares n (size - 2048) (missing - min size 2048) ++ rest (missing - size)) =
          ap (λ x. brought (sector_shares n (size - 2048) (missing - x) ++ rest (missing - x - (size - 2048)))) z ∙ ap (λ x. brought (sector_shares n (size - 2048) (missing - min size 2048) ++ rest x)) y in
          length-append (take missing c) (arrived d (onward (missing - length c))) ∙ ap (λ x. x + length (arrived d (onward (missing - length c)))) (length-take missing c ∙ ap (min missing) z) ∙ ap (λ x. min missing (min size 2048) + x) (p ∙ q)

      by : (x : Held) → given x (λ b. end_of d (pick (leb missing (length (take size b))) over (onward (missing - length (take size b))))) (refuses Io) ≡ answers
          → Sized x × AllSized d (given x (λ b. wanted d (pick (leb missing (length (take size b))) over (onward (missing - length (take size b))))) [])
          → ((left : ℕ) → Sums (onward left) (sector_shares n (size - 2048) left ++ rest (left - (size - 2048))))
          → length (given x (λ b. take missing (take size b) ++ arrived d (pick (leb missing (length (take size b))) over (onward (missing - length (take size b))))) [])
          ≡ min missing (min size 2048) + brought (sector_shares n (size - 2048) (missing - min size 2048) ++ rest (missing - size))
      by (holds b) e a ih = goes (take size b) (length-take size b ∙ ap (min size) a.0) (leb missing (length (take size b))) refl e a.1 ih
      by lacks e a ih = not-answered e

  pub extents-sum : (m : Mount) (es : List AllocExtent) (missing : ℕ) → Sums (extents_feed m es missing) (extent_shares es missing)
  unfolding extents_feed extent_shares end_of arrived brought
  extents-sum m [] missing e a = refl
  extents-sum m (x ∷ es) missing e a = by (eqb x.extent_type 0) (placed m x.partition_ref x.block.0) (λ left. extents-sum m es left) e a
    where
      f : ℕ → Feed
      f left = pick (leb left 0) over (extents_feed m es left)

      next : ((left : ℕ) → Sums (extents_feed m es left) (extent_shares es left)) → (left : ℕ) → Sums (f left) (extent_shares es left)
      next ih left e a = told (leb left 0) refl e a
        where
          told : (t : Bool) → leb left 0 ≡ t → end_of d (pick t over (extents_feed m es left)) ≡ answers → AllSized d (wanted d (pick t over (extents_feed m es left)))
              → length (arrived d (pick t over (extents_feed m es left))) ≡ brought (extent_shares es left)
          told true t e a = let z : left ≡ 0 = (let l = leb-true left 0 t in omega arith) in rw z (sym (extent-none es))
          told false t e a = ih left e a

      held : (n : ℕ) → n ≤ 2048 * sectors_for n
      held n = omega arith

      by : (t : Bool) (o : Option ℕ) → ((left : ℕ) → Sums (extents_feed m es left) (extent_shares es left))
          → end_of d (pick t (standing o (λ at. extent_feed (sectors_for x.length) at x.length missing f)) (stop Unsupported)) ≡ answers
          → AllSized d (wanted d (pick t (standing o (λ at. extent_feed (sectors_for x.length) at x.length missing f)) (stop Unsupported)))
          → length (arrived d (pick t (standing o (λ at. extent_feed (sectors_for x.length) at x.length missing f)) (stop Unsupported)))
          ≡ brought (sector_shares (sectors_for x.length) x.length missing ++ extent_shares es (missing - x.length))
      by false o ih e a = not-answered e
      by true None ih e a = not-answered e
      by true (Some at) ih e a = extent-sums (sectors_for x.length) at x.length missing f (extent_shares es) (held x.length) (extent-none es) (next ih) e a
