-- The feed of a file is the read of `files`: its bytes collected, it is that tree. Assumes nothing.
use Rattle.std.specs.Prelude.{Option, Some, None}
use mathlib.Core.Path.{◌≡◌, refl, ap, sym, ◌∙◌, fun_ext}
use mathlib.Core.Bool.{Bool, true, false}
use mathlib.Core.List.{List, [], ◌∷◌, ◌++◌, append-nil, append_assoc}
use Prim.Native.Nat.{ℕ, zero, suc, ◌+◌, ◌-◌, ◌<◌}
use native.Mathlib.Omega.{arith}
use lib.ListN.{length, take, length-append}
use lib.Seq.{take_all, take-take, take-append-add, length-take-le}
use lib.Dec.{eqb, leb}
use borrow.Author.Tests.{leb-true, leb-false, le-leb, lt-leb}
use Rattle.disc.specs.Choice.{pick}
use Rattle.disc.specs.Ask.{Ask, then}
use Rattle.disc.specs.Ask.Ask.{done, refuse, ask}
use Rattle.disc.specs.Images.{sectors_for}
use Rattle.disc.specs.Places.{placed, standing as placing}
use Rattle.disc.specs.declared.places.Mount.{Mount}
use Rattle.disc.specs.declared.refusals.Refusal.TheVariants.{Unsupported}
use Rattle.disc.proofs.AskLaws.{then-then, then_same, then-done}
use Rattle.records.specs.declared.allocations.LongAd.{LongAd}
use Rattle.areas.specs.declared.AllocExtent.{AllocExtent}
use Rattle.areas.specs.declared.AdEnding.{AdEnding}
use Rattle.areas.specs.declared.AdEnding.TheVariants.{End, Continuation, Refused}
use Rattle.areas.specs.Areas.{Area, area_at}
use Rattle.chains.specs.Chains.{most_continuations, next_area, continued}
use Rattle.files.specs.Reads.{joining, extent_bytes, extents_bytes}
use Rattle.files.specs.Files.{Located, entry_at, entry_mount, is_embedded, embedded_bytes, resolved, content_of, file_at, file_bytes}
use Rattle.drives.specs.Feeds.{Feed, following, naming, collected}
use Rattle.drives.specs.Feeds.Feed.{over, stop, put}
use Rattle.drives.specs.FileFeeds.{extent_feed, standing, extents_feed, named_by, chain_feed, entry_feed, file_feed}

-- ---- trees

pub collected-following : {A : Type 0} (front : List ℕ) (t : Ask A) (f : A → Feed) → collected front (following t f) ≡ then t (λ a. collected front (f a))
unfolding collected following then
collected-following front (done a) f = refl
collected-following front (refuse r) f = refl
collected-following front (ask s k) f = ap (ask s) (fun_ext (λ b. collected-following front (k b) f))

collected-naming : {A : Type 0} (front : List ℕ) (named : List ℕ → ℕ) (t : Ask A) (f : A → Feed) → collected front (naming named t f) ≡ then t (λ a. collected front (f a))
unfolding collected naming then
collected-naming front named (done a) f = refl
collected-naming front named (refuse r) f = refl
collected-naming front named (ask s k) f = ap (ask s) (fun_ext (λ b. collected-naming front (λ more. named (b ++ more)) (k b) f))

-- ---- an extent

-- behind the bytes b of an extent
abbrev behind_extent : List ℕ → ℕ → (ℕ → Feed) → List ℕ → Ask (List ℕ)
behind_extent front missing f b = pick (leb missing (length b)) (done (front ++ take missing b)) (collected (front ++ b) (f (missing - length b)))

leb-over : (m a b : ℕ) → a < m → leb (m - a) b ≡ leb m (a + b)
leb-over m a b h = by (leb m (a + b)) refl
  where
    by : (t : Bool) → leb m (a + b) ≡ t → leb (m - a) b ≡ t
    by true e = let l = leb-true m (a + b) e in le-leb (m - a) b (omega arith)
    by false e = let l = leb-false m (a + b) e in lt-leb (m - a) b (omega arith)

take-over : (m : ℕ) (a b : List ℕ) → length a < m → take m (a ++ b) ≡ a ++ take (m - length a) b
take-over m a b h =
    let z : length a + (m - length a) ≡ m = omega arith in
    rw z at (take-append-add a b (m - length a))

module _ (f : ℕ → Feed) (f0 : f 0 ≡ over) where
  extent-none : (missing : ℕ) (front : List ℕ) → collected front (f missing) ≡ behind_extent front missing f []
  unfolding collected
  extent-none zero front = rw (f0, append-nil front)
  extent-none (suc n) front =
      let z : suc n ≡ suc n - 0 = omega arith in
      rw (lt-leb (suc n) 0 (omega arith), append-nil front) (ap (λ k. collected front (f k)) z)

  behind_more : (missing : ℕ) (front bs rest : List ℕ) → length bs < missing
      → behind_extent (front ++ bs) (missing - length bs) f rest ≡ behind_extent front missing f (bs ++ rest)
  behind_more missing front bs rest h =
      let z : missing - (length bs + length rest) ≡ missing - length bs - length rest = omega arith in
      rw (length-append bs rest, z, leb-over missing (length bs) (length rest) h, take-over missing bs rest h, append_assoc front bs (take (missing - length bs) rest), append_assoc front bs rest)

  -- what the sectors that are left give
  abbrev Goes : ℕ → ℕ → ℕ → Type 0
  Goes n at size = (missing : ℕ) (front : List ℕ) → collected front (extent_feed n at size missing f) ≡ then (extent_bytes n at size missing) (behind_extent front missing f)

  extent-sector : (n at size missing : ℕ) (front bs : List ℕ) → Goes n at size
      → collected (front ++ take missing bs) (pick (leb missing (length bs)) over (extent_feed n at size (missing - length bs) f))
      ≡ then (joining missing bs (extent_bytes n at size (missing - length bs))) (behind_extent front missing f)
  unfolding collected then
  extent-sector n at size missing front bs ih = by (leb missing (length bs)) refl
    where
      by : (t : Bool) → leb missing (length bs) ≡ t
          → collected (front ++ take missing bs) (pick t over (extent_feed n at size (missing - length bs) f))
          ≡ then (pick t (done (take missing bs)) (then (extent_bytes n at size (missing - length bs)) (λ rest. done (bs ++ rest)))) (behind_extent front missing f)
      by true e =
          let l = leb-true missing (length bs) e in
          let k = length-take-le missing bs l in
          rw (le-leb missing (length (take missing bs)) (omega arith), take-take missing missing bs (omega arith))
      by false e =
          let l = leb-false missing (length bs) e in
          rw (take_all missing bs (omega arith))
          (ih (missing - length bs) (front ++ bs)
          ∙ then_same (extent_bytes n at size (missing - length bs)) _ _ (λ rest. behind_more missing front bs rest l)
          ∙ sym (then-then (extent_bytes n at size (missing - length bs)) (λ rest. done (bs ++ rest)) (behind_extent front missing f)))

  pub collected-extent : (n at size : ℕ) → Goes n at size
  unfolding collected extent_feed extent_bytes then
  collected-extent zero at size missing front = extent-none missing front
  collected-extent (suc n) at size missing front =
      ap (ask at) (fun_ext (λ b. extent-sector n (at + 1) (size - 2048) missing front (take size b) (collected-extent n (at + 1) (size - 2048))))

-- ---- extents

module _ (m : Mount) where
  abbrev next_extent : List AllocExtent → ℕ → Feed
  next_extent es left = pick (leb left 0) over (extents_feed m es left)

  abbrev Reads : List AllocExtent → Type 0
  Reads es = (missing : ℕ) (front : List ℕ) → collected front (extents_feed m es missing) ≡ then (extents_bytes m es missing) (λ b. done (front ++ b))

  extents-behind : (es : List AllocExtent) (missing : ℕ) (front b : List ℕ) → Reads es
      → behind_extent front missing (next_extent es) b ≡ then (joining missing b (extents_bytes m es (missing - length b))) (λ x. done (front ++ x))
  unfolding then
  extents-behind es missing front b ih = told (leb missing (length b)) refl
    where
      told : (t : Bool) → leb missing (length b) ≡ t
          → pick t (done (front ++ take missing b)) (collected (front ++ b) (next_extent es (missing - length b)))
          ≡ then (pick t (done (take missing b)) (then (extents_bytes m es (missing - length b)) (λ rest. done (b ++ rest)))) (λ x. done (front ++ x))
      told true q = refl
      told false q =
          let l = leb-false missing (length b) q in
          rw (lt-leb (missing - length b) 0 (omega arith))
          (ih (missing - length b) (front ++ b)
          ∙ then_same (extents_bytes m es (missing - length b)) _ _ (λ rest. ap done (append_assoc front b rest))
          ∙ sym (then-then (extents_bytes m es (missing - length b)) (λ rest. done (b ++ rest)) (λ x. done (front ++ x))))

  extents-first : (e : AllocExtent) (es : List AllocExtent) (missing : ℕ) (front : List ℕ) → Reads es
      → collected front (extents_feed m (e ∷ es) missing) ≡ then (extents_bytes m (e ∷ es) missing) (λ b. done (front ++ b))
  unfolding collected extents_feed extents_bytes then
  extents-first e es missing front ih = by (eqb e.extent_type 0) (placed m e.partition_ref e.block.0)
    where
      by : (t : Bool) (o : Option ℕ)
          → collected front (pick t (standing o (λ at. extent_feed (sectors_for e.length) at e.length missing (next_extent es))) (stop Unsupported))
          ≡ then (pick t (placing o (λ at. then (extent_bytes (sectors_for e.length) at e.length missing) (λ b. joining missing b (extents_bytes m es (missing - length b))))) (refuse Unsupported)) (λ b. done (front ++ b))
      by false o = refl
      by true None = refl
      by true (Some at) =
          collected-extent (next_extent es) refl (sectors_for e.length) at e.length missing front
          ∙ then_same (extent_bytes (sectors_for e.length) at e.length missing) _ _ (λ b. extents-behind es missing front b ih)
          ∙ sym (then-then (extent_bytes (sectors_for e.length) at e.length missing) _ (λ b. done (front ++ b)))

  pub collected-extents : (es : List AllocExtent) → Reads es
  unfolding collected extents_feed extents_bytes then
  collected-extents [] missing front = rw (append-nil front)
  collected-extents (e ∷ es) missing front = extents-first e es missing front (collected-extents es)

  -- ---- the chain

  abbrev read_of : List ℕ → ℕ → List AllocExtent → Ask (List ℕ)
  read_of front missing es = then (extents_bytes m es missing) (λ b. done (front ++ b))

  pub collected-chain : (kind n missing : ℕ) (front : List ℕ) (es : List AllocExtent) (how : AdEnding)
      → collected front (chain_feed m kind n missing es how) ≡ then (continued m kind n how) (λ more. read_of front missing (es ++ more))
  unfolding collected chain_feed continued then
  collected-chain kind zero missing front es End = collected-extents es missing front ∙ ap (read_of front missing) (sym (append-nil es))
  collected-chain kind zero missing front es (Refused r) = refl
  collected-chain kind zero missing front es (Continuation a) = refl
  collected-chain kind (suc n) missing front es End = collected-extents es missing front ∙ ap (read_of front missing) (sym (append-nil es))
  collected-chain kind (suc n) missing front es (Refused r) = refl
  collected-chain kind (suc n) missing front es (Continuation a) =
      collected-naming front (named_by kind a.length es) (next_area m kind a) (λ x. chain_feed m kind n missing (es ++ x.extents) x.ending)
      ∙ then_same (next_area m kind a) _ _ (λ x.
      collected-chain kind n missing front (es ++ x.extents) x.ending
      ∙ then_same (continued m kind n x.ending) _ _ (λ more. ap (read_of front missing) (append_assoc es x.extents more))
      ∙ sym (then-then (continued m kind n x.ending) (λ more. done (x.extents ++ more)) (λ more. read_of front missing (es ++ more))))
      ∙ sym (then-then (next_area m kind a) _ (λ more. read_of front missing (es ++ more)))

  -- ---- the entry

  pub collected-entry : (x : Located) → collected [] (entry_feed m x) ≡ then (resolved m x) (content_of m)
  unfolding collected entry_feed then
  collected-entry x = by (is_embedded x)
    where
      area : Area
      area = area_at x.entry.kind x.sector x.entry.area_at x.entry.area_length

      by : (t : Bool)
          → collected [] (pick t (put (embedded_bytes x) over) (chain_feed m x.entry.kind most_continuations x.entry.information_length area.extents area.ending))
          ≡ then (pick t (done (Rattle.files.specs.Files.File.embedded x)) (then (then (continued m x.entry.kind most_continuations area.ending) (λ more. done (area.extents ++ more))) (λ es. done (Rattle.files.specs.Files.File.chained x es)))) (content_of m)
      by true = refl
      by false =
          collected-chain x.entry.kind most_continuations x.entry.information_length [] area.extents area.ending
          ∙ then_same (continued m x.entry.kind most_continuations area.ending) _ _ (λ more. then-done (extents_bytes m (area.extents ++ more) x.entry.information_length))
          ∙ sym (then-then (continued m x.entry.kind most_continuations area.ending) (λ more. done (Rattle.files.specs.Files.File.chained x (area.extents ++ more))) (content_of m))
          ∙ ap (λ t. then t (content_of m)) (sym (then-then (continued m x.entry.kind most_continuations area.ending) (λ more. done (area.extents ++ more)) (λ es. done (Rattle.files.specs.Files.File.chained x es))))

-- ---- the whole read: the bytes of the feed collected, it is the read's own tree

pub file-collected : (m : Mount) (icb : LongAd) → collected [] (file_feed m icb) ≡ file_bytes m icb
unfolding file_feed file_bytes file_at
file-collected m icb =
    collected-following [] (entry_at m icb) (entry_feed (entry_mount m icb))
    ∙ then_same (entry_at m icb) _ _ (collected-entry (entry_mount m icb))
    ∙ sym (then-then (entry_at m icb) (resolved (entry_mount m icb)) (content_of (entry_mount m icb)))
