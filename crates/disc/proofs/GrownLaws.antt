-- What a tree of questions comes to on a disc that has all that another has: the same, or the other lacked a sector of the list, and then how far the list
-- went says which. Assumes nothing.
use mathlib.Core.Path.{◌≡◌, refl, ap}
use mathlib.Core.Bool.{Bool, true, false, ◌||◌}
use mathlib.Core.List.{List, [], ◌∷◌, ◌++◌}
use mathlib.Core.Logic.{⊎_elim}
use Prim.Native.Nat.{ℕ, suc, ◌+◌, ◌*◌, ◌≤◌, ◌<◌}
use native.Mathlib.Nat.{zero-add}
use native.Mathlib.Omega.{arith}
use lib.ListN.{length}
use lib.Dec.{ltb}
use borrow.Author.Tests.{ne_eqb, ltb-false, le-ltb}
use Rattle.disc.specs.Refusals.{number}
use Rattle.disc.specs.Ask.{Held, Disc, Ask, given, outcome, asked, Grown}
use Rattle.disc.specs.Ask.Held.{holds, lacks}
use Rattle.disc.specs.Ask.Ask.{done, refuse, ask}
use Rattle.disc.specs.Ask.Outcome.{refused}
use Rattle.disc.specs.Images.{disc}
use Rattle.disc.specs.Ran.{ran}
use Rattle.disc.specs.declared.refusals.Refusal.TheVariants.{Io}
use Rattle.disc.proofs.ImageLaws.{split, held, missing}
use Rattle.disc.specs.Refusing.{Only, Refuses, is_io, ButIo}
use Rattle.disc.specs.Lists.{any_missing, up_to, Waits}

-- ---- where no sector was missing, nothing changes

record Same {A : Type 0} (m : Ask A) (d e : Disc) : Type 0 where
  outcomes : outcome e m ≡ outcome d m
  lists : asked e m ≡ asked d m

grown-same : {A : Type 0} (m : Ask A) (d e : Disc) → Grown d e → is_io (outcome d m) ≡ false → Same m d e
unfolding outcome asked Grown
grown-same (done a) d e g h = record { outcomes = refl; lists = refl }
grown-same (refuse r) d e g h = record { outcomes = refl; lists = refl }
grown-same (ask s k) d e g h = by (d s) refl h (λ b t. grown-same (k b) d e g t)
  where
    by : (x : Held) → d s ≡ x → is_io (given x (λ b. outcome d (k b)) (refused Io)) ≡ false
        → ((b : List ℕ) → is_io (outcome d (k b)) ≡ false → Same (k b) d e) → Same (ask s k) d e
    by lacks p t ih = absurd (let w : ◌≡◌ {A = ℕ} 0 1 = cc in omega arith)
    by (holds b) p t ih = record { outcomes = rw (p, g s b p) (ih b t).outcomes; lists = rw (p, g s b p) (ap (λ l. s ∷ l) (ih b t).lists) }

pub grown-ran : {A : Type 0} (m : Ask A) (d e : Disc) → Grown d e → is_io (outcome d m) ≡ false → ran e m ≡ ran d m
unfolding ran
grown-ran m d e g h = let r = grown-same m d e g h in λ i. record { outcome = r.outcomes i; count = length (r.lists i) }

-- ---- the list on the smaller disc is that on the larger, cut behind the first sector that the smaller one lacks

pub grown-cut : {A : Type 0} (m : Ask A) (d e : Disc) → Grown d e → asked d m ≡ up_to d (asked e m)
unfolding asked up_to Grown
grown-cut (done a) d e g = refl
grown-cut (refuse r) d e g = refl
grown-cut (ask s k) d e g = ap (λ l. s ∷ l) (by (d s) refl (λ b. grown-cut (k b) d e g))
  where
    by : (x : Held) → d s ≡ x → ((b : List ℕ) → asked d (k b) ≡ up_to d (asked e (k b)))
        → given x (λ b. asked d (k b)) [] ≡ given x (λ b. up_to d (given (e s) (λ c. asked e (k c)) [])) []
    by lacks p ih = refl
    by (holds b) p ih = rw (g s b p) (ih b)

-- ---- where one was missing, the list goes as far as the first that is

-- a list whose first sector is missing
pub waits-first : (image : List ℕ) (s : ℕ) (list : List ℕ) → length image < 2048 * (s + 1) → Waits image (s ∷ list) 1
unfolding any_missing
waits-first image s list h = record { sector = s; before = []; behind = list; is = refl; place = refl; there = refl; gone = h }

-- sectors that are there, in front of such a list
pub waits-next : (image : List ℕ) (s : ℕ) (list : List ℕ) (n : ℕ) → 2048 * (s + 1) ≤ length image → Waits image list n → Waits image (s ∷ list) (suc n)
unfolding any_missing
waits-next image s list n h w = record {
  sector = w.sector;
  before = s ∷ w.before;
  behind = w.behind;
  is = ap (λ l. s ∷ l) w.is;
  place = omega (arith, w.place);
  there = rw (le-ltb (length image) (2048 * (s + 1)) h) w.there;
  gone = w.gone;
}

pub waits-behind : (image front list : List ℕ) (n : ℕ) → any_missing image front ≡ false → Waits image list n → Waits image (front ++ list) (length front + n)
unfolding any_missing
waits-behind image [] list n h w = rw zero-add w
waits-behind image (s ∷ front) list n h w = by (ltb (length image) (2048 * (s + 1))) refl h (λ k. waits-behind image front list n k w)
  where
    by : (t : Bool) → ltb (length image) (2048 * (s + 1)) ≡ t → (t || any_missing image front) ≡ false
        → (any_missing image front ≡ false → Waits image (front ++ list) (length front + n)) → Waits image (s ∷ (front ++ list)) (suc (length front) + n)
    by true e k ih = absurd (let w : ◌≡◌ {A = ℕ} 0 1 = cc in omega arith)
    by false e k ih =
        let m : suc (length front) + n ≡ suc (length front + n) = omega arith in
        rw m (waits-next image s (front ++ list) (length front + n) (ltb-false _ _ e) (ih k))

-- a sector is wholly inside the image and the disc has it, or it isn't and the disc lacks it
data SectorStands (image : List ℕ) (d : Disc) (s : ℕ) : Type 0 where
  inside : (b : List ℕ) → d s ≡ holds b → 2048 * (s + 1) ≤ length image → SectorStands image d s
  outside : d s ≡ lacks → length image < 2048 * (s + 1) → SectorStands image d s

image-stands : (image : List ℕ) (s : ℕ) → SectorStands image (disc image) s
image-stands image s = ⊎_elim
    (λ (t : 2048 * s + 2048 ≤ length image). inside _ (held image s t) (omega arith))
    (λ (t : length image < 2048 * s + 2048). outside (missing image s t) (omega arith))
    (split (2048 * s + 2048) (length image))

-- of any disc that stands so: what its sectors hold is never opened here, which keeps the check quick
disc-waits : {A : Type 0} (Q : A → Type 0) (image : List ℕ) (d e : Disc) → ((s : ℕ) → SectorStands image d s) → Grown d e → (m : Ask A) → Only ButIo Q m → is_io (outcome d m) ≡ true
    → Waits image (asked e m) (length (asked d m))
unfolding outcome asked Only Grown
disc-waits Q image d e at g (done a) p h = absurd (let w : ◌≡◌ {A = ℕ} 0 1 = cc in omega arith)
disc-waits Q image d e at g (refuse r) p h = absurd (let z = ne_eqb (number r) 1 p in let w : ◌≡◌ {A = ℕ} 0 1 = cc in omega arith)
disc-waits Q image d e at g (ask s k) p h = by (at s) (λ b. disc-waits Q image d e at g (k b) (p b))
  where
    by : SectorStands image d s → ((b : List ℕ) → is_io (outcome d (k b)) ≡ true → Waits image (asked e (k b)) (length (asked d (k b)))) → Waits image (asked e (ask s k)) (length (asked d (ask s k)))
    by (inside b y t) ih = rw (y, g s b y) (waits-next image s (asked e (k b)) (length (asked d (k b))) t (ih b (rw y at h)))
    by (outside y t) ih = rw y (waits-first image s (given (e s) (λ b. asked e (k b)) []) t)

pub refused-waits : {A : Type 0} {Q : A → Type 0} (image : List ℕ) (e : Disc) → Grown (disc image) e → {m : Ask A} → Refuses ButIo Q m → is_io (outcome (disc image) m) ≡ true
    → Waits image (asked e m) (length (asked (disc image) m))
refused-waits {Q = Q} image e g {m} p h = disc-waits Q image (disc image) e (image-stands image) g m p.only h
