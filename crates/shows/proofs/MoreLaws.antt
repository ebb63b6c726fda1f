-- A tree of questions that goes on where another is refused: where the other is answered, both are answered the same after the same sectors. Assumes nothing.
use mathlib.Core.Path.{◌≡◌, refl, ap}
use mathlib.Core.Bool.{Bool, true, false}
use mathlib.Core.List.{List, [], ◌∷◌, ◌++◌}
use Prim.Native.Nat.{ℕ, zero, suc, ◌-◌, ◌≤◌}
use native.Mathlib.Omega.{arith}
use lib.ListN.{length}
use Rattle.disc.specs.Choice.{pick}
use Rattle.disc.specs.Places.{is_checked}
use Rattle.disc.specs.Ask.{Held, Disc, Ask, given, outcome, asked, then, ended}
use Rattle.disc.specs.Ask.Held.{holds, lacks}
use Rattle.disc.specs.Ask.Ask.{done, refuse, ask}
use Rattle.disc.specs.Ask.Outcome.{answered, refused}
use Rattle.disc.specs.declared.places.Mount.{Mount}
use Rattle.disc.specs.declared.refusals.Refusal.TheVariants.{Io}
use Rattle.disc.proofs.RanLaws.{never}
use Rattle.records.specs.declared.allocations.LongAd.{LongAd}
use Rattle.identifiers.specs.Identifiers.{is_directory}
use Rattle.listings.specs.Entries.{Entry, is_skipped, entries}
use Rattle.directories.specs.Directories.{directory_bytes}
use Rattle.shows.specs.Shows.{Node, under, nodes_of, nodes_at}
use Rattle.shows.specs.Levels.{Alike}

-- ---- the second goes on at least as far as the first

unfoldable pub Extends : {A : Type 0} → Ask A → Ask A → Type 0
Extends (refuse why) n = Unit {0}
Extends (done a) (done b) = b ≡ a
Extends (done a) (refuse why) = ⊥
Extends (done a) (ask s k) = ⊥
Extends (ask s k) (done a) = ⊥
Extends (ask s k) (refuse why) = ⊥
Extends (ask s k) (ask t l) = (t ≡ s) × ((b : List ℕ) → Extends (k b) (l b))

pub extends-same : {A : Type 0} (m : Ask A) → Extends m m
unfolding Extends
extends-same (done a) = refl
extends-same (refuse why) = tt
extends-same (ask s k) = (refl, λ b. extends-same (k b))

pub extends-then : {A B : Type 0} (m n : Ask A) (f g : A → Ask B) → Extends m n → ((a : A) → Extends (f a) (g a)) → Extends (then m f) (then n g)
unfolding Extends then
extends-then (refuse why) n f g p q = tt
extends-then (done a) (done b) f g p q = rw p (q a)
extends-then (done a) (refuse why) f g p q = absurd p
extends-then (done a) (ask s k) f g p q = absurd p
extends-then (ask s k) (done a) f g p q = absurd p
extends-then (ask s k) (refuse why) f g p q = absurd p
extends-then (ask s k) (ask t l) f g p q = (p.0, λ b. extends-then (k b) (l b) f g (p.1 b) q)

pub extends-pick : {A : Type 0} (t : Bool) (m n m' n' : Ask A) → Extends m m' → Extends n n' → Extends (pick t m n) (pick t m' n')
extends-pick true m n m' n' p q = p
extends-pick false m n m' n' p q = q

-- ---- where the first is answered

pub extends-alike : {A : Type 0} (d : Disc) (m n : Ask A) → Extends m n → {a : A} → outcome d m ≡ answered a → Alike d m n
unfolding Extends outcome asked
extends-alike d (refuse why) n p e = never e
extends-alike d (done a) (done b) p e = record { outcomes = ap answered p; lists = refl }
extends-alike d (done a) (refuse why) p e = absurd p
extends-alike d (done a) (ask s k) p e = absurd p
extends-alike d (ask s k) (done a) p e = absurd p
extends-alike d (ask s k) (refuse why) p e = absurd p
extends-alike {A} d (ask s k) (ask t l) p {a} e = by (d s) refl (λ b q. extends-alike d (k b) (l b) (p.1 b) q) e
  where
    by : (x : Held) → d s ≡ x → ((b : List ℕ) → outcome d (k b) ≡ answered a → Alike d (k b) (l b)) → given x (λ b. outcome d (k b)) (refused Io) ≡ answered a
        → Alike d (ask s k) (ask t l)
    by (holds b) h ih q =
        let g = ih b q in
        rw p.0 (record { outcomes = rw h g.outcomes; lists = rw h (ap (λ r. s ∷ r) g.lists) })
    by lacks h ih q = never q

-- ---- more levels

of-extends : (inside inside' : LongAd → Ask (List Node)) → ((icb : LongAd) → Extends (inside icb) (inside' icb)) → (level : ℕ) (es : List Entry) → Extends (nodes_of inside level es) (nodes_of inside' level es)
unfolding nodes_of
of-extends inside inside' h level [] = extends-same (done [])
of-extends inside inside' h level (e ∷ es) =
    extends-pick (is_skipped e.identifier) _ _ _ _ (of-extends inside inside' h level es)
    (extends-then (under inside e) (under inside' e) _ _ (extends-pick (is_directory e.identifier) _ _ _ _ (h e.identifier.icb) (extends-same (done []))) (λ below.
    extends-then (nodes_of inside level es) (nodes_of inside' level es) _ _ (of-extends inside inside' h level es) (λ others. extends-same (done (record { level = level; entry = e } ∷ (below ++ others))))))

pub nodes-extends : (m : Mount) (left left' : ℕ) → left ≤ left' → (level work : ℕ) (icb : LongAd) → Extends (nodes_at m left level work icb) (nodes_at m left' level work icb)
unfolding nodes_at Extends
nodes-extends m zero left' h level work icb = tt
nodes-extends m (suc left) zero h level work icb = absurd (omega arith)
nodes-extends m (suc left) (suc left') h level work icb =
    extends-then (directory_bytes m work icb) (directory_bytes m work icb) _ _ (extends-same (directory_bytes m work icb)) (λ b.
    extends-then (ended (entries (is_checked m) b)) (ended (entries (is_checked m) b)) _ _ (extends-same (ended (entries (is_checked m) b))) (λ es.
    of-extends (nodes_at m left (suc level) (work - length b)) (nodes_at m left' (suc level) (work - length b)) (nodes-extends m left left' (omega arith) (suc level) (work - length b)) level es))
