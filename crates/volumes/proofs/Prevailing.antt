-- Which descriptor of a kind prevails, by each order; and where both orders keep the same. Assumes nothing.
use mathlib.Core.Path.{◌≡◌, refl, sym, ◌∙◌}
use mathlib.Core.Bool.{Bool, true, false}
use mathlib.Core.List.{List, [], ◌∷◌, ◌++◌, append-nil, append_assoc}
use mathlib.Core.Logic.{◌⊎◌, inl, inr}
use Prim.Native.Nat.{ℕ, ◌<◌, ◌≤◌}
use native.Mathlib.Omega.{arith}
use borrow.Author.Tests.{leb-true, leb-false, le-leb}
use Rattle.disc.specs.Choice.{pick}
use Rattle.disc.proofs.PickLaws.{pick-both, not-both}
use Rattle.volumes.specs.declared.sequences.Kept.{Kept}
use Rattle.volumes.specs.declared.openings.How.{How}
use Rattle.volumes.specs.Sequences.{nothing, Parsed, Order, latest, highest, order_of, any_partition, counts, replacing, prevailing, kept_of}
use Rattle.volumes.specs.Sequences.Parsed.{primary, partition, logical}
use Rattle.volumes.specs.Prevailing.{Kind, kind_of, number_of, has_of, Keeps, Every, Prevails, Rising, is_wanted, wanted_in}
use Rattle.volumes.specs.Prevailing.Kind.{primaries, partitions, logicals}

-- ---- the kinds of descriptors, and what is kept of each

abbrev held_of : Kind → Kept → ℕ
held_of primaries k = k.primary_sequence
held_of partitions k = k.partition_sequence
held_of logicals k = k.logical_sequence

-- ---- laws of the kinds

same_kind : (a b : Kind) → (a ≡ b) ⊎ (a ≡ b → ⊥)
same_kind primaries primaries = inl refl
same_kind primaries partitions = inr (λ e. let z : ◌≡◌ {A = ℕ} 0 1 = cc in omega arith)
same_kind primaries logicals = inr (λ e. let z : ◌≡◌ {A = ℕ} 0 1 = cc in omega arith)
same_kind partitions primaries = inr (λ e. let z : ◌≡◌ {A = ℕ} 0 1 = cc in omega arith)
same_kind partitions partitions = inl refl
same_kind partitions logicals = inr (λ e. let z : ◌≡◌ {A = ℕ} 0 1 = cc in omega arith)
same_kind logicals primaries = inr (λ e. let z : ◌≡◌ {A = ℕ} 0 1 = cc in omega arith)
same_kind logicals partitions = inr (λ e. let z : ◌≡◌ {A = ℕ} 0 1 = cc in omega arith)
same_kind logicals logicals = inl refl

every-weak : (kind : Kind) {P Q : ℕ → Type 0} (ps : List Parsed) → ((n : ℕ) → P n → Q n) → Every kind P ps → Every kind Q ps
unfolding Every
every-weak kind [] f h = tt
every-weak kind (p ∷ ps) f h = (λ e. f (number_of p) (h.0 e), every-weak kind ps f h.1)

every-join : (kind : Kind) (P : ℕ → Type 0) (ps qs : List Parsed) → Every kind P ps → Every kind P qs → Every kind P (ps ++ qs)
unfolding Every
every-join kind P [] qs h g = g
every-join kind P (p ∷ ps) qs h g = (h.0, every-join kind P ps qs h.1 g)

every_one : (kind : Kind) (P : ℕ → Type 0) (p : Parsed) → (kind_of p ≡ kind → P (number_of p)) → Every kind P (p ∷ [])
unfolding Every
every_one kind P p h = (h, tt)

-- what is kept of a kind is the same
abbrev Same : Kind → Kept → Kept → Type 0
Same primaries j k = (j.has_primary ≡ k.has_primary) × (j.primary_sequence ≡ k.primary_sequence) × (j.label ≡ k.label)
Same partitions j k =
    (j.has_partition ≡ k.has_partition)
    × (j.partition_sequence ≡ k.partition_sequence)
    × (j.partition_number ≡ k.partition_number)
    × (j.partition_start ≡ k.partition_start)
Same logicals j k =
    (j.has_logical ≡ k.has_logical)
    × (j.logical_sequence ≡ k.logical_sequence)
    × (j.block_size ≡ k.block_size)
    × (j.file_set ≡ k.file_set)
    × (j.map_table_length ≡ k.map_table_length)
    × (j.map_count ≡ k.map_count)
    × (j.maps ≡ k.maps)

same_self : (kind : Kind) (k : Kept) → Same kind k k
same_self primaries k = (refl, refl, refl)
same_self partitions k = (refl, refl, refl, refl)
same_self logicals k = (refl, refl, refl, refl, refl, refl, refl)

same-has : (kind : Kind) (j k : Kept) → Same kind j k → has_of kind j ≡ has_of kind k
same-has primaries j k s = s.0
same-has partitions j k s = s.0
same-has logicals j k s = s.0

same-held : (kind : Kind) (j k : Kept) → Same kind j k → held_of kind j ≡ held_of kind k
same-held primaries j k s = s.1
same-held partitions j k s = s.1
same-held logicals j k s = s.1

same-keeps : (q : Parsed) (j k : Kept) → Same (kind_of q) j k → Keeps k q → Keeps j q
same-keeps (primary d) j k s h = (s.0 ∙ h.0, s.1 ∙ h.1, s.2 ∙ h.2)
same-keeps (partition d) j k s h = (s.0 ∙ h.0, s.1 ∙ h.1, s.2 ∙ h.2, s.3 ∙ h.3)
same-keeps (logical d) j k s h = (s.0 ∙ h.0, s.1 ∙ h.1, s.2 ∙ h.2, s.3 ∙ h.3, s.4 ∙ h.4, s.5 ∙ h.5, s.6 ∙ h.6)

keeps-has : (q : Parsed) (k : Kept) → Keeps k q → has_of (kind_of q) k ≡ true
keeps-has (primary d) k h = h.0
keeps-has (partition d) k h = h.0
keeps-has (logical d) k h = h.0

keeps-held : (q : Parsed) (k : Kept) → Keeps k q → held_of (kind_of q) k ≡ number_of q
keeps-held (primary d) k h = h.1
keeps-held (partition d) k h = h.1
keeps-held (logical d) k h = h.1

-- ---- one descriptor

counts-is : (o : Order) (k : Kept) (p : Parsed) → counts o any_partition k p ≡ pick (has_of (kind_of p) k) (o (held_of (kind_of p) k) (number_of p)) true
counts-is o k (primary d) = refl
counts-is o k (partition d) = refl
counts-is o k (logical d) = refl

replacing-keeps : (k : Kept) (p : Parsed) → Keeps (replacing k p) p
replacing-keeps k (primary d) = (refl, refl, refl)
replacing-keeps k (partition d) = (refl, refl, refl, refl)
replacing-keeps k (logical d) = (refl, refl, refl, refl, refl, refl, refl)

-- it leaves the other kinds alone
replacing-others : (kind : Kind) (k : Kept) (p : Parsed) → (kind_of p ≡ kind → ⊥) → Same kind (replacing k p) k
replacing-others primaries k (primary d) n = absurd (n refl)
replacing-others primaries k (partition d) n = (refl, refl, refl)
replacing-others primaries k (logical d) n = (refl, refl, refl)
replacing-others partitions k (primary d) n = (refl, refl, refl, refl)
replacing-others partitions k (partition d) n = absurd (n refl)
replacing-others partitions k (logical d) n = (refl, refl, refl, refl)
replacing-others logicals k (primary d) n = (refl, refl, refl, refl, refl, refl, refl)
replacing-others logicals k (partition d) n = (refl, refl, refl, refl, refl, refl, refl)
replacing-others logicals k (logical d) n = absurd (n refl)

others : (o : Order) (kind : Kind) (k : Kept) (p : Parsed) → (kind_of p ≡ kind → ⊥) → Same kind (prevailing o any_partition k p) k
others o kind k p n = pick-both (λ (x : Kept). Same kind x k) (counts o any_partition k p) (replacing-others kind k p n) (same_self kind k)

-- ---- an order, and what it says of the numbers before the one that is kept, and behind it

-- the later of two counts only where the earlier one's number is Before its own, which goes on to every number that was; else the later
-- one's number is Behind the earlier one's
pub record Lawful (o : Order) (Before Behind : ℕ → ℕ → Type 0) : Type 0 where
  pub takes : (a b : ℕ) → o a b ≡ true → Before a b
  pub carries : (n a b : ℕ) → Before n a → o a b ≡ true → Before n b
  pub passes : (n a b : ℕ) → Behind n a → o a b ≡ true → Before n b
  pub leaves : (a b : ℕ) → o a b ≡ false → Behind b a

highest-lawful : Lawful highest (λ n m. n ≤ m) (λ n m. n < m)
highest-lawful = record {
  takes = λ a b e. leb-true a b e;
  carries = λ n a b h e. let g = leb-true a b e in omega arith;
  passes = λ n a b h e. let g = leb-true a b e in omega arith;
  leaves = λ a b e. leb-false a b e;
}

latest-lawful : Lawful latest (λ n m. Unit {0}) (λ n m. ⊥)
latest-lawful = record {
  takes = λ a b e. tt;
  carries = λ n a b h e. tt;
  passes = λ n a b h e. tt;
  leaves = λ a b e. not-both (sym e);
}

module _ (o : Order) (Before Behind : ℕ → ℕ → Type 0) (law : Lawful o Before Behind) where
  -- none of the kind has been met, or one of those that were prevails
  data Standing (kind : Kind) (ps : List Parsed) (k : Kept) : Type 0 where
    none_yet : has_of kind k ≡ false → Every kind (λ n. ⊥) ps → Standing kind ps k
    prevails : Prevails Before Behind kind ps k → Standing kind ps k

  -- a descriptor of another kind
  met-other : (kind : Kind) (ps : List Parsed) (k : Kept) (p : Parsed) → (kind_of p ≡ kind → ⊥) → Standing kind ps k → Standing kind (ps ++ (p ∷ [])) (prevailing o any_partition k p)
  met-other kind ps k p n (none_yet h e) =
      none_yet (same-has kind (prevailing o any_partition k p) k (others o kind k p n) ∙ h) (every-join kind (λ m. ⊥) ps (p ∷ []) e (every_one kind (λ m. ⊥) p (λ q. absurd (n q))))
  met-other kind ps k p n (prevails w) =
      prevails (record {
        before = w.before;
        one = w.one;
        behind = w.behind ++ (p ∷ []);
        stands = rw w.stands (append_assoc w.before (w.one ∷ w.behind) (p ∷ []));
        of-kind = w.of-kind;
        keeps = same-keeps w.one (prevailing o any_partition k p) k (rw w.of-kind (others o kind k p n)) w.keeps;
        over-before = w.over-before;
        over-behind = every-join kind (λ m. Behind m (number_of w.one)) w.behind (p ∷ []) w.over-behind (every_one kind (λ m. Behind m (number_of w.one)) p (λ q. absurd (n q)));
      })

  -- one of the kind that counts
  met-taken : (ps : List Parsed) (k : Kept) (p : Parsed) → Every (kind_of p) (λ n. Before n (number_of p)) ps → counts o any_partition k p ≡ true → Standing (kind_of p) (ps ++ (p ∷ [])) (prevailing o any_partition k p)
  unfolding Every
  met-taken ps k p e c =
      prevails (record {
        before = ps;
        one = p;
        behind = [];
        stands = refl;
        of-kind = refl;
        keeps = rw c (replacing-keeps k p);
        over-before = e;
        over-behind = tt;
      })

  -- one of the kind, where one was kept before
  met-kept : (ps : List Parsed) (k : Kept) (p : Parsed) → Prevails Before Behind (kind_of p) ps k → Standing (kind_of p) (ps ++ (p ∷ [])) (prevailing o any_partition k p)
  unfolding Every
  met-kept ps k p w = by (o (number_of w.one) (number_of p)) refl
    where
      count : counts o any_partition k p ≡ o (number_of w.one) (number_of p)
      count =
          let h : has_of (kind_of p) k ≡ true = rw (← w.of-kind) (keeps-has w.one k w.keeps) in
          let g : held_of (kind_of p) k ≡ number_of w.one = rw (← w.of-kind) (keeps-held w.one k w.keeps) in
          counts-is o k p ∙ rw (h, g)

      all : o (number_of w.one) (number_of p) ≡ true → Every (kind_of p) (λ n. Before n (number_of p)) ps
      all e =
          rw w.stands
          (every-join (kind_of p) (λ n. Before n (number_of p)) w.before (w.one ∷ w.behind)
          (every-weak (kind_of p) w.before (λ n b. law.carries n (number_of w.one) (number_of p) b e) w.over-before)
          (λ q. law.takes (number_of w.one) (number_of p) e, every-weak (kind_of p) w.behind (λ n b. law.passes n (number_of w.one) (number_of p) b e) w.over-behind))

      by : (t : Bool) → o (number_of w.one) (number_of p) ≡ t → Standing (kind_of p) (ps ++ (p ∷ [])) (prevailing o any_partition k p)
      by true e = met-taken ps k p (all e) (count ∙ e)
      by false e =
          prevails (record {
            before = w.before;
            one = w.one;
            behind = w.behind ++ (p ∷ []);
            stands = rw w.stands (append_assoc w.before (w.one ∷ w.behind) (p ∷ []));
            of-kind = w.of-kind;
            keeps = rw (count, e) w.keeps;
            over-before = w.over-before;
            over-behind =
                every-join (kind_of p) (λ m. Behind m (number_of w.one)) w.behind (p ∷ []) w.over-behind
                (every_one (kind_of p) (λ m. Behind m (number_of w.one)) p (λ q. law.leaves (number_of w.one) (number_of p) e));
          })

  met-same : (ps : List Parsed) (k : Kept) (p : Parsed) → Standing (kind_of p) ps k → Standing (kind_of p) (ps ++ (p ∷ [])) (prevailing o any_partition k p)
  met-same ps k p (none_yet h e) = met-taken ps k p (every-weak (kind_of p) ps (λ n b. absurd b) e) (counts-is o k p ∙ rw h)
  met-same ps k p (prevails w) = met-kept ps k p w

  met : (kind : Kind) (ps : List Parsed) (k : Kept) (p : Parsed) → Standing kind ps k → Standing kind (ps ++ (p ∷ [])) (prevailing o any_partition k p)
  met kind ps k p h = by (same_kind (kind_of p) kind)
    where
      by : (kind_of p ≡ kind) ⊎ (kind_of p ≡ kind → ⊥) → Standing kind (ps ++ (p ∷ [])) (prevailing o any_partition k p)
      by (inl e) = rw (← e) (met-same ps k p (rw e h))
      by (inr n) = met-other kind ps k p n h

  -- all of a sequence, behind those that were met
  along : (kind : Kind) (ps qs : List Parsed) (k : Kept) → Standing kind ps k → Standing kind (ps ++ qs) (kept_of o any_partition k qs)
  unfolding kept_of
  along kind ps [] k h = rw (append-nil ps) h
  along kind ps (q ∷ qs) k h = rw (← append_assoc ps (q ∷ []) qs) (along kind (ps ++ (q ∷ [])) qs (prevailing o any_partition k q) (met kind ps k q h))

  starts : (kind : Kind) → Standing kind [] nothing
  unfolding Every
  starts primaries = none_yet refl tt
  starts partitions = none_yet refl tt
  starts logicals = none_yet refl tt

  one-prevails : (kind : Kind) (ps : List Parsed) → has_of kind (kept_of o any_partition nothing ps) ≡ true → Prevails Before Behind kind ps (kept_of o any_partition nothing ps)
  one-prevails kind ps e = by (along kind [] ps nothing (starts kind))
    where
      by : Standing kind ps (kept_of o any_partition nothing ps) → Prevails Before Behind kind ps (kept_of o any_partition nothing ps)
      by (none_yet h n) = not-both (sym h ∙ e)
      by (prevails w) = w

  none_kept : (kind : Kind) (ps : List Parsed) → has_of kind (kept_of o any_partition nothing ps) ≡ false → Every kind (λ n. ⊥) ps
  none_kept kind ps e = by (along kind [] ps nothing (starts kind))
    where
      by : Standing kind ps (kept_of o any_partition nothing ps) → Every kind (λ n. ⊥) ps
      by (none_yet h n) = n
      by (prevails w) = not-both (sym e ∙ (rw (← w.of-kind) (keeps-has w.one (kept_of o any_partition nothing ps) w.keeps)))

-- ---- what prevails

-- by the highest number: it is one of the sequence, no number of its kind before it is higher, and none behind it as high
pub highest-prevails : (kind : Kind) (ps : List Parsed) → has_of kind (kept_of highest any_partition nothing ps) ≡ true → Prevails (λ n m. n ≤ m) (λ n m. n < m) kind ps (kept_of highest any_partition nothing ps)
highest-prevails kind ps e = one-prevails highest (λ n m. n ≤ m) (λ n m. n < m) highest-lawful kind ps e

-- by the default: it is one of the sequence, and none of its kind stands behind it
pub latest-prevails : (kind : Kind) (ps : List Parsed) → has_of kind (kept_of latest any_partition nothing ps) ≡ true → Prevails (λ n m. Unit {0}) (λ n m. ⊥) kind ps (kept_of latest any_partition nothing ps)
latest-prevails kind ps e = one-prevails latest (λ n m. Unit {0}) (λ n m. ⊥) latest-lawful kind ps e

-- where none was kept, none of the kind is there
pub highest-none : (kind : Kind) (ps : List Parsed) → has_of kind (kept_of highest any_partition nothing ps) ≡ false → Every kind (λ n. ⊥) ps
highest-none kind ps e = none_kept highest (λ n m. n ≤ m) (λ n m. n < m) highest-lawful kind ps e

-- ---- where each kind's numbers never fall along the sequence, both orders keep the same

-- the numbers that are left never fall below those that were kept
abbrev Ready : Kept → List Parsed → Type 0
Ready k ps = (kind : Kind) → has_of kind k ≡ true → Every kind (λ n. held_of kind k ≤ n) ps

-- so the next one counts by both orders
rising-counts : (k : Kept) (p : Parsed) (ps : List Parsed) → Ready k (p ∷ ps) → (counts highest any_partition k p ≡ true) × (counts latest any_partition k p ≡ true)
unfolding Every
rising-counts k p ps h = by (has_of (kind_of p) k) refl
  where
    by : (t : Bool) → has_of (kind_of p) k ≡ t → (counts highest any_partition k p ≡ true) × (counts latest any_partition k p ≡ true)
    by true e =
        let l = le-leb (held_of (kind_of p) k) (number_of p) ((h (kind_of p) e).0 refl) in
        (counts-is highest k p ∙ rw (e, l), counts-is latest k p ∙ rw e)
    by false e = (counts-is highest k p ∙ rw e, counts-is latest k p ∙ rw e)

rising-ready : (k : Kept) (p : Parsed) (ps : List Parsed) → Every (kind_of p) (λ n. number_of p ≤ n) ps → Ready k (p ∷ ps) → Ready (replacing k p) ps
unfolding Every
rising-ready k p ps r h kind e = by (same_kind (kind_of p) kind)
  where
    by : (kind_of p ≡ kind) ⊎ (kind_of p ≡ kind → ⊥) → Every kind (λ n. held_of kind (replacing k p) ≤ n) ps
    by (inl q) = rw (← q, keeps-held p (replacing k p) (replacing-keeps k p)) r
    by (inr n) =
        let s = replacing-others kind k p n in
        rw (same-held kind (replacing k p) k s) (h kind (sym (same-has kind (replacing k p) k s) ∙ e)).1

rising-kept : (k : Kept) (ps : List Parsed) → Rising ps → Ready k ps → kept_of highest any_partition k ps ≡ kept_of latest any_partition k ps
unfolding kept_of Rising
rising-kept k [] r h = refl
rising-kept k (p ∷ ps) r h =
    let c = rising-counts k p ps h in
    rw (c.0, c.1) (rising-kept (replacing k p) ps r.1 (rising-ready k p ps r.0 h))

nothing-ready : (ps : List Parsed) → Ready nothing ps
nothing-ready ps primaries e = not-both e
nothing-ready ps partitions e = not-both e
nothing-ready ps logicals e = not-both e

-- ---- which partition descriptors are wanted

counts-wanted : (o : Order) (wanted : ℕ → Bool) (k : Kept) (p : Parsed) → counts o wanted k p ≡ pick (is_wanted wanted p) (counts o any_partition k p) false
counts-wanted o wanted k (primary d) = refl
counts-wanted o wanted k (partition d) = refl
counts-wanted o wanted k (logical d) = refl

-- what is kept of a list is what is kept of it without them
pub kept-wanted : (o : Order) (wanted : ℕ → Bool) (k : Kept) (ps : List Parsed) → kept_of o wanted k ps ≡ kept_of o any_partition k (wanted_in wanted ps)
unfolding kept_of wanted_in
kept-wanted o wanted k [] = refl
kept-wanted o wanted k (p ∷ ps) = rw (counts-wanted o wanted k p) (by (is_wanted wanted p) (λ j. kept-wanted o wanted j ps))
  where
    by : (t : Bool) → ((j : Kept) → kept_of o wanted j ps ≡ kept_of o any_partition j (wanted_in wanted ps))
        → kept_of o wanted (pick (pick t (counts o any_partition k p) false) (replacing k p) k) ps ≡ kept_of o any_partition k (pick t (p ∷ wanted_in wanted ps) (wanted_in wanted ps))
    by true f = f (prevailing o any_partition k p)
    by false f = f k

every-wanted : (kind : Kind) (P : ℕ → Type 0) (wanted : ℕ → Bool) (ps : List Parsed) → Every kind P ps → Every kind P (wanted_in wanted ps)
unfolding Every wanted_in
every-wanted kind P wanted [] h = tt
every-wanted kind P wanted (p ∷ ps) h = pick-both (λ (l : List Parsed). Every kind P l) (is_wanted wanted p) (h.0, every-wanted kind P wanted ps h.1) (every-wanted kind P wanted ps h.1)

rising-wanted : (wanted : ℕ → Bool) (ps : List Parsed) → Rising ps → Rising (wanted_in wanted ps)
unfolding Rising wanted_in
rising-wanted wanted [] r = tt
rising-wanted wanted (p ∷ ps) r =
    pick-both Rising (is_wanted wanted p) (every-wanted (kind_of p) (λ n. number_of p ≤ n) wanted ps r.0, rising-wanted wanted ps r.1) (rising-wanted wanted ps r.1)

-- so of the descriptors that are wanted the one is kept that prevails among them
pub highest-wanted : (wanted : ℕ → Bool) (kind : Kind) (ps : List Parsed) → has_of kind (kept_of highest wanted nothing ps) ≡ true
    → Prevails (λ n m. n ≤ m) (λ n m. n < m) kind (wanted_in wanted ps) (kept_of highest wanted nothing ps)
highest-wanted wanted kind ps = rw (kept-wanted highest wanted nothing ps) (highest-prevails kind (wanted_in wanted ps))

pub latest-wanted : (wanted : ℕ → Bool) (kind : Kind) (ps : List Parsed) → has_of kind (kept_of latest wanted nothing ps) ≡ true
    → Prevails (λ n m. Unit {0}) (λ n m. ⊥) kind (wanted_in wanted ps) (kept_of latest wanted nothing ps)
latest-wanted wanted kind ps = rw (kept-wanted latest wanted nothing ps) (latest-prevails kind (wanted_in wanted ps))

-- and a partition descriptor that is kept is one that is wanted
Suits : (ℕ → Bool) → Kept → Type 0
Suits wanted k = k.has_partition ≡ true → wanted k.partition_number ≡ true

replacing-suits : (wanted : ℕ → Bool) (k : Kept) (p : Parsed) → is_wanted wanted p ≡ true → Suits wanted k → Suits wanted (replacing k p)
unfolding Suits
replacing-suits wanted k (primary d) w f = f
replacing-suits wanted k (partition d) w f = λ h. w
replacing-suits wanted k (logical d) w f = f

kept-suits : (o : Order) (wanted : ℕ → Bool) (k : Kept) (ps : List Parsed) → Suits wanted k → Suits wanted (kept_of o wanted k ps)
unfolding kept_of
kept-suits o wanted k [] f = f
kept-suits o wanted k (p ∷ ps) f = kept-suits o wanted (prevailing o wanted k p) ps (rw (counts-wanted o wanted k p) (by (is_wanted wanted p) refl (counts o any_partition k p)))
  where
    by : (t : Bool) → is_wanted wanted p ≡ t → (c : Bool) → Suits wanted (pick (pick t c false) (replacing k p) k)
    by true e true = replacing-suits wanted k p e f
    by true e false = f
    by false e c = f

pub kept-number : (o : Order) (wanted : ℕ → Bool) (ps : List Parsed) → (kept_of o wanted nothing ps).has_partition ≡ true → wanted (kept_of o wanted nothing ps).partition_number ≡ true
unfolding Suits
kept-number o wanted ps = kept-suits o wanted nothing ps (λ e. not-both e)

-- whatever was chosen, what is kept is what the default keeps
pub rising-order : (how : How) (wanted : ℕ → Bool) (ps : List Parsed) → Rising ps → kept_of (order_of how) wanted nothing ps ≡ kept_of latest wanted nothing ps
rising-order how wanted ps r = by how.highest
  where
    rises : Rising (wanted_in wanted ps)
    rises = rising-wanted wanted ps r

    by : (t : Bool) → kept_of (λ a b. pick t (highest a b) (latest a b)) wanted nothing ps ≡ kept_of latest wanted nothing ps
    by true = kept-wanted highest wanted nothing ps ∙ rising-kept nothing (wanted_in wanted ps) rises (nothing-ready (wanted_in wanted ps)) ∙ sym (kept-wanted latest wanted nothing ps)
    by false = refl
