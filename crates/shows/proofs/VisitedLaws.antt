-- Parts of the tree visited one behind another: places, and figures. Assumes nothing.
use mathlib.Core.Path.{◌≡◌, refl, sym, ap, ◌∙◌}
use mathlib.Core.Bool.{Bool, true, false}
use mathlib.Core.List.{List, [], ◌∷◌, ◌++◌, append-nil, append_assoc}
use mathlib.Core.Logic.{⊎_elim}
use Prim.Native.Nat.{ℕ, ◌+◌, ◌-◌, ◌≤◌, ◌<◌}
use native.Mathlib.Nat.{zero-add}
use native.Mathlib.Omega.{arith}
use lib.ListN.{length, length-append}
use lib.Dec.{leb}
use borrow.Author.Tests.{le-leb, lt-leb}
use Rattle.disc.specs.Choice.{pick}
use Rattle.disc.specs.Refusals.{number}
use Rattle.disc.specs.Counts.{reported}
use Rattle.disc.specs.Ask.{Disc, Ask, Outcome, then}
use Rattle.disc.specs.Ask.Ask.{done}
use Rattle.disc.specs.Ask.Outcome.{answered, refused}
use Rattle.disc.specs.Ran.{Ran, ran, after, onward, followed, told}
use Rattle.disc.specs.declared.refusals.Refusal.{Refusal}
use Rattle.disc.specs.declared.refusals.Refusal.TheVariants.{OverBudget}
use Rattle.disc.proofs.ImageLaws.{split}
use Rattle.disc.proofs.AskLaws.{then-then, then-done}
use Rattle.disc.proofs.RanLaws.{ran-done, ran_then, never}
use Rattle.disc.proofs.RefusalLaws.{refusal-numbered}
use Rattle.records.specs.declared.allocations.LongAd.{LongAd}
use Rattle.identifiers.specs.Identifiers.{is_directory}
use Rattle.listings.specs.Entries.{Entry, is_skipped}
use Rattle.shows.specs.Shows.{Node, under, nodes_of, node_record, node_records}
use Rattle.shows.specs.Inner.Placings.{each_placed}
use Rattle.shows.specs.Inner.Turns.{stopped_at, Held, behind_by, capped_by, Visited, turn_of}
use Rattle.shows.specs.declared.levels.ShowPlace.{ShowPlace}

-- ---- trees behind each other

-- the nodes of a directory: those of the first entry's turn, and those of the others
nodes-turn : (inside : LongAd → Ask (List Node)) (level : ℕ) (e : Entry) (es : List Entry)
    → nodes_of inside level (e ∷ es) ≡ then (turn_of inside level e) (λ a. then (nodes_of inside level es) (λ b. done (a ++ b)))
unfolding nodes_of turn_of then
nodes-turn inside level e es = by (is_skipped e.identifier)
  where
    by : (t : Bool)
        → pick t (nodes_of inside level es) (then (under inside e) (λ below. then (nodes_of inside level es) (λ others. done (record { level = level; entry = e } ∷ (below ++ others)))))
        ≡ then (pick t (done []) (then (under inside e) (λ below. done (record { level = level; entry = e } ∷ below)))) (λ a. then (nodes_of inside level es) (λ b. done (a ++ b)))
    by true = sym (then-done (nodes_of inside level es))
    by false = sym (then-then (under inside e) (λ below. done (record { level = level; entry = e } ∷ below)) (λ a. then (nodes_of inside level es) (λ b. done (a ++ b))))

-- two runs, and the lists that they answer joined
abbrev pub joined : Ran (List Node) → Ran (List Node) → Ran (List Node)
joined r k = followed r (λ a. followed k (λ b. told (answered (a ++ b))))

module _ (d : Disc) where
  ran-joined : (m k : Ask (List Node)) → ran d (then m (λ a. then k (λ b. done (a ++ b)))) ≡ joined (ran d m) (ran d k)
  ran-joined m k = ran_then d m (λ a. then k (λ b. done (a ++ b))) ∙ by (ran d m).outcome (ran d m).count
    where
      inner : (a : List Node) → ran d (then k (λ b. done (a ++ b))) ≡ followed (ran d k) (λ b. told (answered (a ++ b)))
      inner a = ran_then d k (λ b. done (a ++ b)) ∙ on (ran d k).outcome (ran d k).count
        where
          on : (o : Outcome (List Node)) (n : ℕ) → onward o n (λ b. ran d (done (a ++ b))) ≡ onward o n (λ b. told (answered (a ++ b)))
          on (answered b) n = rw (ran-done d (a ++ b))
          on (refused why) n = refl

      by : (o : Outcome (List Node)) (n : ℕ) → onward o n (λ a. ran d (then k (λ b. done (a ++ b)))) ≡ onward o n (λ a. followed (ran d k) (λ b. told (answered (a ++ b))))
      by (answered a) n = rw (inner a)
      by (refused why) n = refl

  pub turn-joined : (inside : LongAd → Ask (List Node)) (level : ℕ) (e : Entry) (es : List Entry)
      → ran d (nodes_of inside level (e ∷ es)) ≡ joined (ran d (turn_of inside level e)) (ran d (nodes_of inside level es))
  turn-joined inside level e es = ap (ran d) (nodes-turn inside level e es) ∙ ran-joined (turn_of inside level e) (nodes_of inside level es)

  -- ---- the turn of an entry that is skipped, that is no directory, and that is one

  module _ (inside : LongAd → Ask (List Node)) (level : ℕ) (e : Entry) where
    pub turn-skipped : is_skipped e.identifier ≡ true → ran d (turn_of inside level e) ≡ told (answered [])
    unfolding turn_of
    turn-skipped h = rw h (ran-done d [])

    module _ (h : is_skipped e.identifier ≡ false) where
      pub turn-file : is_directory e.identifier ≡ false → ran d (turn_of inside level e) ≡ told (answered (record { level = level; entry = e } ∷ []))
      unfolding turn_of then
      turn-file k = rw (h, k) (ran-done d (record { level = level; entry = e } ∷ []))

      pub turn-directory : is_directory e.identifier ≡ true → ran d (turn_of inside level e) ≡ joined (told (answered (record { level = level; entry = e } ∷ []))) (ran d (inside e.identifier.icb))
      unfolding turn_of
      turn-directory k = rw (h, k) (ran_then d (inside e.identifier.icb) (λ below. done (record { level = level; entry = e } ∷ below)) ∙ by (ran d (inside e.identifier.icb)).outcome (ran d (inside e.identifier.icb)).count)
        where
          n : Node
          n = record { level = level; entry = e }

          by : (o : Outcome (List Node)) (c : ℕ) → onward o c (λ below. ran d (done (n ∷ below)))
              ≡ record { outcome = (onward o c (λ below. told (answered (n ∷ below)))).outcome; count = 0 + (onward o c (λ below. told (answered (n ∷ below)))).count }
          by (answered below) c = rw (ran-done d (n ∷ below), zero-add)
          by (refused why) c = rw zero-add

-- ---- records behind each other

pub records-joined : (a b : List Node) → node_records (a ++ b) ≡ node_records a ++ node_records b
unfolding node_records
records-joined [] b = refl
records-joined (n ∷ a) b = rw (records-joined a b, append_assoc)

pub records-one : (n : Node) → node_records (n ∷ []) ≡ node_record n
unfolding node_records
records-one n = append-nil (node_record n)

-- ---- tallied behind each other

placed-joined : (of : Node → List ℕ → List ℕ) (a b : List Node) (s : List ℕ) → each_placed of (a ++ b) s ≡ each_placed of b (each_placed of a s)
unfolding each_placed
placed-joined of [] b s = refl
placed-joined of (n ∷ a) b s = placed-joined of a b (of n s)

-- ---- places

-- equal by their parts
same_place : {a a' c c' s s' m m' : ℕ} → a ≡ a' → c ≡ c' → s ≡ s' → m ≡ m'
    → ◌≡◌ {A = ShowPlace} (record { answer = a; count = c; size = s; most = m }) (record { answer = a'; count = c'; size = s'; most = m' })
same_place e f g h = rw (e, f, g, h)

-- ---- the sectors that may be asked for

-- they suffice for n more, or they don't
pub capped-within : (p : ShowPlace) (n : ℕ) (q : ShowPlace) → reported (p.count + n) ≤ p.most → capped_by p n q ≡ q
capped-within p n q h = rw (le-leb (reported (p.count + n)) p.most h)

pub capped-over : (p : ShowPlace) (n : ℕ) (q : ShowPlace) → p.most < reported (p.count + n) → capped_by p n q ≡ stopped_at (number OverBudget) p.most
capped-over p n q h = rw (lt-leb (reported (p.count + n)) p.most h)

-- none is asked for
capped-none : {most : ℕ} {p : ShowPlace} → Held most p → (q : ShowPlace) → capped_by p 0 q ≡ q
capped-none {most} {p} h q = capped-within p 0 q (omega (arith, h.counted, h.lends))

-- a place that isn't refused asked for no more than it may
capped-held : (p : ShowPlace) (n : ℕ) {q : ShowPlace} (q' : ShowPlace) → q ≡ capped_by p n q' → q.answer ≡ 0 → reported (p.count + n) ≤ p.most
capped-held p n {q} q' e z = ⊎_elim
    (λ (h : reported (p.count + n) ≤ p.most). h)
    (λ (h : p.most < reported (p.count + n)). absurd (refusal-numbered OverBudget (sym (ap (λ (x : ShowPlace). x.answer) (e ∙ capped-over p n q' h)) ∙ z)))
    (split (reported (p.count + n)) p.most)

-- ---- the bytes that were counted before

-- those of two parts
sizes-joined : (p a b j k : ℕ) → j ≤ a → k ≤ b → reported (reported (p + (a - j)) + (b - k)) ≡ reported (p + (a + b - (j + k)))
sizes-joined p a b j k h g =
    let e : a + b - (j + k) ≡ (a - j) + (b - k) = omega arith in
    rw e (added (a - j) (b - k))
  where
    added : (x y : ℕ) → reported (reported (p + x) + y) ≡ reported (p + (x + y))
    added x y = omega arith

-- and of a part whose bytes were counted when it began
sizes-known : (p k n : ℕ) → k ≤ n → reported (reported (p + k) + (n - k)) ≡ reported (p + (n - 0))
sizes-known p k n h =
    let e : n - 0 ≡ k + (n - k) = omega arith in
    rw e (added (n - k))
  where
    added : (x : ℕ) → reported (reported (p + k) + x) ≡ reported (p + (k + x))
    added x = omega arith

-- ---- parts that are visited

-- nothing visited
pub visited-none : {of : Node → List ℕ → List ℕ} {most : ℕ} {p : ShowPlace} → Held most p → {known : ℕ} → known ≡ 0 → {r : Ran (List Node)} → r ≡ told (answered []) → (l : List ℕ) → Visited of known r p l p l
unfolding node_records each_placed
visited-none {p = p} h k e l = rw (e, k) (record {
  says = same_place h.going (omega (arith, h.counted, h.bounded)) (omega (arith, h.sized)) refl ∙ sym (capped-none h _);
  knew = λ ns k w. omega arith;
  tallied = λ ns k w. let z : ns ≡ [] = cc in rw z;
})

-- one node visited, of whose record all but one byte was counted before
pub visited-one : {of : Node → List ℕ → List ℕ} {most : ℕ} {p : ShowPlace} → Held most p → {n : Node} {r : Ran (List Node)} → r ≡ told (answered (n ∷ [])) → {known : ℕ} → length (node_record n) ≡ 1 + known
    → {z : ℕ} → z ≡ reported (p.size + 1) → {l l' : List ℕ} → l' ≡ of n l → Visited of known r p l (record { answer = 0; count = p.count; size = z; most = p.most }) l'
unfolding each_placed
visited-one {of} {most} {p} h {n} e {known} k q g = rw e (record {
  says = same_place refl (omega (arith, h.counted, h.bounded)) (q ∙ more (length (node_records (n ∷ []))) (ap length (records-one n) ∙ k)) refl ∙ sym (capped-none h _);
  knew = λ ns i w.
      let z : ns ≡ n ∷ [] = cc in
      rw z (omega (arith, ap length (records-one n)));
  tallied = λ ns i w. let z : ns ≡ n ∷ [] = cc in rw z g;
})
  where
    more : (x : ℕ) → x ≡ 1 + known → reported (p.size + 1) ≡ reported (p.size + (x - known))
    more x e = let y : x - known ≡ 1 = omega arith in rw y

-- refused
pub visited-refused : {of : Node → List ℕ → List ℕ} {p : ShowPlace} (why : Refusal) (n : ℕ) {known : ℕ} {r : Ran (List Node)} → r ≡ record { outcome = refused why; count = n } → {q : ShowPlace}
    → q ≡ capped_by p n (stopped_at (number why) (reported (p.count + n))) → {l l' : List ℕ} → Visited of known r p l q l'
visited-refused why n e f = rw e (record { says = f; knew = λ ns k. never k; tallied = λ ns k. never k })

-- it wants more sectors than it may ask for
pub visited-over : {of : Node → List ℕ → List ℕ} {known : ℕ} {r : Ran (List Node)} {p : ShowPlace} → p.most < reported (p.count + r.count) → {q : ShowPlace} → q ≡ stopped_at (number OverBudget) p.most → {l l' : List ℕ}
    → Visited of known r p l q l'
visited-over {known = known} {r} {p} h e = record {
  says = e ∙ sym (capped-over p r.count (behind_by known p r.outcome r.count) h);
  knew = λ ns k w. absurd (omega (arith, w));
  tallied = λ ns k w. absurd (omega (arith, w));
}

-- ---- a place that isn't refused

-- what was visited to come to it
pub record Answers (known : ℕ) (r : Ran (List Node)) (p q : ShowPlace) : Type 0 where
  pub ns : List Node
  pub are : r.outcome ≡ answered ns
  pub within : reported (p.count + r.count) ≤ p.most
  pub place : q ≡ record { answer = 0; count = reported (p.count + r.count); size = reported (p.size + (length (node_records ns) - known)); most = p.most }

pub visited-answers : {of : Node → List ℕ → List ℕ} {known : ℕ} {r : Ran (List Node)} {p : ShowPlace} {l : List ℕ} {q : ShowPlace} {l' : List ℕ} → Visited of known r p l q l' → q.answer ≡ 0 → Answers known r p q
visited-answers {known = known} {r} {p} {q = q} s z =
    let w = capped-held p r.count (behind_by known p r.outcome r.count) s.says z in
    by w r.outcome refl (s.says ∙ capped-within p r.count (behind_by known p r.outcome r.count) w)
  where
    by : reported (p.count + r.count) ≤ p.most → (o : Outcome (List Node)) → r.outcome ≡ o → q ≡ behind_by known p o r.count → Answers known r p q
    by w (answered ns) f e = record { ns = ns; are = f; within = w; place = e }
    by w (refused why) f e = absurd (refusal-numbered why (sym (ap (λ (x : ShowPlace). x.answer) e) ∙ z))

pub visited-held : {of : Node → List ℕ → List ℕ} {known : ℕ} {r : Ran (List Node)} {p : ShowPlace} {l : List ℕ} {q : ShowPlace} {l' : List ℕ} → p.most ≤ 0xffff_ffff_ffff_ffff → Visited of known r p l q l' → q.answer ≡ 0 → Held p.most q
visited-held b s z = let a = visited-answers s z in rw a.place (record { going = refl; lends = refl; counted = a.within; bounded = b; sized = omega arith })

-- a part visited behind n sectors that were read for it, and with so many of its bytes counted
pub visited-after : {of : Node → List ℕ → List ℕ} {r : Ran (List Node)} {p p₁ : ShowPlace} (n known : ℕ) → p₁ ≡ record { answer = 0; count = reported (p.count + n); size = reported (p.size + known); most = p.most } → {l : List ℕ} {q : ShowPlace} {l' : List ℕ}
    → Visited of known r p₁ l q l' → Visited of 0 (record { outcome = r.outcome; count = n + r.count }) p l q l'
visited-after {of} {r} {p} n known e {l} {q} {l'} s =
    record {
      says = t.says ∙ ap (λ c. pick (leb c p.most) (behind_by known behind r.outcome r.count) (stopped_at (number OverBudget) p.most)) sum ∙ capped;
      knew = λ ns h w. omega arith;
      tallied = λ ns h w. t.tallied ns h (omega (arith, sum));
    }
  where
    behind : ShowPlace
    behind = record { answer = 0; count = reported (p.count + n); size = reported (p.size + known); most = p.most }

    t : Visited of known r behind l q l'
    t = rw e at s

    sum : reported (reported (p.count + n) + r.count) ≡ reported (p.count + (n + r.count))
    sum = omega arith

    by : (o : Outcome (List Node)) → r.outcome ≡ o → reported (p.count + (n + r.count)) ≤ p.most → behind_by known behind o r.count ≡ behind_by 0 p o (n + r.count)
    by (answered ns) f w = same_place refl sum (sizes-known p.size known (length (node_records ns)) (t.knew ns f (omega (arith, sum)))) refl
    by (refused why) f w = same_place refl sum refl refl

    capped : capped_by p (n + r.count) (behind_by known behind r.outcome r.count) ≡ capped_by p (n + r.count) (behind_by 0 p r.outcome (n + r.count))
    capped = ⊎_elim
        (λ (w : reported (p.count + (n + r.count)) ≤ p.most). ap (capped_by p (n + r.count)) (by r.outcome refl w))
        (λ (w : p.most < reported (p.count + (n + r.count))). capped-over p (n + r.count) _ w ∙ sym (capped-over p (n + r.count) _ w))
        (split (reported (p.count + (n + r.count))) p.most)

-- ---- one part behind another

module _ {of : Node → List ℕ → List ℕ} {known : ℕ} {r : Ran (List Node)} {p : ShowPlace} {l : List ℕ} {q : ShowPlace} {l₁ : List ℕ} (s : Visited of known r p l q l₁) where
  -- the first is refused, or wants too many sectors
  pub joined-stops : (k : Ran (List Node)) → (q.answer ≡ 0 → ⊥) → {both : ℕ} → Visited of both (joined r k) p l q l₁
  joined-stops k n {both} = ⊎_elim
      (λ (w : reported (p.count + r.count) ≤ p.most). by w r.outcome (s.says ∙ capped-within p r.count (behind_by known p r.outcome r.count) w))
      (λ (w : p.most < reported (p.count + r.count)). visited-over (omega (arith, more r.outcome k.outcome)) (s.says ∙ capped-over p r.count (behind_by known p r.outcome r.count) w))
      (split (reported (p.count + r.count)) p.most)
    where
      more : (o o' : Outcome (List Node)) → r.count ≤ (onward o r.count (λ a. onward o' k.count (λ b. told (answered (a ++ b))))).count
      more (answered a) (answered b) = omega arith
      more (answered a) (refused why) = omega arith
      more (refused why) o' = omega arith

      by : reported (p.count + r.count) ≤ p.most → (o : Outcome (List Node)) → q ≡ behind_by known p o r.count → Visited of both (onward o r.count (λ a. followed k (λ b. told (answered (a ++ b))))) p l q l₁
      by w (answered a) e = absurd (n (ap (λ (x : ShowPlace). x.answer) e))
      by w (refused why) e = visited-refused why r.count refl (e ∙ sym (capped-within p r.count (stopped_at (number why) (reported (p.count + r.count))) w))

  module _ {more : ℕ} {k : Ran (List Node)} {q' : ShowPlace} {l₂ : List ℕ} (t : Visited of more k q l₁ q' l₂) where
    -- the first is answered, and its place is the second's start
    module _ (a : List Node) (f : r.outcome ≡ answered a) (within : reported (p.count + r.count) ≤ p.most)
        (lends : q.most ≡ p.most) (counts : q.count ≡ reported (p.count + r.count)) (sizes : q.size ≡ reported (p.size + (length (node_records a) - known))) where
      second : (n : ℕ) → n ≡ r.count + k.count → q' ≡ capped_by p n (behind_by more q k.outcome k.count)
      second n e =
          let c : reported (q.count + k.count) ≡ reported (p.count + n) = omega (arith, counts) in
          t.says ∙ rw (c, lends)

      module _ {b : List Node} (h : k.outcome ≡ answered b) where
        abbrev n : ℕ
        n = r.count + (k.count + 0)

        long : length (node_records (a ++ b)) ≡ length (node_records a) + length (node_records b)
        long = rw (records-joined a b, length-append)

        enough : reported (p.count + n) ≤ p.most → reported (q.count + k.count) ≤ q.most
        enough i = omega (arith, counts, lends)

        first-knew : known ≤ length (node_records a)
        first-knew = s.knew a f within

        second-knew : reported (p.count + n) ≤ p.most → more ≤ length (node_records b)
        second-knew i = t.knew b h (enough i)

        behind-both : reported (p.count + n) ≤ p.most → behind_by more q k.outcome k.count ≡ behind_by (known + more) p (answered (a ++ b)) n
        behind-both i =
            let z : reported (reported (p.size + (length (node_records a) - known)) + (length (node_records b) - more)) ≡ reported (p.size + (length (node_records (a ++ b)) - (known + more))) =
            rw long (sizes-joined p.size (length (node_records a)) (length (node_records b)) known more first-knew (second-knew i)) in
            ap (λ o. behind_by more q o k.count) h ∙ same_place refl (omega (arith, counts)) (rw sizes z) lends

        both_say : q' ≡ capped_by p n (behind_by (known + more) p (answered (a ++ b)) n)
        both_say =
            let c : n ≡ r.count + k.count = omega arith in
            second n c ∙ ⊎_elim
            (λ (i : reported (p.count + n) ≤ p.most). ap (capped_by p n) (behind-both i))
            (λ (i : p.most < reported (p.count + n)). capped-over p n _ i ∙ sym (capped-over p n _ i))
            (split (reported (p.count + n)) p.most)

        both : Visited of (known + more) (record { outcome = answered (a ++ b); count = n }) p l q' l₂
        both = record {
          says = both_say;
          knew = λ ns g i.
              let z : ns ≡ a ++ b = cc in
              rw z (omega (arith, long, first-knew, second-knew i));
          tallied = λ ns g i.
              let z : ns ≡ a ++ b = cc in
              t.tallied b h (enough i) ∙ rw (z, s.tallied a f within) (sym (placed-joined of a b l));
        }

      goes_on : Visited of (known + more) (joined r k) p l q' l₂
      goes_on = rw f (by k.outcome refl)
        where
          by : (o : Outcome (List Node)) → k.outcome ≡ o → Visited of (known + more) (after r.count (onward o k.count (λ b. told (answered (a ++ b))))) p l q' l₂
          by (answered b) h = both h
          by (refused why) h =
              visited-refused why (r.count + k.count) refl
              (second (r.count + k.count) refl ∙ ap (capped_by p (r.count + k.count)) (ap (λ o. behind_by more q o k.count) h ∙ ap (stopped_at (number why)) (omega (arith, counts))))

    pub joined-goes : q.answer ≡ 0 → Visited of (known + more) (joined r k) p l q' l₂
    joined-goes g =
        let x = visited-answers s g in
        goes_on x.ns x.are x.within (ap (λ (y : ShowPlace). y.most) x.place) (ap (λ (y : ShowPlace). y.count) x.place) (ap (λ (y : ShowPlace). y.size) x.place)
