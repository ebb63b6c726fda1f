-- The way to a node, from directory to directory, and that its path is looked up along it. Assumes nothing.
use mathlib.Core.Path.{◌≡◌, refl, sym, ap, ◌∙◌}
use mathlib.Core.Bool.{Bool, true, false}
use mathlib.Core.List.{List, [], ◌∷◌, ◌++◌, map, append_assoc, append-nil}
use Prim.Native.Nat.{ℕ, suc, ◌+◌, ◌-◌, ◌≤◌, ◌<◌}
use native.Mathlib.Omega.{arith}
use lib.ListN.{length, take, drop, drop_of_length-le, length-append}
use lib.Seq.{drop_at}
use lib.Dec.{eqb}
use Rattle.disc.specs.Choice.{pick}
use Rattle.disc.specs.Ask.{Disc, outcome}
use Rattle.disc.specs.Ask.Outcome.{answered}
use Rattle.disc.specs.Images.{disc}
use Rattle.disc.specs.Places.{is_checked}
use Rattle.disc.specs.Ran.{Ran, ran}
use Rattle.disc.specs.declared.places.Mount.{Mount}
use Rattle.disc.proofs.PickLaws.{not-both}
use Rattle.disc.proofs.RanLaws.{ran-done}
use Rattle.records.specs.declared.allocations.LongAd.{LongAd}
use Rattle.identifiers.specs.Identifiers.{is_directory}
use Rattle.names.specs.Names.{as_is}
use Rattle.files.proofs.ContentLaws.{content-bytes}
use Rattle.listings.specs.Entries.{Entry, is_skipped, name_in}
use Rattle.listings.specs.Listings.{answers_to}
use Rattle.listings.specs.Paths.{Component, front, behind, components_from, components, slashes}
use Rattle.listings.proofs.PathLaws.{behind-slashes, first-component}
use Rattle.listings.specs.declared.matchings.Matching.TheVariants.{AsWritten}
use Rattle.listings.proofs.MatchingLaws.{answers-written}
use Rattle.listings.proofs.Promises.{answers-folded}
use Rattle.listings.proofs.RecordLaws.{each_read, each_at, named-answers}
use Rattle.directories.specs.Directories.{directory_bytes}
use Rattle.directories.specs.Lookups.{seeking, seek_path, lookup_of}
use Rattle.directories.specs.Lookups.Sought.{reached}
use Rattle.directories.proofs.LookupLaws.{look_is}
use Rattle.directories.proofs.PathLaws.{first-takes, seek-takes}
use Rattle.shows.specs.Shows.{Node}
use Rattle.shows.specs.Nodes.{entered, way_from, way_to, joined, name_at, path_of, Sayable, NoneNamed, OnceNamed, Plain, listed, EntriesOf}
use Rattle.shows.proofs.TreeLaws.{Parsed, parsed-entries, directory-fits, Deeper, Built, built-deeper}
use Rattle.shows.proofs.TreeLaws.Built.{no-entry, skip-entry, file-entry, directory-entry}
use Rattle.disc.specs.Parts.{Bytes}
use Rattle.listings.specs.Matchings.{NoneAnswers}
use Rattle.directories.specs.Leads.{Takes}

-- ---- the way

-- an entry is listed in the directory at icb
pub record EntryListed (d : Disc) (m : Mount) (work : ℕ) (icb : LongAd) (e : Entry) : Type 0 where
  pub before : List Entry
  pub rest : List Entry
  pub from : Parsed d m work icb (before ++ e ∷ rest)
  pub listed : is_skipped e.identifier ≡ false

-- each node stands in the directory before it, from the one at icb on
unfoldable pub Way : Disc → Mount → ℕ → LongAd → Bool → List Node → Type 0
Way d m work icb directory [] = Unit {0}
Way d m work icb directory (n ∷ way) = (directory ≡ true) × EntryListed d m work icb n.entry × Way d m work n.entry.identifier.icb (is_directory n.entry.identifier) way

-- the way to a node from the directory whose entries are one level deeper than `level`
abbrev entered_at : ℕ → List Node → Node → List Node
entered_at level way n = take (n.level - suc level) way ++ n ∷ []

module _ (d : Disc) (m : Mount) (work : ℕ) where
  -- so it is for each of them in turn
  unfoldable Ways : ℕ → LongAd → List Node → List Node → Type 0
  Ways level icb way [] = Unit {0}
  Ways level icb way (n ∷ ns) = Way d m work icb true (entered_at level way n) × Ways level icb (entered_at level way n) ns

  ways-joined : (level : ℕ) (icb : LongAd) (way a b : List Node) → Ways level icb way a → ((w : List Node) → Ways level icb w b) → Ways level icb way (a ++ b)
  unfolding Ways
  ways-joined level icb way [] b x y = y way
  ways-joined level icb way (n ∷ a) b x y = (x.0, ways-joined level icb (entered_at level way n) a b x.1 y)

  -- under a directory
  ways-under : (level : ℕ) (icb : LongAd) (x : Node) → EntryListed d m work icb x.entry → is_directory x.entry.identifier ≡ true → (way ns : List Node) → Deeper (suc level) ns
      → Ways (suc level) x.entry.identifier.icb way ns → Ways level icb (x ∷ way) ns
  unfolding Ways Way Deeper
  ways-under level icb x s t way [] p w = tt
  ways-under level icb x s t way (n ∷ ns) p w =
      let k : n.level - suc level ≡ suc (n.level - suc (suc level)) = omega (arith, p.0) in
      let e : entered_at level (x ∷ way) n ≡ x ∷ entered_at (suc level) way n = rw k in
      rw e ((refl, s, rw t w.0), ways-under level icb x s t (entered_at (suc level) way n) ns p.1 w.1)

  built-ways : {level : ℕ} {es : List Entry} {ns : List Node} → Built d m work level es ns → (icb : LongAd) (before : List Entry) → Parsed d m work icb (before ++ es) → (way : List Node) → Ways level icb way ns
  unfolding Ways Way
  built-ways no-entry icb before p way = tt
  built-ways (skip-entry {e = e} {es} s b) icb before p way = built-ways b icb (before ++ e ∷ []) (rw (append_assoc before (e ∷ []) es) p) way
  built-ways (file-entry {level} {e} {es} s k b) icb before p way =
      let z : suc level - suc level ≡ 0 = omega arith in
      let n : Node = record { level = suc level; entry = e } in
      let w : entered_at level way n ≡ n ∷ [] = rw z in
      rw w ((refl, record { before = before; rest = es; from = p; listed = s }, tt), built-ways b icb (before ++ e ∷ []) (rw (append_assoc before (e ∷ []) es) p) (n ∷ []))
  built-ways (directory-entry {level} {e} {es} {inner = inner} {ns} s k q i b x) icb before p way =
      let z : suc level - suc level ≡ 0 = omega arith in
      let n : Node = record { level = suc level; entry = e } in
      let w : entered_at level way n ≡ n ∷ [] = rw z in
      let t : EntryListed d m work icb e = record { before = before; rest = es; from = p; listed = s } in
      rw (w, x) (
        (refl, t, tt),
        ways-joined level icb (n ∷ []) inner ns (ways-under level icb n t k [] inner (built-deeper i) (built-ways i e.identifier.icb [] q []))
            (λ v. built-ways b icb (before ++ e ∷ []) (rw (append_assoc before (e ∷ []) es) p) v),
      )

  ways-split : (icb : LongAd) (way before : List Node) (n : Node) (behind : List Node) → Ways 0 icb way (before ++ n ∷ behind) → Way d m work icb true (entered (way_from way before) n)
  unfolding Ways way_from
  ways-split icb way [] n behind w = w.0
  ways-split icb way (x ∷ before) n behind w = ways-split icb (entered way x) before n behind w.1

  pub built-way : (icb : LongAd) {es : List Entry} → Parsed d m work icb es → (before : List Node) (n : Node) (behind : List Node) → Built d m work 0 es (before ++ n ∷ behind) → Way d m work icb true (way_to before n)
  built-way icb p before n behind b = ways-split icb [] before n behind (built-ways b icb [] p [])

-- ---- names joined by slashes, and cut at them again

unslashed-cons : (b : ℕ) (s : List ℕ) → front (b ∷ s) ≡ b ∷ s → (eqb b 0x2f ≡ false) × (front s ≡ s)
unfolding front
unslashed-cons b s h = by (eqb b 0x2f) refl h
  where
    by : (t : Bool) → eqb b 0x2f ≡ t → pick t [] (b ∷ front s) ≡ b ∷ s → (eqb b 0x2f ≡ false) × (front s ≡ s)
    by true e k = absurd (let z : ◌≡◌ {A = ℕ} 0 1 = cc in omega arith)
    by false e k = (e, cc)

front-joined : (name more : List ℕ) → front name ≡ name → front (name ++ 0x2f ∷ more) ≡ name
unfolding front
front-joined [] more h = refl
front-joined (b ∷ name) more h =
    let u = unslashed-cons b name h in
    rw u.0 (ap (λ (l : List ℕ). b ∷ l) (front-joined name more u.1))

no_slash : (name more : List ℕ) → Sayable name → slashes (name ++ more) ≡ 0
unfolding slashes
no_slash [] more h = absurd (omega (arith, h.some))
no_slash (b ∷ name) more h = rw (unslashed-cons b name h.unslashed).0

unfoldable AllSayable : List (List ℕ) → Type 0
AllSayable [] = Unit {0}
AllSayable (name ∷ names) = Sayable name × AllSayable names

joined-start : (name : List ℕ) (names : List (List ℕ)) → Sayable name → slashes (joined (name ∷ names)) ≡ 0
unfolding joined
joined-start name [] h = rw (append-nil name) at (no_slash name [] h)
joined-start name (other ∷ names) h = no_slash name (0x2f ∷ joined (other ∷ names)) h

abbrev bytes_in : Component → List ℕ
bytes_in c = c.bytes

slash-one : (s : List ℕ) → slashes s ≡ 0 → slashes (0x2f ∷ s) ≡ 1
unfolding slashes
slash-one s h = rw h

-- the components of the path are the names
joined-cut : (at : ℕ) (names : List (List ℕ)) → AllSayable names → map bytes_in (components_from at (joined names)) ≡ names
unfolding joined AllSayable components_from front behind
joined-cut at [] h = refl
joined-cut at (name ∷ []) h =
    let c = first-component at name (joined-start name [] h.0) h.0.some in
    let l : length name ≤ length name = omega arith in
    let z : drop (length name) name ≡ [] = drop_of_length-le name l in
    rw (c, h.0.unslashed, z)
joined-cut at (name ∷ other ∷ names) h =
    let more = joined (other ∷ names) in
    let l : 0 < length (name ++ 0x2f ∷ more) = rw (length-append name (0x2f ∷ more)) (omega arith) in
    let c = first-component at (name ++ 0x2f ∷ more) (no_slash name (0x2f ∷ more) h.0) l in
    let f : front (name ++ 0x2f ∷ more) ≡ name = front-joined name more h.0.unslashed in
    let z : drop (length name) (name ++ 0x2f ∷ more) ≡ 0x2f ∷ more = drop_at name (0x2f ∷ more) (length name) refl in
    let s : slashes (0x2f ∷ more) ≡ 1 = slash-one more (joined-start other names h.1.0) in
    let b : components_from (at + length name + 1) more ≡ components_from (at + length name) (0x2f ∷ more) = rw s at (behind-slashes (at + length name) (0x2f ∷ more)) in
    ap (map bytes_in) c ∙ rw (f, z, ← b) (ap (λ (l : List (List ℕ)). name ∷ l) (joined-cut (at + length name + 1) (other ∷ names) h.1))

-- ---- a name that its directory has once is taken there

none-at : (name : List ℕ) (before : List Entry) (e : Entry) (rest : List Entry) → is_skipped e.identifier ≡ false → NoneNamed name (listed (before ++ e ∷ rest)) → name_in e ≡ name → ⊥
unfolding listed NoneNamed
none-at name [] e rest s h = (rw s at h).0
none-at name (x ∷ before) e rest s h = by (is_skipped x.identifier) (λ k. none-at name before e rest s k) h
  where
    by : (t : Bool) → (NoneNamed name (listed (before ++ e ∷ rest)) → name_in e ≡ name → ⊥) → NoneNamed name (pick t (listed (before ++ e ∷ rest)) (x ∷ listed (before ++ e ∷ rest))) → name_in e ≡ name → ⊥
    by true ih h = ih h
    by false ih h = ih h.1

once-first : (name : List ℕ) (before : List Entry) (e : Entry) (rest : List Entry) → is_skipped e.identifier ≡ false → name_in e ≡ name → OnceNamed name (listed (before ++ e ∷ rest)) → NoneAnswers as_is name before
unfolding listed OnceNamed NoneAnswers
once-first name [] e rest s k h = tt
once-first name (x ∷ before) e rest s k h = by (is_skipped x.identifier) refl (λ q. once-first name before e rest s k q) h
  where
    none : (t : Bool) → answers_to as_is name x ≡ t → (answers_to as_is name x ≡ true → ⊥) → answers_to as_is name x ≡ false
    none true e f = absurd (f e)
    none false e f = e

    by : (t : Bool) → is_skipped x.identifier ≡ t → (OnceNamed name (listed (before ++ e ∷ rest)) → NoneAnswers as_is name before) → OnceNamed name (pick t (listed (before ++ e ∷ rest)) (x ∷ listed (before ++ e ∷ rest))) → (answers_to as_is name x ≡ false) × NoneAnswers as_is name before
    by true z ih h = (none (answers_to as_is name x) refl (λ a. not-both (sym (answers-folded as_is name x a).0 ∙ z)), ih h)
    by false z ih h = (none (answers_to as_is name x) refl (λ a. none-at name before e rest s (h.0 (answers-written name x a)) k), ih h.1)

-- ---- where a way ends

abbrev end_of : LongAd → List Node → LongAd
end_of icb [] = icb
end_of icb (n ∷ way) = end_of n.entry.identifier.icb way

end_is : (icb : LongAd) (way : List Node) (n : Node) → end_of icb (way ++ n ∷ []) ≡ n.entry.identifier.icb
end_is icb [] n = refl
end_is icb (x ∷ way) n = end_is x.entry.identifier.icb way n

-- ---- the walk

module _ (image : List ℕ) (are : Bytes image) (m : Mount) (work : ℕ) where
  stands-taken : (icb : LongAd) (e : Entry) → EntryListed (disc image) m work icb e → ((es : List Entry) → EntriesOf (disc image) m icb es → OnceNamed (name_in e) es)
      → Takes (disc image) AsWritten m work icb (name_in e) e
  unfolding ran
  stands-taken icb e s once =
      let b = s.from.bytes in
      let r : (ran (disc image) (directory_bytes m work icb)).outcome ≡ answered b = directory-fits (disc image) m work icb s.from.read s.from.fits in
      let w = each_at s.before e s.rest (each_read (is_checked m) b (content-bytes image are m icb s.from.read) s.from.parsed) in
      first-takes (disc image) AsWritten m work icb (name_in e) refl r s.before e s.rest s.from.parsed
      (once-first (name_in e) s.before e s.rest s.listed refl (once (listed (s.before ++ e ∷ s.rest)) (parsed-entries s.from)))
      (named-answers w s.listed as_is (name_in e) refl)

  -- the components of the way's names are found one after the other
  way-walk : (cs : List Component) (icb : LongAd) (directory : Bool) (way : List Node) → map bytes_in cs ≡ map name_at way → Plain (disc image) m icb way → Way (disc image) m work icb directory way
      → (ran (disc image) (seeking AsWritten m work cs icb directory)).outcome ≡ answered (reached (end_of icb way))
  unfolding Plain Way seeking
  way-walk [] icb directory [] e p w = rw ran-done
  way-walk [] icb directory (n ∷ way) e p w = absurd (let z : ◌≡◌ {A = ℕ} 0 1 = cc in omega arith)
  way-walk (c ∷ cs) icb directory [] e p w = absurd (let z : ◌≡◌ {A = ℕ} 0 1 = cc in omega arith)
  way-walk (c ∷ cs) icb directory (n ∷ way) e p w =
      let x : c.bytes ≡ name_at n = cc in
      let y : map bytes_in cs ≡ map name_at way = cc in
      let t : Takes (disc image) AsWritten m work icb c.bytes n.entry = rw x (stands-taken icb n.entry w.1 p.1) in
      rw (w.0, seek-takes (disc image) AsWritten m work c cs icb t) (way-walk cs n.entry.identifier.icb (is_directory n.entry.identifier) way y p.2 w.2)

  sayable-all : (icb : LongAd) (way : List Node) → Plain (disc image) m icb way → AllSayable (map name_at way)
  unfolding Plain AllSayable
  sayable-all icb [] p = tt
  sayable-all icb (n ∷ way) p = (p.0, sayable-all n.entry.identifier.icb way p.2)

  -- so the path leads to the node
  pub way-found : (root : LongAd) (way : List Node) (n : Node) → Plain (disc image) m root (way ++ n ∷ []) → Way (disc image) m work root true (way ++ n ∷ [])
      → outcome (disc image) (lookup_of AsWritten m work root (path_of (way ++ n ∷ []))) ≡ answered n.entry.identifier.icb
  unfolding ran seek_path components
  way-found root way n p w =
      let cs = components_from 0 (path_of (way ++ n ∷ [])) in
      let s = way-walk cs root true (way ++ n ∷ []) (joined-cut 0 (map name_at (way ++ n ∷ [])) (sayable-all root (way ++ n ∷ []) p)) p w in
      ap (λ (r : Ran LongAd). r.outcome) (look_is (disc image) AsWritten m work root (path_of (way ++ n ∷ []))) ∙ rw (s, end_is root way n)
