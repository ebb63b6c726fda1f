-- Following a chain leaves one result, by its number and count what the run of the chain's tree comes to; and so does counting what is left of it. Assumes nothing.
use Rattle.std.specs.Prelude.{Result, Ok, Err}
use mathlib.Core.Path.{◌≡◌, ap, sym, ◌∙◌}
use mathlib.Core.List.{List}
use Prim.Native.Nat.{ℕ, ◌+◌}
use native.Mathlib.Omega.{arith}
use Rattle.disc.specs.Ask.{Outcome}
use Rattle.disc.specs.Ask.Outcome.{refused}
use Rattle.disc.specs.Ran.{Ran}
use Rattle.disc.specs.Replies.{answer_of}
use Rattle.disc.specs.declared.places.Mount.{Mount}
use Rattle.areas.specs.declared.AllocExtent.{AllocExtent}
use Rattle.chains.specs.declared.cursors.ChainCursor.{ChainCursor}
use Rattle.chains.specs.declared.counts.Counted.{Counted}
use Rattle.chains.specs.Inner.Follows.{chain_at, Followed, chain_answer}
use Rattle.chains.specs.Inner.Walks.{hops_at, Counts}
use Rattle.disc.specs.declared.refusals.CountedRefusal.{CountedRefusal}

module _ (image : List ℕ) (m : Mount) (kind : ℕ) (c : ChainCursor) where
  pub follow-answers : (r : Result ℕ CountedRefusal) → Followed image m kind c r
      → chain_answer r ≡ record { number = answer_of (chain_at image m kind c).outcome; value = (chain_at image m kind c).count }
  follow-answers (Ok n) p = rw p.runs
  follow-answers (Err e) p = rw p.runs

  pub follow_one : (r r' : Result ℕ CountedRefusal) → Followed image m kind c r → Followed image m kind c r' → r ≡ r'
  follow_one (Ok n) (Ok n') p q = ap Ok (ap (λ (x : Ran (List AllocExtent)). x.count) (sym p.runs ∙ q.runs))
  follow_one (Ok n) (Err e') p q = let e = ap (λ (x : Ran (List AllocExtent)). x.outcome) (sym p.runs ∙ q.runs) in absurd (let z : ◌≡◌ {A = ℕ} 0 1 = cc in omega arith)
  follow_one (Err e') (Ok n') p q = let e = ap (λ (x : Ran (List AllocExtent)). x.outcome) (sym p.runs ∙ q.runs) in absurd (let z : ◌≡◌ {A = ℕ} 0 1 = cc in omega arith)
  follow_one (Err e') (Err e'') p q =
      let e : ◌≡◌ {A = Outcome (List AllocExtent)} (refused e'.why) (refused e''.why) = ap (λ (x : Ran (List AllocExtent)). x.outcome) (sym p.runs ∙ q.runs) in
      let k : e'.count ≡ e''.count = ap (λ (x : Ran (List AllocExtent)). x.count) (sym p.runs ∙ q.runs) in
      let w : e'.why ≡ e''.why = cc in
      rw (w, k)

  pub count-one : (r r' : Counted) → Counts image m kind c r → Counts image m kind c r' → r ≡ r'
  count-one r r' p q =
      let same : r.hops + hops_at image m kind c ≡ r'.hops + hops_at image m kind c = p.hops ∙ sym q.hops in
      let hops : r.hops ≡ r'.hops = omega arith in
      let extents : r.extents ≡ r'.extents = p.extents ∙ sym q.extents in
      let whole : ◌≡◌ {A = Counted} (record { extents = r.extents; hops = r.hops }) (record { extents = r'.extents; hops = r'.hops }) = rw (extents, hops) in
      whole
