-- The uncopied part of a file, by its place and its length. Assumes nothing.
use Rattle.std.specs.Prelude.{Result, Ok, Err}
use mathlib.Core.Path.{◌≡◌, refl, ap, sym, ◌∙◌}
use mathlib.Core.Bool.{Bool, true, false}
use mathlib.Core.List.{List}
use Prim.Native.Nat.{ℕ, ◌+◌, ◌-◌, ◌*◌, ◌≤◌, ◌<◌, ◌^◌, min}
use native.Mathlib.Omega.{arith}
use lib.ListN.{length, take, drop, length-drop}
use lib.Seq.{length-take-le}
use lib.Dec.{eqb}
use mir.Syntax.{w64}
use mir.Val.{Fits}
use borrow.Author.Tests.{ne_eqb, eqb-true, eqb-false}
use Rattle.disc.specs.Refusals.{number}
use Rattle.disc.specs.Ask.{Disc, Outcome}
use Rattle.disc.specs.Ask.Ask.{done}
use Rattle.disc.specs.Ask.Outcome.{answered, refused}
use Rattle.disc.specs.Ran.{ran, after, onward, followed}
use Rattle.disc.specs.Replies.{answer_of}
use Rattle.disc.specs.Images.{disc}
use Rattle.disc.specs.declared.places.Mount.{Mount}
use Rattle.disc.specs.declared.refusals.Refusal.{Refusal}
use Rattle.disc.specs.declared.replies.Reply.{Reply}
use Rattle.disc.proofs.RanLaws.{ran-done, ran_then}
use Rattle.disc.proofs.PartLaws.{part_none, part_slice}
use Rattle.records.specs.declared.allocations.LongAd.{LongAd}
use Rattle.areas.specs.declared.AllocExtent.{AllocExtent}
use Rattle.files.specs.declared.icbs.FilePlace.{FilePlace}
use Rattle.files.specs.Files.{Located, entry_at, entry_mount, is_embedded, chain_of, file_at, Part, no_part, part_of, file_part}
use Rattle.files.specs.Files.File.{chained}
use Rattle.files.specs.Inner.Places.{place_of}
use Rattle.files.specs.Inner.Wholes.{embedded_in, FoundPlace, Locates, EmbeddedFile, ChainedFile, NoFile, Resolves}
use Rattle.files.proofs.EntryLaws.{found-kind, found-goes, found-embedded, locates}
use Rattle.layouts.specs.Calls.{part_in, part_reply, PartReplied}
use Rattle.disc.specs.Parts.{PartAt}
use Rattle.layouts.specs.Inside.{file}
use Rattle.disc.specs.declared.refusals.CountedRefusal.{CountedRefusal}
use Rattle.files.specs.declared.resolves.Resolved.TheVariants.{Embedded, Chained}
use Rattle.files.specs.declared.resolves.Resolved.{Resolved}

embedded-size : (image : List ℕ) (p : FilePlace) → p.at + p.size ≤ length image → length (embedded_in image p) ≡ min p.size p.information
embedded-size image p h = length-take-le (min p.size p.information) (drop p.at image) (rw length-drop (omega arith))

-- ---- what the call comes to, by what `resolve` found

module _ (image : List ℕ) (m : Mount) (icb : LongAd) where
  refused-runs : {why : Refusal} {n : ℕ} → NoFile image m icb why n → (file image m icb) ≡ record { outcome = refused why; count = n }
  unfolding file_part
  refused-runs q = rw (ran_then, q.runs)

  chained-runs : {p : FilePlace} {n : ℕ} → ChainedFile image m icb p n → (file image m icb) ≡ record { outcome = answered no_part; count = n }
  unfolding file_part
  chained-runs {p} {n} q = rw (ran_then, q.runs, ran-done) (ap (λ k. record { outcome = answered no_part; count = k }) (omega arith))

  embedded-runs : {p : FilePlace} → EmbeddedFile image m icb p → (file image m icb) ≡ record { outcome = answered (record { at = p.at; bytes = embedded_in image p }); count = 1 }
  unfolding file_part
  embedded-runs {p} q =
      let w : p.at ≡ 2048 * q.entry.at + q.entry.entry.area_at = ap (λ (x : FilePlace). x.at) q.is in
      rw (ran_then, q.runs, ran-done, ← w, q.bytes)

-- ---- the returns of `part_at`

module _ (image : List ℕ) (m : Mount) (icb : LongAd) (r : Result Resolved CountedRefusal) (y : Resolves image m icb r) where
  module _ {w : CountedRefusal} (e : r ≡ Err w) where
    none : NoFile image m icb w.why w.count
    none = rw e at y

    pub part-refused : {a : ℕ} → a ≡ number w.why → {reply : Reply} → reply ≡ record { answer = a; count = w.count; length = 0 } → reply ≡ part_reply (file image m icb)
    part-refused f g = rw (refused-runs image m icb none, g, f) (ap (λ k. record { answer = number w.why; count = k; length = 0 }) (omega (arith, none.few)))

    pub place-refused : 0 ≡ (part_in (file image m icb).outcome).at
    place-refused = rw (refused-runs image m icb none)

  module _ {p : FilePlace} {n : ℕ} (e : r ≡ Ok (Chained p n)) where
    in-chain : ChainedFile image m icb p n
    in-chain = rw e at y

    pub part_out : record { answer = 0; count = n; length = 0 } ≡ part_reply (file image m icb)
    part_out = rw (chained-runs image m icb in-chain) (ap (λ k. record { answer = 0; count = k; length = 0 }) (omega (arith, in-chain.few)))

    pub place_out : 0 ≡ (part_in (file image m icb).outcome).at
    place_out = rw (chained-runs image m icb in-chain)

  module _ {p : FilePlace} (e : r ≡ Ok (Embedded p)) where
    in_entry : EmbeddedFile image m icb p
    in_entry = rw e at y

    pub part_in_lem : {n : ℕ} → n ≡ min p.size p.information → record { answer = 0; count = 1; length = n } ≡ part_reply (file image m icb)
    part_in_lem q = rw (embedded-runs image m icb in_entry) (ap (λ k. record { answer = 0; count = 1; length = k }) (q ∙ sym (embedded-size image p in_entry.inside)))

    pub place_in : p.at ≡ (part_in (file image m icb).outcome).at
    place_in = rw (embedded-runs image m icb in_entry)

-- ---- the part of the image at the place is the embedded bytes

-- a file that isn't embedded has no part, whatever its chain comes to
no-part : (d : Disc) (x : Located) (o : Outcome (List AllocExtent)) (n : ℕ)
    → part_in (followed (after 1 (onward o n (λ es. ran d (done (chained x es))))) (λ f. ran d (done (part_of f)))).outcome ≡ no_part
no-part d x (answered es) n = rw (ran-done, ran-done)
no-part d x (refused r) n = refl

module _ (image : List ℕ) (m : Mount) (icb : LongAd) where
  chain-part : {p : FilePlace} → FoundPlace image (entry_at m icb) p → (p.kind ≡ 3 → ⊥) → part_in (file image m icb).outcome ≡ no_part
  unfolding file_part
  chain-part {p} q k =
      let n : is_embedded q.entry ≡ false = rw (← found-kind image m icb q) (ne_eqb p.kind 3 k) in
      rw (ran_then (disc image) (file_at m icb), found-goes image m icb q, n, ran_then (disc image) (chain_of (entry_mount m icb) q.entry))
      (no-part (disc image) q.entry (ran (disc image) (chain_of (entry_mount m icb) q.entry)).outcome (ran (disc image) (chain_of (entry_mount m icb) q.entry)).count)

  no-entry : {why : Refusal} {n : ℕ} → ran (disc image) (entry_at m icb) ≡ record { outcome = refused why; count = n } → file image m icb ≡ record { outcome = refused why; count = n }
  unfolding file_part file_at
  no-entry y = ran_then (disc image) (file_at m icb) _ ∙ rw (ran_then (disc image) (entry_at m icb), y)

  pub part-stands : PartAt image (part_in (file image m icb).outcome).bytes (part_in (file image m icb).outcome).at
  part-stands = by (place_of image m icb) (locates image m icb refl)
    where
      Held : Type 0
      Held = PartAt image (part_in (file image m icb).outcome).bytes (part_in (file image m icb).outcome).at

      kept : (p : FilePlace) → FoundPlace image (entry_at m icb) p → (b : Bool) → eqb p.kind 3 ≡ b → Held
      kept p q true e =
          let y : EmbeddedFile image m icb p = found-embedded image m icb q (eqb-true _ _ e) in
          rw (embedded-runs image m icb y) (record {
            bytes = ap (λ n. take n (drop p.at image)) (embedded-size image p y.inside);
            inside = omega (arith, y.inside, embedded-size image p y.inside);
          })
      kept p q false e = rw (chain-part q (eqb-false _ _ e)) (part_none image)

      by : (r : Result FilePlace CountedRefusal) → Locates image m icb r → Held
      by (Err e) y = rw (no-entry y) (part_none image)
      by (Ok p) y = kept p y (eqb p.kind 3) refl

  -- a refusal has no place
  pub place_none : (answer_of (file image m icb).outcome ≡ 0 → ⊥) → (part_in (file image m icb).outcome).at ≡ 0
  place_none = by (file image m icb).outcome
    where
      by : (o : Outcome Part) → (answer_of o ≡ 0 → ⊥) → (part_in o).at ≡ 0
      by (answered p) h = absurd (h refl)
      by (refused r) h = refl

-- ---- the returns of `file_part`

module _ (image : List ℕ) (m : Mount) (icb : LongAd) {reply : Reply} (e : reply ≡ part_reply (file image m icb)) {at : ℕ} (h : at ≡ (part_in (file image m icb).outcome).at) where
  pub file-part-gives : PartReplied (file image m icb) (take (at + reply.length - at) (drop at image)) reply.answer reply.count
  file-part-gives = rw (e, h) (record { gives = part_slice (part-stands image m icb); says = refl; counts = refl })

  pub file-part-room : at + reply.length ≤ length image
  file-part-room = rw (e, h) (part-stands image m icb).inside

  pub file-part-fits : length image < 2 ^ 64 → Fits w64 (at + reply.length)
  file-part-fits l = omega (arith, file-part-room)
