-- Laws of the label: how opening and writing are one call. Assumes nothing.
use mathlib.Core.Path.{◌≡◌, refl, ap, sym, ◌∙◌}
use mathlib.Core.List.{List}
use Prim.Native.Nat.{ℕ}
use native.Mathlib.Nat.{add-zero}
use lib.ListN.{length}
use Rattle.disc.proofs.RefusalLaws.{refusal-numbered}
use Rattle.disc.specs.Refusals.{number}
use Rattle.disc.specs.Counts.{reported}
use Rattle.disc.specs.Ask.{Disc, Outcome, ended}
use Rattle.disc.specs.Ask.Outcome.{answered, refused}
use Rattle.disc.specs.Images.{disc}
use Rattle.disc.specs.Ran.{Ran, ran, onward, told}
use Rattle.disc.specs.Replies.{Replied}
use Rattle.disc.specs.declared.refusals.Refusal.TheVariants.{NoRoom}
use Rattle.disc.specs.declared.replies.Reply.{Reply}
use Rattle.disc.proofs.RanLaws.{ran-ended, ran_then}
use Rattle.disc.proofs.ReplyLaws.{reply-refused, recount}
use Rattle.names.specs.Names.{name_of_field}
use Rattle.volumes.specs.Openings.{opening, opened_by, opened_of}
use Rattle.volumes.specs.Labels.{label_of, labelling}
use Rattle.volumes.specs.declared.openings.VolumeRecord.{VolumeRecord}
use Rattle.volumes.specs.declared.openings.Opened.{Opened}
use Rattle.volumes.specs.declared.openings.How.{How}

module _ (d : Disc) {o : Opened} {lent : List ℕ} {p : Reply} where
  no-volume : (r : Ran VolumeRecord) → o ≡ opened_of r → (o.answer ≡ 0 → ⊥) → p ≡ record { answer = o.answer; count = o.count; length = 0 }
      → Replied NoRoom (onward r.outcome r.count (λ v. ran d (ended (label_of v)))) lent lent p
  no-volume r = by r.outcome r.count
    where
      by : (x : Outcome VolumeRecord) (n : ℕ) → o ≡ opened_by (reported n) x → (o.answer ≡ 0 → ⊥) → p ≡ record { answer = o.answer; count = o.count; length = 0 }
          → Replied NoRoom (onward x n (λ v. ran d (ended (label_of v)))) lent lent p
      by (answered v) n e h q = absurd (h (ap (λ (z : Opened). z.answer) e))
      by (refused w) n e h q =
          let a : o.answer ≡ number w = ap (λ (z : Opened). z.answer) e in
          let c : o.count ≡ reported n = ap (λ (z : Opened). z.count) e in
          reply-refused w n (reported n) refl (q ∙ rw (a, c))

  -- the reply p of writing the name, with the count of opening
  a-volume : {after : List ℕ} (r : Ran VolumeRecord) → o ≡ opened_of r → o.answer ≡ 0 → Replied NoRoom (told (label_of o.volume)) lent after p
      → Replied NoRoom (onward r.outcome r.count (λ v. ran d (ended (label_of v)))) lent after (record { answer = p.answer; count = o.count; length = p.length })
  a-volume {after} r = by r.outcome r.count
    where
      by : (x : Outcome VolumeRecord) (n : ℕ) → o ≡ opened_by (reported n) x → o.answer ≡ 0 → Replied NoRoom (told (label_of o.volume)) lent after p
          → Replied NoRoom (onward x n (λ v. ran d (ended (label_of v)))) lent after (record { answer = p.answer; count = o.count; length = p.length })
      by (answered v) n e h q =
          let a : o.volume ≡ v = ap (λ (z : Opened). z.volume) e in
          let c : o.count ≡ reported n = ap (λ (z : Opened). z.count) e in
          rw (ran-ended d (label_of v), add-zero, ← a, c) (record { says = recount NoRoom (length lent) 0 (reported n) (label_of o.volume) q.says; leaves = q.leaves })
      by (refused w) n e h q = absurd (refusal-numbered w (sym (ap (λ (z : Opened). z.answer) e) ∙ h))

module _ (image : List ℕ) (how : How) {o : Opened} (e : o ≡ opened_of (ran (disc image) (opening how))) {lent : List ℕ} {p : Reply} where
  pub label-refused : (o.answer ≡ 0 → ⊥) → p ≡ record { answer = o.answer; count = o.count; length = 0 }
      → Replied NoRoom (ran (disc image) (labelling how)) lent lent p
  unfolding labelling
  label-refused h q = rw (ran_then (disc image) (opening how) (λ v. ended (label_of v))) (no-volume (disc image) (ran (disc image) (opening how)) e h q)

  pub label-written : {after : List ℕ} → o.answer ≡ 0 → Replied NoRoom (told (name_of_field o.volume.label)) lent after p
      → Replied NoRoom (ran (disc image) (labelling how)) lent after (record { answer = p.answer; count = o.count; length = p.length })
  unfolding labelling
  label-written h q = rw (ran_then (disc image) (opening how) (λ v. ended (label_of v))) (a-volume (disc image) (ran (disc image) (opening how)) e h q)
