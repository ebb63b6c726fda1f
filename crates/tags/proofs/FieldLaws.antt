-- A tag by its fields, each as the call that read it ensures. Assumes nothing.
use Rattle.std.specs.Prelude.{Ok, Err}
use Prim.Native.Nat.{ℕ, ◌<◌, ◌≤◌}
use mathlib.Core.Path.{◌≡◌, ap, sym, ◌∙◌}
use mathlib.Core.Bool.{Bool, true, false}
use mathlib.Core.List.{List}
use lib.ListN.{length}
use borrow.Author.Tests.{le-leb, lt-leb}
use Rattle.disc.specs.declared.refusals.Refusal.TheVariants.{Malformed}
use Rattle.records.specs.Bytes.{u16at, u32at, sixteen}
use Rattle.tags.specs.Tags.{accepted, tag_of, read_tag}
use Rattle.tags.specs.declared.DescriptorTag.{DescriptorTag}

module _ (s : List ℕ) where
  pub tag-fields : {a b c d e f : ℕ} → a ≡ u16at s 0 → b ≡ u16at s 2 → c ≡ u16at s 6 → d ≡ u16at s 8 → e ≡ u16at s 10 → f ≡ u32at s 12
      → record { id = a; descriptor_version = b; serial_number = c; crc = d; crc_length = e; location = f } ≡ tag_of s
  tag-fields p q r t u v = rw (p, q, r, t, u, v)

  -- ---- the returns of `parse`: a tag is checked and decoded from the sixteen bytes that were fetched

  pub tag-short : length s < 16 → Err Malformed ≡ read_tag s
  tag-short h = simp (lt-leb 16 (length s) h)

  module _ (h : 16 ≤ length s) {f : List ℕ} (e : f ≡ sixteen s) {b : Bool} (a : b ≡ accepted f) where
    pub tag_read : b ≡ true → {t : DescriptorTag} → t ≡ tag_of f → Ok t ≡ read_tag s
    tag_read z g =
        let k : accepted s ≡ true = sym (a ∙ ap accepted e) ∙ z in
        simp (le-leb 16 (length s) h, k) (ap Ok (g ∙ ap tag_of e))

    pub tag-not : b ≡ false → Err Malformed ≡ read_tag s
    tag-not z =
        let k : accepted s ≡ false = sym (a ∙ ap accepted e) ∙ z in
        simp (le-leb 16 (length s) h, k)
