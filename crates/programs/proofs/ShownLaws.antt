-- What the programs show: what each loop of a `Display` cites, and how many bytes are made. Assumes nothing.
use Rattle.std.proofs.Common.{◌≡◌, refl, sym, ap, subst, ◌∙◌, ℕ, zero, suc, Bool, ◌+◌, ◌-◌, ◌*◌, ◌/◌, ◌%◌, ◌^◌, ◌<◌, ◌≤◌, true, false, List, [], ◌∷◌, ◌++◌, length, get_or, drop, arith, append_assoc, append-nil, length-append, encode_utf8, IsOk, Result}
use Rattle.std.specs.Prelude.{Option, Some, None, codes, decimal, flat_map}
use Rattle.std.specs.declared.fmt.Error.{Error}
use Rattle.std.specs.declared.fmt.Formatter.{Formatter}
use Rattle.std.specs.Fmt.{◌++?◌, HasWritten, DisplaysOnOk}
use Rattle.std.proofs.lemmas.Fmt.{decimal_by_steps}
use Rattle.std.proofs.Math.Nat.{pow-suc}
use Rattle.std.proofs.lemmas.Str.{encode_ascii}
use Rattle.std.proofs.lemmas.Option.{none-some, same_Some}
use Rattle.std.proofs.Output.{has_written_append, has_written_of_eq}
use Rattle.std.proofs.lemmas.Grind.{common_steps}
use Rattle.std.proofs.lemmas.List.{drop_more}
use Rattle.std.proofs.Math.ListN.{drop_of_length-le}
use Rattle.programs.specs.Shown.{hex_pair, shown_hex, is_plain, escaped_byte, escaped, shown_numbers, shown_partition, shown_work}
use Rattle.programs.specs.Words.{PartitionDigits}
use Rattle.programs.specs.Lent.{all_zero}
use Rattle.disc.specs.Choice.{pick}
use Rattle.io.specs.Digits.{IsDigitCount}

-- ---- what is written of a byte of a text

pub plain_shown : (b c : ℕ) → c ≡ b → is_plain b ≡ true → encode_utf8 c ≡ escaped_byte b
plain_shown b c e plain = let small : b < 128 = grind (arith, common_steps) in rw (e, encode_ascii b small, plain)

pub escape_shown : (b : ℕ) → is_plain b ≡ false → 92 ∷ hex_pair b ≡ escaped_byte b
escape_shown b e = rw e

-- ---- how many bytes are made

pub hex-length : (s : List ℕ) → length (shown_hex s) ≡ 3 * length s
unfolding shown_hex
hex-length [] = refl
hex-length (b ∷ s) = let e = hex-length s in omega arith

byte_length : (b : ℕ) → (1 ≤ length (escaped_byte b)) × (length (escaped_byte b) ≤ 3)
byte_length b = go (is_plain b) where
  go : (test : Bool) → (1 ≤ length (pick test (b ∷ []) (92 ∷ hex_pair b))) × (length (pick test (b ∷ []) (92 ∷ hex_pair b)) ≤ 3)
  go true = (omega arith, omega arith)
  go false = (omega arith, omega arith)

pub escaped-length : (s : List ℕ) → (length s ≤ length (escaped s)) × (length (escaped s) ≤ 3 * length s)
unfolding escaped
escaped-length [] = (omega arith, omega arith)
escaped-length (b ∷ s) =
    let one = byte_length b in
    let rest = escaped-length s in
    let sum = length-append (escaped_byte b) (escaped s) in
    (omega arith, omega arith)

-- one digit more than the tenth has
digits_next : (n k : ℕ) → 10 ≤ n → IsDigitCount 10 1 (n / 10) k → IsDigitCount 10 1 n (suc k)
digits_next n zero h p = absurd (omega arith)
digits_next n (suc zero) h p = let e = pow-suc 10 1 in (omega arith, omega arith, λ over. omega arith)
digits_next n (suc (suc j)) h p =
    let e = pow-suc 10 (suc (suc j)) in
    let e' = pow-suc 10 (suc j) in
    let before : suc (suc j) - 1 ≡ suc j = omega arith in
    let now : suc (suc (suc j)) - 1 ≡ suc (suc j) = omega arith in
    let least : 10 ^ suc j ≤ n / 10 = subst (λ m. 10 ^ m ≤ n / 10) before (p.2 (omega arith)) in
    (omega arith, omega arith, λ over. subst (λ m. 10 ^ m ≤ n) (sym now) (omega arith))

digit_more : (n : ℕ) (ds : List ℕ) → 10 ≤ n → IsDigitCount 10 1 (n / 10) (length ds) → IsDigitCount 10 1 n (length (ds ++ ((48 + n % 10) ∷ [])))
digit_more n ds h p = subst (IsDigitCount 10 1 n) (let e = length-append ds ((48 + n % 10) ∷ []) in omega arith) (digits_next n (length ds) h p)

-- as many digits as the number takes in base 10
pub decimal-digits : (n : ℕ) → n < 2 ^ 64 → IsDigitCount 10 1 n (length (decimal n))
decimal-digits n small = decimal_by_steps (λ m ds. IsDigitCount 10 1 m (length ds)) (λ m h. (omega arith, omega arith, λ over. absurd (omega arith))) digit_more n small

pub partition-digits : (n : ℕ) → n < 2 ^ 16 → PartitionDigits (Some n) (length (shown_partition (Some n)))
partition-digits n small = decimal-digits n (omega arith)

-- numbers have an output: for each a space and its digits
pub numbers-decimal : (s : List ℕ) → shown_numbers (λ n. Some (decimal n)) s ≡ Some (flat_map (λ n. 32 ∷ decimal n) s)
unfolding shown_numbers
numbers-decimal [] = refl
numbers-decimal (n ∷ s) = rw (numbers-decimal s)

pub work-length : (s : List ℕ) → length (shown_work s) ≡ pick (all_zero s) 4 5
work-length s = go (all_zero s) where
  go : (test : Bool) → length (pick test (codes "zero") (codes "dirty")) ≡ pick test 4 5
  go true = refl
  go false = refl

-- ---- what is written before the index, with what stands from it on, is the whole

pub hex-next : (s : List ℕ) (i : ℕ) (done : List ℕ) {whole : List ℕ} → i < length s → done ++ shown_hex (drop i s) ≡ whole
    → (done ++ (32 ∷ hex_pair (get_or s i 0))) ++ shown_hex (drop (i + 1) s) ≡ whole
unfolding shown_hex
hex-next s i done h e = append_assoc done _ _ ∙ (rw (drop_more s i 0 h) at e)

pub hex-ends : (s : List ℕ) (i : ℕ) (done : List ℕ) {whole : List ℕ} → length s ≤ i → done ++ shown_hex (drop i s) ≡ whole → done ≡ whole
unfolding shown_hex
hex-ends s i done h e = rw (drop_of_length-le s h, append-nil) at e

pub escaped-next : (s : List ℕ) (i : ℕ) (done : List ℕ) {whole : List ℕ} → i < length s → done ++ escaped (drop i s) ≡ whole
    → (done ++ escaped_byte (get_or s i 0)) ++ escaped (drop (i + 1) s) ≡ whole
unfolding escaped
escaped-next s i done h e = append_assoc done _ _ ∙ (rw (drop_more s i 0 h) at e)

pub escaped-ends : (s : List ℕ) (i : ℕ) (done : List ℕ) {whole : List ℕ} → length s ≤ i → done ++ escaped (drop i s) ≡ whole → done ≡ whole
unfolding escaped
escaped-ends s i done h e = rw (drop_of_length-le s h, append-nil) at e

-- ---- the same of items of any type, for which `text` says what one writes, if it does

module _ {T W : Type 0} (text : T → Option (List ℕ)) (took : W → List ℕ → W → Type 0) where
  -- g is f with what is written, which is the whole with what the rest of the items write
  abbrev pub Showing : Formatter W → Formatter W → List T → List ℕ → Type 0
  Showing f g rest whole = (done : List ℕ) × HasWritten took f done g × (Some done ++? shown_numbers text rest ≡ Some whole)

  numbers_step : (f g h : Formatter W) (r : Result (Unit {0}) Error) (done : List ℕ) (o p : Option (List ℕ)) (whole : List ℕ) → IsOk r → HasWritten took f done g
      → DisplaysOnOk took g r (Some (32 ∷ []) ++? o) h → Some done ++? Some (32 ∷ []) ++? o ++? p ≡ Some whole
      → (more : List ℕ) × HasWritten took f more h × (Some more ++? p ≡ Some whole)
  numbers_step f g h r done None p whole ok wrote told e = absurd (none-some whole e)
  numbers_step f g h r done (Some t) None whole ok wrote told e = absurd (none-some whole e)
  numbers_step f g h r done (Some t) (Some q) whole ok wrote told e =
      (done ++ (32 ∷ t), has_written_append took f done g (32 ∷ t) h wrote (told wrote.plain ok), ap (λ (l : List ℕ). Some l) (append_assoc done (32 ∷ t) q) ∙ e)

  pub numbers-next : (f g h : Formatter W) (r : Result (Unit {0}) Error) (s : List T) (i : ℕ) (x : T) (whole : List ℕ) → i < length s → x ≡ get_or s i x → IsOk r
      → DisplaysOnOk took g r (Some (32 ∷ []) ++? text x) h → Showing f g (drop i s) whole → Showing f h (drop (i + 1) s) whole
  unfolding shown_numbers
  numbers-next f g h r s i x whole within item ok told now =
      numbers_step f g h r now.0 (text x) (shown_numbers text (drop (i + 1) s)) whole ok now.1 told (rw (drop_more s i x within, ← item) at now.2)

  pub numbers-ends : (f g : Formatter W) (s : List T) (i : ℕ) (whole : List ℕ) → length s ≤ i → Showing f g (drop i s) whole → HasWritten took f whole g
  unfolding shown_numbers
  numbers-ends f g s i whole past now = has_written_of_eq took f now.0 whole g (same_Some _ _ (rw (drop_of_length-le s past, append-nil) at now.2)) now.1
