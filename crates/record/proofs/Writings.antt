-- What the writer answers, case by case: the fields' numbers, and a text laid at the start of the destination.
-- Assumes nothing.
use mathlib.Core.Path.{◌≡◌, refl, sym, ap, ◌∙◌}
use mathlib.Core.Bool.{Bool, true, false}
use mathlib.Core.List.{List, [], ◌∷◌, ◌++◌, append-nil}
use Prim.Native.Nat.{ℕ, ◌+◌, ◌/◌, ◌%◌, ◌^◌, ◌≤◌, ◌<◌}
use native.Mathlib.Nat.{suc-ne-zero, zero-add}
use native.Mathlib.Omega.{arith}
use lib.Dec.{eqb, leb}
use lib.ListN.{length, drop, length-append}
use borrow.Author.Tests.{eq-eqb, ne_eqb, le-leb, lt-leb, eqb-true, leb-true, leb-false}
use Rattle.std.specs.Int.{w16, to_be_bytes}
use Rattle.octets.specs.Octets.{pick, big_endian}
use Rattle.octets.proofs.Parts.{put_length}
use Rattle.suites.specs.Suites.{nonce_length}
use Rattle.fields.specs.Fields.{Rule, between, field, fields, field_refusal, fields_refusal, plain}
use Rattle.record.specs.HouseRecord.{suite_rule, row_rule, note_rule, text_rules, rules, Content, bodies, written, row_data, Writing, laid_out}
use Rattle.fields.specs.Answers.{laid_at}
use Rattle.fields.proofs.Ranges.{both}
use Rattle.fields.proofs.Accepting.{tested}
use Rattle.fields.proofs.Laying.{laid_next, field-length}
use Rattle.record.proofs.WholeRecord.{row_back, exactly}

-- ---- the fields' numbers

-- the first of a list of fields refuses, or the others decide
module _ (r : Rule) (rules : List Rule) (body : List ℕ) (bodies : List (List ℕ)) where
  pub first_refuses : (n : ℕ) → n ≡ field_refusal r body → (n ≡ 0 → ⊥) → n ≡ fields_refusal (r ∷ rules) (body ∷ bodies)
  unfolding fields_refusal
  first_refuses n e h = e ∙ simp (ne_eqb (field_refusal r body) 0 (λ z. h (e ∙ z)))

  pub others_decide : (n : ℕ) → n ≡ fields_refusal rules bodies → field_refusal r body ≡ 0 → n ≡ fields_refusal (r ∷ rules) (body ∷ bodies)
  unfolding fields_refusal
  others_decide n e z = e ∙ simp (eq-eqb _ _ z)

pub one_field : (r : Rule) (body : List ℕ) → field_refusal r body ≡ fields_refusal (r ∷ []) (body ∷ [])
unfolding fields_refusal
one_field r body = by (field_refusal r body) (eqb (field_refusal r body) 0) refl
  where
    by : (n : ℕ) (b : Bool) → eqb n 0 ≡ b → n ≡ pick b 0 n
    by n true e = eqb-true n 0 e
    by n false e = refl

pub row_number : (row : ℕ) → row < 65536 → field_refusal row_rule (big_endian 2 row) ≡ pick (between 1 20 row) 0 13
unfolding big_endian
row_number row h = ap (λ (n : ℕ). pick (between 1 20 n) 0 13) (row_back row h)

module _ (suite row : ℕ) (fits : row < 65536) where
  pub suite_number : (n : ℕ) → n ≡ pick (between 1 4 suite) 0 13 → (n ≡ 0 → ⊥)
      → n ≡ fields_refusal (suite_rule ∷ row_rule ∷ []) ((suite ∷ []) ∷ big_endian 2 row ∷ [])
  suite_number n e h = first_refuses suite_rule (row_rule ∷ []) (suite ∷ []) (big_endian 2 row ∷ []) n e h

  pub row_then : (n m : ℕ) → n ≡ pick (between 1 4 suite) 0 13 → n ≡ 0 → m ≡ pick (between 1 20 row) 0 13
      → m ≡ fields_refusal (suite_rule ∷ row_rule ∷ []) ((suite ∷ []) ∷ big_endian 2 row ∷ [])
  row_then n m e z f =
      others_decide suite_rule (row_rule ∷ []) (suite ∷ []) (big_endian 2 row ∷ []) m
      (f ∙ sym (row_number row fits) ∙ one_field row_rule (big_endian 2 row)) (sym e ∙ z)

-- a text by its length
module _ (tag least greatest : ℕ) (body : List ℕ) where
  pub fitting : least ≤ length body → length body ≤ greatest → field_refusal (plain tag least greatest) body ≡ 0
  fitting l h = simp (le-leb _ _ l, le-leb _ _ h)

  pub too_long : least ≤ length body → greatest < length body → ◌≡◌ {A = ℕ} 12 (field_refusal (plain tag least greatest) body)
  too_long l h = simp (le-leb _ _ l, lt-leb _ _ h)

  pub too_short : length body < least → ◌≡◌ {A = ℕ} 12 (field_refusal (plain tag least greatest) body)
  too_short h = simp (lt-leb _ _ h)

other_length : (tag n : ℕ) (body : List ℕ) → (length body ≡ n → ⊥) → ◌≡◌ {A = ℕ} 12 (field_refusal (plain tag n n) body)
other_length tag n body h = by (leb n (length body)) refl
  where
    by : (b : Bool) → leb n (length body) ≡ b → ◌≡◌ {A = ℕ} 12 (field_refusal (plain tag n n) body)
    by true e = let l = leb-true n (length body) e in too_long tag n n body l (omega (arith, l, h))
    by false e = let l = leb-false n (length body) e in too_short tag n n body l

module _ (n : ℕ) (nonce note cipher tag : List ℕ) where
  pub nonce_other : (length nonce ≡ n → ⊥) → ◌≡◌ {A = ℕ} 12 (fields_refusal (text_rules n) (nonce ∷ note ∷ cipher ∷ tag ∷ []))
  nonce_other h = first_refuses (plain 3 n n) _ nonce _ 12 (other_length 3 n nonce h) (suc-ne-zero 11)

  module _ (h₁ : length nonce ≡ n) where
    after_nonce : (m : ℕ) → m ≡ fields_refusal (note_rule ∷ plain 5 0 4096 ∷ plain 6 16 16 ∷ []) (note ∷ cipher ∷ tag ∷ [])
        → m ≡ fields_refusal (text_rules n) (nonce ∷ note ∷ cipher ∷ tag ∷ [])
    after_nonce m e = others_decide (plain 3 n n) _ nonce _ m e (fitting 3 n n nonce (omega (arith, h₁)) (omega (arith, h₁)))

    pub note_long : 1024 < length note → ◌≡◌ {A = ℕ} 12 (fields_refusal (text_rules n) (nonce ∷ note ∷ cipher ∷ tag ∷ []))
    note_long h = after_nonce 12 (first_refuses note_rule _ note _ 12 (too_long 4 0 1024 note (omega arith) h) (suc-ne-zero 11))

    module _ (h₂ : length note ≤ 1024) where
      after_note : (m : ℕ) → m ≡ fields_refusal (plain 5 0 4096 ∷ plain 6 16 16 ∷ []) (cipher ∷ tag ∷ [])
          → m ≡ fields_refusal (text_rules n) (nonce ∷ note ∷ cipher ∷ tag ∷ [])
      after_note m e = after_nonce m (others_decide note_rule _ note _ m e (fitting 4 0 1024 note (omega arith) h₂))

      pub cipher_long : 4096 < length cipher → ◌≡◌ {A = ℕ} 12 (fields_refusal (text_rules n) (nonce ∷ note ∷ cipher ∷ tag ∷ []))
      cipher_long h = after_note 12 (first_refuses (plain 5 0 4096) _ cipher _ 12 (too_long 5 0 4096 cipher (omega arith) h) (suc-ne-zero 11))

      module _ (h₃ : length cipher ≤ 4096) where
        after_cipher : (m : ℕ) → m ≡ field_refusal (plain 6 16 16) tag → m ≡ fields_refusal (text_rules n) (nonce ∷ note ∷ cipher ∷ tag ∷ [])
        after_cipher m e =
            after_note m
            (others_decide (plain 5 0 4096) _ cipher _ m (e ∙ one_field (plain 6 16 16) tag) (fitting 5 0 4096 cipher (omega arith) h₃))

        pub tag_other : (length tag ≡ 16 → ⊥) → ◌≡◌ {A = ℕ} 12 (fields_refusal (text_rules n) (nonce ∷ note ∷ cipher ∷ tag ∷ []))
        tag_other h = after_cipher 12 (other_length 6 16 tag h)

        pub texts_fit : length tag ≡ 16 → ◌≡◌ {A = ℕ} 0 (fields_refusal (text_rules n) (nonce ∷ note ∷ cipher ∷ tag ∷ []))
        texts_fit e = after_cipher 0 (sym (fitting 6 16 16 tag (omega (arith, e)) (omega (arith, e))))

-- for each return of `texts_refusal`
pub ruleset lengths = (nonce_other, note_long, cipher_long, tag_other, texts_fit)

-- what no refusal of the texts says of their lengths
pub record Fit (n : ℕ) (nonce note cipher tag : List ℕ) : Type 0 where
  pub of_nonce : length nonce ≡ n
  pub of_note : length note ≤ 1024
  pub of_cipher : length cipher ≤ 4096
  pub of_tag : length tag ≡ 16

pub fit : (n : ℕ) (nonce note cipher tag : List ℕ) → fields_refusal (text_rules n) (nonce ∷ note ∷ cipher ∷ tag ∷ []) ≡ 0 → Fit n nonce note
    cipher tag
unfolding fields_refusal
fit n nonce note cipher tag e =
    let t₁ = tested (plain 3 n n) nonce _ e in
    let t₂ = tested note_rule note _ t₁.2 in
    let t₃ = tested (plain 5 0 4096) cipher _ t₂.2 in
    let t₄ = tested (plain 6 16 16) tag 0 t₃.2 in
    record {
      of_nonce = exactly n (length nonce) t₁.0;
      of_note = leb-true (length note) 1024 (both (leb 0 (length note)) (leb (length note) 1024) t₂.0).1;
      of_cipher = leb-true (length cipher) 4096 (both (leb 0 (length cipher)) (leb (length cipher) 4096) t₃.0).1;
      of_tag = exactly 16 (length tag) t₄.0;
    }

-- ---- the whole refusal of a record: suite and row, and then the texts

first_two : (p q more : ℕ)
    → pick (eqb p 0) (pick (eqb q 0) more q) p
    ≡ pick (eqb (pick (eqb p 0) (pick (eqb q 0) 0 q) p) 0) more (pick (eqb p 0) (pick (eqb q 0) 0 q) p)
first_two p q more = by (eqb p 0) (eqb q 0) refl refl
  where
    by : (a b : Bool) → eqb p 0 ≡ a → eqb q 0 ≡ b
        → pick a (pick b more q) p ≡ pick (eqb (pick a (pick b 0 q) p) 0) more (pick a (pick b 0 q) p)
    by true true e f = refl
    by true false e f = rw f
    by false b e f = rw e

module _ (c : Content) (n : ℕ) (e : n ≡ fields_refusal (suite_rule ∷ row_rule ∷ []) ((c.suite ∷ []) ∷ big_endian 2 c.row ∷ [])) where
  joined : fields_refusal (rules c.suite) (bodies c)
      ≡ pick (eqb n 0) (fields_refusal (text_rules (nonce_length c.suite)) (c.nonce ∷ c.note ∷ c.cipher ∷ c.tag ∷ [])) n
  unfolding fields_refusal
  joined = rw e (first_two (field_refusal suite_rule (c.suite ∷ [])) (field_refusal row_rule (big_endian 2 c.row)) _)

  pub head_refuses : (n ≡ 0 → ⊥) → n ≡ fields_refusal (rules c.suite) (bodies c)
  head_refuses h = sym (joined ∙ rw (ne_eqb n 0 h))

  pub texts_refuse : n ≡ 0 → (m : ℕ) → m ≡ fields_refusal (text_rules (nonce_length c.suite)) (c.nonce ∷ c.note ∷ c.cipher ∷ c.tag ∷ [])
      → m ≡ fields_refusal (rules c.suite) (bodies c)
  texts_refuse z m f = f ∙ sym (joined ∙ rw (eq-eqb n 0 z))

-- ---- a text laid at the start of the destination, or refused

module _ (n : ℕ) (text destination : List ℕ) where
  pub refused_out : (m : ℕ) → m ≡ n → (m ≡ 0 → ⊥)
      → ◌≡◌ {A = Writing} (record { answer = record { number = m; length = 0 }; destination = destination }) (laid_out n text destination)
  refused_out m e h = rw e (simp (ne_eqb n 0 (λ z. h (e ∙ z))))

  module _ (z : n ≡ 0) where
    pub short_out : length destination < length text
        → ◌≡◌ {A = Writing} (record { answer = record { number = 24; length = 0 }; destination = destination }) (laid_out n text destination)
    short_out h = simp (eq-eqb n 0 z, lt-leb _ _ h)

    pub done_out : (bytes : ℕ) (d : List ℕ) → bytes ≡ length text → d ≡ laid_at 0 text destination → length text ≤ length destination
        → ◌≡◌ {A = Writing} (record { answer = record { number = 0; length = bytes }; destination = d }) (laid_out n text destination)
    done_out bytes d e f h =
        rw (e, f ∙ ap (λ (k : ℕ). text ++ drop k destination) (zero-add (length text)), z)
        (simp (le-leb (length text) (length destination) h) refl)

-- ---- six fields laid one after another

-- a text laid where the one before it ended
then_laid : (d d₁ a b : List ℕ) (at next : ℕ) → at + length a ≤ length d → d₁ ≡ laid_at at a d → next ≡ at + length a
    → laid_at next b d₁ ≡ laid_at at (a ++ b) d
then_laid d d₁ a b at next h e n = rw (e, n) (laid_next d a b at h)

laid_length : (d a : List ℕ) (at : ℕ) → at + length a ≤ length d → length (laid_at at a d) ≡ length d
laid_length d a at h = put_length d a at (length a) h refl

-- the same for a field, with the length of the destination
module _ (d d₁ : List ℕ) (tag : ℕ) (body : List ℕ) (at next : ℕ) (h : at + 3 + length body ≤ length d)
    (e : d₁ ≡ laid_at at (field tag body) d) (n : next ≡ at + 3 + length body) where
  room : at + length (field tag body) ≤ length d
  room = let l = field-length tag body in omega (arith, l, h)

  field_then : (b : List ℕ) → laid_at next b d₁ ≡ laid_at at (field tag body ++ b) d
  field_then b = then_laid d d₁ (field tag body) b at next room e (let l = field-length tag body in omega (arith, l, n))

  same_room : length d₁ ≡ length d
  same_room = rw e (laid_length d (field tag body) at room)

pub row_length : (n : ℕ) → length (big_endian 2 n) ≡ 2
unfolding big_endian
row_length n = refl

pub six_laid : (c : Content) (d₀ d₁ d₂ d₃ d₄ d₅ d₆ row : List ℕ) (a₁ a₂ a₃ a₄ a₅ : ℕ)
    → 21 + length c.nonce + length c.note + length c.cipher + length c.tag ≤ length d₀ → row ≡ big_endian 2 c.row
    → d₁ ≡ laid_at 0 (field 1 (c.suite ∷ [])) d₀ → a₁ ≡ 4 → d₂ ≡ laid_at a₁ (field 2 row) d₁ → a₂ ≡ a₁ + 3 + length row
    → d₃ ≡ laid_at a₂ (field 3 c.nonce) d₂ → a₃ ≡ a₂ + 3 + length c.nonce → d₄ ≡ laid_at a₃ (field 4 c.note) d₃
    → a₄ ≡ a₃ + 3 + length c.note → d₅ ≡ laid_at a₄ (field 5 c.cipher) d₄ → a₅ ≡ a₄ + 3 + length c.cipher
    → d₆ ≡ laid_at a₅ (field 6 c.tag) d₅ → d₆ ≡ laid_at 0 (written c) d₀
unfolding written fields
six_laid c d₀ d₁ d₂ d₃ d₄ d₅ d₆ row a₁ a₂ a₃ a₄ a₅ h r e₁ n₁ e₂ n₂ e₃ n₃ e₄ n₄ e₅ n₅ e₆ =
    let l : length row ≡ 2 = ap length r ∙ row_length c.row in
    let f₁ = field_then d₀ d₁ 1 (c.suite ∷ []) 0 a₁ (omega (arith, h)) e₁ n₁ in
    let s₁ = same_room d₀ d₁ 1 (c.suite ∷ []) 0 a₁ (omega (arith, h)) e₁ n₁ in
    let f₂ = field_then d₁ d₂ 2 row a₁ a₂ (omega (arith, h, l, n₁, s₁)) e₂ n₂ in
    let s₂ = same_room d₁ d₂ 2 row a₁ a₂ (omega (arith, h, l, n₁, s₁)) e₂ n₂ in
    let f₃ = field_then d₂ d₃ 3 c.nonce a₂ a₃ (omega (arith, h, l, n₁, n₂, s₁, s₂)) e₃ n₃ in
    let s₃ = same_room d₂ d₃ 3 c.nonce a₂ a₃ (omega (arith, h, l, n₁, n₂, s₁, s₂)) e₃ n₃ in
    let f₄ = field_then d₃ d₄ 4 c.note a₃ a₄ (omega (arith, h, l, n₁, n₂, n₃, s₁, s₂, s₃)) e₄ n₄ in
    let s₄ = same_room d₃ d₄ 4 c.note a₃ a₄ (omega (arith, h, l, n₁, n₂, n₃, s₁, s₂, s₃)) e₄ n₄ in
    let f₅ = field_then d₄ d₅ 5 c.cipher a₄ a₅ (omega (arith, h, l, n₁, n₂, n₃, n₄, s₁, s₂, s₃, s₄)) e₅ n₅ in
    e₆
    ∙ ap (λ (x : List ℕ). laid_at a₅ x d₅) (sym (append-nil (field 6 c.tag)))
    ∙ f₅ (field 6 c.tag ++ [])
    ∙ f₄ (field 5 c.cipher ++ (field 6 c.tag ++ []))
    ∙ f₃ (field 4 c.note ++ (field 5 c.cipher ++ (field 6 c.tag ++ [])))
    ∙ f₂ (field 3 c.nonce ++ (field 4 c.note ++ (field 5 c.cipher ++ (field 6 c.tag ++ []))))
    ∙ f₁ (field 2 row ++ (field 3 c.nonce ++ (field 4 c.note ++ (field 5 c.cipher ++ (field 6 c.tag ++ [])))))
    ∙ ap (λ (x : List ℕ). laid_at 0 (field 1 (c.suite ∷ []) ++ (field 2 x ++
    (field 3 c.nonce ++ (field 4 c.note ++ (field 5 c.cipher ++ (field 6 c.tag ++ [])))))) d₀) r

-- the two bytes of a row as the library makes them
pub row_spelt : (row : ℕ) → to_be_bytes w16 row ≡ big_endian 2 row
unfolding big_endian
row_spelt row = let b : row / 256 ^ 0 % 256 ≡ row % 256 = omega arith in rw b

-- ---- the associated data of a sealed row

module _ (row n : ℕ) (note : List ℕ) (fits : row < 65536) (e : n ≡ pick (between 1 20 row) 0 13) where
  pub data_row : (n ≡ 0 → ⊥) → n ≡ fields_refusal (row_rule ∷ note_rule ∷ []) (big_endian 2 row ∷ note ∷ [])
  data_row h = first_refuses row_rule (note_rule ∷ []) (big_endian 2 row) (note ∷ []) n (e ∙ sym (row_number row fits)) h

  module _ (z : n ≡ 0) where
    after_row : (m : ℕ) → m ≡ field_refusal note_rule note → m ≡ fields_refusal (row_rule ∷ note_rule ∷ []) (big_endian 2 row ∷ note ∷ [])
    after_row m f = others_decide row_rule (note_rule ∷ []) (big_endian 2 row) (note ∷ []) m (f ∙ one_field note_rule note)
        (row_number row fits ∙ sym e ∙ z)

    pub data_note : 1024 < length note → ◌≡◌ {A = ℕ} 12 (fields_refusal (row_rule ∷ note_rule ∷ []) (big_endian 2 row ∷ note ∷ []))
    data_note h = after_row 12 (too_long 4 0 1024 note (omega arith) h)

    pub data_fits : length note ≤ 1024 → fields_refusal (row_rule ∷ note_rule ∷ []) (big_endian 2 row ∷ note ∷ []) ≡ 0
    data_fits h = sym (after_row 0 (sym (fitting 4 0 1024 note (omega arith) h)))

pub data_length : (row : ℕ) (note : List ℕ) → length (row_data row note) ≡ 2 + length note
unfolding row_data
data_length row note = length-append (big_endian 2 row) note ∙ rw (row_length row)

pub data_laid : (row : ℕ) (note bytes d d₁ d₂ : List ℕ) (next : ℕ) → bytes ≡ big_endian 2 row → 2 ≤ length d → d₁ ≡ laid_at 0 bytes d
    → next ≡ 0 + length bytes → d₂ ≡ laid_at next note d₁ → d₂ ≡ laid_at 0 (row_data row note) d
unfolding row_data
data_laid row note bytes d d₁ d₂ next r h e n f =
    let l : length bytes ≡ 2 = ap length r ∙ row_length row in
    f ∙ then_laid d d₁ bytes note 0 next (omega (arith, l, h)) e n ∙ ap (λ (x : List ℕ). laid_at 0 (x ++ note) d) r
