-- The fields of nonce, note, ciphertext and tag: each return of `read_texts`.
-- Assumes nothing.
use mathlib.Core.Path.{◌≡◌, refl, sym, ap, ◌∙◌, subst}
use mathlib.Core.List.{List, [], ◌∷◌}
use Prim.Native.Nat.{ℕ, ◌+◌, ◌-◌, ◌≤◌}
use native.Mathlib.Omega.{arith}
use lib.ListN.{length, take, drop}
use Rattle.octets.proofs.Parts.{rest_is}
use Rattle.fields.specs.Fields.{Rule, Read, refused, got, and_then, take_field, take_fields, plain}
use Rattle.record.specs.HouseRecord.{note_rule, text_rules}
use Rattle.fields.specs.Answers.{part, FieldGot}
use Rattle.record.specs.Parts.{TextsGot}
use Rattle.fields.proofs.FieldAt.{field-refused, field_got, field_end}
use Rattle.fields.proofs.Readings.{stop, go, fields_end}

-- a part that goes to the end, as it is lent
abbrev rest : List ℕ → ℕ → List ℕ
rest s at = take (length s - at) (drop at s)

-- a list of fields at a place: its first field, and then the others at the place after it
module _ (tag least greatest : ℕ) (rules : List Rule) (s : List ℕ) (at : ℕ) where
  stops : (n : ℕ) → take_field (plain tag least greatest) (rest s at) ≡ refused n
      → take_fields (plain tag least greatest ∷ rules) (drop at s) ≡ refused n
  stops n e = stop _ rules (drop at s) n (field-refused (plain tag least greatest) (drop at s) n (rw (rest_is s at) at e))

  module _ (b : ℕ) (f : FieldGot tag least greatest (rest s at) b) where
    read_there : FieldGot tag least greatest (drop at s) b
    read_there = subst (λ (l : List ℕ). FieldGot tag least greatest l b) (rest_is s at) f

    module _ (next : ℕ) (e : next ≡ at + 3 + b) where
      goes : (x : Read (List (List ℕ))) → take_fields rules (drop next s) ≡ x
          → take_fields (plain tag least greatest ∷ rules) (drop at s) ≡ and_then x
          (λ bodies after. got (part s (at + 3) b ∷ bodies) after)
      goes x g =
          go _ rules (drop at s) _ _ (field_got (plain tag least greatest) s at b read_there refl)
          ∙ ap (λ (y : Read (List (List ℕ))). and_then y (λ bodies after. got (part s (at + 3) b ∷ bodies) after)) (rw e at g)

      ends : at ≤ length s → next ≤ length s
      ends h = rw e (field_end (plain tag least greatest) s at b read_there h)

module _ (nonce : ℕ) (s : List ℕ) where
  pub nonce_refused : (n : ℕ) → take_field (plain 3 nonce nonce) s ≡ refused n → take_fields (text_rules nonce) s ≡ refused n
  nonce_refused n e = stop _ _ s n (field-refused (plain 3 nonce nonce) s n e)

  module _ (b₁ : ℕ) (whole : FieldGot 3 nonce nonce s b₁) where
    f₁ : FieldGot 3 nonce nonce (rest s 0) b₁
    f₁ = subst (λ (l : List ℕ). FieldGot 3 nonce nonce l b₁) (sym (rest_is s 0)) whole

    module _ (a₁ : ℕ) (e₁ : a₁ ≡ 3 + b₁) where
      pub nonce_end : a₁ ≤ length s
      nonce_end = ends 3 nonce nonce [] s 0 b₁ f₁ a₁ e₁ (omega arith)

      after_nonce : (n : ℕ) → take_fields (note_rule ∷ plain 5 0 4096 ∷ plain 6 16 16 ∷ []) (drop a₁ s) ≡ refused n
          → take_fields (text_rules nonce) s ≡ refused n
      after_nonce n e = goes 3 nonce nonce _ s 0 b₁ f₁ a₁ e₁ (refused n) e

      pub note_refused : (n : ℕ) → take_field note_rule (rest s a₁) ≡ refused n → take_fields (text_rules nonce) s ≡ refused n
      note_refused n e = after_nonce n (stops 4 0 1024 _ s a₁ n e)

      module _ (b₂ : ℕ) (f₂ : FieldGot 4 0 1024 (rest s a₁) b₂) (a₂ : ℕ) (e₂ : a₂ ≡ a₁ + 3 + b₂) where
        pub note_end : a₂ ≤ length s
        note_end = ends 4 0 1024 [] s a₁ b₂ f₂ a₂ e₂ nonce_end

        after_note : (n : ℕ) → take_fields (plain 5 0 4096 ∷ plain 6 16 16 ∷ []) (drop a₂ s) ≡ refused n → take_fields (text_rules nonce) s ≡
            refused n
        after_note n e = after_nonce n (goes 4 0 1024 _ s a₁ b₂ f₂ a₂ e₂ (refused n) e)

        pub cipher_refused : (n : ℕ) → take_field (plain 5 0 4096) (rest s a₂) ≡ refused n → take_fields (text_rules nonce) s ≡ refused n
        cipher_refused n e = after_note n (stops 5 0 4096 _ s a₂ n e)

        module _ (b₃ : ℕ) (f₃ : FieldGot 5 0 4096 (rest s a₂) b₃) (a₃ : ℕ) (e₃ : a₃ ≡ a₂ + 3 + b₃) where
          pub cipher_end : a₃ ≤ length s
          cipher_end = ends 5 0 4096 [] s a₂ b₃ f₃ a₃ e₃ note_end

          pub tag_refused : (n : ℕ) → take_field (plain 6 16 16) (rest s a₃) ≡ refused n → take_fields (text_rules nonce) s ≡ refused n
          tag_refused n e = after_note n (goes 5 0 4096 _ s a₂ b₃ f₃ a₃ e₃ (refused n) (stops 6 16 16 [] s a₃ n e))

          module _ (b₄ : ℕ) (f₄ : FieldGot 6 16 16 (rest s a₃) b₄) where
            of_nonce : b₁ ≡ nonce
            of_nonce = let a = f₁.allowed in omega (arith, a.0, a.1)

            of_tag : b₄ ≡ 16
            of_tag = let a = f₄.allowed in omega (arith, a.0, a.1)

            pub all_read : TextsGot nonce s (record { note = b₂; cipher = b₃ })
            all_read =
                let n₁ : a₁ ≡ 3 + nonce = omega (arith, of_nonce, e₁) in
                let n₂ : a₂ ≡ 6 + nonce + b₂ = omega (arith, e₂, n₁) in
                let n₃ : a₃ ≡ 9 + nonce + b₂ + b₃ = omega (arith, e₃, n₂) in
                let w = ends 6 16 16 [] s a₃ b₄ f₄ (a₃ + 3 + b₄) refl cipher_end in
                let t = goes 6 16 16 [] s a₃ b₄ f₄ (a₃ + 3 + b₄) refl _ (fields_end _) in
                let m₁ : a₁ + 3 ≡ 6 + nonce = omega (arith, n₁) in
                let m₂ : a₂ + 3 ≡ 9 + nonce + b₂ = omega (arith, n₂) in
                let m₃ : a₃ + 3 ≡ 12 + nonce + b₂ + b₃ = omega (arith, n₃) in
                let m₄ : a₃ + 3 + b₄ ≡ 28 + nonce + b₂ + b₃ = omega (arith, n₃, of_tag) in
                record {
                  given =
                      goes 3 nonce nonce _ s 0 b₁ f₁ a₁ e₁ _
                      (goes 4 0 1024 _ s a₁ b₂ f₂ a₂ e₂ _ (goes 5 0 4096 _ s a₂ b₃ f₃ a₃ e₃ _ t))
                      ∙ rw (m₄, m₃, m₂, m₁, of_nonce, of_tag);
                  within = omega (arith, w, m₄);
                }
