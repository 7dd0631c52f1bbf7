-- Each return of `write`: refused by suite or row, by a text's length, for want of room, or laid.
-- Assumes nothing.
use mathlib.Core.Path.{◌≡◌, sym, ◌∙◌}
use mathlib.Core.List.{List, [], ◌∷◌}
use Prim.Native.Nat.{ℕ, ◌+◌, ◌≤◌, ◌<◌}
use native.Mathlib.Omega.{arith}
use lib.ListN.{length}
use Rattle.octets.specs.Octets.{big_endian}
use Rattle.suites.specs.Suites.{nonce_length}
use Rattle.fields.specs.Fields.{fields_refusal}
use Rattle.fields.specs.Answers.{laid_at}
use Rattle.record.specs.HouseRecord.{suite_rule, row_rule, text_rules, rules, Content, bodies, written, Writing, writing}
use Rattle.record.proofs.Sizes.{written-length}
use Rattle.record.proofs.Writings.{head_refuses, texts_refuse, fit, refused_out, short_out, done_out}

module _ (c : Content) (d : List ℕ) (n : ℕ) (e : n ≡ fields_refusal (suite_rule ∷ row_rule ∷ []) ((c.suite ∷ []) ∷ big_endian 2 c.row ∷ []))
  where
    pub by_head : (n ≡ 0 → ⊥)
        → ◌≡◌ {A = Writing} (record { answer = record { number = n; length = 0 }; destination = d }) (writing c d)
    unfolding writing
    by_head h = refused_out _ (written c) d n (head_refuses c n e h) h

    module _ (z : n ≡ 0) (k : ℕ) (of-suite : k ≡ nonce_length c.suite) (m : ℕ)
        (f : m ≡ fields_refusal (text_rules k) (c.nonce ∷ c.note ∷ c.cipher ∷ c.tag ∷ [])) where
      refusal : m ≡ fields_refusal (rules c.suite) (bodies c)
      refusal = texts_refuse c n e z m (rw of-suite at f)

      pub by_texts : (m ≡ 0 → ⊥)
          → ◌≡◌ {A = Writing} (record { answer = record { number = m; length = 0 }; destination = d }) (writing c d)
      unfolding writing
      by_texts h = refused_out _ (written c) d m refusal h

      module _ (y : m ≡ 0) where
        whole : (bytes : ℕ) → bytes ≡ 37 + length c.nonce + length c.note + length c.cipher → bytes ≡ length (written c)
        whole bytes sum =
            let w = written-length c in
            let t = (fit k c.nonce c.note c.cipher c.tag (sym f ∙ y)).of_tag in
            omega (arith, w, t, sum)

        pub by_room : (bytes : ℕ) → length d < bytes → bytes ≡ 37 + length c.nonce + length c.note + length c.cipher
            → ◌≡◌ {A = Writing} (record { answer = record { number = 24; length = 0 }; destination = d }) (writing c d)
        unfolding writing
        by_room bytes h sum = let w = whole bytes sum in short_out _ (written c) d (sym refusal ∙ y) (omega (arith, w, h))

        pub by_laying : (bytes : ℕ) (laid : List ℕ) → bytes ≤ length d → laid ≡ laid_at 0 (written c) d
            → bytes ≡ 37 + length c.nonce + length c.note + length c.cipher
            → ◌≡◌ {A = Writing} (record { answer = record { number = 0; length = bytes }; destination = laid }) (writing c d)
        unfolding writing
        by_laying bytes laid h q sum =
            let w = whole bytes sum in
            done_out _ (written c) d (sym refusal ∙ y) bytes laid w q (omega (arith, w, h))
