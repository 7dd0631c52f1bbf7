-- The fields of suite and row: each return of `read_head`.
-- Assumes nothing.
use mathlib.Core.Path.{◌≡◌, ap, ◌∙◌, subst}
use mathlib.Core.Bool.{true, false}
use mathlib.Core.List.{List, [], ◌∷◌}
use Prim.Native.Nat.{ℕ, ◌-◌, ◌≤◌}
use native.Mathlib.Omega.{arith}
use lib.ListN.{length, take, drop, get_or}
use Rattle.std.specs.Prelude.{Result, Ok, Err}
use Rattle.fields.specs.declared.Refused.{Refused}
use Rattle.fields.specs.declared.Refused.TheVariants.{OutOfRange}
use Rattle.octets.proofs.Parts.{rest_is}
use Rattle.fields.specs.Fields.{between, number2, refused, got, and_then, take_field, take_fields, plain}
use Rattle.record.specs.HouseRecord.{suite_rule, row_rule, row_of}
use Rattle.fields.specs.Answers.{part, FieldGot, Tested}
use Rattle.record.specs.Parts.{HeadGot, HeadRead}
use Rattle.fields.proofs.FieldAt.{part_at, field-refused, field_got, field_out, field_end}
use Rattle.fields.proofs.Readings.{stop, go, fields_end}

module _ (s : List ℕ) where
  suite_byte : between 1 4 (get_or (part s 3 1) 0 0) ≡ between 1 4 (get_or s 3 0)
  suite_byte = ap (λ (x : ℕ). between 1 4 x) (part_at s 3 1 0 (omega arith))

  row_bytes : row_of (part s 7 2) ≡ number2 (get_or s 7 0) (get_or s 8 0)
  row_bytes = rw (part_at s 7 2 0 (omega arith), part_at s 7 2 1 (omega arith))

  pub suite_refused : (n : ℕ) → take_field (plain 1 1 1) s ≡ refused n → take_fields (suite_rule ∷ row_rule ∷ []) s ≡ refused n
  suite_refused n e = stop suite_rule _ s n (field-refused suite_rule s n e)

  module _ (b : ℕ) (f : FieldGot 1 1 1 s b) where
    one : b ≡ 1
    one = let a = f.allowed in omega (arith, a.0, a.1)

    pub suite_room : 4 ≤ length s
    suite_room = rw one at f.within

    pub suite_out : between 1 4 (get_or s 3 0) ≡ false → take_fields (suite_rule ∷ row_rule ∷ []) s ≡ refused 13
    suite_out e = stop suite_rule _ s 13 (field_out suite_rule s 0 b f (rw one (suite_byte ∙ e)))

    module _ (in-suites : between 1 4 (get_or s 3 0) ≡ true) where
      after_suite : take_fields (suite_rule ∷ row_rule ∷ []) s ≡ and_then (take_fields (row_rule ∷ []) (drop 4 s))
          (λ bodies after. got (part s 3 1 ∷ bodies) after)
      after_suite = go suite_rule _ s _ _ (rw one at (field_got suite_rule s 0 b f (rw one (suite_byte ∙ in-suites))))

      then_refused : (n : ℕ) → take_fields (row_rule ∷ []) (drop 4 s) ≡ refused n → take_fields (suite_rule ∷ row_rule ∷ []) s ≡ refused n
      then_refused n e = after_suite ∙ rw e

      pub row_refused : (n : ℕ) → take_field (plain 2 2 2) (take (length s - 4) (drop 4 s)) ≡ refused n
          → take_fields (suite_rule ∷ row_rule ∷ []) s ≡ refused n
      row_refused n e = then_refused n (stop row_rule [] (drop 4 s) n (field-refused row_rule (drop 4 s) n (rw (rest_is s 4) at e)))

      module _ (q : ℕ) (lent : FieldGot 2 2 2 (take (length s - 4) (drop 4 s)) q) where
        g : FieldGot 2 2 2 (drop 4 s) q
        g = subst (λ (l : List ℕ). FieldGot 2 2 2 l q) (rest_is s 4) lent

        two : q ≡ 2
        two = let a = g.allowed in omega (arith, a.0, a.1)

        pub row_room : 9 ≤ length s
        row_room = rw two at (field_end row_rule s 4 q g suite_room)

        row_out : between 1 20 (number2 (get_or s 7 0) (get_or s 8 0)) ≡ false → take_fields (suite_rule ∷ row_rule ∷ []) s ≡ refused 13
        row_out e = then_refused 13 (stop row_rule [] (drop 4 s) 13 (field_out row_rule s 4 q g (rw (two, row_bytes) e)))

        head_read : between 1 20 (number2 (get_or s 7 0) (get_or s 8 0)) ≡ true → HeadGot s
        head_read e = record {
          given = after_suite ∙ rw (go row_rule [] (drop 4 s) _ _ (rw two at (field_got row_rule s 4 q g (rw (two, row_bytes) e))), fields_end);
          within = row_room;
        }

        pub row_range : (r : Result Unit Refused) → Tested (between 1 20 (number2 (get_or s 7 0) (get_or s 8 0))) OutOfRange r → HeadRead s r
        row_range (Ok done) h = head_read h
        row_range (Err e) h = rw h.0 (row_out h.1)
