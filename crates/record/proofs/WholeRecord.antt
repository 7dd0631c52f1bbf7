-- A whole record: reading what was written gives it back, and whatever is accepted is what is written for the content that it gives.
-- Assumes nothing.
use mathlib.Core.Path.{◌≡◌, refl, sym, ap, ◌∙◌, subst}
use mathlib.Core.Bool.{Bool, true, false}
use mathlib.Core.List.{List, [], ◌∷◌, ◌++◌}
use Prim.Native.Nat.{ℕ, ◌+◌, ◌/◌, ◌%◌, ◌^◌, ◌≤◌, ◌<◌}
use native.Mathlib.Nat.{suc-ne-zero}
use native.Mathlib.Omega.{arith}
use lib.Dec.{leb}
use lib.ListN.{length, drop, get_or, length-append}
use borrow.Author.Tests.{leb-true}
use Rattle.octets.specs.Octets.{Bytes, pick, big_endian}
use Rattle.suites.specs.Suites.{is_suite, is_deoxys_i, nonce_length}
use Rattle.fields.specs.Fields.{between, number2, Read, got, and_then, take_fields, field, fields, fields_refusal}
use Rattle.record.specs.HouseRecord.{suite_rule, row_rule, rules, row_of, Content, bodies, written, content_of, take_record}
use Rattle.fields.proofs.Ranges.{both}
use Rattle.fields.proofs.Accepting.{Short, through, got_value, got_left, tested, taken_all, Mades, accepted_all, Took, took_all, NotZero, then_not_zero, fields_not_zero}
use Rattle.record.proofs.Sizes.{written-length}

-- the writer takes this content, and its row is a number of sixteen bits
pub record Good (c : Content) : Type 0 where
  pub unrefused : fields_refusal (rules c.suite) (bodies c) ≡ 0
  pub row_fits : c.row < 65536

pub nonce_short : (suite : ℕ) → nonce_length suite ≤ 15
nonce_short suite = by (is_suite suite) (is_deoxys_i suite)
  where
    by : (a b : Bool) → pick a (pick b 8 15) 0 ≤ 15
    by true true = omega arith
    by true false = omega arith
    by false b = omega arith

pub rules_short : (suite : ℕ) → Short (rules suite)
rules_short suite = (omega arith, (omega arith, (omega (arith, nonce_short suite), (omega arith, (omega arith, (omega arith, tt))))))

-- ---- what was written is read

pub row_back : (n : ℕ) → n < 65536 → row_of (big_endian 2 n) ≡ n
unfolding big_endian
row_back n h = omega arith

content_back : (c : Content) → c.row < 65536 → content_of (bodies c) ≡ c
content_back c h = ap (λ (row : ℕ). record {
  suite = c.suite;
  row = row;
  nonce = c.nonce;
  note = c.note;
  cipher = c.cipher;
  tag = c.tag;
}) (row_back c.row h)

suite_fourth : (c : Content) (rest : List ℕ) → get_or (written c ++ rest) 3 0 ≡ c.suite
unfolding written fields field big_endian
suite_fourth c rest = refl

pub read_back : (c : Content) (rest : List ℕ) → Good c → take_record (written c ++ rest) ≡ got c rest
unfolding take_record written
read_back c rest g =
    let e : take_fields (rules (get_or (written c ++ rest) 3 0)) (written c ++ rest) ≡ got (bodies c) rest =
    rw (suite_fourth c rest) (taken_all (rules c.suite) (bodies c) rest (rules_short c.suite) g.unrefused refl) in
    ap (λ (x : Read (List (List ℕ))). and_then x (λ found left. got (content_of found) left)) e
    ∙ ap (λ (x : Content). got x rest) (content_back c g.row_fits)

-- ---- what is accepted was written

pub record Accepted (s : List ℕ) (c : Content) (rest : List ℕ) : Type 0 where
  pub whole : s ≡ written c ++ rest
  pub good : Good c

one_byte : (l : List ℕ) → length l ≡ 1 → get_or l 0 0 ∷ [] ≡ l
one_byte [] e = absurd (suc-ne-zero 0 (sym e))
one_byte (x ∷ []) e = refl
one_byte (x ∷ y ∷ l) e = absurd (suc-ne-zero (length l) (omega (arith, e)))

two_bytes : (l : List ℕ) → length l ≡ 2 → get_or l 0 0 ∷ get_or l 1 0 ∷ [] ≡ l
two_bytes [] e = absurd (suc-ne-zero 1 (sym e))
two_bytes (x ∷ []) e = absurd (suc-ne-zero 0 (omega (arith, e)))
two_bytes (x ∷ y ∷ []) e = refl
two_bytes (x ∷ y ∷ z ∷ l) e = absurd (suc-ne-zero (length l) (omega (arith, e)))

row_again : (y z : ℕ) → y < 256 → z < 256 → big_endian 2 (number2 y z) ≡ y ∷ z ∷ []
unfolding big_endian
row_again y z h k =
    let a : number2 y z / 256 ^ 1 % 256 ≡ y = omega arith in
    let b : number2 y z / 256 ^ 0 % 256 ≡ z = omega arith in
    rw (a, b)

-- six fields, the first of one byte and the second of two
of_six : (s : List ℕ) (u y z : ℕ) (b₃ b₄ b₅ b₆ rest : List ℕ) → Bytes s
    → Mades (rules (get_or s 3 0)) s ((u ∷ []) ∷ (y ∷ z ∷ []) ∷ b₃ ∷ b₄ ∷ b₅ ∷ b₆ ∷ []) rest
    → Accepted s (content_of ((u ∷ []) ∷ (y ∷ z ∷ []) ∷ b₃ ∷ b₄ ∷ b₅ ∷ b₆ ∷ [])) rest
unfolding written fields field big_endian
of_six s u y z b₃ b₄ b₅ b₆ rest h m =
    let e : get_or s 3 0 ≡ u = ap (λ (l : List ℕ). get_or l 3 0) m.whole in
    let hy : y < 256 = subst (λ (n : ℕ). n < 256) (ap (λ (l : List ℕ). get_or l 7 0) m.whole) (h.at 7) in
    let hz : z < 256 = subst (λ (n : ℕ). n < 256) (ap (λ (l : List ℕ). get_or l 8 0) m.whole) (h.at 8) in
    let row = row_again y z hy hz in
    record {
      whole = m.whole ∙ sym (ap (λ (l : List ℕ). fields (rules u) ((u ∷ []) ∷ l ∷ b₃ ∷ b₄ ∷ b₅ ∷ b₆ ∷ []) ++ rest) row);
      good = record { unrefused = rw row (rw e at m.number); row_fits = omega arith };
    }

pub exactly : (n m : ℕ) → between n n m ≡ true → m ≡ n
exactly n m e =
    let b = both (leb n m) (leb m n) e in
    let l = leb-true n m b.0 in
    let g = leb-true m n b.1 in
    omega (arith, l, g)

-- six fields, whatever they hold
six : (l : List (List ℕ)) → length l ≡ 6
    → get_or l 0 [] ∷ get_or l 1 [] ∷ get_or l 2 [] ∷ get_or l 3 [] ∷ get_or l 4 [] ∷ get_or l 5 [] ∷ [] ≡ l
six [] e = absurd (suc-ne-zero 5 (sym e))
six (a ∷ []) e = absurd (suc-ne-zero 4 (omega (arith, e)))
six (a ∷ b ∷ []) e = absurd (suc-ne-zero 3 (omega (arith, e)))
six (a ∷ b ∷ c ∷ []) e = absurd (suc-ne-zero 2 (omega (arith, e)))
six (a ∷ b ∷ c ∷ d ∷ []) e = absurd (suc-ne-zero 1 (omega (arith, e)))
six (a ∷ b ∷ c ∷ d ∷ f ∷ []) e = absurd (suc-ne-zero 0 (omega (arith, e)))
six (a ∷ b ∷ c ∷ d ∷ f ∷ g ∷ []) e = refl
six (a ∷ b ∷ c ∷ d ∷ f ∷ g ∷ h ∷ l) e = absurd (suc-ne-zero (length l) (omega (arith, e)))

of_found : (s : List ℕ) (found : List (List ℕ)) (rest : List ℕ) → Bytes s → Mades (rules (get_or s 3 0)) s found rest → Accepted s
    (content_of found) rest
unfolding fields_refusal
of_found s found rest h m =
    let b₁ = get_or found 0 [] in
    let b₂ = get_or found 1 [] in
    let texts = get_or found 2 [] ∷ get_or found 3 [] ∷ get_or found 4 [] ∷ get_or found 5 [] ∷ [] in
    let m' = subst (λ (l : List (List ℕ)). Mades (rules (get_or s 3 0)) s l rest) (sym (six found m.count)) m in
    let t = tested suite_rule b₁ _ m'.number in
    let r = tested row_rule b₂ _ t.2 in
    let one = one_byte b₁ (exactly 1 (length b₁) t.0) in
    let two = two_bytes b₂ (exactly 2 (length b₂) r.0) in
    of_six s (get_or b₁ 0 0) (get_or b₂ 0 0) (get_or b₂ 1 0) _ _ _ _ rest h
    (subst (λ (l : List ℕ). Mades (rules (get_or s 3 0)) s (l ∷ (get_or b₂ 0 0 ∷ get_or b₂ 1 0 ∷ []) ∷ texts) rest) (sym one)
    (subst (λ (l : List ℕ). Mades (rules (get_or s 3 0)) s (b₁ ∷ l ∷ texts) rest) (sym two) m'))

pub accepted_record : (s : List ℕ) (c : Content) (rest : List ℕ) → Bytes s → take_record s ≡ got c rest → Accepted s c rest
unfolding take_record
accepted_record s c rest h e =
    let a = through (take_fields (rules (get_or s 3 0)) s) _ e in
    let m = accepted_all (rules (get_or s 3 0)) s a.first a.between h a.got_first in
    let f = of_found s a.first a.between h m in
    subst (λ (x : Content). Accepted s x rest) (got_value a.got_then)
    (subst (λ (l : List ℕ). Accepted s (content_of a.first) l) (got_left a.got_then) f)

pub record_not_zero : (s : List ℕ) → NotZero (take_record s)
unfolding take_record
record_not_zero s = then_not_zero (take_fields (rules (get_or s 3 0)) s) _ (fields_not_zero (rules (get_or s 3 0)) s) (λ found left. tt)

-- ---- how far a record goes

six_lengths : (suite : ℕ) (b₁ b₂ b₃ b₄ b₅ b₆ : List ℕ) → length b₁ ≡ 1 → length b₂ ≡ 2
    → length (fields (rules suite) (b₁ ∷ b₂ ∷ b₃ ∷ b₄ ∷ b₅ ∷ b₆ ∷ [])) ≡ 21 + length b₃ + length b₄ + length b₅ + length b₆
unfolding fields field big_endian
six_lengths suite b₁ b₂ b₃ b₄ b₅ b₆ e f = simp length-append (omega arith)

-- the lengths of a record that was taken
pub record Lengths (c : Content) : Type 0 where
  pub of_nonce : length c.nonce ≤ 15
  pub of_note : length c.note ≤ 1024
  pub of_cipher : length c.cipher ≤ 4096
  pub of_tag : length c.tag ≡ 16

pub record Gone (s : List ℕ) (c : Content) (rest : List ℕ) : Type 0 where
  pub left : rest ≡ drop (length (written c)) s
  pub within : length (written c) ≤ length s
  pub lengths : Lengths c

at_most : (n m : ℕ) → between 0 n m ≡ true → m ≤ n
at_most n m e = leb-true m n (both (leb 0 m) (leb m n) e).1

pub took_record : (s : List ℕ) (c : Content) (rest : List ℕ) → take_record s ≡ got c rest → Gone s c rest
unfolding take_record
took_record s c rest e =
    let a = through (take_fields (rules (get_or s 3 0)) s) _ e in
    let k = took_all (rules (get_or s 3 0)) s a.first a.between a.got_first in
    subst (λ (x : Content). Gone s x rest) (got_value a.got_then)
    (far a.first a.between (got_left a.got_then)
    (subst (λ (l : List (List ℕ)). Took (rules (get_or s 3 0)) s l a.between) (sym (six a.first k.count)) k))
  where
    far : (found : List (List ℕ)) (left : List ℕ) → left ≡ rest
        → Took (rules (get_or s 3 0)) s
        (get_or found 0 [] ∷ get_or found 1 [] ∷ get_or found 2 [] ∷ get_or found 3 [] ∷ get_or found 4 [] ∷ get_or found 5 [] ∷ []) left
        → Gone s (content_of found) rest
    far found left er t =
        let n : length (fields (rules (get_or s 3 0))
        (get_or found 0 [] ∷ get_or found 1 [] ∷ get_or found 2 [] ∷ get_or found 3 [] ∷ get_or found 4 [] ∷ get_or found 5 [] ∷ []))
        ≡ length (written (content_of found)) =
        six_lengths (get_or s 3 0) _ _ _ _ _ _ (exactly 1 _ t.sized.0) (exactly 2 _ t.sized.1.0)
        ∙ sym (written-length (content_of found)) in
        let texts = t.sized.1.1 in
        let m = exactly (nonce_length (get_or s 3 0)) (length (get_or found 2 [])) texts.0 in
        record {
          left = rw (← er, ← n) t.left;
          within = rw (← n) t.within;
          lengths = record {
            of_nonce = let b = nonce_short (get_or s 3 0) in omega (arith, m, b);
            of_note = at_most 1024 _ texts.1.0;
            of_cipher = at_most 4096 _ texts.1.1.0;
            of_tag = exactly 16 _ texts.1.1.1.0;
          };
        }
