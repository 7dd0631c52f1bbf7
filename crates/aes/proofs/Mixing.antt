-- Mixing and its inverse: they undo each other, keep XOR and keep blocks. By columns: what is said of one column by a computed test on
-- the powers of 2 (proofs/Linear) holds of the four.
-- Assumes nothing.
use mathlib.Core.Path.{◌≡◌, refl, ◌∙◌}
use mathlib.Core.List.{List}
use Prim.Native.Nat.{ℕ, ◌+◌, ◌*◌, ◌/◌, ◌%◌, ◌<◌}
use native.Mathlib.Omega.{arith}
use lib.Bits.{bit_xor, xor_lt}
use lib.ListN.{length, get_or}
use Rattle.octets.specs.Octets.{Bytes, Block, ◌⊕◌, table, each_byte}
use Rattle.octets.proofs.Xor.{⊕_at}
use Rattle.octets.proofs.Tables.{table_block, table_eq, spelt}
use Rattle.field.specs.Field.{double, times}
use Rattle.aes.specs.Round.{byte_at, mix_byte, unmix_byte, by_columns, mix_columns, inv_mix_columns}
use Rattle.aes.proofs.Linear.{times_lt, Additive, first, second, third, fourth, sum, product, doubled, after, same}

-- ---- one column

mix_additive : Additive mix_byte
unfolding mix_byte
mix_additive = sum (sum (product first 2) (product second 3)) (sum (product third 1) (product fourth 1))

unmix_additive : Additive unmix_byte
unfolding unmix_byte
unmix_additive = sum (sum (product first 14) (product second 11)) (sum (product third 13) (product fourth 9))

-- f on a column that g was applied to, byte by byte
abbrev through : (ℕ → ℕ → ℕ → ℕ → ℕ) → (ℕ → ℕ → ℕ → ℕ → ℕ) → ℕ → ℕ → ℕ → ℕ → ℕ
through f g a b c d = f (g a b c d) (g b c d a) (g c d a b) (g d a b c)

through_additive : {f g : ℕ → ℕ → ℕ → ℕ → ℕ} → Additive f → Additive g → Additive (through f g)
through_additive p q = after p q (after q second third fourth first) (after q third fourth first second) (after q fourth first second third)

unmix_mix : (a b c d : ℕ) → a < 256 → b < 256 → c < 256 → d < 256 → through unmix_byte mix_byte a b c d ≡ a
unfolding mix_byte unmix_byte times double
unmix_mix = same (through_additive unmix_additive mix_additive) first (tt, tt, tt, tt)

mix_unmix : (a b c d : ℕ) → a < 256 → b < 256 → c < 256 → d < 256 → through mix_byte unmix_byte a b c d ≡ a
unfolding mix_byte unmix_byte times double
mix_unmix = same (through_additive mix_additive unmix_additive) first (tt, tt, tt, tt)

-- mixing by one doubling
pub mix_by_double : (a b c d : ℕ) → a < 256 → b < 256 → c < 256 → d < 256
    → bit_xor (bit_xor (bit_xor (double (bit_xor a b)) b) c) d ≡ mix_byte a b c d
unfolding mix_byte times double
mix_by_double = same (sum (sum (sum (doubled (sum first second)) second) third) fourth) mix_additive (tt, tt, tt, tt)

-- a column with 4 • (a ⊕ c) XORed into a, and so on: its mixing is the column's inverse mixing
abbrev pub fold_byte : ℕ → ℕ → ℕ → ℕ → ℕ
fold_byte a b c d = bit_xor a (double (double (bit_xor a c)))

fold_additive : Additive fold_byte
fold_additive = sum first (doubled (doubled (sum first third)))

mix_fold : (a b c d : ℕ) → a < 256 → b < 256 → c < 256 → d < 256 → through mix_byte fold_byte a b c d ≡ unmix_byte a b c d
unfolding mix_byte unmix_byte times double
mix_fold = same (through_additive mix_additive fold_additive) unmix_additive (tt, tt, tt, tt)

-- ---- the four columns

module _ (f g : ℕ → ℕ → ℕ → ℕ → ℕ) where
  columns_through : (s : List ℕ) → by_columns f (by_columns g s) ≡ by_columns (through f g) s
  unfolding table
  columns_through s = refl

  columns_eq : (s : List ℕ) → Bytes s → ((a b c d : ℕ) → a < 256 → b < 256 → c < 256 → d < 256 → f a b c d ≡ g a b c d)
      → by_columns f s ≡ by_columns g s
  columns_eq s p e = table_eq _ _ 16 (λ i h. e _ _ _ _ (p.at _) (p.at _) (p.at _) (p.at _))

first_column : (s : List ℕ) → by_columns (λ a b c d. a) s ≡ table (λ i. get_or s i 0) 16
unfolding table
first_column s = refl

columns_undone : (f g : ℕ → ℕ → ℕ → ℕ → ℕ) {s : List ℕ} → ((a b c d : ℕ) → a < 256 → b < 256 → c < 256 → d < 256 → through f g a b c d ≡ a)
    → Block s → by_columns f (by_columns g s) ≡ s
columns_undone f g {s} e p =
    columns_through f g s ∙ columns_eq (through f g) (λ a b c d. a) s p.bytes e ∙ first_column s ∙ spelt s p.size

pub inv_mix_mix : {s : List ℕ} → Block s → inv_mix_columns (mix_columns s) ≡ s
unfolding mix_columns inv_mix_columns
inv_mix_mix = columns_undone unmix_byte mix_byte unmix_mix

pub mix_inv_mix : {s : List ℕ} → Block s → mix_columns (inv_mix_columns s) ≡ s
unfolding mix_columns inv_mix_columns
mix_inv_mix = columns_undone mix_byte unmix_byte mix_unmix

-- whole blocks at once, with the bytes two places below
folded_spelt : (s : List ℕ)
    → table (λ i. get_or s i 0) 16
    ⊕ each_byte double (each_byte double (table (λ i. get_or s i 0) 16 ⊕ table (λ j. byte_at s ((j + 2) % 4) (j / 4)) 16))
    ≡ by_columns fold_byte s
unfolding table each_byte ◌⊕◌
folded_spelt s = refl

pub folded_is : (s : List ℕ) → length s ≡ 16
    → s ⊕ each_byte double (each_byte double (s ⊕ table (λ j. byte_at s ((j + 2) % 4) (j / 4)) 16)) ≡ by_columns fold_byte s
folded_is s e = rw (spelt s e) at (folded_spelt s)

pub mix_folded : {s : List ℕ} → Bytes s → mix_columns (by_columns fold_byte s) ≡ inv_mix_columns s
unfolding mix_columns inv_mix_columns
mix_folded {s} p = columns_through mix_byte fold_byte s ∙ columns_eq (through mix_byte fold_byte) unmix_byte s p mix_fold

sum_table : (p q : ℕ → ℕ) → table (λ i. bit_xor (p i) (q i)) 16 ≡ table p 16 ⊕ table q 16
unfolding table ◌⊕◌
sum_table p q = refl

columns_xor : (f : ℕ → ℕ → ℕ → ℕ → ℕ) {s t : List ℕ} → Additive f → Block s → Block t → by_columns f (s ⊕ t) ≡ by_columns f s ⊕ by_columns f t
columns_xor f {s} {t} p hs ht =
    table_eq _ _ 16
    (λ i h.
    rw (at (i % 4) (i / 4) (omega arith), at ((i + 1) % 4) (i / 4) (omega arith), at ((i + 2) % 4) (i / 4) (omega arith), at ((i + 3) % 4) (i / 4) (omega arith))
    (p.keeps _ _ _ _ _ _ _ _))
    ∙ sum_table _ _
  where
    at : (row column : ℕ) → row + 4 * column < 16 → byte_at (s ⊕ t) row column ≡ bit_xor (byte_at s row column) (byte_at t row column)
    at row column h =
        let a : length s ≡ 16 = hs.size in
        let b : length t ≡ 16 = ht.size in
        ⊕_at s t (row + 4 * column) (omega arith) (omega arith)

pub inv_mix_xor : {s t : List ℕ} → Block s → Block t → inv_mix_columns (s ⊕ t) ≡ inv_mix_columns s ⊕ inv_mix_columns t
unfolding inv_mix_columns
inv_mix_xor = columns_xor unmix_byte unmix_additive

-- ---- blocks stay blocks

sum_lt : (p q r s a b c d : ℕ) → a < 256 → b < 256 → c < 256 → d < 256
    → bit_xor (bit_xor (times p a) (times q b)) (bit_xor (times r c) (times s d)) < 256
sum_lt p q r s a b c d ha hb hc hd =
    xor_lt 8 (bit_xor (times p a) (times q b)) (bit_xor (times r c) (times s d))
    (xor_lt 8 (times p a) (times q b) (times_lt p a ha) (times_lt q b hb))
    (xor_lt 8 (times r c) (times s d) (times_lt r c hc) (times_lt s d hd))

pub mix_block : {s : List ℕ} → Bytes s → Block (mix_columns s)
unfolding mix_columns mix_byte
mix_block {s} p = table_block _ (λ i h. sum_lt 2 3 1 1 _ _ _ _ (p.at _) (p.at _) (p.at _) (p.at _))

pub inv_mix_block : {s : List ℕ} → Bytes s → Block (inv_mix_columns s)
unfolding inv_mix_columns unmix_byte
inv_mix_block {s} p = table_block _ (λ i h. sum_lt 14 11 13 9 _ _ _ _ (p.at _) (p.at _) (p.at _) (p.at _))
