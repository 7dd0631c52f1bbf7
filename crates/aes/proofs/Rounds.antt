-- Each step of a round and the round itself keep blocks and are undone by their inverses; FIPS 197, 5.3.5: the equivalent inverse round
-- is the inverse round with its key mixed.
-- Assumes nothing.
use mathlib.Core.Path.{◌≡◌, refl, sym, ap, ◌∙◌}
use mathlib.Core.List.{List}
use Prim.Native.Nat.{ℕ}
use lib.ListN.{get_or}
use Rattle.octets.specs.Octets.{Bytes, Block, ◌⊕◌, table, each_byte}
use Rattle.octets.proofs.Xor.{⊕_block, block_back}
use Rattle.octets.proofs.Tables.{table_block, table_at, table_eq, spelt, each_block, each_undone}
use Rattle.field.specs.Substitution.{sub, inv_sub}
use Rattle.aes.specs.Round.{sub_bytes, inv_sub_bytes, shift_rows, inv_shift_rows, mix_columns, inv_mix_columns, round, inv_round, equiv_inv_round}
use Rattle.field.proofs.Substitution.{sub_lt, inv_sub_lt, sub-inv_sub, inv_sub-sub}
use Rattle.aes.proofs.Mixing.{inv_mix_mix, mix_inv_mix, inv_mix_xor, mix_block, inv_mix_block}

-- ---- substitution, also by a table of its 256 values

pub sub_block : {s : List ℕ} → Bytes s → Block (sub_bytes s)
unfolding sub_bytes
sub_block = each_block sub_lt

pub inv_sub_block : {s : List ℕ} → Bytes s → Block (inv_sub_bytes s)
unfolding inv_sub_bytes
inv_sub_block = each_block inv_sub_lt

inv_sub-sub_bytes : {s : List ℕ} → Block s → inv_sub_bytes (sub_bytes s) ≡ s
unfolding sub_bytes inv_sub_bytes
inv_sub-sub_bytes = each_undone sub inv_sub inv_sub-sub

sub-inv_sub_bytes : {s : List ℕ} → Block s → sub_bytes (inv_sub_bytes s) ≡ s
unfolding sub_bytes inv_sub_bytes
sub-inv_sub_bytes = each_undone inv_sub sub sub-inv_sub

pub by_table : (f : ℕ → ℕ) {s : List ℕ} → Bytes s → each_byte (λ x. get_or (table f 256) x 0) s ≡ each_byte f s
unfolding each_byte
by_table f {s} p = table_eq _ _ 16 (λ i h. table_at f 256 (get_or s i 0) (p.at i))

-- ---- rows

pub shift_block : {s : List ℕ} → Bytes s → Block (shift_rows s)
unfolding shift_rows
shift_block p = table_block _ (λ i h. p.at _)

pub inv_shift_block : {s : List ℕ} → Bytes s → Block (inv_shift_rows s)
unfolding inv_shift_rows
inv_shift_block p = table_block _ (λ i h. p.at _)

inv_shift_shift : {s : List ℕ} → Block s → inv_shift_rows (shift_rows s) ≡ s
unfolding shift_rows inv_shift_rows table
inv_shift_shift {s} p = spelt s p.size

shift_inv_shift : {s : List ℕ} → Block s → shift_rows (inv_shift_rows s) ≡ s
unfolding shift_rows inv_shift_rows table
shift_inv_shift {s} p = spelt s p.size

inv_shift_inv_sub : (s : List ℕ) → inv_shift_rows (inv_sub_bytes s) ≡ inv_sub_bytes (inv_shift_rows s)
unfolding inv_shift_rows inv_sub_bytes each_byte table
inv_shift_inv_sub s = refl

-- ---- the round

module _ {s key : List ℕ} (p : Block s) (q : Block key) where
  pub round_block : Block (round s key)
  unfolding round
  round_block = ⊕_block (mix_block (shift_block (sub_block p.bytes).bytes).bytes) q

  pub inv_round_block : Block (inv_round s key)
  unfolding inv_round
  inv_round_block = inv_sub_block (inv_shift_block (inv_mix_block (⊕_block p q).bytes).bytes).bytes

  pub equiv_block : Block (equiv_inv_round s key)
  unfolding equiv_inv_round
  equiv_block = ⊕_block (inv_mix_block (inv_shift_block (inv_sub_block p.bytes).bytes).bytes) q

  pub inv_round-round : inv_round (round s key) key ≡ s
  unfolding round inv_round
  inv_round-round =
      let a = sub_block p.bytes in
      let b = shift_block a.bytes in
      ap (λ (t : List ℕ). inv_sub_bytes (inv_shift_rows (inv_mix_columns t))) (block_back (mix_block b.bytes) q)
      ∙ ap (λ (t : List ℕ). inv_sub_bytes (inv_shift_rows t)) (inv_mix_mix b)
      ∙ ap inv_sub_bytes (inv_shift_shift a)
      ∙ inv_sub-sub_bytes p

  pub round-inv_round : round (inv_round s key) key ≡ s
  unfolding round inv_round
  round-inv_round =
      let a = ⊕_block p q in
      let b = inv_mix_block a.bytes in
      ap (λ (t : List ℕ). mix_columns (shift_rows t) ⊕ key) (sub-inv_sub_bytes (inv_shift_block b.bytes))
      ∙ ap (λ (t : List ℕ). mix_columns t ⊕ key) (shift_inv_shift b)
      ∙ ap (λ (t : List ℕ). t ⊕ key) (mix_inv_mix a)
      ∙ block_back p q

  pub equiv_inv_round_lem : equiv_inv_round s (inv_mix_columns key) ≡ inv_mix_columns (inv_sub_bytes (inv_shift_rows s) ⊕ key)
  unfolding equiv_inv_round
  equiv_inv_round_lem =
      sym (inv_mix_xor (inv_shift_block (inv_sub_block p.bytes).bytes) q)
      ∙ ap (λ (t : List ℕ). inv_mix_columns (t ⊕ key)) (inv_shift_inv_sub s)
