-- The schedule's steps keep blocks, the LFSRs undo each other, and a TK3 of zeros adds nothing.
-- Assumes nothing.
use mathlib.Core.Path.{◌≡◌, refl, ap, ap₂, ◌∙◌}
use mathlib.Core.Bool.{Bool, true, false}
use mathlib.Core.Logic.{◌⊎◌, inl, inr, ⊎_elim}
use mathlib.Core.List.{List, ◌++◌}
use Prim.Native.Nat.{ℕ, zero, suc, ◌+◌, ◌-◌, ◌*◌, ◌≤◌, ◌<◌}
use native.Mathlib.Numerals.{add-one}
use native.Mathlib.Omega.{arith}
use lib.Dec.{eqb}
use lib.ListN.{length, get_or, take, drop, replicate, length-drop}
use lib.Seq.{take_all}
use borrow.Author.Tests.{eq-eqb, ne_eqb}
use Rattle.octets.specs.Octets.{Bytes, Block, pick, ◌⊕◌, table, each_byte, zero_block, block_at}
use Rattle.octets.proofs.Xor.{⊕_block, ⊕-length, zero_⊕}
use Rattle.octets.proofs.Parts.{part_length}
use Rattle.octets.proofs.Tables.{bounded, agreed, is_table, table_block, each_block}
use Rattle.tweakey.specs.Tweakey.{places, h, lfsr2, lfsr3, repeated, tk2, tk3, tweak_after, constant_block, key_part, rounds_of, joined, flat, expanded, round_key}
use Rattle.tweakey.specs.declared.Subkeys.{Subkeys}

-- ---- the LFSRs, by tests over every byte: document 01, "each undoes the other"

pub lfsr3-lfsr2 : (x : ℕ) → x < 256 → lfsr3 (lfsr2 x) ≡ x
unfolding lfsr2 lfsr3
lfsr3-lfsr2 = agreed (λ x. lfsr3 (lfsr2 x)) (λ x. x) 256 tt

pub lfsr2-lfsr3 : (x : ℕ) → x < 256 → lfsr2 (lfsr3 x) ≡ x
unfolding lfsr2 lfsr3
lfsr2-lfsr3 = agreed (λ x. lfsr2 (lfsr3 x)) (λ x. x) 256 tt

lfsr2_lt : (x : ℕ) → x < 256 → lfsr2 x < 256
unfolding lfsr2
lfsr2_lt = bounded lfsr2 256 256 tt

lfsr3_lt : (x : ℕ) → x < 256 → lfsr3 x < 256
unfolding lfsr3
lfsr3_lt = bounded lfsr3 256 256 tt

-- ---- blocks stay blocks

-- a block that has f's value at each place
pub replaced : (f : ℕ → ℕ) (s t : List ℕ) → length t ≡ 16 → ((i : ℕ) → i < 16 → get_or t i 0 ≡ f (get_or s i 0)) → t ≡ each_byte f s
unfolding each_byte
replaced f s t e h = is_table (λ i. f (get_or s i 0)) 16 t e h

pub place_below : (i : ℕ) → i < 16 → get_or places i 0 < 16
unfolding places
place_below = bounded (λ i. get_or places i 0) 16 16 tt

-- the same of a list that is known to be the places
pub listed_place_below : (perm : List ℕ) (i : ℕ) → perm ≡ places → i < 16 → get_or perm i 0 < 16
listed_place_below perm i e h = rw e (place_below i h)

pub h_block : {s : List ℕ} → Bytes s → Block (h s)
unfolding h
h_block p = table_block _ (λ i b. p.at _)

repeated_block : (f : List ℕ → List ℕ) → ((s : List ℕ) → Bytes s → Block (f s)) → (n : ℕ) {s : List ℕ} → Block s → Block (repeated f n s)
repeated_block f keeps zero p = p
repeated_block f keeps (suc n) {s} p = keeps (repeated f n s) (repeated_block f keeps n p).bytes

pub tweak_block : (i : ℕ) {s : List ℕ} → Block s → Block (tweak_after i s)
unfolding tweak_after
tweak_block = repeated_block h (λ s p. h_block p)

pub tk2_block : (i : ℕ) {s : List ℕ} → Block s → Block (tk2 i s)
unfolding tk2
tk2_block = repeated_block (λ t. each_byte lfsr2 (h t)) (λ s p. each_block lfsr2_lt (h_block p).bytes)

pub tk3_block : (i : ℕ) {s : List ℕ} → Block s → Block (tk3 i s)
unfolding tk3
tk3_block = repeated_block (λ t. each_byte lfsr3 (h t)) (λ s p. each_block lfsr3_lt (h_block p).bytes)

-- ---- one step more

pub tweak_step : (i : ℕ) (s : List ℕ) → h (tweak_after i s) ≡ tweak_after (i + 1) s
unfolding tweak_after
tweak_step i s = rw add-one

pub tk2_step : (i : ℕ) (s : List ℕ) → each_byte lfsr2 (h (tk2 i s)) ≡ tk2 (i + 1) s
unfolding tk2
tk2_step i s = rw add-one

pub tk3_step : (i : ℕ) (s : List ℕ) → each_byte lfsr3 (h (tk3 i s)) ≡ tk3 (i + 1) s
unfolding tk3
tk3_step i s = rw add-one

pub constant_length : (i : ℕ) → length (constant_block i) ≡ 16
unfolding constant_block
constant_length i = refl

-- ---- a 16-byte key: a TK3 of zeros stays zero

zeros_stay : (i : ℕ) → tk3 i zero_block ≡ zero_block
unfolding tk3 zero_block each_byte h places lfsr3 table
zeros_stay zero = refl
zeros_stay (suc i) = ap (λ (t : List ℕ). each_byte lfsr3 (h t)) (zeros_stay i) ∙ step
  where
    step : each_byte lfsr3 (h (replicate 16 0)) ≡ replicate 16 0
    step = refl

without_tk3 : (i : ℕ) {s : List ℕ} → Block s → tk3 i zero_block ⊕ tk2 i s ≡ tk2 i s
without_tk3 i {s} p =
    let a : length (tk2 i s) ≡ 16 = (tk2_block i p).size in
    ap (λ (z : List ℕ). z ⊕ tk2 i s) (zeros_stay i) ∙ zero_⊕ (tk2 i s) (omega arith)

pub key_part_length : (i : ℕ) {third second : List ℕ} → Block third → Block second → length (tk3 i third ⊕ tk2 i second ⊕ constant_block i) ≡ 16
key_part_length i {third} {second} p q =
    let a : length (tk3 i third ⊕ tk2 i second) ≡ 16 = (⊕_block (tk3_block i p) (tk2_block i q)).size in
    let b : length (constant_block i) ≡ 16 = constant_length i in
    ⊕-length (tk3 i third ⊕ tk2 i second) (constant_block i) (omega arith) ∙ a

-- ---- the expanded key, for each length of a key

flat_eq : (f g : ℕ → List ℕ) → ((i : ℕ) → f i ≡ g i) → (n : ℕ) → flat f n ≡ flat g n
unfolding flat
flat_eq f g e n = ap (λ (s : List ℕ). s ++ replicate (272 - 16 * n) 0) (go n)
  where
    go : (n : ℕ) → joined f n ≡ joined g n
    go zero = refl
    go (suc n) = ap₂ (λ (s t : List ℕ). s ++ t) (go n) (e n)

expanded_is : (key : List ℕ) (f : ℕ → List ℕ) (n : ℕ) → n ≡ rounds_of key → ((i : ℕ) → f i ≡ key_part key i)
    → ◌≡◌ {A = Subkeys} (record { bytes = flat f (n + 1); rounds = n }) (expanded key)
unfolding expanded
expanded_is key f n r e = rw (flat_eq f (key_part key) e (n + 1)) (ap (λ (m : ℕ). record { bytes = flat (key_part key) (m + 1); rounds = m }) r)

pub expanded_16 : {key : List ℕ} → Block key
    → ◌≡◌ {A = Subkeys} (record { bytes = flat (λ i. tk3 i (replicate 16 0) ⊕ tk2 i key ⊕ constant_block i) 15; rounds = 14 }) (expanded key)
unfolding key_part zero_block
expanded_16 {key} p =
    let short = eq-eqb (length key) 16 p.size in
    expanded_is key (λ i. tk3 i zero_block ⊕ tk2 i key ⊕ constant_block i) 14 (rw short)
    (λ i. rw short (ap (λ (s : List ℕ). s ⊕ constant_block i) (without_tk3 i p)))

pub expanded_32 : (key : List ℕ) → length key ≡ 32
    → ◌≡◌ {A = Subkeys} (record { bytes = flat (λ i. tk3 i (take 16 key) ⊕ tk2 i (take 16 (drop 16 key)) ⊕ constant_block i) 17; rounds = 16 }) (expanded key)
unfolding key_part
expanded_32 key e =
    let long = ne_eqb (length key) 16 (λ q. omega arith) in
    let rest = take_all 16 (drop 16 key) (simp length-drop (omega arith)) in
    expanded_is key (λ i. tk3 i (take 16 key) ⊕ tk2 i (take 16 (drop 16 key)) ⊕ constant_block i) 16 (rw long) (λ i. rw (long, rest))

pub rounds_are : (key : List ℕ) → ((expanded key).rounds ≡ 14) ⊎ ((expanded key).rounds ≡ 16)
unfolding expanded
rounds_are key = either (eqb (length key) 16)
  where
    either : (b : Bool) → (◌≡◌ {A = ℕ} (pick b 14 16) 14) ⊎ (◌≡◌ {A = ℕ} (pick b 14 16) 16)
    either true = inl refl
    either false = inr refl

pub rounds_small : (key : List ℕ) → (expanded key).rounds ≤ 16
rounds_small key = ⊎_elim (λ e. omega (arith, e)) (λ e. omega (arith, e)) (rounds_are key)

-- ---- the round keys

pub round_key-length : (k : Subkeys) (i : ℕ) {tweak : List ℕ} → Block tweak → 16 * i + 16 ≤ length k.bytes → length (round_key k tweak i) ≡ 16
unfolding round_key
round_key-length k i {tweak} p h =
    let a : length (block_at k.bytes i) ≡ 16 = part_length k.bytes (16 * i) h in
    let b : length (tweak_after i tweak) ≡ 16 = (tweak_block i p).size in
    ⊕-length (block_at k.bytes i) (tweak_after i tweak) (omega arith) ∙ a
