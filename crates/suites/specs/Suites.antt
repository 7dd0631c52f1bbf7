-- The suites and the refusals that depend on lengths alone: document 01, its first table and "Numbers an entry point answers with".
-- Assumes nothing.
use Rattle.std.specs.Prelude.{Bool, false, not, ℕ, eqb, leb, ltb}
use Rattle.octets.specs.Octets.{pick}

-- 1 is Deoxys-I-128, 2 Deoxys-I-256, 3 Deoxys-II-128, 4 Deoxys-II-256
abbrev pub is_suite : ℕ → Bool
is_suite suite = pick (ltb 0 suite) (leb suite 4) false

abbrev pub is_deoxys_i : ℕ → Bool
is_deoxys_i suite = leb suite 2

-- 16 bytes for the suites 1 and 3, 32 for 2 and 4; 0 for what is no suite
abbrev pub key_length : ℕ → ℕ
key_length suite = pick (eqb suite 1) 16 (pick (eqb suite 2) 32 (pick (eqb suite 3) 16 (pick (eqb suite 4) 32 0)))

-- 8 bytes for Deoxys-I, 15 for Deoxys-II; 0 for what is no suite
abbrev pub nonce_length : ℕ → ℕ
nonce_length suite = pick (is_suite suite) (pick (is_deoxys_i suite) 8 15) 0

abbrev pub limit : ℕ
limit = 1048576

-- the first of the numbers 1 to 5 that applies to a suite and the lengths of key, nonce, associated data and text, or 0
unfoldable pub refusal : ℕ → ℕ → ℕ → ℕ → ℕ → ℕ
refusal suite key nonce ad text =
    pick (not (is_suite suite)) 1
    (pick (not (eqb key (key_length suite))) 2
    (pick (not (eqb nonce (nonce_length suite))) 3
    (pick (ltb limit ad) 4
    (pick (ltb limit text) 5 0))))
