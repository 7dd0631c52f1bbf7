-- What holds where nothing is refused.
-- Assumes nothing.
use mathlib.Core.Path.{◌≡◌, refl, ◌∙◌}
use mathlib.Core.Bool.{Bool, true, false, false≢true}
use mathlib.Core.Logic.{◌⊎◌, inl, inr}
use Prim.Native.Nat.{ℕ, zero, suc, ◌≤◌, ◌<◌}
use native.Mathlib.Omega.{arith}
use lib.Dec.{leb, ltb}
use borrow.Author.Tests.{le-leb, lt-leb, leb-true}
use Rattle.std.proofs.lemmas.Bool.Decides.{nat_tests}
use Rattle.octets.specs.Octets.{pick}
use Rattle.suites.specs.Suites.{is_suite, key_length, nonce_length, refusal}

pub record Good (suite key nonce ad text : ℕ) : Type 0 where
  pub is_suite_lem : is_suite suite ≡ true
  pub key_fits : key ≡ key_length suite
  pub nonce_fits : nonce ≡ nonce_length suite
  pub ad_fits : ad ≤ 1048576
  pub text_fits : text ≤ 1048576

pub good : (suite key nonce ad text : ℕ) → refusal suite key nonce ad text ≡ 0 → Good suite key nonce ad text
unfolding refusal
good suite key nonce ad text e = record {
  is_suite_lem = grind (arith, nat_tests);
  key_fits = grind (arith, nat_tests);
  nonce_fits = grind (arith, nat_tests);
  ad_fits = grind (arith, nat_tests);
  text_fits = grind (arith, nat_tests);
}

at_most_four : (suite : ℕ) → is_suite suite ≡ true → suite ≤ 4
at_most_four suite e = leb-true suite 4 (second (ltb 0 suite) (leb suite 4) e)
  where
    second : (a b : Bool) → pick a b false ≡ true → b ≡ true
    second true b e = e
    second false b e = absurd (false≢true e)

key_sized : (suite : ℕ) → is_suite suite ≡ true → (key_length suite ≡ 16) ⊎ (key_length suite ≡ 32)
key_sized zero e = absurd (false≢true e)
key_sized (suc zero) e = inl refl
key_sized (suc (suc zero)) e = inr refl
key_sized (suc (suc (suc zero))) e = inl refl
key_sized (suc (suc (suc (suc zero)))) e = inr refl
key_sized (suc (suc (suc (suc (suc n))))) e = absurd (omega (arith, at_most_four (suc (suc (suc (suc (suc n))))) e))

module _ {suite key nonce ad text : ℕ} (g : Good suite key nonce ad text) where
  pub key_is : (key ≡ 16) ⊎ (key ≡ 32)
  key_is = rw g.key_fits (key_sized suite g.is_suite_lem)

  pub nonce_i : suite ≤ 2 → nonce ≡ 8
  nonce_i h = g.nonce_fits ∙ rw (g.is_suite_lem, le-leb _ _ h)

  pub nonce_ii : 2 < suite → nonce ≡ 15
  nonce_ii h = g.nonce_fits ∙ rw (g.is_suite_lem, lt-leb _ _ h)
