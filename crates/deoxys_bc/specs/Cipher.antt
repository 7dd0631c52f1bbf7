-- Deoxys-BC: document 01, "Tweakey", its last paragraph, which gives the rules of the Deoxys paper (v1.41).
-- Assumes nothing.
use Rattle.std.specs.Prelude.{List, ℕ, zero, suc}
use Rattle.octets.specs.Octets.{◌⊕◌}
use Rattle.aes.specs.Round.{round, inv_round}
use Rattle.tweakey.specs.Tweakey.{round_key}
use Rattle.tweakey.specs.declared.Subkeys.{Subkeys}

-- XOR of round key 0, then n rounds with the round keys 1 to n: every round mixes, the last too
unfoldable pub after_rounds : Subkeys → List ℕ → List ℕ → ℕ → List ℕ
after_rounds k tweak block zero = block ⊕ round_key k tweak 0
after_rounds k tweak block (suc n) = round (after_rounds k tweak block n) (round_key k tweak (suc n))

-- the same undone, the last round first
unfoldable pub before_rounds : Subkeys → List ℕ → List ℕ → ℕ → List ℕ
before_rounds k tweak block zero = block ⊕ round_key k tweak 0
before_rounds k tweak block (suc n) = before_rounds k tweak (inv_round block (round_key k tweak (suc n))) n

unfoldable pub encipher : Subkeys → List ℕ → List ℕ → List ℕ
encipher k tweak block = after_rounds k tweak block k.rounds

unfoldable pub decipher : Subkeys → List ℕ → List ℕ → List ℕ
decipher k tweak block = before_rounds k tweak block k.rounds
