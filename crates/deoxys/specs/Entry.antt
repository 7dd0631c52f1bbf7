-- Sealing and opening, for any suite number and any bytes: document 01, "Numbers an entry point answers with".
-- Assumes nothing.
use Rattle.std.specs.Prelude.{◌≡◌, List, ℕ, eqb, length, replicate}
use Rattle.octets.specs.Octets.{pick, zero_block, same}
use Rattle.tweakey.specs.Tweakey.{expanded}
use Rattle.modes.specs.Rows.{Outcome}
use Rattle.deoxys_i.specs.DeoxysI.{seal_i, open_i}
use Rattle.deoxys_ii.specs.DeoxysII.{seal_ii, open_ii}
use Rattle.suites.specs.Suites.{is_deoxys_i, refusal}
use Rattle.deoxys.specs.declared.Sealed.{Sealed}
use Rattle.deoxys.specs.declared.Opened.{Opened}

-- an answer, and the message buffer at the end
pub record Sealing : Type 0 where
  pub answer : Sealed
  pub buffer : List ℕ

pub record Opening : Type 0 where
  pub answer : Opened
  pub buffer : List ℕ

-- what the suite's mode makes of a message, and of a ciphertext and the given tag
unfoldable pub sealed : ℕ → List ℕ → List ℕ → List ℕ → List ℕ → Outcome
sealed suite key nonce ad message =
    pick (is_deoxys_i suite) (seal_i (expanded key) nonce ad message) (seal_ii (expanded key) nonce ad message)

unfoldable pub opened : ℕ → List ℕ → List ℕ → List ℕ → List ℕ → List ℕ → Outcome
opened suite key nonce ad cipher tag =
    pick (is_deoxys_i suite) (open_i (expanded key) nonce ad cipher) (open_ii (expanded key) nonce ad cipher tag)

-- refused with 1 to 5: 16 zero bytes as tag, no rows, the buffer unchanged
unfoldable pub sealing : ℕ → List ℕ → List ℕ → List ℕ → List ℕ → Sealing
sealing suite key nonce ad message =
    pick (eqb (refusal suite (length key) (length nonce) (length ad) (length message)) 0)
    (record {
      answer = record { number = 0; tag = (sealed suite key nonce ad message).tag; rows = length (sealed suite key nonce ad message).rows };
      buffer = (sealed suite key nonce ad message).text;
    })
    (record {
      answer = record { number = refusal suite (length key) (length nonce) (length ad) (length message); tag = zero_block; rows = 0 };
      buffer = message;
    })

-- the tag is the computed one: 0 and the message; else 7 and zeros. Both count every row
abbrev pub judged : List ℕ → List ℕ → Outcome → Opening
judged cipher tag outcome =
    pick (same tag outcome.tag) (record { answer = record { number = 0; rows = length outcome.rows }; buffer = outcome.text })
    (record { answer = record { number = 7; rows = length outcome.rows }; buffer = replicate (length cipher) 0 })

-- refused with 1 to 6: no rows, the buffer unchanged
unfoldable pub opening : ℕ → List ℕ → List ℕ → List ℕ → List ℕ → List ℕ → Opening
opening suite key nonce ad cipher tag =
    pick (eqb (refusal suite (length key) (length nonce) (length ad) (length cipher)) 0)
    (pick (eqb (length tag) 16) (judged cipher tag (opened suite key nonce ad cipher tag))
    (record { answer = record { number = 6; rows = 0 }; buffer = cipher }))
    (record { answer = record { number = refusal suite (length key) (length nonce) (length ad) (length cipher); rows = 0 }; buffer = cipher })

-- the contracts of `seal` and `open`: an outcome is allowed where it is the definition's
abbrev pub SealAllows : ℕ → List ℕ → List ℕ → List ℕ → List ℕ → Sealing → Type 0
SealAllows suite key nonce ad message outcome = outcome ≡ sealing suite key nonce ad message

abbrev pub OpenAllows : ℕ → List ℕ → List ℕ → List ℕ → List ℕ → List ℕ → Opening → Type 0
OpenAllows suite key nonce ad cipher tag outcome = outcome ≡ opening suite key nonce ad cipher tag
