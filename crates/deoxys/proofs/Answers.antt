-- The definition's answers, case by case.
-- Assumes nothing.
use mathlib.Core.Path.{◌≡◌}
use mathlib.Core.Bool.{true, false}
use mathlib.Core.List.{List}
use Prim.Native.Nat.{ℕ, ◌≤◌, ◌<◌}
use lib.ListN.{length, replicate}
use borrow.Author.Tests.{eq-eqb, ne_eqb, le-leb, lt-leb}
use Rattle.octets.specs.Octets.{same, zero_block}
use Rattle.tweakey.specs.Tweakey.{expanded}
use Rattle.deoxys_i.specs.DeoxysI.{seal_i, open_i}
use Rattle.deoxys_ii.specs.DeoxysII.{seal_ii, open_ii}
use Rattle.suites.specs.Suites.{refusal}
use Rattle.deoxys.specs.Entry.{Sealing, Opening, sealed, opened, sealing, opening}

module _ (suite : ℕ) (key nonce ad text : List ℕ) where
  -- the modes
  pub sealed_i : suite ≤ 2 → seal_i (expanded key) nonce ad text ≡ sealed suite key nonce ad text
  unfolding sealed
  sealed_i h = simp (le-leb _ _ h)

  pub sealed_ii : 2 < suite → seal_ii (expanded key) nonce ad text ≡ sealed suite key nonce ad text
  unfolding sealed
  sealed_ii h = simp (lt-leb _ _ h)

  pub opened_i : (tag : List ℕ) → suite ≤ 2 → open_i (expanded key) nonce ad text ≡ opened suite key nonce ad text tag
  unfolding opened
  opened_i tag h = simp (le-leb _ _ h)

  pub opened_ii : (tag : List ℕ) → 2 < suite → open_ii (expanded key) nonce ad text tag ≡ opened suite key nonce ad text tag
  unfolding opened
  opened_ii tag h = simp (lt-leb _ _ h)

  abbrev number : ℕ
  number = refusal suite (length key) (length nonce) (length ad) (length text)

  -- sealing
  pub seal_refused : (number ≡ 0 → ⊥)
      → ◌≡◌ {A = Sealing} (record { answer = record { number = number; tag = zero_block; rows = 0 }; buffer = text }) (sealing suite key nonce ad text)
  unfolding sealing
  seal_refused h = simp (ne_eqb _ _ h)

  pub seal_done : number ≡ 0
      → ◌≡◌ {A = Sealing}
      (record {
        answer = record { number = 0; tag = (sealed suite key nonce ad text).tag; rows = length (sealed suite key nonce ad text).rows };
        buffer = (sealed suite key nonce ad text).text;
      })
      (sealing suite key nonce ad text)
  unfolding sealing
  seal_done h = simp (eq-eqb _ _ h)

  -- opening
  module _ (tag : List ℕ) where
    pub open_refused : (number ≡ 0 → ⊥)
        → ◌≡◌ {A = Opening} (record { answer = record { number = number; rows = 0 }; buffer = text }) (opening suite key nonce ad text tag)
    unfolding opening
    open_refused h = simp (ne_eqb _ _ h)

    module _ (h : number ≡ 0) where
      pub open_tag_length : (length tag ≡ 16 → ⊥)
          → ◌≡◌ {A = Opening} (record { answer = record { number = 6; rows = 0 }; buffer = text }) (opening suite key nonce ad text tag)
      unfolding opening
      open_tag_length l = simp (eq-eqb _ _ h, ne_eqb _ _ l)

      module _ (l : length tag ≡ 16) where
        pub open_done : same tag (opened suite key nonce ad text tag).tag ≡ true
            → ◌≡◌ {A = Opening}
            (record {
              answer = record { number = 0; rows = length (opened suite key nonce ad text tag).rows };
              buffer = (opened suite key nonce ad text tag).text;
            })
            (opening suite key nonce ad text tag)
        unfolding opening
        open_done e = simp (eq-eqb _ _ h, eq-eqb _ _ l, e)

        pub open_wrong_tag : same tag (opened suite key nonce ad text tag).tag ≡ false
            → ◌≡◌ {A = Opening}
            (record {
              answer = record { number = 7; rows = length (opened suite key nonce ad text tag).rows };
              buffer = replicate (length text) 0;
            })
            (opening suite key nonce ad text tag)
        unfolding opening
        open_wrong_tag e = simp (eq-eqb _ _ h, eq-eqb _ _ l, e)
