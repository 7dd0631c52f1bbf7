-- The tweak that document 01, "Modes", gives the row of a label.
-- Assumes nothing.
use Rattle.std.specs.Prelude.{List, ◌∷◌, ℕ}
use Rattle.octets.specs.Octets.{pick}
use Rattle.tweaks.specs.Tweaks.{numbered, nonce_tweak, keystream_tweak}
use Rattle.suites.specs.Suites.{is_deoxys_i}
use Rattle.risk.specs.declared.Kind.TheVariants.{Data, Message, Tag}
use Rattle.risk.specs.declared.Label.{Label}

-- data, in both modes
abbrev pub data_tweak : Label → List ℕ
data_tweak l = numbered (pick l.partial 0x60 0x20) l.number

-- the message and its tag in Deoxys-I
abbrev pub tweak_i : List ℕ → Label → List ℕ
tweak_i nonce l = nonce_tweak (elim l.kind [ Message ↦ pick l.partial 4 0 | _ ↦ pick l.partial 5 1 ]) nonce l.number

-- the message, its tag and the keystream in Deoxys-II
abbrev pub tweak_ii : List ℕ → List ℕ → Label → List ℕ
tweak_ii nonce tag l =
    elim l.kind [
      | Message ↦ numbered (pick l.partial 0x40 0x00) l.number
      | Tag ↦ 0x10 ∷ nonce
      | _ ↦ keystream_tweak tag l.number
    ]

unfoldable pub tweak_of : ℕ → List ℕ → List ℕ → Label → List ℕ
tweak_of suite nonce tag l = elim l.kind [ Data ↦ data_tweak l | _ ↦ pick (is_deoxys_i suite) (tweak_i nonce l) (tweak_ii nonce tag l) ]
