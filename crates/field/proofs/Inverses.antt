-- The inverse of every byte, by the one slow test of this crate: each product of `power x 254` is computed once, here, and the other
-- tests read the list.
-- Assumes nothing.
use mathlib.Core.Path.{◌≡◌, ap, ◌∙◌}
use mathlib.Core.List.{List, [], ◌∷◌}
use Prim.Native.Nat.{ℕ, ◌<◌}
use lib.Dec.{eqb}
use lib.ListN.{get_or}
use borrow.Author.Tests.{ne_eqb}
use Rattle.octets.specs.Octets.{pick}
use Rattle.octets.proofs.Tables.{bounded, agreed}
use Rattle.field.specs.Field.{double, times, power, inverse}

unfoldable pub inverses : List ℕ
inverses =
    0 ∷ 1 ∷ 141 ∷ 246 ∷ 203 ∷ 82 ∷ 123 ∷ 209 ∷ 232 ∷ 79 ∷ 41 ∷ 192 ∷ 176 ∷ 225 ∷ 229 ∷ 199
    ∷ 116 ∷ 180 ∷ 170 ∷ 75 ∷ 153 ∷ 43 ∷ 96 ∷ 95 ∷ 88 ∷ 63 ∷ 253 ∷ 204 ∷ 255 ∷ 64 ∷ 238 ∷ 178
    ∷ 58 ∷ 110 ∷ 90 ∷ 241 ∷ 85 ∷ 77 ∷ 168 ∷ 201 ∷ 193 ∷ 10 ∷ 152 ∷ 21 ∷ 48 ∷ 68 ∷ 162 ∷ 194
    ∷ 44 ∷ 69 ∷ 146 ∷ 108 ∷ 243 ∷ 57 ∷ 102 ∷ 66 ∷ 242 ∷ 53 ∷ 32 ∷ 111 ∷ 119 ∷ 187 ∷ 89 ∷ 25
    ∷ 29 ∷ 254 ∷ 55 ∷ 103 ∷ 45 ∷ 49 ∷ 245 ∷ 105 ∷ 167 ∷ 100 ∷ 171 ∷ 19 ∷ 84 ∷ 37 ∷ 233 ∷ 9
    ∷ 237 ∷ 92 ∷ 5 ∷ 202 ∷ 76 ∷ 36 ∷ 135 ∷ 191 ∷ 24 ∷ 62 ∷ 34 ∷ 240 ∷ 81 ∷ 236 ∷ 97 ∷ 23
    ∷ 22 ∷ 94 ∷ 175 ∷ 211 ∷ 73 ∷ 166 ∷ 54 ∷ 67 ∷ 244 ∷ 71 ∷ 145 ∷ 223 ∷ 51 ∷ 147 ∷ 33 ∷ 59
    ∷ 121 ∷ 183 ∷ 151 ∷ 133 ∷ 16 ∷ 181 ∷ 186 ∷ 60 ∷ 182 ∷ 112 ∷ 208 ∷ 6 ∷ 161 ∷ 250 ∷ 129 ∷ 130
    ∷ 131 ∷ 126 ∷ 127 ∷ 128 ∷ 150 ∷ 115 ∷ 190 ∷ 86 ∷ 155 ∷ 158 ∷ 149 ∷ 217 ∷ 247 ∷ 2 ∷ 185 ∷ 164
    ∷ 222 ∷ 106 ∷ 50 ∷ 109 ∷ 216 ∷ 138 ∷ 132 ∷ 114 ∷ 42 ∷ 20 ∷ 159 ∷ 136 ∷ 249 ∷ 220 ∷ 137 ∷ 154
    ∷ 251 ∷ 124 ∷ 46 ∷ 195 ∷ 143 ∷ 184 ∷ 101 ∷ 72 ∷ 38 ∷ 200 ∷ 18 ∷ 74 ∷ 206 ∷ 231 ∷ 210 ∷ 98
    ∷ 12 ∷ 224 ∷ 31 ∷ 239 ∷ 17 ∷ 117 ∷ 120 ∷ 113 ∷ 165 ∷ 142 ∷ 118 ∷ 61 ∷ 189 ∷ 188 ∷ 134 ∷ 87
    ∷ 11 ∷ 40 ∷ 47 ∷ 163 ∷ 218 ∷ 212 ∷ 228 ∷ 15 ∷ 169 ∷ 39 ∷ 83 ∷ 4 ∷ 27 ∷ 252 ∷ 172 ∷ 230
    ∷ 122 ∷ 7 ∷ 174 ∷ 99 ∷ 197 ∷ 219 ∷ 226 ∷ 234 ∷ 148 ∷ 139 ∷ 196 ∷ 213 ∷ 157 ∷ 248 ∷ 144 ∷ 107
    ∷ 177 ∷ 13 ∷ 214 ∷ 235 ∷ 198 ∷ 14 ∷ 207 ∷ 173 ∷ 8 ∷ 78 ∷ 215 ∷ 227 ∷ 93 ∷ 80 ∷ 30 ∷ 179
    ∷ 91 ∷ 35 ∷ 56 ∷ 52 ∷ 104 ∷ 70 ∷ 3 ∷ 140 ∷ 221 ∷ 156 ∷ 125 ∷ 160 ∷ 205 ∷ 26 ∷ 65 ∷ 28 ∷ []

pub inverse_at : (x : ℕ) → x < 256 → inverse x ≡ get_or inverses x 0
unfolding inverses inverse power times double
inverse_at = agreed inverse (λ x. get_or inverses x 0) 256 tt

pub inverses_lt : (x : ℕ) → x < 256 → get_or inverses x 0 < 256
unfolding inverses
inverses_lt = bounded (λ x. get_or inverses x 0) 256 256 tt

-- the power is the multiplicative inverse
pub times-inverse : (x : ℕ) → (x ≡ 0 → ⊥) → x < 256 → times x (inverse x) ≡ 1
unfolding inverses times double
times-inverse x n h =
    ap (times x) (inverse_at x h)
    ∙ agreed (λ y. times y (get_or inverses y 0)) (λ y. pick (eqb y 0) 0 1) 256 tt x h
    ∙ rw (ne_eqb x 0 n)
