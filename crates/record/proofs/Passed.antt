-- What a `?` hands on: the error that came, and no other.
-- Assumes nothing.
use Rattle.std.proofs.Common.{◌≡◌, ap, Result, Ok, Err}
use Rattle.std.specs.Prelude.{IsErrAnd}

pub is_err : {T E : Type 0} {e : E} (r : Result T E) → IsErrAnd r (λ y. y ≡ e) → r ≡ Err e
is_err (Ok x) h = absurd h
is_err (Err y) h = ap Err h
