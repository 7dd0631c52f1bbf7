-- What differs in a call, and the count of cases, calls and differences. Assumes nothing.
use Rattle.std.specs.Prelude.{ℕ, ◌+◌, ◌-◌, ◌^◌, min, eqb, ltb, Option, Some, None}
use Rattle.octets.specs.Octets.{pick}
use Rattle.differences.specs.declared.tally.Difference.{Difference}
use Rattle.differences.specs.declared.tally.Seen.{Seen}
use Rattle.differences.specs.declared.tally.Tally.{Tally}
use Rattle.differences.specs.declared.tally.What.{What}
use Rattle.differences.specs.declared.tally.What.TheVariants.{Number, Tag, Rows, Buffer, Inputs, Form}

-- the first thing that is not as wanted: number, tag, rows, buffer, inputs
unfoldable pub first_difference : Seen → ℕ → ℕ → Option What
first_difference s number rows =
    pick (eqb s.number number)
    (pick s.tag (pick (eqb s.rows rows) (pick s.buffer (pick s.inputs None (Some Inputs)) (Some Buffer)) (Some Rows)) (Some Tag))
    (Some Number)

-- a count stops at the greatest number
abbrev pub plus : ℕ → ℕ → ℕ
plus a b = min (a + b) (2 ^ 64 - 1)

module _ {C : Type 0} where
  abbrev pub none : Tally C
  none = record { cases = 0; calls = 0; differ = 0; first = None }

  -- other counts, and the same first difference
  abbrev pub counted : Tally C → ℕ → ℕ → ℕ → Tally C
  counted t cases calls differ = record { cases = cases; calls = calls; differ = differ; first = t.first }

  abbrev pub with_case : Tally C → Tally C
  with_case t = counted t (plus t.cases 1) t.calls t.differ

  -- one difference more, kept if it is the first
  unfoldable pub with_difference : Tally C → Difference C → Tally C
  with_difference t difference =
      pick (ltb 0 t.differ)
      (counted t t.cases t.calls (plus t.differ 1))
      (record { cases = t.cases; calls = t.calls; differ = 1; first = Some difference })

  -- one call more, and a difference more unless nothing differed
  unfoldable pub with_call : Tally C → ℕ → C → Option What → Tally C
  with_call t line call None = counted t t.cases (plus t.calls 1) t.differ
  with_call t line call (Some what) =
      with_difference (counted t t.cases (plus t.calls 1) t.differ) (record { line = line; call = Some call; what = what })

  -- a line that is no case is a difference, with no call
  abbrev pub with_bad_line : Tally C → ℕ → Tally C
  with_bad_line t line = with_difference t (record { line = line; call = None; what = Form })

  -- no case at all is a difference too
  unfoldable pub with_a_case : Tally C → Tally C
  with_a_case t = pick (eqb t.cases 0) (with_bad_line t 0) t

  abbrev pub together : Tally C → Tally C → Tally C
  together t other = counted t (plus t.cases other.cases) (plus t.calls other.calls) (plus t.differ other.differ)
