use Rattle.std.specs.Prelude.{◌≡◌, ◌≤◌, Bool, true, false, ◌&&◌, List, [], ◌∷◌, length}
use Rattle.std.proofs.Common.{refl, sym, arith}
use Rattle.jpa_cells.specs.declared.meaning.Cell.{Cell}
use Rattle.jpa_opening.specs.migration.Plans.{is_bare}
use Rattle.jpa_opening.proofs.migration.row.is_bare.Goals as goal

more_than_one : (cells : List Cell) → 2 ≤ length cells → false ≡ is_bare cells
more_than_one [] h = absurd (omega arith)
more_than_one (c ∷ []) h = absurd (omega arith)
more_than_one (c ∷ d ∷ cells) h = sym (and_false _)
  where
    and_false : (b : Bool) → (b && false) ≡ false
    and_false true = refl
    and_false false = refl

pub returns-in_default-2 : goal.returns-in_default-2
returns-in_default-2 c = more_than_one c.args.cells.now c.in_default.len_at_least
