use Rattle.std.proofs.Common.{◌∙◌, ◌≡◌, ◌+◌, ℕ, subst, arith}
use Rattle.jpa_cells.specs.meaning.Store.{Stored, up_to_greatest}
use Rattle.jpa_cells.specs.rowspace.Space.{Space}
use Rattle.jpa_cells.proofs.rowspace.space.RowSpaceRowSource.statements.Goals as goal

same_sum : (reads writes creates : ℕ) → up_to_greatest (reads + writes + creates) ≡ up_to_greatest (up_to_greatest reads + writes + creates)
same_sum reads writes creates = omega arith

-- what the store of cells counts in all, of its selects up to the greatest
abbrev counted : {S : Type 0} → Stored S → ℕ
counted s = up_to_greatest (up_to_greatest (s.row_selects + s.table_selects) + s.writes + s.creates)

pub returns : goal.returns
returns g c =
    let s = c.self.inside.store in
    subst (λ (o : Space g.row.S.Denot). c.statements.result ≡ counted o.store) c.self.view_is (c.statements.ensures ∙ same_sum (s.row_selects + s.table_selects) s.writes s.creates)
