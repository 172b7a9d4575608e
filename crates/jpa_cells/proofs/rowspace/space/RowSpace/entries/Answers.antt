use Rattle.std.specs.Prelude.{Result, Ok, Err, OnOk}
use Rattle.jpa_cells.proofs.rowspace.Answers.{all_rise}
use Rattle.jpa_cells.proofs.rowspace.space.RowSpace.entries.Goals as goal

on_ok : {A E : Type 0} (r : Result A E) (P : Type 0) → P → OnOk r P
on_ok (Ok x) P p = p
on_ok (Err e) P p = tt

pub returns-clause-rising : goal.returns-clause-rising
returns-clause-rising g c up = all_rise c.in-Some.rule.now c.args.stored.items c.rows_of.result c.rows_of.ensures.read (on_ok c.rows_of.result _ up)
