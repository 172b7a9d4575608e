use Rattle.jpa_asked.proofs.Read.{read_tree}
use Rattle.jpa_asked.proofs.statement.read_of.Goals as goal

pub returns-in-Ok : goal.returns-in-Ok
returns-in-Ok c = record { meets = λ w. read_tree c.args.language c.args.lists.now c.args.text.now c.in_ok-uses_lists.uses_lists c.in-Ok.query w c.in_ok-uses_lists.ensures.uses c.in-Ok.ensures.read }

pub returns-in-Err : goal.returns-in-Err
returns-in-Err c = record { meets = λ w. c.unread.ensures.meets c.args.language c.args.lists.now c.args.text.now c.in-Err.ensures.refused c.in_ok-uses_lists.ensures.uses w }
