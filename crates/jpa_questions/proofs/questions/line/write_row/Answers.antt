use Rattle.jpa_lines.proofs.lines.Told.{reply_written}
use Rattle.jpa_questions.specs.questions.Lines.{row_data}
use Rattle.jpa_questions.proofs.questions.line.write_row.Goals as goal

pub returns-clause-ok : goal.returns-clause-ok
returns-clause-ok c =
    reply_written c.new-out.result c.tell_row.new.out _ c.into_inner-bytes.result.items c.push.new.self.items (row_data c.args.metamodel.now c.args.row.now)
    c.in_ok-tell_row.ensures c.new-out.ensures.before c.in_ok-with_capacity.ensures.items c.new-out.ensures.tokens c.into_inner-bytes.ensures.items c.in_ok-push.ensures.items
