use Rattle.std.proofs.Common.{inr, arith}
use Rattle.jpa_lines.proofs.lines.Lines.{long_line, call_found, call_refused}
use Rattle.jpa_lines.proofs.lines.reading.read_call.Goals as goal

pub returns-then-line-gt-MOST_LINE_BYTES-clause-err : goal.returns-then-line-gt-MOST_LINE_BYTES-clause-err
returns-then-line-gt-MOST_LINE_BYTES-clause-err c = inr (long_line c.args.language c.args.line.now (omega arith))

pub returns-clause-ok : goal.returns-clause-ok
returns-clause-ok c = rw c.or_refuse.ensures (call_found c.args.language c.args.line.now c.call_of_text.result (omega arith) c.call_of_text.ensures)

pub returns-clause-err : goal.returns-clause-err
returns-clause-err c = rw c.or_refuse.ensures (call_refused c.args.language c.args.line.now c.call_of_text.result (omega arith) c.call_of_text.ensures)
