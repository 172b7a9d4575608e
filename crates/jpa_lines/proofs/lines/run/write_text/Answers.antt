use Rattle.std.proofs.Common.{arith, length-drop}
use Rattle.std.proofs.lemmas.List.{take_rest}
use Rattle.std.proofs.Math.Seq.{take-add}
use Rattle.jpa_lines.proofs.lines.Written.{appends_both}
use Rattle.jpa_lines.proofs.lines.run.write_text.Goals as goal

pub loop-done-preserved : goal.loop-done-preserved
loop-done-preserved g c =
    let h = rw (take_rest c.args.text.now c.loop-done.done) at c.in-Ok.ensures.bytes in
    let k = rw (take_rest c.args.text.now c.loop-done.done) at c.in-Ok.ensures.bound in
    record {
      within = omega (arith, length-drop c.loop-done.done c.args.text.now);
      written = rw (take-add c.loop-done.done c.in-Ok.count c.args.text.now) (appends_both _ _ _ _ _ c.loop-done.invariant.written h);
    }
