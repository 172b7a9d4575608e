use Rattle.jpa_lines.specs.lines.ReplyText.{reply_data}
use Rattle.jpa_lines.proofs.lines.Told.{reply_written}
use Rattle.jpa_lines.proofs.lines.writing.write_reply.Goals as goal

pub returns-clause-ok : goal.returns-clause-ok
returns-clause-ok c =
    reply_written c.new-out.result c.tell_reply.new.out _ c.into_inner-bytes.result.items c.push.new.self.items (reply_data c.args.reply.now)
    c.in_ok-tell_reply.ensures c.new-out.ensures.before c.in_ok-with_capacity.ensures.items c.new-out.ensures.tokens c.into_inner-bytes.ensures.items c.in_ok-push.ensures.items
