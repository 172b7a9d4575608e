use Rattle.std.proofs.Common.{rules}
use Rattle.jpa_json.proofs.readers.Texts.{no_text, some_text}
use Rattle.jpa_json.proofs.readers.reading.json_of.Goals as goal

pub returns-in_default : goal.returns-in_default
returns-in_default c = no_text c.args.bytes.now c.in_default.ensures.cases.0

pub returns-in-Ok-from_str : goal.returns-in-Ok-from_str
returns-in-Ok-from_str c = some_text c.args.bytes.now c.in-Ok.text.now _ c.in-Ok.ensures.cases.0 c.in-Ok.ensures.cases.1 c.in-Ok-from_str.ensures.ok

pub returns-else-is_memory : goal.returns-else-is_memory
returns-else-is_memory c = some_text c.args.bytes.now c.in-Ok.text.now _ c.in-Ok.ensures.cases.0 c.in-Ok.ensures.cases.1 (c.in-Err.ensures.err (search rules))
