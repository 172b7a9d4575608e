-- The exit statuses of the program.
use Rattle.std.specs.Prelude.{ℕ, ◌==◌, if◌then◌else◌}
use Rattle.jpa_value.specs.Refusal.{refusal_number}
use Rattle.jpa_lines.specs.declared.settings.stop.Stop.{Stop}

-- a refusal by its number: 20 is that of a mapping
abbrev pub status : Stop → ℕ
status Stop.End = 0
status (Stop.Shown text) = 0
status (Stop.Words text) = 2
status (Stop.Refused refusal) = if refusal_number refusal == 20 then 2 else 3
status (Stop.Run fault) = 4
