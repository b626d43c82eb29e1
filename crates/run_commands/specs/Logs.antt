-- The four files that a log is split into.
use Rattle.std.specs.Prelude.{Bool, not, ◌&&◌}
use Rattle.console.specs.Writings.{is_no_file}
use Rattle.run_commands.specs.declared.LogFiles.{LogFiles}

-- All of them are open.
abbrev pub are_open : LogFiles → Bool
are_open l = not (is_no_file l.trace) && not (is_no_file l.hwregtrace) && not (is_no_file l.leds) && not (is_no_file l.display7seg)
