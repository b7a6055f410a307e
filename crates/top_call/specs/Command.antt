-- A command of the code as a row.
use Rattle.std.specs.Prelude.{◌≢◌, ◌<◌, ◌≤◌, ◌^◌}
use Rattle.std.specs.Option.{option_map}
use Rattle.top_call.specs.declared.command.Command.{Command}
use Rattle.top_call.specs.declared.command.Command.TheVariants as commands
use Rattle.top_call.specs.declared.command.OptNames.{OptNames}
use Rattle.top_call.specs.Row.{Row, Print, Run, Opt, Check, Report, Itself, OptFiles}

abbrev pub files_of : OptNames → OptFiles
files_of names = record {
  input = names.input.now;
  profile = names.profile.now;
  output = names.output.now;
  certificate = names.certificate.now;
}

-- the row that a command stands for
abbrev pub row_of_command : Command → Row
row_of_command (commands.Print input output) = Print input.now output.now
row_of_command (commands.Run asked) = Run asked.limit asked.input.now (option_map (λ name. name.now) asked.profile)
row_of_command (commands.Opt names) = Opt (files_of names)
row_of_command (commands.Check names) = Check (files_of names)
row_of_command (commands.Report names) = Report names.input.now names.profile.now
row_of_command (commands.Itself n) = Itself n

-- a run has fewer than 2^62 steps, `opt` writes two files, and `self` makes from 1 to 10000 diamonds
abbrev pub IsAllowed : Command → Type 0
IsAllowed (commands.Print input output) = Unit {0}
IsAllowed (commands.Run asked) = asked.limit < 2 ^ 62
IsAllowed (commands.Opt names) = names.output.now ≢ names.certificate.now
IsAllowed (commands.Check names) = Unit {0}
IsAllowed (commands.Report names) = Unit {0}
IsAllowed (commands.Itself n) = (1 ≤ n) × (n ≤ 10000)
