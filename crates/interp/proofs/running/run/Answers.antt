use Rattle.std.proofs.Common.{sym, ◌∙◌}
use Rattle.interp.specs.Main.{main_of}
use Rattle.interp.proofs.Mains.{numbered}
use Rattle.interp.proofs.running.run.Goals as goal

pub run_main-requires-clause-main : goal.run_main-requires-clause-main
run_main-requires-clause-main g c = numbered (main_of c.args.program.now) c.in-Some.main (sym c.in-Some.is ∙ c.main_of.ensures.number)
