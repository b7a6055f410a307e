use Rattle.std.proofs.Common.{◌≡◌, Some}
use Rattle.ir_types.specs.WellFormed.{IsWellFormed}
use Rattle.ir_types.specs.declared.syntax.Function.{Function}
use Rattle.interp.specs.Main.{main_of}
use Rattle.interp.proofs.Going.{Going}
use Rattle.interp.proofs.running.run_main.Given as goal

abbrev pub invariant-loop : goal.invariant-loop
invariant-loop g l =
    (f : Function) × (rules : IsWellFormed l.program) × (main_of l.program ≡ Some (l.main, f))
    × Going l.program rules l.main f l.counter l.machine l.tally (g.I.Source.state l.fn.input) (g.I.Source.state l.input) (g.O.Sink.state l.fn.out) (g.O.Sink.state l.out)
