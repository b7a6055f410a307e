use Rattle.std.proofs.Common.{arith, inr, ap, ◌+◌}
use Rattle.profile.proofs.Runs.{few_lines, stops_behind, lines_more}
use Rattle.profile.proofs.lines.read_lines.Goals as goal

pub overflow_cast-line : goal.overflow_cast-line
overflow_cast-line c = omega (arith, few_lines c.args.bytes.now c.loop-rest.lines c.loop-rest.rest.now c.loop-rest.invariant, c.len.ensures, c.requires)

pub overflow_add-line : goal.overflow_add-line
overflow_add-line c = omega (arith, few_lines c.args.bytes.now c.loop-rest.lines c.loop-rest.rest.now c.loop-rest.invariant, c.len.ensures, c.requires)

pub returns-in-None-clause-err : goal.returns-in-None-clause-err
returns-in-None-clause-err c = λ m. inr (c.loop-rest.lines, stops_behind c.args.bytes.now c.loop-rest.lines c.loop-rest.rest.now c.loop-rest.invariant (λ e. grind (arith, c.loop-rest-test.ensures)) (rw c.in-None.is at c.in_ok-later.ensures), ap (λ n. n + 2) c.len.ensures)

pub loop-rest-preserved : goal.loop-rest-preserved
loop-rest-preserved c = lines_more c.args.bytes.now c.loop-rest.lines c.read_line.new.lines c.loop-rest.rest.now c.in-Some-2.later.now c.loop-rest.invariant (rw c.in-Some-2.is at c.in_ok-later.ensures)
