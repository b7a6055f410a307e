use Rattle.std.proofs.Common.{ℕ, List, sym, subst}
use Rattle.ir_reader.specs.Reading.{Reads}
use Rattle.workload.specs.Workload.{workload_program}
use Rattle.top_call.proofs.itself.module_of.Goals as goal

pub returns-in-Ok-clause-program : goal.returns-in-Ok-clause-program
returns-in-Ok-clause-program c =
    let made = c.workloads_are_accepted.ensures c.args.n c.requires.least c.requires.most in
    let IsRead : List ℕ → Type 0 = λ text. Reads text (workload_program c.args.n) in
    (c.one_answer.ensures c.args.text.now).one_module c.in-Ok.program (workload_program c.args.n) c.in-Ok.ensures.answer (subst IsRead (sym c.requires.text) made.module_reads)
