use Rattle.std.proofs.Common.{ℕ, List, sym, subst}
use Rattle.ir_types.specs.Program.{Program}
use Rattle.profile.specs.Reading.{Reads}
use Rattle.workload.specs.Workload.{workload_program, workload_counts}
use Rattle.top_call.proofs.itself.counts_of.Goals as goal

pub returns-in-Ok-clause-counts : goal.returns-in-Ok-clause-counts
returns-in-Ok-clause-counts c =
    let made = c.workloads_are_accepted.ensures c.args.n c.requires.least c.requires.most in
    let Says : List ℕ → Type 0 = λ text. Reads (workload_program c.args.n) text (workload_counts c.args.n) in
    let SaysOf : Program → Type 0 = λ program. Reads program c.args.text.now (workload_counts c.args.n) in
    (c.one_answer.ensures c.args.program.now c.keeps_rules.ensures c.args.text.now).one_profile c.in-Ok.counts.functions (workload_counts c.args.n) c.in-Ok.ensures.ok
    (subst SaysOf (sym c.requires.program) (subst Says (sym c.requires.text) made.profile_reads))
