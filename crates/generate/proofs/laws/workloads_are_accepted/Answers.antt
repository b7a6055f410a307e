use Rattle.std.proofs.Common.{subst, ◌∙◌}
use Rattle.ir_printer.specs.Text.{text_of}
use Rattle.ir_reader.specs.Reading.{Reads}
use Rattle.workload.specs.Workload.{workload_program, workload_counts}
use Rattle.generate.proofs.Plain.{plain_is}
use Rattle.generate.proofs.Short.{module_short, profile_short}
use Rattle.generate.proofs.laws.workloads_are_accepted.Goals as goal

pub returns : goal.returns
returns c = λ n some few.
    let sound = c.workloads_are_sound.ensures n few in
    let back = c.reads_back.ensures (workload_program n) sound.rules sound.limits in
    record {
      module_short = module_short n few;
      module_reads = subst (Reads (text_of (workload_program n))) (back.same ∙ plain_is n) back.reads;
      profile_short = profile_short n few;
      profile_reads = c.reads_back-2.ensures (workload_program n) (workload_counts n) sound.accepted;
    }
