use Rattle.std.proofs.Common.{codes}
use Rattle.mc_host.proofs.PutsLemmas.{puts_then, puts_stop}
use Rattle.call_lines.specs.RefusedProfile.{block_text}
use Rattle.call_lines.proofs.profile_lines.put_unbalanced.Goals as goal

pub returns-in_err-put : goal.returns-in_err-put
returns-in_err-put g c = puts_stop (codes ": P4 Unbalanced") _ _ _ _ _ c.from_residual.ensures.0 c.in_err-put.ensures

pub returns-in_err-put_block : goal.returns-in_err-put_block
returns-in_err-put_block g c =
    puts_then (codes ": P4 Unbalanced") _ _ _ _ _ c.in_ok-put.ensures
    (puts_stop (block_text c.args.function c.args.block) _ _ _ _ _ c.from_residual-in_err-put_block.ensures.0 c.in_err-put_block.ensures)
