use Rattle.std.proofs.Common.{map, sym, ◌∙◌}
use Rattle.ir_lexer.specs.Lexeme.{lexeme}
use Rattle.ir_parser.proofs.Probes.{told_yes, told_no, not_true, global_told}
use Rattle.ir_parser.proofs.profile.is_out_global.Goals as goal

pub returns : goal.returns
returns c = global_told (map lexeme c.args.front.now) _ c.in_ok-ends.ends (not_true _ (sym c.is_numbered.ensures ∙ c.if-is_numbered.false))
    (told_yes c.in_ok-goes_on.field-0 _ c.if-not-branch.false c.in_ok-goes_on.ensures)
    (told_no c.in_ok-goes_on-2.field-0 _ c.if-branch.false c.in_ok-goes_on-2.ensures)
    (told_yes c.in_ok-goes_on-3.field-0 _ c.if-not-branch-2.false c.in_ok-goes_on-3.ensures)
    c.in_ok-ends.ensures
