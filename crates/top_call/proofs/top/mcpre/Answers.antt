use Rattle.top_call.specs.Row.{row_of, texts}
use Rattle.top_call.proofs.Rows.{not_done, complete, denied, deny, grown, traps, ends_nothing, untaken, silent, trapped, limited, done, moved, partly, refused, untouched, usage}
use Rattle.top_call.proofs.top.mcpre.Goals as goal

pub returns-clause-not_done : goal.returns-clause-not_done
returns-clause-not_done g c = λ tells refused. let e = c.answer.ensures.ends in rw e.status_is (not_done c.one_answer.ensures _ _ e.ending (record { one = c.one_optimised.ensures.one; not_both = c.one_optimised.ensures.not_both }) (record { one = c.one_answer-2.ensures.one; right = c.one_answer-2.ensures.right }) c.one_answer-3.ensures (row_of (texts c.args.words.now)) e.ends tells refused)

pub returns-clause-trapped : goal.returns-clause-trapped
returns-clause-trapped g c = λ tells told seven. let e = c.answer.ensures.ends in trapped _ _ (row_of (texts c.args.words.now)) e.ending e.ends _ e.status_is tells told seven

pub returns-clause-trap : goal.returns-clause-trap
returns-clause-trap g c = λ tells told trap. let e = c.answer.ensures.ends in rw e.status_is (traps c.one_answer.ensures _ _ e.ending (row_of (texts c.args.words.now)) e.ends tells told trap)

pub returns-clause-limited : goal.returns-clause-limited
returns-clause-limited g c = λ tells told eight. let e = c.answer.ensures.ends in limited _ _ (row_of (texts c.args.words.now)) e.ending e.ends _ e.status_is tells told eight

pub returns-clause-limit : goal.returns-clause-limit
returns-clause-limit g c = λ tells told stands. let e = c.answer.ensures.ends in rw e.status_is (ends_nothing c.one_answer.ensures _ _ e.ending (row_of (texts c.args.words.now)) e.ends tells told stands)

pub returns-clause-complete : goal.returns-clause-complete
returns-clause-complete g c = λ tells accepted reads writes. let e = c.answer.ensures.ends in rw e.status_is (complete c.one_answer.ensures _ _ e.ending (record { one = c.one_answer-2.ensures.one; right = c.one_answer-2.ensures.right }) c.one_answer-3.ensures (row_of (texts c.args.words.now)) e.ends tells accepted reads writes)

pub returns-clause-grown : goal.returns-clause-grown
returns-clause-grown g c = λ tells read reads writes. let e = c.answer.ensures.ends in rw e.status_is (grown c.one_answer.ensures _ _ e.ending c.one_answer-3.ensures (row_of (texts c.args.words.now)) e.ends tells read reads writes)

pub returns-clause-done : goal.returns-clause-done
returns-clause-done g c = λ tells zero. let e = c.answer.ensures.ends in done _ _ (row_of (texts c.args.words.now)) e.ending e.ends _ e.status_is tells zero

pub returns-clause-partly : goal.returns-clause-partly
returns-clause-partly g c = λ tells status. let e = c.answer.ensures.ends in partly _ _ (row_of (texts c.args.words.now)) e.ending e.ends _ e.status_is tells status

pub returns-clause-input : goal.returns-clause-input
returns-clause-input g c = λ quiet. let e = c.answer.ensures.ends in untaken c.one_answer.ensures _ _ e.ending (row_of (texts c.args.words.now)) e.ends _ e.status_is quiet

pub returns-clause-out : goal.returns-clause-out
returns-clause-out g c = λ quiet. let e = c.answer.ensures.ends in silent c.one_answer.ensures _ _ e.ending (row_of (texts c.args.words.now)) e.ends _ e.status_is quiet

pub returns-clause-denied : goal.returns-clause-denied
returns-clause-denied g c = λ tells six. let e = c.answer.ensures.ends in denied _ _ (row_of (texts c.args.words.now)) e.ending e.ends _ e.status_is tells six

pub returns-clause-deny : goal.returns-clause-deny
returns-clause-deny g c = λ tells no. let e = c.answer.ensures.ends in rw e.status_is (deny _ _ c.one_answer.ensures (record { one = c.one_answer-2.ensures.one; right = c.one_answer-2.ensures.right }) c.one_answer-3.ensures (row_of (texts c.args.words.now)) e.ending e.ends tells no)

pub returns-clause-usage : goal.returns-clause-usage
returns-clause-usage g c = let e = c.answer.ensures.ends in usage _ _ (row_of (texts c.args.words.now)) e.ending e.ends _ e.status_is

pub returns-clause-moved : goal.returns-clause-moved
returns-clause-moved g c = λ tells. let e = c.answer.ensures.ends in moved c.one_answer.ensures _ _ e.ending c.one_answer-3.ensures (row_of (texts c.args.words.now)) e.ends tells

pub returns-clause-refused : goal.returns-clause-refused
returns-clause-refused g c = λ tells one. let e = c.answer.ensures.ends in refused _ _ (row_of (texts c.args.words.now)) e.ending e.ends _ e.status_is tells one

pub returns-clause-untouched : goal.returns-clause-untouched
returns-clause-untouched g c = λ told. let e = c.answer.ensures.ends in untouched _ _ (row_of (texts c.args.words.now)) e.ending e.ends _ e.status_is told
