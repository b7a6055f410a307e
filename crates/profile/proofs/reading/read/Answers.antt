use Rattle.std.proofs.Common.{length, ap, arith}
use Rattle.std.proofs.lemmas.Result.{err_from_is_err_and}
use Rattle.profile.proofs.Read.{few_read, says, reads}
use Rattle.profile.proofs.reading.read.Goals as goal

pub returns-in_err-lines-clause-err : goal.returns-in_err-lines-clause-err
returns-in_err-lines-clause-err c =
    let p = err_from_is_err_and c.from_residual.result c.from_residual.ensures.1 in
    rw (p.1, p.2) (c.in_err-lines.ensures.err c.args.program.now)

pub read_counts-requires : goal.read_counts-requires
read_counts-requires c = record { few = omega (arith, few_read c.args.bytes.now c.in_ok-lines.lines c.in_ok-lines.ensures.ok, ap length c.as_slice.ensures, c.requires) }

pub returns-in_err-functions-clause-err : goal.returns-in_err-functions-clause-err
returns-in_err-functions-clause-err c =
    let p = err_from_is_err_and c.from_residual-in_err-functions.result c.from_residual-in_err-functions.ensures.1 in
    rw (p.1, p.2) (c.in_err-functions.ensures.err c.args.bytes.now (rw c.as_slice.ensures c.in_ok-lines.ensures.ok))

pub returns-in_err-check_balances-clause-err : goal.returns-in_err-check_balances-clause-err
returns-in_err-check_balances-clause-err c =
    let p = err_from_is_err_and c.from_residual-in_err-check_balances.result c.from_residual-in_err-check_balances.ensures.1 in
    rw (p.1, p.2)
    (c.in_err-check_balances.ensures.err c.args.bytes.now
    (rw c.as_slice-2.ensures (says c.args.program.now c.args.bytes.now c.as_slice.result.now c.in_ok-functions.functions (rw c.as_slice.ensures c.in_ok-lines.ensures.ok) c.in_ok-functions.ensures.shape c.in_ok-functions.ensures.same)))

pub returns-in_err-check_all_reached-clause-err : goal.returns-in_err-check_all_reached-clause-err
returns-in_err-check_all_reached-clause-err c =
    let p = err_from_is_err_and c.from_residual-in_err-check_all_reached.result c.from_residual-in_err-check_all_reached.ensures.1 in
    rw (p.1, p.2)
    (c.in_err-check_all_reached.ensures.err c.args.bytes.now
    (rw c.as_slice-3.ensures (says c.args.program.now c.args.bytes.now c.as_slice.result.now c.in_ok-functions.functions (rw c.as_slice.ensures c.in_ok-lines.ensures.ok) c.in_ok-functions.ensures.shape c.in_ok-functions.ensures.same)))

pub returns-clause-ok : goal.returns-clause-ok
returns-clause-ok c =
    reads c.args.program.now c.args.bytes.now c.in_ok-functions.functions c.total_of.result
    (says c.args.program.now c.args.bytes.now c.as_slice.result.now c.in_ok-functions.functions (rw c.as_slice.ensures c.in_ok-lines.ensures.ok) c.in_ok-functions.ensures.shape c.in_ok-functions.ensures.same)
    (rw c.as_slice-2.ensures at c.in_ok-check_balances.ensures.ok) (rw c.as_slice-3.ensures at c.in_ok-check_all_reached.ensures.ok)
    (rw c.as_slice-4.ensures at c.total_of.ensures) (omega arith)
