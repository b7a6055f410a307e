use Rattle.std.proofs.lemmas.Result.{err_from_is_err_and}
use Rattle.top_call.specs.Command.{files_of}
use Rattle.top_call.proofs.OptLemmas.{unaccepted, optimise_stopped, write_stopped, done}
use Rattle.top_call.proofs.ReadLemmas.{reads_twice}
use Rattle.top_call.proofs.opt.opt_source.Goals as goal

pub returns-in_err-accepted-clause-ends : goal.returns-in_err-accepted-clause-ends
returns-in_err-accepted-clause-ends g c = λ before read holds.
    let p = err_from_is_err_and c.from_residual.result c.from_residual.ensures.1 in
    rw (p.1, p.2) (unaccepted (files_of c.args.names) before (g.H.Host.state c.accept.new.host) c.in_err-accepted.field-0.0 (c.in_err-accepted.ensures.stops before read holds))

pub returns-in_err-texts-clause-ends : goal.returns-in_err-texts-clause-ends
returns-in_err-texts-clause-ends g c = λ before read holds.
    let p = err_from_is_err_and c.from_residual-in_err-texts.result c.from_residual-in_err-texts.ensures.1 in
    let late = g.H.Host.state c.accept.new.host in
    rw (p.1, p.2) (optimise_stopped (files_of c.args.names) before late (reads_twice before (g.H.Host.state c.args.host.now) late read c.accept.ensures.rest)
    c.in_ok-accepted.accepted.program c.in_ok-accepted.ensures.rules c.in_ok-accepted.accepted.counts.functions
    (c.in_ok-accepted.ensures.reads before read holds) (c.in_ok-accepted.ensures.says before read)
    c.in_err-texts.field-0.0 c.in_err-texts.ensures.stops)

pub returns-in_err-write_both-clause-ends : goal.returns-in_err-write_both-clause-ends
returns-in_err-write_both-clause-ends g c = λ before read holds.
    let p = err_from_is_err_and c.from_residual-in_err-write_both.result c.from_residual-in_err-write_both.ensures.1 in
    let late = g.H.Host.state c.accept.new.host in
    rw (p.1, p.2) (write_stopped (files_of c.args.names) before late (reads_twice before (g.H.Host.state c.args.host.now) late read c.accept.ensures.rest)
    c.in_ok-accepted.accepted.program c.in_ok-accepted.ensures.rules c.in_ok-accepted.accepted.counts.functions
    (c.in_ok-accepted.ensures.reads before read holds) (c.in_ok-accepted.ensures.says before read)
    c.in_ok-texts.texts.module.items c.in_ok-texts.texts.certificate.items c.in_ok-texts.ensures.texts
    (g.H.Host.state c.write_both.new.host) c.in_err-write_both.field-0.0 c.in_err-write_both.ensures.stops)

pub returns-clause-ends : goal.returns-clause-ends
returns-clause-ends g c = λ before read holds.
    let late = g.H.Host.state c.accept.new.host in
    done (files_of c.args.names) before late (reads_twice before (g.H.Host.state c.args.host.now) late read c.accept.ensures.rest)
    c.in_ok-accepted.accepted.program c.in_ok-accepted.ensures.rules c.in_ok-accepted.accepted.counts.functions
    (c.in_ok-accepted.ensures.reads before read holds) (c.in_ok-accepted.ensures.says before read)
    c.in_ok-texts.texts.module.items c.in_ok-texts.texts.certificate.items c.in_ok-texts.ensures.texts
    (g.H.Host.state c.write_both.new.host) c.in_ok-write_both.ensures.output c.in_ok-write_both.ensures.certificate
