use Rattle.std.proofs.Common.{List, ℕ, Some, sym, ap, ◌∙◌}
use Rattle.std.proofs.lemmas.Result.{err_from_is_err_and}
use Rattle.top_call.specs.Command.{files_of}
use Rattle.top_call.proofs.CheckLemmas.{unaccepted, output_stopped, certificate_stopped, certify_stopped, check_stopped, done}
use Rattle.top_call.proofs.ReadLemmas.{reads_twice}
use Rattle.top_call.proofs.check.check_source.Goals as goal

pub returns-in_err-accepted-clause-ends : goal.returns-in_err-accepted-clause-ends
returns-in_err-accepted-clause-ends g c = λ before read holds.
    let p = err_from_is_err_and c.from_residual.result c.from_residual.ensures.1 in
    rw (p.1, p.2) (unaccepted (files_of c.args.names) before (g.H.Host.state c.accept.new.host) c.in_err-accepted.field-0.0 (c.in_err-accepted.ensures.stops before read holds))

pub returns-in_err-text-clause-ends : goal.returns-in_err-text-clause-ends
returns-in_err-text-clause-ends g c = λ before read holds.
    let p = err_from_is_err_and c.from_residual-in_err-text.result c.from_residual-in_err-text.ensures.1 in
    let late = g.H.Host.state c.accept.new.host in
    rw (p.1, p.2) (output_stopped (files_of c.args.names) before late (reads_twice before (g.H.Host.state c.args.host.now) late read c.accept.ensures.rest)
    c.in_ok-accepted.accepted.program c.in_ok-accepted.ensures.rules c.in_ok-accepted.accepted.counts.functions
    (c.in_ok-accepted.ensures.reads before read holds) (c.in_ok-accepted.ensures.says before read)
    (g.H.Host.state c.read_short.new.host) c.read_short.ensures.rest
    c.in_err-text.field-0.0 c.in_err-text.ensures.stops)

pub returns-in_err-json-clause-ends : goal.returns-in_err-json-clause-ends
returns-in_err-json-clause-ends g c = λ before read holds.
    let p = err_from_is_err_and c.from_residual-in_err-json.result c.from_residual-in_err-json.ensures.1 in
    let late = g.H.Host.state c.accept.new.host in
    rw (p.1, p.2) (certificate_stopped (files_of c.args.names) before late (reads_twice before (g.H.Host.state c.args.host.now) late read c.accept.ensures.rest)
    c.in_ok-accepted.accepted.program c.in_ok-accepted.ensures.rules c.in_ok-accepted.accepted.counts.functions
    (c.in_ok-accepted.ensures.reads before read holds) (c.in_ok-accepted.ensures.says before read)
    (g.H.Host.state c.read_short.new.host) c.read_short.ensures.rest
    c.in_ok-text.text.items c.in_ok-text.ensures.read c.in_ok-text.ensures.short (g.H.Host.state c.read_whole.new.host) c.read_whole.ensures.rest
    c.in_err-json.field-0.0 c.in_err-json.ensures.stops)

pub returns-in_err-certificate-clause-ends : goal.returns-in_err-certificate-clause-ends
returns-in_err-certificate-clause-ends g c = λ before read holds.
    let p = err_from_is_err_and c.from_residual-in_err-certificate.result c.from_residual-in_err-certificate.ensures.1 in
    let late = g.H.Host.state c.accept.new.host in
    rw (p.1, p.2) (certify_stopped (files_of c.args.names) before late (reads_twice before (g.H.Host.state c.args.host.now) late read c.accept.ensures.rest)
    c.in_ok-accepted.accepted.program c.in_ok-accepted.ensures.rules c.in_ok-accepted.accepted.counts.functions
    (c.in_ok-accepted.ensures.reads before read holds) (c.in_ok-accepted.ensures.says before read)
    (g.H.Host.state c.read_short.new.host) c.read_short.ensures.rest
    c.in_ok-text.text.items c.in_ok-text.ensures.read c.in_ok-text.ensures.short (g.H.Host.state c.read_whole.new.host) c.read_whole.ensures.rest
    c.deref.result.now (λ tells. c.in_ok-json.ensures.read tells ∙ ap (λ (bytes : List ℕ). Some bytes) (sym c.deref.ensures.value))
    c.in_err-certificate.field-0.0 c.in_err-certificate.ensures.stops)

pub returns-in_err-agreed-clause-ends : goal.returns-in_err-agreed-clause-ends
returns-in_err-agreed-clause-ends g c = λ before read holds.
    let p = err_from_is_err_and c.from_residual-in_err-agreed.result c.from_residual-in_err-agreed.ensures.1 in
    let late = g.H.Host.state c.accept.new.host in
    rw (p.1, p.2) (check_stopped (files_of c.args.names) before late (reads_twice before (g.H.Host.state c.args.host.now) late read c.accept.ensures.rest)
    c.in_ok-accepted.accepted.program c.in_ok-accepted.ensures.rules c.in_ok-accepted.accepted.counts.functions
    (c.in_ok-accepted.ensures.reads before read holds) (c.in_ok-accepted.ensures.says before read)
    (g.H.Host.state c.read_short.new.host) c.read_short.ensures.rest
    c.in_ok-text.text.items c.in_ok-text.ensures.read c.in_ok-text.ensures.short (g.H.Host.state c.read_whole.new.host) c.read_whole.ensures.rest
    c.deref.result.now (λ tells. c.in_ok-json.ensures.read tells ∙ ap (λ (bytes : List ℕ). Some bytes) (sym c.deref.ensures.value))
    c.in_ok-certificate.certificate c.in_ok-certificate.ensures.held
    c.in_err-agreed.field-0.0 (rw c.deref-2.ensures.value at c.in_err-agreed.ensures.stops))

pub returns-clause-ends : goal.returns-clause-ends
returns-clause-ends g c = λ before read holds.
    let late = g.H.Host.state c.accept.new.host in
    done (files_of c.args.names) before late (reads_twice before (g.H.Host.state c.args.host.now) late read c.accept.ensures.rest)
    c.in_ok-accepted.accepted.program c.in_ok-accepted.ensures.rules c.in_ok-accepted.accepted.counts.functions
    (c.in_ok-accepted.ensures.reads before read holds) (c.in_ok-accepted.ensures.says before read)
    (g.H.Host.state c.read_short.new.host) c.read_short.ensures.rest
    c.in_ok-text.text.items c.in_ok-text.ensures.read c.in_ok-text.ensures.short (g.H.Host.state c.read_whole.new.host) c.read_whole.ensures.rest
    c.deref.result.now (λ tells. c.in_ok-json.ensures.read tells ∙ ap (λ (bytes : List ℕ). Some bytes) (sym c.deref.ensures.value))
    c.in_ok-certificate.certificate c.in_ok-certificate.ensures.held
    (rw c.deref-2.ensures.value at c.in_ok-agreed.ensures.yes) c.in_ok-agreed.ensures.best
