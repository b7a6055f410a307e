use Rattle.std.proofs.Common.{ℕ, List, length, ◌≤◌, Some, sym, ap, subst, ◌∙◌}
use Rattle.std.proofs.lemmas.Result.{err_from_is_err_and}
use Rattle.top_call.specs.Print.{text_limit}
use Rattle.top_call.proofs.Accepting.{module_unparsed, profile_unread, profile_unsaid, module_read, profile_read}
use Rattle.top_call.proofs.accepted.accept.Goals as goal

pub returns-in_err-program-clause-stops : goal.returns-in_err-program-clause-stops
returns-in_err-program-clause-stops g c =
    let p = err_from_is_err_and c.from_residual.result c.from_residual.ensures.1 in
    rw (p.1, p.2) (λ before read holds. module_unparsed c.args.input.now c.args.profile.now before (g.H.Host.state c.args.host.now) c.args.source.now read holds c.requires.short
    c.in_err-program.field-0.0 c.in_err-program.ensures.stops)

pub returns-in_err-bytes-clause-stops : goal.returns-in_err-bytes-clause-stops
returns-in_err-bytes-clause-stops g c =
    let p = err_from_is_err_and c.from_residual-in_err-bytes.result c.from_residual-in_err-bytes.ensures.1 in
    rw (p.1, p.2) (λ before read holds. profile_unread c.args.input.now c.args.profile.now before (g.H.Host.state c.args.host.now) c.args.source.now read holds c.requires.short
    c.in_ok-program.program c.in_ok-program.ensures.read (g.H.Host.state c.read_short.new.host) c.read_short.ensures.rest
    c.in_err-bytes.field-0.0 c.in_err-bytes.ensures.stops)

pub returns-in_err-counts-clause-stops : goal.returns-in_err-counts-clause-stops
returns-in_err-counts-clause-stops g c =
    let p = err_from_is_err_and c.from_residual-in_err-counts.result c.from_residual-in_err-counts.ensures.1 in
    let IsShort : List ℕ → Type 0 = λ bytes. length bytes ≤ text_limit in
    rw (p.1, p.2) (λ before read holds. profile_unsaid c.args.input.now c.args.profile.now before (g.H.Host.state c.args.host.now) c.args.source.now read holds c.requires.short
    c.in_ok-program.program c.in_ok-program.ensures.read (g.H.Host.state c.read_short.new.host) c.read_short.ensures.rest
    c.deref.result.now (λ tells. c.in_ok-bytes.ensures.read tells ∙ ap (λ (bytes : List ℕ). Some bytes) (sym c.deref.ensures.value))
    (subst IsShort (sym c.deref.ensures.value) c.in_ok-bytes.ensures.short)
    c.keeps_rules.ensures c.in_err-counts.field-0.0 c.in_err-counts.ensures.stops)

pub returns-clause-reads : goal.returns-clause-reads
returns-clause-reads g c = λ before read holds tells.
    module_read c.args.input.now c.args.profile.now before (g.H.Host.state c.args.host.now) c.args.source.now read holds c.requires.short
    c.in_ok-program.program c.in_ok-program.ensures.read (g.H.Host.state c.read_short.new.host) c.read_short.ensures.rest tells

pub returns-clause-says : goal.returns-clause-says
returns-clause-says g c = λ before read tells.
    let IsShort : List ℕ → Type 0 = λ bytes. length bytes ≤ text_limit in
    profile_read c.args.profile.now before (g.H.Host.state c.args.host.now) read
    c.in_ok-program.program
    c.deref.result.now (λ told. c.in_ok-bytes.ensures.read told ∙ ap (λ (bytes : List ℕ). Some bytes) (sym c.deref.ensures.value))
    (subst IsShort (sym c.deref.ensures.value) c.in_ok-bytes.ensures.short)
    c.in_ok-counts.counts.functions c.in_ok-counts.ensures.read tells
