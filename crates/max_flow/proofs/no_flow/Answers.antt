use Rattle.std.proofs.Common.{arith, ap, ◌∙◌, ◌≡◌, replicate, length}
use Rattle.max_flow.proofs.Zero.{zero_within, zero_balanced}
use Rattle.max_flow.proofs.no_flow.Goals as goal

pub returns-clause-within : goal.returns-clause-within
returns-clause-within c =
    let count : c.len.result ≡ length c.args.net.now.arcs.items = omega (arith, c.len.ensures, c.args.net.now.arcs.ok.0) in
    zero_within c.args.net.now _ (c.in_ok-zeros.ensures ∙ ap (λ n. replicate n 0) count)

pub returns-clause-balanced : goal.returns-clause-balanced
returns-clause-balanced c =
    let count : c.len.result ≡ length c.args.net.now.arcs.items = omega (arith, c.len.ensures, c.args.net.now.arcs.ok.0) in
    zero_balanced c.args.net.now (record { amounts = c.in_ok-zeros.field-0 }) (c.in_ok-zeros.ensures ∙ ap (λ n. replicate n 0) count)
