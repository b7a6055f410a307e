use Rattle.std.proofs.Common.{◌≡◌, ℕ, List, length, subst, rules}
use Rattle.flow_net.specs.declared.Flow.{Flow}
use Rattle.reduced_flows.specs.Flows.{IsSpread}
use Rattle.mc_solve.proofs.flows.flow_of.Goals as goal

pub returns-clause-maximum : goal.returns-clause-maximum
returns-clause-maximum g c =
    let nets = c.args.nets.now in
    let flow : Flow = record { amounts = c.in_ok-amounts.amounts } in
    let count : c.len-count.result ≡ length nets.full.net.arcs.items = search rules in
    let spread : IsSpread (length nets.full.net.arcs.items) nets.needed.arc_of.items c.in_ok-part.part.amounts.items flow.amounts.items =
    subst (λ n. IsSpread n nets.needed.arc_of.items c.in_ok-part.part.amounts.items flow.amounts.items) count
    (subst (λ (a : List ℕ). IsSpread c.len-count.result a c.in_ok-part.part.amounts.items flow.amounts.items) c.deref.ensures.value
    (subst (λ (a : List ℕ). IsSpread c.len-count.result c.deref.result.now a flow.amounts.items) c.deref-2.ensures.value c.in_ok-amounts.ensures)) in
    c.requires.part.maximum c.in_ok-part.part flow c.in_ok-part.ensures.maximum spread
