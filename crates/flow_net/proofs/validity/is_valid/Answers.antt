use Rattle.std.proofs.Common.{subst, sym, ◌<◌, ◌^◌, List}
use Rattle.std.specs.List.{sum_by, All}
use Rattle.flow_net.specs.declared.Arc.{Arc}
use Rattle.flow_net.specs.Network.{IsArcOf}
use Rattle.flow_net.proofs.validity.is_valid.Goals as goal

pub returns-then-are_arcs_of : goal.returns-then-are_arcs_of
returns-then-are_arcs_of c =
    let same = c.deref-then-are_arcs_of.ensures.value in (
      (λ small. record {
        nodes = c.if-net-lt2.false;
        arcs = subst (λ list. All (IsArcOf c.args.net.now.nodes) list) c.deref.ensures.value (c.are_arcs_of.ensures.0 c.if-are_arcs_of.true);
        total = subst (λ (list : List Arc). sum_by (λ (a : Arc). a.cap) list < 2 ^ 120) same (c.is_total_small.ensures.0 small);
      }),
      (λ v. c.is_total_small.ensures.1 (subst (λ (list : List Arc). sum_by (λ (a : Arc). a.cap) list < 2 ^ 120) (sym same) v.total)),
    )
