use Rattle.transform.proofs.Alone.{PlanLaws}
use Rattle.transform.proofs.Wholes.{ModuleLaws, sound_plans, new_rules, is_transformed}
use Rattle.transform.proofs.applying.apply.Goals as goal

pub new-requires : goal.new-requires
new-requires c =
    let laws : PlanLaws = record { is_plan = c.plan_is_plan.ensures; is_small = c.plan_is_small.ensures; small_fits = c.small_plans_fit.ensures } in
    let m = c.args.program.now in
    let qs = c.args.placed.now in
    let news = c.in_ok-functions.functions.items in
    let rules = c.globals.ensures.rules in
    let of : ModuleLaws = record { keeps = c.applied_keeps_rules.ensures; stands = c.applied_stands.ensures.stands; same = c.applied_same.ensures } in
    rw (c.from.ensures, c.in_ok-globals.ensures, c.globals.ensures.list) (new_rules of m qs news rules (sound_plans laws m qs news rules c.requires.limits c.requires.placed c.in_ok-functions.ensures))

pub returns : goal.returns
returns c =
    let laws : PlanLaws = record { is_plan = c.plan_is_plan.ensures; is_small = c.plan_is_small.ensures; small_fits = c.small_plans_fit.ensures } in
    let m = c.args.program.now in
    let qs = c.args.placed.now in
    let news = c.in_ok-functions.functions.items in
    let rules = c.globals.ensures.rules in
    let of : ModuleLaws = record { keeps = c.applied_keeps_rules.ensures; stands = c.applied_stands.ensures.stands; same = c.applied_same.ensures } in
    rw (c.new.ensures, c.from.ensures, c.in_ok-globals.ensures, c.globals.ensures.list) (is_transformed of m qs news rules (sound_plans laws m qs news rules c.requires.limits c.requires.placed c.in_ok-functions.ensures))
