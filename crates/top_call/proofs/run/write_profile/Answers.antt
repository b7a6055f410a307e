use Rattle.top_call.proofs.Shapes.{shape_of}
use Rattle.top_call.proofs.run.write_profile.Goals as goal

pub print_profile-requires : goal.print_profile-requires
print_profile-requires g c = shape_of c.args.program.now c.args.profile.now.functions c.requires.accepted
