use Rattle.profile_rows.proofs.Shape.{shape_of}
use Rattle.profile_rows.proofs.rows.printed.Goals as goal

pub print_profile-requires : goal.print_profile-requires
print_profile-requires c = shape_of _ _ c.requires
