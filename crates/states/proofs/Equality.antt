-- Equality of groups, as it is derived, is the model's.
use Rattle.std.proofs.Common.{◌≡◌, ◌&&◌}
use Rattle.std.specs.Prelude.{eqb}
use Rattle.std.proofs.Math.Bool.{and_assoc}
use Rattle.model.specs.declared.Group.{Group}
use Rattle.model.specs.Groups.{same_group}

pub same_fields : (g h : Group) → same_group g h ≡ (eqb g.s0 h.s0 && (eqb g.s1 h.s1 && (eqb g.s2 h.s2 && eqb g.s3 h.s3)))
unfolding same_group
same_fields g h = simp and_assoc
