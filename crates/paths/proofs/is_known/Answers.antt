-- The end was seen before, or it is noted and looked for in the log.
use mathlib.Core.Path.{sym, ◌∙◌}
use Rattle.paths.specs.Jobs.{held_by}
use Rattle.paths.proofs.Arriving.{end_new, end_seen, keys_noted}
use Rattle.paths.proofs.is_known.Goals as goal

pub is_held-requires : goal.is_held-requires
is_held-requires c =
    (keys_noted c.args.x c.requires.1 c.requires.0 c.insert.ensures, c.requires.1)
