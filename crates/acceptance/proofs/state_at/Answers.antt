-- The bits stand for the table's processes.
use mathlib.Core.Path.{refl}
use Rattle.model.proofs.Groups.{bits_back}
use Rattle.table.specs.Present.{present_in}
use Rattle.table.proofs.Layouts.{table_modest}
use Rattle.acceptance.proofs.state_at.Goals as goal

pub present-requires : goal.present-requires
present-requires c = (table_modest _ _ c.args.table.now.holds).processes

pub returns : goal.returns
returns c = rw (c.numbered.ensures, c.present.ensures, bits_back (present_in c.args.table.now.counts)) refl
