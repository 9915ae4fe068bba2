-- Two sets of bits share no process where no bit is in both (Scans).
use mathlib.Core.Path.{◌∙◌, ap}
use Rattle.model.specs.Groups.{apart_test, processes_of}
use Rattle.table.specs.Reading.{system_in}
use Rattle.firing.proofs.Scans.{apart_bits}
use Rattle.firing.proofs.is_apart.Goals as goal

pub returns : goal.returns
returns c =
    let l = c.letter_bits-other.ensures in
    apart_bits c.args.bits c.letter_bits-other.result c.requires.1 l.small ∙ ap (apart_test (processes_of c.args.bits)) (l.same ∙ ap (system_in c.args.table.now.bytes.now).loc c.from.ensures)
