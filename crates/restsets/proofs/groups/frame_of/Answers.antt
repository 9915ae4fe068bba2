-- What is gone through for a letter.
use Rattle.model.specs.Groups.{processes_of}
use Rattle.restsets.proofs.OwnGroups.{frame_made}
use Rattle.restsets.proofs.groups.frame_of.Goals as goal

pub returns : goal.returns
returns c =
    let a = c.args in
    frame_made (processes_of a.bits) a.last _ c.extent-3.result c.extent-4.result (record {
      mask = c.mask_of.ensures;
      rows = c.extent.ensures;
      words = c.extent-2.ensures;
      second_is = c.extent-3.ensures;
      third_is = c.extent-4.ensures;
      rest = c.rest_bits.ensures;
    })
