-- The start's set, the word read and the test for an accepting state decide acceptance; clearing leaves zeroes (Regions).
use mathlib.Core.Path.{◌∙◌}
use Rattle.table.specs.Reading.{system_in}
use Rattle.table.specs.Present.{present_in}
use Rattle.acceptance.proofs.Regions.{here_length, word_read}
use Rattle.model.proofs.Closing.{zeros_same}
use native.Mathlib.Omega.{arith}
use Rattle.acceptance.proofs.is_accepted.Goals as goal

pub returns : goal.returns
returns c =
    let a = c.args in (
      word_read (system_in a.table.now.bytes.now) (present_in a.table.now.counts) a.word.now a.scratch.now c.put_start.new.members c.read_word.new.scratch a.states c.has_accepting-accepted.result c.requires.1 c.requires.0
          c.put_start.ensures c.read_word.ensures c.has_accepting-accepted.ensures,
      c.clear.ensures ∙ zeros_same c.read_word.new.scratch a.scratch.now (c.read_word.auto.scratch ∙ here_length a.scratch.now c.put_start.new.members (omega (arith, c.requires.1)) c.put_start.auto.members),
    )
