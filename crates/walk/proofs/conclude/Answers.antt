-- A refused step gives its number and place; at the list's end the word left is tested (Ends).
use Prim.Native.Nat.{◌-◌}
use lib.ListN.{take, drop, length}
use Rattle.table.specs.Reading.{system_in}
use Rattle.firing.specs.Piles.{configuration}
use Rattle.walk.proofs.Ends.{refused_answer, ended_answer}
use Rattle.buffers.proofs.Parts.{part_rest}
use Rattle.walk.proofs.conclude.Goals as goal

pub returns-in-Some : goal.returns-in-Some
returns-in-Some c =
    let a = c.args in
    (refused_answer (system_in a.table.now.bytes.now) a.stop (configuration a.pile.now a.stop.placed) c.in-Some.number c.in-Some.is, c.clear.ensures)

pub returns : goal.returns
returns c =
    let a = c.args in (
      ended_answer (system_in a.table.now.bytes.now) a.stop a.pile.now (take (length a.pile.now - a.stop.placed.top) (drop a.stop.placed.top a.pile.now)) c.is_accepted-watched.result c.in_default.is
          (part_rest a.pile.now a.stop.placed.top) c.is_accepted-watched.ensures.0,
      c.is_accepted-watched.ensures.1,
    )
