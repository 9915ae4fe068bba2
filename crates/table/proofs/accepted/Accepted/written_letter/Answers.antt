-- The letters stand behind their count, and there are few enough to lie in the body.
use native.Mathlib.Omega.{arith}
use lib.ListN.{drop}
use lib.Seq.{get_or-take, get_or-drop}
use Rattle.model.specs.Tables.{byte_of}
use Rattle.table.proofs.accepted.Accepted.written_letter.Goals as goal

pub returns : goal.returns
returns c =
    let body = c.rule_body-body.result.now in
    let j = c.args.j in
    rw (← c.rule_body-body.ensures.4, get_or-take (byte_of body 9) (drop 10 body) j 0 (omega arith), get_or-drop 10 body j 0)
