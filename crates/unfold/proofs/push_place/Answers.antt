-- A place behind the path leaves the stack as it is, any other is put on top (Pushing).
use native.Mathlib.Omega.{arith}
use Rattle.unfold.proofs.Pushing.{below_one, pushed_none, pushed_some}
use Rattle.unfold.proofs.push_place.Goals as goal

pub returns-then-n-j : goal.returns-then-n-j
returns-then-n-j c =
    let a = c.args in
    pushed_none a.scratch.now a.log.now a.top a.x a.j a.n c.if-n-j.true

pub put_number-requires : goal.put_number-requires
put_number-requires c =
    let a = c.args in
    omega (arith, c.requires.2, below_one a.log.now a.x a.j a.n c.if-n-j.false)

pub returns : goal.returns
returns c =
    let a = c.args in
    rw c.put_number.ensures (pushed_some a.scratch.now a.log.now a.top a.x a.j a.n c.place_at-place.result c.if-n-j.false
    c.place_at-place.ensures (omega arith) c.requires.2)
