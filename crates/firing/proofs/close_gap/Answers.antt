-- One letter after the other moves one place on, beginning at the gap (Piles).
use mathlib.Core.Path.{◌≡◌, refl, ◌∙◌, ap}
use Prim.Native.Nat.{ℕ}
use Rattle.firing.specs.Places.{closed}
use Rattle.firing.proofs.Piles.{closed_none, closed_turn}
use native.Mathlib.Omega.{arith}
use lib.ListN.{length-set}
use Rattle.firing.proofs.close_gap.Goals as goal

pub loop-j-init : goal.loop-j-init
loop-j-init c = (omega arith, omega arith, refl, closed_none c.args.pile.now c.args.p)

pub overflow_sub-pile : goal.overflow_sub-pile
overflow_sub-pile c = omega arith

pub bounds-pile-j : goal.bounds-pile-j
bounds-pile-j c = omega arith

pub bounds-pile-j-in-loop-j : goal.bounds-pile-j-in-loop-j
bounds-pile-j-in-loop-j c = omega arith

pub overflow_sub-j : goal.overflow_sub-j
overflow_sub-j c = omega arith

pub loop-j-smaller : goal.loop-j-smaller
loop-j-smaller c = omega arith

pub loop-j-preserved : goal.loop-j-preserved
loop-j-preserved c =
    let m = c.loop-j in
    let s = c.args in
    (omega arith, omega arith, simp length-set m.invariant.2, rw m.invariant.3 (closed_turn s.pile.now m.j s.p (omega arith) (omega arith) (omega arith)))

pub shape_of-pile : goal.shape_of-pile
shape_of-pile c = c.loop-j.invariant.2

pub returns : goal.returns
returns c =
    let m = c.loop-j in
    let e : m.j ≡ c.args.top = omega arith in
    m.invariant.3 ∙ ap (λ (j : ℕ). closed c.args.pile.now j c.args.p) e
