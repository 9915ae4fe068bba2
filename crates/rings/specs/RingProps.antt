-- There is at most one proof that records are in rings: what a struct needs to hold the fact.
use Rattle.std.specs.Prelude.{◌≡◌, Bool, ◌⊎◌, List, ℕ, ◌<◌, ◌≤◌}
use mathlib.Core.Logic.{inl, inr}
use mathlib.Core.Path.{ap}
use native.Mathlib.Omega.{arith}
use Rattle.std.proofs.Props.{props}
use Rattle.rings.specs.Rings.{no_link, RingRoom, NoTail, Greatest, Ahead, Around, Ringed}

sum_prop : {A B : Type 0} → IsProp A → IsProp B → (A → B → ⊥) → IsProp (A ⊎ B)
sum_prop p q d (inl a) (inl b) = ap inl (p a b)
sum_prop p q d (inl a) (inr b) = absurd (d a b)
sum_prop p q d (inr a) (inl b) = absurd (d b a)
sum_prop p q d (inr a) (inr b) = ap inr (q a b)

tail_prop : (test : ℕ → Bool) (base t : ℕ) → base ≤ no_link → IsProp (NoTail test base t ⊎ Greatest test base t)
tail_prop test base t h =
    let left : IsProp (NoTail test base t) = hlevel props in
    let right : IsProp (Greatest test base t) = hlevel props in
    sum_prop left right (λ a b. omega (arith, a.is, b.below, h))

next_prop : (test : ℕ → Bool) (base r w : ℕ) → IsProp (Ahead test base r w ⊎ Around test base r w)
next_prop test base r w =
    let left : IsProp (Ahead test base r w) = hlevel props in
    let right : IsProp (Around test base r w) = hlevel props in
    sum_prop left right (λ a b. omega (arith, a.later, b.earlier))

pub ringed_prop : (log : List ℕ) (base n at : ℕ) (s : List ℕ) → RingRoom log base n at s → IsProp (Ringed log base n at s)
ringed_prop log base n at s room =
    let tails : (test : ℕ → Bool) (t : ℕ) → IsProp (NoTail test base t ⊎ Greatest test base t) = λ test t. tail_prop test base t (omega (arith, room.fits, room.short)) in
    hlevel (props, tails, next_prop)
