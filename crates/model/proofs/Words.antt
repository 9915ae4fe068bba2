-- Equivalent words, and the two views of a letter that tops its processes: the test, and the place where it stands.
use mathlib.Core.Path.{◌∙◌, ◌≡◌, ap, ap₂, refl, sym}
use mathlib.Core.Bool.{Bool, ◌||◌, false, false≢true, not, true}
use mathlib.Core.List.{List, [], ◌++◌, ◌∷◌}
use Prim.Native.Nat.{ℕ}
use native.Mathlib.Omega.{arith}
use lib.Dec.{eqb}
use borrow.Author.Tests.{eq-eqb, eqb-false, eqb-true}
use Rattle.model.specs.Groups.{Apart, Process, Processes, has}
use Rattle.model.specs.Words.{Equivalent, keep, project, remove_first, starts_with, tops}
use Rattle.model.proofs.Tests.{by_test, every_at, every_of, implied, implies}

-- each letter has a process
abbrev pub Located : (ℕ → Processes) → Type 0
Located loc = (a : ℕ) → (i : Process) × (has (loc a) i ≡ true)

-- w is u a v where no letter of u shares a process with a, and x is u v
pub data Pick (loc : ℕ → Processes) (a : ℕ) : List ℕ → List ℕ → Type 0 where
  here : {b : ℕ} {w : List ℕ} → b ≡ a → Pick loc a (b ∷ w) w
  there : {b : ℕ} {w x : List ℕ} → Apart (loc a) (loc b) → Pick loc a w x → Pick loc a (b ∷ w) (b ∷ x)

pub project_append : (loc : ℕ → Processes) (i : Process) (w v : List ℕ) → project loc i (w ++ v) ≡ project loc i w ++ project loc i v
project_append loc i [] v = refl
project_append loc i (a ∷ w) v = rw (project_append loc i w v) (step (has (loc a) i))
  where
    step : (b : Bool) → keep b a (project loc i w ++ project loc i v) ≡ keep b a (project loc i w) ++ project loc i v
    step true = refl
    step false = refl

abbrev pub Tops : (ℕ → Processes) → ℕ → List ℕ → Type 0
Tops loc a w = (i : Process) → has (loc a) i ≡ true → (r : List ℕ) × (project loc i w ≡ a ∷ r)

starts_true : (a : ℕ) (w : List ℕ) → starts_with a w ≡ true → (r : List ℕ) × (w ≡ a ∷ r)
starts_true a [] e = absurd (false≢true e)
starts_true a (b ∷ w) e = (w, ap (λ (c : ℕ). c ∷ w) (eqb-true b a e))

starts_of : (a : ℕ) (w r : List ℕ) → w ≡ a ∷ r → starts_with a w ≡ true
starts_of a w r e = rw e (eq-eqb a a refl)

pub tops_true : (loc : ℕ → Processes) (a : ℕ) (w : List ℕ) → tops loc a w ≡ true → Tops loc a w
unfolding tops
tops_true loc a w e i m =
    starts_true a (project loc i w) (implies (has (loc a) i) (starts_with a (project loc i w)) (every_at (λ i. not (has (loc a) i) || starts_with a (project loc i w)) e i) m)

pub tops_of : (loc : ℕ → Processes) (a : ℕ) (w : List ℕ) → Tops loc a w → tops loc a w ≡ true
unfolding tops
tops_of loc a w t =
    every_of (λ i. not (has (loc a) i) || starts_with a (project loc i w)) (λ i. implied (has (loc a) i) (starts_with a (project loc i w)) (λ m. starts_of a (project loc i w) (t i m).0 (t i m).1))

keep_swap : (p q : Bool) (a b : ℕ) (r : List ℕ) → (p ≡ true → q ≡ false) → keep q b (keep p a r) ≡ keep p a (keep q b r)
keep_swap true q a b r h = rw (h refl)
keep_swap false q a b r h = refl

pub pick_equivalent : {loc : ℕ → Processes} {a : ℕ} {w x : List ℕ} → Pick loc a w x → Equivalent loc w (a ∷ x)
pick_equivalent {loc} (here {w = w} e) i = ap (λ (c : ℕ). project loc i (c ∷ w)) e
pick_equivalent {loc} {a} (there {b = b} {w = w} {x = x} d p) i =
    ap (keep (has (loc b) i) b) (pick_equivalent p i) ∙ keep_swap (has (loc a) i) (has (loc b) i) a b (project loc i x) (d i)

pub pick_tops : {loc : ℕ → Processes} {a : ℕ} {w x : List ℕ} → Pick loc a w x → Tops loc a w
pick_tops {loc} {a} {w} {x} p i m = (project loc i x, pick_equivalent p i ∙ rw m)

pub equivalent_tops : (loc : ℕ → Processes) (a : ℕ) (w v : List ℕ) → Equivalent loc w v → Tops loc a v → Tops loc a w
equivalent_tops loc a w v s t i m = ((t i m).0, s i ∙ (t i m).1)

-- the head of a list that is known to begin with b
keep_head : (q : Bool) (b a : ℕ) (r s : List ℕ) → keep q b r ≡ a ∷ s → (b ≡ a → ⊥) → q ≡ false
keep_head true b a r s e n = absurd (n (cc))
keep_head false b a r s e n = refl

pub tops_pick : (loc : ℕ → Processes) → Located loc → (a : ℕ) (w : List ℕ) → Tops loc a w → Pick loc a w (remove_first a w)
tops_pick loc ne a [] t = absurd (let (i, m) = ne a in let z : ◌≡◌ {A = ℕ} 0 1 = cc (t i m).1 in omega arith)
tops_pick loc ne a (b ∷ w) t = by_test (eqb b a) same (other (λ t'. tops_pick loc ne a w t'))
  where
    same : eqb b a ≡ true → Pick loc a (b ∷ w) (remove_first a (b ∷ w))
    same e = rw e (here (eqb-true b a e))

    other : (Tops loc a w → Pick loc a w (remove_first a w)) → eqb b a ≡ false → Pick loc a (b ∷ w) (remove_first a (b ∷ w))
    other below e = rw e (there apart (below rest))
      where
        apart : Apart (loc a) (loc b)
        apart i m = keep_head (has (loc b) i) b a (project loc i w) (t i m).0 (t i m).1 (eqb-false b a e)

        rest : Tops loc a w
        rest i m = ((t i m).0, rw (apart i m) at (t i m).1)

keep_cancel : (q : Bool) (a : ℕ) (r s : List ℕ) → keep q a r ≡ keep q a s → r ≡ s
keep_cancel true a r s e = cc
keep_cancel false a r s e = e

pub equivalent_cancel : (loc : ℕ → Processes) (a : ℕ) (x y : List ℕ) → Equivalent loc (a ∷ x) (a ∷ y) → Equivalent loc x y
equivalent_cancel loc a x y s i = keep_cancel (has (loc a) i) a (project loc i x) (project loc i y) (s i)

pub equivalent_append : (loc : ℕ → Processes) (u v x y : List ℕ) → Equivalent loc u v → Equivalent loc x y → Equivalent loc (u ++ x) (v ++ y)
equivalent_append loc u v x y p q i = project_append loc i u x ∙ ap₂ ◌++◌ (p i) (q i) ∙ sym (project_append loc i v y)

pub equivalent_nil : (loc : ℕ → Processes) → Located loc → (w : List ℕ) → Equivalent loc w [] → w ≡ []
equivalent_nil loc ne [] s = refl
equivalent_nil loc ne (a ∷ w) s = absurd (let (i, m) = ne a in let z : ◌≡◌ {A = ℕ} 0 1 = cc (m, s i) in omega arith)

-- the word under a that two equal words leave is the same for every process
pub equivalent_pick : {loc : ℕ → Processes} {a : ℕ} {w x : List ℕ} (y : List ℕ) → Pick loc a w x → Equivalent loc w (a ∷ y) → Equivalent loc x y
equivalent_pick {loc} {a} {w} {x} y p s = equivalent_cancel loc a x y (λ i. sym (pick_equivalent p i) ∙ s i)
