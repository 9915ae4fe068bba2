-- Acceptance as a test is acceptance as Definition 8 has it.
use mathlib.Core.Path.{◌≡◌, ap₂, refl}
use mathlib.Core.Bool.{Bool, ◌&&◌, true}
use mathlib.Core.Logic.{◌↔◌}
use mathlib.Core.List.Memᴰ
use mathlib.Core.List.{List, Memᴰ, [], ◌∷◌}
use Prim.Native.Nat.{ℕ}
use native.Mathlib.Omega.{arith}
use lib.Dec.{eqb}
use borrow.Author.Tests.{eq-eqb, eqb-true}
use Rattle.model.specs.declared.Group.{Group}
use Rattle.model.specs.Automata.{Along, Transition, label, move}
use Rattle.model.specs.Groups.{Processes, restrict, same_group}
use Rattle.model.specs.Lists.{Each}
use Rattle.model.specs.Systems.{Accepted, Accepts, Configuration, System, accepts, is_accepting}
use Rattle.model.proofs.Groups.{same_group_of, same_group_true}
use Rattle.model.proofs.Lists.{any_of_lem, any_true}
use Rattle.model.proofs.Tests.{and_both, and_left, and_right}

pub is_accepting_true : (g : Group) (acc : List Group) → is_accepting g acc ≡ true → Memᴰ g acc
is_accepting_true g acc e = let r = any_true (same_group g) acc e in Memᴰ.cast (same_group_true g r.0 r.2) r.1

pub is_accepting_of : (g : Group) (acc : List Group) → Memᴰ g acc → is_accepting g acc ≡ true
is_accepting_of g acc m = any_of_lem (same_group g) acc g m (same_group_of g g refl)

module _ (loc : ℕ → Processes) (ts : List Transition) (acc : List Group) where
  -- t reads a in g, and the rest of the word is accepted from where it leads
  abbrev leads : ℕ → List ℕ → Group → Transition → Bool
  leads a w g t = eqb t.letter a && same_group (restrict (loc a) g) t.before && accepts loc ts acc w (move loc t g)

  pub record Leads (a : ℕ) (w : List ℕ) (g : Group) (t : Transition) : Type 0 where
    pub letter : t.letter ≡ a
    pub before : restrict (loc t.letter) g ≡ t.before
    pub rest : accepts loc ts acc w (move loc t g) ≡ true

  leads_true : (a : ℕ) (w : List ℕ) (g : Group) (t : Transition) → leads a w g t ≡ true → Leads a w g t
  leads_true a w g t e =
      let front = and_left (eqb t.letter a && same_group (restrict (loc a) g) t.before) (accepts loc ts acc w (move loc t g)) e in
      let is : t.letter ≡ a = eqb-true t.letter a (and_left (eqb t.letter a) (same_group (restrict (loc a) g) t.before) front) in
      record {
        letter = is;
        before = rw is (same_group_true (restrict (loc a) g) t.before (and_right (eqb t.letter a) (same_group (restrict (loc a) g) t.before) front));
        rest = and_right (eqb t.letter a && same_group (restrict (loc a) g) t.before) (accepts loc ts acc w (move loc t g)) e;
      }

  leads_of : (a : ℕ) (w : List ℕ) (g : Group) (t : Transition) → Leads a w g t → leads a w g t ≡ true
  leads_of a w g t l =
      and_both (eqb t.letter a && same_group (restrict (loc a) g) t.before) (accepts loc ts acc w (move loc t g))
      (and_both (eqb t.letter a) (same_group (restrict (loc a) g) t.before) (eq-eqb t.letter a l.letter)
      (same_group_of (restrict (loc a) g) t.before (rw (← l.letter) l.before))) l.rest

  pub accepts_true : (w : List ℕ) (g : Group) → accepts loc ts acc w g ≡ true
      → Accepts loc (λ (f : Group). Memᴰ f acc) (λ (t : Transition). Memᴰ t ts) (record { states = g; word = w })
  accepts_true [] g e = record { path = []; reads = refl; goods = tt; end = g; along = refl; accepting = is_accepting_true g acc e }
  accepts_true (a ∷ w) g e =
      let r = any_true (leads a w g) ts e in
      let l = leads_true a w g r.0 r.2 in
      let p = accepts_true w (move loc r.0 g) l.rest in
      record {
        path = r.0 ∷ p.path;
        reads = ap₂ (λ (b : ℕ) (v : List ℕ). b ∷ v) l.letter p.reads;
        goods = (r.1, p.goods);
        end = p.end;
        along = (l.before, p.along);
        accepting = p.accepting;
      }

  pub accepts_of : (w : List ℕ) (g f : Group) (path : List Transition) → label path ≡ w → Each (λ (t : Transition). Memᴰ t ts) path → Along loc g path f → Memᴰ f acc
      → accepts loc ts acc w g ≡ true
  accepts_of [] g f [] r e p m = is_accepting_of g acc (Memᴰ.cast p m)
  accepts_of [] g f (t ∷ path) r e p m = absurd (let z : ◌≡◌ {A = ℕ} 0 1 = cc in omega arith)
  accepts_of (a ∷ w) g f [] r e p m = absurd (let z : ◌≡◌ {A = ℕ} 0 1 = cc in omega arith)
  accepts_of (a ∷ w) g f (t ∷ path) r e p m =
      let is : t.letter ≡ a = cc in
      let rest : label path ≡ w = cc in
      any_of_lem (leads a w g) ts t e.0 (leads_of a w g t (record { letter = is; before = p.0; rest = accepts_of w (move loc t g) f path rest e.1 p.1 m }))

-- what the walk call tells as watched is that the table's automaton accepts the configuration
pub watched_is_accepted : (sys : System) (c : Configuration) → (accepts sys.loc sys.transitions sys.accepting c.word c.states ≡ true) ↔ Accepted sys c
watched_is_accepted sys c = (
  accepts_true sys.loc sys.transitions sys.accepting c.word c.states,
  (λ a. accepts_of sys.loc sys.transitions sys.accepting c.word c.states a.end a.path a.reads a.goods a.along a.accepting),
)
