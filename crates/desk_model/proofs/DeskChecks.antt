-- Request 2.1: which check stops a call of the desk, and when none does. Firing is a step of the walk call in a pile of 256 bytes.
use mathlib.Core.Path.{◌≡◌, refl, ap, ap₂, sym}
use mathlib.Core.Bool.{Bool, true, false, cond}
use mathlib.Core.Option.{Option, none, some}
use mathlib.Core.List.{List, [], ◌∷◌}
use Prim.Native.Nat.{ℕ, ◌<◌}
use native.Mathlib.Omega.{arith}
use lib.ListN.{get_elem?}
use lib.Dec.{leb}
use borrow.Author.Tests.{leb-false, lt-leb}
use Rattle.std.specs.Prelude.{Result, Ok, Err}
use Rattle.model.specs.declared.Ending.{Ending}
use Rattle.model.specs.declared.Group.{Group}
use Rattle.model.specs.declared.Refusal.{Refusal}
use Rattle.model.specs.Calls.{Halt, halt_at, halt_end, refused_by, walk_from}
use Rattle.desk_model.specs.Desks.{fires, Contents, findings, desk_pile, fired_to, stop_of, is_high, name_count}
use Rattle.model.specs.Lists.{is_missing, value_or}
use Rattle.model.specs.Systems.{System, Rule, Configuration, fire}
use Rattle.model.proofs.Tests.{by_test}

-- ---- where a walk halts
at_number : (j k step : ℕ) (list : List ℕ) (c : Configuration) → halt_at j step list c ≡ halt_at k step list c → j ≡ k
at_number j k step list c e = ap (λ (h : Halt). refused_by h.answer) e

not_both : (k step : ℕ) (list : List ℕ) (c : Configuration) (sys : System) (d : Configuration) → halt_at k step list c ≡ halt_end sys d → ⊥
not_both k step list c sys d e =
    let a : (halt_at k step list c).answer ≡ (halt_end sys d).answer = ap (λ (h : Halt). h.answer) e in let z : ◌≡◌ {A = ℕ} 0 1 = cc in omega arith

same_end : (sys : System) (c d : Configuration) → halt_end sys c ≡ halt_end sys d → c ≡ d
same_end sys c d e =
    let a : (halt_end sys c).answer ≡ (halt_end sys d).answer = ap (λ (h : Halt). h.answer) e in
    let w : (halt_end sys c).pile ≡ (halt_end sys d).pile = ap (λ (h : Halt). h.pile) e in
    let states : c.states ≡ d.states = ap ended_states a in
    let word : c.word ≡ d.word = cc in
    ap₂ made states word
  where
    made : Group → List ℕ → Configuration
    made g l = record { states = g; word = l }

    ended_states : Result Ending Refusal → Group
    ended_states (Ok x) = x.states
    ended_states (Err r) = c.states

module _ (sys : System) (s : Contents) where
  -- ---- a fire
  module _ (n : ℕ) where
    -- what the walk call's step comes to, and the checks beside it
    record Stepped (h : Halt) (number : ℕ) (to : Option Configuration) : Type 0 where
      pub refused : (k : ℕ) → h ≡ halt_at k 0 (n ∷ []) s.here → number ≡ k
      pub taken : (d : Configuration) → h ≡ halt_end sys d → (number ≡ 0) × (to ≡ some d)

    stopped : (k : ℕ) (to : Option Configuration) → Stepped (halt_at k 0 (n ∷ []) s.here) k to
    stopped k to = record { refused = λ j e. at_number k j 0 (n ∷ []) s.here e; taken = λ d e. absurd (not_both k 0 (n ∷ []) s.here sys d e) }

    stepped : Stepped (walk_from sys desk_pile 0 (n ∷ []) s.here) (stop_of sys s (fires n)) (fired_to sys s n)
    unfolding findings
    stepped = by_rule (get_elem? sys.rules n) refl
      where
        fired : (r : Rule) (o : Option Configuration) → get_elem? sys.rules n ≡ some r → fire sys.loc r s.here ≡ o
            → Stepped (walk_from sys desk_pile 0 (n ∷ []) s.here) (stop_of sys s (fires n)) (fired_to sys s n)
        fired r none e f = rw (e, f) (stopped 12 none)
        fired r (some d) e f = rw (e, f) (by_test (is_high d)
            (λ y. rw y (stopped 14 (some d)))
            (λ y. rw y (record { refused = λ k q. absurd (not_both k 0 (n ∷ []) s.here sys d (sym q)); taken = λ c q. (refl, ap (λ (x : Configuration). some x) (same_end sys d c q)) })))

        by_rule : (x : Option Rule) → get_elem? sys.rules n ≡ x → Stepped (walk_from sys desk_pile 0 (n ∷ []) s.here) (stop_of sys s (fires n)) (fired_to sys s n)
        by_rule none e = rw e (stopped 13 none)
        by_rule (some r) e = fired r (fire sys.loc r s.here) e refl

    pub fire_stops : (k : ℕ) → walk_from sys desk_pile 0 (n ∷ []) s.here ≡ halt_at k 0 (n ∷ []) s.here → stop_of sys s (fires n) ≡ k
    fire_stops = stepped.refused

    pub fire_passes : (d : Configuration) → walk_from sys desk_pile 0 (n ∷ []) s.here ≡ halt_end sys d → (stop_of sys s (fires n) ≡ 0) × (fired_to sys s n ≡ some d)
    fire_passes = stepped.taken

    -- the number of a fire's stop is 13, 12, 14 or 0
    pub fire_number : (P : ℕ → Type 0) → P 13 → P 12 → P 14 → P 0 → P (stop_of sys s (fires n))
    unfolding findings
    fire_number P a b c z = by_three (is_missing (get_elem? sys.rules n)) (is_missing (fired_to sys s n)) (value_or false is_high (fired_to sys s n))
      where
        by_three : (x y w : Bool) → P (cond x 13 (cond y 12 (cond w 14 0)))
        by_three true y w = a
        by_three false true w = b
        by_three false false true = c
        by_three false false false = z

-- ---- a call about a name: what follows where no check stops it
pub not_beyond : (a m : ℕ) → cond (leb name_count a) 18 m ≡ 0 → a < name_count
not_beyond a m z = by_test (leb name_count a) (λ y. absurd (let q : ◌≡◌ {A = ℕ} 18 0 = rw y at z in omega arith)) (λ y. leb-false name_count a y)

pub not_empty : (a : ℕ) (b : Bool) → ◌≡◌ {A = ℕ} (cond (leb name_count a) 18 (cond b 17 0)) 0 → b ≡ true → ⊥
not_empty a b z e = let l : leb name_count a ≡ false = lt-leb name_count a (not_beyond a (cond b 17 0) z) in let q : ◌≡◌ {A = ℕ} 17 0 = rw (l, e) at z in omega arith
