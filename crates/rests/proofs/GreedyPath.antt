-- The start's path without listing all paths: which states can still end well, from the back; then the lowest record that leads to such a state.
use mathlib.Core.Path.{◌∙◌, ◌≡◌, refl, ap, sym}
use mathlib.Core.Bool.{Bool, ◌&&◌, ◌||◌, cond, false, true}
use mathlib.Core.Option
use mathlib.Core.Option.{Option, none, some}
use mathlib.Core.List.{List, [], ◌++◌, ◌∷◌, map}
use Prim.Native.Nat.{suc, ℕ}
use lib.Dec.{eqb}
use lib.Seq.{append_snoc}
use Rattle.model.specs.declared.Group.{Group}
use Rattle.model.specs.Automata.{Transition, move}
use Rattle.model.specs.Groups.{Processes, restrict, same_group}
use Rattle.model.specs.Lists.{any_of}
use Rattle.model.specs.Log.{Path, Record, extend, keys, paths, push, reads_at}
use Rattle.model.specs.Systems.{Configuration, System, accepts, is_accepting}
use Rattle.model.specs.Unfolding.{accepting_path, first_accepting}
use Rattle.model.proofs.Tests.{by_test}
use Rattle.rests.specs.Rests.{prepend}

abbrev pub pick_from : (ℕ → Processes) → ℕ → Group → (Group → Bool) → (Group → Option Path) → List Record → ℕ → Option Path
pick_from loc a g ok next [] n = none
pick_from loc a g ok next (r ∷ rs) n = cond (reads_at loc a g r && ok (move loc r.key g)) (Option.map (push n) (next (move loc r.key g))) (pick_from loc a g ok next rs (suc n))

-- at each letter the lowest record that can still end well
abbrev pub greedy : (ℕ → Processes) → List Record → List Group → List ℕ → Group → Option Path
greedy loc log acc [] g = cond (is_accepting g acc) (some (record { numbers = []; end = g })) none
greedy loc log acc (a ∷ w) g = pick_from loc a g (λ h. accepts loc (keys log) acc w h) (λ h. greedy loc log acc w h) log 0

abbrev pub is_some : {A : Type 0} → Option A → Bool
is_some none = false
is_some (some a) = true

abbrev pub or_else : {A : Type 0} → Option A → Option A → Option A
or_else none o = o
or_else (some a) o = some a

pub first_append : (acc : List Group) (xs ys : List Path) → first_accepting acc (xs ++ ys) ≡ or_else (first_accepting acc xs) (first_accepting acc ys)
first_append acc [] ys = refl
first_append acc (x ∷ xs) ys = by_test (is_accepting x.end acc) (λ y. rw y) (λ n. rw n (first_append acc xs ys))

pub first_push : (acc : List Group) (n : ℕ) (ts : List Path) → first_accepting acc (map (push n) ts) ≡ Option.map (push n) (first_accepting acc ts)
first_push acc n [] = refl
first_push acc n (t ∷ ts) = by_test (is_accepting t.end acc) (λ y. rw y) (λ m. rw m (first_push acc n ts))

-- one record, then the rest
pub first_extend : (loc : ℕ → Processes) (acc : List Group) (a : ℕ) (g : Group) (next : Group → List Path) (r : Record) (rs : List Record) (n : ℕ)
    → first_accepting acc (extend loc a g next (r ∷ rs) n)
    ≡ cond (reads_at loc a g r) (or_else (Option.map (push n) (first_accepting acc (next (move loc r.key g)))) (first_accepting acc (extend loc a g next rs (suc n)))) (first_accepting acc (extend loc a g next rs (suc n)))
first_extend loc acc a g next r rs n =
    first_append acc (cond (reads_at loc a g r) (map (push n) (next (move loc r.key g))) []) (extend loc a g next rs (suc n))
    ∙ by_test (reads_at loc a g r) (λ y. rw (y, first_push)) (λ m. rw m)

or_some : {A : Type 0} (b : Bool) (f : A → A) (o p : Option A) → is_some (cond b (or_else (Option.map f o) p) p) ≡ ((b && is_some o) || is_some p)
or_some true f none p = refl
or_some true f (some a) p = refl
or_some false f o p = refl

or_pick : {A : Type 0} (b : Bool) (f : A → A) (o p : Option A) → cond b (or_else (Option.map f o) p) p ≡ cond (b && is_some o) (Option.map f o) p
or_pick true f none p = refl
or_pick true f (some a) p = refl
or_pick false f o p = refl

module _ (loc : ℕ → Processes) (acc : List Group) (a : ℕ) (g : Group) (next : Group → List Path) where
  accepts_extend : (ok : Group → Bool) → ((h : Group) → ok h ≡ is_some (first_accepting acc (next h))) → (rs : List Record) (n : ℕ) → any_of (λ (t : Transition). eqb t.letter a && same_group (restrict (loc a) g) t.before && ok (move loc t g)) (keys rs) ≡ is_some (first_accepting acc (extend loc a g next rs n))
  unfolding reads_at
  accepts_extend ok same [] n = refl
  accepts_extend ok same (r ∷ rs) n =
      rw (same (move loc r.key g), accepts_extend ok same rs (suc n), first_extend loc acc a g next r rs n)
      (sym (or_some (reads_at loc a g r) (push n) (first_accepting acc (next (move loc r.key g))) (first_accepting acc (extend loc a g next rs (suc n)))))

  pick_extend : (ok : Group → Bool) → ((h : Group) → ok h ≡ is_some (first_accepting acc (next h))) → (go : Group → Option Path) → ((h : Group) → go h ≡ first_accepting acc (next h))
      → (rs : List Record) (n : ℕ) → pick_from loc a g ok go rs n ≡ first_accepting acc (extend loc a g next rs n)
  pick_extend ok same go found [] n = refl
  pick_extend ok same go found (r ∷ rs) n =
      rw (same (move loc r.key g), found (move loc r.key g), pick_extend ok same go found rs (suc n), first_extend loc acc a g next r rs n)
      (sym (or_pick (reads_at loc a g r) (push n) (first_accepting acc (next (move loc r.key g))) (first_accepting acc (extend loc a g next rs (suc n)))))

is_some_cond : {A : Type 0} (b : Bool) (x : A) → b ≡ is_some (cond b (some x) none)
is_some_cond true x = refl
is_some_cond false x = refl

pub accepts_is : (loc : ℕ → Processes) (log : List Record) (acc : List Group) (w : List ℕ) (g : Group) → accepts loc (keys log) acc w g ≡ is_some (first_accepting acc (paths loc log w g))
accepts_is loc log acc [] g = is_some_cond (is_accepting g acc) (record { numbers = []; end = g })
accepts_is loc log acc (a ∷ w) g = accepts_extend loc acc a g (λ h. paths loc log w h) (λ h. accepts loc (keys log) acc w h) (λ h. accepts_is loc log acc w h) log 0

pub greedy_is : (loc : ℕ → Processes) (log : List Record) (acc : List Group) (w : List ℕ) (g : Group) → greedy loc log acc w g ≡ first_accepting acc (paths loc log w g)
greedy_is loc log acc [] g = refl
greedy_is loc log acc (a ∷ w) g =
    pick_extend loc acc a g (λ h. paths loc log w h) (λ h. accepts loc (keys log) acc w h) (λ h. accepts_is loc log acc w h) (λ h. greedy loc log acc w h) (λ h. greedy_is loc log acc w h) log 0

pub accepting_path_greedy : (sys : System) (log : List Record) (s : Configuration) → accepting_path sys log s ≡ greedy sys.loc log sys.accepting s.word s.states
unfolding accepting_path
accepting_path_greedy sys log s = sym (greedy_is sys.loc log sys.accepting s.word s.states)

-- ---- record numbers in front of a path
pub prepend_none : (o : Option Path) → o ≡ Option.map (prepend []) o
prepend_none none = refl
prepend_none (some p) = refl

pub prepend_more : (ns : List ℕ) (n : ℕ) (o : Option Path) → Option.map (prepend ns) (Option.map (push n) o) ≡ Option.map (prepend (ns ++ (n ∷ []))) o
prepend_more ns n none = refl
prepend_more ns n (some p) = ap (λ (l : List ℕ). some (record { numbers = l; end = p.end })) (sym (append_snoc ns n p.numbers))
