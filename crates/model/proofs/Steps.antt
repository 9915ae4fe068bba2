-- Firing is the paper's step, and a walk is a list of steps; equal configurations walk alike.
use mathlib.Core.Path.{◌∙◌, ◌≡◌, ap, refl, subst, sym}
use mathlib.Core.Bool.{true}
use mathlib.Core.Option.{Option, none, some}
use mathlib.Core.List.{List, [], ◌∷◌}
use Prim.Native.Nat.{ℕ}
use native.Mathlib.Omega.{arith}
use lib.ListN.{get_elem?}
use Rattle.model.specs.declared.Group.{Group}
use Rattle.model.specs.Groups.{Processes, merge, restrict, same_group}
use Rattle.model.specs.Lists.{and_then}
use Rattle.model.specs.Systems.{Configuration, Equal, Rule, Step, Steps, System, enabled, fire, fired, onward, stay, walk}
use Rattle.model.proofs.Words.{Located, Tops, equivalent_append, equivalent_pick, equivalent_tops, here, pick_equivalent, pick_tops, tops_of, tops_pick, tops_true}
use Rattle.model.specs.Words.{project, remove_first, tops}
use Rattle.model.proofs.Groups.{same_group_of, same_group_true}
use Rattle.model.proofs.Lists.{and_then_inv}
use Rattle.model.proofs.Tests.{and_both, and_left, and_right, by_test}

pub enabled_matches : (loc : ℕ → Processes) (r : Rule) (s : Configuration) → enabled loc r s ≡ true → restrict (loc r.letter) s.states ≡ r.before
unfolding enabled
enabled_matches loc r s e = same_group_true (restrict (loc r.letter) s.states) r.before (and_left _ _ e)

pub enabled_tops : (loc : ℕ → Processes) (r : Rule) (s : Configuration) → enabled loc r s ≡ true → Tops loc r.letter s.word
unfolding enabled
enabled_tops loc r s e = tops_true loc r.letter s.word (and_right (same_group (restrict (loc r.letter) s.states) r.before) (tops loc r.letter s.word) e)

pub enabled_of : (loc : ℕ → Processes) (r : Rule) (s : Configuration) → restrict (loc r.letter) s.states ≡ r.before → Tops loc r.letter s.word → enabled loc r s ≡ true
unfolding enabled
enabled_of loc r s m t =
    and_both (same_group (restrict (loc r.letter) s.states) r.before) (tops loc r.letter s.word) (same_group_of (restrict (loc r.letter) s.states) r.before m) (tops_of loc r.letter s.word t)

pub fire_some : (loc : ℕ → Processes) (r : Rule) (s : Configuration) → enabled loc r s ≡ true → fire loc r s ≡ some (fired loc r s)
unfolding fire
fire_some loc r s e = rw e

pub record FiredTo (loc : ℕ → Processes) (r : Rule) (s t : Configuration) : Type 0 where
  pub yes : enabled loc r s ≡ true
  pub gives : fired loc r s ≡ t

pub fire_inv : (loc : ℕ → Processes) (r : Rule) (s t : Configuration) → fire loc r s ≡ some t → FiredTo loc r s t
unfolding fire
fire_inv loc r s t e = by_test (enabled loc r s) (λ y. record { yes = y; gives = let q : some (fired loc r s) ≡ some t = rw y at e in cc }) (λ n. absurd (let q : none ≡ some t = rw n at e in let z : ◌≡◌ {A = ℕ} 0 1 = cc in omega arith))

-- what fires is a step, and every step is what fires, up to equivalence
pub fire_step : (loc : ℕ → Processes) → Located loc → (r : Rule) (s t : Configuration) → fire loc r s ≡ some t → Step loc r s t
fire_step loc ne r s t e =
    let f = fire_inv loc r s t e in
    let p = tops_pick loc ne r.letter s.word (enabled_tops loc r s f.yes) in
    record {
      enabled = enabled_matches loc r s f.yes;
      states = ap (λ (x : Configuration). x.states) (sym f.gives);
      below = remove_first r.letter s.word;
      read = pick_equivalent p;
      written = λ i. ap (λ (x : Configuration). project loc i x.word) (sym f.gives);
    }

pub step_fire : (loc : ℕ → Processes) → Located loc → (r : Rule) (s t : Configuration) → Step loc r s t → (fire loc r s ≡ some (fired loc r s)) × Equal loc (fired loc r s) t
step_fire loc ne r s t st =
    let top : Tops loc r.letter s.word = equivalent_tops loc r.letter s.word (r.letter ∷ st.below) st.read (pick_tops {loc = loc} {x = st.below} (here refl)) in
    let p = tops_pick loc ne r.letter s.word top in (
      fire_some loc r s (enabled_of loc r s st.enabled top),
      record {
        states = sym st.states;
        words = λ i. equivalent_append loc r.written r.written (remove_first r.letter s.word) st.below (λ j. refl) (equivalent_pick st.below p st.read) i ∙ sym (st.written i);
      },
    )

pub record WalkStep (sys : System) (n : ℕ) (ns : List ℕ) (s t : Configuration) : Type 0 where
  pub rule : Rule
  pub is : get_elem? sys.rules n ≡ some rule
  pub mid : Configuration
  pub first : fire sys.loc rule s ≡ some mid
  pub rest : walk sys ns mid ≡ some t

pub walk_inv : (sys : System) (n : ℕ) (ns : List ℕ) (s t : Configuration) → walk sys (n ∷ ns) s ≡ some t → WalkStep sys n ns s t
walk_inv sys n ns s t e =
    let a = and_then_inv (get_elem? sys.rules n) (λ r. and_then (fire sys.loc r s) (walk sys ns)) t e in
    let b = and_then_inv (fire sys.loc a.0 s) (walk sys ns) t a.2 in
    record { rule = a.0; is = a.1; mid = b.0; first = b.1; rest = b.2 }

pub walk_cons : (sys : System) (n : ℕ) (ns : List ℕ) (s t : Configuration) → WalkStep sys n ns s t → walk sys (n ∷ ns) s ≡ some t
walk_cons sys n ns s t w =
    ap (λ (o : Option Rule). and_then o (λ r. and_then (fire sys.loc r s) (walk sys ns))) w.is
    ∙ ap (λ (o : Option Configuration). and_then o (walk sys ns)) w.first
    ∙ w.rest

-- ---- equal configurations fire the same rules
step_equal : (loc : _) → (r : Rule) (s s' t : Configuration) → Equal loc s s' → Step loc r s t → Step loc r s' t
step_equal loc r s s' t e st = record {
  enabled = subst (λ (g : Group). restrict (loc r.letter) g ≡ r.before) e.states st.enabled;
  states = st.states ∙ ap (merge (loc r.letter) r.after) e.states;
  below = st.below;
  read = λ i. sym (e.words i) ∙ st.read i;
  written = st.written;
}

-- if a rule fires in one of two equal configurations it fires in the other, and leaves equal ones
pub fire_equal : (sys : System) → Located sys.loc → (r : Rule) (s s' t : Configuration) → Equal sys.loc s s' → fire sys.loc r s ≡ some t
    → (t' : Configuration) × (fire sys.loc r s' ≡ some t') × Equal sys.loc t t'
fire_equal sys ne r s s' t e f =
    let o = step_fire sys.loc ne r s' t (step_equal sys.loc r s s' t e (fire_step sys.loc ne r s t f)) in
    (fired sys.loc r s', o.0, record { states = sym o.1.states; words = λ i. sym (o.1.words i) })

pub walk_equal : (sys : System) → Located sys.loc → (ns : List ℕ) (s s' t : Configuration) → Equal sys.loc s s' → walk sys ns s ≡ some t
    → (t' : Configuration) × (walk sys ns s' ≡ some t') × Equal sys.loc t t'
walk_equal sys ne [] s s' t e w = (s', refl, let same : s ≡ t = cc in subst (λ (x : Configuration). Equal sys.loc x s') same e)
walk_equal sys ne (n ∷ ns) s s' t e w =
    let v = walk_inv sys n ns s t w in
    let f = fire_equal sys ne v.rule s s' v.mid e v.first in
    let r = walk_equal sys ne ns v.mid f.0 t f.2 v.rest in
    (r.0, walk_cons sys n ns s' r.0 (record { rule = v.rule; is = v.is; mid = f.0; first = f.1; rest = r.1 }), r.2)

-- ---- a walk goes exactly as the paper's systems step
equal_trans : (loc : ℕ → Processes) (c d e : Configuration) → Equal loc c d → Equal loc d e → Equal loc c e
equal_trans loc c d e p q = record { states = p.states ∙ q.states; words = λ i. p.words i ∙ q.words i }

pub walk_steps : (sys : System) → Located sys.loc → (ns : List ℕ) (c d : Configuration) → walk sys ns c ≡ some d → Steps sys ns c d
walk_steps sys ne [] c d e =
    let same : c ≡ d = cc in
    stay (record { states = ap (λ (x : Configuration). x.states) same; words = λ i. ap (λ (x : Configuration). project sys.loc i x.word) same })
walk_steps sys ne (n ∷ ns) c d e =
    let w = walk_inv sys n ns c d e in
    onward w.is (fire_step sys.loc ne w.rule c w.mid w.first) (walk_steps sys ne ns w.mid d w.rest)

pub steps_walk : (sys : System) → Located sys.loc → {ns : List ℕ} {c e : Configuration} → Steps sys ns c e → (d : Configuration) × (walk sys ns c ≡ some d) × Equal sys.loc d e
steps_walk sys ne (stay {c = c} q) = (c, refl, q)
steps_walk sys ne (onward {n = n} {ns = ns} {r = r} {c = c} {d = d} {e = e} is st rest) =
    let f = step_fire sys.loc ne r c d st in
    let w = steps_walk sys ne rest in
    let v = walk_equal sys ne ns d (fired sys.loc r c) w.0 (record { states = sym f.1.states; words = λ i. sym (f.1.words i) }) w.1 in (
      v.0,
      walk_cons sys n ns c v.0 (record { rule = r; is = is; mid = fired sys.loc r c; first = f.0; rest = v.1 }),
      equal_trans sys.loc v.0 w.0 e (record { states = sym v.2.states; words = λ i. sym (v.2.words i) }) w.2,
    )
