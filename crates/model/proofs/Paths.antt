-- Paths of local transitions, and the trace lemma: a path over a word can be rearranged into one over any equivalent word.
use mathlib.Core.Path.{◌∙◌, ◌≡◌, ap, ap₂, refl, subst, sym}
use mathlib.Core.Bool.{true≢false}
use mathlib.Core.Logic.{◌⊎◌, inl, inr}
use mathlib.Core.List.{List, [], ◌++◌, ◌∷◌}
use Prim.Native.Nat.{ℕ}
use native.Mathlib.Omega.{arith}
use Rattle.model.specs.declared.Group.{Group}
use Rattle.model.specs.Automata.{Along, Transition, label, move}
use Rattle.model.specs.Groups.{Apart, Processes, Within, has, merge, restrict}
use Rattle.model.specs.Lists.{Each}
use Rattle.model.specs.Words.{Equivalent, project, remove_first}
use Rattle.model.proofs.Words.{Located, Pick, equivalent_nil, equivalent_pick, equivalent_tops, here, pick_tops, there, tops_pick}
use Rattle.model.proofs.Groups.{merge_cong, merge_inside, merge_self, merge_swap, restrict_merge_apart, restrict_merge_cong, restrict_within}
use Rattle.model.proofs.Tests.{by_test}

pub apart_sym : (L M : Processes) → Apart L M → Apart M L
apart_sym L M h i m = by_test (has L i) (λ l. absurd (true≢false (sym m ∙ h i l))) (λ l. l)

-- ---- taking the letter that tops to the front
pub pick_nil : {loc : ℕ → Processes} {a : ℕ} {x : List ℕ} → Pick loc a [] x → ⊥
pick_nil p = elim p [ ]

pub pick_cons : {loc : ℕ → Processes} {a b : ℕ} {w x : List ℕ} → Pick loc a (b ∷ w) x
    → ((b ≡ a) × (w ≡ x)) ⊎ ((y : List ℕ) × (b ∷ y ≡ x) × Apart (loc a) (loc b) × Pick loc a w y)
pick_cons (here e) = inl (e, refl)
pick_cons (there {x = y} d p) = inr (y, refl, d, p)

pub record Pulled (loc : ℕ → Processes) (P : Transition → Type 0) (a : ℕ) (x : List ℕ) (g f : Group) : Type 0 where
  pub first : Transition
  pub rest : List Transition
  pub is_a : first.letter ≡ a
  pub reads : label rest ≡ x
  pub good : P first
  pub goods : Each P rest
  pub along : Along loc g (first ∷ rest) f

module _ (loc : ℕ → Processes) (P : Transition → Type 0) where
  -- one transition moves in front of another with which it shares no process
  swap : (t s : Transition) (ts : List Transition) (g f : Group) → Apart (loc s.letter) (loc t.letter)
      → Along loc g (t ∷ s ∷ ts) f → Along loc g (s ∷ t ∷ ts) f
  swap t s ts g f d al = (
    sym (restrict_merge_apart (loc s.letter) (loc t.letter) t.after g d) ∙ al.1.0,
    (
      restrict_merge_apart (loc t.letter) (loc s.letter) s.after g (apart_sym (loc s.letter) (loc t.letter) d) ∙ al.0,
      subst (λ (h : Group). Along loc h ts f) (merge_swap (loc s.letter) (loc t.letter) s.after t.after g d) al.1.1,
    ),
  )

  pull : (a : ℕ) (x : List ℕ) (ts : List Transition) (g f : Group) → Pick loc a (label ts) x → Along loc g ts f → Each P ts → Pulled loc P a x g f
  pull a x [] g f p al ea = absurd (pick_nil p)
  pull a x (t ∷ ts) g f p al ea = step (λ y q. pull a y ts (move loc t g) f q al.1 ea.1) (pick_cons p)
    where
      step : ((y : List ℕ) → Pick loc a (label ts) y → Pulled loc P a y (move loc t g) f)
          → ((t.letter ≡ a) × (label ts ≡ x)) ⊎ ((y : List ℕ) × (t.letter ∷ y ≡ x) × Apart (loc a) (loc t.letter) × Pick loc a (label ts) y)
          → Pulled loc P a x g f
      step below (inl e) = record { first = t; rest = ts; is_a = e.0; reads = e.1; good = ea.0; goods = ea.1; along = al }
      step below (inr c) =
          let u = below c.0 c.3 in
          let d : Apart (loc u.first.letter) (loc t.letter) = rw u.is_a c.2 in
          record {
            first = u.first;
            rest = t ∷ u.rest;
            is_a = u.is_a;
            reads = ap (λ (l : List ℕ). t.letter ∷ l) u.reads ∙ c.1;
            good = u.good;
            goods = (ea.0, u.goods);
            along = swap t u.first u.rest g f d (al.0, u.along);
          }

pub record Rearranged (loc : ℕ → Processes) (P : Transition → Type 0) (v : List ℕ) (g f : Group) : Type 0 where
  pub path : List Transition
  pub reads : label path ≡ v
  pub goods : Each P path
  pub along : Along loc g path f

-- The trace lemma. A path over a word gives a path over every word that is equivalent, with the same ends and of the same transitions.
pub rearrange : (loc : ℕ → Processes) → Located loc → (P : Transition → Type 0) (v : List ℕ) (ts : List Transition) (g f : Group)
    → Equivalent loc (label ts) v → Along loc g ts f → Each P ts → Rearranged loc P v g f
rearrange loc ne P [] ts g f s al ea = nothing ts (equivalent_nil loc ne (label ts) s) al
  where
    nothing : (ts : List Transition) → label ts ≡ [] → Along loc g ts f → Rearranged loc P [] g f
    nothing [] e al = record { path = []; reads = refl; goods = tt; along = al }
    nothing (t ∷ ts) e al = absurd (let z : ◌≡◌ {A = ℕ} 0 1 = cc in omega arith)
rearrange loc ne P (a ∷ x) ts g f s al ea =
    let picked : Pick loc a (label ts) (remove_first a (label ts)) = tops_pick loc ne a (label ts) (equivalent_tops loc a (label ts) (a ∷ x) s (pick_tops {loc = loc} {x = x} (here refl))) in
    let u = pull loc P a (remove_first a (label ts)) ts g f picked al ea in
    let below : Rearranged loc P x (move loc u.first g) f =
    rearrange loc ne P x u.rest (move loc u.first g) f (λ i. ap (project loc i) u.reads ∙ equivalent_pick x picked s i) u.along.1 u.goods in
    record {
      path = u.first ∷ below.path;
      reads = ap₂ (λ (b : ℕ) (l : List ℕ). b ∷ l) u.is_a below.reads;
      goods = (u.good, below.goods);
      along = (u.along.0, below.along);
    }

-- ---- paths cut in two, and paths seen from the processes that they touch
pub along_append : (loc : ℕ → Processes) (ts us : List Transition) (g h f : Group) → Along loc g ts h → Along loc h us f → Along loc g (ts ++ us) f
along_append loc [] us g h f p q = subst (λ (x : Group). Along loc x us f) (sym p) q
along_append loc (t ∷ ts) us g h f p q = (p.0, along_append loc ts us (move loc t g) h f p.1 q)

pub along_split : (loc : ℕ → Processes) (ts us : List Transition) (g f : Group) → Along loc g (ts ++ us) f → (h : Group) × Along loc g ts h × Along loc h us f
along_split loc [] us g f p = (g, refl, p)
along_split loc (t ∷ ts) us g f p = let r = along_split loc ts us (move loc t g) f p.1 in (r.0, (p.0, r.1), r.2)

pub label_append : (ts us : List Transition) → label (ts ++ us) ≡ label ts ++ label us
label_append [] us = refl
label_append (t ∷ ts) us = ap (λ (l : List ℕ). t.letter ∷ l) (label_append ts us)

pub record Cut (ts : List Transition) (u x : List ℕ) : Type 0 where
  pub front : List Transition
  pub back : List Transition
  pub whole : front ++ back ≡ ts
  pub front_reads : label front ≡ u
  pub back_reads : label back ≡ x

pub cut : (ts : List Transition) (u x : List ℕ) → label ts ≡ u ++ x → Cut ts u x
cut ts [] x e = record { front = []; back = ts; whole = refl; front_reads = refl; back_reads = e }
cut [] (a ∷ u) x e = absurd (let z : ◌≡◌ {A = ℕ} 0 1 = cc in omega arith)
cut (t ∷ ts) (a ∷ u) x e =
    let head-is : t.letter ≡ a = cc in
    let tail_is : label ts ≡ u ++ x = cc in
    let c = cut ts u x tail_is in
    record { front = t ∷ c.front; back = c.back; whole = ap (λ (l : List Transition). t ∷ l) c.whole; front_reads = ap₂ (λ (b : ℕ) (l : List ℕ). b ∷ l) head-is c.front_reads; back_reads = c.back_reads }

abbrev pub Inside : (ℕ → Processes) → Processes → List ℕ → Type 0
Inside loc L w = Each (λ (a : ℕ). Within (loc a) L) w

-- A path whose letters lie within L is a path from any group that agrees on L; outside L nothing changes
pub along_inside : (loc : ℕ → Processes) (L : Processes) (ts : List Transition) (g h f : Group) → Inside loc L (label ts) → restrict L g ≡ restrict L h
    → Along loc g ts f → Along loc h ts (merge L f h)
along_inside loc L [] g h f w e p = sym (merge_cong L f h h (ap (restrict L) (sym p) ∙ e) ∙ merge_self L h)
along_inside loc L (t ∷ ts) g h f w e p = (
  restrict_within L (loc t.letter) h g w.0 (sym e) ∙ p.0,
  subst (λ (x : Group). Along loc (move loc t h) ts x) (merge_inside L (loc t.letter) f t.after h w.0)
      (along_inside loc L ts (move loc t g) (move loc t h) f w.1 (restrict_merge_cong L (loc t.letter) t.after g h e) p.1),
)

-- A path whose letters share no process with L does not see what stands at L
pub along_apart : (loc : ℕ → Processes) (L : Processes) (x : Group) (ts : List Transition) (g f : Group) → Each (λ (t : Transition). Apart (loc t.letter) L) ts
    → Along loc g ts f → Along loc (merge L x g) ts (merge L x f)
along_apart loc L x [] g f w p = ap (merge L x) p
along_apart loc L x (t ∷ ts) g f w p = (
  restrict_merge_apart (loc t.letter) L x g w.0 ∙ p.0,
  subst (λ (y : Group). Along loc y ts (merge L x f)) (sym (merge_swap (loc t.letter) L t.after x g w.0))
      (along_apart loc L x ts (move loc t g) f w.1 p.1),
)

pub along_unique : (loc : ℕ → Processes) (ts : List Transition) (g f f' : Group) → Along loc g ts f → Along loc g ts f' → f ≡ f'
along_unique loc [] g f f' p q = sym p ∙ q
along_unique loc (t ∷ ts) g f f' p q = along_unique loc ts (move loc t g) f f' p.1 q.1

-- so the end differs from the beginning within L only
pub along_outside : (loc : ℕ → Processes) (L : Processes) (ts : List Transition) (g f : Group) → Inside loc L (label ts) → Along loc g ts f → f ≡ merge L f g
along_outside loc L ts g f w p = along_unique loc ts g f (merge L f g) p (along_inside loc L ts g g f w refl p)
