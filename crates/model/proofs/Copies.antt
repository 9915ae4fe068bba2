-- Lemma 10: the copy accepts the same configurations of control states, and enters no control state.
use mathlib.Core.Path.{◌∙◌, ◌≡◌, ap, ap₂, refl, subst, sym}
use mathlib.Core.Bool.{Bool, ◌||◌, cond, false, not, true}
use mathlib.Core.Logic.{◌↔◌}
use mathlib.Core.Option.{Option, none, some}
use mathlib.Core.List.Memᴰ
use mathlib.Core.List.{List, Memᴰ, [], ◌∷◌}
use Prim.Native.Nat.{◌+◌, ◌<◌, ◌≤◌, max, ℕ}
use native.Mathlib.Omega.{arith}
use lib.Dec.{leb}
use lib.ListN.{get_elem?}
use borrow.Author.Tests.{leb-true, not-false}
use Rattle.model.specs.declared.Group.{Group}
use Rattle.model.specs.Automata.{Along, Transition, label, move}
use Rattle.model.specs.Copies.{copied, copies, copy_from, leaves_control, mixed, mixtures, reenters, with_copy}
use Rattle.model.specs.Groups.{Process, Processes, Within, at, has, restrict}
use Rattle.model.specs.Lists.{Each, all_of, and_then, concat_map, value_or}
use Rattle.model.specs.Systems.{Accepted, Accepting, Accepts, Configuration, InAutomaton, Joins, Rule, System, fire, peak, walk}
use Rattle.model.specs.Words.{height}
use Rattle.model.proofs.ConcatLists.{concat_mem, distinct_concat, mem_concat}
use Rattle.model.proofs.Groups.{at_restrict, ext}
use Rattle.model.proofs.Lists.{Distinct, all_each, distinct_map, each_get}
use Rattle.model.proofs.Mixtures.{at_copies, at_mixed, join, join_within, meet, meet_within, merge_mixed, mixtures_distinct, mixtures_has, mixtures_only, none_mixed, not_in, nowhere, nowhere_within, plain_one, restrict_mixed}
use Rattle.model.proofs.Reachability.{WellFormed}
use Rattle.model.proofs.Soundness.{Control, Cooperating, Leaves, control_merge}
use Rattle.model.proofs.Steps.{fire_inv, walk_inv}
use Rattle.model.proofs.Tests.{by_test, every_at, implies}

-- a transition that passes the test enters no control state
pub leaves_control_lem : (sys : System) (t : Transition) → leaves_control sys.loc sys.controls t ≡ true → Leaves sys t
unfolding leaves_control
leaves_control_lem sys t e i m =
    leb-true (sys.controls i) (at t.after i) (implies (has (sys.loc t.letter) i) (leb (sys.controls i) (at t.after i)) (every_at (λ j. not (has (sys.loc t.letter) j) || leb (sys.controls j) (at t.after j)) e i) m)

-- ---- the copied transitions
pub record CopyOf (sys : System) (u : Transition) : Type 0 where
  pub plain : Transition
  pub is : InAutomaton sys plain
  pub mixture : Processes
  pub within : Within mixture (sys.loc plain.letter)
  pub makes : copy_from sys.loc sys.states plain (mixed sys.states mixture plain.before) ≡ u

-- what the copy asks of a system: groups have states at the processes they speak of and 255 elsewhere, letters are of the system's processes
pub record StatesFit (sys : System) (t : Transition) : Type 0 where
  pub letter : Within (sys.loc t.letter) sys.processes
  pub before : (i : Process) → has (sys.loc t.letter) i ≡ true → at t.before i < sys.states i
  pub before_outside : (i : Process) → has (sys.loc t.letter) i ≡ false → at t.before i ≡ 255
  pub after : (i : Process) → has (sys.loc t.letter) i ≡ true → at t.after i < sys.states i
  pub after_outside : (i : Process) → has (sys.loc t.letter) i ≡ false → at t.after i ≡ 255

pub record GroupFits (sys : System) (g : Group) : Type 0 where
  pub states : (i : Process) → at g i < sys.states i
  pub outside : (i : Process) → has sys.processes i ≡ false → at g i ≡ 255

pub record Copyable (sys : System) : Type 0 where
  pub controls : (i : Process) → sys.controls i ≤ sys.states i
  pub automaton : (t : Transition) → InAutomaton sys t → StatesFit sys t
  pub accepting : (g : Group) → Accepting sys g → GroupFits sys g

-- the states of the group are plain
abbrev pub Plain : System → Group → Type 0
Plain sys g = (i : Process) → at g i < sys.states i

-- the group accepts in the copy
abbrev pub MixedAccepting : System → Group → Type 0
MixedAccepting sys h = Memᴰ h (concat_map (mixtures sys.states sys.processes) sys.accepting)

abbrev pub Copied : System → Transition → Type 0
Copied sys u = Memᴰ u (concat_map (copied sys.loc sys.states) sys.transitions)

pub copied_only : (sys : System) (u : Transition) → Copied sys u → CopyOf sys u
unfolding copied
copied_only sys u m =
    let r = concat_mem (copied sys.loc sys.states) sys.transitions u m in
    let q = Memᴰ.of_map (copy_from sys.loc sys.states r.0) (mixtures sys.states (sys.loc r.0.letter) r.0.before) r.2 in
    let k = mixtures_only sys.states (sys.loc r.0.letter) r.0.before q.0 q.1 in
    record { plain = r.0; is = r.1; mixture = k.0; within = k.1; makes = ap (copy_from sys.loc sys.states r.0) k.2 ∙ q.2 }

pub copied_has : (sys : System) (t : Transition) (M : Processes) → InAutomaton sys t → Within M (sys.loc t.letter) → Copied sys (copy_from sys.loc sys.states t (mixed sys.states M t.before))
unfolding copied
copied_has sys t M m w =
    mem_concat (copied sys.loc sys.states) sys.transitions t (copy_from sys.loc sys.states t (mixed sys.states M t.before)) m
    (Memᴰ.map (copy_from sys.loc sys.states t) (mixtures_has sys.states (sys.loc t.letter) M t.before w))

own_leaves : (sys : System) → reenters sys ≡ false → (t : Transition) → InAutomaton sys t → Leaves sys t
unfolding reenters
own_leaves sys n t m = leaves_control_lem sys t (each_get (λ (u : Transition). leaves_control sys.loc sys.controls u ≡ true) t sys.transitions
    (all_each (leaves_control sys.loc sys.controls) sys.transitions (not-false (all_of (leaves_control sys.loc sys.controls) sys.transitions) n)) m)

-- where no transition enters a control state, nothing is copied
pub own_automaton : (sys : System) → reenters sys ≡ false → with_copy sys ≡ sys
own_automaton sys n = rw n refl

-- ---- the copy has the same rules, so its walks are the same
walk_copy : (sys : System) (ns : List ℕ) (c : Configuration) → walk (with_copy sys) ns c ≡ walk sys ns c
walk_copy sys [] c = refl
walk_copy sys (n ∷ ns) c = step (λ d. walk_copy sys ns d) (get_elem? sys.rules n)
  where
    tail : ((d : Configuration) → walk (with_copy sys) ns d ≡ walk sys ns d) → (o : Option Configuration) → and_then o (walk (with_copy sys) ns) ≡ and_then o (walk sys ns)
    tail below none = refl
    tail below (some d) = below d

    step : ((d : Configuration) → walk (with_copy sys) ns d ≡ walk sys ns d) → (o : Option Rule)
        → and_then o (λ r. and_then (fire sys.loc r c) (walk (with_copy sys) ns)) ≡ and_then o (λ r. and_then (fire sys.loc r c) (walk sys ns))
    step below none = refl
    step below (some r) = tail below (fire sys.loc r c)

pub peak_copy : (sys : System) (ns : List ℕ) (c : Configuration) → peak (with_copy sys) ns c ≡ peak sys ns c
peak_copy sys [] c = refl
peak_copy sys (n ∷ ns) c = ap (max (height sys.loc c.word)) (later (λ d. peak_copy sys ns d) (walk (with_copy sys) (n ∷ []) c) (walk sys (n ∷ []) c) (walk_copy sys (n ∷ []) c))
  where
    here : ((d : Configuration) → peak (with_copy sys) ns d ≡ peak sys ns d) → (o : Option Configuration) → value_or 0 (λ d. peak (with_copy sys) ns d) o ≡ value_or 0 (λ d. peak sys ns d) o
    here below none = refl
    here below (some d) = below d

    later : ((d : Configuration) → peak (with_copy sys) ns d ≡ peak sys ns d) → (o p : Option Configuration) → o ≡ p → value_or 0 (λ d. peak (with_copy sys) ns d) o ≡ value_or 0 (λ d. peak sys ns d) p
    later below o p e = here below o ∙ ap (λ (q : Option Configuration). value_or 0 (λ d. peak sys ns d) q) e

walk_control : (sys : System) → Cooperating sys → (ns : List ℕ) (c d : Configuration) → Control sys.controls c.states → walk sys ns c ≡ some d → Control sys.controls d.states
walk_control sys co [] c d control e = let same : c ≡ d = cc in subst (λ (x : Configuration). Control sys.controls x.states) same control
walk_control sys co (n ∷ ns) c d control e =
    let w = walk_inv sys n ns c d e in
    let f = fire_inv sys.loc w.rule c w.mid w.first in
    walk_control sys co ns w.mid d
    (subst (λ (x : Configuration). Control sys.controls x.states) f.gives (control_merge sys.controls (sys.loc w.rule.letter) w.rule.after c.states (co.rules_control n w.rule w.is).1 control))
    w.rest

module _ (sys : System) (ok : Copyable sys) where
  copy_from_lem : (t u : Transition) → Memᴰ u (copied sys.loc sys.states t) → (M : Processes) × (copy_from sys.loc sys.states t (mixed sys.states M t.before) ≡ u)
  unfolding copied
  copy_from_lem t u m =
      let q = Memᴰ.of_map (copy_from sys.loc sys.states t) (mixtures sys.states (sys.loc t.letter) t.before) m in
      let k = mixtures_only sys.states (sys.loc t.letter) t.before q.0 q.1 in
      (k.0, ap (copy_from sys.loc sys.states t) k.2 ∙ q.2)

  -- "A group, plain, copied or mixed, accepts exactly if its plain version does."
  pub mixed_accepts : (M : Processes) (g : Group) → Within M sys.processes → Plain sys g → MixedAccepting sys (mixed sys.states M g) ↔ Accepting sys g
  mixed_accepts M g w low = (down, up)
    where
      down : MixedAccepting sys (mixed sys.states M g) → Accepting sys g
      down m =
          let r = concat_mem (mixtures sys.states sys.processes) sys.accepting (mixed sys.states M g) m in
          let k = mixtures_only sys.states sys.processes r.0 (mixed sys.states M g) r.2 in
          Memᴰ.cast (ext (λ i. plain_one (sys.states i) (at g i) (at r.0 i) (has M i) (has k.0 i) (low i) ((ok.accepting r.0 r.1).states i)
          (sym (at_mixed sys.states M g i) ∙ ap (λ (h : Group). at h i) (sym k.2) ∙ at_mixed sys.states k.0 r.0 i))) r.1

      up : Accepting sys g → MixedAccepting sys (mixed sys.states M g)
      up m = mem_concat (mixtures sys.states sys.processes) sys.accepting g (mixed sys.states M g) m (mixtures_has sys.states sys.processes M g w)

  -- ---- a path of the automaton, from a group with copies at M
  record Lifted (M : Processes) (g : Group) (ts : List Transition) (f : Group) : Type 0 where
    pub path : List Transition
    pub reads : label path ≡ label ts
    pub goods : Each (Copied sys) path
    pub mixture : Processes
    pub within : Within mixture sys.processes
    pub along : Along sys.loc (mixed sys.states M g) path (mixed sys.states mixture f)

  lift : (M : Processes) (g : Group) (ts : List Transition) (f : Group) → Within M sys.processes → Each (InAutomaton sys) ts → Along sys.loc g ts f → Lifted M g ts f
  lift M g [] f w e p = record { path = []; reads = refl; goods = tt; mixture = M; within = w; along = ap (mixed sys.states M) p }
  lift M g (t ∷ ts) f w e p =
      let L : Processes = sys.loc t.letter in
      let u : Transition = copy_from sys.loc sys.states t (mixed sys.states (meet M L) t.before) in
      let r = lift (join M L) (move sys.loc t g) ts f (join_within M L sys.processes w (ok.automaton t e.0).letter) e.1 p.1 in
      record {
        path = u ∷ r.path;
        reads = ap (λ (l : List ℕ). t.letter ∷ l) r.reads;
        goods = (copied_has sys t (meet M L) e.0 (meet_within M L), r.goods);
        mixture = r.mixture;
        within = r.within;
        along = (
          restrict_mixed sys.states L M g ∙ ap (mixed sys.states (meet M L)) p.0,
          subst (λ (h : Group). Along sys.loc h r.path (mixed sys.states r.mixture f)) (sym (merge_mixed sys.states L M t.after g)) r.along,
        );
      }

  -- ---- a path of the copy, from a group with copies at M
  record Lowered (g : Group) (us : List Transition) (h : Group) : Type 0 where
    pub path : List Transition
    pub reads : label path ≡ label us
    pub goods : Each (InAutomaton sys) path
    pub end : Group
    pub along : Along sys.loc g path end
    pub plain : Plain sys end
    pub mixture : Processes
    pub within : Within mixture sys.processes
    pub is : mixed sys.states mixture end ≡ h

  -- a copied transition is read where its plain one is
  plain_before : (M K : Processes) (g : Group) (t : Transition) → InAutomaton sys t → Plain sys g
      → restrict (sys.loc t.letter) (mixed sys.states M g) ≡ mixed sys.states K t.before → restrict (sys.loc t.letter) g ≡ t.before
  plain_before M K g t m low e = ext (λ i. at_restrict (sys.loc t.letter) g i ∙ by_test (has (sys.loc t.letter) i) (inside i) (λ n. rw n (sym ((ok.automaton t m).before_outside i n))))
    where
      inside : (i : Process) → has (sys.loc t.letter) i ≡ true → cond (has (sys.loc t.letter) i) (at g i) 255 ≡ at t.before i
      inside i y =
          let same : cond (has M i) (sys.states i + at g i) (at g i) ≡ cond (has K i) (sys.states i + at t.before i) (at t.before i) =
          sym (at_restrict (sys.loc t.letter) (mixed sys.states M g) i ∙ rw y (at_mixed sys.states M g i)) ∙ ap (λ (x : Group). at x i) e ∙ at_mixed sys.states K t.before i in
          rw y (plain_one (sys.states i) (at g i) (at t.before i) (has M i) (has K i) (low i) ((ok.automaton t m).before i y) same)

  plain_move : (t : Transition) (g : Group) → InAutomaton sys t → Plain sys g → Plain sys (move sys.loc t g)
  plain_move t g m low = control_merge sys.states (sys.loc t.letter) t.after g (ok.automaton t m).after low

  lower : (M : Processes) (g : Group) (us : List Transition) (h : Group) → Within M sys.processes → Plain sys g → Each (Copied sys) us → Along sys.loc (mixed sys.states M g) us h → Lowered g us h
  lower M g [] h w low e p = record { path = []; reads = refl; goods = tt; end = g; along = refl; plain = low; mixture = M; within = w; is = p }
  lower M g (u ∷ us) h w low e p =
      let c = copied_only sys u e.0 in
      let L : Processes = sys.loc c.plain.letter in
      let q : Along sys.loc (mixed sys.states M g) (copy_from sys.loc sys.states c.plain (mixed sys.states c.mixture c.plain.before) ∷ us) h =
      subst (λ (v : Transition). Along sys.loc (mixed sys.states M g) (v ∷ us) h) (sym c.makes) p in
      let r = lower (join M L) (move sys.loc c.plain g) us h (join_within M L sys.processes w (ok.automaton c.plain c.is).letter) (plain_move c.plain g c.is low) e.1
      (subst (λ (x : Group). Along sys.loc x us h) (merge_mixed sys.states L M c.plain.after g) q.1) in
      record {
        path = c.plain ∷ r.path;
        reads = ap₂ (λ (a : ℕ) (l : List ℕ). a ∷ l) (ap (λ (v : Transition). v.letter) c.makes) r.reads;
        goods = (c.is, r.goods);
        end = r.end;
        along = (plain_before M c.mixture g c.plain c.is low q.0, r.along);
        plain = r.plain;
        mixture = r.mixture;
        within = r.within;
        is = r.is;
      }

  -- ---- Lemma 10: both accept the same configurations, of plain states
  accepts_copied : (c : Configuration) → Accepted sys c → Accepts sys.loc (MixedAccepting sys) (Copied sys) c
  accepts_copied c a =
      let r = lift nowhere c.states a.path a.end (nowhere_within sys.processes) a.goods a.along in
      record {
        path = r.path;
        reads = r.reads ∙ a.reads;
        goods = r.goods;
        end = mixed sys.states r.mixture a.end;
        along = subst (λ (g : Group). Along sys.loc g r.path (mixed sys.states r.mixture a.end)) (none_mixed sys.states c.states) r.along;
        accepting = mem_concat (mixtures sys.states sys.processes) sys.accepting a.end (mixed sys.states r.mixture a.end) a.accepting (mixtures_has sys.states sys.processes r.mixture a.end r.within);
      }

  copied_accepts : (c : Configuration) → Plain sys c.states → Accepts sys.loc (MixedAccepting sys) (Copied sys) c → Accepted sys c
  copied_accepts c low a =
      let r = lower nowhere c.states a.path a.end (nowhere_within sys.processes) low a.goods
      (subst (λ (g : Group). Along sys.loc g a.path a.end) (sym (none_mixed sys.states c.states)) a.along) in
      record {
        path = r.path;
        reads = r.reads ∙ a.reads;
        goods = r.goods;
        end = r.end;
        along = r.along;
        accepting = (mixed_accepts r.mixture r.end r.within r.plain).0 (subst (MixedAccepting sys) (sym r.is) a.accepting);
      }

  pub accepted_with_copy : (c : Configuration) → Accepted sys c → Accepted (with_copy sys) c
  accepted_with_copy c a = by_test (reenters sys) (λ y. rw y (accepts_copied c a)) (λ n. rw n a)

  pub with_copy_accepted : (c : Configuration) → Control sys.controls c.states → Accepted (with_copy sys) c → Accepted sys c
  with_copy_accepted c control a = by_test (reenters sys)
      (λ y. copied_accepts c (λ i. omega (arith, control i, ok.controls i)) (rw y at a))
      (λ n. rw n at a)

  pub same_accepted : (c : Configuration) → Control sys.controls c.states → Accepted sys c ↔ Accepted (with_copy sys) c
  same_accepted c control = (accepted_with_copy c, with_copy_accepted c control)

  -- ---- the copy enters no control state
  copied_leaves : (u : Transition) → Copied sys u → Leaves sys u
  copied_leaves u m = let c = copied_only sys u m in subst (Leaves sys) c.makes (λ i y.
      let is : at (restrict (sys.loc c.plain.letter) (copies sys.states c.plain.after)) i ≡ sys.states i + at c.plain.after i =
      at_restrict (sys.loc c.plain.letter) (copies sys.states c.plain.after) i ∙ rw y (at_copies sys.states c.plain.after i) in
      let below : sys.controls i ≤ sys.states i = ok.controls i in
      omega arith)

  pub with_copy_leaves : (t : Transition) → InAutomaton (with_copy sys) t → Leaves sys t
  with_copy_leaves t m = by_test (reenters sys) (λ y. copied_leaves t (rw y at m)) (λ n. own_leaves sys n t (rw n at m))

  pub well_formed_copy : Cooperating sys → WellFormed (with_copy sys)
  well_formed_copy c = record {
    cooperating = record { located = c.located; cooperates = c.cooperates; rules_control = c.rules_control };
    no_entry = with_copy_leaves;
  }

  -- ---- the copy itself is as the copy asks: the states of its groups are below the doubled numbers, and 255 stands in the same places
  doubled : (m : Bool) (s x : ℕ) → x < s → cond m (s + x) x < s + s
  doubled true s x l = omega arith
  doubled false s x l = omega arith

  copy_fits : reenters sys ≡ true → {u : Transition} → CopyOf sys u → StatesFit (with_copy sys) u
  copy_fits y k =
      let L : Processes = sys.loc k.plain.letter in
      let f = ok.automaton k.plain k.is in
      subst (StatesFit (with_copy sys)) k.makes (record {
        letter = f.letter;
        before = λ i m. rw (y, at_mixed sys.states k.mixture k.plain.before i) (doubled (has k.mixture i) (sys.states i) (at k.plain.before i) (f.before i m));
        before_outside = λ i n. rw (at_mixed sys.states k.mixture k.plain.before i, not_in L k.mixture k.within i n) (f.before_outside i n);
        after = λ i m. rw (y, at_restrict L (copies sys.states k.plain.after) i, m, at_copies sys.states k.plain.after i) (let low : at k.plain.after i < sys.states i = f.after i m in omega arith);
        after_outside = λ i n. rw (at_restrict L (copies sys.states k.plain.after) i, n);
      })

  mixed_fits : reenters sys ≡ true → (g : Group) → MixedAccepting sys g → GroupFits (with_copy sys) g
  mixed_fits y g m =
      let r = concat_mem (mixtures sys.states sys.processes) sys.accepting g m in
      let k = mixtures_only sys.states sys.processes r.0 g r.2 in
      let f = ok.accepting r.0 r.1 in
      subst (GroupFits (with_copy sys)) k.2 (record {
        states = λ i. rw (y, at_mixed sys.states k.0 r.0 i) (doubled (has k.0 i) (sys.states i) (at r.0 i) (f.states i));
        outside = λ i n. rw (at_mixed sys.states k.0 r.0 i, not_in sys.processes k.0 k.1 i n) (f.outside i n);
      })

  pub with_copy_copyable : Copyable (with_copy sys)
  with_copy_copyable = by_test (reenters sys)
      (λ y. record {
        controls = λ i. rw y (omega (arith, ok.controls i));
        automaton = λ u m. copy_fits y (copied_only sys u (rw y at m));
        accepting = λ g m. mixed_fits y g (rw y at m);
      })
      (λ n. subst Copyable (sym (own_automaton sys n)) ok)

  -- ---- the same runs join a configuration and the set that the system's own automaton accepts
  pub joins_with_copy : (c : Configuration) (ns : List ℕ) → Joins sys c ns → Joins (with_copy sys) c ns
  joins_with_copy c ns j = record { end = j.end; walks = walk_copy sys ns c ∙ j.walks; watched = accepted_with_copy j.end j.watched }

  pub with_copy_joins : Cooperating sys → (c : Configuration) (ns : List ℕ) → Control sys.controls c.states → Joins (with_copy sys) c ns → Joins sys c ns
  with_copy_joins co c ns control j =
      let walks : walk sys ns c ≡ some j.end = sym (walk_copy sys ns c) ∙ j.walks in
      record { end = j.end; walks = walks; watched = with_copy_accepted j.end (walk_control sys co ns c j.end control walks) j.watched }

  -- ---- the copy has no transition twice, so round 0 has as many records as it has transitions
  same_plain : (t v : Transition) (M N : Processes) → InAutomaton sys t → InAutomaton sys v
      → copy_from sys.loc sys.states t (mixed sys.states M t.before) ≡ copy_from sys.loc sys.states v (mixed sys.states N v.before) → t ≡ v
  same_plain t v M N mt mv e =
      let letters : t.letter ≡ v.letter = ap (λ (u : Transition). u.letter) e in
      let seen : ((i : Process) → has (sys.loc t.letter) i ≡ has (sys.loc v.letter) i) = λ i. ap (λ (a : ℕ). has (sys.loc a) i) letters in
      λ k. record { letter = letters k; before = ext (befores seen) k; after = ext (afters seen) k }
    where
      befores : ((i : Process) → has (sys.loc t.letter) i ≡ has (sys.loc v.letter) i) → (i : Process) → at t.before i ≡ at v.before i
      befores seen i = by_test (has (sys.loc t.letter) i)
          (λ y. plain_one (sys.states i) (at t.before i) (at v.before i) (has M i) (has N i) ((ok.automaton t mt).before i y) ((ok.automaton v mv).before i (sym (seen i) ∙ y))
          (sym (at_mixed sys.states M t.before i) ∙ ap (λ (u : Transition). at u.before i) e ∙ at_mixed sys.states N v.before i))
          (λ n. (ok.automaton t mt).before_outside i n ∙ sym ((ok.automaton v mv).before_outside i (sym (seen i) ∙ n)))

      copy_at : (u : Transition) (i : Process) → has (sys.loc u.letter) i ≡ true → at (restrict (sys.loc u.letter) (copies sys.states u.after)) i ≡ sys.states i + at u.after i
      copy_at u i y = at_restrict (sys.loc u.letter) (copies sys.states u.after) i ∙ rw y (at_copies sys.states u.after i)

      afters : ((i : Process) → has (sys.loc t.letter) i ≡ has (sys.loc v.letter) i) → (i : Process) → at t.after i ≡ at v.after i
      afters seen i = by_test (has (sys.loc t.letter) i)
          (λ y. let same : sys.states i + at t.after i ≡ sys.states i + at v.after i = sym (copy_at t i y) ∙ ap (λ (u : Transition). at u.after i) e ∙ copy_at v i (sym (seen i) ∙ y) in omega arith)
          (λ n. (ok.automaton t mt).after_outside i n ∙ sym ((ok.automaton v mv).after_outside i (sym (seen i) ∙ n)))

  copied_distinct : (t : Transition) → InAutomaton sys t → Distinct (copied sys.loc sys.states t)
  unfolding copied
  copied_distinct t m = distinct_map (copy_from sys.loc sys.states t) (mixtures sys.states (sys.loc t.letter) t.before) (λ g h p q e. ap (λ (u : Transition). u.before) e)
      (mixtures_distinct sys.states (sys.loc t.letter) t.before (ok.automaton t m).before)

  copied_apart : (t v u : Transition) → InAutomaton sys t → InAutomaton sys v → Memᴰ u (copied sys.loc sys.states t) → Memᴰ u (copied sys.loc sys.states v) → t ≡ v
  copied_apart t v u mt mv p q = let a = copy_from_lem t u p in let b = copy_from_lem v u q in same_plain t v a.0 b.0 mt mv (a.1 ∙ sym b.1)

  pub with_copy_distinct : Distinct sys.transitions → Distinct (with_copy sys).transitions
  with_copy_distinct d = by_test (reenters sys)
      (λ y. rw y (distinct_concat (copied sys.loc sys.states) sys.transitions copied_distinct copied_apart d))
      (λ n. rw n d)
