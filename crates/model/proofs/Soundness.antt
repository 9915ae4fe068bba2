-- Soundness by unfolding: a path of log records from a start of control states unfolds into a run that ends in the accepted set.
use mathlib.Core.Path.{◌∙◌, ◌≡◌, ap, refl, subst, sym}
use mathlib.Core.Bool.{false, true, true≢false}
use mathlib.Core.Option.{some}
use mathlib.Core.List.{List, [], ◌++◌, ◌∷◌, append_assoc}
use Prim.Native.Nat.{◌<◌, ◌≤◌, ℕ}
use native.Mathlib.Omega.{arith}
use lib.ListN.{get_elem?, length}
use Rattle.model.specs.declared.Group.{Group}
use Rattle.model.specs.Automata.{Along, Transition, label, move}
use Rattle.model.specs.Groups.{Apart, Process, Processes, at, has, merge, restrict}
use Rattle.model.specs.Lists.{Each}
use Rattle.model.specs.Log.{Record, record_at}
use Rattle.model.specs.Saturation.{added}
use Rattle.model.specs.Systems.{Accepts, Configuration, Rule, System, enabled, fired, walk}
use Rattle.model.specs.Unfolding.{Unfolds, done, replaced, skipped}
use Rattle.model.specs.Words.{Equivalent, project, remove_first}
use Rattle.model.proofs.Words.{Located, Pick, Tops, equivalent_append, equivalent_pick, equivalent_tops, here, pick_equivalent, pick_tops, project_append, there, tops_pick}
use Rattle.model.proofs.Completeness.{Cooperates}
use Rattle.model.proofs.Groups.{agree_at, at_merge, at_restrict, merge_merge, merge_restrict, restrict_merge, restrict_merge_apart}
use Rattle.model.proofs.Lists.{each_append, each_less, each_map}
use Rattle.model.proofs.Paths.{Inside, along_apart, along_append, along_inside, along_split, apart_sym, label_append, rearrange}
use Rattle.model.proofs.Steps.{enabled_of, fire_some, walk_cons}
use Rattle.model.proofs.Tests.{by_test, cond_less}

-- ---- control states
-- the group's states are control states, at the processes of L
abbrev pub ControlOn : (Process → ℕ) → Processes → Group → Type 0
ControlOn q L g = (i : Process) → has L i ≡ true → at g i < q i

abbrev pub Control : (Process → ℕ) → Group → Type 0
Control q g = (i : Process) → at g i < q i

-- the transition enters no control state, at any process of its letter
abbrev pub Leaves : System → Transition → Type 0
Leaves sys t = (i : Process) → has (sys.loc t.letter) i ≡ true → sys.controls i ≤ at t.after i

abbrev pub RulesControl : System → Type 0
RulesControl sys = (n : ℕ) (r : Rule) → get_elem? sys.rules n ≡ some r → ControlOn sys.controls (sys.loc r.letter) r.before × ControlOn sys.controls (sys.loc r.letter) r.after

abbrev pub ApartFrom : (ℕ → Processes) → Processes → List Transition → Type 0
ApartFrom loc L ts = Each (λ (t : Transition). Apart (loc t.letter) L) ts

pub untouched : (loc : ℕ → Processes) (L : Processes) (ts : List Transition) (g h : Group) → ApartFrom loc L ts → Along loc g ts h → restrict L h ≡ restrict L g
untouched loc L [] g h a p = ap (restrict L) (sym p)
untouched loc L (t ∷ ts) g h a p =
    untouched loc L ts (move loc t g) h a.1 p.1 ∙ restrict_merge_apart L (loc t.letter) t.after g (apart_sym (loc t.letter) L a.0)

-- transitions that enter no control state share no process with an L where control states stand after them
apart_head : (sys : System) (L : Processes) (t : Transition) (ts : List Transition) (g h : Group) → Leaves sys t → ApartFrom sys.loc L ts
    → Along sys.loc (move sys.loc t g) ts h → ControlOn sys.controls L h → Apart L (sys.loc t.letter)
apart_head sys L t ts g h e rest p l i m = by_test (has (sys.loc t.letter) i) (λ y. absurd (clash y)) (λ y. y)
  where
    clash : has (sys.loc t.letter) i ≡ true → ⊥
    clash y =
        let same : at h i ≡ at (move sys.loc t g) i = agree_at L h (move sys.loc t g) (untouched sys.loc L ts (move sys.loc t g) h rest p) i m in
        let moved : at (move sys.loc t g) i ≡ at t.after i = at_merge (sys.loc t.letter) t.after g i ∙ rw y in
        let low : at h i < sys.controls i = l i m in
        let high : sys.controls i ≤ at t.after i = e i y in
        omega arith

pub apart_of_control : (sys : System) (L : Processes) (ts : List Transition) (g h : Group) → Each (Leaves sys) ts → Along sys.loc g ts h → ControlOn sys.controls L h → ApartFrom sys.loc L ts
apart_of_control sys L [] g h e p l = tt
apart_of_control sys L (t ∷ ts) g h e p l =
    let rest = apart_of_control sys L ts (move sys.loc t g) h e.1 p.1 l in
    (apart_sym L (sys.loc t.letter) (apart_head sys L t ts g h e.0 rest p.1 l), rest)

-- ---- words: what stands before the rule's letter, and what the rule writes
pub pick_through : (loc : ℕ → Processes) (a : ℕ) (ts : List Transition) (x : List ℕ) → ApartFrom loc (loc a) ts → Pick loc a (label ts ++ a ∷ x) (label ts ++ x)
pick_through loc a [] x d = here refl
pick_through loc a (t ∷ ts) x d = there (apart_sym (loc t.letter) (loc a) d.0) (pick_through loc a ts x d.1)

project_apart : (loc : ℕ → Processes) (L : Processes) (i : Process) (ts : List Transition) → has L i ≡ true → ApartFrom loc L ts → project loc i (label ts) ≡ []
project_apart loc L i [] m d = refl
project_apart loc L i (t ∷ ts) m d = rw (apart_sym (loc t.letter) L d.0 i m) (project_apart loc L i ts m d.1)

pub project_inside : (loc : ℕ → Processes) (L : Processes) (i : Process) (u : List ℕ) → has L i ≡ false → Inside loc L u → project loc i u ≡ []
project_inside loc L i [] m d = refl
project_inside loc L i (a ∷ u) m d = rw out (project_inside loc L i u m d.1)
  where
    out : has (loc a) i ≡ false
    out = by_test (has (loc a) i) (λ y. absurd (true≢false (sym (d.0 i y) ∙ m))) (λ y. y)

-- words that share no process commute
pub equivalent_swap : (loc : ℕ → Processes) (L : Processes) (ts : List Transition) (u x : List ℕ) → ApartFrom loc L ts → Inside loc L u
    → Equivalent loc (u ++ (label ts ++ x)) (label ts ++ (u ++ x))
equivalent_swap loc L ts u x d n i = simp project_append (by_test (has L i) within without)
  where
    within : has L i ≡ true → project loc i u ++ (project loc i (label ts) ++ project loc i x) ≡ project loc i (label ts) ++ (project loc i u ++ project loc i x)
    within m = rw (project_apart loc L i ts m d)

    without : has L i ≡ false → project loc i u ++ (project loc i (label ts) ++ project loc i x) ≡ project loc i (label ts) ++ (project loc i u ++ project loc i x)
    without m = rw (project_inside loc L i u m n)

-- ---- one step of the unfolding, on transitions
pub record Cooperating (sys : System) : Type 0 where
  pub located : Located sys.loc
  pub cooperates : Cooperates sys
  pub rules_control : RulesControl sys

-- zs, then what rule r adds for the path ps, then ms: from control states, where zs enters none
pub record Ready (sys : System) (r : Rule) (zs ps ms : List Transition) (e f : Group) (s : Configuration) : Type 0 where
  pub zs_leave : Each (Leaves sys) zs
  pub ps_read : label ps ≡ r.written
  pub ps_along : Along sys.loc r.after ps e
  pub control : Control sys.controls s.states
  pub along : Along sys.loc s.states (zs ++ added sys.loc r e ∷ ms) f
  pub reads : Equivalent sys.loc s.word (label (zs ++ added sys.loc r e ∷ ms))

pub record Replaced (sys : System) (r : Rule) (zs ps ms : List Transition) (f : Group) (s : Configuration) : Type 0 where
  pub enabled_now : enabled sys.loc r s ≡ true
  pub control : Control sys.controls (fired sys.loc r s).states
  pub along : Along sys.loc (fired sys.loc r s).states (zs ++ (ps ++ ms)) f
  pub reads : Equivalent sys.loc (fired sys.loc r s).word (label (zs ++ (ps ++ ms)))

pub control_merge : (q : Process → ℕ) (L : Processes) (x g : Group) → ControlOn q L x → Control q g → Control q (merge L x g)
control_merge q L x g a b i = rw at_merge (cond_less (has L i) (at x i) (at g i) (q i) (a i) (b i))

-- the new path, from where the rule leads
new_along : (loc : ℕ → Processes) (r : Rule) (zs ps ms : List Transition) (g h e f : Group) → ApartFrom loc (loc r.letter) zs → Inside loc (loc r.letter) (label ps)
    → Along loc r.after ps e → Along loc g zs h → Along loc (move loc (added loc r e) h) ms f
    → Along loc (merge (loc r.letter) r.after g) (zs ++ (ps ++ ms)) f
new_along loc r zs ps ms g h e f apart inside ps_along before rest =
    let L : Processes = loc r.letter in
    let middle : Along loc (merge L r.after h) ps (merge L e (merge L r.after h)) =
    along_inside loc L ps r.after (merge L r.after h) e inside (sym (restrict_merge L r.after h)) ps_along in
    let same : merge L e (merge L r.after h) ≡ merge L (restrict L e) h = merge_merge L e r.after h ∙ sym (merge_restrict L e h) in
    along_append loc zs (ps ++ ms) (merge L r.after g) (merge L r.after h) f (along_apart loc L r.after zs g h apart before)
    (along_append loc ps ms (merge L r.after h) (merge L (restrict L e) h) f (subst (λ (y : Group). Along loc (merge L r.after h) ps y) same middle) rest)

-- the new word
new_reads : (loc : ℕ → Processes) → Located loc → (r : Rule) (zs ps ms : List Transition) (w : List ℕ) → ApartFrom loc (loc r.letter) zs → Inside loc (loc r.letter) r.written
    → label ps ≡ r.written → Equivalent loc w (label zs ++ r.letter ∷ label ms)
    → Equivalent loc (r.written ++ remove_first r.letter w) (label (zs ++ (ps ++ ms)))
new_reads loc ne r zs ps ms w apart inside ps_read s i =
    let top : Tops loc r.letter w = equivalent_tops loc r.letter w (label zs ++ r.letter ∷ label ms) s (pick_tops (pick_through loc r.letter zs (label ms) apart)) in
    let left : Equivalent loc (remove_first r.letter w) (label zs ++ label ms) =
    equivalent_pick (label zs ++ label ms) (tops_pick loc ne r.letter w top) (λ j. s j ∙ pick_equivalent (pick_through loc r.letter zs (label ms) apart) j) in
    let spelled : label (zs ++ (ps ++ ms)) ≡ label zs ++ (r.written ++ label ms) =
    label_append zs (ps ++ ms) ∙ ap (λ (l : List ℕ). label zs ++ l) (label_append ps ms ∙ ap (λ (l : List ℕ). l ++ label ms) ps_read) in
    equivalent_append loc r.written r.written (remove_first r.letter w) (label zs ++ label ms) (λ j. refl) left i
    ∙ equivalent_swap loc (loc r.letter) zs r.written (label ms) apart inside i
    ∙ ap (project loc i) (sym spelled)

control_of_match : (q : Process → ℕ) (L : Processes) (h b : Group) → restrict L h ≡ b → ControlOn q L b → ControlOn q L h
control_of_match q L h b e l i m =
    let same : at h i ≡ at b i = simp (at_restrict, m) at (ap (λ (x : Group). at x i) e) in
    let low : at b i < q i = l i m in
    omega arith

pub replace_one : (sys : System) → Cooperating sys → (n : ℕ) (r : Rule) → get_elem? sys.rules n ≡ some r → (zs ps ms : List Transition) (e f : Group) (s : Configuration)
    → Ready sys r zs ps ms e f s → Replaced sys r zs ps ms f s
replace_one sys fa n r is zs ps ms e f s rd =
    let L : Processes = sys.loc r.letter in
    let c = along_split sys.loc zs (added sys.loc r e ∷ ms) s.states f rd.along in
    let control-h : ControlOn sys.controls L c.0 = control_of_match sys.controls L c.0 r.before c.2.0 (fa.rules_control n r is).0 in
    let apart : ApartFrom sys.loc L zs = apart_of_control sys L zs s.states c.0 rd.zs_leave c.1 control-h in
    let spelled : Equivalent sys.loc s.word (label zs ++ r.letter ∷ label ms) = λ i. rd.reads i ∙ ap (project sys.loc i) (label_append zs (added sys.loc r e ∷ ms)) in
    record {
      enabled_now = enabled_of sys.loc r s (sym (untouched sys.loc L zs s.states c.0 apart c.1) ∙ c.2.0)
          (equivalent_tops sys.loc r.letter s.word (label zs ++ r.letter ∷ label ms) spelled (pick_tops (pick_through sys.loc r.letter zs (label ms) apart)));
      control = control_merge sys.controls L r.after s.states (fa.rules_control n r is).1 rd.control;
      along = new_along sys.loc r zs ps ms s.states c.0 e f apart (subst (λ (l : List ℕ). Inside sys.loc L l) (sym rd.ps_read) (fa.cooperates n r is)) rd.ps_along c.1 c.2.1;
      reads = new_reads sys.loc fa.located r zs ps ms s.word apart (fa.cooperates n r is) rd.ps_read spelled;
    }

-- the transitions of a path that is given by record numbers
abbrev pub transitions_at : List Record → List ℕ → List Transition
transitions_at log [] = []
transitions_at log (n ∷ ns) = (record_at log n).key ∷ transitions_at log ns

-- why record n stands in the log
pub record Reason (sys : System) (log : List Record) (n : ℕ) : Type 0 where
  pub rule : Rule
  pub is : get_elem? sys.rules (record_at log n).rule ≡ some rule
  pub end : Group
  pub earlier : Each (λ (m : ℕ). m < n) (record_at log n).path
  pub reads : label (transitions_at log (record_at log n).path) ≡ rule.written
  pub along : Along sys.loc rule.after (transitions_at log (record_at log n).path) end
  pub key_is : (record_at log n).key ≡ added sys.loc rule end

pub record Valid (sys : System) (P : Transition → Type 0) (log : List Record) : Type 0 where
  pub base : (n : ℕ) → n < length log → (record_at log n).round ≡ 0 → P (record_at log n).key
  pub made : (n : ℕ) → n < length log → 0 < (record_at log n).round → Reason sys log n

pub record Reaches (sys : System) (P : Transition → Type 0) (rs : List ℕ) (s : Configuration) (f : Group) : Type 0 where
  pub end : Configuration
  pub walks : walk sys rs s ≡ some end
  pub left : List Transition
  pub goods : Each P left
  pub along : Along sys.loc end.states left f
  pub reads : Equivalent sys.loc end.word (label left)

transitions_at_append : (log : List Record) (ns ms : List ℕ) → transitions_at log (ns ++ ms) ≡ transitions_at log ns ++ transitions_at log ms
transitions_at_append log [] ms = refl
transitions_at_append log (n ∷ ns) ms = ap (λ (l : List Transition). (record_at log n).key ∷ l) (transitions_at_append log ns ms)

-- the state of the unfolding: the path zs ms from the configuration reads its word, zs is of round 0, and all processes are in control states
pub record Stands (sys : System) (P : Transition → Type 0) (zs ms : List Transition) (f : Group) (s : Configuration) : Type 0 where
  pub goods : Each P zs
  pub control : Control sys.controls s.states
  pub along : Along sys.loc s.states (zs ++ ms) f
  pub reads : Equivalent sys.loc s.word (label (zs ++ ms))

stands_path : (sys : System) (P : Transition → Type 0) (zs zs' ms ms' : List Transition) (f : Group) (s : Configuration) → Each P zs' → zs ++ ms ≡ zs' ++ ms'
    → Stands sys P zs ms f s → Stands sys P zs' ms' f s
stands_path sys P zs zs' ms ms' f s g e st = record {
  goods = g;
  control = st.control;
  along = subst (λ (l : List Transition). Along sys.loc s.states l f) e st.along;
  reads = λ i. st.reads i ∙ ap (λ (l : List Transition). project sys.loc i (label l)) e;
}

module _ (sys : System) (fa : Cooperating sys) (P : Transition → Type 0) (leave : (t : Transition) → P t → Leaves sys t) (log : List Record) (valid : Valid sys P log) where
  finish : (zs : List Transition) (s : Configuration) (f : Group) → Stands sys P zs [] f s → Reaches sys P [] s f
  finish zs s f st = record { end = s; walks = refl; left = zs ++ []; goods = each_append P zs [] st.goods tt; along = st.along; reads = st.reads }

  pass : (t : Transition) (zs ms : List Transition) (s : Configuration) (f : Group) → P t → Stands sys P zs (t ∷ ms) f s → Stands sys P (zs ++ (t ∷ [])) ms f s
  pass t zs ms s f p st = stands_path sys P zs (zs ++ (t ∷ [])) (t ∷ ms) ms f s (each_append P zs (t ∷ []) st.goods (p, tt)) (sym (append_assoc zs (t ∷ []) ms)) st

  unroll : (n : ℕ) → n < length log → (ρ : Reason sys log n) (ns : List ℕ) (zs : List Transition) (s : Configuration) (f : Group) → Stands sys P zs (transitions_at log (n ∷ ns)) f s
      → Replaced sys ρ.rule zs (transitions_at log (record_at log n).path) (transitions_at log ns) f s
  unroll n h ρ ns zs s f st =
      let turned = stands_path sys P zs zs (transitions_at log (n ∷ ns)) (added sys.loc ρ.rule ρ.end ∷ transitions_at log ns) f s st.goods
      (ap (λ (t : Transition). zs ++ (t ∷ transitions_at log ns)) ρ.key_is) st in
      replace_one sys fa (record_at log n).rule ρ.rule ρ.is zs (transitions_at log (record_at log n).path) (transitions_at log ns) ρ.end f s
      (record { zs_leave = each_map P (Leaves sys) leave zs st.goods; ps_read = ρ.reads; ps_along = ρ.along; control = st.control; along = turned.along; reads = turned.reads })

  unrolled : (n : ℕ) (r : Rule) (ns : List ℕ) (zs : List Transition) (s : Configuration) (f : Group) → Each P zs
      → Replaced sys r zs (transitions_at log (record_at log n).path) (transitions_at log ns) f s → Stands sys P zs (transitions_at log ((record_at log n).path ++ ns)) f (fired sys.loc r s)
  unrolled n r ns zs s f g o =
      stands_path sys P zs zs (transitions_at log (record_at log n).path ++ transitions_at log ns) (transitions_at log ((record_at log n).path ++ ns)) f (fired sys.loc r s) g
      (ap (λ (l : List Transition). zs ++ l) (sym (transitions_at_append log (record_at log n).path ns)))
      (record { goods = g; control = o.control; along = o.along; reads = o.reads })

  fire_first : (n : ℕ) (ρ : Reason sys log n) (rs : List ℕ) (s : Configuration) (f : Group) → enabled sys.loc ρ.rule s ≡ true
      → Reaches sys P rs (fired sys.loc ρ.rule s) f → Reaches sys P ((record_at log n).rule ∷ rs) s f
  fire_first n ρ rs s f y go = record {
    end = go.end;
    walks = walk_cons sys (record_at log n).rule rs s go.end
        (record { rule = ρ.rule; is = ρ.is; mid = fired sys.loc ρ.rule s; first = fire_some sys.loc ρ.rule s y; rest = go.walks });
    left = go.left;
    goods = go.goods;
    along = go.along;
    reads = go.reads;
  }

  pub unfold_runs : {ns rs : List ℕ} → Unfolds log ns rs → (zs : List Transition) (s : Configuration) (f : Group) → Each (λ (n : ℕ). n < length log) ns
      → Stands sys P zs (transitions_at log ns) f s → Reaches sys P rs s f
  unfold_runs done zs s f np st = finish zs s f st
  unfold_runs (skipped {n = n} {ns = ns} z u) zs s f np st =
      unfold_runs u (zs ++ ((record_at log n).key ∷ [])) s f np.1 (pass (record_at log n).key zs (transitions_at log ns) s f (valid.base n np.0 z) st)
  unfold_runs (replaced {n = n} {ns = ns} {rs = rs} z u) zs s f np st =
      let ρ = valid.made n np.0 z in
      let o = unroll n np.0 ρ ns zs s f st in
      fire_first n ρ rs s f o.enabled_now
      (unfold_runs u zs (fired sys.loc ρ.rule s) f
      (each_append (λ (m : ℕ). m < length log) (record_at log n).path ns (each_less n (length log) (record_at log n).path (omega (arith, np.0)) ρ.earlier) np.1)
      (unrolled n ρ.rule ns zs s f st.goods o))

  -- Soundness: an accepting path of log records over the start's word unfolds into a run that joins the start and the accepted set
  pub sound : (F : Group → Type 0) {ns rs : List ℕ} → Unfolds log ns rs → (s : Configuration) (f : Group) → Each (λ (n : ℕ). n < length log) ns → Control sys.controls s.states
      → Along sys.loc s.states (transitions_at log ns) f → Equivalent sys.loc s.word (label (transitions_at log ns)) → F f
      → (t : Configuration) × (walk sys rs s ≡ some t) × Accepts sys.loc F P t
  sound F {ns} {rs} u s f np l al re ok =
      let r = unfold_runs u [] s f np (record { goods = tt; control = l; along = al; reads = re }) in
      let a = rearrange sys.loc fa.located P r.end.word r.left r.end.states f (λ i. sym (r.reads i)) r.along r.goods in
      (r.end, r.walks, record { path = a.path; reads = a.reads; goods = a.goods; end = f; along = a.along; accepting = ok })
