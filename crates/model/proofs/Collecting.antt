-- What the log of each round holds: the rules' additions and nothing else, each with its reason.
use mathlib.Core.Path.{◌∙◌, ◌≡◌, ap, ap₂, refl, subst, sym}
use mathlib.Core.Bool.{◌&&◌, cond, false, true}
use mathlib.Core.Logic.{◌⊎◌, inl, inr, ⊎_elim}
use mathlib.Core.Option.{some}
use mathlib.Core.List.{List, Memᴰ, [], ◌++◌, ◌∷◌, map}
use Prim.Native.Nat.{◌+◌, ◌<◌, suc, zero, ℕ}
use native.Mathlib.Omega.{arith}
use lib.Dec.{eqb}
use lib.ListN.{get_elem?, length, length-append}
use lib.Seq.{append_snoc}
use borrow.Author.Tests.{eq-eqb, eqb-true}
use Rattle.model.specs.declared.Group.{Group}
use Rattle.model.specs.Automata.{Along, Transition, label}
use Rattle.model.specs.Groups.{Processes, same_group}
use Rattle.model.specs.Lists.{Each}
use Rattle.model.specs.Log.{Candidate, Path, Record, added_record, additions, candidate, candidates, collect, in_log, insert, key_less, keys, log_at, paths, record_at, same_key}
use Rattle.model.specs.Saturation.{added}
use Rattle.model.specs.Systems.{Rule, System}
use Rattle.model.proofs.Completeness.{Saturates}
use Rattle.model.proofs.Groups.{same_group_of, same_group_true}
use Rattle.model.proofs.Lists.{any_of_lem, any_true, each_append, each_map, each_of_map, get_elem_at}
use Rattle.model.proofs.LogPaths.{IsPath, paths_complete, paths_sound}
use Rattle.model.proofs.Soundness.{transitions_at}
use Rattle.model.proofs.Tests.{and_both, and_left, and_right, by_test}

abbrev pub candidate_keys : List Candidate → List Transition
candidate_keys cs = map (λ (c : Candidate). c.key) cs

pub same_key_true : (t u : Transition) → same_key t u ≡ true → t ≡ u
unfolding same_key
same_key_true t u e =
    let ab : (eqb t.letter u.letter && same_group t.before u.before) ≡ true = and_left (eqb t.letter u.letter && same_group t.before u.before) (same_group t.after u.after) e in
    let p : t.letter ≡ u.letter = eqb-true t.letter u.letter (and_left (eqb t.letter u.letter) (same_group t.before u.before) ab) in
    let q : t.before ≡ u.before = same_group_true t.before u.before (and_right (eqb t.letter u.letter) (same_group t.before u.before) ab) in
    let r : t.after ≡ u.after = same_group_true t.after u.after (and_right (eqb t.letter u.letter && same_group t.before u.before) (same_group t.after u.after) e) in
    λ i. record { letter = p i; before = q i; after = r i }

pub same_key_of : (t u : Transition) → t ≡ u → same_key t u ≡ true
unfolding same_key
same_key_of t u e =
    and_both (eqb t.letter u.letter && same_group t.before u.before) (same_group t.after u.after)
    (and_both (eqb t.letter u.letter) (same_group t.before u.before) (eq-eqb t.letter u.letter (ap (λ (x : Transition). x.letter) e)) (same_group_of t.before u.before (ap (λ (x : Transition). x.before) e)))
    (same_group_of t.after u.after (ap (λ (x : Transition). x.after) e))

pub in_log_true : (t : Transition) (log : List Record) → in_log t log ≡ true → Memᴰ t (keys log)
in_log_true t log e =
    let r = any_true (λ (r : Record). same_key r.key t) log e in
    mathlib.Core.List.Memᴰ.cast (sym (same_key_true r.0.key t r.2)) (mathlib.Core.List.Memᴰ.map (λ (x : Record). x.key) r.1)

pub in_log_of : (t : Transition) (log : List Record) → Memᴰ t (keys log) → in_log t log ≡ true
in_log_of t log m =
    let r = mathlib.Core.List.Memᴰ.of_map (λ (x : Record). x.key) log m in
    any_of_lem (λ (x : Record). same_key x.key t) log r.0 r.1 (same_key_of r.0.key t r.2)

-- ---- placing and settling
pub each_insert : (P : Candidate → Type 0) (c : Candidate) (ds : List Candidate) → P c → Each P ds → Each P (insert c ds)
each_insert P c [] p q = (p, tt)
each_insert P c (d ∷ ds) p q = by_test (same_key c.key d.key) (λ y. rw y q)
    (λ n. rw n (by_test (key_less c.key d.key) (λ y. rw y (p, q)) (λ m. rw m (q.0, each_insert P c ds p q.1))))

pub each_collect : (P : Candidate → Type 0) (log : List Record) (cs got : List Candidate) → Each P cs → Each P got → Each P (collect log cs got)
each_collect P log [] got p q = q
each_collect P log (c ∷ cs) got p q = each_collect P log cs (cond (in_log c.key log) got (insert c got)) p.1
    (by_test (in_log c.key log) (λ y. rw y q) (λ n. rw n (each_insert P c got p.0 q)))

pub insert_has : (c : Candidate) (ds : List Candidate) → Memᴰ c.key (candidate_keys (insert c ds))
insert_has c [] = mathlib.Core.List.Memᴰ.head refl
insert_has c (d ∷ ds) = by_test (same_key c.key d.key) (λ y. rw y (mathlib.Core.List.Memᴰ.head (same_key_true c.key d.key y)))
    (λ n. rw n (by_test (key_less c.key d.key) (λ y. rw y (mathlib.Core.List.Memᴰ.head refl)) (λ m. rw m (mathlib.Core.List.Memᴰ.tail (insert_has c ds)))))

pub insert_keeps : (t : Transition) (c : Candidate) (ds : List Candidate) → Memᴰ t (candidate_keys ds) → Memᴰ t (candidate_keys (insert c ds))
insert_keeps t c [] m = absurd (mathlib.Core.List.Memᴰ.not-nil m)
insert_keeps t c (d ∷ ds) m = by_test (same_key c.key d.key) (λ y. rw y m)
    (λ n. rw n (by_test (key_less c.key d.key) (λ y. rw y (mathlib.Core.List.Memᴰ.tail m)) (λ k. rw k (step (λ m'. insert_keeps t c ds m') (mathlib.Core.List.Memᴰ.cases_cons m)))))
  where
    step : (Memᴰ t (candidate_keys ds) → Memᴰ t (candidate_keys (insert c ds))) → (t ≡ d.key) ⊎ Memᴰ t (candidate_keys ds) → Memᴰ t (candidate_keys (d ∷ insert c ds))
    step below (inl e) = mathlib.Core.List.Memᴰ.head e
    step below (inr m') = mathlib.Core.List.Memᴰ.tail (below m')

pub collect_keeps : (t : Transition) (log : List Record) (cs got : List Candidate) → Memᴰ t (candidate_keys got) → Memᴰ t (candidate_keys (collect log cs got))
collect_keeps t log [] got m = m
collect_keeps t log (c ∷ cs) got m = collect_keeps t log cs (cond (in_log c.key log) got (insert c got))
    (by_test (in_log c.key log) (λ y. rw y m) (λ n. rw n (insert_keeps t c got m)))

pub collect_adds : (t : Transition) (log : List Record) (cs got : List Candidate) → Memᴰ t (candidate_keys cs) → Memᴰ t (keys log) ⊎ Memᴰ t (candidate_keys (collect log cs got))
collect_adds t log [] got m = absurd (mathlib.Core.List.Memᴰ.not-nil m)
collect_adds t log (c ∷ cs) got m = step (λ m'. collect_adds t log cs (cond (in_log c.key log) got (insert c got)) m') (mathlib.Core.List.Memᴰ.cases_cons m)
  where
    added_now : t ≡ c.key → in_log c.key log ≡ false → Memᴰ t (candidate_keys (cond (in_log c.key log) got (insert c got)))
    added_now e n = rw n (mathlib.Core.List.Memᴰ.cast e (insert_has c got))

    step : (Memᴰ t (candidate_keys cs) → Memᴰ t (keys log) ⊎ Memᴰ t (candidate_keys (collect log cs (cond (in_log c.key log) got (insert c got)))))
        → (t ≡ c.key) ⊎ Memᴰ t (candidate_keys cs)
        → Memᴰ t (keys log) ⊎ Memᴰ t (candidate_keys (collect log cs (cond (in_log c.key log) got (insert c got))))
    step below (inl e) = by_test (in_log c.key log) (λ y. inl (mathlib.Core.List.Memᴰ.cast e (in_log_true c.key log y)))
        (λ n. inr (collect_keeps t log cs (cond (in_log c.key log) got (insert c got)) (added_now e n)))
    step below (inr m') = below m'

-- the candidate's transition is what its rule adds for its path
pub record Reasoned (sys : System) (log : List Record) (c : Candidate) : Type 0 where
  pub rule : Rule
  pub is : get_elem? sys.rules c.rule ≡ some rule
  pub end : Group
  pub is_path : IsPath sys.loc log rule.written rule.after (record { numbers = c.path; end = end })
  pub key_is : c.key ≡ added sys.loc rule end

candidates_each : (sys : System) (log : List Record) (rs pre : List Rule) (n : ℕ) → pre ++ rs ≡ sys.rules → length pre ≡ n → Each (Reasoned sys log) (candidates sys.loc log rs n)
candidates_each sys log [] pre n e l = tt
candidates_each sys log (r ∷ rs) pre n e l =
    each_append (Reasoned sys log) (map (candidate sys.loc r n) (paths sys.loc log r.written r.after)) (candidates sys.loc log rs (suc n))
    (each_of_map (Reasoned sys log) (candidate sys.loc r n) (paths sys.loc log r.written r.after)
    (each_map (IsPath sys.loc log r.written r.after) (λ (t : Path). Reasoned sys log (candidate sys.loc r n t)) one (paths sys.loc log r.written r.after) (paths_sound sys.loc log r.written r.after)))
    (candidates_each sys log rs (pre ++ (r ∷ [])) (suc n) (append_snoc pre r rs ∙ e) (length-append pre (r ∷ []) ∙ omega arith))
  where
    one : (t : Path) → IsPath sys.loc log r.written r.after t → Reasoned sys log (candidate sys.loc r n t)
    one t tr = record { rule = r; is = rw (← e) (get_elem_at pre r rs n l); end = t.end; is_path = tr; key_is = refl }

pub candidates_complete : (loc : ℕ → Processes) (log : List Record) (rs : List Rule) (n j m : ℕ) (r : Rule) → get_elem? rs j ≡ some r → m ≡ n + j
    → (t : Path) → Memᴰ t (paths loc log r.written r.after) → Memᴰ (candidate loc r m t) (candidates loc log rs n)
candidates_complete loc log [] n j m r is e t i = absurd (let z : ◌≡◌ {A = ℕ} 0 1 = cc in omega arith)
candidates_complete loc log (q ∷ rs) n zero m r is e t i = mathlib.Core.List.Memᴰ.append_left (candidates loc log rs (suc n)) first
  where
    same_rule : q ≡ r
    same_rule = cc

    same : m ≡ n
    same = omega arith

    first : Memᴰ (candidate loc r m t) (map (candidate loc q n) (paths loc log q.written q.after))
    first = rw (same_rule, same) (mathlib.Core.List.Memᴰ.map (candidate loc r n) i)
candidates_complete loc log (q ∷ rs) n (suc j) m r is e t i =
    mathlib.Core.List.Memᴰ.append_right (map (candidate loc q n) (paths loc log q.written q.after)) (candidates_complete loc log rs (suc n) j m r is (omega arith) t i)

pub additions_reasoned : (sys : System) (log : List Record) → Each (Reasoned sys log) (additions sys log)
unfolding additions
additions_reasoned sys log = each_collect (Reasoned sys log) log (candidates sys.loc log sys.rules 0) [] (candidates_each sys log sys.rules [] 0 refl refl) tt

-- a list of transitions that the log holds is a list of record numbers
pub record Numbered (log : List Record) (ts : List Transition) : Type 0 where
  pub numbers : List ℕ
  pub inside : Each (λ (n : ℕ). n < length log) numbers
  pub are : transitions_at log numbers ≡ ts

pub number_of : (log : List Record) (t : Transition) → Memᴰ t (keys log) → (n : ℕ) × (n < length log) × ((record_at log n).key ≡ t)
number_of [] t m = absurd (mathlib.Core.List.Memᴰ.not-nil m)
number_of (r ∷ log) t m = step (λ m'. number_of log t m') (mathlib.Core.List.Memᴰ.cases_cons m)
  where
    step : (Memᴰ t (keys log) → (n : ℕ) × (n < length log) × ((record_at log n).key ≡ t)) → (t ≡ r.key) ⊎ Memᴰ t (keys log)
        → (n : ℕ) × (n < suc (length log)) × ((record_at (r ∷ log) n).key ≡ t)
    step below (inl e) = (0, omega arith, sym e)
    step below (inr m') = let b = below m' in (suc b.0, omega (arith, b.1), b.2)

pub number_all : (log : List Record) (ts : List Transition) → Each (λ (t : Transition). Memᴰ t (keys log)) ts → Numbered log ts
number_all log [] e = record { numbers = []; inside = tt; are = refl }
number_all log (t ∷ ts) e =
    let one = number_of log t e.0 in
    let rest = number_all log ts e.1 in
    record { numbers = one.0 ∷ rest.numbers; inside = (one.1, rest.inside); are = ap₂ (λ (u : Transition) (us : List Transition). u ∷ us) one.2 rest.are }

-- what a rule adds for a path over the log is in the log or new
pub additions_complete : (sys : System) (log : List Record) (n : ℕ) (r : Rule) → get_elem? sys.rules n ≡ some r → (ts : List Transition) (e : Group)
    → Each (λ (t : Transition). Memᴰ t (keys log)) ts → label ts ≡ r.written → Along sys.loc r.after ts e
    → Memᴰ (added sys.loc r e) (keys log) ⊎ Memᴰ (added sys.loc r e) (candidate_keys (additions sys log))
unfolding additions
additions_complete sys log n r is ts e known reads along =
    let num = number_all log ts known in
    let listed : Memᴰ (record { numbers = num.numbers; end = e }) (paths sys.loc log r.written r.after) =
    paths_complete sys.loc log r.written r.after num.numbers e num.inside (ap label num.are ∙ reads)
    (subst (λ (l : List Transition). Along sys.loc r.after l e) (sym num.are) along) in
    let cand : Memᴰ (candidate sys.loc r n (record { numbers = num.numbers; end = e })) (candidates sys.loc log sys.rules 0) =
    candidates_complete sys.loc log sys.rules 0 n n r is (omega arith) (record { numbers = num.numbers; end = e }) listed in
    collect_adds (added sys.loc r e) log (candidates sys.loc log sys.rules 0) [] (mathlib.Core.List.Memᴰ.map (λ (c : Candidate). c.key) cand)

-- ---- the log of round k
keys_append : (xs ys : List Record) → keys (xs ++ ys) ≡ keys xs ++ keys ys
keys_append [] ys = refl
keys_append (x ∷ xs) ys = ap (λ (l : List Transition). x.key ∷ l) (keys_append xs ys)

keys_added : (k : ℕ) (log : List Record) (cs : List Candidate) → keys (map (added_record k log) cs) ≡ candidate_keys cs
keys_added k log [] = refl
keys_added k log (c ∷ cs) = ap (λ (l : List Transition). c.key ∷ l) (keys_added k log cs)

pub log_at_suc : (sys : System) (k : ℕ) → log_at sys (suc k) ≡ log_at sys k ++ map (added_record (suc k) (log_at sys k)) (additions sys (log_at sys k))
unfolding log_at
log_at_suc sys k = refl

pub keys_suc : (sys : System) (k : ℕ) → keys (log_at sys (suc k)) ≡ keys (log_at sys k) ++ candidate_keys (additions sys (log_at sys k))
keys_suc sys k =
    ap keys (log_at_suc sys k)
    ∙ keys_append (log_at sys k) (map (added_record (suc k) (log_at sys k)) (additions sys (log_at sys k)))
    ∙ ap (λ (l : List Transition). keys (log_at sys k) ++ l) (keys_added (suc k) (log_at sys k) (additions sys (log_at sys k)))

-- the transitions of rounds up to k
abbrev pub Held : System → ℕ → Transition → Type 0
Held sys k t = Memᴰ t (keys (log_at sys k))

pub log_saturates : (sys : System) → Saturates sys (Held sys)
log_saturates sys = record { grows = grow; adds = add }
  where
    grow : (k : ℕ) (t : Transition) → Held sys k t → Held sys (suc k) t
    grow k t m = rw (keys_suc sys k) (mathlib.Core.List.Memᴰ.append_left (candidate_keys (additions sys (log_at sys k))) m)

    add : (k n : ℕ) (r : Rule) → get_elem? sys.rules n ≡ some r → (ts : List Transition) (e : Group) → Each (Held sys k) ts → label ts ≡ r.written
        → Along sys.loc r.after ts e → Held sys (suc k) (added sys.loc r e)
    add k n r is ts e known reads along = ⊎_elim
        (λ m. grow k (added sys.loc r e) m)
        (λ m. rw (keys_suc sys k) (mathlib.Core.List.Memᴰ.append_right (keys (log_at sys k)) m))
        (additions_complete sys (log_at sys k) n r is ts e known reads along)
