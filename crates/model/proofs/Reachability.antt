-- The answer is right: Proposition 18, for the log that saturation ends in.
use mathlib.Core.Path.{◌∙◌, ◌≡◌, ap, refl, subst, sym}
use mathlib.Core.Bool.{false, true≢false}
use mathlib.Core.Logic.{◌⊎◌, inl, inr, ⊎_elim}
use mathlib.Core.Option.{none, some}
use mathlib.Core.List.Memᴰ
use mathlib.Core.List.{List, Memᴰ, [], ◌++◌, ◌∷◌, append-nil, map}
use Prim.Native.Nat.{◌+◌, min, suc, zero, ℕ}
use native.Mathlib.Omega.{arith}
use native.Mathlib.Nat.{add_comm}
use lib.ListN.{length}
use Rattle.model.specs.declared.Group.{Group}
use Rattle.model.specs.Automata.{Along, Transition, label}
use Rattle.model.specs.Groups.{Processes}
use Rattle.model.specs.Lists.{Each}
use Rattle.model.specs.Log.{Candidate, Path, Record, added_record, additions, initial_candidate, initial_record, keys, log_at, paths, steps_cap}
use Rattle.model.specs.Systems.{Accepting, Accepts, Configuration, InAutomaton, Joins, System, is_accepting}
use Rattle.model.specs.Unfolding.{Unfolds, accepting_path, emitted, first_accepting, path_steps}
use Rattle.model.specs.Words.{project}
use Rattle.model.proofs.Acceptance.{is_accepting_of, is_accepting_true}
use Rattle.model.proofs.Collecting.{Held, candidate_keys, collect_adds, log_saturates, log_at_suc, number_all}
use Rattle.model.proofs.Completeness.{complete}
use Rattle.model.proofs.Emission.{emitted_unfolds, steps_emitted}
use Rattle.model.proofs.Lists.{each_map}
use Rattle.model.proofs.LogPaths.{IsPath, paths_complete, paths_sound}
use Rattle.model.proofs.Soundness.{Control, Cooperating, Leaves, sound}
use Rattle.model.proofs.Tests.{by_test}
use Rattle.model.proofs.Validity.{log_counted, log_earlier, log_valid}

-- ---- what an accepted table gives
pub record WellFormed (sys : System) : Type 0 where
  pub cooperating : Cooperating sys
  pub no_entry : (t : Transition) → InAutomaton sys t → Leaves sys t

-- ---- the limit
abbrev pub Saturated : System → ℕ → Type 0
Saturated sys k = additions sys (log_at sys k) ≡ []

pub limit_suc : (sys : System) (k : ℕ) → Saturated sys k → log_at sys (suc k) ≡ log_at sys k
limit_suc sys k e = log_at_suc sys k ∙ ap (λ (cs : List Candidate). log_at sys k ++ map (added_record (suc k) (log_at sys k)) cs) e ∙ append-nil (log_at sys k)

-- once a round adds nothing, none does
pub limit_log : (sys : System) (k d : ℕ) → Saturated sys k → log_at sys (d + k) ≡ log_at sys k
limit_log sys k zero e = ap (log_at sys) (omega arith)
limit_log sys k (suc d) e = ap (log_at sys) (omega arith) ∙ limit_suc sys (d + k) (ap (additions sys) (limit_log sys k d e) ∙ e) ∙ limit_log sys k d e

pub held_more : (sys : System) (d j : ℕ) (t : Transition) → Held sys j t → Held sys (d + j) t
held_more sys zero j t m = subst (λ (n : ℕ). Held sys n t) (omega arith) m
held_more sys (suc d) j t m = subst (λ (n : ℕ). Held sys n t) (omega arith) ((log_saturates sys).grows (d + j) t (held_more sys d j t m))

pub held_limit : (sys : System) (k : ℕ) → Saturated sys k → (j : ℕ) (t : Transition) → Held sys j t → Held sys k t
held_limit sys k e j t m = subst (λ (log : List Record). Memᴰ t (keys log)) (limit_log sys k j e) (subst (λ (n : ℕ). Held sys n t) (add_comm k j) (held_more sys k j t m))

-- ---- round 0 is the table's automaton
pub keys_initial : (cs : List Candidate) → keys (map initial_record cs) ≡ candidate_keys cs
keys_initial [] = refl
keys_initial (c ∷ cs) = ap (λ (l : List Transition). c.key ∷ l) (keys_initial cs)

candidate_keys_initial : (ts : List Transition) → candidate_keys (map initial_candidate ts) ≡ ts
candidate_keys_initial [] = refl
candidate_keys_initial (t ∷ ts) = ap (λ (l : List Transition). t ∷ l) (candidate_keys_initial ts)

pub initial_held : (sys : System) (t : Transition) → InAutomaton sys t → Held sys 0 t
unfolding log_at
initial_held sys t m = rw keys_initial (⊎_elim (λ n. absurd (Memᴰ.not-nil n)) (λ n. n) (collect_adds t [] (map initial_candidate sys.transitions) [] (rw candidate_keys_initial m)))

-- ---- Lemma 15: what reaches the accepted set in k steps is accepted by the transitions of rounds up to k
pub accepts_map : (loc : ℕ → Processes) (F : Group → Type 0) (D E : Transition → Type 0) → ((t : Transition) → D t → E t) → (c : Configuration) → Accepts loc F D c → Accepts loc F E c
accepts_map loc F D E f c a = record { path = a.path; reads = a.reads; goods = each_map D E f a.path a.goods; end = a.end; along = a.along; accepting = a.accepting }

pub reach_accepts : (sys : System) → WellFormed sys → (s : Configuration) (ns : List ℕ) → Joins sys s ns → Accepts sys.loc (Accepting sys) (Held sys (length ns)) s
reach_accepts sys good s ns j =
    complete sys good.cooperating.located good.cooperating.cooperates (Accepting sys) (Held sys) (log_saturates sys) ns s j.end j.walks
    (accepts_map sys.loc (Accepting sys) (InAutomaton sys) (Held sys 0) (initial_held sys) j.end j.watched)

pub path_joins : (sys : System) → WellFormed sys → (k : ℕ) (s : Configuration) → Control sys.controls s.states → (t : Path) → IsPath sys.loc (log_at sys k) s.word s.states t → Accepting sys t.end
    → Joins sys s (emitted (log_at sys k) t.numbers)
path_joins sys good k s control t tr ok =
    let r = sound sys good.cooperating (InAutomaton sys) good.no_entry (log_at sys k) (log_valid sys k) (Accepting sys)
    (emitted_unfolds (log_at sys k) (log_earlier sys k) t.numbers tr.inside) s t.end tr.inside control tr.along (λ i. ap (project sys.loc i) (sym tr.reads)) ok in
    record { end = r.0; walks = r.1; watched = r.2 }

first_some : (acc : List Group) (P : Path → Type 0) (ts : List Path) → Each P ts → (t : Path) → first_accepting acc ts ≡ some t → P t × Memᴰ t.end acc
first_some acc P [] e t is = absurd (let z : ◌≡◌ {A = ℕ} 0 1 = cc in omega arith)
first_some acc P (u ∷ ts) e t is = by_test (is_accepting u.end acc)
    (λ y. let same : u ≡ t = cc (y) in (subst P same e.0, subst (λ (v : Path). Memᴰ v.end acc) same (is_accepting_true u.end acc y)))
    (λ n. first_some acc P ts e.1 t (rw n at is))

first_none : (acc : List Group) (ts : List Path) → first_accepting acc ts ≡ none → (t : Path) → Memᴰ t ts → Memᴰ t.end acc → ⊥
first_none acc [] e t m a = Memᴰ.not-nil m
first_none acc (u ∷ ts) e t m a = by_test (is_accepting u.end acc)
    (λ y. let z : ◌≡◌ {A = ℕ} 0 1 = cc (y) in omega arith)
    (λ n. step n (λ e' m'. first_none acc ts e' t m' a) (Memᴰ.cases_cons m))
  where
    step : is_accepting u.end acc ≡ false → (first_accepting acc ts ≡ none → Memᴰ t ts → ⊥) → (t ≡ u) ⊎ Memᴰ t ts → ⊥
    step n below (inl q) = true≢false (sym (is_accepting_of t.end acc a) ∙ ap (λ (v : Path). is_accepting v.end acc) q ∙ n)
    step n below (inr m') = below (rw n at e) m'

-- the path found is a path of the log over the word, and ends in an accepting group
pub accepting_path_found : (sys : System) (log : List Record) (s : Configuration) (t : Path) → accepting_path sys log s ≡ some t
    → IsPath sys.loc log s.word s.states t × Accepting sys t.end
unfolding accepting_path
accepting_path_found sys log s t e =
    first_some sys.accepting (IsPath sys.loc log s.word s.states) (paths sys.loc log s.word s.states) (paths_sound sys.loc log s.word s.states) t e

-- Reachable: the rules that the path emits are a run from the configuration to the accepted set
pub answer_yes : (sys : System) → WellFormed sys → (k : ℕ) (s : Configuration) → Control sys.controls s.states → (t : Path) → accepting_path sys (log_at sys k) s ≡ some t
    → Joins sys s (emitted (log_at sys k) t.numbers)
answer_yes sys good k s control t e = let f = accepting_path_found sys (log_at sys k) s t e in path_joins sys good k s control t f.0 f.1

pub path_unfolds : (sys : System) (k : ℕ) (s : Configuration) (t : Path) → accepting_path sys (log_at sys k) s ≡ some t → Unfolds (log_at sys k) t.numbers (emitted (log_at sys k) t.numbers)
path_unfolds sys k s t e = emitted_unfolds (log_at sys k) (log_earlier sys k) t.numbers (accepting_path_found sys (log_at sys k) s t e).0.inside

-- the steps figure is the number of rules emitted, up to the cap
pub answer_steps : (sys : System) (k : ℕ) (s : Configuration) (t : Path) → accepting_path sys (log_at sys k) s ≡ some t
    → path_steps (log_at sys k) t.numbers ≡ min (length (emitted (log_at sys k) t.numbers)) steps_cap
answer_steps sys k s t e = steps_emitted (log_at sys k) (log_earlier sys k) (log_counted sys k) t.numbers (accepting_path_found sys (log_at sys k) s t e).0.inside

-- Unreachable: no run joins the start and the accepted set
pub answer_no : (sys : System) → WellFormed sys → (k : ℕ) → Saturated sys k → (s : Configuration) → accepting_path sys (log_at sys k) s ≡ none → (ns : List ℕ) → Joins sys s ns → ⊥
unfolding accepting_path
answer_no sys good k lim s e ns j =
    let a = accepts_map sys.loc (Accepting sys) (Held sys (length ns)) (Held sys k) (held_limit sys k lim (length ns)) s (reach_accepts sys good s ns j) in
    let num = number_all (log_at sys k) a.path a.goods in
    first_none sys.accepting (paths sys.loc (log_at sys k) s.word s.states) e (record { numbers = num.numbers; end = a.end })
    (paths_complete sys.loc (log_at sys k) s.word s.states num.numbers a.end num.inside (ap label num.are ∙ a.reads)
    (subst (λ (l : List Transition). Along sys.loc s.states l a.end) (sym num.are) a.along))
    a.accepting
