-- Logs that choose their reasons differently are alike but for these: what a round may add depends on the log's keys alone, and a rising list of keys is
-- known by its members.
use mathlib.Core.Path.{◌∙◌, ◌≡◌, ap, ap₂, refl, subst, sym}
use mathlib.Core.Bool.{Bool, ◌||◌, cond, false, true≢false}
use mathlib.Core.Logic.{⊎_elim}
use mathlib.Core.List.Memᴰ
use mathlib.Core.List.{List, Memᴰ, [], ◌++◌, ◌∷◌, map}
use Prim.Native.Nat.{max, suc, zero, ℕ}
use native.Mathlib.Omega.{arith}
use lib.ListN.{length, length-map}
use Rattle.model.specs.declared.Group.{Group}
use Rattle.model.specs.Automata.{Transition, move}
use Rattle.model.specs.Choices.{Choice, ChosenLog, ChosenRound, KeysRise, SameButReasons}
use Rattle.model.specs.Groups.{Processes}
use Rattle.model.specs.Log.{Candidate, Path, Record, added_record, additions, candidate, candidates, collect, extend, in_log, insert, keys, log_at, paths, push, reads_at, rounds, same_key}
use Rattle.model.specs.Systems.{Configuration, Rule, System}
use Rattle.model.specs.Unfolding.{accepting_path, first_accepting}
use Rattle.model.proofs.Collecting.{candidate_keys, collect_adds, each_collect, in_log_of, log_at_suc}
use Rattle.model.proofs.Lists.{each_get, each_mem, map_append}
use Rattle.model.proofs.Order.{Less, Sorted, additions_fresh, additions_sorted, each_candidate_keys, less_irrefl, less_trans}

-- ---- what depends on the keys alone
reads_alike : (loc : ℕ → Processes) (a : ℕ) (g : Group) (r s : Record) → r.key ≡ s.key → reads_at loc a g r ≡ reads_at loc a g s
unfolding reads_at
reads_alike loc a g r s e = ap (λ (t : Transition). reads_at loc a g (record { key = t; round = 0; rule = 0; path = []; steps = 0 })) e

key_first : (r s : Record) (log other : List Record) → keys (r ∷ log) ≡ keys (s ∷ other) → r.key ≡ s.key
key_first r s log other e = cc

key_rest : (r s : Record) (log other : List Record) → keys (r ∷ log) ≡ keys (s ∷ other) → keys log ≡ keys other
key_rest r s log other e = cc

module _ (loc : ℕ → Processes) where
  extend_alike : (a : ℕ) (g : Group) (next later : Group → List Path) → ((h : Group) → next h ≡ later h) → (log other : List Record) → keys log ≡ keys other → (n : ℕ)
      → extend loc a g next log n ≡ extend loc a g later other n
  extend_alike a g next later same [] [] e n = refl
  extend_alike a g next later same [] (s ∷ other) e n = absurd (let z : ◌≡◌ {A = ℕ} 0 1 = cc in omega arith)
  extend_alike a g next later same (r ∷ log) [] e n = absurd (let z : ◌≡◌ {A = ℕ} 0 1 = cc in omega arith)
  extend_alike a g next later same (r ∷ log) (s ∷ other) e n =
      ap₂ (λ (x y : List Path). x ++ y) front (extend_alike a g next later same log other (key_rest r s log other e) (suc n))
    where
      key : r.key ≡ s.key
      key = key_first r s log other e

      front : cond (reads_at loc a g r) (map (push n) (next (move loc r.key g))) [] ≡ cond (reads_at loc a g s) (map (push n) (later (move loc s.key g))) []
      front = ap₂ (λ (b : Bool) (ps : List Path). cond b (map (push n) ps) []) (reads_alike loc a g r s key) (same (move loc r.key g) ∙ ap (λ (t : Transition). later (move loc t g)) key)

  paths_alike : (log other : List Record) → keys log ≡ keys other → (w : List ℕ) (g : Group) → paths loc log w g ≡ paths loc other w g
  paths_alike log other e [] g = refl
  paths_alike log other e (a ∷ w) g = extend_alike a g (λ h. paths loc log w h) (λ h. paths loc other w h) (λ h. paths_alike log other e w h) log other e 0

  candidates_alike : (log other : List Record) → keys log ≡ keys other → (rs : List Rule) (n : ℕ) → candidates loc log rs n ≡ candidates loc other rs n
  candidates_alike log other e [] n = refl
  candidates_alike log other e (r ∷ rs) n =
      ap₂ (λ (ps : List Path) (cs : List Candidate). map (candidate loc r n) ps ++ cs) (paths_alike log other e r.written r.after) (candidates_alike log other e rs (suc n))

held_alike : (t : Transition) (log other : List Record) → keys log ≡ keys other → in_log t log ≡ in_log t other
held_alike t [] [] e = refl
held_alike t [] (s ∷ other) e = absurd (let z : ◌≡◌ {A = ℕ} 0 1 = cc in omega arith)
held_alike t (r ∷ log) [] e = absurd (let z : ◌≡◌ {A = ℕ} 0 1 = cc in omega arith)
held_alike t (r ∷ log) (s ∷ other) e = ap₂ (λ (u : Transition) (b : Bool). same_key u t || b) (key_first r s log other e) (held_alike t log other (key_rest r s log other e))

collect_alike : (log other : List Record) → keys log ≡ keys other → (cs got : List Candidate) → collect log cs got ≡ collect other cs got
collect_alike log other e [] got = refl
collect_alike log other e (c ∷ cs) got = collect_alike log other e cs (cond (in_log c.key log) got (insert c got))
    ∙ ap (λ (b : Bool). collect other cs (cond b got (insert c got))) (held_alike c.key log other e)

rounds_alike : (log other : List Record) → map (λ (r : Record). r.round) log ≡ map (λ (r : Record). r.round) other → rounds log ≡ rounds other
rounds_alike [] [] e = refl
rounds_alike [] (s ∷ other) e = absurd (let z : ◌≡◌ {A = ℕ} 0 1 = cc in omega arith)
rounds_alike (r ∷ log) [] e = absurd (let z : ◌≡◌ {A = ℕ} 0 1 = cc in omega arith)
rounds_alike (r ∷ log) (s ∷ other) e = ap₂ max first (rounds_alike log other rest)
  where
    first : r.round ≡ s.round
    first = cc

    rest : map (λ (x : Record). x.round) log ≡ map (λ (x : Record). x.round) other
    rest = cc

-- ---- a rising list is known by its members
module _ (t u : Transition) (ts us : List Transition) (s : KeysRise (t ∷ ts)) (v : KeysRise (u ∷ us)) where
  first_same : Memᴰ t (u ∷ us) → Memᴰ u (t ∷ ts) → t ≡ u
  first_same m n = ⊎_elim (λ e. e) (λ (below : Memᴰ t us). ⊎_elim (λ e. sym e) (λ (above : Memᴰ u ts).
      absurd (less_irrefl t (less_trans t u t (each_get (Less t) u ts s.0 above) (each_get (Less u) t us v.0 below)))) (Memᴰ.cases_cons n)) (Memᴰ.cases_cons m)

  rest_inside : t ≡ u → (x : Transition) → Memᴰ x ts → Memᴰ x (u ∷ us) → Memᴰ x us
  rest_inside e x m n = ⊎_elim
      (λ (is : x ≡ u). absurd (less_irrefl t (subst (Less t) (is ∙ sym e) (each_get (Less t) x ts s.0 m))))
      (λ (below : Memᴰ x us). below) (Memᴰ.cases_cons n)

rise_unique : (ts us : List Transition) → KeysRise ts → KeysRise us → ((t : Transition) → Memᴰ t ts → Memᴰ t us) → ((t : Transition) → Memᴰ t us → Memᴰ t ts) → ts ≡ us
rise_unique [] [] s v f g = refl
rise_unique [] (u ∷ us) s v f g = absurd (Memᴰ.not-nil (g u (Memᴰ.head refl)))
rise_unique (t ∷ ts) [] s v f g = absurd (Memᴰ.not-nil (f t (Memᴰ.head refl)))
rise_unique (t ∷ ts) (u ∷ us) s v f g = ap₂ (λ (x : Transition) (xs : List Transition). x ∷ xs) same (rise_unique ts us s.1 v.1
    (λ x m. rest_inside t u ts us s v same x m (f x (Memᴰ.tail m)))
    (λ x m. rest_inside u t us ts v s (sym same) x m (g x (Memᴰ.tail m))))
  where
    same : t ≡ u
    same = first_same t u ts us s v (f t (Memᴰ.head refl)) (g u (Memᴰ.head refl))

-- ---- a round
module _ (sys : System) (log other : List Record) (e : keys log ≡ keys other) where
  -- what one choice adds, the other adds too
  choice_has : (cs ds : List Candidate) → Choice sys log cs → Choice sys other ds → (t : Transition) → Memᴰ t (candidate_keys cs) → Memᴰ t (candidate_keys ds)
  choice_has cs ds x y t m =
      let c = Memᴰ.of_map (λ (c : Candidate). c.key) cs m in
      let offered = each_get (λ (c : Candidate). Memᴰ c (candidates sys.loc log sys.rules 0)) c.0 cs x.reasons c.1 in
      let lacks = each_get (λ (c : Candidate). in_log c.key log ≡ false) c.0 cs x.lacking c.1 in
      Memᴰ.cast (sym c.2) (y.whole c.0 (subst (Memᴰ c.0) (candidates_alike sys.loc log other e sys.rules 0) offered) (sym (held_alike c.0.key log other e) ∙ lacks))

  pub additions_alike : additions sys log ≡ additions sys other
  unfolding additions
  additions_alike = ap (λ (cs : List Candidate). collect log cs []) (candidates_alike sys.loc log other e sys.rules 0) ∙ collect_alike log other e (candidates sys.loc other sys.rules 0) []

  accepts_alike : (c : Configuration) → accepting_path sys log c ≡ accepting_path sys other c
  unfolding accepting_path
  accepts_alike c = ap (first_accepting sys.accepting) (paths_alike sys.loc log other e c.word c.states)

choices_alike : (sys : System) (log other : List Record) → keys log ≡ keys other → (cs ds : List Candidate) → Choice sys log cs → Choice sys other ds → candidate_keys cs ≡ candidate_keys ds
choices_alike sys log other e cs ds x y = rise_unique (candidate_keys cs) (candidate_keys ds) x.ordered y.ordered (choice_has sys log other e cs ds x y) (choice_has sys other log (sym e) ds cs y x)

-- ---- the logs
-- the keys of records that candidates make, and their rounds, all k
added_keys : (k : ℕ) (log : List Record) (cs : List Candidate) → keys (map (added_record k log) cs) ≡ candidate_keys cs
added_keys k log [] = refl
added_keys k log (c ∷ cs) = ap (λ (ts : List Transition). c.key ∷ ts) (added_keys k log cs)

added_rounds : (k : ℕ) (log other : List Record) (cs ds : List Candidate) → candidate_keys cs ≡ candidate_keys ds
    → map (λ (r : Record). r.round) (map (added_record k log) cs) ≡ map (λ (r : Record). r.round) (map (added_record k other) ds)
added_rounds k log other [] [] e = refl
added_rounds k log other [] (d ∷ ds) e = absurd (let z : ◌≡◌ {A = ℕ} 0 1 = cc in omega arith)
added_rounds k log other (c ∷ cs) [] e = absurd (let z : ◌≡◌ {A = ℕ} 0 1 = cc in omega arith)
added_rounds k log other (c ∷ cs) (d ∷ ds) e = ap (λ (ns : List ℕ). k ∷ ns) (added_rounds k log other cs ds rest)
  where
    rest : candidate_keys cs ≡ candidate_keys ds
    rest = cc

-- keys and rounds agree
abbrev Alike : List Record → List Record → Type 0
Alike log other = (keys log ≡ keys other) × (map (λ (r : Record). r.round) log ≡ map (λ (r : Record). r.round) other)

round_alike : (sys : System) (k : ℕ) (log other next later : List Record) → Alike log other → ChosenRound sys k log next → ChosenRound sys k other later → Alike next later
round_alike sys k log other next later (e, r) x y = (
  split (λ (z : Record). z.key) e (added_keys k log x.chosen ∙ same ∙ sym (added_keys k other y.chosen)),
  split (λ (z : Record). z.round) r (added_rounds k log other x.chosen y.chosen same),
)
  where
    same : candidate_keys x.chosen ≡ candidate_keys y.chosen
    same = choices_alike sys log other e x.chosen y.chosen x.choice y.choice

    split : {A : Type 0} (f : Record → A) → map f log ≡ map f other → map f (map (added_record k log) x.chosen) ≡ map f (map (added_record k other) y.chosen) → map f next ≡ map f later
    split {A} f p q = ap (map f) x.is ∙ map_append f log (map (added_record k log) x.chosen) ∙ ap₂ (λ (us vs : List A). us ++ vs) p q
        ∙ sym (map_append f other (map (added_record k other) y.chosen)) ∙ ap (map f) (sym y.is)

chosen_alike : (sys : System) (k : ℕ) (log other : List Record) → ChosenLog sys k log → ChosenLog sys k other → Alike log other
chosen_alike sys zero log other p q = (ap keys (p ∙ sym q), ap (map (λ (r : Record). r.round)) (p ∙ sym q))
chosen_alike sys (suc k) log other p q = round_alike sys (suc k) p.0 q.0 log other (chosen_alike sys k p.0 q.0 p.1 q.1) p.2 q.2

pub chosen_same : (sys : System) (k : ℕ) (log other : List Record) → ChosenLog sys k log → ChosenLog sys k other → SameButReasons sys log other
chosen_same sys k log other p q =
    let a = chosen_alike sys k log other p q in
    record {
      transitions = a.0;
      each_round = a.1;
      transition_count = sym (length-map log (λ (r : Record). r.key)) ∙ ap length a.0 ∙ length-map other (λ (r : Record). r.key);
      highest_round = rounds_alike log other a.1;
      verdict = accepts_alike sys log other a.0;
      next = additions_alike sys log other a.0;
    }

-- ---- the log of the definitions is one of them
sorted_rise : (cs : List Candidate) → Sorted cs → KeysRise (candidate_keys cs)
sorted_rise [] s = tt
sorted_rise (c ∷ cs) s = (each_candidate_keys (Less c.key) cs s.0, sorted_rise cs s.1)

additions_choice : (sys : System) (log : List Record) → Choice sys log (additions sys log)
unfolding additions
additions_choice sys log = record {
  reasons = each_collect (λ (c : Candidate). Memᴰ c all) log all [] (each_mem all) tt;
  lacking = additions_fresh sys log;
  whole = λ c m n. ⊎_elim (λ (held : Memᴰ c.key (keys log)). absurd (true≢false (sym (in_log_of c.key log held) ∙ n))) (λ new. new)
      (collect_adds c.key log all [] (Memᴰ.map (λ (d : Candidate). d.key) m));
  ordered = sorted_rise (additions sys log) (additions_sorted sys log);
}
  where
    all : List Candidate
    all = candidates sys.loc log sys.rules 0

pub log_is_chosen : (sys : System) (k : ℕ) → ChosenLog sys k (log_at sys k)
log_is_chosen sys zero = refl
log_is_chosen sys (suc k) = (log_at sys k, log_is_chosen sys k, record { chosen = additions sys (log_at sys k); choice = additions_choice sys (log_at sys k); is = log_at_suc sys k })
