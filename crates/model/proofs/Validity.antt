-- Every record of the log has its reason among earlier records, and its steps figure.
use mathlib.Core.Path.{◌∙◌, ◌≡◌, ap, ap₂, refl, subst, sym}
use mathlib.Core.Logic.{◌⊎◌, inl, inr, ⊎_elim}
use mathlib.Core.Option.{some}
use mathlib.Core.List.{List, Memᴰ, [], ◌++◌, ◌∷◌, map}
use Prim.Native.Nat.{◌+◌, ◌<◌, ◌≤◌, min, suc, zero, ℕ}
use native.Mathlib.Omega.{arith}
use native.Mathlib.Nat.{not-suc-le-zero}
use lib.ListN.{get_or-append, get_elem?, length}
use Rattle.model.specs.declared.Group.{Group}
use Rattle.model.specs.Automata.{Along, Transition, label}
use Rattle.model.specs.Lists.{Each, sum_over}
use Rattle.model.specs.Log.{Candidate, Record, added_record, additions, collect, initial_candidate, initial_record, log_at, no_record, record_at, steps_cap}
use Rattle.model.specs.Saturation.{added}
use Rattle.model.specs.Systems.{InAutomaton, Rule, System}
use Rattle.model.proofs.Collecting.{Reasoned, additions_reasoned, each_collect, log_at_suc}
use Rattle.model.proofs.Emission.{Counted, Earlier}
use Rattle.model.proofs.Lists.{each_less, each_map, each_mem, each_of_map}
use Rattle.model.proofs.Soundness.{Reason, Valid, transitions_at}

pub each_at : (Q : Record → Type 0) (log : List Record) → Each Q log → (n : ℕ) → n < length log → Q (record_at log n)
each_at Q [] e n h = absurd (not-suc-le-zero h)
each_at Q (r ∷ log) e zero h = e.0
each_at Q (r ∷ log) e (suc n) h = each_at Q log e.1 n (omega arith)

-- a record of a log that grew is one of the old log, or a new one
pub record Old (log more : List Record) (n : ℕ) : Type 0 where
  pub below : n < length log
  pub same : record_at (log ++ more) n ≡ record_at log n

pub record Young (Q : Candidate → Type 0) (log more : List Record) (f : Candidate → Record) (n : ℕ) : Type 0 where
  pub above : length log ≤ n
  pub cand : Candidate
  pub good : Q cand
  pub same : record_at (log ++ more) n ≡ f cand

pub old_or_young : (Q : Candidate → Type 0) (f : Candidate → Record) (log : List Record) (cs : List Candidate) → Each Q cs → (n : ℕ) → n < length (log ++ map f cs)
    → Old log (map f cs) n ⊎ Young Q log (map f cs) f n
old_or_young Q f [] [] e n h = absurd (not-suc-le-zero h)
old_or_young Q f [] (c ∷ cs) e zero h = inr (record { above = omega arith; cand = c; good = e.0; same = refl })
old_or_young Q f [] (c ∷ cs) e (suc n) h = ⊎_elim
    (λ o. absurd (not-suc-le-zero o.below))
    (λ y. inr (record { above = omega arith; cand = y.cand; good = y.good; same = y.same }))
    (old_or_young Q f [] cs e.1 n (omega arith))
old_or_young Q f (r ∷ log) cs e zero h = inl (record { below = omega arith; same = refl })
old_or_young Q f (r ∷ log) cs e (suc n) h = ⊎_elim
    (λ o. inl (record { below = omega (arith, o.below); same = o.same }))
    (λ y. inr (record { above = omega (arith, y.above); cand = y.cand; good = y.good; same = y.same }))
    (old_or_young Q f log cs e n (omega arith))

pub transitions_at_grow : (log more : List Record) (ns : List ℕ) → Each (λ (n : ℕ). n < length log) ns → transitions_at (log ++ more) ns ≡ transitions_at log ns
transitions_at_grow log more [] e = refl
transitions_at_grow log more (n ∷ ns) e =
    ap₂ (λ (t : Transition) (ts : List Transition). t ∷ ts) (ap (λ (r : Record). r.key) (get_or-append log more no_record n e.0)) (transitions_at_grow log more ns e.1)

steps_grow : (log more : List Record) (ns : List ℕ) → Each (λ (n : ℕ). n < length log) ns → sum_over (λ m. (record_at (log ++ more) m).steps) ns ≡ sum_over (λ m. (record_at log m).steps) ns
steps_grow log more [] e = refl
steps_grow log more (n ∷ ns) e = ap₂ ◌+◌ (ap (λ (r : Record). r.steps) (get_or-append log more no_record n e.0)) (steps_grow log more ns e.1)

-- what a reason asks, of the record itself
pub record ReasonOf (sys : System) (log : List Record) (n : ℕ) (x : Record) : Type 0 where
  pub rule : Rule
  pub is : get_elem? sys.rules x.rule ≡ some rule
  pub end : Group
  pub earlier : Each (λ (m : ℕ). m < n) x.path
  pub reads : label (transitions_at log x.path) ≡ rule.written
  pub along : Along sys.loc rule.after (transitions_at log x.path) end
  pub key_is : x.key ≡ added sys.loc rule end

to_reason : (sys : System) (log : List Record) (n : ℕ) → ReasonOf sys log n (record_at log n) → Reason sys log n
to_reason sys log n ρ = record { rule = ρ.rule; is = ρ.is; end = ρ.end; earlier = ρ.earlier; reads = ρ.reads; along = ρ.along; key_is = ρ.key_is }

reason_old : (sys : System) (log more : List Record) (n : ℕ) → n < length log → Reason sys log n → ReasonOf sys (log ++ more) n (record_at log n)
reason_old sys log more n h ρ =
    let same : transitions_at (log ++ more) (record_at log n).path ≡ transitions_at log (record_at log n).path = transitions_at_grow log more (record_at log n).path (each_less n (length log) (record_at log n).path (omega arith) ρ.earlier) in
    record {
      rule = ρ.rule;
      is = ρ.is;
      end = ρ.end;
      earlier = ρ.earlier;
      reads = ap label same ∙ ρ.reads;
      along = subst (λ (l : List Transition). Along sys.loc ρ.rule.after l ρ.end) (sym same) ρ.along;
      key_is = ρ.key_is;
    }

reason_young : (sys : System) (log more : List Record) (k n : ℕ) (c : Candidate) → length log ≤ n → Reasoned sys log c → ReasonOf sys (log ++ more) n (added_record k log c)
reason_young sys log more k n c h ρ =
    let same : transitions_at (log ++ more) c.path ≡ transitions_at log c.path = transitions_at_grow log more c.path ρ.is_path.inside in
    record {
      rule = ρ.rule;
      is = ρ.is;
      end = ρ.end;
      earlier = each_less (length log) n c.path h ρ.is_path.inside;
      reads = ap label same ∙ ρ.is_path.reads;
      along = subst (λ (l : List Transition). Along sys.loc ρ.rule.after l ρ.end) (sym same) ρ.is_path.along;
      key_is = ρ.key_is;
    }

valid_grow : (sys : System) (P : Transition → Type 0) (log : List Record) (k : ℕ) (cs : List Candidate) → Each (Reasoned sys log) cs → Valid sys P log → Valid sys P (log ++ map (added_record (suc k) log) cs)
valid_grow sys P log k cs e v = record { base = base; made = made }
  where
    base : (n : ℕ) → n < length (log ++ map (added_record (suc k) log) cs) → (record_at (log ++ map (added_record (suc k) log) cs) n).round ≡ 0 → P (record_at (log ++ map (added_record (suc k) log) cs) n).key
    base n h z = ⊎_elim
        (λ o. rw o.same (v.base n o.below (rw o.same at z)))
        (λ y. absurd (let bad : suc k ≡ 0 = sym (ap (λ (r : Record). r.round) y.same) ∙ z in omega arith))
        (old_or_young (Reasoned sys log) (added_record (suc k) log) log cs e n h)

    made : (n : ℕ) → n < length (log ++ map (added_record (suc k) log) cs) → 0 < (record_at (log ++ map (added_record (suc k) log) cs) n).round → Reason sys (log ++ map (added_record (suc k) log) cs) n
    made n h z = to_reason sys (log ++ map (added_record (suc k) log) cs) n (⊎_elim
        (λ o. rw o.same (reason_old sys log (map (added_record (suc k) log) cs) n o.below (v.made n o.below (rw o.same at z))))
        (λ y. rw y.same (reason_young sys log (map (added_record (suc k) log) cs) (suc k) n y.cand y.above y.good))
        (old_or_young (Reasoned sys log) (added_record (suc k) log) log cs e n h))

counted_grow : (sys : System) (log : List Record) (k : ℕ) (cs : List Candidate) → Each (Reasoned sys log) cs → Earlier log → Counted log → Counted (log ++ map (added_record (suc k) log) cs)
counted_grow sys log k cs e early cnt n h = ⊎_elim
    (λ o. rw o.same (
      (cnt n o.below).0,
      λ z. (cnt n o.below).1 z
          ∙ ap (λ (m : ℕ). min (1 + m) steps_cap)
          (sym (steps_grow log (map (added_record (suc k) log) cs) (record_at log n).path (each_less n (length log) (record_at log n).path (omega (arith, o.below)) (early n o.below z)))),
    ))
    (λ y. rw y.same (
      (λ z. absurd (omega arith)),
      λ z. ap (λ (m : ℕ). min (1 + m) steps_cap) (sym (steps_grow log (map (added_record (suc k) log) cs) y.cand.path y.good.is_path.inside)),
    ))
    (old_or_young (Reasoned sys log) (added_record (suc k) log) log cs e n h)

-- ---- round 0
pub initial_each : (sys : System) → Each (λ (c : Candidate). Memᴰ c.key sys.transitions) (collect [] (map initial_candidate sys.transitions) [])
initial_each sys = each_collect (λ (c : Candidate). Memᴰ c.key sys.transitions) [] (map initial_candidate sys.transitions) []
    (each_of_map (λ (c : Candidate). Memᴰ c.key sys.transitions) initial_candidate sys.transitions (each_mem sys.transitions)) tt

pub zero_round : (sys : System) (n : ℕ) → n < length (log_at sys 0) → ((record_at (log_at sys 0) n).round ≡ 0) × ((record_at (log_at sys 0) n).steps ≡ 0) × InAutomaton sys (record_at (log_at sys 0) n).key
unfolding log_at
zero_round sys n h =
    each_at (λ (r : Record). (r.round ≡ 0) × (r.steps ≡ 0) × Memᴰ r.key sys.transitions) (log_at sys 0)
    (each_of_map (λ (r : Record). (r.round ≡ 0) × (r.steps ≡ 0) × Memᴰ r.key sys.transitions) initial_record (collect [] (map initial_candidate sys.transitions) [])
    (each_map (λ (c : Candidate). Memᴰ c.key sys.transitions) (λ (c : Candidate). ((initial_record c).round ≡ 0) × ((initial_record c).steps ≡ 0) × Memᴰ (initial_record c).key sys.transitions)
    (λ c m. (refl, refl, m)) (collect [] (map initial_candidate sys.transitions) []) (initial_each sys)))
    n h

-- ---- every round
-- (each case a lemma of its own: antt confirms a clause's right side a second time, and these are dear to confirm inside a recursion)
valid_zero : (sys : System) → Valid sys (InAutomaton sys) (log_at sys 0)
valid_zero sys = record { base = λ n h z. (zero_round sys n h).2; made = λ n h z. absurd (omega (arith, (zero_round sys n h).0)) }

valid_suc : (sys : System) (k : ℕ) → Valid sys (InAutomaton sys) (log_at sys k) → Valid sys (InAutomaton sys) (log_at sys (suc k))
valid_suc sys k v = rw (log_at_suc sys k) (valid_grow sys (InAutomaton sys) (log_at sys k) k (additions sys (log_at sys k)) (additions_reasoned sys (log_at sys k)) v)

pub log_valid : (sys : System) (k : ℕ) → Valid sys (InAutomaton sys) (log_at sys k)
log_valid sys zero = valid_zero sys
log_valid sys (suc k) = valid_suc sys k (log_valid sys k)

pub log_earlier : (sys : System) (k : ℕ) → Earlier (log_at sys k)
log_earlier sys k n h z = ((log_valid sys k).made n h z).earlier

counted_zero : (sys : System) → Counted (log_at sys 0)
counted_zero sys n h = ((λ z. (zero_round sys n h).1), λ z. absurd (omega (arith, (zero_round sys n h).0)))

counted_suc : (sys : System) (k : ℕ) → Counted (log_at sys k) → Counted (log_at sys (suc k))
counted_suc sys k c = rw (log_at_suc sys k) (counted_grow sys (log_at sys k) k (additions sys (log_at sys k)) (additions_reasoned sys (log_at sys k)) (log_earlier sys k) c)

pub log_counted : (sys : System) (k : ℕ) → Counted (log_at sys k)
log_counted sys zero = counted_zero sys
log_counted sys (suc k) = counted_suc sys k (log_counted sys k)
