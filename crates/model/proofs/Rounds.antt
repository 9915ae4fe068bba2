-- Rounds: the paper's sets of transitions, the round of a record, the order of the log, the last round.
use mathlib.Core.Path.{◌∙◌, ◌≡◌, ap, refl, subst, sym, ap₂}
use mathlib.Core.Bool.{false, true≢false, Bool, true}
use mathlib.Core.Logic.{◌≢◌, ◌⊎◌, inl, inr, ⊎_elim}
use mathlib.Core.List.Memᴰ
use mathlib.Core.List.{List, Memᴰ, [], ◌++◌, ◌∷◌, append_assoc, append-nil, map}
use Prim.Native.Nat.{◌+◌, ◌<◌, ◌≤◌, suc, zero, zero-le, ℕ}
use native.Mathlib.Omega.{arith}
use native.Mathlib.Nat.{add_comm, le_antisymm, le_refl, not-suc-le-zero}
use lib.Dec.{eqb, leb}
use lib.ListN.{length, length-append}
use borrow.Author.Tests.{eqb-false, eqb-true, le-leb, lt-leb}
use Rattle.model.specs.Automata.{Transition}
use Rattle.model.specs.Lists.{Each, is_empty, filter}
use Rattle.model.specs.Log.{Candidate, Record, added_record, additions, collect, first_saturated, in_log, initial_candidate, initial_record, key_bound, keys, limit, log_at, record_at, rounds, saturated_at}
use Rattle.model.specs.Saturation.{Added, Delta}
use Rattle.model.specs.Systems.{InAutomaton, System}
use Rattle.model.proofs.Collecting.{Held, Reasoned, additions_reasoned, candidate_keys, in_log_of, keys_suc, log_saturates, log_at_suc}
use Rattle.model.proofs.Limit.{ByteSystem, length_suc, limit_saturated, saturated_later, saturated_now}
use Rattle.model.proofs.Lists.{each_append, each_get, each_map, each_of_map, is_empty_false, mem_each, each_any, filter_all, filter_append, filter_none}
use Rattle.model.proofs.Order.{Less, Sorted, additions_fresh, additions_sorted, collect_sorted, each_candidate_keys}
use Rattle.model.proofs.Reachability.{initial_held, keys_initial, limit_log}
use Rattle.model.proofs.Soundness.{transitions_at}
use Rattle.model.proofs.Tests.{by_test}
use Rattle.model.proofs.Validity.{initial_each}

added_map : (sys : System) (D E : Transition → Type 0) → ((t : Transition) → D t → E t) → (t : Transition) → Added sys D t → Added sys E t
added_map sys D E f t a = record { number = a.number; rule = a.rule; is = a.is; path = a.path; goods = each_map D E f a.path a.goods; reads = a.reads; end = a.end; along = a.along; makes = a.makes }

held_added : (sys : System) (k : ℕ) (t : Transition) → Added sys (Held sys k) t → Held sys (suc k) t
held_added sys k t a = Memᴰ.cast a.makes ((log_saturates sys).adds k a.number a.rule a.is a.path a.end a.goods a.reads a.along)

pub each_transitions_at_held : (log : List Record) (ns : List ℕ) → Each (λ (n : ℕ). n < length log) ns → Each (λ (t : Transition). Memᴰ t (keys log)) (transitions_at log ns)
each_transitions_at_held log [] e = tt
each_transitions_at_held log (n ∷ ns) e = (mem_key log n e.0, each_transitions_at_held log ns e.1)
  where
    mem_key : (log : List Record) (n : ℕ) → n < length log → Memᴰ (record_at log n).key (keys log)
    mem_key [] n h = absurd (not-suc-le-zero h)
    mem_key (r ∷ log) zero h = Memᴰ.head refl
    mem_key (r ∷ log) (suc n) h = Memᴰ.tail (mem_key log n (omega arith))

added_held : (sys : System) (k : ℕ) (t : Transition) → Memᴰ t (candidate_keys (additions sys (log_at sys k))) → Added sys (Held sys k) t
added_held sys k t m =
    let c = Memᴰ.of_map (λ (c : Candidate). c.key) (additions sys (log_at sys k)) m in
    let ρ = each_get (Reasoned sys (log_at sys k)) c.0 (additions sys (log_at sys k)) (additions_reasoned sys (log_at sys k)) c.1 in
    record {
      number = c.0.rule;
      rule = ρ.rule;
      is = ρ.is;
      path = transitions_at (log_at sys k) c.0.path;
      goods = each_transitions_at_held (log_at sys k) c.0.path ρ.is_path.inside;
      reads = ρ.is_path.reads;
      end = ρ.end;
      along = ρ.is_path.along;
      makes = sym c.2 ∙ ρ.key_is;
    }

held_split : (sys : System) (k : ℕ) (t : Transition) → Held sys (suc k) t → Held sys k t ⊎ Added sys (Held sys k) t
held_split sys k t m = ⊎_elim (λ o. inl o) (λ y. inr (added_held sys k t y)) (Memᴰ.append_cases (keys (log_at sys k)) (rw (keys_suc sys k) at m))

held_zero : (sys : System) (t : Transition) → Held sys 0 t → InAutomaton sys t
unfolding log_at
held_zero sys t m =
    each_get (InAutomaton sys) t (candidate_keys (collect [] (map initial_candidate sys.transitions) [])) (each_candidate_keys (InAutomaton sys) (collect [] (map initial_candidate sys.transitions) []) (initial_each sys)) (rw keys_initial at m)

-- the log of round k holds the paper's δ(k), no more and no less
pub held_delta : (sys : System) (k : ℕ) (t : Transition) → Held sys k t → Delta sys k t
held_delta sys zero t m = held_zero sys t m
held_delta sys (suc k) t m = ⊎_elim (λ o. inl (held_delta sys k t o)) (λ a. inr (added_map sys (Held sys k) (Delta sys k) (held_delta sys k) t a)) (held_split sys k t m)

pub delta_held : (sys : System) (k : ℕ) (t : Transition) → Delta sys k t → Held sys k t
delta_held sys zero t m = initial_held sys t m
delta_held sys (suc k) t m = ⊎_elim (λ o. (log_saturates sys).grows k t (delta_held sys k t o)) (λ a. held_added sys k t (added_map sys (Delta sys k) (Held sys k) (delta_held sys k) t a)) m

-- ---- the round of a record is the first that holds its key
pub record FirstHeld (sys : System) (k : ℕ) (x : Record) : Type 0 where
  pub within : x.round ≤ k
  pub held : Held sys x.round x.key
  pub not_before : (j : ℕ) → suc j ≡ x.round → Held sys j x.key → ⊥

first_old : (sys : System) (k : ℕ) (x : Record) → FirstHeld sys k x → FirstHeld sys (suc k) x
first_old sys k x f = record { within = omega (arith, f.within); held = f.held; not_before = f.not_before }

fresh_key : (sys : System) (k : ℕ) (c : Candidate) → in_log c.key (log_at sys k) ≡ false → Held sys k c.key → ⊥
fresh_key sys k c n m = true≢false (sym (in_log_of c.key (log_at sys k) m) ∙ n)

first_young : (sys : System) (k : ℕ) (c : Candidate) → Memᴰ c (additions sys (log_at sys k)) → in_log c.key (log_at sys k) ≡ false → FirstHeld sys (suc k) (added_record (suc k) (log_at sys k) c)
first_young sys k c m n = record {
  within = omega arith;
  held = rw (keys_suc sys k) (Memᴰ.append_right (keys (log_at sys k)) (Memᴰ.map (λ (d : Candidate). d.key) m));
  not_before = λ j e h. fresh_key sys k c n (subst (λ (i : ℕ). Held sys i c.key) (omega arith) h);
}

each_first_zero : (sys : System) → Each (FirstHeld sys 0) (log_at sys 0)
unfolding log_at
each_first_zero sys = mem_each (log_at sys 0) (FirstHeld sys 0) (λ x m. one x m (zero_all x m))
  where
    zero_all : (x : Record) → Memᴰ x (log_at sys 0) → x.round ≡ 0
    zero_all x m = each_get (λ (r : Record). r.round ≡ 0) x (log_at sys 0) (each_of_map (λ (r : Record). r.round ≡ 0) initial_record (collect [] (map initial_candidate sys.transitions) []) (mem_each (collect [] (map initial_candidate sys.transitions) []) (λ (c : Candidate). ◌≡◌ {A = ℕ} 0 0) (λ c i. refl))) m

    one : (x : Record) → Memᴰ x (log_at sys 0) → x.round ≡ 0 → FirstHeld sys 0 x
    one x m z = record { within = omega arith; held = rw z (Memᴰ.map (λ (r : Record). r.key) m); not_before = λ j e h. absurd (omega arith) }

each_first_suc : (sys : System) (k : ℕ) → Each (FirstHeld sys k) (log_at sys k) → Each (FirstHeld sys (suc k)) (log_at sys (suc k))
each_first_suc sys k e = rw (log_at_suc sys k) (each_append (FirstHeld sys (suc k)) (log_at sys k) (map (added_record (suc k) (log_at sys k)) (additions sys (log_at sys k)))
    (each_map (FirstHeld sys k) (FirstHeld sys (suc k)) (first_old sys k) (log_at sys k) e)
    (each_of_map (FirstHeld sys (suc k)) (added_record (suc k) (log_at sys k)) (additions sys (log_at sys k))
    (mem_each (additions sys (log_at sys k)) (λ (c : Candidate). FirstHeld sys (suc k) (added_record (suc k) (log_at sys k) c))
    (λ c m. first_young sys k c m (each_get (λ (d : Candidate). in_log d.key (log_at sys k) ≡ false) c (additions sys (log_at sys k)) (additions_fresh sys (log_at sys k)) m)))))

pub each_first : (sys : System) (k : ℕ) → Each (FirstHeld sys k) (log_at sys k)
each_first sys zero = each_first_zero sys
each_first sys (suc k) = each_first_suc sys k (each_first sys k)

-- ---- records are ordered by round, and then by key
abbrev pub Before : Record → Record → Type 0
Before x y = (x.round < y.round) ⊎ ((x.round ≡ y.round) × Less x.key y.key)

abbrev pub Ordered : List Record → Type 0
Ordered [] = Unit {0}
Ordered (x ∷ xs) = Each (Before x) xs × Ordered xs

ordered_append : (xs ys : List Record) → Ordered xs → Ordered ys → Each (λ (x : Record). Each (Before x) ys) xs → Ordered (xs ++ ys)
ordered_append [] ys p q e = q
ordered_append (x ∷ xs) ys p q e = (each_append (Before x) xs ys p.0 e.0, ordered_append xs ys p.1 q e.1)

ordered_map : (f : Candidate → Record) (r : ℕ) → ((c : Candidate) → (f c).round ≡ r) → ((c : Candidate) → (f c).key ≡ c.key) → (cs : List Candidate) → Sorted cs → Ordered (map f cs)
ordered_map f r p q [] s = tt
ordered_map f r p q (c ∷ cs) s = (
  each_of_map (Before (f c)) f cs (each_map (λ (d : Candidate). Less c.key d.key) (λ (d : Candidate). Before (f c) (f d))
      (λ d l. inr (p c ∙ sym (p d), rw (q c, q d) l)) cs s.0),
  ordered_map f r p q cs s.1,
)

ordered_zero : (sys : System) → Ordered (log_at sys 0)
unfolding log_at
ordered_zero sys = ordered_map initial_record 0 (λ c. refl) (λ c. refl) (collect [] (map initial_candidate sys.transitions) []) (collect_sorted [] (map initial_candidate sys.transitions) [] tt)

ordered_suc : (sys : System) (k : ℕ) → Ordered (log_at sys k) → Ordered (log_at sys (suc k))
ordered_suc sys k o = rw (log_at_suc sys k) (ordered_append (log_at sys k) (map (added_record (suc k) (log_at sys k)) (additions sys (log_at sys k))) o
    (ordered_map (added_record (suc k) (log_at sys k)) (suc k) (λ c. refl) (λ c. refl) (additions sys (log_at sys k)) (additions_sorted sys (log_at sys k)))
    (each_map (FirstHeld sys k) (λ (x : Record). Each (Before x) (map (added_record (suc k) (log_at sys k)) (additions sys (log_at sys k))))
    (λ x f. each_of_map (Before x) (added_record (suc k) (log_at sys k)) (additions sys (log_at sys k)) (mem_each (additions sys (log_at sys k)) (λ (c : Candidate). Before x (added_record (suc k) (log_at sys k) c)) (λ c m. inl (omega (arith, f.within)))))
    (log_at sys k) (each_first sys k)))

pub log_ordered : (sys : System) (k : ℕ) → Ordered (log_at sys k)
log_ordered sys zero = ordered_zero sys
log_ordered sys (suc k) = ordered_suc sys k (log_ordered sys k)

-- ---- the rounds before the limit each add something
saturated_least : (sys : System) (f k j : ℕ) → k ≤ j → j < first_saturated sys f k → is_empty (additions sys (log_at sys j)) ≡ false
saturated_least sys zero k j h l = absurd (omega (arith, saturated_zero))
  where
    saturated_zero : first_saturated sys 0 k ≡ k
    saturated_zero = unfold first_saturated in refl
saturated_least sys (suc f) k j h l = by_test (is_empty (additions sys (log_at sys k)))
    (λ t. absurd (omega (arith, saturated_now sys f k t)))
    (λ n. by_test (eqb k j)
    (λ y. subst (λ (i : ℕ). is_empty (additions sys (log_at sys i)) ≡ false) (eqb-true k j y) n)
    (λ m. saturated_least sys f (suc k) j (let ne : k ≢ j = eqb-false k j m in omega arith) (omega (arith, saturated_later sys f k n))))

pub before_saturated : (sys : System) (j : ℕ) → j < saturated_at sys → 0 < length (additions sys (log_at sys j))
unfolding saturated_at
before_saturated sys j l = is_empty_false (additions sys (log_at sys j)) (saturated_least sys (key_bound + 1) 0 j zero-le l)

-- `rounds` is the highest round held, 0 if none: no record is of a higher one, and where it is not 0 some record is of it
pub rounds_most : (sys : System) → Each (λ (x : Record). x.round ≤ saturated_at sys) (log_at sys (saturated_at sys))
rounds_most sys = each_map (FirstHeld sys (saturated_at sys)) (λ (x : Record). x.round ≤ saturated_at sys) (λ x f. f.within) (log_at sys (saturated_at sys)) (each_first sys (saturated_at sys))

head_of : (cs : List Candidate) → 0 < length cs → (c : Candidate) × Memᴰ c cs
head_of [] h = absurd (not-suc-le-zero h)
head_of (c ∷ cs) h = (c, Memᴰ.head refl)

has_round : (sys : System) (k : ℕ) → 0 < length (additions sys (log_at sys k)) → (x : Record) × Memᴰ x (log_at sys (suc k)) × (x.round ≡ suc k)
has_round sys k h =
    let c = head_of (additions sys (log_at sys k)) h in
    (added_record (suc k) (log_at sys k) c.0, rw (log_at_suc sys k) (Memᴰ.append_right (log_at sys k) (Memᴰ.map (added_record (suc k) (log_at sys k)) c.1)), refl)

pub rounds_held : (sys : System) (k : ℕ) → saturated_at sys ≡ suc k → (x : Record) × Memᴰ x (log_at sys (saturated_at sys)) × (x.round ≡ saturated_at sys)
rounds_held sys k e = subst (λ (r : ℕ). (x : Record) × Memᴰ x (log_at sys r) × (x.round ≡ r)) (sym e) (has_round sys k (before_saturated sys k (subst (λ (r : ℕ). k < r) (sym e) (le_refl (suc k)))))

-- ---- the log only grows
pub log_prefix : (sys : System) (d k : ℕ) → (more : List Record) × (log_at sys (d + k) ≡ log_at sys k ++ more)
log_prefix sys zero k = ([], ap (log_at sys) (omega arith) ∙ sym (append-nil (log_at sys k)))
log_prefix sys (suc d) k =
    let p = log_prefix sys d k in
    let last : List Record = map (added_record (suc (d + k)) (log_at sys (d + k))) (additions sys (log_at sys (d + k))) in
    (p.0 ++ last, ap (log_at sys) (omega arith) ∙ log_at_suc sys (d + k) ∙ ap (λ (l : List Record). l ++ last) p.1 ∙ append_assoc (log_at sys k) p.0 last)

pub log_longer_later : (sys : System) (d k : ℕ) → length (log_at sys k) ≤ length (log_at sys (d + k))
log_longer_later sys d k = let p = log_prefix sys d k in omega (arith, ap length p.1, length-append (log_at sys k) p.0)

-- each round up to the limit adds a record, so there are at least as many records as rounds
longer : (sys : System) (k : ℕ) → k ≤ saturated_at sys → k ≤ length (log_at sys k)
longer sys zero h = zero-le
longer sys (suc k) h = omega (arith, longer sys k (omega arith), length_suc sys k, before_saturated sys k h)

pub rounds_short : (sys : System) → saturated_at sys ≤ length (log_at sys (saturated_at sys))
rounds_short sys = longer sys (saturated_at sys) (le_refl (saturated_at sys))

-- ---- `rounds`, the highest round held, is the last round that adds something
rounds_below : (m : ℕ) (log : List Record) → Each (λ (x : Record). x.round ≤ m) log → rounds log ≤ m
rounds_below m [] e = zero-le
rounds_below m (x ∷ log) e = let here : x.round ≤ m = e.0 in let there : rounds log ≤ m = rounds_below m log e.1 in omega arith

rounds_above : (x : Record) (log : List Record) → Memᴰ x log → x.round ≤ rounds log
rounds_above x [] m = absurd (Memᴰ.not-nil m)
rounds_above x (y ∷ log) m = ⊎_elim
    (λ (e : x ≡ y). let same : x.round ≡ y.round = ap (λ (r : Record). r.round) e in omega arith)
    (λ (m' : Memᴰ x log). let below : x.round ≤ rounds log = rounds_above x log m' in omega arith)
    (Memᴰ.cases_cons m)

pub rounds_limit : (sys : System) → rounds (limit sys) ≡ saturated_at sys
rounds_limit sys = le_antisymm (rounds_below (saturated_at sys) (limit sys) (rounds_most sys)) (low (saturated_at sys) refl)
  where
    low : (k : ℕ) → saturated_at sys ≡ k → saturated_at sys ≤ rounds (limit sys)
    low zero e = subst (λ (n : ℕ). n ≤ rounds (limit sys)) (sym e) zero-le
    low (suc k) e = let x = rounds_held sys k e in subst (λ (n : ℕ). n ≤ rounds (limit sys)) x.2 (rounds_above x.0 (limit sys) x.1)

-- no log of any round is longer than the limit
pub limit_longest : (sys : System) → ByteSystem sys → (j : ℕ) → length (log_at sys j) ≤ length (log_at sys (saturated_at sys))
limit_longest sys by j =
    let grown : length (log_at sys j) ≤ length (log_at sys (saturated_at sys + j)) = log_longer_later sys (saturated_at sys) j in
    let same : length (log_at sys (saturated_at sys + j)) ≡ length (log_at sys (saturated_at sys)) = ap (λ (k : ℕ). length (log_at sys k)) (add_comm (saturated_at sys) j) ∙ ap length (limit_log sys (saturated_at sys) j (limit_saturated sys by)) in
    omega arith

-- ---- the records of rounds up to k are those of any later log whose round is at most k
pub records_up_to : (sys : System) (d k : ℕ) → filter (λ (r : Record). leb r.round k) (log_at sys (d + k)) ≡ log_at sys k
records_up_to sys zero k = ap (λ (n : ℕ). filter (λ (r : Record). leb r.round k) (log_at sys n)) (let e : 0 + k ≡ k = omega arith in e)
    ∙ filter_all (λ (r : Record). leb r.round k) (log_at sys k) (each_map (FirstHeld sys k) (λ (r : Record). leb r.round k ≡ true) (λ r f. le-leb r.round k f.within) (log_at sys k) (each_first sys k))
records_up_to sys (suc d) k =
    let early : Record → Bool = λ (r : Record). leb r.round k in
    let young = map (added_record (suc (d + k)) (log_at sys (d + k))) (additions sys (log_at sys (d + k))) in
    ap (λ (n : ℕ). filter early (log_at sys n)) (let e : suc d + k ≡ suc (d + k) = omega arith in e)
    ∙ ap (filter early) (log_at_suc sys (d + k))
    ∙ filter_append early (log_at sys (d + k)) young
    ∙ ap₂ (λ (a b : List Record). a ++ b) (records_up_to sys d k)
    (filter_none early young (each_of_map (λ (r : Record). early r ≡ false) (added_record (suc (d + k)) (log_at sys (d + k))) (additions sys (log_at sys (d + k)))
    (each_any (λ (c : Candidate). leb (suc (d + k)) k ≡ false) (λ c. lt-leb (suc (d + k)) k (omega arith)) (additions sys (log_at sys (d + k))))))
    ∙ append-nil (log_at sys k)
