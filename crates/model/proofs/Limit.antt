-- Saturation ends: the log's keys are distinct and of bytes, so there are at most 256 ^ 9 of them.
use mathlib.Core.Path.{◌∙◌, ◌≡◌, ap, ap₂, refl, subst}
use mathlib.Core.Bool.{false, true}
use mathlib.Core.Logic.{⊎_elim}
use mathlib.Core.Option.{some}
use mathlib.Core.List.Memᴰ
use mathlib.Core.List.{List, Memᴰ, [], ◌∷◌, map}
use Prim.Native.Nat.{◌*◌, ◌+◌, ◌<◌, ◌^◌, ◌≤◌, suc, zero, ℕ}
use native.Mathlib.Omega.{arith}
use native.Mathlib.Nat.{mul_assoc, mul_comm, mul-one, pow-suc}
use lib.Dec.{lit<}
use lib.ListN.{get_elem?, length, length-append, length-map}
use Rattle.model.specs.declared.Group.{Group}
use Rattle.model.specs.Automata.{Along, Transition, move}
use Rattle.model.specs.Groups.{Process, Processes, at, has, merge, p0, p1, p2, p3, restrict}
use Rattle.model.specs.Lists.{Each, is_empty}
use Rattle.model.specs.Log.{Candidate, Record, added_record, additions, collect, first_saturated, initial_candidate, key_bound, key_digits, keys, log_at, saturated_at}
use Rattle.model.specs.Systems.{InAutomaton, Rule, System}
use Rattle.model.proofs.Collecting.{Reasoned, additions_reasoned, candidate_keys, keys_suc, log_at_suc}
use Rattle.model.proofs.Groups.{at_merge, at_restrict}
use Rattle.model.proofs.Lists.{Distinct, each_append, each_map, is_empty_false, is_empty_true, pigeonhole}
use Rattle.model.proofs.Order.{each_candidate_keys, key_digits_inj, log_distinct}
use Rattle.model.proofs.Reachability.{Saturated, keys_initial}
use Rattle.model.proofs.Soundness.{transitions_at}
use Rattle.model.proofs.Tests.{by_test, cond_less}
use Rattle.model.proofs.Validity.{each_at, initial_each}

-- ---- a key as a number
abbrev pub horner : ℕ → List ℕ → ℕ
horner a [] = a
horner a (d ∷ ds) = horner (a * 256 + d) ds

abbrev Bytes : List ℕ → Type 0
Bytes ds = Each (λ (d : ℕ). d < 256) ds

horner_inj : (a b : ℕ) (xs ys : List ℕ) → length xs ≡ length ys → Bytes xs → Bytes ys → horner a xs ≡ horner b ys → (a ≡ b) × (xs ≡ ys)
horner_inj a b [] [] l p q e = (e, refl)
horner_inj a b [] (y ∷ ys) l p q e = absurd (omega arith)
horner_inj a b (x ∷ xs) [] l p q e = absurd (omega arith)
horner_inj a b (x ∷ xs) (y ∷ ys) l p q e =
    let r = horner_inj (a * 256 + x) (b * 256 + y) xs ys (omega arith) p.1 q.1 e in
    let top : a * 256 + x ≡ b * 256 + y = r.0 in
    let px : x < 256 = p.0 in
    let py : y < 256 = q.0 in
    let ab : a ≡ b = omega arith in
    let xy : x ≡ y = omega arith in
    (ab, ap₂ (λ (d : ℕ) (ds : List ℕ). d ∷ ds) xy r.1)

horner_below : (a c : ℕ) (xs : List ℕ) → a < c → Bytes xs → horner a xs < c * 256 ^ length xs
horner_below a c [] h p = rw mul-one h
horner_below a c (x ∷ xs) h p =
    let px : x < 256 = p.0 in
    let below : horner (a * 256 + x) xs < c * 256 * 256 ^ length xs = horner_below (a * 256 + x) (c * 256) xs (omega arith) p.1 in
    rw (pow-suc, mul_comm (256 ^ length xs) 256, ← mul_assoc) below

unfoldable pub code : Transition → ℕ
code t = horner 0 (key_digits t)

-- ---- bytes
abbrev pub ByteGroup : Group → Type 0
ByteGroup g = (i : Process) → at g i < 256

pub record ByteTransition (t : Transition) : Type 0 where
  pub letter : t.letter < 256
  pub before : ByteGroup t.before
  pub after : ByteGroup t.after

key_digits_bytes : (t : Transition) → ByteTransition t → Bytes (key_digits t)
key_digits_bytes t s = (s.letter, (s.before p0, (s.before p1, (s.before p2, (s.before p3, (s.after p0, (s.after p1, (s.after p2, (s.after p3, tt)))))))))

code_inj : (t u : Transition) → ByteTransition t → ByteTransition u → code t ≡ code u → t ≡ u
unfolding code
code_inj t u s r e = key_digits_inj t u (horner_inj 0 0 (key_digits t) (key_digits u) refl (key_digits_bytes t s) (key_digits_bytes u r) e).1

code_below : (t : Transition) → ByteTransition t → code t < key_bound
unfolding code
code_below t s = horner_below 0 1 (key_digits t) (omega arith) (key_digits_bytes t s)

-- ---- the log's keys are of bytes
pub record ByteSystem (sys : System) : Type 0 where
  pub rules : (n : ℕ) (r : Rule) → get_elem? sys.rules n ≡ some r → ByteTransition (record { letter = r.letter; before = r.before; after = r.after })
  pub automaton : (t : Transition) → InAutomaton sys t → ByteTransition t

merge_byte : (L : Processes) (x g : Group) → ByteGroup x → ByteGroup g → ByteGroup (merge L x g)
merge_byte L x g p q i = rw at_merge (cond_less (has L i) (at x i) (at g i) 256 (λ m. p i) (q i))

restrict_byte : (L : Processes) (g : Group) → ByteGroup g → ByteGroup (restrict L g)
restrict_byte L g p i = rw at_restrict (cond_less (has L i) (at g i) 255 256 (λ m. p i) (lit< tt))

along_byte : (loc : ℕ → Processes) (ts : List Transition) (g f : Group) → Each ByteTransition ts → ByteGroup g → Along loc g ts f → ByteGroup f
along_byte loc [] g f e s p = subst ByteGroup p s
along_byte loc (t ∷ ts) g f e s p = along_byte loc ts (move loc t g) f e.1 (merge_byte (loc t.letter) t.after g e.0.after s) p.1

pub each_transitions_at : (P : Transition → Type 0) (log : List Record) (ns : List ℕ) → Each (λ (r : Record). P r.key) log → Each (λ (n : ℕ). n < length log) ns → Each P (transitions_at log ns)
each_transitions_at P log [] e i = tt
each_transitions_at P log (n ∷ ns) e i = (each_at (λ (r : Record). P r.key) log e n i.0, each_transitions_at P log ns e i.1)

pub each_keys : (P : Transition → Type 0) (log : List Record) → Each P (keys log) → Each (λ (r : Record). P r.key) log
each_keys P [] e = tt
each_keys P (r ∷ log) e = (e.0, each_keys P log e.1)

reasoned_bytes : (sys : System) → ByteSystem sys → (log : List Record) → Each ByteTransition (keys log) → (c : Candidate) → Reasoned sys log c → ByteTransition c.key
reasoned_bytes sys by log e c ρ =
    rw ρ.key_is (record {
      letter = (by.rules c.rule ρ.rule ρ.is).letter;
      before = (by.rules c.rule ρ.rule ρ.is).before;
      after = restrict_byte (sys.loc ρ.rule.letter) ρ.end
          (along_byte sys.loc (transitions_at log c.path) ρ.rule.after ρ.end (each_transitions_at ByteTransition log c.path (each_keys ByteTransition log e) ρ.is_path.inside) (by.rules c.rule ρ.rule ρ.is).after ρ.is_path.along);
    })

bytes_zero : (sys : System) → ByteSystem sys → Each ByteTransition (keys (log_at sys 0))
unfolding log_at
bytes_zero sys by = rw keys_initial (each_candidate_keys ByteTransition (collect [] (map initial_candidate sys.transitions) [])
    (each_map (λ (c : Candidate). Memᴰ c.key sys.transitions) (λ (c : Candidate). ByteTransition c.key) (λ c m. by.automaton c.key m) (collect [] (map initial_candidate sys.transitions) []) (initial_each sys)))

bytes_suc : (sys : System) → ByteSystem sys → (k : ℕ) → Each ByteTransition (keys (log_at sys k)) → Each ByteTransition (keys (log_at sys (suc k)))
bytes_suc sys by k e = rw (keys_suc sys k) (each_append ByteTransition (keys (log_at sys k)) (candidate_keys (additions sys (log_at sys k))) e
    (each_candidate_keys ByteTransition (additions sys (log_at sys k)) (each_map (Reasoned sys (log_at sys k)) (λ (c : Candidate). ByteTransition c.key) (reasoned_bytes sys by (log_at sys k) e) (additions sys (log_at sys k)) (additions_reasoned sys (log_at sys k)))))

pub log_bytes_lem : (sys : System) → ByteSystem sys → (k : ℕ) → Each ByteTransition (keys (log_at sys k))
log_bytes_lem sys by zero = bytes_zero sys by
log_bytes_lem sys by (suc k) = bytes_suc sys by k (log_bytes_lem sys by k)

-- ---- at most 256 ^ 9 records
code_mem : (t : Transition) (ts : List Transition) → ByteTransition t → Each ByteTransition ts → Memᴰ (code t) (map code ts) → Memᴰ t ts
code_mem t [] s e m = absurd (Memᴰ.not-nil m)
code_mem t (u ∷ ts) s e m = ⊎_elim (λ q. Memᴰ.head (code_inj t u s e.0 q)) (λ m'. Memᴰ.tail (code_mem t ts s e.1 m')) (Memᴰ.cases_cons m)

codes_distinct : (ts : List Transition) → Each ByteTransition ts → Distinct ts → Distinct (map code ts)
codes_distinct [] e d = tt
codes_distinct (t ∷ ts) e d = ((λ m. d.0 (code_mem t ts e.0 e.1 m)), codes_distinct ts e.1 d.1)

codes_below : (ts : List Transition) → Each ByteTransition ts → Each (λ (n : ℕ). n < key_bound) (map code ts)
codes_below [] e = tt
codes_below (t ∷ ts) e = (code_below t e.0, codes_below ts e.1)

pub log_at_most : (sys : System) → ByteSystem sys → (k : ℕ) → length (log_at sys k) ≤ key_bound
log_at_most sys by k =
    subst (λ (n : ℕ). n ≤ key_bound) (length-map (keys (log_at sys k)) code ∙ length-map (log_at sys k) (λ (r : Record). r.key))
    (pigeonhole key_bound (map code (keys (log_at sys k))) (codes_distinct (keys (log_at sys k)) (log_bytes_lem sys by k) (log_distinct sys k)) (codes_below (keys (log_at sys k)) (log_bytes_lem sys by k)))

pub length_suc : (sys : System) (k : ℕ) → length (log_at sys (suc k)) ≡ length (log_at sys k) + length (additions sys (log_at sys k))
length_suc sys k =
    ap length (log_at_suc sys k)
    ∙ length-append (log_at sys k) (map (added_record (suc k) (log_at sys k)) (additions sys (log_at sys k)))
    ∙ ap (λ (n : ℕ). length (log_at sys k) + n) (length-map (additions sys (log_at sys k)) (added_record (suc k) (log_at sys k)))

log_longer : (sys : System) (k : ℕ) → is_empty (additions sys (log_at sys k)) ≡ false → suc (length (log_at sys k)) ≤ length (log_at sys (suc k))
log_longer sys k e = omega (arith, is_empty_false (additions sys (log_at sys k)) e, length_suc sys k)

pub saturated_now : (sys : System) (f k : ℕ) → is_empty (additions sys (log_at sys k)) ≡ true → first_saturated sys (suc f) k ≡ k
unfolding first_saturated
saturated_now sys f k e = rw (e, first_saturated)

pub saturated_later : (sys : System) (f k : ℕ) → is_empty (additions sys (log_at sys k)) ≡ false → first_saturated sys (suc f) k ≡ first_saturated sys f (suc k)
unfolding first_saturated
saturated_later sys f k e = rw (e, first_saturated)

saturated_limit : (sys : System) → ByteSystem sys → (f k : ℕ) → k ≤ length (log_at sys k) → key_bound < f + k → Saturated sys (first_saturated sys f k)
saturated_limit sys by zero k h l = absurd (omega (arith, log_at_most sys by k))
saturated_limit sys by (suc f) k h l = by_test (is_empty (additions sys (log_at sys k)))
    (λ t. rw (saturated_now sys f k t) (is_empty_true (additions sys (log_at sys k)) t))
    (λ n. rw (saturated_later sys f k n) (saturated_limit sys by f (suc k) (omega (arith, log_longer sys k n)) (omega arith)))

-- saturation ends
pub limit_saturated : (sys : System) → ByteSystem sys → Saturated sys (saturated_at sys)
unfolding saturated_at
limit_saturated sys by = saturated_limit sys by (key_bound + 1) 0 (omega arith) (omega arith)
