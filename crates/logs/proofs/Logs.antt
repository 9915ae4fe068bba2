-- The records of an accepted table's logs: states of their letter's processes, numbers that fit the bytes of a record, and the rules that a round may skip.
use mathlib.Core.Path.{◌∙◌, ◌≡◌, ap, refl, subst, sym}
use mathlib.Core.Bool.{false, true, true≢false}
use mathlib.Core.List.{List, Memᴰ, [], ◌∷◌, map}
use Prim.Native.Nat.{◌+◌, ◌<◌, ◌≤◌, min, suc, zero, zero-le, ℕ}
use native.Mathlib.Omega.{arith}
use native.Mathlib.Nat.{le_refl}
use lib.ListN.{get_or, length}
use Rattle.model.specs.declared.Group.{Group}
use Rattle.model.specs.Automata.{Along, Transition, label, move}
use Rattle.model.specs.Groups.{Process, Processes, Within, at, has, merge}
use Rattle.model.specs.Lists.{Each, any_of, sum_over}
use Rattle.model.specs.Log.{Candidate, Path, Record, added_record, additions, candidate, collect, in_log, initial_candidate, initial_record, log_at, no_record, paths, record_at, steps_cap}
use Rattle.model.specs.Saturation.{added}
use Rattle.model.specs.Systems.{InAutomaton, Rule, System}
use Rattle.model.specs.Tables.{written_places}
use Rattle.model.proofs.Collecting.{Reasoned, additions_reasoned, each_collect, log_at_suc}
use Rattle.model.proofs.Groups.{at_merge}
use Rattle.model.proofs.Limit.{each_transitions_at, length_suc}
use Rattle.model.proofs.Lists.{each_append, each_both, each_get, each_less, each_map, each_of_map, get_d_mem, mem_each}
use Rattle.model.proofs.LogPaths.{IsPath, paths_sound}
use Rattle.model.proofs.Paths.{Inside}
use Rattle.model.proofs.Reasons.{path_length_lem}
use Rattle.searches.proofs.Skipping.{fresh_in, skip_law}
use Rattle.model.proofs.Soundness.{transitions_at}
use Rattle.model.proofs.Tests.{by_test}
use Rattle.states.specs.StateNumbers.{Over}
use Rattle.records.specs.Entries.{Fits}
use Rattle.table.specs.declared.Table.{Table}
use Rattle.table.specs.Reading.{Holds, rule_in, saturated_in, system_in}
use Rattle.table.proofs.Layouts.{rule_letter_in, table_modest, written_few}
use Rattle.logs.proofs.Rules.{each_by_elem, over_restrict, rule_elem, rule_number, rule_over, rule_written, saturated_over}

-- ---- groups
pub merge_over : (L M : Processes) (x g : Group) → Within M L → Over M x → Over L g → Over L (merge M x g)
merge_over L M x g w p o = record {
  inside = λ i m. rw (at_merge M x g i) (by_test (has M i) (λ y. rw y (p.inside i y)) (λ f. rw f (o.inside i m)));
  outside = λ i m. rw (at_merge M x g i) (by_test (has M i) (λ y. absurd (true≢false (sym (w i y) ∙ m))) (λ f. rw f (o.outside i m)));
}

-- a path within L ends in a group of L
pub along_over : (loc : ℕ → Processes) (L : Processes) (ts : List Transition) (g f : Group) → Each (λ (x : Transition). Over (loc x.letter) x.after) ts → Inside loc L (label ts) → Over L g → Along loc g ts f → Over L f
along_over loc L [] g f e w o p = subst (Over L) p o
along_over loc L (x ∷ ts) g f e w o p = along_over loc L ts (move loc x g) f e.1 w.1 (merge_over L (loc x.letter) x.after g w.0 e.0 o) p.1

pub over_byte : (L : Processes) (g : Group) → Over L g → (i : Process) → at g i < 256
over_byte L g o i = by_test (has L i)
    (λ m. let low : at g i < 8 = o.inside i m in omega arith)
    (λ n. let is : at g i ≡ 255 = o.outside i n in omega arith)

-- ---- what holds of the records of each round, if it stays and holds of those that are added
module _ (sys : System) (P : ℕ → Record → Type 0)
    (start : (x : Transition) → InAutomaton sys x → P 0 (initial_record (initial_candidate x)))
    (stays : (k : ℕ) (x : Record) → P k x → P (suc k) x)
    (grows : (k : ℕ) → Each (P k) (log_at sys k) → (c : Candidate) → Reasoned sys (log_at sys k) c → P (suc k) (added_record (suc k) (log_at sys k) c)) where
  each_zero : Each (P 0) (log_at sys 0)
  unfolding log_at
  each_zero = each_of_map (P 0) initial_record (collect [] (map initial_candidate sys.transitions) [])
      (each_collect (λ (c : Candidate). P 0 (initial_record c)) [] (map initial_candidate sys.transitions) []
      (each_of_map (λ (c : Candidate). P 0 (initial_record c)) initial_candidate sys.transitions (mem_each sys.transitions (λ (x : Transition). P 0 (initial_record (initial_candidate x))) start)) tt)

  each_suc : (k : ℕ) → Each (P k) (log_at sys k) → Each (P (suc k)) (log_at sys (suc k))
  each_suc k e = rw (log_at_suc sys k) (each_append (P (suc k)) (log_at sys k) (map (added_record (suc k) (log_at sys k)) (additions sys (log_at sys k)))
      (each_map (P k) (P (suc k)) (stays k) (log_at sys k) e)
      (each_of_map (P (suc k)) (added_record (suc k) (log_at sys k)) (additions sys (log_at sys k))
      (each_map (Reasoned sys (log_at sys k)) (λ (c : Candidate). P (suc k) (added_record (suc k) (log_at sys k) c)) (grows k e) (additions sys (log_at sys k)) (additions_reasoned sys (log_at sys k)))))

  pub each_round : (k : ℕ) → Each (P k) (log_at sys k)
  each_round zero = each_zero
  each_round (suc k) = each_suc k (each_round k)

-- ---- records
-- the numbers of a record of rounds up to k, besides its key
pub record NumbersFit (sys : System) (k : ℕ) (x : Record) : Type 0 where
  pub round : x.round ≤ k
  pub rule : x.rule < 65536
  pub short : length x.path ≤ written_places
  pub path : Each (λ (m : ℕ). m < length (log_at sys k)) x.path
  pub steps : x.steps ≤ steps_cap

-- a key whose letter is one of the table's and whose states are of the letter's processes
abbrev pub Keyed : List ℕ → Table → Transition → Type 0
Keyed bytes t x = (x.letter < t.letters) × Over ((system_in bytes).loc x.letter) x.before × Over ((system_in bytes).loc x.letter) x.after

module _ (bytes : List ℕ) (t : Table) (h : Holds bytes t) where
  -- what a rule adds for a path over such keys is such a key
  rule_keyed : (k : ℕ) → k < t.rules → (ts : List Transition) (f : Group) → Each (Keyed bytes t) ts → label ts ≡ (rule_in bytes k).written → Along (system_in bytes).loc (rule_in bytes k).after ts f
      → Keyed bytes t (added (system_in bytes).loc (rule_in bytes k) f)
  rule_keyed k l ts f e reads p =
      let L = (system_in bytes).loc (rule_in bytes k).letter in
      let inside : Inside (system_in bytes).loc L (rule_in bytes k).written =
      each_map (λ (a : ℕ). (a < t.letters) × Within ((system_in bytes).loc a) L) (λ (a : ℕ). Within ((system_in bytes).loc a) L) (λ a w. w.1) (rule_in bytes k).written (rule_written bytes t h k l) in
      let o : Over L f = along_over (system_in bytes).loc L ts (rule_in bytes k).after f
      (each_map (Keyed bytes t) (λ (x : Transition). Over ((system_in bytes).loc x.letter) x.after) (λ x q. q.2) ts e)
      (subst (Inside (system_in bytes).loc L) (sym reads) inside) (rule_over bytes t h k l).1 p in
      (rule_letter_in bytes t h k l, (rule_over bytes t h k l).0, subst (Over L) (sym (over_restrict L f o)) o)

  reasoned_keyed : (log : List Record) → Each (λ (x : Record). Keyed bytes t x.key) log → (c : Candidate) → Reasoned (saturated_in bytes) log c → Keyed bytes t c.key
  reasoned_keyed log e c ρ =
      let p = rule_number bytes t h c.rule ρ.rule ρ.is in
      subst (Keyed bytes t) (sym ρ.key_is) (subst (λ (r : Rule). Keyed bytes t (added (system_in bytes).loc r ρ.end)) p.1
      (rule_keyed c.rule p.0 (transitions_at log c.path) ρ.end (each_transitions_at (Keyed bytes t) log c.path e ρ.is_path.inside)
      (ρ.is_path.reads ∙ ap (λ (r : Rule). r.written) (sym p.1)) (subst (λ (r : Rule). Along (system_in bytes).loc r.after (transitions_at log c.path) ρ.end) (sym p.1) ρ.is_path.along)))

  -- ---- every record's letter is the table's, and its states are of the letter's processes
  pub log_over : (k : ℕ)
      → Each (λ (x : Record). (x.key.letter < t.letters) × Over ((system_in bytes).loc x.key.letter) x.key.before × Over ((system_in bytes).loc x.key.letter) x.key.after) (log_at (saturated_in bytes) k)
  log_over = each_round (saturated_in bytes) (λ k x. Keyed bytes t x.key)
      (saturated_over bytes t h) (λ k x p. p)
      (λ k e c ρ. reasoned_keyed (log_at (saturated_in bytes) k) e c ρ)

  -- ---- and so for what a rule adds to the log of a round
  pub candidates_over : (m k : ℕ) → k < t.rules
      → Each (λ (c : Candidate). Keyed bytes t c.key) (map (candidate (system_in bytes).loc (rule_in bytes k) k) (paths (system_in bytes).loc (log_at (saturated_in bytes) m) (rule_in bytes k).written (rule_in bytes k).after))
  candidates_over m k l = each_of_map (λ (c : Candidate). Keyed bytes t c.key) (candidate (system_in bytes).loc (rule_in bytes k) k) found
      (each_map (IsPath (system_in bytes).loc (log_at (saturated_in bytes) m) (rule_in bytes k).written (rule_in bytes k).after) (λ (p : Path). Keyed bytes t (candidate (system_in bytes).loc (rule_in bytes k) k p).key)
      (λ p q. reasoned_keyed (log_at (saturated_in bytes) m) (log_over m) (candidate (system_in bytes).loc (rule_in bytes k) k p) (record { rule = rule_in bytes k; is = rule_elem bytes t h k l; end = p.end; is_path = q; key_is = refl }))
      found (paths_sound (system_in bytes).loc (log_at (saturated_in bytes) m) (rule_in bytes k).written (rule_in bytes k).after))
    where
      found : List Path
      found = paths (system_in bytes).loc (log_at (saturated_in bytes) m) (rule_in bytes k).written (rule_in bytes k).after

  -- ---- numbers
  numbers_added : (k : ℕ) (c : Candidate) → Reasoned (saturated_in bytes) (log_at (saturated_in bytes) k) c → NumbersFit (saturated_in bytes) (suc k) (added_record (suc k) (log_at (saturated_in bytes) k) c)
  numbers_added k c ρ =
      let p = rule_number bytes t h c.rule ρ.rule ρ.is in
      let few : length ρ.rule.written ≤ written_places = subst (λ (r : Rule). length r.written ≤ written_places) p.1 (written_few bytes t h c.rule p.0) in
      record {
        round = le_refl (suc k);
        rule = omega (arith, p.0, (table_modest bytes t h).rules);
        short = subst (λ (n : ℕ). n ≤ written_places) (sym (path_length_lem ρ.is_path)) few;
        path = each_less (length (log_at (saturated_in bytes) k)) (length (log_at (saturated_in bytes) (suc k))) c.path (omega (arith, length_suc (saturated_in bytes) k)) ρ.is_path.inside;
        steps = capped (1 + sum_over (λ m. (record_at (log_at (saturated_in bytes) k) m).steps) c.path);
      }
    where
      capped : (n : ℕ) → min n steps_cap ≤ steps_cap
      capped n = omega arith

  pub log_numbers : (k : ℕ) → Each (NumbersFit (saturated_in bytes) k) (log_at (saturated_in bytes) k)
  log_numbers = each_round (saturated_in bytes) (NumbersFit (saturated_in bytes))
      (λ x m. record { round = zero-le; rule = omega arith; short = zero-le; path = tt; steps = zero-le })
      (λ k x n. record {
        round = omega (arith, n.round);
        rule = n.rule;
        short = n.short;
        path = each_less (length (log_at (saturated_in bytes) k)) (length (log_at (saturated_in bytes) (suc k))) x.path (omega (arith, length_suc (saturated_in bytes) k)) n.path;
        steps = n.steps;
      })
      (λ k e c ρ. numbers_added k c ρ)

  pub log_fits : (k : ℕ) → k ≤ 65535 → length (log_at (saturated_in bytes) k) ≤ 65535 → Each Fits (log_at (saturated_in bytes) k)
  log_fits k l s = each_both (λ (x : Record). Keyed bytes t x.key) (NumbersFit (saturated_in bytes) k) Fits one (log_at (saturated_in bytes) k) (log_over k) (log_numbers k)
    where
      one : (x : Record) → Keyed bytes t x.key → NumbersFit (saturated_in bytes) k x → Fits x
      one x q n = record {
        letter = omega (arith, q.0, (table_modest bytes t h).letters);
        before = over_byte ((system_in bytes).loc x.key.letter) x.key.before q.1;
        after = over_byte ((system_in bytes).loc x.key.letter) x.key.after q.2;
        round = omega (arith, n.round);
        rule = n.rule;
        short = n.short;
        path = each_less (length (log_at (saturated_in bytes) k)) 65536 x.path (omega arith) n.path;
        steps = omega (arith, n.steps);
      }

  -- ---- a step of a search: by a record on a written letter, states of the rule's processes become such states
  pub step_over : (k : ℕ) → k < t.rules → (a : ℕ) → Memᴰ a (rule_in bytes k).written → (m : ℕ) (x : Record) → Memᴰ x (log_at (saturated_in bytes) m) → x.key.letter ≡ a
      → (g : Group) → Over ((system_in bytes).loc (rule_in bytes k).letter) g → Over ((system_in bytes).loc (rule_in bytes k).letter) (merge ((system_in bytes).loc a) x.key.after g)
  step_over k l a i m x j e g o =
      let L = (system_in bytes).loc (rule_in bytes k).letter in
      let w = each_get (λ (b : ℕ). (b < t.letters) × Within ((system_in bytes).loc b) L) a (rule_in bytes k).written (rule_written bytes t h k l) i in
      let q = each_get (λ (y : Record). Keyed bytes t y.key) x (log_at (saturated_in bytes) m) (log_over m) j in
      merge_over L ((system_in bytes).loc a) x.key.after g w.1 (subst (λ (b : ℕ). Over ((system_in bytes).loc b) x.key.after) e q.2) o

  -- the same by the place of the letter and the number of the record
  pub step_over_at : (k : ℕ) → k < t.rules → (j : ℕ) → j < length (rule_in bytes k).written → (m n : ℕ) → n < length (log_at (saturated_in bytes) m)
      → (record_at (log_at (saturated_in bytes) m) n).key.letter ≡ get_or (rule_in bytes k).written j 0 → (g : Group) → Over ((system_in bytes).loc (rule_in bytes k).letter) g
      → Over ((system_in bytes).loc (rule_in bytes k).letter) (merge ((system_in bytes).loc (get_or (rule_in bytes k).written j 0)) (record_at (log_at (saturated_in bytes) m) n).key.after g)
  step_over_at k l j s m n b e g o =
      step_over k l (get_or (rule_in bytes k).written j 0) (get_d_mem (rule_in bytes k).written j 0 s) m (record_at (log_at (saturated_in bytes) m) n) (get_d_mem (log_at (saturated_in bytes) m) n no_record b) e g o

-- ---- rules that a round may skip
-- from round 2 on: none of the written letters got a record in the round before
pub skip_stale : (sys : System) (m : ℕ)
    → Each (λ (r : Rule). any_of (fresh_in (log_at sys (suc m)) (suc m)) r.written ≡ false → (p : Path) → Memᴰ p (paths sys.loc (log_at sys (suc m)) r.written r.after) → in_log (added sys.loc r p.end) (log_at sys (suc m)) ≡ true) sys.rules
skip_stale sys m =
    each_by_elem (λ (r : Rule). any_of (fresh_in (log_at sys (suc m)) (suc m)) r.written ≡ false → (p : Path) → Memᴰ p (paths sys.loc (log_at sys (suc m)) r.written r.after) → in_log (added sys.loc r p.end) (log_at sys (suc m)) ≡ true)
    sys.rules (λ n r is. skip_law sys m n r is)
