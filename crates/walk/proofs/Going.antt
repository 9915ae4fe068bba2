-- The steps of a whole list, one after the other, and who took part in them.
use mathlib.Core.Path.{◌≡◌, refl, ap, ap₂, sym, subst, ◌∙◌}
use mathlib.Core.List.{List, [], ◌∷◌, ◌++◌}
use Prim.Native.Nat.{ℕ, suc, ◌+◌, ◌<◌, ◌≤◌}
use native.Mathlib.Numerals.{add-one}
use native.Mathlib.Omega.{arith}
use lib.ListN.{length, get_or, take, drop, drop_of_length-le, length-append, length-take}
use lib.Seq.{drop-cons, take_all, take-suc}
use Rattle.std.specs.Prelude.{Some, None}
use Rattle.model.specs.Calls.{Halt, filled, fired_rules, halt_at, halt_end, walk_from}
use Rattle.model.specs.Groups.{Processes, at_each, processes_of}
use Rattle.model.specs.Lists.{value_or}
use Rattle.model.specs.Participation.{rule_processes, step_counts, with_step}
use Rattle.model.proofs.Groups.{bits_back}
use Rattle.model.proofs.Participation.{counts_below}
use Rattle.table.specs.declared.Table.{Table}
use Rattle.table.specs.Reading.{system_in}
use Rattle.firing.specs.declared.Fired.{Fired}
use Rattle.model.specs.declared.Placed.{Placed}
use Rattle.firing.specs.Piles.{configuration}
use Rattle.steps.specs.Stepping.{InShape, StepRefused, StepTaken}
use Rattle.walk.specs.Walking.{Stopped}

-- ---- the steps of a list
module _ (table : List ℕ) (t : Table) (list pile : List ℕ) (start : Placed) where
  -- the first k steps were taken
  pub record Going (pile' : List ℕ) (c : Placed) (counts : List ℕ) (k : ℕ) : Type 0 where
    pub inside : k ≤ length list
    pub size : length pile' ≡ length pile
    pub shape : InShape t pile' c
    pub counted : counts ≡ step_counts (system_in table) (take k list)
    pub same : walk_from (system_in table) (length pile) 0 list (configuration pile start) ≡ walk_from (system_in table) (length pile) k (drop k list) (configuration pile' c)

  pub going_start : InShape t pile start → Going pile start (at_each (λ i. 0)) 0
  going_start s = record { inside = omega arith; size = refl; shape = s; counted = refl; same = refl }

  -- the walk from step k on, as a walk over its first rule
  ahead : (pile' : List ℕ) (c : Placed) (counts : List ℕ) (k : ℕ) → k < length list → Going pile' c counts k
      → walk_from (system_in table) (length pile) 0 list (configuration pile start) ≡ walk_from (system_in table) (length pile') k (get_or list k 0 ∷ drop (suc k) list) (configuration pile' c)
  ahead pile' c counts k l g = g.same ∙ ap₂ (λ (n : ℕ) (ns : List ℕ). walk_from (system_in table) n k ns (configuration pile' c)) (sym g.size) (drop-cons list k 0 l)

  pub going_turn : (pile' pile'' : List ℕ) (c : Placed) (f : Fired) (counts counts' : List ℕ) (k n ceiling : ℕ) → k < length list → k + 1 ≤ ceiling → n ≡ get_or list k 0 → Going pile' c counts k
      → StepTaken table t n c f pile' pile'' → counts' ≡ with_step ceiling (processes_of f.processes) counts → Going pile'' f.placed counts' (k + 1)
  going_turn pile' pile'' c f counts counts' k n ceiling l top e g s q =
      let one_more : take k list ++ (n ∷ []) ≡ take (k + 1) list = ap (λ (m : ℕ). take k list ++ (m ∷ [])) e ∙ sym (take-suc list k 0 l) ∙ ap (λ (i : ℕ). take i list) (sym (add-one k)) in
      let low : length (take k list ++ (n ∷ [])) ≤ ceiling = omega (arith, length-append (take k list) (n ∷ []), length-take k list) in
      let parts : processes_of f.processes ≡ rule_processes (system_in table) n = ap processes_of s.tells ∙ bits_back (rule_processes (system_in table) n) in
      record {
        inside = omega arith;
        size = s.size ∙ g.size;
        shape = s.shape;
        counted = q ∙ ap₂ (λ (L : Processes) (l : List ℕ). with_step ceiling L l) parts g.counted ∙ counts_below ceiling (system_in table) (take k list) n low ∙ ap (step_counts (system_in table)) one_more;
        same = ahead pile' c counts k l g ∙ ap (λ (m : ℕ). walk_from (system_in table) (length pile') k (m ∷ drop (suc k) list) (configuration pile' c)) (sym e)
            ∙ s.onward k (drop (suc k) list)
            ∙ ap₂ (λ (m i : ℕ). walk_from (system_in table) m (k + 1) (drop i list) (configuration pile'' f.placed)) g.size (sym (add-one k));
      }

  pub going_refused : (pile' pile'' : List ℕ) (c : Placed) (counts counts' : List ℕ) (k n number : ℕ) → k < length list → n ≡ get_or list k 0 → Going pile' c counts k
      → StepRefused (system_in table) n c pile' pile'' number → counts' ≡ counts
      → Stopped table t list (walk_from (system_in table) (length pile) 0 list (configuration pile start)) pile'' (record { refusal = Some number; at = k; placed = c; counts = counts' })
  going_refused pile' pile'' c counts counts' k n number l e g s q =
      let list-is : drop k list ≡ n ∷ drop (suc k) list = drop-cons list k 0 l ∙ ap (λ (m : ℕ). m ∷ drop (suc k) list) (sym e) in
      let halt : walk_from (system_in table) (length pile) 0 list (configuration pile start) ≡ halt_at number k (n ∷ drop (suc k) list) (configuration pile' c) =
      ahead pile' c counts k l g ∙ ap (λ (m : ℕ). walk_from (system_in table) (length pile') k (m ∷ drop (suc k) list) (configuration pile' c)) (sym e) ∙ s.halt k (drop (suc k) list) in
      record {
        shape = subst (λ (p : List ℕ). InShape t p c) (sym s.leaves) g.shape;
        late = rw halt s.late;
        inside = omega arith;
        rest = list-is ∙ sym (ap (λ (x : Halt). x.rest) halt);
        answer = sym (ap (λ (x : Halt). x.answer) halt);
        counts = q ∙ g.counted ∙ sym (ap (λ (x : Halt). step_counts (system_in table) (fired_rules list x.answer)) halt);
        word = λ p. ap (λ (x : Halt). value_or p (λ (w : List ℕ). filled w p) x.pile) halt ∙ ap (λ (q : List ℕ). filled (drop c.top q) p) (sym s.leaves);
      }

  pub going_end : (pile' : List ℕ) (c : Placed) (counts : List ℕ) (k : ℕ) → length list ≤ k → Going pile' c counts k
      → Stopped table t list (walk_from (system_in table) (length pile) 0 list (configuration pile start)) pile' (record { refusal = None; at = length list; placed = c; counts = counts })
  going_end pile' c counts k l g =
      let halt : walk_from (system_in table) (length pile) 0 list (configuration pile start) ≡ halt_end (system_in table) (configuration pile' c) =
      g.same ∙ ap (λ (ns : List ℕ). walk_from (system_in table) (length pile) k ns (configuration pile' c)) (drop_of_length-le list {i = k} l) in
      record {
        shape = g.shape;
        late = rw halt refl;
        inside = omega arith;
        rest = drop_of_length-le list {i = length list} (omega arith) ∙ sym (ap (λ (x : Halt). x.rest) halt);
        answer = sym (ap (λ (x : Halt). x.answer) halt);
        counts = g.counted ∙ ap (step_counts (system_in table)) (take_all k list l) ∙ sym (ap (λ (x : Halt). step_counts (system_in table) (fired_rules list x.answer)) halt);
        word = λ p. ap (λ (x : Halt). value_or p (λ (w : List ℕ). filled w p) x.pile) halt;
      }
