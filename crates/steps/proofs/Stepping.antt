-- One step of a walk: refused by 13, 12 or 14, or taken.
use mathlib.Core.Path.{◌≡◌, refl, ap, subst, sym, ◌∙◌}
use mathlib.Core.Option.{Option, none, some}
use mathlib.Core.List.{List, [], ◌∷◌}
use Prim.Native.Nat.{ℕ, zero, suc, ◌+◌, ◌<◌, ◌≤◌}
use native.Mathlib.Nat.{not-suc-le-zero}
use native.Mathlib.Omega.{arith}
use lib.ListN.{length, get_elem?, drop}
use borrow.Author.Tests.{lt-ltb, le-ltb}
use Rattle.model.specs.Calls.{Halt, step_by, step_to, walk_from}
use Rattle.model.specs.Groups.{process_bits}
use Rattle.model.specs.Lists.{Each}
use Rattle.model.specs.Systems.{System, Configuration, fire, fired}
use Rattle.model.specs.Tables.{rule_of}
use Rattle.model.proofs.Lists.{elem_some}
use Rattle.model.proofs.Steps.{fire_inv}
use Rattle.states.specs.StateNumbers.{Over}
use Rattle.table.specs.declared.Table.{Table}
use Rattle.table.specs.Reading.{Holds, system_in, rule_in}
use Rattle.table.proofs.Layouts.{rule_processes_lem, rules_count}
use Rattle.table.specs.Present.{present_in}
use Rattle.table.proofs.Configurations.{fired_over, fired_lettered}
use Rattle.firing.specs.declared.Fired.{Fired}
use Rattle.model.specs.declared.Placed.{Placed}
use Rattle.std.specs.Prelude.{Ok, Err}
use Rattle.firing.specs.declared.Stuck.TheVariants.{Idle, Full}
use Rattle.firing.specs.Piles.{configuration, Fires, fired_pile}
use Rattle.firing.proofs.Firings.{idle_of, full_of, overfull, fires_fit}
use Rattle.steps.specs.Stepping.{InShape, StepRefused, StepTaken}

-- ---- an element by its number
elem_none : {A : Type 0} (l : List A) (k : ℕ) → length l ≤ k → get_elem? l k ≡ none
elem_none [] k h = refl
elem_none (x ∷ l) zero h = absurd (not-suc-le-zero h)
elem_none (x ∷ l) (suc k) h = elem_none l k (omega arith)

-- ---- one step
module _ (table : List ℕ) (t : Table) (h : Holds table t) (n : ℕ) (pile : List ℕ) (c : Placed) where
  abbrev sys : System
  sys = system_in table

  abbrev before : Configuration
  before = configuration pile c

  -- the walk from here on
  abbrev after : ℕ → List ℕ → Configuration → Halt
  after step ns = λ d. walk_from (system_in table) (length pile) (step + 1) ns d

  -- 13: the table has no such rule
  pub step_none : t.rules ≤ n → StepRefused (system_in table) n c pile pile 13
  step_none l = record {
    numbered = refl;
    late = refl;
    leaves = refl;
    halt = λ step ns. ap (step_by (after step ns) sys.loc (length pile) step (n ∷ ns) before) (elem_none sys.rules n (omega (arith, rules_count table t h)));
  }

  module _ (l : n < t.rules) where
    -- the rule that the number names, and what it comes to
    by_rule : (step : ℕ) (ns : List ℕ) (o : Option Configuration) → fire (system_in table).loc (rule_in table n) (configuration pile c) ≡ o
        → walk_from (system_in table) (length pile) step (n ∷ ns) (configuration pile c) ≡ step_to (λ d. walk_from (system_in table) (length pile) (step + 1) ns d) (length pile) step (n ∷ ns) (configuration pile c) o
    by_rule step ns o e =
        ap (step_by (after step ns) sys.loc (length pile) step (n ∷ ns) before) (elem_some sys.rules n (rule_of []) (omega (arith, rules_count table t h)))
        ∙ ap (step_to (after step ns) (length pile) step (n ∷ ns) before) e

    -- 12: it does not fire
    pub step_idle : (pile' : List ℕ) → Fires ((system_in table).loc (rule_in table n).letter) (fire (system_in table).loc (rule_in table n) (configuration pile c)) pile pile' (Err Idle) → StepRefused (system_in table) n c pile pile' 12
    unfolding fired_pile
    step_idle pile' f =
        let e : fire (system_in table).loc (rule_in table n) (configuration pile c) ≡ none = idle_of (length pile) ((system_in table).loc (rule_in table n).letter) (fire (system_in table).loc (rule_in table n) (configuration pile c)) f.answer in
        record { numbered = refl; late = refl; leaves = f.leaves ∙ ap (fired_pile pile) e; halt = λ step ns. by_rule step ns none e }

    -- 14: the word after it is longer than the buffer
    pub step_full : (pile' : List ℕ) → Fires ((system_in table).loc (rule_in table n).letter) (fire (system_in table).loc (rule_in table n) (configuration pile c)) pile pile' (Err Full) → StepRefused (system_in table) n c pile pile' 14
    step_full pile' f = go (full_of (length pile) ((system_in table).loc (rule_in table n).letter) (fire (system_in table).loc (rule_in table n) (configuration pile c)) f.answer)
      where
        go : ((d : Configuration) × (fire (system_in table).loc (rule_in table n) (configuration pile c) ≡ some d) × (length pile < length d.word)) → StepRefused (system_in table) n c pile pile' 14
        go (d, e, q) = record {
          numbered = refl;
          late = refl;
          leaves = f.leaves ∙ ap (fired_pile pile) e ∙ (overfull pile d q).leaves;
          halt = λ step ns. by_rule step ns (some d) e ∙ rw (lt-ltb (length pile) (length d.word) q) refl;
        }

    -- it fires, and the word fits
    pub step_done : (pile' : List ℕ) (f : Fired) → InShape t pile c → Fires ((system_in table).loc (rule_in table n).letter) (fire (system_in table).loc (rule_in table n) (configuration pile c)) pile pile' (Ok f) → StepTaken table t n c f pile pile'
    step_done pile' f s z =
        let x = fires_fit ((system_in table).loc (rule_in table n).letter) (fire (system_in table).loc (rule_in table n) (configuration pile c)) pile pile' f z in
        let is : fired (system_in table).loc (rule_in table n) (configuration pile c) ≡ configuration pile' f.placed = (fire_inv (system_in table).loc (rule_in table n) (configuration pile c) (configuration pile' f.placed) x.gives).gives in
        record {
          shape = record {
            stands = record {
              inside = x.inside;
              letters = subst (λ (k : Configuration). Each (λ (a : ℕ). a < t.letters) k.word) is (fired_lettered table t h n (drop c.top pile) l s.stands.letters);
            };
            over = subst (λ (k : Configuration). Over (present_in t) k.states) is (fired_over table t h n c.states l s.over);
          };
          size = x.size;
          onward = λ step ns. by_rule step ns (some (configuration pile' f.placed)) x.gives ∙ rw (le-ltb (length pile) (length (drop f.placed.top pile')) x.fits) refl;
          leaves = z.leaves;
          tells = x.tells ∙ ap process_bits (sym (rule_processes_lem table t h n l));
        }
