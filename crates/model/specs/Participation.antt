-- Request 2.5, who took part: the processes of a rule's letter, and how many steps each process took part in.
use Rattle.std.specs.Prelude.{List, ℕ, ◌+◌, min, get_or}
use Rattle.std.proofs.Math.ListN.{get_elem?}
use Rattle.model.specs.Lists.{sum_over, value_or}
use Rattle.model.specs.Groups.{Process, Processes, at_each, bit, has, number_of, processes_of}
use Rattle.model.specs.Systems.{System, Rule}

-- the processes of the letter of rule n: they take part where the rule fires. A rule that there is not has none.
abbrev pub rule_processes : System → ℕ → Processes
rule_processes sys n = value_or (processes_of 0) (λ (r : Rule). sys.loc r.letter) (get_elem? sys.rules n)

-- "the number of steps it took part in": of these rules, those whose letter has the process
abbrev pub steps_with : System → Process → List ℕ → ℕ
steps_with sys i ns = sum_over (λ n. bit (has (rule_processes sys n) i)) ns

-- "for each station"
abbrev pub step_counts : System → List ℕ → List ℕ
step_counts sys ns = at_each (λ i. steps_with sys i ns)

-- ---- counted step by step
-- where the count of a process stands
abbrev pub count_of : List ℕ → Process → ℕ
count_of counts i = get_or counts (number_of i) 0

-- one step more at each process of L, with counts that stop at the ceiling
unfoldable pub with_step : (ceiling : ℕ) → Processes → List ℕ → List ℕ
with_step ceiling L counts = at_each (λ i. min ceiling (count_of counts i + bit (has L i)))
