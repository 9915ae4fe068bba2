-- The loop of an attempt: it is on its way from the state with which it began, and only the stack has changed. Its weight falls in each turn.
use mathlib.Core.Path.{◌≡◌, subst}
use mathlib.Core.List.{List}
use Prim.Native.Nat.{ℕ, ◌<◌}
use Rattle.model.specs.declared.Group.{Group}
use Rattle.packs.specs.Packs.{packed}
use Rattle.rings.specs.Rings.{OutsideSame}
use Rattle.rings.proofs.Links.{outside_join, outside_none}
use Rattle.scratch.specs.Regions.{stack_at}
use Rattle.table.specs.declared.Table.{Table}
use Rattle.rests.specs.declared.Scope.{Scope}
use Rattle.rests.specs.Rests.{processes_of_table, zeroed_group}
use Rattle.attempts.specs.declared.Span.{Span}
use Rattle.attempts.specs.declared.Stand.{Stand}
use Rattle.attempts.specs.declared.Tried.{Tried}
use Rattle.std.specs.declared.ops.ControlFlow.{ControlFlow}
use Rattle.std.specs.declared.ops.ControlFlow.TheVariants.{Continue, Break}
use Rattle.attempts.specs.Attempts.{Attempted, Ready}
use Rattle.attempts.specs.Turns.{EachWay, OnWay, TurnsTo, entered, weight}
use Rattle.attempts.proofs.Ways.{way_start}

-- for each state g that the number m stands for
pub record Attempting (table : List ℕ) (t : Table) (log : List ℕ) (c : Scope) (span : Span) (m : ℕ) (s s' : List ℕ) (x : Stand) : Type 0 where
  pub same : OutsideSame 128 stack_at s s'
  pub way : (g : Group) → Ready table t log c span g s → m ≡ packed (zeroed_group (processes_of_table t) g) → OnWay table t log c span g s' x

module _ {table : List ℕ} {t : Table} {log : List ℕ} {c : Scope} {span : Span} {m : ℕ} {s : List ℕ} where
  pub attempting_start : (tries : ℕ) (y : Stand) → y ≡ entered table log c span.low m tries → Attempting table t log c span m s s y
  attempting_start tries y e = record { same = outside_none 128 stack_at s; way = λ g w is. way_start w m tries is y e }

  -- one turn
  module _ {s' s'' : List ℕ} {x : Stand} {r : ControlFlow Tried Stand} (v : Attempting table t log c span m s s' x) (turned : EachWay table t log c span x s' s'' r) {g : Group}
      (w : Ready table t log c span g s) (is : m ≡ packed (zeroed_group (processes_of_table t) g)) where
    now_same : OutsideSame 128 stack_at s s''
    now_same = outside_join v.same (turned g (v.way g w is)).same

    to : (g : Group) → Ready table t log c span g s → m ≡ packed (zeroed_group (processes_of_table t) g) → (q : ControlFlow Tried Stand) → r ≡ q → TurnsTo table t log c span g x s'' q
    to g w is q e = subst (TurnsTo table t log c span g x s'') e (turned g (v.way g w is)).to

    pub attempting_turn : {y : Stand} → r ≡ Continue y → Attempting table t log c span m s s'' y
    attempting_turn {y} e = record { same = now_same; way = λ g w is. (to g w is (Continue y) e).0 }

    pub attempting_falls : {y : Stand} → r ≡ Continue y → weight y < weight x
    attempting_falls {y} e = (to g w is (Continue y) e).1

    pub attempting_end : {a : Tried} → r ≡ Break a → Attempted table t log c span g s s'' a
    attempting_end {a} e = record { same = now_same; shown = to g w is (Break a) e }
