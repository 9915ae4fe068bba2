-- The turns of an attempt: it sets out, tries a record and goes on behind it, passes it by, steps back, and ends.
use mathlib.Core.Path.{◌≡◌, refl, ap, sym, subst, ◌∙◌}
use mathlib.Core.Bool.{true}
use mathlib.Core.List.{List, [], ◌∷◌}
use Prim.Native.Nat.{ℕ, ◌+◌, ◌-◌, ◌<◌, ◌≤◌}
use native.Mathlib.Omega.{arith}
use lib.ListN.{length}
use Rattle.model.specs.declared.Group.{Group}
use Rattle.model.specs.Log.{Path}
use Rattle.model.specs.Unfolding.{accepting_path, first_accepting}
use Rattle.states.specs.StateNumbers.{Over}
use Rattle.states.specs.StateSets.{first_from}
use Rattle.states.proofs.StateSets.{First, first_at}
use Rattle.packs.specs.Packs.{packed}
use Rattle.table.specs.declared.Table.{Table}
use Rattle.table.specs.Reading.{saturated_in}
use Rattle.logs.specs.RoundLogs.{RoundLog}
use Rattle.rests.specs.declared.Scope.{Scope}
use Rattle.rests.specs.Rests.{processes_of_table, zeroed_group}
use Rattle.attempts.specs.declared.Span.{Span}
use Rattle.attempts.specs.declared.Stand.{Stand}
use Rattle.attempts.specs.Attempts.{Ready, trail, state_by, state_along}
use Rattle.attempts.specs.Turns.{stand_at, with_next, reads_here, entered, followed, reads_in, Taken, paths_from, paths_left, here_state, AtPlace, AmongLeft, OnWay}
use Rattle.attempts.proofs.PackedStates.{reads_here_lem}
use Rattle.attempts.proofs.Places.{paths_whole, paths_skip, over_by}
use Rattle.attempts.proofs.Stacks.{length_trail, trail_none}

-- records that read their letters lead to a state of the table's processes
pub over_along : {table : List ℕ} {t : Table} {round : ℕ} {log : List ℕ} (c : Scope) → RoundLog table t round log c.limit → (ns : List ℕ) (k : ℕ) (g : Group) → k + length ns ≤ t.pile
    → Over (processes_of_table t) g → Taken table t log c k g ns → Over (processes_of_table t) (state_along table log k ns g)
over_along c lent [] k g h o w = o
over_along {table} {log = log} c lent (r ∷ ns) k g h o w =
    over_along c lent ns (k + 1) (state_by table log k r g) (omega arith) (over_by lent k (omega arith) g o r w.0 w.1) w.2

-- the record that was next has been tried, and no accepting path goes by it
pub record Past (table : List ℕ) (t : Table) (log : List ℕ) (c : Scope) (span : Span) (g : Group) (s : List ℕ) (x : Stand) : Type 0 where
  pub at : AtPlace table t log c span g s x
  pub inside : x.next < c.limit
  pub reads : reads_in table t log x.place (here_state table t log span g s x) x.next ≡ true
  pub left : AmongLeft table t log c span g s x (x.next + 1)

module _ {table : List ℕ} {t : Table} {log : List ℕ} {c : Scope} {span : Span} {g : Group} {s : List ℕ} where
  module _ {x : Stand} (at : AtPlace table t log c span g s x) where
    pub here_inside : x.place < t.pile
    here_inside = omega (arith, at.below, at.ready.inside)

    pub here_over : Over (processes_of_table t) (here_state table t log span g s x)
    here_over = over_along c at.ready.scoped.some.1 (trail t span.low x.place s) span.low g
        (omega (arith, here_inside, length_trail t span.low x.place s at.from)) at.ready.over at.taken

    -- what the rings say
    here_reads : (r : ℕ) → reads_here log x r ≡ reads_in table t log x.place (here_state table t log span g s x) r
    here_reads = reads_here_lem table t log x at.letter at.processes (here_state table t log span g s x) here_over at.state

    -- the next record, from record m on, that reads the letter there
    pub next_way : (m k tries q : ℕ) → m + k ≡ c.count → q ≡ first_from (reads_here log x) m k → AmongLeft table t log c span g s x m → OnWay table t log c span g s (with_next x q tries)
    next_way m k tries q e is left =
        let f : First (reads_here log x) m k q = first_at (reads_here log x) m k q is in
        let here = here_state table t log span g s x in
        record {
          at = record { ready = at.ready; from = at.from; below = at.below; letter = at.letter; processes = at.processes; state = at.state; taken = at.taken };
          reads = λ h. sym (here_reads q) ∙ f.passes (omega (arith, at.ready.scoped.limited));
          left = λ round lent. left round lent
              ∙ ap (λ (ps : List Path). first_accepting (saturated_in table).accepting (paths_left table log round span.low g (trail t span.low x.place s) ps))
              (paths_skip lent x.place here_inside here here_over m q f.low (λ j a b l. sym (here_reads j) ∙ f.fails j a b));
        }

  -- it goes on after such a record
  module _ {x : Stand} (w : Past table t log c span g s x) where
    pub past_reads : reads_here log x x.next ≡ true
    past_reads = here_reads w.at x.next ∙ w.reads

    pub past_way : (tries : ℕ) (y : Stand) → y ≡ followed log c x tries → OnWay table t log c span g s y
    unfolding followed
    past_way tries y e = subst (OnWay table t log c span g s) (sym e)
        (next_way w.at (x.next + 1) (c.count - (x.next + 1)) tries _ (omega (arith, w.inside, w.at.ready.scoped.limited)) refl w.left)

  -- it sets out
  module _ (w : Ready table t log c span g s) (m tries : ℕ) (state : m ≡ packed (zeroed_group (processes_of_table t) g)) where
    abbrev start : Stand
    start = stand_at table span.low m 0 tries

    none_yet : trail t span.low span.low s ≡ []
    none_yet = trail_none t span.low span.low s refl

    start_place : AtPlace table t log c span g s (stand_at table span.low m 0 tries)
    start_place = record {
      ready = w;
      from = omega arith;
      below = w.some;
      letter = refl;
      processes = refl;
      state = state ∙ sym (ap (λ (ns : List ℕ). packed (zeroed_group (processes_of_table t) (state_along table log span.low ns g))) none_yet);
      taken = subst (Taken table t log c span.low g) (sym none_yet) tt;
    }

    pub way_start : (y : Stand) → y ≡ entered table log c span.low m tries → OnWay table t log c span g s y
    unfolding entered accepting_path
    way_start y e = subst (OnWay table t log c span g s) (sym e) (next_way start_place 0 c.count tries _ (omega arith) refl (λ round lent.
        ap (first_accepting (saturated_in table).accepting) (paths_whole lent span.low (here_inside start_place) g)
        ∙ ap (λ (ns : List ℕ). first_accepting (saturated_in table).accepting
        (paths_left table log round span.low g ns (paths_from table round span.low (state_along table log span.low ns g) 0))) (sym none_yet)))
