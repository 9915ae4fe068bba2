-- What one turn comes to: a record is tried, and leads on, into the set or past it; or none is left, and the attempt steps back or ends.
use mathlib.Core.Path.{◌≡◌, refl, ap, ap₂, sym, subst, ◌∙◌}
use mathlib.Core.Bool.{Bool, true, false, false≢true, true≢false}
use mathlib.Core.Option
use mathlib.Core.Option.{Option, none, some}
use mathlib.Core.List.{List, [], ◌∷◌, ◌++◌, map}
use Prim.Native.Nat.{ℕ, ◌+◌, ◌-◌, ◌<◌, ◌≤◌}
use native.Mathlib.Omega.{arith}
use lib.ListN.{length, drop}
use Rattle.model.specs.declared.Group.{Group}
use Rattle.model.specs.Log.{Path, log_at, paths, push}
use Rattle.model.specs.Unfolding.{accepting_path, first_accepting}
use Rattle.numbers.specs.NumberBytes.{with_number}
use Rattle.states.specs.StateNumbers.{Over}
use Rattle.states.specs.StateSets.{member, set_length}
use Rattle.packs.specs.Packs.{mask_of, packed, packed_after, packed_before, packed_merge, packed_number}
use Rattle.rings.specs.Rings.{OutsideSame}
use Rattle.rings.proofs.Links.{outside_link, outside_none}
use Rattle.scratch.specs.Regions.{stack_at}
use Rattle.scratch.specs.StackNumbers.{stack_place}
use Rattle.table.specs.declared.Table.{Table}
use Rattle.table.specs.Reading.{pile_in, saturated_in, system_in}
use Rattle.table.proofs.Layouts.{table_modest}
use Rattle.logs.specs.RoundLogs.{EachRound, RoundLog}
use Rattle.rests.specs.declared.Scope.{Scope}
use Rattle.rests.specs.Rests.{accepts_from, path_from, prepend, processes_of_table, set_at, zeroed_group}
use Rattle.rests.proofs.GreedyPath.{accepts_is, is_some, prepend_more}
use Rattle.attempts.specs.declared.Span.{Span}
use Rattle.attempts.specs.declared.Stand.{Stand}
use Rattle.attempts.specs.declared.Tried.{Tried}
use Rattle.attempts.specs.declared.Tried.TheVariants.{Found, Nothing}
use Rattle.std.specs.declared.ops.ControlFlow.TheVariants.{Continue, Break}
use Rattle.attempts.specs.Attempts.{Leading, state_along, state_by, trail}
use Rattle.attempts.specs.Turns.{stand_at, entered, returned, last_number, reads_in, Taken, paths_from, paths_left, here_state, AtPlace, AmongLeft, OnWay, weight, Turned, followed}
use Rattle.attempts.proofs.PathsLeft.{along_more, first_found, first_hit, first_left, first_miss, left_more, taken_less, taken_more}
use Rattle.attempts.proofs.PackedStates.{own_packed, state_back, state_on}
use Rattle.attempts.proofs.Places.{after_bytes, letter_within, over_by, paths_end, paths_reads, paths_whole}
use Rattle.attempts.proofs.Stacks.{length_trail, ready_kept, trail_less, trail_more, trail_none}
use Rattle.attempts.proofs.Ways.{Past, past_way, here_inside, here_over, next_way, over_along}

no_some : {A : Type 0} (o : Option A) → is_some o ≡ false → o ≡ none
no_some none e = refl
no_some (some a) e = absurd (true≢false e)

the_some : {A : Type 0} (o : Option A) → is_some o ≡ true → (a : A) × (o ≡ some a)
the_some none e = absurd (false≢true e)
the_some (some a) e = (a, refl)

module _ {table : List ℕ} {t : Table} {log : List ℕ} {c : Scope} {span : Span} {g : Group} {s : List ℕ} {x : Stand} (w : OnWay table t log c span g s x) where
  abbrev at : AtPlace table t log c span g s x
  at = w.at

  abbrev low : ℕ
  low = span.low

  abbrev ns : List ℕ
  ns = trail t span.low x.place s

  abbrev here : Group
  here = here_state table t log span g s x

  abbrev acc : List Group
  acc = (saturated_in table).accepting

  -- all paths that go on behind a record
  abbrev behind : ℕ → ℕ → Group → List Path
  behind round k h = paths (system_in table).loc (log_at (saturated_in table) round) (drop k (system_in table).start.word) h

  abbrev pub some_round : RoundLog table t w.at.ready.scoped.some.0 log c.limit
  some_round = w.at.ready.scoped.some.1

  few : t.pile ≤ 64
  few = (table_modest table t some_round.holds).pile

  -- what stands in the scratch has room there
  pub stack_room : stack_place (t.pile - 1 - x.place) + 2 ≤ length s
  stack_room = omega (arith, few, at.ready.scoped.linked.room.room)

  pub last_room : 0 < x.place → stack_place (t.pile - x.place) + 2 ≤ length s
  last_room h = omega (arith, few, at.ready.scoped.linked.room.room)

  pub goal_room : span.goal + set_length ≤ length s
  goal_room = omega (arith, at.ready.apart, at.ready.scoped.linked.room.room)

  count_is : x.place ≡ span.low + length (trail t span.low x.place s)
  count_is = length_trail t low x.place s at.from

  -- ---- a record is tried
  module _ (l : x.next < c.limit) where
    abbrev there : Group
    there = state_by table log x.place x.next (here_state table t log span g s x)

    there_over : Over (processes_of_table t) (state_by table log x.place x.next (here_state table t log span g s x))
    there_over = over_by some_round x.place (here_inside at) here (here_over at) x.next l (w.reads l)

    pub next_small : x.next < 65536
    next_small = omega (arith, some_round.short)

    -- the paths by it, then those by later ones
    left_tried : EachRound table t log c.limit (λ (round : ℕ). path_from table round span.low g
        ≡ first_accepting (saturated_in table).accepting (paths_left table log round span.low g (trail t span.low x.place s)
        (map (push x.next) (paths (system_in table).loc (log_at (saturated_in table) round) (drop (x.place + 1) (system_in table).start.word) (state_by table log x.place x.next (here_state table t log span g s x)))
        ++ paths_from table round x.place (here_state table t log span g s x) (x.next + 1))))
    left_tried round lent = w.left round lent
        ∙ ap (λ (ps : List Path). first_accepting acc (paths_left table log round low g ns ps)) (paths_reads lent x.place (here_inside at) here (here_over at) x.next l (w.reads l))

    module _ (m : ℕ) (is : m ≡ packed_merge x.mask (packed_after log x.next) x.state) where
      there_state : m ≡ packed (zeroed_group (processes_of_table t) (state_by table log x.place x.next (here_state table t log span g s x)))
      there_state = is ∙ state_on table t log x at.letter at.processes here (here_over at) (letter_within some_round x.place (here_inside at)) x.next
          (after_bytes some_round x.place (here_inside at) x.next l) at.state

      -- whether the rest behind it is accepted
      told : {b : Bool} → x.place + 1 ≡ span.high → b ≡ member (set_at s span.goal) (packed_number m)
          → EachRound table t log c.limit (λ (round : ℕ). accepts_from table round span.high (state_by table log x.place x.next (here_state table t log span g s x)) ≡ b)
      told last e round lent =
          sym (e ∙ ap (member (set_at s span.goal)) (own_packed (processes_of_table t) there m there_over there_state) ∙ at.ready.right round lent there there_over)

      accepted_is : {b : Bool} → x.place + 1 ≡ span.high → b ≡ member (set_at s span.goal) (packed_number m)
          → EachRound table t log c.limit (λ (round : ℕ). is_some (first_accepting (saturated_in table).accepting
          (paths (system_in table).loc (log_at (saturated_in table) round) (drop (x.place + 1) (system_in table).start.word) (state_by table log x.place x.next (here_state table t log span g s x)))) ≡ b)
      accepted_is last e round lent =
          sym (accepts_is (system_in table).loc (log_at (saturated_in table) round) acc (drop (x.place + 1) (system_in table).start.word) there)
          ∙ ap (λ (k : ℕ). accepts_from table round k there) last ∙ told last e round lent

      -- it leads past the set
      pub past_miss : {b : Bool} → x.place + 1 ≡ span.high → b ≡ member (set_at s span.goal) (packed_number m) → b ≡ false → Past table t log c span g s x
      past_miss last e n = record {
        at = at;
        inside = l;
        reads = w.reads l;
        left = λ round lent. left_tried round lent
            ∙ first_left table t log c acc round ns low g (map (push x.next) (behind round (x.place + 1) there) ++ paths_from table round x.place here (x.next + 1)) (paths_from table round x.place here (x.next + 1))
            (first_miss acc x.next (behind round (x.place + 1) there) (paths_from table round x.place here (x.next + 1))
            (no_some (first_accepting acc (behind round (x.place + 1) there)) (accepted_is last e round lent ∙ n)));
      }

      pub turn_miss : {b : Bool} (y : Stand) → 0 < x.left → x.place + 1 ≡ span.high → b ≡ member (set_at s span.goal) (packed_number m) → b ≡ false → y ≡ followed log c x (x.left - 1)
          → Turned table t log c span g x s s (Continue y)
      unfolding followed
      turn_miss y more last is n e = record {
        same = outside_none 128 stack_at s;
        to = (past_way (past_miss last is n) (x.left - 1) y e, subst (λ (y : Stand). weight y < weight x) (sym e) (omega arith));
      }

      -- it goes to the stack
      module _ (s' : List ℕ) (written : s' ≡ with_number 2 s (stack_place (t.pile - 1 - x.place)) x.next) where
        pub stack_only : OutsideSame 128 stack_at s s'
        stack_only = subst (OutsideSame 128 stack_at s) (sym written) (outside_link 128 stack_at s (t.pile - 1 - x.place) x.next (omega (arith, here_inside at, few)))

        trail_now : trail t span.low (x.place + 1) s' ≡ trail t span.low x.place s ++ (x.next ∷ [])
        trail_now = ap (trail t low (x.place + 1)) written
            ∙ trail_more t low x.place s x.next at.from (here_inside at) stack_room next_small

        along_now : state_along table log span.low (trail t span.low (x.place + 1) s') g ≡ state_by table log x.place x.next (here_state table t log span g s x)
        along_now = ap (λ (l : List ℕ). state_along table log low l g) trail_now ∙ along_more table t log c ns low g x.place x.next count_is

        -- and the attempt goes on behind it
        module _ (more : x.place + 1 < span.high) where
          next_place : (tries : ℕ) → AtPlace table t log c span g s' (stand_at table (x.place + 1) m 0 tries)
          next_place tries = record {
            ready = ready_kept stack_only at.ready;
            from = omega (arith, at.from);
            below = more;
            letter = refl;
            processes = refl;
            state = there_state ∙ ap (λ (h : Group). packed (zeroed_group (processes_of_table t) h)) (sym along_now);
            taken = subst (Taken table t log c low g) (sym trail_now) (taken_more table t log c ns low g x.place x.next count_is at.taken l (w.reads l));
          }

          next_left : (tries : ℕ) → AmongLeft table t log c span g s' (stand_at table (x.place + 1) m 0 tries) 0
          next_left tries round lent = left_tried round lent
              ∙ ap (first_accepting acc) (sym (left_more table t log c round ns low g x.place x.next (behind round (x.place + 1) there) count_is))
              ∙ ap (λ (ps : List Path). first_accepting acc (paths_left table log round low g (ns ++ (x.next ∷ [])) ps)) (paths_whole lent (x.place + 1) (omega (arith, more, at.ready.inside)) there)
              ∙ ap₂ (λ (l : List ℕ) (h : Group). first_accepting acc (paths_left table log round low g l (paths_from table round (x.place + 1) h 0))) (sym trail_now) (sym along_now)

          pub turn_on : (y : Stand) → 0 < x.left → y ≡ entered table log c (x.place + 1) m (x.left - 1) → Turned table t log c span g x s s' (Continue y)
          unfolding entered
          turn_on y tries e = record {
            same = stack_only;
            to = subst (λ (y : Stand). OnWay table t log c span g s' y × (weight y < weight x)) (sym e)
                (next_way (next_place (x.left - 1)) 0 c.count (x.left - 1) _ (omega arith) refl (next_left (x.left - 1)), omega arith);
          }

        -- and the path is found
        found_first : x.place + 1 ≡ span.high → EachRound table t log c.limit (λ (round : ℕ). is_some (first_accepting (saturated_in table).accepting
            (paths (system_in table).loc (log_at (saturated_in table) round) (drop (x.place + 1) (system_in table).start.word) (state_by table log x.place x.next (here_state table t log span g s x)))) ≡ true
            → path_from table round span.low g ≡ Option.map (prepend (trail t span.low x.place s ++ (x.next ∷ []))) (path_from table round (x.place + 1) (state_by table log x.place x.next (here_state table t log span g s x))))
        unfolding accepting_path
        found_first last round lent y =
            let p = the_some (first_accepting acc (behind round (x.place + 1) there)) y in
            left_tried round lent
            ∙ first_found table t log c acc round ns low g (map (push x.next) (behind round (x.place + 1) there) ++ paths_from table round x.place here (x.next + 1)) (push x.next p.0)
            (first_hit acc x.next (behind round (x.place + 1) there) (paths_from table round x.place here (x.next + 1)) p.0 p.1)
            ∙ prepend_more ns x.next (some p.0)
            ∙ ap (Option.map (prepend (ns ++ (x.next ∷ [])))) (sym p.1)

        leading : {b : Bool} → x.place + 1 ≡ span.high → b ≡ member (set_at s span.goal) (packed_number m) → b ≡ true → Leading table t log c span g (trail t span.low span.high s')
        leading last e y =
            let trail_high : trail t low span.high s' ≡ ns ++ (x.next ∷ []) = ap (λ (k : ℕ). trail t low k s') (sym last) ∙ trail_now in
            let along-high : state_along table log low (trail t low span.high s') g ≡ there = ap (λ (k : ℕ). state_along table log low (trail t low k s') g) (sym last) ∙ along_now in
            record {
              over = subst (Over (processes_of_table t)) (sym along-high) there_over;
              accepted = λ round lent. ap (accepts_from table round span.high) along-high ∙ told last e round lent ∙ y;
              first = λ round lent. found_first last round lent (accepted_is last e round lent ∙ y)
                  ∙ ap (λ (k : ℕ). Option.map (prepend (ns ++ (x.next ∷ []))) (path_from table round k there)) last
                  ∙ ap₂ (λ (l : List ℕ) (h : Group). Option.map (prepend l) (path_from table round span.high h)) (sym trail_high) (sym along-high);
            }

        pub turn_found : {b : Bool} → x.place + 1 ≡ span.high → b ≡ member (set_at s span.goal) (packed_number m) → b ≡ true → Turned table t log c span g x s s' (Break Found)
        turn_found last e y = record { same = stack_only; to = leading last e y }

  -- ---- no record is left
  module _ (none_left : c.limit ≤ x.next) where
    left_none : EachRound table t log c.limit (λ (round : ℕ). path_from table round span.low g
        ≡ first_accepting (saturated_in table).accepting (paths_left table log round span.low g (trail t span.low x.place s) []))
    left_none round lent = w.left round lent
        ∙ ap (λ (ps : List Path). first_accepting acc (paths_left table log round low g ns ps)) (paths_end lent x.place (here_inside at) here x.next none_left)

    -- at the span's first letter there is no accepting path
    nothing : x.place ≡ span.low → EachRound table t log c.limit (λ (round : ℕ). path_from table round span.low g ≡ none)
    nothing e round lent = left_none round lent
        ∙ ap (λ (l : List ℕ). first_accepting acc (paths_left table log round low g l [])) (trail_none t low x.place s e)

    pub turn_nothing : x.place ≡ span.low → Turned table t log c span g x s s (Break Nothing)
    turn_nothing e = record { same = outside_none 128 stack_at s; to = nothing e }

    -- else the last record on the stack has been tried
    module _ (later : span.low < x.place) where
      abbrev last : ℕ
      last = last_number t s x

      abbrev ms : List ℕ
      ms = trail t span.low (x.place - 1) s

      abbrev before : Group
      before = state_along table log span.low (trail t span.low (x.place - 1) s) g

      trail_was : trail t span.low x.place s ≡ trail t span.low (x.place - 1) s ++ (last_number t s x ∷ [])
      trail_was = trail_less t low x.place s later (omega (arith, here_inside at))

      count_was : x.place - 1 ≡ span.low + length (trail t span.low (x.place - 1) s)
      count_was = length_trail t low (x.place - 1) s (omega arith)

      taken_was : Taken table t log c span.low g (trail t span.low (x.place - 1) s) × (last_number t s x < c.limit)
          × (reads_in table t log (x.place - 1) (state_along table log span.low (trail t span.low (x.place - 1) s) g) (last_number t s x) ≡ true)
      taken_was = taken_less table t log c ms low g (x.place - 1) last count_was (subst (Taken table t log c low g) trail_was at.taken)

      pub last_inside : last_number t s x < c.limit
      last_inside = taken_was.1

      before_over : Over (processes_of_table t) (state_along table log span.low (trail t span.low (x.place - 1) s) g)
      before_over = over_along c some_round ms low g (omega (arith, count_was, here_inside at)) at.ready.over taken_was.0

      along_was : here_state table t log span g s x ≡ state_by table log (x.place - 1) (last_number t s x) (state_along table log span.low (trail t span.low (x.place - 1) s) g)
      along_was = ap (λ (l : List ℕ). state_along table log low l g) trail_was ∙ along_more table t log c ms low g (x.place - 1) last count_was

      past_place : (m : ℕ) → m ≡ packed_merge (mask_of ((system_in table).loc (pile_in table (x.place - 1)))) (packed_before log (last_number t s x)) x.state
          → AtPlace table t log c span g s (stand_at table (x.place - 1) m (last_number t s x) x.left)
      past_place m is =
          let inside : x.place - 1 < t.pile = omega (arith, here_inside at) in
          record {
            ready = at.ready;
            from = omega arith;
            below = omega (arith, at.below);
            letter = refl;
            processes = refl;
            state = is ∙ state_back table t log (stand_at table (x.place - 1) m last x.left) refl refl before before_over (letter_within some_round (x.place - 1) inside) last
                (after_bytes some_round (x.place - 1) inside last last_inside) x.state (at.state ∙ ap (λ (h : Group). packed (zeroed_group (processes_of_table t) h)) along_was) taken_was.2;
            taken = taken_was.0;
          }

      pub past_back : (y : Stand) → y ≡ returned table t log s x → Past table t log c span g s y
      unfolding returned
      past_back y e = subst (Past table t log c span g s) (sym e) (record {
        at = past_place _ refl;
        inside = last_inside;
        reads = taken_was.2;
        left = λ round lent. left_none round lent
            ∙ ap (λ (l : List ℕ). first_accepting acc (paths_left table log round low g l [])) trail_was
            ∙ ap (first_accepting acc) (left_more table t log c round ms low g (x.place - 1) last [] count_was);
      })

      back_falls : (y z : Stand) → y ≡ returned table t log s x → z ≡ followed log c y x.left → weight z < weight x
      unfolding returned followed
      back_falls y z e is = subst (λ (z : Stand). weight z < weight x) (sym (is ∙ ap (λ (y : Stand). followed log c y x.left) e)) (omega arith)

      pub turn_back : (y z : Stand) → y ≡ returned table t log s x → z ≡ followed log c y x.left → Turned table t log c span g x s s (Continue z)
      turn_back y z e is = record { same = outside_none 128 stack_at s; to = (past_way (past_back y e) x.left z is, back_falls y z e is) }
