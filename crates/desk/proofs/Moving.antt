-- What the calls of a desk come to: refused, fired, saved, returned, forgotten.
use mathlib.Core.Path.{◌≡◌, refl, ap, ap₂, sym, subst, ◌∙◌}
use mathlib.Core.Bool.{Bool, true, false, false≢true}
use mathlib.Core.Option.{Option, none, some}
use mathlib.Core.List.{List, [], ◌∷◌, map}
use Prim.Native.Nat.{ℕ, zero, suc, ◌<◌}
use native.Mathlib.Omega.{arith}
use lib.ListN.{length, get_or, set, length-set, get_or-map}
use lib.Dec.{eqb}
use borrow.Author.Tests.{eqb-false}
use Rattle.std.specs.Prelude.{Ok, Err}
use Rattle.model.specs.Calls.{halt_at, halt_end, refuse, walk_from}
use Rattle.desk_model.specs.Desks.{Call, fires, saves, returns, forgets, Contents, DeskOutcome, Told, after, checks, count_ceiling, counts_after, desk_call, desk_pile, findings, fired_to, first_stop, moved_to, name_count, named, outcome, stop_of, stop_or_pass, tells, told_refusal, uncounted}
use Rattle.desk_model.specs.Desks as Desks
use Rattle.model.specs.Lists.{Each, is_missing, value_or}
use Rattle.model.specs.Groups.{Processes, processes_of}
use Rattle.model.specs.Participation.{rule_processes, with_step}
use Rattle.model.specs.Systems.{Configuration, System}
use Rattle.model.specs.declared.Refusal.{Refusal}
use Rattle.model.proofs.Groups.{bits_back}
use Rattle.desk_model.proofs.DeskChecks.{fire_passes, fire_stops, not_beyond, not_empty}
use Rattle.model.proofs.Lists.{each_place}
use Rattle.model.proofs.Tests.{by_test}
use Rattle.firing.specs.declared.Fired.{Fired}
use Rattle.model.specs.declared.Placed.{Placed}
use Rattle.firing.specs.Piles.{configuration}
use Rattle.steps.specs.Stepping.{StepRefused, StepTaken}
use Rattle.desk.specs.declared.Desk.{Desk}
use Rattle.desk.specs.declared.Named.{Named}
use Rattle.desk.specs.Checking.{name_findings}
use Rattle.desk.specs.Promises.{Good, GoodName, Moves, nowhere, outcome_of, saved_in, shown, system_on, table_of}

-- ---- lists
map_set : {A B : Type 0} (f : A → B) (l : List A) (i : ℕ) (v : A) → map f (set l i v) ≡ set (map f l) i (f v)
map_set f [] i v = refl
map_set f (x ∷ l) zero v = refl
map_set f (x ∷ l) (suc i) v = ap (λ m. f x ∷ m) (map_set f l i v)

each_set : {A : Type 0} (P : A → Type 0) (l : List A) (i : ℕ) (v : A) → Each P l → P v → Each P (set l i v)
each_set P [] i v e p = e
each_set P (x ∷ l) zero v e p = (p, e.1)
each_set P (x ∷ l) (suc i) v e p = (e.0, each_set P l i v e.1 p)

-- ---- the desk elsewhere, and the desk with other names
abbrev pub moved : Desk → Placed → List ℕ → List ℕ → Desk
moved d p counts pile = record { size = d.size; table = d.table; placed = p; counts = counts; bytes = d.bytes; pile = pile; names = d.names }

abbrev pub renamed : Desk → List Named → Desk
renamed d names = record { size = d.size; table = d.table; placed = d.placed; counts = d.counts; bytes = d.bytes; pile = d.pile; names = names }

-- what is read behind the last name
abbrev pub past : Named
past = record { held = false; placed = nowhere; pile = [] }

-- ---- a stop, as code gives it
numbered : (n : ℕ) → eqb n 0 ≡ false → stop_or_pass n ≡ refuse n 0
numbered zero e = absurd (eqb-false 0 0 e refl)
numbered (suc n) e = refl

passes : (n : ℕ) (x : Unit) → stop_or_pass n ≡ Ok x → n ≡ 0
passes zero x e = refl
passes (suc n) x e = let z : ◌≡◌ {A = ℕ} 0 1 = cc in absurd (omega arith)

outcome_stopped : (n : ℕ) (r : Refusal) (s : Contents) (o : DeskOutcome) → stop_or_pass n ≡ Err r → outcome n s o ≡ record { told = Told.Refused r.number r.place; contents = s }
outcome_stopped zero r s o e = let z : ◌≡◌ {A = ℕ} 0 1 = cc in absurd (omega arith)
outcome_stopped (suc n) r s o e =
    let same : record { number = suc n; place = 0 } ≡ r = cc e in
    ap (λ (x : Refusal). record { told = Told.Refused x.number x.place; contents = s }) same

four_counts : (L : Processes) (counts : List ℕ) → length (with_step count_ceiling L counts) ≡ 4
unfolding with_step
four_counts L counts = refl

-- what a call tells that no check stops is no refusal
tells_done : (sys : System) (c : Call) → told_refusal (tells sys c) ≡ 0
tells_done sys (fires n) = refl
tells_done sys (saves a) = refl
tells_done sys (returns a) = refl
tells_done sys (forgets a) = refl

module _ (d : Desk) (g : Good d) where
  -- ---- refused or done
  -- the call's outcome where no check stops it
  abbrev passed : Call → DeskOutcome
  passed c = record { told = tells (system_on d) c; contents = after (system_on d) (shown d) c }

  pub moves_stopped : (c : Call) (r : Refusal) → stop_or_pass (stop_of (system_on d) (shown d) c) ≡ Err r → Moves c d (Told.Refused r.number r.place) d
  unfolding desk_call
  moves_stopped c r e =
      let o : outcome_of c d ≡ record { told = Told.Refused r.number r.place; contents = shown d } = outcome_stopped (stop_of (system_on d) (shown d) c) r (shown d) (passed c) e in
      record {
        answer = sym (ap (λ (x : DeskOutcome). x.told) o);
        leaves = record { contents = sym (ap (λ (x : DeskOutcome). x.contents) o); table = refl; copy = refl; unchanged = λ x. refl; good = g };
      }

  moves_done : (c : Call) (d' : Desk) → stop_of (system_on d) (shown d) c ≡ 0 → shown d' ≡ after (system_on d) (shown d) c → table_of d' ≡ table_of d → d'.bytes ≡ d.bytes → Good d' → Moves c d (tells (system_on d) c) d'
  unfolding desk_call
  moves_done c d' e s q b h =
      let o : outcome_of c d ≡ passed c = ap (λ (k : ℕ). outcome k (shown d) (passed c)) e in
      record {
        answer = sym (ap (λ (x : DeskOutcome). x.told) o);
        leaves = record {
          contents = s ∙ sym (ap (λ (x : DeskOutcome). x.contents) o);
          table = q;
          copy = b;
          unchanged = λ z. absurd (z (ap (λ (x : DeskOutcome). told_refusal x.told) o ∙ tells_done (system_on d) c));
          good = h;
        };
      }

  -- ---- firing
  module _ (n : ℕ) (pile' counts : List ℕ) where
    pub moves_unfired : (number : ℕ) → StepRefused (system_on d) n d.placed d.pile pile' number → counts ≡ d.counts → Moves (fires n) d (Told.Refused number 0) (moved d d.placed counts pile')
    moves_unfired number s q =
        let stop : stop_of (system_on d) (shown d) (fires n) ≡ number = fire_stops (system_on d) (shown d) n number
        (subst (λ (k : ℕ). walk_from (system_on d) k 0 (n ∷ []) (shown d).here ≡ halt_at number 0 (n ∷ []) (shown d).here) g.size (s.halt 0 [])) in
        subst (Moves (fires n) d (Told.Refused number 0)) (sym (ap₂ (moved d d.placed) q s.leaves))
        (moves_stopped (fires n) (record { number = number; place = 0 }) (ap stop_or_pass stop ∙ numbered number s.numbered))

    pub moves_fired : (f : Fired) → StepTaken (table_of d) d.table n d.placed f d.pile pile' → counts ≡ with_step count_ceiling (processes_of f.processes) d.counts
        → Moves (fires n) d (Told.Fired f.processes) (moved d f.placed counts pile')
    moves_fired f t q =
        let parts : processes_of f.processes ≡ rule_processes (system_on d) n = ap processes_of t.tells ∙ bits_back (rule_processes (system_on d) n) in
        let counts-are : counts ≡ counts_after (system_on d) (shown d) n = q ∙ ap (λ (L : Processes). with_step count_ceiling L d.counts) parts in
        let x = fire_passes (system_on d) (shown d) n (configuration pile' f.placed) (subst (λ (k : ℕ). walk_from (system_on d) k 0 (n ∷ []) (shown d).here ≡ halt_end (system_on d) (configuration pile' f.placed)) g.size (t.onward 0 [])) in
        subst (λ (told : Told). Moves (fires n) d told (moved d f.placed counts pile')) (sym (ap Told.Fired t.tells))
        (moves_done (fires n) (moved d f.placed counts pile') x.0
        (ap (λ (l : List ℕ). moved_to (shown d) l (configuration pile' f.placed)) counts-are ∙ sym (ap (value_or (shown d) (moved_to (shown d) (counts_after (system_on d) (shown d) n))) x.1)) refl refl
        (record { inside = g.inside; holds = g.holds; shape = t.shape; size = t.size ∙ g.size; count = g.count; counts = ap length q ∙ four_counts (processes_of f.processes) d.counts; names = g.names }))

  -- ---- names
  module _ (a : ℕ) where
    pub save_stop : stop_or_pass (first_stop (checks (name_findings a false))) ≡ stop_or_pass (stop_of (system_on d) (shown d) (saves a))
    unfolding findings
    save_stop = refl

    -- a return and a forget ask for a name that is held
    module _ (free : Bool) (is : free ≡ is_missing (named (shown d) a)) where
      held_stop : stop_or_pass (first_stop (checks (name_findings a free))) ≡ stop_or_pass (first_stop (checks (name_findings a (is_missing (named (shown d) a)))))
      held_stop = ap (λ (b : Bool). stop_or_pass (first_stop (checks (name_findings a b)))) is

      pub return_stop : stop_or_pass (first_stop (checks (name_findings a free))) ≡ stop_or_pass (stop_of (system_on d) (shown d) (returns a))
      unfolding findings
      return_stop = held_stop

      pub forget_stop : stop_or_pass (first_stop (checks (name_findings a free))) ≡ stop_or_pass (stop_of (system_on d) (shown d) (forgets a))
      unfolding findings
      forget_stop = held_stop

  module _ (a : ℕ) (h : a < name_count) where
    good_renamed : (v : Named) → GoodName d.table v → Good (renamed d (set d.names a v))
    good_renamed v p = record {
      inside = g.inside;
      holds = g.holds;
      shape = g.shape;
      size = g.size;
      count = length-set d.names a v ∙ g.count;
      counts = g.counts;
      names = each_set (GoodName d.table) d.names a v g.names p;
    }

    names_are : (v : Named) → shown (renamed d (set d.names a v)) ≡ Desks.renamed (shown d) a (saved_in v)
    names_are v = ap (λ (l : List (Option Configuration)). record { here = (shown d).here; names = l; counts = d.counts }) (map_set saved_in d.names a v)

    -- what is saved under the name
    abbrev s : Named
    s = get_or d.names a past

    named_is : (x : Option Configuration) → saved_in (get_or d.names a past) ≡ x → named (shown d) a ≡ x
    named_is x e = get_or-map saved_in d.names a past ∙ e

    held_is : (get_or d.names a past).held ≡ true → named (shown d) a ≡ some (configuration (get_or d.names a past).pile (get_or d.names a past).placed)
    held_is held = named_is (some (configuration s.pile s.placed)) (rw held refl)

    held_of : first_stop (checks (name_findings a (is_missing (named (shown d) a)))) ≡ 0 → (get_or d.names a past).held ≡ true
    held_of z = by_test s.held (λ y. y) (λ y. absurd (not_empty a (is_missing (named (shown d) a)) z (ap is_missing (named_is none (rw y refl)))))

    good_name : GoodName d.table (get_or d.names a past)
    good_name = each_place (GoodName d.table) d.names past a g.names (omega (arith, g.count))

    moves_saved : stop_of (system_on d) (shown d) (saves a) ≡ 0 → Moves (saves a) d Told.Done (renamed d (set d.names a (record { held = true; placed = d.placed; pile = d.pile })))
    moves_saved z =
        let v : Named = record { held = true; placed = d.placed; pile = d.pile } in
        moves_done (saves a) (renamed d (set d.names a v)) z (names_are v) refl refl
        (good_renamed v (record { size = g.size; shape = λ e. g.shape }))

    moves_returned : stop_of (system_on d) (shown d) (returns a) ≡ 0 → Moves (returns a) d Told.Done (moved d (get_or d.names a past).placed uncounted (get_or d.names a past).pile)
    unfolding findings
    moves_returned z =
        moves_done (returns a) (moved d s.placed uncounted s.pile) z
        (sym (ap (value_or (shown d) (moved_to (shown d) uncounted)) (held_is (held_of z)))) refl refl
        (record { inside = g.inside; holds = g.holds; shape = good_name.shape (held_of z); size = good_name.size; count = g.count; counts = refl; names = g.names })

    moves_forgotten : stop_of (system_on d) (shown d) (forgets a) ≡ 0
        → Moves (forgets a) d Told.Done (renamed d (set d.names a (record { held = false; placed = (get_or d.names a past).placed; pile = (get_or d.names a past).pile })))
    moves_forgotten z =
        let v : Named = record { held = false; placed = s.placed; pile = s.pile } in
        moves_done (forgets a) (renamed d (set d.names a v)) z (names_are v) refl refl
        (good_renamed v (record { size = good_name.size; shape = λ f. absurd (false≢true f) }))

  -- ---- where no check stops a call about a name
  module _ (a : ℕ) (x : Unit) where
    pub saved : stop_or_pass (first_stop (checks (name_findings a false))) ≡ Ok x → Moves (saves a) d Told.Done (renamed d (set d.names a (record { held = true; placed = d.placed; pile = d.pile })))
    unfolding findings
    saved e = let z = passes _ x e in moves_saved a (not_beyond a _ z) z

    module _ (free : Bool) (is : free ≡ is_missing (named (shown d) a)) (e : stop_or_pass (first_stop (checks (name_findings a free))) ≡ Ok x) where
      pub returned : Moves (returns a) d Told.Done (moved d (get_or d.names a past).placed uncounted (get_or d.names a past).pile)
      unfolding findings
      returned = let z = passes _ x (sym (held_stop a free is) ∙ e) in moves_returned a (not_beyond a _ z) z

      pub forgotten : Moves (forgets a) d Told.Done (renamed d (set d.names a (record { held = false; placed = (get_or d.names a past).placed; pile = (get_or d.names a past).pile })))
      unfolding findings
      forgotten = let z = passes _ x (sym (held_stop a free is) ∙ e) in moves_forgotten a (not_beyond a _ z) z
