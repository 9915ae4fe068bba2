-- The loop of `explore`, in the terms of its variables: a record leads to the rule's end, or to a state that was passed, or to one from which the search goes on.
use mathlib.Core.Path.{◌∙◌, ◌≡◌, ap, ap₂, refl, subst, sym}
use mathlib.Core.Bool.{Bool, ◌||◌, true}
use mathlib.Core.Logic.{◌≢◌}
use mathlib.Core.List.{List, [], ◌∷◌, append-nil, map}
use Prim.Native.Nat.{◌+◌, ◌-◌, ◌<◌, ◌≤◌, suc, ℕ}
use native.Mathlib.Numerals.{add-one}
use native.Mathlib.Omega.{arith}
use lib.Dec.{leb}
use lib.ListN.{get_or, length, take}
use Rattle.model.specs.Log.{Candidate}
use Rattle.model.specs.Tables.{written_places}
use Rattle.searches.specs.Searches.{fresh_paths}
use Rattle.model.proofs.Tests.{by_test}
use Rattle.states.specs.StateNumbers.{state_count, state_number}
use Rattle.states.specs.StateSets.{first_from, inserted}
use Rattle.scratch.specs.Regions.{passed_bit, rings_at}
use Rattle.records.specs.Entries.{HasRecord}
use Rattle.packs.specs.Packs.{packed_merge, packed_number, packed_after, packed_restrict, unpacked}
use Rattle.packs.proofs.Unpacked.{number_unpacked}
use Rattle.rings.specs.Rings.{RingRoom, Ringed, record_reads}
use Rattle.paths.specs.declared.Job.{Job}
use Rattle.paths.specs.declared.Trail.{Trail}
use Rattle.paths.specs.Jobs.{Begins, Lengthens, Passable, Searchable, Searched, arrivals, first_tried, glances, held_by, is_passed, job_loc, longer_trail, made, offers}
use Rattle.paths.proofs.Arriving.{searched_nothing, searched_passed, passed_seen}
use Rattle.paths.proofs.Glances.{reads_same}
use Rattle.paths.proofs.Turns.{Going, by_record, earlier, going_count, going_end, going_ready, going_stands, going_start, going_turn, joined, log_size, word_end}

-- what the search from a state comes to
abbrev pub Explored : Job → ℕ → ℕ → Bool → Trail → ℕ → List ℕ → List ℕ → ℕ → List ℕ → List ℕ → Type 0
Explored job level state found trail count log s count' log' s' = Searched job (held_by job log) (offers job (glances log job.base) level found (unpacked state) (take level trail.places)) count log s count' log' s'

-- ---- without the loop
module _ {job : Job} {level state : ℕ} (found : Bool) {trail : Trail} {count : ℕ} {log s : List ℕ} (begins : Begins job level state trail count log s) where
  -- at the word's end there is one path, the empty one
  pub explored_end : {count' : ℕ} {log' s' : List ℕ} → level ≡ job.count → Searched job (held_by job log) (arrivals job found state trail) count log s count' log' s'
      → Explored job level state found trail count log s count' log' s'
  explored_end {count'} {log'} {s'} e d = subst (λ (cs : List Candidate). Searched job (held_by job log) cs count log s count' log' s') (sym one) d
    where
      one : offers job (glances log job.base) level found (unpacked state) (take level trail.places) ≡ arrivals job found state trail
      one = ap (λ (k : ℕ). offers job (glances log job.base) k found (unpacked state) (take k trail.places)) e
          ∙ ap (λ (w : List ℕ). map (joined job (take job.count trail.places)) (fresh_paths (job_loc job) (glances log job.base) job.lo found w (unpacked state))) (word_end job (omega (arith, begins.ready.few, begins.ready.letters)))
          ∙ by_test found (λ y. rw y (ap (λ (ns : List ℕ). made job ns (unpacked state) ∷ []) (append-nil (take job.count trail.places)))) (λ n. rw n refl)

  number_is : {x : ℕ} → x ≡ packed_number state → x ≡ state_number (unpacked state)
  number_is e = e ∙ number_unpacked state begins.stands.packed

  -- a state that was passed
  explored_passed : {x : ℕ} → level < job.count → x ≡ packed_number state → is_passed s level found x ≡ true → Explored job level state found trail count log s count log s
  explored_passed more e y =
      searched_nothing job (held_by job log) (offers job (glances log job.base) level found (unpacked state) (take level trail.places)) count log s begins.few
      (passed_seen job (glances log job.base) s level found (unpacked state) (take level trail.places) more begins.stands.over begins.ready.passed
      (subst (λ (m : ℕ). is_passed s level found m ≡ true) (number_is e) y)) begins.ready.passed

  -- a state that was searched is noted
  explored_noted : {x count' : ℕ} {log' s' s'' : List ℕ} → 0 < level → x ≡ packed_number state → Passable s' level x → Explored job level state found trail count log s count' log' s'
      → s'' ≡ inserted s' (passed_bit level found x) → Explored job level state found trail count log s count' log' s''
  explored_noted {s' = s'} deep e p d q =
      rw (q ∙ ap (λ (m : ℕ). inserted s' (passed_bit level found m)) (number_is e))
      (searched_passed job (held_by job log) level found (unpacked state) (take level trail.places) deep (subst (Passable s' level) (number_is e) p) begins.stands.over d)

-- ---- the loop
pub record Looping (log₀ s₀ : List ℕ) (job : Job) (level state : ℕ) (found : Bool) (trail : Trail) (count letter mask g base n : ℕ) (log s : List ℕ) (total r : ℕ) : Type 0 where
  pub begins : Begins job level state trail count log₀ s₀
  pub more : level < job.count
  pub is_letter : letter ≡ get_or job.letters level 0
  pub is_mask : mask ≡ get_or job.masks level 0
  pub is_key : g ≡ packed_restrict (get_or job.masks level 0) state
  pub is_base : base ≡ job.base
  pub is_n : n ≡ job.n
  pub going : Going found begins more log s total r

pub looping_start : {log₀ s₀ : List ℕ} {job : Job} {level state : ℕ} {found : Bool} {trail : Trail} {count letter mask g r : ℕ}
    → Begins job level state trail count log₀ s₀ → level < job.count
    → letter ≡ get_or job.letters level 0 → mask ≡ get_or job.masks level 0 → g ≡ packed_restrict mask state
    → r ≡ first_from (record_reads log₀ letter g) (first_tried job level found) (job.base - first_tried job level found)
    → Looping log₀ s₀ job level state found trail count letter mask g job.base job.n log₀ s₀ count r
looping_start {log₀} {job = job} {level} {state} {found} {g = g} begins more l m k q =
    let key_is : g ≡ packed_restrict (get_or job.masks level 0) state = k ∙ ap (λ (y : ℕ). packed_restrict y state) m in
    record {
      begins = begins;
      more = more;
      is_letter = l;
      is_mask = m;
      is_key = key_is;
      is_base = refl;
      is_n = refl;
      going = going_start found begins more (q ∙ ap₂ (λ (a h : ℕ). first_from (record_reads log₀ a h) (first_tried job level found) (job.base - first_tried job level found)) l key_is);
    }

module _ {log₀ s₀ : List ℕ} {job : Job} {level state : ℕ} {found : Bool} {trail : Trail} {count letter mask g base n : ℕ} {log s : List ℕ} {total r : ℕ}
    (o : Looping log₀ s₀ job level state found trail count letter mask g base n log s total r) where
  looping_ready : Searchable job log s
  looping_ready = going_ready found o.begins o.more o.going

  pub looping_level : level < written_places
  looping_level = omega (arith, o.more, o.begins.ready.few)

  pub looping_record : r < base → HasRecord log r
  looping_record h = omega (arith, o.is_base, looping_ready.room.records)

  -- no record is left
  pub looping_end : base ≤ r → Explored job level state found trail count log₀ s₀ total log s
  looping_end h = going_end found o.begins o.more o.going (omega (arith, o.is_base))

  pub looping_log : length log ≡ length log₀
  looping_log = log_size found o.begins o.more o.going

  -- record r leads to the state next
  pub record Turning (y next : ℕ) (new : Bool) : Type 0 where
    pub below : r < base
    pub is_after : y ≡ packed_after log r
    pub is_next : next ≡ packed_merge mask y state
    pub new_is : new ≡ (found || leb job.lo r)

  pub turning : {y next : ℕ} {new : Bool} → r < base → y ≡ packed_after log r → next ≡ packed_merge mask y state → new ≡ (found || leb job.lo r) → Turning y next new
  turning l a n w = record { below = l; is_after = a; is_next = n; new_is = w }

  -- what the search from there comes to
  abbrev pub Turned : ℕ → Bool → ℕ → List ℕ → List ℕ → Type 0
  Turned next new total' log' s' = Explored job (level + 1) next new (longer_trail log trail level r) total log s total' log' s'

  module _ {y next : ℕ} {new : Bool} (t : Turning y next new) where
    below_base : r < job.base
    below_base = omega (arith, t.below, o.is_base)

    next_is : next ≡ packed_merge (get_or job.masks level 0) (packed_after log r) state
    next_is = t.is_next ∙ ap₂ (λ (m y : ℕ). packed_merge m y state) o.is_mask t.is_after

    next_begins : Begins job (level + 1) next (longer_trail log trail level r) total log s
    next_begins = record {
      ready = looping_ready;
      stands = rw (add-one level, next_is) (going_stands found o.begins o.more o.going below_base);
      low = (going_count found o.begins o.more o.going).0;
      few = (going_count found o.begins o.more o.going).1;
    }

    -- the path may grow by the record
    pub next_lengthens : Lengthens log trail level r
    next_lengthens = record {
      place = looping_level;
      number = omega (arith, below_base, o.begins.ready.room.fits, o.begins.ready.room.short);
      holds = looping_record t.below;
      steps = omega (arith, o.begins.stands.steps);
    }

    -- record r reads the last letter
    pub last_begins : level + 1 ≡ job.count → Begins job job.count next (longer_trail log trail level r) total log s × Lengthens log trail level r
    last_begins w = (subst (λ (k : ℕ). Begins job k next (longer_trail log trail level r) total log s) w next_begins, next_lengthens)

    pub last_turned : {total' : ℕ} {log' s' : List ℕ} → level + 1 ≡ job.count → Searched job (held_by job log) (arrivals job new next (longer_trail log trail level r)) total log s total' log' s'
        → Turned next new total' log' s'
    last_turned w d = explored_end new next_begins w d

    -- letters follow it
    module _ (w : level + 1 ≢ job.count) where
      followed : level + 1 < job.count
      followed = omega (arith, o.more, w)

      pub next_passable : {x : ℕ} → x < state_count → Passable s (level + 1) x
      next_passable small = record { place = omega (arith, followed, o.begins.ready.few); small = small; room = omega (arith, looping_ready.room.room) }

      -- the state was passed
      pub passed_turned : {x : ℕ} → x ≡ packed_number next → is_passed s (level + 1) new x ≡ true → Turned next new total log s
      passed_turned i y = explored_passed new next_begins followed i y

      -- the search goes on from it
      module _ {on : Trail} (e : on ≡ longer_trail log trail level r) where
        pub follow_begins : Begins job (level + 1) next on total log s × (level + 1 < job.count)
        follow_begins = (subst (λ (y : Trail). Begins job (level + 1) next y total log s) (sym e) next_begins, followed)

        module _ {x total' : ℕ} {log' s' : List ℕ} (d : Explored job (level + 1) next new on total log s total' log' s') (small : x < state_count) where
          pub follow_passable : Passable s' (level + 1) x
          follow_passable = record { place = (next_passable small).place; small = small; room = omega (arith, (next_passable small).room, d.scratch_length) }

          pub follow_turned : {s'' : List ℕ} → x ≡ packed_number next → s'' ≡ inserted s' (passed_bit (level + 1) new x) → Turned next new total' log' s''
          follow_turned i q = explored_noted new next_begins (omega arith) i follow_passable (subst (λ (y : Trail). Explored job (level + 1) next new y total log s total' log' s') e d) q

    module _ {total' : ℕ} {log' s' : List ℕ} (d : Turned next new total' log' s') where
      searched : Searched job (held_by job log) (by_record found o.begins o.more o.going below_base) total log s total' log' s'
      searched =
          subst (λ (b : Bool). Explored job (suc level) (packed_merge (get_or job.masks level 0) (packed_after log r) state) b (longer_trail log trail level r) total log s total' log' s') t.new_is
          (subst (λ (y : ℕ). Explored job (suc level) y new (longer_trail log trail level r) total log s total' log' s') next_is
          (subst (λ (k : ℕ). Explored job k next new (longer_trail log trail level r) total log s total' log' s') (add-one level) d))

      pub looping_again : {r' : ℕ} → r' ≡ first_from (record_reads log' letter g) (r + 1) (base - (r + 1)) → Looping log₀ s₀ job level state found trail count letter mask g base n log' s' total' r'
      looping_again y = record {
        begins = o.begins;
        more = o.more;
        is_letter = o.is_letter;
        is_mask = o.is_mask;
        is_key = o.is_key;
        is_base = o.is_base;
        is_n = o.is_n;
        going = going_turn found o.begins o.more o.going below_base searched
            (y ∙ ap (λ (k : ℕ). first_from (record_reads log' letter g) k (base - k)) (add-one r)
            ∙ ap (λ (k : ℕ). first_from (record_reads log' letter g) (suc r) (k - suc r)) o.is_base
            ∙ ap₂ (λ (a k : ℕ). first_from (record_reads log' a k) (suc r) (job.base - suc r)) o.is_letter o.is_key);
      }

      again : Looping log₀ s₀ job level state found trail count letter mask g base n log' s' total' (first_from (record_reads log' letter g) (r + 1) (base - (r + 1)))
      again = looping_again refl

      after : Searchable job log' s'
      after = going_ready found again.begins again.more again.going

      -- the next record may be looked for
      pub looping_next : RingRoom log' base n rings_at s' × Ringed log' base n rings_at s' × (r < base) × (record_reads log' letter g r ≡ true)
      looping_next = (
        rw (o.is_base, o.is_n) after.room,
        rw (o.is_base, o.is_n) after.ringed,
        t.below,
        reads_same log₀ log' job.base (earlier found again.begins again.more again.going) letter g r below_base
            ∙ ap₂ (λ (a k : ℕ). record_reads log₀ a k r) o.is_letter o.is_key ∙ o.going.reads below_base,
      )
