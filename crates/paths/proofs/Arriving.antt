-- Bits of the scratch during a search, the ends seen and the states passed, and an arrival at an end: nothing where it adds nothing, else one end and one record more.
use mathlib.Core.Path.{◌≡◌, refl, ap, sym, subst, ◌∙◌, ap₂}
use mathlib.Core.Bool.{Bool, true, false, ◌||◌, cond, or-false, or-true}
use mathlib.Core.Logic.{◌⊎◌, inl, inr, ⊎_elim}
use mathlib.Core.List.{List, [], ◌∷◌, ◌++◌, map}
use Prim.Native.Nat.{ℕ, ◌+◌, ◌*◌, ◌/◌, ◌<◌, ◌≤◌, zero, suc, min}
use native.Mathlib.Omega.{arith}
use lib.Dec.{eqb, ltb}
use lib.ListN.{drop, get_or, length, take}
use lib.Seq.{get_or-set_other}
use borrow.Author.Tests.{eq-eqb, eqb-false, eqb-true, ne_eqb}
use Rattle.model.specs.declared.Group.{Group}
use Rattle.model.specs.Lists.{Each, filter}
use Rattle.model.specs.Log.{Candidate, Path, Record, paths, added_record, no_number}
use Rattle.model.specs.Groups.{restrict}
use Rattle.model.specs.Tables.{written_places}
use Rattle.searches.specs.Searches.{fresh_paths}
use Rattle.searches.proofs.FreshPaths.{fresh_paths_lem, found_paths, path_fresh}
use Rattle.model.proofs.Lists.{each_map}
use Rattle.model.proofs.Tests.{by_test, or_left}
use Rattle.states.specs.StateNumbers.{Over, state_count, state_number}
use Rattle.states.specs.StateSets.{inserted, member, set_length}
use Rattle.states.proofs.StateNumbers.{number_injective, state_number_below}
use Rattle.states.proofs.StateSets.{length_inserted, member_inserted}
use Rattle.scratch.specs.Regions.{passed_at, passed_bit, passed_end, seen_at, seen_bit}
use Rattle.records.specs.declared.Entry.{Entry}
use Rattle.records.specs.Entries.{padded, record_entry, with_entry}
use Rattle.packs.specs.Packs.{packed_number, packed_restrict, unpacked}
use Rattle.packs.proofs.Unpacked.{number_unpacked, restrict_below, restrict_unpacked}
use Rattle.paths.specs.declared.Job.{Job}
use Rattle.paths.specs.declared.Trail.{Trail}
use Rattle.paths.specs.Arrivals.{end_number, hit, stored, taken}
use Rattle.paths.specs.Jobs.{Begins, Lookable, Passable, PassedRight, is_passed, job_loc, job_processes, job_word, made, offers, seen_in, Searchable, Searched, Standing, arrivals, end_entry, glances, known, stored_end, with_end}
use Rattle.paths.proofs.Turns.{lookable_kept}
use Rattle.paths.proofs.Arrivals.{hit_own, hit_seen, taken_none}

-- ---- one bit more
byte_kept : (s : List ℕ) (n i : ℕ) → (i ≡ n / 8 → ⊥) → get_or (inserted s n) i 0 ≡ get_or s i 0
unfolding inserted
byte_kept s n i ne = get_or-set_other s (n / 8) i _ 0 ne

-- an end more, where bits are set below the states passed
module _ (s : List ℕ) (x : ℕ) (small : x < state_count) (room : passed_end ≤ length s) where
  pub seen_more : (y : ℕ) → seen_in (inserted s (seen_bit x)) y ≡ (eqb y x || seen_in s y)
  seen_more y = member_inserted s (seen_bit x) (seen_bit y) (omega arith) ∙ ap (λ (b : Bool). b || seen_in s y) same
    where
      same : eqb (seen_bit y) (seen_bit x) ≡ eqb y x
      same = by_test (eqb y x) (λ t. eq-eqb (seen_bit y) (seen_bit x) (ap seen_bit (eqb-true y x t)) ∙ sym t) (λ f. ne_eqb (seen_bit y) (seen_bit x) (λ e. eqb-false y x f (omega arith)) ∙ sym f)

  pub seen_bytes : (i : ℕ) → seen_at + set_length ≤ i → get_or (inserted s (seen_bit x)) i 0 ≡ get_or s i 0
  seen_bytes i h = byte_kept s (seen_bit x) i (λ e. omega arith)

  pub seen_passed : (level : ℕ) (found : Bool) (m : ℕ) → member (inserted s (seen_bit x)) (passed_bit level found m) ≡ member s (passed_bit level found m)
  seen_passed level found m = member_inserted s (seen_bit x) (passed_bit level found m) (omega arith) ∙ ap (λ (b : Bool). b || member s (passed_bit level found m)) (ne_eqb (passed_bit level found m) (seen_bit x) (λ e. omega arith))

-- ---- an end is noted
pub end_seen : (held : ℕ → Bool) (s : List ℕ) (x : ℕ) → seen_in s x ≡ true → (true ≡ known held s x) × (s ≡ with_end s x)
end_seen held s x y = (rw y refl, rw y refl)

pub end_new : (held : ℕ → Bool) (s : List ℕ) (x : ℕ) {s' : List ℕ} {r : Bool} → seen_in s x ≡ false → r ≡ held x → s' ≡ inserted s (seen_bit x) → (r ≡ known held s x) × (s' ≡ with_end s x)
end_new held s x n e q = (rw n e, rw n q)

-- the keys may still be looked up
pub keys_noted : {job : Job} {log s s' : List ℕ} (x : ℕ) → x < state_count → Searchable job log s → s' ≡ inserted s (seen_bit x) → Lookable job log s'
keys_noted {job} {log} {s} x small w q =
    let room : passed_end ≤ length s = omega (arith, w.room.room) in
    lookable_kept job log s log _ refl w.room.fits refl (ap length q ∙ length_inserted s (seen_bit x)) (λ i h. ap (λ (l : List ℕ). get_or l i 0) q ∙ seen_bytes s x small room i (omega arith)) w.keys

-- ---- what is passed stays right
-- more ends seen, the same states passed
pub passed_kept : (job : Job) (log : List Record) (s s' : List ℕ) → ((x : ℕ) → x < state_count → seen_in s x ≡ true → seen_in s' x ≡ true)
    → ((level : ℕ) (found : Bool) (m : ℕ) → level < job.count → m < state_count → member s' (passed_bit level found m) ≡ member s (passed_bit level found m)) → PassedRight job log s → PassedRight job log s'
passed_kept job log s s' more same f level found m l b y g o e =
    each_map (λ (c : Candidate). seen_in s (end_number c) ≡ true) (λ (c : Candidate). seen_in s' (end_number c) ≡ true) (λ c v. more (end_number c) (state_number_below c.key.after) v)
    (offers job log level found g []) (f level found m l b (sym (same level found m l b) ∙ y) g o e)

-- ---- one state more
-- the bit of another depth, flag or state is another
bit_other : (level level' m m' : ℕ) (found found' : Bool) → m < state_count → m' < state_count → passed_bit level found m ≡ passed_bit level' found' m' → (level ≡ level') × (found ≡ found') × (m ≡ m')
bit_other level level' m m' true true h k e = (omega arith, refl, omega arith)
bit_other level level' m m' false false h k e = (omega arith, refl, omega arith)
bit_other level level' m m' true false h k e = absurd (omega arith)
bit_other level level' m m' false true h k e = absurd (omega arith)

bit_inside : (level m : ℕ) (found : Bool) → level < written_places → m < state_count → (8 * passed_at + 8192 * level ≤ passed_bit level found m) × (passed_bit level found m < 8 * passed_end)
bit_inside level m true l h = (omega arith, omega arith)
bit_inside level m false l h = (omega arith, omega arith)

-- what noting a state leaves
module _ (s : List ℕ) (level : ℕ) (found : Bool) (m : ℕ) (p : Passable s level m) where
  inside : (8 * passed_at + 8192 * level ≤ passed_bit level found m) × (passed_bit level found m < 8 * passed_end)
  inside = bit_inside level m found p.place p.small

  -- the sets of the first depth stay
  pub pass_bytes : 0 < level → (i : ℕ) → (i < passed_at + 2 * set_length) ⊎ (passed_end ≤ i) → get_or (inserted s (passed_bit level found m)) i 0 ≡ get_or s i 0
  pass_bytes deep i h = byte_kept s (passed_bit level found m) i (λ e. ⊎_elim (λ (q : i < passed_at + 2 * set_length). omega (arith, inside.0)) (λ (q : passed_end ≤ i). omega (arith, inside.1)) h)

  pub pass_seen : (x : ℕ) → x < state_count → seen_in (inserted s (passed_bit level found m)) x ≡ seen_in s x
  pass_seen x h = member_inserted s (passed_bit level found m) (seen_bit x) (omega (arith, inside.1, p.room)) ∙ ap (λ (v : Bool). v || seen_in s x) (ne_eqb (seen_bit x) (passed_bit level found m) (λ e. omega (arith, inside.0)))

  -- the bits after it are those before it, and that of the state
  pass_bit : (k : ℕ) (b : Bool) (j : ℕ) → member (inserted s (passed_bit level found m)) (passed_bit k b j) ≡ true → (member s (passed_bit k b j) ≡ true) ⊎ (passed_bit k b j ≡ passed_bit level found m)
  pass_bit k b j e = by_test (eqb (passed_bit k b j) (passed_bit level found m)) (λ y. inr (eqb-true (passed_bit k b j) (passed_bit level found m) y))
      (λ q. inl (let v : (eqb (passed_bit k b j) (passed_bit level found m) || member s (passed_bit k b j)) ≡ true = sym (member_inserted s (passed_bit level found m) (passed_bit k b j) (omega (arith, inside.1, p.room))) ∙ e in rw q at v))

-- the ends do not depend on the path so far
each_joined : (job : Job) (Q : ℕ → Type 0) (pre pre' : List ℕ) (ps : List Path) → Each (λ (c : Candidate). Q (end_number c)) (map (λ (p : Path). made job (pre ++ p.numbers) p.end) ps) → Each (λ (c : Candidate). Q (end_number c)) (map (λ (p : Path). made job (pre' ++ p.numbers) p.end) ps)
each_joined job Q pre pre' [] e = tt
each_joined job Q pre pre' (p ∷ ps) e = (e.0, each_joined job Q pre pre' ps e.1)

-- a state all of whose ends were seen may be noted
passed_more : (job : Job) (log : List Record) (s : List ℕ) (level : ℕ) (found : Bool) (g : Group) (pre : List ℕ) → Passable s level (state_number g) → Over (job_processes job) g
    → Each (λ (c : Candidate). seen_in s (end_number c) ≡ true) (offers job log level found g pre) → PassedRight job log s → PassedRight job log (inserted s (passed_bit level found (state_number g)))
passed_more job log s level found g pre p over all right k b j h small y g' o e =
    each_map (λ (c : Candidate). seen_in s (end_number c) ≡ true) (λ (c : Candidate). seen_in (inserted s (passed_bit level found (state_number g))) (end_number c) ≡ true)
    (λ c v. pass_seen s level found (state_number g) p (end_number c) (state_number_below c.key.after) ∙ v)
    (offers job log k b g' [])
    (⊎_elim (λ (q : member s (passed_bit k b j) ≡ true). right k b j h small q g' o e) this (pass_bit s level found (state_number g) p k b j y))
  where
    this : passed_bit k b j ≡ passed_bit level found (state_number g) → Each (λ (c : Candidate). seen_in s (end_number c) ≡ true) (offers job log k b g' [])
    this q =
        let same = bit_other k level j (state_number g) b found small (state_number_below g) q in
        let state : g ≡ g' = number_injective (job_processes job) g g' over o (sym (e ∙ same.2)) in
        subst (λ (i : ℕ). Each (λ (c : Candidate). seen_in s (end_number c) ≡ true) (offers job log i b g' [])) (sym same.0)
        (subst (λ (v : Bool). Each (λ (c : Candidate). seen_in s (end_number c) ≡ true) (offers job log level v g' [])) (sym same.1)
        (subst (λ (x : Group). Each (λ (c : Candidate). seen_in s (end_number c) ≡ true) (offers job log level found x [])) state
        (each_joined job (λ (x : ℕ). seen_in s x ≡ true) pre [] (fresh_paths (job_loc job) log job.lo found (drop level (job_word job)) g) all)))

-- a state that was searched may be noted
pub searched_passed : (job : Job) (held : ℕ → Bool) (level : ℕ) (found : Bool) (g : Group) (pre : List ℕ) {count : ℕ} {log s : List ℕ} {count' : ℕ} {log' s' : List ℕ}
    → 0 < level → Passable s' level (state_number g) → Over (job_processes job) g
    → Searched job held (offers job (glances log job.base) level found g pre) count log s count' log' s'
    → Searched job held (offers job (glances log job.base) level found g pre) count log s count' log' (inserted s' (passed_bit level found (state_number g)))
searched_passed job held level found g pre {log = log} {s = s} {s' = s'} deep p over d =
    record {
      counted = d.counted;
      written = d.written;
      seen = λ x h. pass_seen s' level found (state_number g) p x h ∙ d.seen x h;
      scratch_length = length_inserted s' (passed_bit level found (state_number g)) ∙ d.scratch_length;
      kept = λ i a b. pass_bytes s' level found (state_number g) p deep i (inl b) ∙ d.kept i a b;
      outside = λ i a. pass_bytes s' level found (state_number g) p deep i (inr a) ∙ d.outside i a;
      passed = passed_more job (glances log job.base) s' level found g pre p over all_seen d.passed;
    }
  where
    all_seen : Each (λ (c : Candidate). seen_in s' (end_number c) ≡ true) (offers job (glances log job.base) level found g pre)
    all_seen =
        let cs = offers job (glances log job.base) level found g pre in
        each_map (λ (c : Candidate). hit cs (end_number c) ≡ true) (λ (c : Candidate). seen_in s' (end_number c) ≡ true)
        (λ c y. d.seen (end_number c) (state_number_below c.key.after) ∙ rw y (or-true (seen_in s (end_number c)))) cs (hit_own cs)

-- ---- a state that was passed leads to nothing new
each_filter : (job : Job) (Q : ℕ → Type 0) (f : Path → Bool) (ps : List Path) → Each (λ (c : Candidate). Q (end_number c)) (map (λ (p : Path). made job ([] ++ p.numbers) p.end) ps) → Each (λ (c : Candidate). Q (end_number c)) (map (λ (p : Path). made job ([] ++ p.numbers) p.end) (filter f ps))
each_filter job Q f [] e = tt
each_filter job Q f (p ∷ ps) e = by_test (f p) (λ y. rw y (e.0, each_filter job Q f ps e.1)) (λ n. rw n (each_filter job Q f ps e.1))

pub passed_seen : (job : Job) (log : List Record) (s : List ℕ) (level : ℕ) (found : Bool) (g : Group) (pre : List ℕ) → level < job.count → Over (job_processes job) g → PassedRight job log s → is_passed s level found (state_number g) ≡ true
    → Each (λ (c : Candidate). seen_in s (end_number c) ≡ true) (offers job log level found g pre)
unfolding is_passed
passed_seen job log s level found g pre l over right y = each_joined job (λ (x : ℕ). seen_in s x ≡ true) [] pre (fresh_paths (job_loc job) log job.lo found (drop level (job_word job)) g) (by_test (member s (passed_bit level true (state_number g)))
    (λ t. narrower (right level true (state_number g) l (state_number_below g) t g over refl))
    (λ n. right level found (state_number g) l (state_number_below g) (rw n at y) g over refl))
  where
    -- the paths with a record of the last round are some of all paths
    narrower : Each (λ (c : Candidate). seen_in s (end_number c) ≡ true) (offers job log level true g []) → Each (λ (c : Candidate). seen_in s (end_number c) ≡ true) (offers job log level found g [])
    narrower e =
        rw (fresh_paths_lem (job_loc job) job.lo log found (drop level (job_word job)) g)
        (each_filter job (λ (x : ℕ). seen_in s x ≡ true) (path_fresh job.lo found) (paths (job_loc job) log (drop level (job_word job)) g)
        (subst (λ (ps : List Path). Each (λ (c : Candidate). seen_in s (end_number c) ≡ true) (map (λ (p : Path). made job ([] ++ p.numbers) p.end) ps)) (found_paths (job_loc job) job.lo log (drop level (job_word job)) g) e))

-- candidates whose ends were all seen change nothing
pub searched_nothing : (job : Job) (held : ℕ → Bool) (cs : List Candidate) (count : ℕ) (log s : List ℕ) → count ≤ job.n + 1 → Each (λ (c : Candidate). seen_in s (end_number c) ≡ true) cs → PassedRight job (glances log job.base) s
    → Searched job held cs count log s count log s
searched_nothing job held cs count log s few all right =
    let none : taken (known held s) cs ≡ [] = taken_none (known held s) cs
    (each_map (λ (c : Candidate). seen_in s (end_number c) ≡ true) (λ (c : Candidate). known held s (end_number c) ≡ true) (λ c y. ap (λ (b : Bool). b || held (end_number c)) y) cs all) in
    record {
      counted = omega (arith, ap length none);
      written = sym (ap (λ (l : List Candidate). stored job.n log count (map (added_record job.round (glances log job.base)) l)) none);
      seen = λ x h. hit_seen (seen_in s) cs all x;
      scratch_length = refl;
      kept = λ i a b. refl;
      outside = λ i a. refl;
      passed = right;
    }

-- ---- the record of an end
module _ {job : Job} {state : ℕ} {trail : Trail} {count : ℕ} {log s : List ℕ} (begins : Begins job job.count state trail count log s) where
  abbrev ready : Searchable job log s
  ready = begins.ready

  abbrev stands : Standing job log job.count state trail
  stands = begins.stands

  abbrev after : ℕ
  after = packed_restrict job.mask state

  abbrev new : Candidate
  new = made job (take job.count trail.places) (unpacked state)

  after_is : unpacked after ≡ restrict (job_processes job) (unpacked state)
  after_is = ap (λ (m : ℕ). unpacked (packed_restrict m state)) ready.own ∙ restrict_unpacked (job_processes job) state stands.packed

  end_is : packed_number after ≡ end_number new
  end_is = number_unpacked after (rw ready.own (restrict_below (job_processes job) state stands.packed)) ∙ ap state_number after_is

  -- the places behind the path's end are those of no record
  padded_is : (k c : ℕ) (ps : List ℕ) → length ps ≡ k → ((j : ℕ) → c ≤ j → j < k → get_or ps j no_number ≡ no_number) → padded k (take c ps) ≡ ps
  padded_is zero c [] e f = refl
  padded_is zero c (p ∷ ps) e f = absurd (omega arith)
  padded_is (suc k) c [] e f = absurd (omega arith)
  padded_is (suc k) zero (p ∷ ps) e f = ap₂ (λ (x : ℕ) (xs : List ℕ). x ∷ xs) (sym (f 0 (omega arith) (omega arith))) (padded_is k zero ps (omega arith) (λ j a b. f (suc j) (omega arith) (omega arith)))
  padded_is (suc k) (suc c) (p ∷ ps) e f = ap (λ (xs : List ℕ). p ∷ xs) (padded_is k c ps (omega arith) (λ j a b. f (suc j) (omega arith) (omega arith)))

  entry_is : record_entry (added_record job.round (glances log job.base) new) ≡ end_entry job after trail
  unfolding record_entry
  entry_is = λ i. record {
    letter = job.letter;
    before = unpacked job.before;
    after = sym after_is i;
    round = job.round;
    rule = job.rule;
    path = padded_is written_places job.count trail.places stands.size stands.spare i;
    steps = sym stands.steps i;
  }

  stored_is : stored_end log job after trail count ≡ stored job.n log count (added_record job.round (glances log job.base) new ∷ [])
  unfolding stored_end
  stored_is = ap (λ (e : Entry). cond (ltb count job.n) (with_entry log count e) log) (sym entry_is)

  -- ---- what an arrival leaves
  module _ (held : ℕ → Bool) where
    pub arrived_stale : {found : Bool} → found ≡ false → Searched job held (arrivals job found state trail) count log s count log s
    arrived_stale f = rw f (searched_nothing job held [] count log s begins.few tt ready.passed)

    -- the end is noted, and what is taken of it written
    module _ {y x : ℕ} {s' : List ℕ} (y-is : y ≡ packed_restrict job.mask state) (x_is : x ≡ packed_number y) (q : s' ≡ with_end s x) where
      number_is : x ≡ end_number new
      number_is = x_is ∙ ap packed_number y-is ∙ end_is

      small : x < state_count
      small = rw number_is (state_number_below new.key.after)

      room : passed_end ≤ length s
      room = omega (arith, ready.room.room)

      turned : (z : ℕ) → (eqb z x || seen_in s z) ≡ (seen_in s z || (eqb z (end_number new) || false))
      turned z = ap (λ (k : ℕ). eqb z k || seen_in s z) number_is ∙ swap (eqb z (end_number new)) (seen_in s z)
        where
          swap : (a b : Bool) → (a || b) ≡ (b || (a || false))
          swap true b = sym (or-true b)
          swap false b = sym (or-false b)

      noted : (ds : List Candidate) → taken (known held s) (new ∷ []) ≡ ds → seen_in s x ≡ false → {count' : ℕ} {log' : List ℕ} → count' ≡ min (count + length ds) (job.n + 1)
          → log' ≡ stored job.n log count (map (added_record job.round (glances log job.base)) ds) → Searched job held (new ∷ []) count log s count' log' s'
      noted ds one n counted written =
          let is : s' ≡ inserted s (seen_bit x) = rw n at q in
          rw is (record {
            counted = counted ∙ ap (λ (l : List Candidate). min (count + length l) (job.n + 1)) (sym one);
            written = written ∙ ap (λ (l : List Candidate). stored job.n log count (map (added_record job.round (glances log job.base)) l)) (sym one);
            seen = λ z h. seen_more s x small room z ∙ turned z;
            scratch_length = length_inserted s (seen_bit x);
            kept = λ i a b. seen_bytes s x small room i a;
            outside = λ i a. seen_bytes s x small room i (omega arith);
            passed = passed_kept job (glances log job.base) s (inserted s (seen_bit x)) (λ z h v. seen_more s x small room z ∙ rw v (or-true (eqb z x))) (λ l g m h b. seen_passed s x small room l g m) ready.passed;
          })

      pub arrived_known : known held s x ≡ true → Searched job held (new ∷ []) count log s count log s'
      arrived_known k = by_test (seen_in s x)
          (λ y. let is : s' ≡ s = rw y at q in
          rw is (searched_nothing job held (new ∷ []) count log s begins.few (subst (λ (z : ℕ). seen_in s z ≡ true) number_is y, tt) ready.passed))
          (λ n. noted [] (rw (ap (known held s) (sym number_is) ∙ k) refl) n (omega (arith, begins.few)) refl)

      pub arrived_new : known held s x ≡ false → {count' : ℕ} {log' : List ℕ} → (count' ≡ min (count + 1) (job.n + 1)) × (log' ≡ stored_end log job y trail count)
          → Searched job held (new ∷ []) count log s count' log' s'
      arrived_new k w = noted (new ∷ []) (rw (ap (known held s) (sym number_is) ∙ k) refl) (or_left (seen_in s x) (held x) k) w.0
          (w.1 ∙ ap (λ (z : ℕ). stored_end log job z trail count) y-is ∙ stored_is)
