-- The loop of the search: the records that read a letter, one after the other.
use mathlib.Core.Path.{◌∙◌, ◌≡◌, ap, ap₂, refl, subst, sym}
use mathlib.Core.Bool.{Bool, ◌&&◌, ◌||◌, false, true, or_assoc, or-false}
use mathlib.Core.Logic.{⊎_elim}
use mathlib.Core.List.{List, Memᴰ, [], ◌++◌, ◌∷◌, append_assoc, append-nil, map}
use Prim.Native.Nat.{◌*◌, ◌+◌, ◌-◌, ◌<◌, ◌≤◌, min, suc, ℕ}
use native.Mathlib.Nat.{le_refl}
use native.Mathlib.Omega.{arith}
use lib.Dec.{eqb, leb}
use lib.ListN.{drop, drop_of_length-le, get_or, length, length-append, length-drop, length-map, length-set, length-take, set, take}
use lib.Seq.{drop-cons, get_or-drop, get_or-set_other, get_or-take, take-suc-set}
use borrow.Author.Tests.{eqb-true, ltb-false}
use Rattle.model.specs.declared.Group.{Group}
use Rattle.model.specs.Automata.{move}
use Rattle.model.specs.Groups.{merge, restrict, same_group}
use Rattle.model.specs.Lists.{sum_over}
use Rattle.model.specs.Log.{Candidate, Path, Record, added_record, no_number, push, reads_at, record_at, steps_cap}
use Rattle.model.specs.Records.{letter_at, record_length, steps_at}
use Rattle.searches.specs.Searches.{extend_fresh, fresh_paths}
use Rattle.searches.proofs.FreshPaths.{Stale, stale_paths}
use Rattle.model.proofs.Lists.{each_append, map_append, sum_snoc}
use Rattle.model.proofs.Tests.{and_left, by_test}
use Rattle.states.specs.StateNumbers.{state_count}
use Rattle.states.specs.StateSets.{first_from, set_length}
use Rattle.states.proofs.StateSets.{first_at, first_cong}
use Rattle.scratch.specs.Regions.{keys_at, passed_at, passed_end, rings_at, seen_at}
use Rattle.packs.specs.Packs.{mask_of, packed_merge, packed_after, packed_before, packed_restrict, unpacked}
use Rattle.packs.proofs.Unpacked.{merge_below, merge_unpacked, restrict_below, restrict_unpacked, same_unpacked}
use Rattle.rings.specs.Rings.{record_reads}
use Rattle.rings.proofs.Keeping.{freshened_log, freshened_scratch, ringed_log, ringed_scratch}
use Rattle.keys.proofs.Keeping.{indexed_log, indexed_scratch}
use Rattle.paths.specs.declared.Job.{Job}
use Rattle.paths.specs.declared.Trail.{Trail}
use Rattle.paths.specs.Arrivals.{hit, stored, taken}
use Rattle.paths.specs.Jobs.{Begins, Lookable, PassedRight, Searchable, Searched, Standing, first_tried, glances, held_by, job_loc, job_word, known, later_fresh, longer_trail, made, offers, seen_in}
use Rattle.paths.proofs.Arrivals.{hit_append, stored_append, stored_capped, stored_earlier, stored_length, taken_append, taken_known}
use Rattle.paths.proofs.Extending.{extend_end, extend_first, extend_hit, extend_late}
use Rattle.paths.proofs.Glances.{after_same, before_same, glances_at, glances_same, held_same, length_glances, letter_same, reads_same}

-- ---- the word, and the candidates at a depth
length_word : (job : Job) → job.count ≤ length job.letters → length (job_word job) ≡ job.count
length_word job h = length-take job.count job.letters ∙ omega arith

word_at : (job : Job) → job.count ≤ length job.letters → (level : ℕ) → level < job.count → drop level (job_word job) ≡ get_or job.letters level 0 ∷ drop (suc level) (job_word job)
word_at job h level l = drop-cons (job_word job) level 0 (rw (length_word job h) l) ∙ ap (λ (a : ℕ). a ∷ drop (suc level) (job_word job)) (get_or-take job.count job.letters level 0 l)

pub word_end : (job : Job) → job.count ≤ length job.letters → drop job.count (job_word job) ≡ []
word_end job h = drop_of_length-le (job_word job) {i = job.count} (rw (length_word job h) (le_refl job.count))

-- a path of record numbers pre, then p
abbrev pub joined : Job → List ℕ → Path → Candidate
joined job pre p = made job (pre ++ p.numbers) p.end

joined_push : (job : Job) (pre : List ℕ) (r : ℕ) (ps : List Path) → map (joined job pre) (map (push r) ps) ≡ map (joined job (pre ++ (r ∷ []))) ps
joined_push job pre r [] = refl
joined_push job pre r (p ∷ ps) =
    ap₂ (λ (c : Candidate) (cs : List Candidate). c ∷ cs) (ap (λ (ns : List ℕ). made job ns p.end) (sym (append_assoc pre (r ∷ []) p.numbers))) (joined_push job pre r ps)

-- the place of a member
pub place_of : {A : Type 0} (l : List A) (d x : A) → Memᴰ x l → (j : ℕ) × (j < length l) × (get_or l j d ≡ x)
place_of [] d x m = absurd (mathlib.Core.List.Memᴰ.not-nil m)
place_of {A} (y ∷ l) d x m = ⊎_elim
    (λ (e : x ≡ y). (0, omega arith, sym e))
    (λ (q : Memᴰ x l). let r = place_of l d x q in (suc r.0, omega (arith, r.1), r.2))
    (mathlib.Core.List.Memᴰ.cases_cons m)

capped_sum : (t a b c d : ℕ) → t ≡ min (1 + a) steps_cap → c ≡ a + b → b ≡ d → min (t + min d steps_cap) steps_cap ≡ min (1 + c) steps_cap
capped_sum t a b c d p q e = omega arith

-- ---- buffers in which the search may go on
pub lookable_kept : (job : Job) (log s log' s' : List ℕ) → take (job.base * record_length) log' ≡ take (job.base * record_length) log → job.base ≤ job.n → length log' ≡ length log → length s' ≡ length s
    → ((i : ℕ) → rings_at ≤ i → get_or s' i 0 ≡ get_or s i 0) → Lookable job log s → Lookable job log' s'
lookable_kept job log s log' s' same fits size-log size-s outside w = record {
  room = record { fits = w.room.fits; short = w.room.short; records = rw size-log w.room.records; room = rw size-s w.room.room };
  indexed = indexed_log log log' job.base job.n (keys_at job.n) s' (letter_same log log' job.base same) (before_same log log' job.base same) (after_same log log' job.base same)
      (indexed_scratch log job.base job.n (keys_at job.n) s s' fits (λ i a b. outside i (omega arith)) w.indexed);
  unheld = λ f x. ap (λ (held : ℕ → Bool). held x) (held_same log log' job.base same job.letter job.before) ∙ w.unheld f x;
}

pub searchable_kept : (job : Job) (log s log' s' : List ℕ) → Searchable job log s → take (job.base * record_length) log' ≡ take (job.base * record_length) log → length log' ≡ length log → length s' ≡ length s
    → ((i : ℕ) → passed_end ≤ i → get_or s' i 0 ≡ get_or s i 0) → PassedRight job (glances log job.base) s' → Searchable job log' s'
searchable_kept job log s log' s' w same size-log size-s outside right =
    let letters = letter_same log log' job.base same in
    let befores = before_same log log' job.base same in
    let afters = after_same log log' job.base same in
    record {
      few = w.few;
      letters = w.letters;
      width = w.width;
      low = w.low;
      holds = rw size-log w.holds;
      room = record { fits = w.room.fits; short = w.room.short; records = rw size-log w.room.records; room = rw size-s w.room.room };
      ringed = ringed_log log log' job.base job.n rings_at s' letters befores w.room.fits (ringed_scratch log job.base job.n rings_at s s' w.room.fits (λ i a b. outside i (omega arith)) w.ringed);
      freshened = freshened_log log log' job.base job.n rings_at s' letters befores job.lo w.low (freshened_scratch log job.lo job.base job.n rings_at s s' (λ i a b. outside i (omega arith)) w.freshened);
      keys = lookable_kept job log s log' s' same w.room.fits size-log size-s (λ i a. outside i (omega arith)) w.keys;
      small = λ i h. rw (befores i h, afters i h) (w.small i h);
      masks = w.masks;
      shapes = λ i j h l e x o. rw (afters i h) (w.shapes i j h l (sym (letters i h) ∙ e) x o);
      stale = λ i j a h b l e. w.stale i j a h b l (sym (letters i h) ∙ e);
      own = w.own;
      head = w.head;
      passed = rw (glances_same log log' job.base same) right;
    }

module _ {job : Job} {level state : ℕ} (found : Bool) {trail : Trail} {count : ℕ} {log₀ s₀ : List ℕ} (begins : Begins job level state trail count log₀ s₀)
    (more : level < job.count) where
  abbrev ready : Searchable job log₀ s₀
  ready = begins.ready

  abbrev stands : Standing job log₀ level state trail
  stands = begins.stands

  abbrev A : List Record
  A = glances log₀ job.base

  abbrev g : Group
  g = unpacked state

  abbrev a : ℕ
  a = get_or job.letters level 0

  abbrev pre : List ℕ
  pre = take level trail.places

  -- the states before that are looked for, as one number
  abbrev pub key : ℕ
  key = packed_restrict (get_or job.masks level 0) state

  abbrev onward : Bool → Group → List Path
  onward b h = fresh_paths (job_loc job) A job.lo b (drop (suc level) (job_word job)) h

  abbrev pub all : List Candidate
  all = offers job A level found g pre

  -- what the search does not take: ends that it came by, and those that the log holds
  abbrev pub held : ℕ → Bool
  held = held_by job log₀

  -- the candidates by the records from r on
  abbrev pub remaining : ℕ → List Candidate
  remaining r = map (joined job pre) (extend_fresh (job_loc job) job.lo found a g onward (drop r A) r)

  abbrev records : List Candidate → List Record
  records cs = map (added_record job.round A) cs

  all_is : all ≡ remaining 0
  all_is = ap (λ (w : List ℕ). map (joined job pre) (fresh_paths (job_loc job) A job.lo found w g)) (word_at job (omega (arith, ready.few, ready.letters)) level more)

  -- ---- what the rings find is what the paths go by
  key_is : unpacked key ≡ restrict (job_loc job a) g
  key_is = ap (λ (m : ℕ). unpacked (packed_restrict m state)) (ready.masks level more) ∙ restrict_unpacked (job_loc job a) state stands.packed

  key_small : key < 4294967296
  key_small = rw (ready.masks level more) (restrict_below (job_loc job a) state stands.packed)

  read_is : (i : ℕ) → i < job.base → reads_at (job_loc job) a g (record_at A i) ≡ record_reads log₀ a key i
  unfolding reads_at record_reads
  read_is i h =
      ap (λ (r : Record). eqb r.key.letter a && same_group (restrict (job_loc job a) g) r.key.before) (glances_at log₀ job.base i h)
      ∙ ap (λ (b : Bool). eqb (letter_at log₀ i) a && b) (ap (λ (x : Group). same_group x (unpacked (packed_before log₀ i))) (sym key_is) ∙ sym (same_unpacked key (packed_before log₀ i) key_small (ready.small i h).0))

  remaining_first : (m k : ℕ) → m + k ≡ job.base → remaining m ≡ remaining (first_from (record_reads log₀ a key) m k)
  remaining_first m k e =
      ap (map (joined job pre)) (extend_first (job_loc job) job.lo found a g onward A k m (e ∙ sym (length_glances log₀ 0 job.base)))
      ∙ ap remaining (first_cong (λ i. reads_at (job_loc job) a g (record_at A i)) (record_reads log₀ a key) m k (λ i p q. read_is i (omega arith)))

  -- ---- where the records to try begin
  stale_behind : later_fresh job level ≡ false → Stale (job_loc job) job.lo A (drop (suc level) (job_word job))
  stale_behind f n p q m =
      let below : n < job.base = rw (← length_glances log₀ 0 job.base) q in
      let at = place_of (drop (suc level) (job_word job)) 0 (record_at A n).key.letter m in
      let size = length_word job (omega (arith, ready.few, ready.letters)) in
      let inside : suc level + at.0 < job.count = omega (arith, at.1, length-drop (suc level) (job_word job)) in
      ready.stale n (suc level + at.0) p below (omega (arith, ltb-false level job.last f)) inside
      (sym (ap (λ (r : Record). r.key.letter) (glances_at log₀ job.base n below)) ∙ sym at.2 ∙ get_or-drop (suc level) (job_word job) at.0 0 ∙ get_or-take job.count job.letters (suc level + at.0) 0 inside)

  remaining_start : remaining 0 ≡ remaining (first_tried job level found)
  remaining_start = by_test found (λ y. rw y refl) (λ n. by_test (later_fresh job level) (λ y. rw (n, y) refl) (λ m. rw (n, m) (ap (map (joined job pre)) (late m))))
    where
      late : later_fresh job level ≡ false → extend_fresh (job_loc job) job.lo false a g onward A 0 ≡ extend_fresh (job_loc job) job.lo false a g onward (drop job.lo A) job.lo
      late m = extend_late (job_loc job) job.lo a g onward (λ h. stale_paths (job_loc job) job.lo A (drop (suc level) (job_word job)) h (stale_behind m)) job.lo A 0 (omega arith)

  -- ---- the loop
  pub record Going (log s : List ℕ) (total r : ℕ) : Type 0 where
    pub got : List Candidate
    pub taking : taken (known held s₀) all ≡ got ++ taken (known held s) (remaining r)
    pub hits : (x : ℕ) → x < state_count → (seen_in s₀ x || hit all x) ≡ (seen_in s x || hit (remaining r) x)
    pub counted : total ≡ min (count + length got) (job.n + 1)
    pub written : log ≡ stored job.n log₀ count (records got)
    pub scratch_length : length s ≡ length s₀
    pub kept : (i : ℕ) → seen_at + set_length ≤ i → i < passed_at + 2 * set_length → get_or s i 0 ≡ get_or s₀ i 0
    pub outside : (i : ℕ) → passed_end ≤ i → get_or s i 0 ≡ get_or s₀ i 0
    pub below : r ≤ job.base
    pub reads : r < job.base → record_reads log₀ a key r ≡ true
    pub passed : PassedRight job A s

  first_bound : (m k r : ℕ) → m + k ≡ job.base → r ≡ first_from (record_reads log₀ a key) m k → (r ≤ job.base) × (r < job.base → record_reads log₀ a key r ≡ true)
  first_bound m k r e q = let f = first_at (record_reads log₀ a key) m k r q in (omega (arith, f.high), λ l. f.passes (omega arith))

  tried_low : first_tried job level found ≤ job.base
  tried_low = by_test (found || later_fresh job level) (λ y. rw y (omega arith)) (λ n. rw n ready.low)

  pub going_start : {r : ℕ} → r ≡ first_from (record_reads log₀ a key) (first_tried job level found) (job.base - first_tried job level found) → Going log₀ s₀ count r
  going_start {r} q =
      let m = first_tried job level found in
      let whole : m + (job.base - m) ≡ job.base = omega (arith, tried_low) in
      let same : all ≡ remaining r = all_is ∙ remaining_start ∙ remaining_first m (job.base - m) whole ∙ ap remaining (sym q) in
      let b = first_bound m (job.base - m) r whole q in
      record {
        got = [];
        taking = ap (taken (known held s₀)) same;
        hits = λ x h. ap (λ (cs : List Candidate). seen_in s₀ x || hit cs x) same;
        counted = omega (arith, begins.few);
        written = refl;
        scratch_length = refl;
        kept = λ i p h. refl;
        outside = λ i h. refl;
        below = b.0;
        reads = b.1;
        passed = ready.passed;
      }

  module _ {log s : List ℕ} {total r : ℕ} (o : Going log s total r) where
    pub earlier : take (job.base * record_length) log ≡ take (job.base * record_length) log₀
    earlier = ap (take (job.base * record_length)) o.written ∙ stored_earlier job.n log₀ count (records o.got) job.base begins.low ready.holds

    pub log_size : length log ≡ length log₀
    log_size = ap length o.written ∙ stored_length job.n log₀ count (records o.got) ready.holds

    same_seen : glances log job.base ≡ A
    same_seen = glances_same log₀ log job.base earlier

    -- the search may go on from here
    pub going_ready : Searchable job log s
    going_ready = searchable_kept job log₀ s₀ log s ready earlier log_size o.scratch_length o.outside o.passed

    pub going_count : (job.base ≤ total) × (total ≤ job.n + 1)
    going_count = (omega (arith, o.counted, begins.low, ready.room.fits), omega (arith, o.counted))

    module _ (h : r < job.base) where
      mask_is : get_or job.masks level 0 ≡ mask_of (job_loc job a)
      mask_is = ready.masks level more

      -- where record r leads
      abbrev pub led : ℕ
      led = packed_merge (get_or job.masks level 0) (packed_after log r) state

      after_small : packed_after log r < 4294967296
      after_small = (going_ready.small r h).1

      led_is : unpacked led ≡ merge (job_loc job a) (unpacked (packed_after log r)) g
      led_is = ap (λ (m : ℕ). unpacked (packed_merge m (packed_after log r) state)) mask_is ∙ merge_unpacked (job_loc job a) (packed_after log r) state after_small stands.packed

      letter_is : letter_at log r ≡ a
      letter_is = letter_same log₀ log job.base earlier r h ∙ reads_letter (o.reads h)
        where
          reads_letter : record_reads log₀ a key r ≡ true → letter_at log₀ r ≡ a
          reads_letter e = unfold record_reads in eqb-true (letter_at log₀ r) a (and_left (eqb (letter_at log₀ r) a) (eqb (packed_before log₀ r) key) e)

      places_size : level < length trail.places
      places_size = omega (arith, stands.size, ready.few)

      numbers_are : take (suc level) (longer_trail log trail level r).places ≡ pre ++ (r ∷ [])
      numbers_are = take-suc-set trail.places level r places_size

      pub going_stands : Standing job log (suc level) led (longer_trail log trail level r)
      going_stands = record {
        within = more;
        packed = rw mask_is (merge_below (job_loc job a) (packed_after log r) state after_small stands.packed);
        over = rw led_is (going_ready.shapes r level h more letter_is g stands.over);
        size = length-set trail.places level r ∙ stands.size;
        numbers = rw numbers_are (each_append (λ (m : ℕ). m < job.base) pre (r ∷ []) stands.numbers (h, tt));
        spare = λ j l b. get_or-set_other trail.places level j r no_number (λ e. omega arith) ∙ stands.spare j (omega arith) b;
        steps = steps_are;
      }
        where
          steps_are : min (trail.steps + min (steps_at log r) steps_cap) steps_cap ≡ min (1 + sum_over (λ m. (record_at (glances log job.base) m).steps) (take (suc level) (set trail.places level r))) steps_cap
          steps_are =
              let so_far : trail.steps ≡ min (1 + sum_over (λ m. (record_at (glances log job.base) m).steps) pre) steps_cap = stands.steps ∙ ap (λ (B : List Record). min (1 + sum_over (λ m. (record_at B m).steps) pre) steps_cap) (sym same_seen) in
              let sum : sum_over (λ m. (record_at (glances log job.base) m).steps) (take (suc level) (set trail.places level r)) ≡ sum_over (λ m. (record_at (glances log job.base) m).steps) pre + (record_at (glances log job.base) r).steps =
              ap (sum_over (λ m. (record_at (glances log job.base) m).steps)) numbers_are ∙ sum_snoc (λ m. (record_at (glances log job.base) m).steps) pre r in
              let one : (record_at (glances log job.base) r).steps ≡ steps_at log r = ap (λ (x : Record). x.steps) (glances_at log job.base r h) in
              capped_sum trail.steps (sum_over (λ m. (record_at (glances log job.base) m).steps) pre) (record_at (glances log job.base) r).steps (sum_over (λ m. (record_at (glances log job.base) m).steps) (take (suc level) (set trail.places level r))) (steps_at log r) so_far sum one

      -- the candidates from r on are those by r, then those after it
      abbrev pub by_record : List Candidate
      by_record = offers job (glances log job.base) (suc level) (found || leb job.lo r) (unpacked led) (take (suc level) (longer_trail log trail level r).places)

      remaining_hit : remaining r ≡ by_record ++ remaining (suc r)
      remaining_hit =
          ap (map (joined job pre)) (extend_hit (job_loc job) job.lo found a g onward A r (rw (length_glances log₀ 0 job.base) h) (read_is r h ∙ o.reads h))
          ∙ map_append (joined job pre) (map (push r) (onward (found || leb job.lo r) (move (job_loc job) (record_at A r).key g))) (extend_fresh (job_loc job) job.lo found a g onward (drop (suc r) A) (suc r))
          ∙ ap (λ (cs : List Candidate). cs ++ remaining (suc r)) (joined_push job pre r (onward (found || leb job.lo r) (move (job_loc job) (record_at A r).key g)) ∙ same)
        where
          state_is : move (job_loc job) (record_at A r).key g ≡ unpacked led
          state_is =
              ap (λ (x : Record). move (job_loc job) x.key g) (glances_at log₀ job.base r h)
              ∙ ap₂ (λ (b y : ℕ). merge (job_loc job b) (unpacked y) g) (sym (letter_same log₀ log job.base earlier r h) ∙ letter_is) (sym (after_same log₀ log job.base earlier r h))
              ∙ sym led_is

          same : map (joined job (pre ++ (r ∷ []))) (onward (found || leb job.lo r) (move (job_loc job) (record_at A r).key g)) ≡ by_record
          same =
              ap₂ (λ (ns : List ℕ) (x : Group). map (joined job ns) (fresh_paths (job_loc job) A job.lo (found || leb job.lo r) (drop (suc level) (job_word job)) x)) (sym numbers_are) state_is
              ∙ ap (λ (B : List Record). offers job B (suc level) (found || leb job.lo r) (unpacked led) (take (suc level) (longer_trail log trail level r).places)) (sym same_seen)

      pub going_turn : {total' : ℕ} {log' s' : List ℕ} {r' : ℕ} → Searched job (held_by job log) by_record total log s total' log' s' → r' ≡ first_from (record_reads log' a key) (suc r) (job.base - suc r) → Going log' s' total' r'
      going_turn {total'} {log'} {s'} {r'} d₀ q =
          let tk = taken (known held s) by_record in
          let whole : suc r + (job.base - suc r) ≡ job.base = omega arith in
          let b = first_bound (suc r) (job.base - suc r) r' whole q₀ in
          record {
            got = o.got ++ tk;
            taking = o.taking ∙ ap (λ (cs : List Candidate). o.got ++ cs) (ap (taken (known held s)) remaining_hit ∙ taken_append (known held s) by_record (remaining (suc r))
                ∙ ap₂ (λ (f : List Candidate → List Candidate) (cs : List Candidate). tk ++ f cs) (λ i cs. taken_known held s s' by_record d.seen cs i) next_are)
                ∙ sym (append_assoc o.got tk (taken (known held s') (remaining r')));
            hits = λ x l. o.hits x l ∙ ap (λ (cs : List Candidate). seen_in s x || hit cs x) remaining_hit ∙ ap (λ (v : Bool). seen_in s x || v) (hit_append by_record (remaining (suc r)) x)
                ∙ sym (or_assoc (seen_in s x) (hit by_record x) (hit (remaining (suc r)) x)) ∙ ap₂ (λ (u : Bool) (cs : List Candidate). u || hit cs x) (sym (d.seen x l)) next_are;
            counted = d.counted ∙ omega (arith, o.counted, length-append o.got tk);
            written = d.written ∙ ap₂ (λ (B : List Record) (k : ℕ). stored job.n log k (map (added_record job.round B) tk)) same_seen o.counted ∙ stored_capped job.n log (count + length o.got) (records tk)
                ∙ ap₂ (λ (l : List ℕ) (k : ℕ). stored job.n l (count + k) (records tk)) o.written (sym (length-map o.got (added_record job.round A)))
                ∙ sym (stored_append job.n log₀ count (records o.got) (records tk)) ∙ ap (stored job.n log₀ count) (sym (map_append (added_record job.round A) o.got tk));
            scratch_length = d.scratch_length ∙ o.scratch_length;
            kept = λ i p l. d.kept i p l ∙ o.kept i p l;
            outside = λ i l. d.outside i l ∙ o.outside i l;
            below = b.0;
            reads = b.1;
            passed = rw (← same_seen) d.passed;
          }
        where
          d : Searched job held by_record total log s total' log' s'
          d = subst (λ (f : ℕ → Bool). Searched job f by_record total log s total' log' s') (held_same log₀ log job.base earlier job.letter job.before) d₀

          later : take (job.base * record_length) log' ≡ take (job.base * record_length) log₀
          later = ap (take (job.base * record_length)) d.written ∙ stored_earlier job.n log total (map (added_record job.round (glances log job.base)) (taken (known held s) by_record)) job.base going_count.0 going_ready.holds ∙ earlier

          q₀ : r' ≡ first_from (record_reads log₀ a key) (suc r) (job.base - suc r)
          q₀ = q ∙ first_cong (record_reads log' a key) (record_reads log₀ a key) (suc r) (job.base - suc r) (λ i u v. reads_same log₀ log' job.base later a key i (omega arith))

          next_are : remaining (suc r) ≡ remaining r'
          next_are = remaining_first (suc r) (job.base - suc r) (omega arith) ∙ ap remaining (sym q₀)

    -- no record is left
    pub going_end : job.base ≤ r → Searched job held all count log₀ s₀ total log s
    going_end h =
        let none : remaining r ≡ [] = ap (map (joined job pre)) (extend_end (job_loc job) job.lo found a g onward A r (rw (length_glances log₀ 0 job.base) h)) in
        let got-is : taken (known held s₀) all ≡ o.got = o.taking ∙ ap (λ (cs : List Candidate). o.got ++ taken (known held s) cs) none ∙ append-nil o.got in
        record {
          counted = o.counted ∙ ap (λ (cs : List Candidate). min (count + length cs) (job.n + 1)) (sym got-is);
          written = o.written ∙ ap (λ (cs : List Candidate). stored job.n log₀ count (records cs)) (sym got-is);
          seen = λ x l. sym (or-false (seen_in s x)) ∙ ap (λ (cs : List Candidate). seen_in s x || hit cs x) (sym none) ∙ sym (o.hits x l);
          scratch_length = o.scratch_length;
          kept = o.kept;
          outside = o.outside;
          passed = o.passed;
        }
