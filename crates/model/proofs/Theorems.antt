-- The paper's theorem of the definitions, for every accepted table. Demand 3 itself is `demand_3` of Demands.
use mathlib.Core.Path.{◌∙◌, ◌≡◌, ap, refl, subst, sym}
use mathlib.Core.Bool.{true}
use mathlib.Core.Logic.{◌↔◌, ◌⊎◌}
use mathlib.Core.Option.{some}
use mathlib.Core.List.Memᴰ
use mathlib.Core.List.{List, Memᴰ, [], ◌∷◌}
use Prim.Native.Nat.{◌+◌, ◌-◌, ◌<◌, ◌≤◌, min, suc, zero, ℕ}
use native.Mathlib.Omega.{arith}
use native.Mathlib.Nat.{not-suc-le-zero}
use lib.ListN.{get_or, get_elem?, length, length-map}
use Rattle.model.specs.declared.Group.{Group}
use Rattle.model.specs.Automata.{Along, Transition, label}
use Rattle.model.specs.Calls.{start_path}
use Rattle.model.specs.Groups.{Process, at, has}
use Rattle.model.specs.Lists.{Each, filter}
use Rattle.model.specs.Log.{Path, Record, additions, key_less, keys, lex_less, limit, log_at, no_record, paths, record_at, saturated_at, steps_cap}
use Rattle.model.specs.Saturation.{Delta, added}
use Rattle.model.specs.Systems.{Accepting, Accepts, Configuration, Equal, InAutomaton, Joins, Rule, Step, Steps, System, fire, fired, walk}
use Rattle.model.specs.Tables.{Item, accepted, read, saturated_of, system_of}
use Rattle.model.specs.Unfolding.{Unfolds, emitted, path_steps}
use Rattle.model.specs.Words.{Equivalent}
use Rattle.model.proofs.Words.{Located}
use Rattle.model.proofs.Collecting.{Held}
use Rattle.model.proofs.Completeness.{accepts_same}
use Rattle.model.proofs.Copies.{joins_with_copy, with_copy_joins}
use Rattle.model.proofs.Emission.{emitted_unfolds, steps_emitted, unfolds_unique}
use Rattle.model.proofs.Limit.{limit_saturated}
use Rattle.model.proofs.Lists.{Distinct, each_get, get_d_mem, each_map, filter_all}
use Rattle.model.proofs.LogPaths.{IsPath, paths_complete, paths_sound}
use Rattle.model.proofs.Order.{log_distinct}
use Rattle.model.proofs.Paths.{rearrange}
use Rattle.model.proofs.Reachability.{WellFormed, answer_steps, held_more, limit_log, path_joins, path_unfolds, reach_accepts}
use Rattle.model.proofs.Reasons.{HasReason, LeastReason, log_least, log_reasons}
use Rattle.model.proofs.Rounds.{Before, FirstHeld, Ordered, delta_held, each_first, held_delta, log_ordered, records_up_to, rounds_most}
use Rattle.model.proofs.Steps.{fire_step, step_fire, steps_walk, walk_steps}
use Rattle.model.proofs.CheckedItems.{Complete, read_complete}
use Rattle.model.proofs.AcceptedTables.{accepted_cooperating, accepted_copyable}
use Rattle.model.proofs.CopiedTables.{accepted_bytes, accepted_well_formed, saturated_copyable, saturated_eight}
use Rattle.model.proofs.Tests.{by_zero}
use Rattle.model.proofs.Validity.{each_at, log_counted, log_earlier}
use native.Mathlib.Decide.{dec_lt}
use lib.Dec.{leb}
use borrow.Author.Tests.{le-leb}

-- ---- where a sorted or marked list holds at a place
later : (log : List Record) → Ordered log → (i j : ℕ) → i < j → j < length log → Before (record_at log i) (record_at log j)
later [] o i j h l = absurd (not-suc-le-zero l)
later (x ∷ log) o i zero h l = absurd (not-suc-le-zero h)
later (x ∷ log) o zero (suc j) h l = each_at (Before x) log o.0 j (omega arith)
later (x ∷ log) o (suc i) (suc j) h l = later log o.1 i j (omega arith) (omega arith)

different : (ts : List Transition) → Distinct ts → (d : Transition) (i j : ℕ) → i < j → j < length ts → get_or ts i d ≡ get_or ts j d → ⊥
different [] o d i j h l q = not-suc-le-zero l
different (t ∷ ts) o d i zero h l q = not-suc-le-zero h
different (t ∷ ts) o d zero (suc j) h l q = o.0 (Memᴰ.cast q (get_d_mem ts j d (omega arith)))
different (t ∷ ts) o d (suc i) (suc j) h l q = different ts o.1 d i j (omega arith) (omega arith) q

key_at_lem : (log : List Record) (i : ℕ) → get_or (keys log) i no_record.key ≡ (record_at log i).key
key_at_lem [] i = refl
key_at_lem (x ∷ log) zero = refl
key_at_lem (x ∷ log) (suc i) = key_at_lem log i

-- a record's reason, by the rules' numbers and the paths of the log of the round before
pub record ReasonAt (sys : System) (log : List Record) (x : Record) : Type 0 where
  pub rule : Rule
  pub is : get_elem? sys.rules x.rule ≡ some rule
  pub end : Group
  pub path : Memᴰ (record { numbers = x.path; end = end }) (paths sys.loc log rule.written rule.after)
  pub adds : x.key ≡ added sys.loc rule end
  -- every other rule and path that add it are later: by the rule's number, then by the path's record numbers
  pub least : (m : ℕ) (r : Rule) → get_elem? sys.rules m ≡ some r → (p : Path) → Memᴰ p (paths sys.loc log r.written r.after) → added sys.loc r p.end ≡ x.key
      → (m ∷ p.numbers ≡ x.rule ∷ x.path) ⊎ (lex_less (x.rule ∷ x.path) (m ∷ p.numbers) ≡ true)

module _ (table : List ℕ) (items : List Item) (e : read table ≡ accepted items) where
  complete_table : Complete items
  complete_table = read_complete table items e

  good : WellFormed (saturated_of items)
  good = accepted_well_formed items complete_table

  located : Located (system_of items).loc
  located = good.cooperating.located

  -- ---- steps-as-the-paper: a rule fires exactly where Definition 4 has a step by it, and leads to an equal configuration
  pub fire_is_step : (r : Rule) (c d : Configuration) → fire (system_of items).loc r c ≡ some d → Step (system_of items).loc r c d
  fire_is_step = fire_step (system_of items).loc located

  pub step_is_fire : (r : Rule) (c d : Configuration) → Step (system_of items).loc r c d → (f : Configuration) × (fire (system_of items).loc r c ≡ some f) × Equal (system_of items).loc f d
  step_is_fire r c d s = let f = step_fire (system_of items).loc located r c d s in (fired (system_of items).loc r c, f.0, f.1)

  -- so a walk moves exactly as the paper's systems step
  pub walk_is_steps : (ns : List ℕ) (c d : Configuration) → walk (system_of items) ns c ≡ some d → Steps (system_of items) ns c d
  walk_is_steps = walk_steps (system_of items) located

  pub steps_are_walk : (ns : List ℕ) (c e : Configuration) → Steps (system_of items) ns c e → (d : Configuration) × (walk (system_of items) ns c ≡ some d) × Equal (system_of items).loc d e
  steps_are_walk ns c e s = steps_walk (system_of items) located s

  -- ---- equivalent_paths: what transitions read between two states they read for every equivalent word
  pub equivalent_paths : (D : Transition → Type 0) (ts : List Transition) (v : List ℕ) (g f : Group) → Each D ts → Along (system_of items).loc g ts f → Equivalent (system_of items).loc (label ts) v
      → (us : List Transition) × (label us ≡ v) × Each D us × Along (system_of items).loc g us f
  equivalent_paths D ts v g f goods along same = let r = rearrange (system_of items).loc located D v ts g f same along goods in (r.path, r.reads, r.goods, r.along)

  -- acceptance does not tell equal configurations apart
  pub equal_accepted : (F : Group → Type 0) (D : Transition → Type 0) (c d : Configuration) → Equal (system_of items).loc c d → Accepts (system_of items).loc F D c → Accepts (system_of items).loc F D d
  equal_accepted F D c d q = accepts_same (system_of items).loc located F D c d q.states q.words

  -- ---- the states of the automaton that is saturated are numbers below 8, copies included
  pub below_eight : (t : Transition) → InAutomaton (saturated_of items) t → (i : Process) → has ((system_of items).loc t.letter) i ≡ true → (at t.before i < 8) × (at t.after i < 8)
  unfolding system_of
  below_eight t m i y =
      let f = (saturated_copyable items complete_table).automaton t m in
      let eight = saturated_eight items complete_table i (f.letter i y) in
      (omega (arith, f.before i y), omega (arith, f.after i y))

  -- ---- log_is_delta: the log of rounds up to k holds δ(k), no more and no less
  pub log_is_delta : (k : ℕ) (t : Transition) → Memᴰ t (keys (log_at (saturated_of items) k)) ↔ Delta (saturated_of items) k t
  log_is_delta k t = (held_delta (saturated_of items) k t, delta_held (saturated_of items) k t)

  -- each record's round is the first in which the paper adds it
  pub first_round : (k n : ℕ) → n < length (log_at (saturated_of items) k)
      → Delta (saturated_of items) (record_at (log_at (saturated_of items) k) n).round (record_at (log_at (saturated_of items) k) n).key
      × ((j : ℕ) → j < (record_at (log_at (saturated_of items) k) n).round → Delta (saturated_of items) j (record_at (log_at (saturated_of items) k) n).key → ⊥)
  first_round k n h =
      let f = each_at (FirstHeld (saturated_of items) k) (log_at (saturated_of items) k) (each_first (saturated_of items) k) n h in (
        held_delta (saturated_of items) (record_at (log_at (saturated_of items) k) n).round (record_at (log_at (saturated_of items) k) n).key f.held,
        λ j l d. not_earlier (record_at (log_at (saturated_of items) k) n) k f j l (delta_held (saturated_of items) j (record_at (log_at (saturated_of items) k) n).key d),
      )
    where
      -- held in round j, so held in every later one, the last before the record's round among them
      not_earlier : (x : Record) (k : ℕ) → FirstHeld (saturated_of items) k x → (j : ℕ) → j < x.round → Held (saturated_of items) j x.key → ⊥
      not_earlier x k f j l m = f.not_before (x.round - 1) (omega arith) (subst (λ (i : ℕ). Held (saturated_of items) i x.key) (omega arith) (held_more (saturated_of items) (x.round - 1 - j) j x.key m))

  -- records stand in the order of round, letter, before, after
  pub in_order : (k i j : ℕ) → i < j → j < length (log_at (saturated_of items) k)
      → ((record_at (log_at (saturated_of items) k) i).round < (record_at (log_at (saturated_of items) k) j).round)
      ⊎ (((record_at (log_at (saturated_of items) k) i).round ≡ (record_at (log_at (saturated_of items) k) j).round) × (key_less (record_at (log_at (saturated_of items) k) i).key (record_at (log_at (saturated_of items) k) j).key ≡ true))
  in_order k i j h l = later (log_at (saturated_of items) k) (log_ordered (saturated_of items) k) i j h l

  -- no two records have the same key
  pub distinct_keys : (k i j : ℕ) → i < j → j < length (log_at (saturated_of items) k) → (record_at (log_at (saturated_of items) k) i).key ≡ (record_at (log_at (saturated_of items) k) j).key → ⊥
  distinct_keys k i j h l q =
      different (keys (log_at (saturated_of items) k)) (log_distinct (saturated_of items) k) no_record.key i j h (omega (arith, length-map (log_at (saturated_of items) k) (λ (r : Record). r.key)))
      (key_at_lem (log_at (saturated_of items) k) i ∙ q ∙ sym (key_at_lem (log_at (saturated_of items) k) j))

  -- each record of round j + 1 has its reason over the log of rounds up to j: the lowest rule's first path
  pub reasons : (k n j : ℕ) → n < length (log_at (saturated_of items) k) → suc j ≡ (record_at (log_at (saturated_of items) k) n).round → ReasonAt (saturated_of items) (log_at (saturated_of items) j) (record_at (log_at (saturated_of items) k) n)
  reasons k n j h q =
      let ρ = each_at (HasReason (saturated_of items)) (log_at (saturated_of items) k) (log_reasons (saturated_of items) k) n h j q in
      record {
        rule = ρ.rule;
        is = ρ.is;
        end = ρ.end;
        path = paths_complete (saturated_of items).loc (log_at (saturated_of items) j) ρ.rule.written ρ.rule.after (record_at (log_at (saturated_of items) k) n).path ρ.end ρ.is_path.inside ρ.is_path.reads ρ.is_path.along;
        adds = ρ.key_is;
        least = λ m r is p i a. each_at (LeastReason (saturated_of items)) (log_at (saturated_of items) k) (log_least (saturated_of items) k) n h j q m r is p
            (each_get (IsPath (saturated_of items).loc (log_at (saturated_of items) j) r.written r.after) p (paths (saturated_of items).loc (log_at (saturated_of items) j) r.written r.after)
            (paths_sound (saturated_of items).loc (log_at (saturated_of items) j) r.written r.after) i) a;
      }

  -- ---- limit-exists: some round adds nothing, and no later one does
  pub limit_adds_nothing : additions (saturated_of items) (limit (saturated_of items)) ≡ []
  limit_adds_nothing = limit_saturated (saturated_of items) (accepted_bytes items complete_table)

  pub limit_is_last : (d : ℕ) → log_at (saturated_of items) (d + saturated_at (saturated_of items)) ≡ limit (saturated_of items)
  limit_is_last d = limit_log (saturated_of items) (saturated_at (saturated_of items)) d limit_adds_nothing

  -- the log of rounds up to k has exactly the limit's records of a round at most k
  pub rounds_of_limit : (k : ℕ) → log_at (saturated_of items) k ≡ filter (λ (r : Record). leb r.round k) (limit (saturated_of items))
  rounds_of_limit k = elim (dec_lt k (saturated_at (saturated_of items))) [
    | yes h ↦ sym (records_up_to (saturated_of items) (saturated_at (saturated_of items) - k) k) ∙ ap (λ (n : ℕ). filter (λ (r : Record). leb r.round k) (log_at (saturated_of items) n)) (omega arith)
    | no h ↦ ap (log_at (saturated_of items)) (let e : k ≡ k - saturated_at (saturated_of items) + saturated_at (saturated_of items) = omega arith in e) ∙ limit_is_last (k - saturated_at (saturated_of items))
        ∙ sym (filter_all (λ (r : Record). leb r.round k) (limit (saturated_of items))
        (each_map (λ (r : Record). r.round ≤ saturated_at (saturated_of items)) (λ (r : Record). leb r.round k ≡ true) (λ r l. le-leb r.round k (omega (arith, h))) (limit (saturated_of items)) (rounds_most (saturated_of items))))
  ]

  -- ---- Lemma 15: the records of rounds up to the length of a run that joins c and the accepted set accept c
  pub lemma_15 : (c : Configuration) (ns : List ℕ) → Joins (system_of items) c ns
      → Accepts (saturated_of items).loc (Accepting (saturated_of items)) (λ (t : Transition). Memᴰ t (keys (log_at (saturated_of items) (length ns)))) c
  lemma_15 c ns j = reach_accepts (saturated_of items) good c ns (joins_with_copy (system_of items) (accepted_copyable items complete_table) c ns j)

  -- ---- unfolding_is_a_run: an accepting path of the log over a configuration's word unfolds into a run that joins it and the accepted set
  pub unfolding_is_a_run : (k : ℕ) (c : Configuration) → ((i : Process) → at c.states i < (saturated_of items).controls i) → (p : Path)
      → Memᴰ p (paths (saturated_of items).loc (log_at (saturated_of items) k) c.word c.states) → Accepting (saturated_of items) p.end
      → (rs : List ℕ) → Unfolds (log_at (saturated_of items) k) p.numbers rs → Joins (system_of items) c rs
  unfolding_is_a_run k c control p m f rs u =
      let t = each_get (IsPath (saturated_of items).loc (log_at (saturated_of items) k) c.word c.states) p (paths (saturated_of items).loc (log_at (saturated_of items) k) c.word c.states)
      (paths_sound (saturated_of items).loc (log_at (saturated_of items) k) c.word c.states) m in
      with_copy_joins (system_of items) (accepted_copyable items complete_table) (accepted_cooperating items complete_table) c rs control
      (subst (Joins (saturated_of items) c) (unfolds_unique u (emitted (log_at (saturated_of items) k) p.numbers) (emitted_unfolds (log_at (saturated_of items) k) (log_earlier (saturated_of items) k) p.numbers t.inside))
      (path_joins (saturated_of items) good k c control p t f))

  -- ---- steps-count: a record's steps are the length of its unfolding, and the start's those of its path, up to the cap
  pub record_steps : (k n : ℕ) → n < length (log_at (saturated_of items) k) → (rs : List ℕ) → Unfolds (log_at (saturated_of items) k) (n ∷ []) rs
      → (record_at (log_at (saturated_of items) k) n).steps ≡ min (length rs) steps_cap
  record_steps k n h rs u =
      let figure : min ((record_at (log_at (saturated_of items) k) n).steps + 0) steps_cap ≡ min (length (emitted (log_at (saturated_of items) k) (n ∷ []))) steps_cap =
      steps_emitted (log_at (saturated_of items) k) (log_earlier (saturated_of items) k) (log_counted (saturated_of items) k) (n ∷ []) (h, tt) in
      let same : emitted (log_at (saturated_of items) k) (n ∷ []) ≡ rs = unfolds_unique u (emitted (log_at (saturated_of items) k) (n ∷ [])) (emitted_unfolds (log_at (saturated_of items) k) (log_earlier (saturated_of items) k) (n ∷ []) (h, tt)) in
      let capped : (record_at (log_at (saturated_of items) k) n).steps ≤ steps_cap = steps_capped k n h in
      omega (arith, ap length same)
    where
      steps_capped : (k n : ℕ) → n < length (log_at (saturated_of items) k) → (record_at (log_at (saturated_of items) k) n).steps ≤ steps_cap
      steps_capped k n h = by_zero (record_at (log_at (saturated_of items) k) n).round
          (λ z. omega (arith, (log_counted (saturated_of items) k n h).0 z))
          (λ z. omega (arith, (log_counted (saturated_of items) k n h).1 z))

  pub start_steps : (p : Path) → start_path (saturated_of items) ≡ some p → (rs : List ℕ) → Unfolds (limit (saturated_of items)) p.numbers rs → path_steps (limit (saturated_of items)) p.numbers ≡ min (length rs) steps_cap
  start_steps p q rs u =
      answer_steps (saturated_of items) (saturated_at (saturated_of items)) (saturated_of items).start p q
      ∙ ap (λ (l : List ℕ). min (length l) steps_cap) (unfolds_unique u (emitted (limit (saturated_of items)) p.numbers) (path_unfolds (saturated_of items) (saturated_at (saturated_of items)) (saturated_of items).start p q))
