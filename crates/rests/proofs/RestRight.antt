-- A rest is accepted from a state exactly if a record reads its first letter there and leads into the set of the next rest.
use mathlib.Core.Path.{◌≡◌, ap, sym, subst, ◌∙◌, refl, ap₂}
use mathlib.Core.Bool.{Bool, true, false, ◌&&◌, ◌||◌}
use mathlib.Core.List.{List, [], ◌∷◌, map}
use Prim.Native.Nat.{ℕ, suc, ◌+◌, ◌<◌, ◌*◌}
use native.Mathlib.Omega.{arith}
use native.Mathlib.Decide.{dec_lt}
use native.Mathlib.Numerals.{add-one}
use lib.Dec.{eqb, ltb}
use lib.ListN.{length, drop, get_or}
use lib.Seq.{drop-cons}
use borrow.Author.Tests.{eq-eqb, eqb-true, lt-ltb, le-ltb}
use Rattle.model.specs.declared.Group.{Group}
use Rattle.model.specs.Automata.{Transition, move}
use Rattle.model.specs.Groups.{Processes, processes_of, same_group, Within, restrict, merge}
use Rattle.model.specs.Lists.{any_of}
use Rattle.model.specs.Log.{Record, record_at, no_record, reads_at, keys, log_at}
use Rattle.model.specs.Systems.{System, accepts}
use Rattle.model.specs.Records.{record_length, before_at, after_at}
use Rattle.model.proofs.Groups.{restrict_merge, restrict_within, merge_within, same_group_true, same_group_of}
use Rattle.model.proofs.Lists.{any_of_lem, get_d_mem}
use Rattle.model.proofs.LogPaths.{reads_letter}
use Rattle.model.proofs.Tests.{by_test, same_test}
use Rattle.states.specs.StateNumbers.{state_number, Over}
use Rattle.states.specs.StateSets.{member, first_from}
use Rattle.states.proofs.StateSets.{first_of, first_cong}
use Rattle.records.specs.Entries.{Fits, Reads}
use Rattle.packs.specs.Packs.{packed, Bytes, packed_before}
use Rattle.packs.proofs.Packs.{pack_group, packed_same}
use Rattle.packs.proofs.Unpacked.{restrict_bytes}
use Rattle.rings.specs.Rings.{record_reads}
use Rattle.table.specs.declared.Table.{Table}
use Rattle.table.specs.Reading.{saturated_in, system_in, pile_in}
use Rattle.table.proofs.Layouts.{pile_count}
use Rattle.logs.proofs.Logs.{over_byte}
use Rattle.logs.specs.RoundLogs.{RoundLog}
use Rattle.logs.proofs.RoundLogs.{round_fits, round_reads}
use Rattle.rests.specs.declared.Letter.{Letter}
use Rattle.rests.specs.Rests.{processes_of_table, own_number, no_states, zeroed_group, LetterAt, leads, first_lead, some_lead, accepts_from, SetRight}
use Rattle.rests.proofs.Leading.{lead_not, lead_reads}
use Rattle.rests.proofs.Grounds.{Grounds, grounds}

-- ---- some element passes a test
any_none : {A : Type 0} (f : A → Bool) (d : A) (xs : List A) → ((j : ℕ) → j < length xs → f (get_or xs j d) ≡ false) → any_of f xs ≡ false
any_none f d [] h = refl
any_none f d (x ∷ xs) h = rw (h 0 (omega arith)) (any_none f d xs (λ j l. h (suc j) (omega arith)))

pub any_map : {A B : Type 0} (f : B → Bool) (h : A → B) (xs : List A) → any_of f (map h xs) ≡ any_of (λ (x : A). f (h x)) xs
any_map f h [] = refl
any_map f h (x ∷ xs) = ap (λ (b : Bool). f (h x) || b) (any_map f h xs)

any_first : {A : Type 0} (f : A → Bool) (d : A) (xs : List A) → any_of f xs ≡ ltb (first_from (λ j. f (get_or xs j d)) 0 (length xs)) (length xs)
any_first f d xs =
    let r = first_from (λ j. f (get_or xs j d)) 0 (length xs) in
    let w = first_of (λ j. f (get_or xs j d)) 0 (length xs) in
    elim (dec_lt r (length xs)) [
      | yes h ↦ any_of_lem f xs (get_or xs r d) (get_d_mem xs r d h) (w.passes (omega arith)) ∙ sym (lt-ltb r (length xs) h)
      | no h ↦ any_none f d xs (λ j l. w.fails j (omega arith) (omega arith)) ∙ sym (le-ltb r (length xs) (omega arith))
    ]

-- ---- acceptance by the lowest record that leads on
-- record r reads the letter b in the state g, and from where it leads the rest w is accepted
abbrev pub goes_on : System → List Record → ℕ → List ℕ → Group → ℕ → Bool
goes_on sys log b w g r = reads_at sys.loc b g (record_at log r) && accepts sys.loc (keys log) sys.accepting w (move sys.loc (record_at log r).key g)

accepts_first : (sys : System) (log : List Record) (b : ℕ) (w : List ℕ) (g : Group)
    → accepts sys.loc (keys log) sys.accepting (b ∷ w) g ≡ ltb (first_from (goes_on sys log b w g) 0 (length log)) (length log)
unfolding reads_at
accepts_first sys log b w g =
    any_map (λ (t : Transition). eqb t.letter b && same_group (restrict (sys.loc b) g) t.before && accepts sys.loc (keys log) sys.accepting w (move sys.loc t g)) (λ (r : Record). r.key) log
    ∙ any_first (λ (r : Record). reads_at sys.loc b g r && accepts sys.loc (keys log) sys.accepting w (move sys.loc r.key g)) no_record log

-- ---- what the rings find is what the paths go by
same_packed : (g h : Group) → Bytes g → Bytes h → eqb (packed h) (packed g) ≡ same_group g h
same_packed g h p q = same_test (eqb (packed h) (packed g)) (same_group g h)
    (λ t. same_group_of g h (packed_same g h p q (sym (eqb-true (packed h) (packed g) t))))
    (λ t. eq-eqb (packed h) (packed g) (ap packed (sym (same_group_true g h t))))

reads_model : (loc : ℕ → Processes) (log : List ℕ) (b : ℕ) (g : Group) (r : ℕ) (e : Record) → Reads log r e → Fits e → Bytes g
    → record_reads log b (packed (restrict (loc b) g)) r ≡ reads_at loc b g e
unfolding record_reads reads_at packed_before before_at
reads_model loc log b g r e w f small =
    ap₂ (λ (l h : ℕ). eqb l b && eqb h (packed (restrict (loc b) g))) w.letter (pack_group log (r * record_length + 1) ∙ ap packed w.before)
    ∙ ap (λ (s : Bool). eqb e.key.letter b && s) (same_packed (restrict (loc b) g) e.key.before (restrict_bytes (loc b) g small) f.before)

-- ---- one letter
module _ {table : List ℕ} {t : Table} {round : ℕ} {log : List ℕ} {count : ℕ} (lent : RoundLog table t round log count) (i : ℕ) (inside : i < t.pile) (a : Letter) (letter : LetterAt table i a) where
  abbrev sys : System
  sys = saturated_in table

  abbrev records : List Record
  records = log_at (saturated_in table) round

  pub ground : Grounds table t
  ground = grounds table t lent.holds

  -- the rest of the word begins with the letter
  pub word_from : drop i (system_in table).start.word ≡ pile_in table i ∷ drop (i + 1) (system_in table).start.word
  word_from = drop-cons sys.start.word i 0 (omega (arith, pile_count table t lent.holds)) ∙ ap (λ (k : ℕ). pile_in table i ∷ drop k sys.start.word) (sym (add-one i))

  pub own_within : Within (processes_of a.bits) (processes_of_table t)
  own_within = subst (λ (L : Processes). Within L (processes_of_table t)) (sym letter.bits.same) (ground.letters i inside)

  -- 0 for 255 at the processes that the table lacks makes no difference
  pub reads_is : (g : Group) → Over (processes_of_table t) g → (r : ℕ) → r < count
      → record_reads log a.number (packed (restrict (processes_of a.bits) (zeroed_group (processes_of_table t) g))) r
      ≡ reads_at (system_in table).loc (pile_in table i) g (record_at (log_at (saturated_in table) round) r)
  reads_is g o r h =
      let L = processes_of_table t in
      ap (λ (h : Group). record_reads log a.number (packed h) r) (restrict_within L (processes_of a.bits) (zeroed_group L g) g own_within (restrict_merge L g no_states))
      ∙ ap₂ (λ (b : ℕ) (L : Processes). record_reads log b (packed (restrict L g)) r) letter.number letter.bits.same
      ∙ reads_model sys.loc log (pile_in table i) g r (record_at records r) (round_reads lent r h) (round_fits lent r h) (over_byte L g o)

  -- where a record that reads the letter leads
  pub target_is : (g : Group) (r : ℕ) → r < count → reads_at (system_in table).loc (pile_in table i) g (record_at (log_at (saturated_in table) round) r) ≡ true
      → merge (processes_of a.bits) (after_at log r) g ≡ move (system_in table).loc (record_at (log_at (saturated_in table) round) r).key g
  target_is g r h y =
      ap₂ (λ (L : Processes) (x : Group). merge L x g)
      (letter.bits.same ∙ sym (ap sys.loc (reads_letter sys.loc (pile_in table i) g (record_at records r) y)))
      (round_reads lent r h).after

  module _ (members : List ℕ) (next : SetRight table t round members (i + 1)) (g : Group) (o : Over (processes_of_table t) g) where
    lead_is : (r : ℕ) → r < count → leads log members a (zeroed_group (processes_of_table t) g) r
        ≡ goes_on (saturated_in table) (log_at (saturated_in table) round) (pile_in table i) (drop (i + 1) (system_in table).start.word) g r
    unfolding own_number
    lead_is r h = by_test (reads_at sys.loc (pile_in table i) g (record_at records r))
        (λ y. rw y (lead_reads log members a (zeroed_group (processes_of_table t) g) r (reads_is g o r h ∙ y)
        ∙ ap (λ (x : Group). member members (state_number x)) (sym (merge_within (processes_of_table t) (processes_of a.bits) (after_at log r) g no_states own_within))
        ∙ ap (λ (x : Group). member members (own_number (processes_of_table t) x)) (target_is g r h y)
        ∙ next (move sys.loc (record_at records r).key g) (ground.moves round r (omega (arith, lent.size)) g o)))
        (λ n. rw n (lead_not log members a (zeroed_group (processes_of_table t) g) r (reads_is g o r h ∙ n)))

    pub first_is_lead : first_lead log count members a (zeroed_group (processes_of_table t) g)
        ≡ first_from (goes_on (saturated_in table) (log_at (saturated_in table) round) (pile_in table i) (drop (i + 1) (system_in table).start.word) g) 0 (length (log_at (saturated_in table) round))
    unfolding first_lead
    first_is_lead =
        first_cong (leads log members a (zeroed_group (processes_of_table t) g)) (goes_on sys records (pile_in table i) (drop (i + 1) sys.start.word) g) 0 count
        (λ r p q. lead_is r (omega arith))
        ∙ ap (λ (k : ℕ). first_from (goes_on sys records (pile_in table i) (drop (i + 1) sys.start.word) g) 0 k) (sym lent.size)

    pub lead_accepts : some_lead log count members a (zeroed_group (processes_of_table t) g) ≡ accepts_from table round i g
    lead_accepts =
        ap₂ (λ (r n : ℕ). ltb r n) first_is_lead (sym lent.size)
        ∙ sym (ap (λ (w : List ℕ). accepts sys.loc (keys records) sys.accepting w g) word_from ∙ accepts_first sys records (pile_in table i) (drop (i + 1) sys.start.word) g)
