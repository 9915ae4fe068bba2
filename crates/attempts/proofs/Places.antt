-- One place of the word in the log of a round: what the rings find is what the paths go by.
use mathlib.Core.Path.{◌≡◌, refl, ap, sym, subst, ◌∙◌}
use mathlib.Core.Bool.{true, false}
use mathlib.Core.List.{List, [], ◌++◌, map}
use Prim.Native.Nat.{ℕ, ◌+◌, ◌-◌, ◌<◌, ◌≤◌}
use native.Mathlib.Omega.{arith}
use lib.ListN.{drop}
use Rattle.model.specs.declared.Group.{Group}
use Rattle.model.specs.Automata.{move}
use Rattle.model.specs.Groups.{Processes, Within, merge, process_bits, restrict}
use Rattle.model.specs.Log.{Record, log_at, paths, push, reads_at, record_at}
use Rattle.model.specs.Records.{after_at}
use Rattle.model.specs.Systems.{System}
use Rattle.model.proofs.Groups.{bits_back, bit_low}
use Rattle.states.specs.StateNumbers.{Over}
use Rattle.packs.specs.Packs.{Bytes, packed}
use Rattle.rings.specs.Rings.{record_reads}
use Rattle.table.specs.declared.Table.{Table}
use Rattle.table.specs.Reading.{saturated_in, system_in, pile_in}
use Rattle.logs.specs.RoundLogs.{RoundLog}
use Rattle.logs.proofs.RoundLogs.{round_fits, round_reads}
use Rattle.rests.specs.declared.Letter.{Letter}
use Rattle.rests.specs.Rests.{processes_of_table, zeroed_group, LetterAt}
use Rattle.rests.proofs.Grounds.{grounds}
use Rattle.rests.proofs.RestRight.{reads_is, target_is, word_from}
use Rattle.attempts.specs.Attempts.{state_by}
use Rattle.attempts.specs.Turns.{reads_in, paths_from}
use Rattle.attempts.proofs.PathsLeft.{extend_end, extend_reads, extend_skip}

-- letter k as the laws of rests have it
abbrev letter_of : List ℕ → ℕ → Letter
letter_of table k = record { number = pile_in table k; bits = process_bits ((system_in table).loc (pile_in table k)) }

bits_few : (L : Processes) → process_bits L ≤ 15
unfolding process_bits
bits_few L = omega (arith, bit_low L.b0, bit_low L.b1, bit_low L.b2, bit_low L.b3)

letter_of_lem : (table : List ℕ) (k : ℕ) → LetterAt table k (letter_of table k)
letter_of_lem table k = let own = (system_in table).loc (pile_in table k) in record { number = refl; bits = record { same = bits_back own; small = bits_few own } }

module _ {table : List ℕ} {t : Table} {round : ℕ} {log : List ℕ} {limit : ℕ} (lent : RoundLog table t round log limit) (k : ℕ) (inside : k < t.pile) where
  abbrev sys : System
  sys = saturated_in table

  abbrev records : List Record
  records = log_at (saturated_in table) round

  abbrev rest : List ℕ
  rest = drop (k + 1) (system_in table).start.word

  pub letter_within : Within ((system_in table).loc (pile_in table k)) (processes_of_table t)
  letter_within = (grounds table t lent.holds).letters k inside

  pub after_bytes : (r : ℕ) → r < limit → Bytes (after_at log r)
  after_bytes r h = subst Bytes (sym (round_reads lent r h).after) (round_fits lent r h).after

  -- the whole rest, by any record
  pub paths_whole : (g : Group) → paths (system_in table).loc (log_at (saturated_in table) round) (drop k (system_in table).start.word) g ≡ paths_from table round k g 0
  paths_whole g = ap (λ (w : List ℕ). paths sys.loc records w g) (word_from lent k inside (letter_of table k) (letter_of_lem table k))

  -- no record is left
  pub paths_end : (g : Group) (r : ℕ) → limit ≤ r → paths_from table round k g r ≡ []
  paths_end g r h = extend_end sys.loc (pile_in table k) g (λ h. paths sys.loc records rest h) records r (omega (arith, lent.size))

  module _ (g : Group) (o : Over (processes_of_table t) g) where
    reads_model : (r : ℕ) → r < limit → reads_in table t log k g r ≡ reads_at (system_in table).loc (pile_in table k) g (record_at (log_at (saturated_in table) round) r)
    reads_model r h =
        ap (λ (L : Processes). record_reads log (pile_in table k) (packed (restrict L (zeroed_group (processes_of_table t) g))) r) (sym (bits_back (sys.loc (pile_in table k))))
        ∙ reads_is lent k inside (letter_of table k) (letter_of_lem table k) g o r h

    -- those from r on that do not read are passed over
    pub paths_skip : (r q : ℕ) → r ≤ q → ((j : ℕ) → r ≤ j → j < q → j < limit → reads_in table t log k g j ≡ false) → paths_from table round k g r ≡ paths_from table round k g q
    paths_skip r q l f =
        extend_skip sys.loc (pile_in table k) g (λ h. paths sys.loc records rest h) records (q - r) r
        (λ j a b h. let below : j < limit = omega (arith, lent.size) in sym (reads_model j below) ∙ f j a (omega arith) below)
        ∙ ap (paths_from table round k g) (joined r q l)
      where
        joined : (r q : ℕ) → r ≤ q → r + (q - r) ≡ q
        joined r q l = omega arith

    module _ (r : ℕ) (h : r < limit) (y : reads_in table t log k g r ≡ true) where
      reading : reads_at (system_in table).loc (pile_in table k) g (record_at (log_at (saturated_in table) round) r) ≡ true
      reading = sym (reads_model r h) ∙ y

      -- where a record leads that reads
      target : state_by table log k r g ≡ move (system_in table).loc (record_at (log_at (saturated_in table) round) r).key g
      target =
          ap (λ (L : Processes). merge L (after_at log r) g) (sym (bits_back (sys.loc (pile_in table k))))
          ∙ target_is lent k inside (letter_of table k) (letter_of_lem table k) g r h reading

      pub over_by : Over (processes_of_table t) (state_by table log k r g)
      over_by = subst (Over (processes_of_table t)) (sym target) ((grounds table t lent.holds).moves round r (omega (arith, lent.size)) g o)

      -- the paths by it, and then those by later ones
      pub paths_reads : paths_from table round k g r
          ≡ map (push r) (paths (system_in table).loc (log_at (saturated_in table) round) (drop (k + 1) (system_in table).start.word) (state_by table log k r g)) ++ paths_from table round k g (r + 1)
      paths_reads =
          extend_reads sys.loc (pile_in table k) g (λ h. paths sys.loc records rest h) records r (omega (arith, lent.size)) reading
          ∙ ap (λ (h : Group). map (push r) (paths sys.loc records rest h) ++ paths_from table round k g (r + 1)) (sym target)
