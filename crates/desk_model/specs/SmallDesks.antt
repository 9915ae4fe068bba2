-- Requests 2.1 and 2.5: desks on small tables, as one table of their calls and what they tell, with one theorem.
use Rattle.std.specs.Prelude.{◌≡◌, refl, List, [], ◌∷◌, ◌++◌, map, ℕ}
use Rattle.model.specs.Groups.{same_group, process_bits, restrict, merge}
use Rattle.model.specs.Words.{tops}
use Rattle.model.specs.Systems.{System, Configuration, enabled, fire}
use Rattle.model.specs.Copies.{leaves_control}
use Rattle.model.specs.Tables.{Reading, accepted, refused, is_out_of_turn, group_fits, transition_fits, written_fit}
use Rattle.model.specs.Tables.{value_fits, cooperates, is_narrow, is_reentry, is_twin, refusal, read_from, read, system_of}
use Rattle.model.specs.Participation.{with_step}
use Rattle.model.specs.SmallTables.{re_entry, table_T}
use Rattle.desk_model.specs.Desks.{Call, Contents, fires, saves, returns, forgets, findings, desk_call, moved_to}
use Rattle.desk_model.specs.Desks.{opened, told_processes, told_refusal, uncounted}

-- where a desk stands: states and word
abbrev pub standing : Configuration → List ℕ
standing c = c.states.s0 ∷ c.states.s1 ∷ c.states.s2 ∷ c.states.s3 ∷ c.word

-- of each call of a desk the refusal's number, 0 if there is none, the bits of the processes that took part, and after
-- it the counts and where the desk stands
abbrev pub trace_from : System → Contents → List Call → List (List ℕ)
trace_from sys s [] = []
trace_from sys s (c ∷ cs) =
    let o = desk_call sys s c in
    (told_refusal o.told ∷ told_processes o.told ∷ (o.contents.counts ++ standing o.contents.here))
    ∷ trace_from sys o.contents cs

-- of a desk's opening the refusal's number and its place; where there is none, the calls follow, on a desk that has
-- counted so many steps
abbrev pub trace : Reading → List ℕ → List Call → List (List ℕ)
trace (refused number place) counts cs = (number ∷ place ∷ []) ∷ []
trace (accepted items) counts cs =
    (0 ∷ 0 ∷ []) ∷ trace_from (system_of items) (moved_to (opened (system_of items)) counts (system_of items).start) cs

-- ---- the desks
pub record SmallDesk : Type 0 where
  pub table : List ℕ
  pub counts : List ℕ
  pub calls : List Call
  pub result : List (List ℕ)

abbrev pub small_desks : List SmallDesk
small_desks =
    -- a desk on T: refused by 12, 13, 18 and 17; then 0 and 2 fired, each after a save, and a return to where 2 had not
    -- fired
    record {
      table = table_T;
      counts = uncounted;
      calls = fires 1 ∷ fires 3 ∷ returns 8 ∷ returns 0 ∷ saves 0 ∷ fires 0 ∷ saves 1 ∷ fires 2 ∷ returns 1 ∷ fires 1
          ∷ forgets 0 ∷ returns 0 ∷ returns 1 ∷ [];
      result = (0 ∷ 0 ∷ [])
          ∷ (12 ∷ 0 ∷ 0 ∷ 0 ∷ 0 ∷ 0 ∷ 0 ∷ 0 ∷ 255 ∷ 255 ∷ 0 ∷ [])
          ∷ (13 ∷ 0 ∷ 0 ∷ 0 ∷ 0 ∷ 0 ∷ 0 ∷ 0 ∷ 255 ∷ 255 ∷ 0 ∷ [])
          ∷ (18 ∷ 0 ∷ 0 ∷ 0 ∷ 0 ∷ 0 ∷ 0 ∷ 0 ∷ 255 ∷ 255 ∷ 0 ∷ [])
          ∷ (17 ∷ 0 ∷ 0 ∷ 0 ∷ 0 ∷ 0 ∷ 0 ∷ 0 ∷ 255 ∷ 255 ∷ 0 ∷ [])
          ∷ (0 ∷ 0 ∷ 0 ∷ 0 ∷ 0 ∷ 0 ∷ 0 ∷ 0 ∷ 255 ∷ 255 ∷ 0 ∷ [])
          ∷ (0 ∷ 3 ∷ 1 ∷ 1 ∷ 0 ∷ 0 ∷ 0 ∷ 0 ∷ 255 ∷ 255 ∷ 1 ∷ 2 ∷ [])
          ∷ (0 ∷ 0 ∷ 1 ∷ 1 ∷ 0 ∷ 0 ∷ 0 ∷ 0 ∷ 255 ∷ 255 ∷ 1 ∷ 2 ∷ [])
          ∷ (0 ∷ 2 ∷ 1 ∷ 2 ∷ 0 ∷ 0 ∷ 0 ∷ 1 ∷ 255 ∷ 255 ∷ 1 ∷ [])
          -- a return begins the counts anew, a save and a forget leave them
          ∷ (0 ∷ 0 ∷ 0 ∷ 0 ∷ 0 ∷ 0 ∷ 0 ∷ 0 ∷ 255 ∷ 255 ∷ 1 ∷ 2 ∷ [])
          ∷ (0 ∷ 1 ∷ 1 ∷ 0 ∷ 0 ∷ 0 ∷ 1 ∷ 0 ∷ 255 ∷ 255 ∷ 2 ∷ []) ∷ (0 ∷ 0 ∷ 1 ∷ 0 ∷ 0 ∷ 0 ∷ 1 ∷ 0 ∷ 255 ∷ 255 ∷ 2 ∷ [])
          -- the name 0 is forgotten; the name 1 stays held, and is returned to twice
          ∷ (17 ∷ 0 ∷ 1 ∷ 0 ∷ 0 ∷ 0 ∷ 1 ∷ 0 ∷ 255 ∷ 255 ∷ 2 ∷ [])
          ∷ (0 ∷ 0 ∷ 0 ∷ 0 ∷ 0 ∷ 0 ∷ 0 ∷ 0 ∷ 255 ∷ 255 ∷ 1 ∷ 2 ∷ []) ∷ [];
    }
    -- a desk's count stops at 4,294,967,295
    ∷ record {
      table = table_T;
      counts = 4294967294 ∷ 4294967295 ∷ 0 ∷ 0 ∷ [];
      calls = fires 0 ∷ fires 1 ∷ [];
      result = (0 ∷ 0 ∷ []) ∷ (0 ∷ 3 ∷ 4294967295 ∷ 4294967295 ∷ 0 ∷ 0 ∷ 0 ∷ 0 ∷ 255 ∷ 255 ∷ 1 ∷ 2 ∷ [])
          ∷ (0 ∷ 1 ∷ 4294967295 ∷ 4294967295 ∷ 0 ∷ 0 ∷ 1 ∷ 0 ∷ 255 ∷ 255 ∷ 2 ∷ []) ∷ [];
    }
    -- no desk where the table is refused
    ∷ record { table = re_entry 5; counts = uncounted; calls = fires 0 ∷ []; result = (7 ∷ 24 ∷ []) ∷ [] }
    ∷ []

-- the definitions give each result
pub small_desks_hold : map (λ (d : SmallDesk). trace (read d.table) d.counts d.calls) small_desks
    ≡ map (λ (d : SmallDesk). d.result) small_desks
unfolding same_group process_bits restrict merge tops enabled fire leaves_control is_out_of_turn group_fits transition_fits
    written_fit value_fits cooperates is_narrow is_reentry is_twin refusal read_from read system_of with_step findings desk_call
small_desks_hold = refl
