-- A process that the table lacks has an empty projection wherever a run leads from the start, so that the peak goes over the table's own processes.
use mathlib.Core.Path.{◌≡◌, ap, refl}
use mathlib.Core.Bool.{false}
use mathlib.Core.Option.{some}
use mathlib.Core.List.{List, [], ◌∷◌}
use Prim.Native.Nat.{◌<◌, ℕ}
use native.Mathlib.Omega.{arith}
use lib.ListN.{get_elem?, length}
use Rattle.model.specs.Groups.{Process, Processes, has}
use Rattle.model.specs.Lists.{Each}
use Rattle.model.specs.Systems.{Configuration, Rule, System, walk}
use Rattle.model.specs.Tables.{Item, accepted, bodies, byte_of, present, read, system_of}
use Rattle.model.proofs.Words.{Located}
use Rattle.model.specs.Words.{project}
use Rattle.model.proofs.AcceptedTables.{accepted_cooperating, rule_has}
use Rattle.model.proofs.CheckedItems.{Complete, read_complete}
use Rattle.model.proofs.FittingItems.{pile_fits}
use Rattle.model.proofs.Lists.{each_map, each_of_map, length_zero}
use Rattle.model.proofs.Peak.{fire_lengths}
use Rattle.model.proofs.Soundness.{project_inside}
use Rattle.model.proofs.Steps.{walk_inv}
use Rattle.model.proofs.TableProcesses.{letter_absent}

-- ---- words
module _ (loc : ℕ → Processes) (i : Process) where
  word_absent : (w : List ℕ) → Each (λ (a : ℕ). has (loc a) i ≡ false) w → project loc i w ≡ []
  word_absent [] e = refl
  word_absent (a ∷ w) e = rw e.0 (word_absent w e.1)

-- rules whose letters the process has no part in leave its projection empty
module _ (sys : System) (located : Located sys.loc) (i : Process)
    (keeps : (n : ℕ) (r : Rule) → get_elem? sys.rules n ≡ some r → length (project sys.loc i r.written) ≡ 0) where
  walk_absent : (ns : List ℕ) (c d : Configuration) → walk sys ns c ≡ some d → length (project sys.loc i c.word) ≡ 0 → length (project sys.loc i d.word) ≡ 0
  walk_absent [] c d e z = let same : c ≡ d = cc in omega (arith, ap (λ (x : Configuration). length (project sys.loc i x.word)) same)
  walk_absent (n ∷ ns) c d e z =
      let w = walk_inv sys n ns c d e in
      walk_absent ns w.mid d w.rest (omega (arith, fire_lengths sys.loc located w.rule c w.mid w.first i, keeps n w.rule w.is))

-- ---- accepted tables
module _ (items : List Item) (c : Complete items) (i : Process) (lacking : has (present (bodies 1 items)) i ≡ false) where
  abbrev sys : System
  sys = system_of items

  letter_lacks : (a : ℕ) → a < length (bodies 2 items) → has (sys.loc a) i ≡ false
  unfolding system_of
  letter_lacks = letter_absent c.checked i lacking

  rule_lacks : (m : ℕ) (r : Rule) → get_elem? sys.rules m ≡ some r → length (project sys.loc i r.written) ≡ 0
  rule_lacks m r is =
      let own : has (sys.loc r.letter) i ≡ false = rule_has items c (λ (r : Rule). has (sys.loc r.letter) i ≡ false) (λ body f. letter_lacks (byte_of body 0) f.fits.letter) m r is in
      ap length (project_inside sys.loc (sys.loc r.letter) i r.written own ((accepted_cooperating items c).cooperates m r is))

  start_lacks : project sys.loc i sys.start.word ≡ []
  unfolding system_of
  start_lacks = word_absent sys.loc i sys.start.word (each_of_map (λ (a : ℕ). has (sys.loc a) i ≡ false) (λ body. byte_of body 0) (bodies 7 items)
      (each_map (λ (body : List ℕ). byte_of body 0 < length (bodies 2 items)) (λ (body : List ℕ). has (sys.loc (byte_of body 0)) i ≡ false) (λ body l. letter_lacks (byte_of body 0) l) (bodies 7 items) (pile_fits c.checked)))

pub absent_empty : (table : List ℕ) (items : List Item) → read table ≡ accepted items → (i : Process) → has (present (bodies 1 items)) i ≡ false
    → (ns : List ℕ) (d : Configuration) → walk (system_of items) ns (system_of items).start ≡ some d → project (system_of items).loc i d.word ≡ []
absent_empty table items e i lacking ns d leads =
    let c = read_complete table items e in
    let sys : System = system_of items in
    length_zero (project sys.loc i d.word) (walk_absent sys (accepted_cooperating items c).located i (rule_lacks items c i lacking) ns sys.start d leads (ap length (start_lacks items c i lacking)))
