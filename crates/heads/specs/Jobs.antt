-- The search for what a rule adds, as the code sets it up.
use Rattle.std.specs.Prelude.{◌≡◌, Bool, false, ◌&&◌, List, ℕ, ◌<◌, ◌≤◌, eqb, length, get_or}
use Rattle.model.specs.Tables.{written_places}
use Rattle.packs.specs.Packs.{mask_of, packed}
use Rattle.table.specs.Reading.{BitsOf, rule_in, system_in}
use Rattle.rules.specs.Rules.{has_letter}
use Rattle.paths.specs.declared.Job.{Job}
use Rattle.heads.specs.declared.Head.{Head}
use Rattle.heads.specs.declared.Round.{Round}
use Rattle.heads.specs.declared.jobs.Word.{Word}

-- the first m letters that rule k writes stand in their places with their masks, and those behind the last fresh one
-- are not fresh
pub record WordTo (table : List ℕ) (fresh k m : ℕ) (letters masks : List ℕ) (last : ℕ) : Type 0 where
  pub letters_size : length letters ≡ written_places
  pub masks_size : length masks ≡ written_places
  pub letter : (j : ℕ) → j < m → get_or letters j 0 ≡ get_or (rule_in table k).written j 0
  pub mask : (j : ℕ) → j < m → get_or masks j 0 ≡ mask_of ((system_in table).loc (get_or (rule_in table k).written j 0))
  pub stale : (j : ℕ) → j < m → last < j → has_letter fresh (get_or (rule_in table k).written j 0) ≡ false

abbrev pub WordOf : List ℕ → ℕ → ℕ → ℕ → Word → Type 0
WordOf table fresh k m w = WordTo table fresh k m w.letters w.masks w.last

-- h is the head of rule k
pub record HeadOf (table : List ℕ) (k : ℕ) (h : Head) : Type 0 where
  pub letter : h.letter ≡ (rule_in table k).letter
  pub bits : BitsOf ((system_in table).loc (rule_in table k).letter) h.bits
  pub before : h.before ≡ packed (rule_in table k).before

-- rule k has the head
unfoldable pub has_head : List ℕ → Head → ℕ → Bool
has_head table h k = eqb (rule_in table k).letter h.letter && eqb (packed (rule_in table k).before) h.before

-- the job of rule k in a round
pub record JobOf (table : List ℕ) (round : Round) (k : ℕ) (held : Bool) (job : Job) : Type 0 where
  pub letter : job.letter ≡ (rule_in table k).letter
  pub mask : job.mask ≡ mask_of ((system_in table).loc (rule_in table k).letter)
  pub before : job.before ≡ packed (rule_in table k).before
  pub rule : job.rule ≡ k
  pub label : round.number ≤ 65535 → job.round ≡ round.number
  pub count : job.count ≡ length (rule_in table k).written
  pub word : WordTo table round.fresh k (length (rule_in table k).written) job.letters job.masks job.last
  pub held_is : job.held ≡ held
  pub lo : job.lo ≡ round.lo
  pub base : job.base ≡ round.base
  pub n : job.n ≡ round.n
