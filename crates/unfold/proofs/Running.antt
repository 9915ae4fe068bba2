-- Laws of a run that is being written: what is left of it, and the peak as running lengths and a running maximum.
use mathlib.Core.Path.{◌≡◌, refl, ap, ap₂, sym, ◌∙◌}
use mathlib.Core.Option.{some}
use mathlib.Core.List.{List, [], ◌∷◌, ◌++◌, append-nil}
use Prim.Native.Nat.{ℕ, ◌+◌, ◌*◌, ◌<◌, ◌≤◌, max}
use native.Mathlib.Numerals.{add-one}
use native.Mathlib.Omega.{arith}
use lib.ListN.{length, get_or, take, drop, set, length-append, length-set, take-append-drop}
use lib.Seq.{append_snoc, take-suc-set, drop-set-lt, drop-drop, length-take-le}
use Rattle.model.specs.Groups.{Process, greatest}
use Rattle.model.specs.Systems.{Rule, System, Configuration, walk, peak}
use Rattle.model.specs.Tables.{rule_of, written_places}
use Rattle.model.proofs.Words.{Located}
use Rattle.model.specs.Words.{height, project}
use Rattle.model.proofs.Peak.{fire_lengths, greatest_least, greatest_more, greatest_most, greatest_reached, height_under_peak, peak_step}
use Rattle.model.proofs.Steps.{WalkStep, walk_inv}
use Rattle.lengths.specs.Projections.{Lengths, Added, Change, LengthsOf, Raised, AtMost, length_at}
use Rattle.lengths.proofs.Counting.{project_shorter}
use Rattle.model.proofs.Lists.{elem_place}

-- ---- the greatest lengths
-- no number of l is above that of h
abbrev pub Under : Lengths → Lengths → Type 0
Under l h = (i : Process) → length_at l i ≤ length_at h i

greatest_rises : (f g : Process → ℕ) → ((i : Process) → f i ≤ g i) → greatest f ≤ greatest g
greatest_rises f g h = greatest_least f (greatest g) (λ i. omega (arith, h i, greatest_most g i))

-- raised at each process, raised as a whole
greatest_raised : (h l r : Lengths) → Raised h l r → greatest (length_at r) ≡ max (greatest (length_at h) + 1) (greatest (length_at l))
greatest_raised h l r raised =
    let (i, is) = greatest_reached (length_at r) in
    let (j, old) = greatest_reached (length_at h) in
    let (k, new) = greatest_reached (length_at l) in
    omega (arith, is, raised i, greatest_most (length_at h) i, greatest_most (length_at l) i, old, raised j, greatest_most (length_at r) j, new, raised k, greatest_most (length_at r) k)

-- ---- the run so far
-- The run `all` is being written: the page begins with `rules` of its rules, which lead to the configuration `at`, and the rules `left` lead on; l has
-- the lengths of the projections there, and h the greatest lengths so far, both counted with the rules.
pub record Going (sys : System) (all page₀ left page : List ℕ) (rules : ℕ) (l h : Lengths) : Type 0 where
  pub size : length page ≡ length page₀
  pub short : rules ≤ length page
  pub emits : all ≡ take rules page ++ left
  pub behind : drop rules page ≡ drop rules page₀
  pub at : Configuration
  pub end : Configuration
  pub walks : walk sys left at ≡ some end
  pub lengths : (i : Process) → length_at l i ≡ length (project sys.loc i at.word) + rules
  pub under : Under l h
  pub small : AtMost (64 + (1 + written_places) * rules) h
  pub peaks : peak sys all sys.start + rules ≡ max (greatest (length_at h)) (peak sys left at + rules)

pub going_start : {sys : System} {all page₀ : List ℕ} {end : Configuration} → length sys.start.word ≤ 64 → walk sys all sys.start ≡ some end
    → (l : Lengths) → LengthsOf sys.loc sys.start.word l → Going sys all page₀ all page₀ 0 l l
going_start {sys} {all} {page₀} {end} few walks l is = record {
  size = refl;
  short = omega arith;
  emits = refl;
  behind = refl;
  at = sys.start;
  end = end;
  walks = walks;
  lengths = λ i. omega (arith, is i);
  under = λ i. omega arith;
  small = λ i. omega (arith, is i, project_shorter sys.loc i sys.start.word);
  peaks = omega (arith, height_under_peak sys all sys.start, greatest_more (length_at l) (λ i. length (project sys.loc i sys.start.word)) 0 (λ i. omega (arith, is i)));
}

-- the rules written and those left are all
pub going_count : {sys : System} {all page₀ left page : List ℕ} {rules : ℕ} {l h : Lengths} → Going sys all page₀ left page rules l h → length all ≡ rules + length left
going_count {left = left} {page = page} {rules = rules} g =
    ap length g.emits ∙ length-append (take rules page) left ∙ ap (λ (k : ℕ). k + length left) (length-take-le rules page g.short)

-- ---- the next rule fires
module _ {sys : System} (located : Located sys.loc) {all page₀ : List ℕ} {n : ℕ} {left page : List ℕ} {rules : ℕ} {l h : Lengths}
    (g : Going sys all page₀ (n ∷ left) page rules l h) where
  step : WalkStep sys n left g.at g.end
  step = walk_inv sys n left g.at g.end g.walks

  abbrev rule : Rule
  rule = get_or sys.rules n (rule_of [])

  pub rule_inside : n < length sys.rules
  rule_inside = (elem_place sys.rules n (rule_of []) step.rule step.is).0

  -- there is a place on the page
  pub page_room : length all ≤ length page₀ → rules < length page
  page_room h = omega (arith, g.size, going_count g)

  module _ (change : Process → ℕ) (changes : Change sys.loc rule change) where
    -- each length has changed by what is noted of the rule
    length_after : (i : Process) → length (project sys.loc i step.mid.word) + 1 ≡ length (project sys.loc i g.at.word) + change i
    length_after i =
        let same : rule ≡ step.rule = (elem_place sys.rules n (rule_of []) step.rule step.is).1 in
        let fires = fire_lengths sys.loc located step.rule g.at step.mid step.first i in
        omega (arith, changes i, rw same at changes i, fires)

    pub going_fire : {l' h' : Lengths} → length all ≤ length page₀ → ((i : Process) → change i ≤ 1 + written_places) → Added change l l' → Raised h l' h' → Going sys all page₀ left (set page rules n) (rules + 1) l' h'
    going_fire {l'} {h'} fits few added raised =
        let room : rules < length page = page_room fits in
        let before : greatest (length_at l) ≡ height sys.loc g.at.word + rules = greatest_more (length_at l) (λ i. length (project sys.loc i g.at.word)) rules g.lengths in
        let after : (i : Process) → length_at l' i ≡ length (project sys.loc i step.mid.word) + (rules + 1) = λ i. omega (arith, added i, g.lengths i, length_after i) in
        let tall : greatest (length_at l') ≡ height sys.loc step.mid.word + (rules + 1) = greatest_more (length_at l') (λ i. length (project sys.loc i step.mid.word)) (rules + 1) after in
        let low : greatest (length_at l) ≤ greatest (length_at h) = greatest_rises (length_at l) (length_at h) g.under in
        let high : greatest (length_at h') ≡ max (greatest (length_at h) + 1) (greatest (length_at l')) = greatest_raised h l' h' raised in
        record {
          size = length-set page rules n ∙ g.size;
          short = omega (arith, length-set page rules n);
          emits = g.emits ∙ sym (append_snoc (take rules page) n left)
              ∙ ap (λ (l : List ℕ). l ++ left) (sym (take-suc-set page rules n room) ∙ ap (λ (k : ℕ). take k (set page rules n)) (sym (add-one rules)));
          behind = drop-set-lt (rules + 1) page rules n (omega arith) ∙ sym (drop-drop 1 rules page) ∙ ap (λ (l : List ℕ). drop 1 l) g.behind ∙ drop-drop 1 rules page₀;
          at = step.mid;
          end = g.end;
          walks = step.rest;
          lengths = after;
          under = λ i. omega (arith, raised i);
          small = λ i. omega (arith, raised i, added i, few i, g.under i, g.small i);
          peaks = omega (arith, g.peaks, peak_step sys n left g.at g.end left step, height_under_peak sys left step.mid);
        }

pub going_end : {sys : System} {all page₀ page : List ℕ} {rules : ℕ} {l h : Lengths} → Going sys all page₀ [] page rules l h
    → (page ≡ all ++ drop (length all) page₀) × (greatest (length_at h) ≡ peak sys all sys.start + rules)
going_end {sys = sys} {all = all} {page₀ = page₀} {page = page} {rules = rules} {l = l} {h = h} g =
    let n : rules ≡ length all = omega (arith, going_count g) in (
      sym (take-append-drop rules page) ∙ ap₂ ◌++◌ (sym (g.emits ∙ append-nil (take rules page))) (g.behind ∙ ap (λ (k : ℕ). drop k page₀) n),
      omega (arith, g.peaks, greatest_more (length_at l) (λ i. length (project sys.loc i g.at.word)) rules g.lengths, greatest_rises (length_at l) (length_at h) g.under),
    )
