-- The peak is the greatest length of any projection along a run; a fired rule changes each length by its written letters and the one it reads.
use mathlib.Core.Path.{◌∙◌, ◌≡◌, ap, refl, sym}
use mathlib.Core.Bool.{Bool, false, true}
use mathlib.Core.Option.{Option, some}
use mathlib.Core.List.{List, [], ◌++◌, ◌∷◌}
use Prim.Native.Nat.{◌+◌, ◌<◌, ◌≤◌, max, suc, zero, ℕ}
use native.Mathlib.Omega.{arith}
use lib.Dec.{leb}
use lib.ListN.{length, length-append, take}
use borrow.Author.Tests.{leb-false, leb-true}
use Rattle.model.specs.Groups.{Process, Processes, bit, greatest, has, p0, p1, p2, p3}
use Rattle.model.specs.Lists.{value_or}
use Rattle.model.specs.Systems.{Configuration, PeakIs, Rule, System, fire, peak, walk}
use Rattle.model.proofs.Words.{Located, pick_equivalent, project_append, tops_pick}
use Rattle.model.specs.Words.{height, keep, project, remove_first}
use Rattle.model.proofs.Steps.{WalkStep, enabled_tops, fire_inv, walk_cons, walk_inv}
use Rattle.model.proofs.Tests.{by_test}

-- ---- the greatest of four
pub greatest_most : (f : Process → ℕ) (i : Process) → f i ≤ greatest f
unfolding greatest
greatest_most f p0 = omega arith
greatest_most f p1 = omega arith
greatest_most f p2 = omega arith
greatest_most f p3 = omega arith

pub greatest_least : (f : Process → ℕ) (k : ℕ) → ((i : Process) → f i ≤ k) → greatest f ≤ k
unfolding greatest
greatest_least f k h = omega (arith, h p0, h p1, h p2, h p3)

-- of two processes, the one with the greater number
greater_reached : (f : Process → ℕ) (i j : Process) → (k : Process) × (f k ≡ max (f i) (f j))
greater_reached f i j = by_test (leb (f i) (f j))
    (λ y. let le : f i ≤ f j = leb-true (f i) (f j) y in (j, omega arith))
    (λ n. let lt : f j < f i = leb-false (f i) (f j) n in (i, omega arith))

pub greatest_reached : (f : Process → ℕ) → (i : Process) × (f i ≡ greatest f)
unfolding greatest
greatest_reached f =
    let (a, is_a) = greater_reached f p0 p1 in
    let (b, is_b) = greater_reached f p2 p3 in
    let (c, is_c) = greater_reached f a b in
    (c, omega (arith, is_a, is_b, is_c))

pub greatest_more : (f g : Process → ℕ) (k : ℕ) → ((i : Process) → f i ≡ g i + k) → greatest f ≡ greatest g + k
unfolding greatest
greatest_more f g k h = omega (arith, h p0, h p1, h p2, h p3)

-- ---- the lengths of projections
keep_length : (b : Bool) (a : ℕ) (w : List ℕ) → length (keep b a w) ≡ bit b + length w
keep_length true a w = omega arith
keep_length false a w = omega arith

pub project_length : (loc : ℕ → Processes) (i : Process) (a : ℕ) (w : List ℕ) → length (project loc i (a ∷ w)) ≡ bit (has (loc a) i) + length (project loc i w)
project_length loc i a w = keep_length (has (loc a) i) a (project loc i w)

pub append_length : (loc : ℕ → Processes) (i : Process) (w v : List ℕ) → length (project loc i (w ++ v)) ≡ length (project loc i w) + length (project loc i v)
append_length loc i w v = ap length (project_append loc i w v) ∙ length-append (project loc i w) (project loc i v)

-- the letter read leaves the projections to its processes, and each written one joins those to its own
pub fire_lengths : (loc : ℕ → Processes) → Located loc → (r : Rule) (c d : Configuration) → fire loc r c ≡ some d
    → (i : Process) → length (project loc i d.word) + bit (has (loc r.letter) i) ≡ length (project loc i r.written) + length (project loc i c.word)
fire_lengths loc ne r c d e i =
    let f = fire_inv loc r c d e in
    let rest : List ℕ = remove_first r.letter c.word in
    let read : length (project loc i c.word) ≡ bit (has (loc r.letter) i) + length (project loc i rest) =
    ap length (pick_equivalent (tops_pick loc ne r.letter c.word (enabled_tops loc r c f.yes)) i) ∙ project_length loc i r.letter rest in
    let whole : length (project loc i d.word) ≡ length (project loc i r.written) + length (project loc i rest) =
    sym (ap (λ (x : Configuration). length (project loc i x.word)) f.gives) ∙ append_length loc i r.written rest in
    omega arith

-- ---- the peak
-- the first step of a walk by itself
walk_one : (sys : System) (n : ℕ) (ns : List ℕ) (c d : Configuration) (w : WalkStep sys n ns c d) → walk sys (n ∷ []) c ≡ some w.mid
walk_one sys n ns c d w = walk_cons sys n [] c w.mid (record { rule = w.rule; is = w.is; mid = w.mid; first = w.first; rest = refl })

pub peak_step : (sys : System) (n : ℕ) (ns : List ℕ) (c d : Configuration) (ms : List ℕ) (w : WalkStep sys n ms c d)
    → peak sys (n ∷ ns) c ≡ max (height sys.loc c.word) (peak sys ns w.mid)
peak_step sys n ns c d ms w = ap (λ (o : Option Configuration). max (height sys.loc c.word) (value_or 0 (λ d. peak sys ns d) o)) (walk_one sys n ms c d w)

pub height_under_peak : (sys : System) (ns : List ℕ) (c : Configuration) → height sys.loc c.word ≤ peak sys ns c
height_under_peak sys [] c = omega arith
height_under_peak sys (n ∷ ns) c = omega arith

-- no projection along the run is longer
pub peak_most : (sys : System) (ns : List ℕ) (c : Configuration) (j : ℕ) (d : Configuration) → walk sys (take j ns) c ≡ some d → height sys.loc d.word ≤ peak sys ns c
peak_most sys [] c zero d e = let same : c ≡ d = cc in omega (arith, ap (λ (x : Configuration). height sys.loc x.word) same)
peak_most sys [] c (suc j) d e = let same : c ≡ d = cc in omega (arith, ap (λ (x : Configuration). height sys.loc x.word) same)
peak_most sys (n ∷ ns) c zero d e = let same : c ≡ d = cc in omega (arith, ap (λ (x : Configuration). height sys.loc x.word) same)
peak_most sys (n ∷ ns) c (suc j) d e =
    let w = walk_inv sys n (take j ns) c d e in
    let below : height sys.loc d.word ≤ peak sys ns w.mid = peak_most sys ns w.mid j d w.rest in
    omega (arith, peak_step sys n ns c d (take j ns) w)

-- and one has this length
pub peak_reached : (sys : System) (ns : List ℕ) (c e : Configuration) → walk sys ns c ≡ some e
    → (j : ℕ) × (d : Configuration) × (walk sys (take j ns) c ≡ some d) × (height sys.loc d.word ≡ peak sys ns c)
peak_reached sys [] c e q = (0, c, refl, refl)
peak_reached sys (n ∷ ns) c e q =
    let w = walk_inv sys n ns c e q in
    let r = peak_reached sys ns w.mid e w.rest in
    let p = peak_step sys n ns c e ns w in
    by_test (leb (peak sys ns w.mid) (height sys.loc c.word))
    (λ y. let le : peak sys ns w.mid ≤ height sys.loc c.word = leb-true (peak sys ns w.mid) (height sys.loc c.word) y in (0, c, refl, omega (arith, p)))
    (λ z. let lt : height sys.loc c.word < peak sys ns w.mid = leb-false (peak sys ns w.mid) (height sys.loc c.word) z in (
      suc r.0,
      r.1,
      walk_cons sys n (take r.0 ns) c r.1 (record { rule = w.rule; is = w.is; mid = w.mid; first = w.first; rest = r.2 }),
      omega (arith, p, r.3),
    ))

pub peak_is : (sys : System) (ns : List ℕ) (c e : Configuration) → walk sys ns c ≡ some e → PeakIs sys ns c (peak sys ns c)
peak_is sys ns c e q =
    let (j, d, leads, high) = peak_reached sys ns c e q in
    let (i, is) = greatest_reached (λ i. length (project sys.loc i d.word)) in
    record {
      most = λ j d leads i. omega (arith, greatest_most (λ i. length (project sys.loc i d.word)) i, peak_most sys ns c j d leads);
      reached = (j, d, leads, i, is ∙ high);
    }
