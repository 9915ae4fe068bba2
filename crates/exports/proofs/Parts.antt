-- The sixteen figures of a walk, and the part of the list that it hands back.
use mathlib.Core.Path.{◌≡◌, refl, ap, ◌∙◌}
use mathlib.Core.Option.{Option, none, some}
use mathlib.Core.List.{List, [], ◌∷◌, ◌++◌}
use Prim.Native.Nat.{ℕ, ◌+◌, ◌-◌, ◌≤◌}
use native.Mathlib.Omega.{arith}
use lib.Dec.{ltb}
use lib.ListN.{length, get_or, get_elem?, take, drop, replicate}
use lib.Seq.{take_at}
use Rattle.std.specs.Prelude.{Result, Ok, Err}
use Rattle.model.specs.declared.Ending.{Ending}
use Rattle.model.specs.declared.Refusal.{Refusal}
use Rattle.model.specs.Calls.{Halt, step_by, step_to, walk_call, walk_counts, walk_figures, walk_from, walk_given, walk_scratch}
use Rattle.model.specs.Demands.{Demand2Walk, TookPart}
use Rattle.model.specs.Groups.{Processes}
use Rattle.model.specs.Systems.{Configuration, Rule, System, fire}
use Rattle.model.specs.Tables.{Reading, accepted, refused, read, system_of}
use Rattle.model.proofs.Main.{demand_2_walk, took_part}
use Rattle.model.proofs.Tests.{by_test}
use Rattle.model.proofs.WalkDemand.{counted_more, demand_more}
use Rattle.exports.specs.Figures.{sixteen}

-- ---- the figures: eight of the answer, where the part handed back begins, the counts
sixteen_is : (x : Result Ending Refusal) (l : List ℕ) → sixteen (walk_figures x ++ l) ≡ walk_figures x ++ (l ++ replicate (8 - length l) 0)
sixteen_is (Ok end) l = let k : 16 - length (walk_figures (Ok end) ++ l) ≡ 8 - length l = omega arith in ap (λ (m : ℕ). walk_figures (Ok end) ++ (l ++ replicate m 0)) k
sixteen_is (Err r) l = let k : 16 - length (walk_figures (Err r) ++ l) ≡ 8 - length l = omega arith in ap (λ (m : ℕ). walk_figures (Err r) ++ (l ++ replicate m 0)) k

pub figures_split : (x : Result Ending Refusal) (counts : List ℕ) (from : ℕ) → sixteen (take 8 (walk_figures x ++ counts) ++ (from ∷ drop 8 (walk_figures x ++ counts))) ≡ sixteen (walk_figures x ++ (from ∷ counts))
figures_split (Ok end) counts from = refl
figures_split (Err r) counts from = refl

counts_stand : (x : Result Ending Refusal) (counts zeros : List ℕ) (from : ℕ) → length counts ≡ 4 → take 4 (drop 9 (walk_figures x ++ (from ∷ counts ++ zeros))) ≡ counts
counts_stand (Ok end) counts zeros from e = take_at counts zeros 4 e
counts_stand (Err r) counts zeros from e = take_at counts zeros 4 e

-- a count for each process
four_counts : (r : Reading) (list : List ℕ) (x : Result Ending Refusal) → length (walk_counts r list x) ≡ 4
unfolding walk_counts
four_counts (refused number place) list x = refl
four_counts (accepted items) list x = refl

counts_length : (table list pile scratch : List ℕ) → length (walk_call table list pile scratch).counts ≡ 4
unfolding walk_call
counts_length table list pile scratch = four_counts (read table) list (walk_given (read table) list (length pile) (length scratch)).answer

twelve : (x : Result Ending Refusal) (counts : List ℕ) → length counts ≡ 4 → length (walk_figures x ++ counts) ≡ 12
twelve (Ok end) counts e = omega arith
twelve (Err r) counts e = omega arith

pub figures_length : (table list pile scratch : List ℕ) → let o = walk_call table list pile scratch in length (walk_figures o.answer ++ o.counts) ≡ 12
figures_length table list pile scratch = twelve (walk_call table list pile scratch).answer (walk_call table list pile scratch).counts (counts_length table list pile scratch)

-- demand 2 and request 2.5, by these figures
pub walk_figures_lem : (table list pile scratch f p : List ℕ) (from : ℕ) → let o = walk_call table list pile scratch in f ≡ sixteen (walk_figures o.answer ++ (from ∷ o.counts)) → p ≡ o.pile
    → Demand2Walk table list scratch f p × TookPart table list (get_or f 0 0) (get_or f 1 0) (take 4 (drop 9 f))
walk_figures_lem table list pile scratch f p from e q =
    let o = walk_call table list pile scratch in
    let zeros = replicate {A = ℕ} (8 - length (from ∷ o.counts)) 0 in
    let is : f ≡ walk_figures o.answer ++ (from ∷ o.counts ++ zeros) = e ∙ sixteen_is o.answer (from ∷ o.counts) in (
      rw (is, q) (demand_more (from ∷ o.counts ++ zeros) o.answer (demand_2_walk table list pile scratch)),
      rw (is, counts_stand o.answer o.counts zeros from (counts_length table list pile scratch))
          (counted_more (from ∷ o.counts ++ zeros) o.answer o.counts (took_part table list pile scratch)),
    )

-- ---- the part handed back is no longer than the list
abbrev Short : ℕ → Halt → Type 0
Short n h = length h.rest ≤ n

step_short : (go : Configuration → Halt) (loc : ℕ → Processes) (room step : ℕ) (list : List ℕ) (c : Configuration) (rule : Option Rule) → ((d : Configuration) → Short (length list) (go d)) → Short (length list) (step_by go loc room step list c rule)
step_short go loc room step list c none f = omega arith
step_short go loc room step list c (some r) f = to (fire loc r c)
  where
    to : (d : Option Configuration) → Short (length list) (step_to go room step list c d)
    to none = omega arith
    to (some d) = by_test (ltb room (length d.word)) (λ y. rw y (omega arith)) (λ n. rw n (f d))

walk_short : (sys : System) (room step : ℕ) (list : List ℕ) (c : Configuration) → Short (length list) (walk_from sys room step list c)
walk_short sys room step [] c = omega arith
walk_short sys room step (n ∷ ns) c =
    step_short (λ d. walk_from sys room (step + 1) ns d) sys.loc room step (n ∷ ns) c (get_elem? sys.rules n)
    (λ d. let s : length (walk_from sys room (step + 1) ns d).rest ≤ length ns = walk_short sys room (step + 1) ns d in omega arith)

given_short : (r : Reading) (list : List ℕ) (room scratch : ℕ) → Short (length list) (walk_given r list room scratch)
unfolding walk_given
given_short (refused number place) list room scratch = omega arith
given_short (accepted items) list room scratch =
    by_test (ltb scratch walk_scratch) (λ y. rw y (omega arith)) (λ n. rw n
    (by_test (ltb room (length (system_of items).start.word)) (λ y. rw y (omega arith)) (λ m. rw m (walk_short (system_of items) room 0 list (system_of items).start))))

pub rest_short : (table list pile scratch : List ℕ) → length (walk_call table list pile scratch).rest ≤ length list
unfolding walk_call
rest_short table list pile scratch = given_short (read table) list (length pile) (length scratch)
