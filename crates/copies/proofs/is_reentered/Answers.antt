-- Some transition is found not to leave the control states, unless all of them do.
use Rattle.std.proofs.Common.{◌≡◌, ℕ, suc, ◌+◌, Bool, true, false, not, ◌&&◌, ◌||◌, List, [], ◌∷◌, length, get_or, refl, ap, ◌∙◌, arith, rules, tests}
use Rattle.std.specs.List.{list_any, range_with_len}
use Rattle.std.proofs.lemmas.Iterator.{YieldsList-from_range}
use Rattle.std.proofs.lemmas.Iterator.Search.{any_from_yields_List}
use Rattle.model.specs.Automata.{Transition}
use Rattle.model.specs.Copies.{leaves_control, reenters}
use Rattle.model.specs.Lists.{all_of}
use Rattle.model.specs.Tables.{transition_of}
use Rattle.table.specs.Reading.{system_in, transition_in}
use Rattle.table.proofs.Layouts.{transitions_count}
use Rattle.copies.proofs.is_reentered.Goals as goal

-- some place of a list fails the test, unless all of it passes
some_fails : {A : Type 0} (f : A → Bool) (g : ℕ → Bool) (a : ℕ) (xs : List A) (d : A) → ((i j : ℕ) → j ≡ a + i → g j ≡ not (f (get_or xs i d))) → list_any g (range_with_len a (length xs)) ≡ not (all_of f xs)
some_fails f g a [] d e = refl
some_fails f g a (x ∷ xs) d e = rw (e 0 a (omega arith), some_fails f g (a + 1) xs d (λ i j q. e (suc i) j (omega arith))) (both (f x) (all_of f xs))
  where
    both : (p q : Bool) → (not p || not q) ≡ not (p && q)
    both true q = refl
    both false q = refl

pub returns : goal.returns
unfolding reenters
returns c =
    let bytes = c.args.table.now.bytes.now in
    let leaves : Transition → Bool = leaves_control (system_in bytes).loc (system_in bytes).controls in
    let count = transitions_count bytes c.args.table.now.counts c.args.table.now.holds in
    any_from_yields_List (λ k. not (leaves (transition_in bytes k))) _ _ c.any.result c.any.ensures.ran (YieldsList-from_range 0 c.args.table.now.counts.transitions (length (system_in bytes).transitions) refl (omega arith)) (λ x b q k. search (rules, tests))
    ∙ some_fails leaves (λ k. not (leaves (transition_in bytes k))) 0 (system_in bytes).transitions (transition_of []) (λ i j q. rw q (ap (λ n. not (leaves (transition_in bytes n))) (let z : 0 + i ≡ i = omega arith in z)))
