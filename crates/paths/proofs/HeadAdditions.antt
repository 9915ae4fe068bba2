-- What a head adds: of its candidates, whose ends are all that tells them apart, those taken are the first for each key that the log lacks. So any
-- sorted list of them is what the round adds for the head.
use mathlib.Core.Path.{◌≡◌, refl, ap, sym, ◌∙◌}
use mathlib.Core.Bool.{Bool, true, false, cond, ◌||◌, true≢false}
use mathlib.Core.Option.{Option, none}
use mathlib.Core.List.{List, [], ◌∷◌}
use Prim.Native.Nat.{ℕ}
use lib.Dec.{eqb}
use borrow.Author.Tests.{eqb-true}
use Rattle.model.specs.declared.Group.{Group}
use Rattle.model.specs.Automata.{Transition}
use Rattle.model.specs.Groups.{Processes}
use Rattle.model.specs.Lists.{Each}
use Rattle.model.specs.Log.{Candidate, Record, collect, in_log, same_key}
use Rattle.model.proofs.Collecting.{same_key_of, same_key_true}
use Rattle.model.proofs.FirstCandidates.{first_of}
use Rattle.model.proofs.Order.{Sorted}
use Rattle.model.proofs.Tests.{by_test}
use Rattle.searches.proofs.UniqueRound.{chosen_collect}
use Rattle.states.specs.StateNumbers.{Over, state_number}
use Rattle.states.proofs.StateNumbers.{number_injective}
use Rattle.paths.specs.Arrivals.{end_number, taken}

-- the candidate is of the head: letter a, states before b, after states of the letter's processes L
pub record OfHead (L : Processes) (a : ℕ) (b : Group) (c : Candidate) : Type 0 where
  pub letter : c.key.letter ≡ a
  pub before : c.key.before ≡ b
  pub over : Over L c.key.after

module _ (L : Processes) (a : ℕ) (b : Group) where
  -- two of a head with the same end have the same key
  same_end : (c d : Candidate) → OfHead L a b c → OfHead L a b d → end_number c ≡ end_number d → c.key ≡ d.key
  same_end c d p q e =
      let letters : c.key.letter ≡ d.key.letter = p.letter ∙ sym q.letter in
      let befores : c.key.before ≡ d.key.before = p.before ∙ sym q.before in
      let afters : c.key.after ≡ d.key.after = number_injective L c.key.after d.key.after p.over q.over e in
      λ i. record { letter = letters i; before = befores i; after = afters i }

  -- a key with the end of c, and another than its own, is none of the head's
  no_other : (c : Candidate) → OfHead L a b c → (k : Transition) → state_number k.after ≡ end_number c → same_key c.key k ≡ false → (cs : List Candidate) → Each (OfHead L a b) cs → first_of k cs ≡ none
  no_other c p k e n [] all = refl
  no_other c p k e n (d ∷ cs) all = by_test (same_key d.key k)
      (λ y. absurd (true≢false (sym (same_key_of c.key k (same_end c d p all.0 (sym e ∙ ap (λ (t : Transition). state_number t.after) (sym (same_key_true d.key k y))) ∙ same_key_true d.key k y)) ∙ n)))
      (λ m. rw m (no_other c p k e n cs all.1))

  pub taken_first : (k : Transition) (seen : ℕ → Bool) (cs : List Candidate) → Each (OfHead L a b) cs → first_of k (taken seen cs) ≡ cond (seen (state_number k.after)) none (first_of k cs)
  taken_first k seen [] all = by_test (seen (state_number k.after)) (λ y. rw y refl) (λ n. rw n refl)
  taken_first k seen (c ∷ cs) all = by_test (same_key c.key k)
      (λ y. let end : end_number c ≡ state_number k.after = ap (λ (t : Transition). state_number t.after) (same_key_true c.key k y) in
      by_test (seen (end_number c))
      (λ s. rw (s, y) (taken_first k seen cs all.1 ∙ rw (sym (ap seen end) ∙ s) refl))
      (λ s. rw (s, y, sym (ap seen end) ∙ s) refl))
      (λ n. by_test (seen (end_number c))
      (λ s. rw (s, n) (taken_first k seen cs all.1))
      (λ s. rw (s, n) (taken_first k (λ x. seen x || eqb x (end_number c)) cs all.1 ∙ other n)))
    where
      other : same_key c.key k ≡ false → cond (seen (state_number k.after) || eqb (state_number k.after) (end_number c)) none (first_of k cs) ≡ cond (seen (state_number k.after)) none (first_of k cs)
      other n = by_test (seen (state_number k.after)) (λ y. rw y refl) (λ m. rw m (by_test (eqb (state_number k.after) (end_number c))
          (λ y. rw y (sym (no_other c all.0 k (eqb-true (state_number k.after) (end_number c) y) n cs all.1)))
          (λ q. rw q refl)))

  -- ---- the round
  module _ (log : List Record) (seen : ℕ → Bool) where
    -- of the head's candidates, the ends seen before are those of the log
    abbrev pub Held : Candidate → Type 0
    Held c = seen (end_number c) ≡ in_log c.key log

    -- what is seen of a key among the candidates is whether the log has it
    by_key : (k : Transition) (cs : List Candidate) → Each Held cs → (b : Bool) → in_log k log ≡ b → cond (seen (state_number k.after)) none (first_of k cs) ≡ cond b none (first_of k cs)
    by_key k [] h v e = nothing (seen (state_number k.after)) ∙ sym (nothing v)
      where
        nothing : (v : Bool) → ◌≡◌ {A = Option Candidate} (cond v none none) none
        nothing true = refl
        nothing false = refl
    by_key k (c ∷ cs) h v e = by_test (same_key c.key k)
        (λ y. ap (λ (w : Bool). cond w none (first_of k (c ∷ cs))) (ap (λ (t : Transition). seen (state_number t.after)) (sym (same_key_true c.key k y)) ∙ h.0 ∙ ap (λ (t : Transition). in_log t log) (same_key_true c.key k y) ∙ e))
        (λ n. rw n (by_key k cs h.1 v e))

    pub head_additions_lem : (cs ys : List Candidate) → Each (OfHead L a b) cs → Each Held cs → Sorted ys → ((k : Transition) → first_of k ys ≡ first_of k (taken seen cs)) → ys ≡ collect log cs []
    head_additions_lem cs ys all held sorted same = chosen_collect log cs ys (record {
      sorted = sorted;
      lacks = λ k y. same k ∙ taken_first k seen cs all ∙ by_key k cs held true y;
      firsts = λ k n. same k ∙ taken_first k seen cs all ∙ by_key k cs held false n;
    })
