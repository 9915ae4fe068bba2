-- Demand 3 of the figures: what an answer tells, its figures tell.
use mathlib.Core.Path.{◌≡◌, ap, ap₂, refl, subst, sym, ◌∙◌}
use mathlib.Core.Logic.{◌↔◌}
use mathlib.Core.List.{List, []}
use Prim.Native.Nat.{ℕ, ◌≤◌}
use native.Mathlib.Omega.{arith}
use lib.ListN.{get_or}
use Rattle.std.specs.Prelude.{Result, Ok, Err}
use Rattle.model.specs.declared.Refusal.{Refusal}
use Rattle.model.specs.declared.Run.{Run}
use Rattle.model.specs.declared.Verdict.{Verdict}
use Rattle.model.specs.Calls.{answer_call, answer_figures, refuse, refused_by, run_call, run_figures}
use Rattle.model.specs.Demands.{Decided, Describes, NoRun, SomeRun, Tells, Writes}
use Rattle.model.specs.Systems.{System}
use Rattle.model.specs.Tables.{Item, accepted, read, system_of}
use Rattle.model.proofs.Main.{demand_3}
use Rattle.model.proofs.Meanings.{Unplaced, answer_placed, answer_tells, run_placed, run_writes}
use Rattle.exports.specs.Figures.{AnswerDemand, Premises, RunDemand, RunWord, Word, sixteen}

-- ---- the word alone
figures_tell : (table : List ℕ) (x : Result Verdict Refusal) → Tells table x → Word table (sixteen (answer_figures x))
figures_tell table (Ok (Verdict.Reachable t r s)) m = record { unreachable = λ z. absurd (omega (arith, z)); reachable = λ z. m; refused = ((λ z. absurd (omega (arith, z))), (λ l. absurd (omega (arith, l)))) }
figures_tell table (Ok (Verdict.Unreachable t r)) m = record { unreachable = λ z. m; reachable = λ z. absurd (omega (arith, z)); refused = ((λ z. absurd (omega (arith, z))), (λ l. absurd (omega (arith, l)))) }
figures_tell table (Err r) m = record { unreachable = λ z. absurd (omega (arith, z)); reachable = λ z. absurd (omega (arith, z)); refused = ((λ z. m), (λ l. refl)) }

figures_write : (table page : List ℕ) (x : Result Run Refusal) → Writes table page x → RunWord table (sixteen (run_figures x)) page
figures_write table page (Ok run) m = record { joins = λ z. m }
figures_write table page (Err r) m = record { joins = λ z. absurd (omega (arith, m, z)) }

pub answer_word : (table log scratch f : List ℕ) → f ≡ sixteen (answer_figures (answer_call table log scratch).answer) → Word table f
answer_word table log scratch f e = rw e (figures_tell table (answer_call table log scratch).answer (answer_tells table log scratch))

pub run_word : (table log scratch page f left : List ℕ) → f ≡ sixteen (run_figures (run_call table log scratch page).answer) → left ≡ (run_call table log scratch page).page → RunWord table f left
run_word table log scratch page f left e q = rw (e, q) (figures_write table (run_call table log scratch page).page (run_call table log scratch page).answer (run_writes table log scratch page))

-- ---- figure 0 is the refusal's number
pub answer_number : (x : Result Verdict Refusal) → get_or (sixteen (answer_figures x)) 0 0 ≡ refused_by x
answer_number (Ok (Verdict.Reachable t r s)) = refl
answer_number (Ok (Verdict.Unreachable t r)) = refl
answer_number (Err r) = refl

pub run_number : (x : Result Run Refusal) → get_or (sixteen (run_figures x)) 0 0 ≡ refused_by x
run_number (Ok run) = refl
run_number (Err r) = refl

-- and from 10 on it tells the whole refusal
answer_refused : (x : Result Verdict Refusal) → Unplaced x → (n : ℕ) → 10 ≤ n → (x ≡ refuse n 0) ↔ (get_or (sixteen (answer_figures x)) 0 0 ≡ n)
answer_refused (Ok (Verdict.Reachable t r s)) p n h = ((λ q. absurd (let z : ◌≡◌ {A = ℕ} 0 1 = cc in omega arith)), (λ q. absurd (omega (arith, q))))
answer_refused (Ok (Verdict.Unreachable t r)) p n h = ((λ q. absurd (let z : ◌≡◌ {A = ℕ} 0 1 = cc in omega arith)), (λ q. absurd (omega (arith, q))))
answer_refused (Err r) p n h = ((λ q. cc), (λ q. let z : r.place ≡ 0 = p (omega (arith, q)) in ap₂ (refuse {A = Verdict}) q z))

run_refused : (x : Result Run Refusal) → Unplaced x → (n : ℕ) → 10 ≤ n → (x ≡ refuse n 0) ↔ (get_or (sixteen (run_figures x)) 0 0 ≡ n)
run_refused (Ok run) p n h = ((λ q. absurd (let z : ◌≡◌ {A = ℕ} 0 1 = cc in omega arith)), (λ q. absurd (omega (arith, q))))
run_refused (Err r) p n h = ((λ q. cc), (λ q. let z : r.place ≡ 0 = p (omega (arith, q)) in ap₂ (refuse {A = Run}) q z))

-- ---- demand 3
through : {A B C : Type 0} → A ↔ B → B ↔ C → A ↔ C
through f g = ((λ a. g.0 (f.0 a)), (λ c. f.1 (g.1 c)))

-- a table has one list of items
same_items : (table : List ℕ) (items : List Item) → read table ≡ accepted items → (P : System → Type 0) → Describes table P → P (system_of items)
same_items table items e P (others, q, p) = subst (λ (l : List Item). P (system_of l)) (accepted_inj (sym q ∙ e)) p
  where
    accepted_inj : {a b : List Item} → accepted a ≡ accepted b → a ≡ b
    accepted_inj e = cc

module _ (table log scratch : List ℕ) where
  abbrev given : Result Verdict Refusal
  given = (answer_call table log scratch).answer

  pub answer_figures_lem : (f : List ℕ) → f ≡ sixteen (answer_figures given) → AnswerDemand table log scratch f
  answer_figures_lem f e =
      let w = answer_word table log scratch f e in
      let number : get_or f 0 0 ≡ get_or (sixteen (answer_figures given)) 0 0 = ap (λ (l : List ℕ). get_or l 0 0) e in
      record {
        answer = given;
        behind = e;
        demand = demand_3 table log scratch;
        unreachable = λ items p. ((λ never. rw (e, (decided items p).unreachable.0 never) refl), (λ z. same_items table items p.reads NoRun (w.unreachable z)));
        reachable = λ items p. ((λ some. rw (e, ((decided items p).reachable.0 some).2) refl), (λ z. same_items table items p.reads SomeRun (w.reachable z)));
        short = rw number (through (demand_3 table log scratch []).answer_short (answer_refused given (answer_placed table log scratch) 10 (omega arith)));
      }
    where
      decided : (items : List Item) → Premises table log scratch items → Decided (system_of items) [] given (run_call table log scratch []).answer (run_call table log scratch []).page
      decided items p = (demand_3 table log scratch []).decided items p.reads p.serves p.holds

  module _ (page : List ℕ) where
    abbrev ran : Result Run Refusal
    ran = (run_call table log scratch page).answer

    pub run_figures_lem : (f left : List ℕ) → f ≡ sixteen (run_figures ran) → left ≡ (run_call table log scratch page).page → RunDemand table log scratch page f left
    run_figures_lem f left e q =
        let number : get_or f 0 0 ≡ get_or (sixteen (run_figures ran)) 0 0 = ap (λ (l : List ℕ). get_or l 0 0) e in
        record {
          answer = ran;
          behind = e;
          demand = rw q (demand_3 table log scratch page);
          no_run = λ items p. rw number (through (decided items p).no_run (refused 16 (omega arith)));
          long = λ items p n c. rw number (through ((decided items p).long n c) (refused 11 (omega arith)));
          given = λ items p n c f. let g = (decided items p).given n c f in (e ∙ ap (λ (x : Result Run Refusal). sixteen (run_figures x)) g.0, rw q g.2);
          short = rw number (through (demand_3 table log scratch page).run_short (refused 10 (omega arith)));
        }
      where
        decided : (items : List Item) → Premises table log scratch items → Decided (system_of items) page given ran (run_call table log scratch page).page
        decided items p = (demand_3 table log scratch page).decided items p.reads p.serves p.holds

        refused : (n : ℕ) → 10 ≤ n → (ran ≡ refuse n 0) ↔ (get_or (sixteen (run_figures ran)) 0 0 ≡ n)
        refused n h = run_refused ran (run_placed table log scratch page) n h
