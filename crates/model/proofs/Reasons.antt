-- A record's reason, said of the record: the lowest rule that adds its key in its round, and of that rule's paths the first by record numbers. Folds, cut in two.
use mathlib.Core.Path.{◌∙◌, ◌≡◌, ap, refl, subst, sym}
use mathlib.Core.Bool.{true}
use mathlib.Core.Logic.{◌⊎◌, inl, inr, ⊎_elim}
use mathlib.Core.Option.{some}
use mathlib.Core.List.{List, Memᴰ, [], ◌∷◌, map}
use Prim.Native.Nat.{◌≤◌, suc, zero, ℕ}
use native.Mathlib.Omega.{arith}
use native.Mathlib.Nat.{not-suc-le-zero}
use lib.ListN.{get_elem?, length}
use Rattle.model.specs.declared.Group.{Group}
use Rattle.model.specs.Automata.{label}
use Rattle.model.specs.Lists.{Each}
use Rattle.model.specs.Log.{Candidate, Path, Record, added_record, additions, candidate, lex_less, log_at}
use Rattle.model.specs.Saturation.{added}
use Rattle.model.specs.Systems.{Rule, System}
use Rattle.model.proofs.Collecting.{Reasoned, additions_reasoned, candidates_complete, log_at_suc}
use Rattle.model.proofs.FirstCandidates.{additions_least}
use Rattle.model.proofs.Lists.{each_append, each_map, each_of_map, mem_each}
use Rattle.model.proofs.LogPaths.{IsPath, paths_complete}
use Rattle.model.proofs.Rounds.{FirstHeld, each_first}
use Rattle.model.proofs.Soundness.{transitions_at}

-- every other rule and path that adds the record's key over the log of the round before is later
abbrev pub LeastReason : System → Record → Type 0
LeastReason sys x = (j : ℕ) → suc j ≡ x.round → (m : ℕ) (r : Rule) → get_elem? sys.rules m ≡ some r → (t : Path) → IsPath sys.loc (log_at sys j) r.written r.after t
    → added sys.loc r t.end ≡ x.key → (m ∷ t.numbers ≡ x.rule ∷ x.path) ⊎ (lex_less (x.rule ∷ x.path) (m ∷ t.numbers) ≡ true)

least_young : (sys : System) (k : ℕ) (c : Candidate) → Memᴰ c (additions sys (log_at sys k)) → LeastReason sys (added_record (suc k) (log_at sys k) c)
least_young sys k c i j e m r is t tr q =
    let same : j ≡ k = omega arith in
    let tr' : IsPath sys.loc (log_at sys k) r.written r.after t = subst (λ (n : ℕ). IsPath sys.loc (log_at sys n) r.written r.after t) same tr in
    ⊎_elim
    (λ (p : candidate sys.loc r m t ≡ c). inl (ap (λ (d : Candidate). d.rule ∷ d.path) p))
    (λ (l : lex_less (c.rule ∷ c.path) (m ∷ t.numbers) ≡ true). inr l)
    (additions_least sys (log_at sys k) c i (candidate sys.loc r m t)
    (candidates_complete sys.loc (log_at sys k) sys.rules 0 m m r is (omega arith) t
    (paths_complete sys.loc (log_at sys k) r.written r.after t.numbers t.end tr'.inside tr'.reads tr'.along)) q)

least_zero : (sys : System) → Each (LeastReason sys) (log_at sys 0)
least_zero sys = each_map (FirstHeld sys 0) (LeastReason sys) (λ x f j e m r is t tr q. absurd (not-suc-le-zero (subst (λ (n : ℕ). n ≤ 0) (sym e) f.within))) (log_at sys 0) (each_first sys 0)

least_suc : (sys : System) (k : ℕ) → Each (LeastReason sys) (log_at sys k) → Each (LeastReason sys) (log_at sys (suc k))
least_suc sys k e = rw (log_at_suc sys k) (each_append (LeastReason sys) (log_at sys k) (map (added_record (suc k) (log_at sys k)) (additions sys (log_at sys k))) e
    (each_of_map (LeastReason sys) (added_record (suc k) (log_at sys k)) (additions sys (log_at sys k))
    (mem_each (additions sys (log_at sys k)) (λ (c : Candidate). LeastReason sys (added_record (suc k) (log_at sys k) c)) (least_young sys k))))

pub log_least : (sys : System) (k : ℕ) → Each (LeastReason sys) (log_at sys k)
log_least sys zero = least_zero sys
log_least sys (suc k) = least_suc sys k (log_least sys k)

-- and it is a reason: over the log of the round before, its rule's addition for its path
abbrev pub as_candidate : Record → Candidate
as_candidate x = record { key = x.key; rule = x.rule; path = x.path }

abbrev pub HasReason : System → Record → Type 0
HasReason sys x = (j : ℕ) → suc j ≡ x.round → Reasoned sys (log_at sys j) (as_candidate x)

reason_young : (sys : System) (k : ℕ) (c : Candidate) → Reasoned sys (log_at sys k) c → HasReason sys (added_record (suc k) (log_at sys k) c)
reason_young sys k c ρ j e = let same : j ≡ k = omega arith in subst (λ (n : ℕ). Reasoned sys (log_at sys n) c) (sym same) ρ

reason_zero : (sys : System) → Each (HasReason sys) (log_at sys 0)
reason_zero sys = each_map (FirstHeld sys 0) (HasReason sys) (λ x f j e. absurd (not-suc-le-zero (subst (λ (n : ℕ). n ≤ 0) (sym e) f.within))) (log_at sys 0) (each_first sys 0)

reason_suc : (sys : System) (k : ℕ) → Each (HasReason sys) (log_at sys k) → Each (HasReason sys) (log_at sys (suc k))
reason_suc sys k e = rw (log_at_suc sys k) (each_append (HasReason sys) (log_at sys k) (map (added_record (suc k) (log_at sys k)) (additions sys (log_at sys k))) e
    (each_of_map (HasReason sys) (added_record (suc k) (log_at sys k)) (additions sys (log_at sys k))
    (each_map (Reasoned sys (log_at sys k)) (λ (c : Candidate). HasReason sys (added_record (suc k) (log_at sys k) c)) (reason_young sys k) (additions sys (log_at sys k)) (additions_reasoned sys (log_at sys k)))))

pub log_reasons : (sys : System) (k : ℕ) → Each (HasReason sys) (log_at sys k)
log_reasons sys zero = reason_zero sys
log_reasons sys (suc k) = reason_suc sys k (log_reasons sys k)

-- ---- folds, for loops
-- a reason's path has a place for each written letter
length_transitions_at : (log : List Record) (ns : List ℕ) → length (label (transitions_at log ns)) ≡ length ns
length_transitions_at log [] = refl
length_transitions_at log (n ∷ ns) = ap suc (length_transitions_at log ns)

pub path_length_lem : {loc : _} {log : List Record} {w : List ℕ} {g : Group} {t : Path} → IsPath loc log w g t → length t.numbers ≡ length w
path_length_lem {log = log} {t = t} tr = sym (length_transitions_at log t.numbers) ∙ ap length tr.reads
