-- A rule none of whose written letters got a record in the last round adds nothing that the log lacks.
use mathlib.Core.Path.{◌∙◌, ◌≡◌, ap, refl, subst, sym}
use mathlib.Core.Bool.{Bool, ◌&&◌, false, true, true≢false}
use mathlib.Core.Logic.{⊎_elim}
use mathlib.Core.Option.{some}
use mathlib.Core.List.{List, Memᴰ, [], ◌∷◌, map}
use Prim.Native.Nat.{◌<◌, suc, ℕ}
use lib.Dec.{eqb}
use lib.ListN.{get_elem?, length}
use borrow.Author.Tests.{eq-eqb}
use Rattle.model.specs.Automata.{Along, Transition, label}
use Rattle.model.specs.Lists.{Each, any_of}
use Rattle.model.specs.Log.{Candidate, Path, Record, added_record, additions, in_log, log_at, no_record, paths, record_at}
use Rattle.model.specs.Saturation.{added}
use Rattle.model.specs.Systems.{Rule, System}
use Rattle.model.proofs.Collecting.{in_log_of, log_saturates, log_at_suc}
use Rattle.model.proofs.Lists.{any_of_lem, each_any, each_both, each_get, each_map, get_d_mem}
use Rattle.model.proofs.LogPaths.{IsPath, paths_sound}
use Rattle.model.proofs.Rounds.{each_transitions_at_held}
use Rattle.model.proofs.Soundness.{transitions_at}
use Rattle.model.proofs.Tests.{and_both}
use Rattle.model.proofs.Validity.{Young, old_or_young, transitions_at_grow}

-- some record of round k reads the letter
abbrev pub fresh_in : List Record → ℕ → ℕ → Bool
fresh_in log k a = any_of (λ (r : Record). eqb r.round k && eqb r.key.letter a) log

-- the letters of a path's records are those of its word
letters_of : (log : List Record) (ns : List ℕ) → Each (λ (n : ℕ). Memᴰ (record_at log n).key.letter (label (transitions_at log ns))) ns
letters_of log [] = tt
letters_of log (n ∷ ns) = (
  Memᴰ.head refl,
  each_map (λ (m : ℕ). Memᴰ (record_at log m).key.letter (label (transitions_at log ns))) (λ (m : ℕ). Memᴰ (record_at log m).key.letter (label (transitions_at log (n ∷ ns)))) (λ m i. Memᴰ.tail i) ns (letters_of log ns),
)

module _ (sys : System) (k : ℕ) where
  -- a record whose letter got none in round k + 1 stands in the log of rounds up to k
  older_record : (w : List ℕ) → any_of (fresh_in (log_at sys (suc k)) (suc k)) w ≡ false → (n : ℕ) → n < length (log_at sys (suc k)) → Memᴰ (record_at (log_at sys (suc k)) n).key.letter w → n < length (log_at sys k)
  older_record w f n h m = ⊎_elim (λ o. o.below) young (old_or_young (λ (c : Candidate). Unit {0}) (added_record (suc k) (log_at sys k)) (log_at sys k) (additions sys (log_at sys k)) (each_any (λ (c : Candidate). Unit {0}) (λ c. tt) (additions sys (log_at sys k))) n (rw (log_at_suc sys k) at h))
    where
      young : Young (λ (c : Candidate). Unit {0}) (log_at sys k) (map (added_record (suc k) (log_at sys k)) (additions sys (log_at sys k))) (added_record (suc k) (log_at sys k)) n → n < length (log_at sys k)
      young y =
          let is : record_at (log_at sys (suc k)) n ≡ added_record (suc k) (log_at sys k) y.cand = rw (log_at_suc sys k) y.same in
          let x : Record = record_at (log_at sys (suc k)) n in
          absurd (true≢false (sym (any_of_lem (fresh_in (log_at sys (suc k)) (suc k)) w x.key.letter m
          (any_of_lem (λ (r : Record). eqb r.round (suc k) && eqb r.key.letter x.key.letter) (log_at sys (suc k)) x (get_d_mem (log_at sys (suc k)) n no_record h)
          (and_both (eqb x.round (suc k)) (eqb x.key.letter x.key.letter) (eq-eqb x.round (suc k) (ap (λ (r : Record). r.round) is)) (eq-eqb x.key.letter x.key.letter refl)))) ∙ f))

  pub skip_law : (n : ℕ) (r : Rule) → get_elem? sys.rules n ≡ some r → any_of (fresh_in (log_at sys (suc k)) (suc k)) r.written ≡ false → (p : Path)
      → Memᴰ p (paths sys.loc (log_at sys (suc k)) r.written r.after) → in_log (added sys.loc r p.end) (log_at sys (suc k)) ≡ true
  skip_law n r is f p i =
      let t = each_get (IsPath sys.loc (log_at sys (suc k)) r.written r.after) p (paths sys.loc (log_at sys (suc k)) r.written r.after) (paths_sound sys.loc (log_at sys (suc k)) r.written r.after) i in
      let old : Each (λ (m : ℕ). m < length (log_at sys k)) p.numbers =
      each_both (λ (m : ℕ). m < length (log_at sys (suc k))) (λ (m : ℕ). Memᴰ (record_at (log_at sys (suc k)) m).key.letter (label (transitions_at (log_at sys (suc k)) p.numbers))) (λ (m : ℕ). m < length (log_at sys k))
      (λ m h l. older_record r.written f m h (subst (λ (w : List ℕ). Memᴰ (record_at (log_at sys (suc k)) m).key.letter w) t.reads l)) p.numbers t.inside (letters_of (log_at sys (suc k)) p.numbers) in
      let same : transitions_at (log_at sys (suc k)) p.numbers ≡ transitions_at (log_at sys k) p.numbers =
      ap (λ (log : List Record). transitions_at log p.numbers) (log_at_suc sys k) ∙ transitions_at_grow (log_at sys k) (map (added_record (suc k) (log_at sys k)) (additions sys (log_at sys k))) p.numbers old in
      in_log_of (added sys.loc r p.end) (log_at sys (suc k))
      ((log_saturates sys).adds k n r is (transitions_at (log_at sys k) p.numbers) p.end (each_transitions_at_held (log_at sys k) p.numbers old) (ap label (sym same) ∙ t.reads)
      (subst (λ (ts : List Transition). Along sys.loc r.after ts p.end) same t.along))
