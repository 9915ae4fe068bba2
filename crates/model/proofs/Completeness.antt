-- Lemma 15: what reaches the accepted set in k steps is accepted by the transitions of rounds up to k.
use mathlib.Core.Path.{◌∙◌, ◌≡◌, ap, refl, subst, sym}
use mathlib.Core.Option.{some}
use mathlib.Core.List.{List, [], ◌++◌, ◌∷◌}
use Prim.Native.Nat.{suc, ℕ}
use lib.ListN.{get_elem?, length}
use Rattle.model.specs.declared.Group.{Group}
use Rattle.model.specs.Automata.{Along, Transition, label}
use Rattle.model.specs.Groups.{Processes, merge, restrict}
use Rattle.model.specs.Lists.{Each}
use Rattle.model.specs.Saturation.{added}
use Rattle.model.specs.Systems.{Accepts, Configuration, Rule, Step, System, walk}
use Rattle.model.specs.Words.{Equivalent, project}
use Rattle.model.proofs.Words.{Located}
use Rattle.model.proofs.Groups.{merge_cong, merge_merge, merge_restrict, restrict_merge}
use Rattle.model.proofs.Lists.{each_left, each_map, each_right}
use Rattle.model.proofs.Paths.{Inside, along_inside, along_outside, along_split, cut, rearrange}
use Rattle.model.proofs.Steps.{fire_step, walk_inv}

-- acceptance does not tell equal configurations apart
pub accepts_same : (loc : ℕ → Processes) → Located loc → (F : Group → Type 0) (P : Transition → Type 0) (s t : Configuration)
    → s.states ≡ t.states → Equivalent loc s.word t.word → Accepts loc F P s → Accepts loc F P t
accepts_same loc ne F P s t e m a =
    let r = rearrange loc ne P t.word a.path s.states a.end (λ i. ap (project loc i) a.reads ∙ m i) a.along a.goods in
    record {
      path = r.path;
      reads = r.reads;
      goods = r.goods;
      end = a.end;
      along = subst (λ (g : Group). Along loc g r.path a.end) e r.along;
      accepting = a.accepting;
    }

abbrev pub Cooperates : System → Type 0
Cooperates sys = (n : ℕ) (r : Rule) → get_elem? sys.rules n ≡ some r → Inside sys.loc (sys.loc r.letter) r.written

-- D k: the transitions of rounds up to k. Round k + 1 keeps them and adds what each rule adds for each path over them
pub record Saturates (sys : System) (D : ℕ → Transition → Type 0) : Type 1 where
  pub grows : (k : ℕ) (t : Transition) → D k t → D (suc k) t
  pub adds : (k n : ℕ) (r : Rule) → get_elem? sys.rules n ≡ some r → (ts : List Transition) (e : Group) → Each (D k) ts → label ts ≡ r.written
      → Along sys.loc r.after ts e → D (suc k) (added sys.loc r e)

-- what the rule adds for the path's front part, from the configuration before the rule, in one transition
across : (loc : ℕ → Processes) (r : Rule) (front back : List Transition) (g h f : Group) → restrict (loc r.letter) g ≡ r.before
    → Inside loc (loc r.letter) (label front) → Along loc (merge (loc r.letter) r.after g) front h → Along loc h back f
    → Along loc g (added loc r (merge (loc r.letter) h r.after) ∷ back) f
across loc r front back g h f m inside p q =
    let L : Processes = loc r.letter in
    let same : merge L (restrict L (merge L h r.after)) g ≡ h =
    merge_restrict L (merge L h r.after) g
    ∙ merge_cong L (merge L h r.after) h g (restrict_merge L h r.after)
    ∙ sym (merge_merge L h r.after g)
    ∙ sym (along_outside loc L front (merge L r.after g) h inside p) in
    (m, subst (λ (y : Group). Along loc y back f) (sym same) q)

module _ (sys : System) (ne : Located sys.loc) (co : Cooperates sys) (F : Group → Type 0) (D : ℕ → Transition → Type 0) (sat : Saturates sys D) where
  -- the heart: if round k accepts what the rule leaves, round k + 1 accepts the configuration before it
  back_parts : (k n : ℕ) (r : Rule) → get_elem? sys.rules n ≡ some r → (g h f : Group) (front back : List Transition) → restrict (sys.loc r.letter) g ≡ r.before
      → label front ≡ r.written → Each (D k) (front ++ back)
      → Along sys.loc (merge (sys.loc r.letter) r.after g) front h → Along sys.loc h back f → F f
      → Accepts sys.loc F (D (suc k)) (record { states = g; word = r.letter ∷ label back })
  back_parts k n r is g h f front back m reads goods p q ok =
      let L : Processes = sys.loc r.letter in
      let inside : Inside sys.loc L (label front) = subst (λ (l : List ℕ). Inside sys.loc L l) (sym reads) (co n r is) in
      record {
        path = added sys.loc r (merge L h r.after) ∷ back;
        reads = refl;
        goods = (
          sat.adds k n r is front (merge L h r.after) (each_left (D k) front back goods) reads
              (along_inside sys.loc L front (merge L r.after g) r.after h inside (restrict_merge L r.after g) p),
          each_map (D k) (D (suc k)) (sat.grows k) back (each_right (D k) front back goods),
        );
        end = f;
        along = across sys.loc r front back g h f m inside p q;
        accepting = ok;
      }

  back_one : (k n : ℕ) (r : Rule) → get_elem? sys.rules n ≡ some r → (g : Group) (x : List ℕ) → restrict (sys.loc r.letter) g ≡ r.before
      → Accepts sys.loc F (D k) (record { states = merge (sys.loc r.letter) r.after g; word = r.written ++ x })
      → Accepts sys.loc F (D (suc k)) (record { states = g; word = r.letter ∷ x })
  back_one k n r is g x m a =
      let c = cut a.path r.written x a.reads in
      let s = along_split sys.loc c.front c.back (merge (sys.loc r.letter) r.after g) a.end
      (subst (λ (l : List Transition). Along sys.loc (merge (sys.loc r.letter) r.after g) l a.end) (sym c.whole) a.along) in
      subst (λ (l : List ℕ). Accepts sys.loc F (D (suc k)) (record { states = g; word = r.letter ∷ l })) c.back_reads
      (back_parts k n r is g s.0 a.end c.front c.back m c.front_reads (subst (λ (l : List Transition). Each (D k) l) (sym c.whole) a.goods) s.1 s.2 a.accepting)

  back_step : (k n : ℕ) (r : Rule) → get_elem? sys.rules n ≡ some r → (s t : Configuration) → Step sys.loc r s t → Accepts sys.loc F (D k) t → Accepts sys.loc F (D (suc k)) s
  back_step k n r is s t st a =
      accepts_same sys.loc ne F (D (suc k)) (record { states = s.states; word = r.letter ∷ st.below }) s refl (λ i. sym (st.read i))
      (back_one k n r is s.states st.below st.enabled
      (accepts_same sys.loc ne F (D k) t (record { states = merge (sys.loc r.letter) r.after s.states; word = r.written ++ st.below }) st.states st.written a))

  -- Lemma 15
  pub complete : (ns : List ℕ) (s t : Configuration) → walk sys ns s ≡ some t → Accepts sys.loc F (D 0) t → Accepts sys.loc F (D (length ns)) s
  complete [] s t e a = accepts_same sys.loc ne F (D 0) t s (ap (λ (x : Configuration). x.states) same) (λ i. ap (λ (x : Configuration). project sys.loc i x.word) same) a
    where
      same : t ≡ s
      same = cc
  complete (n ∷ ns) s t e a =
      let w = walk_inv sys n ns s t e in
      back_step (length ns) n w.rule w.is s w.mid (fire_step sys.loc ne w.rule s w.mid w.first) (complete ns w.mid t w.rest a)
