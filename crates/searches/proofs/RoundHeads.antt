-- A round by heads: rules with the same letter and before states compete for the same keys, others never do. And a rule whose written
-- letters got no record in the last round adds nothing.
use mathlib.Core.Path.{◌∙◌, ◌≡◌, ap, ap₂, refl, subst, sym}
use mathlib.Core.Bool.{Bool, ◌&&◌, cond, false, not, true, true≢false}
use mathlib.Core.Logic.{◌⊎◌, inl, inr, ⊎_elim}
use mathlib.Core.Option.{Option, none, some}
use mathlib.Core.List.{List, Memᴰ, [], ◌++◌, ◌∷◌, map}
use Prim.Native.Nat.{suc, ℕ}
use lib.Dec.{eqb}
use borrow.Author.Tests.{eq-eqb, eqb-true, not-true}
use Rattle.model.specs.declared.Group.{Group}
use Rattle.model.specs.Automata.{Transition}
use Rattle.model.specs.Groups.{Processes, same_group}
use Rattle.model.specs.Lists.{Each, filter}
use Rattle.model.specs.Log.{Candidate, Path, Record, additions, candidate, candidates, collect, in_log, key_less, lex_less, paths, same_key}
use Rattle.model.specs.Saturation.{added}
use Rattle.model.specs.Systems.{Rule, System}
use Rattle.model.specs.Tables.{absent}
use Rattle.searches.specs.Searches.{candidates_of, head_of, is_head, rule_head}
use Rattle.model.proofs.Collecting.{each_collect, same_key_true}
use Rattle.model.proofs.FirstCandidates.{first_both, first_of, or_else, first_none}
use Rattle.model.proofs.Groups.{same_group_of, same_group_true}
use Rattle.model.proofs.Lists.{each_any, each_append, each_map, each_of_map, mem_each, filter_each, filter_holds, filter_none}
use Rattle.model.proofs.Order.{Less, Sorted, additions_sorted, collect_sorted, lex_irrefl, lex_total, lex_trans, same_digits, lex_front, sorted_append}
use Rattle.model.proofs.Tests.{and_both, and_left, and_right, by_test}
use Rattle.searches.proofs.UniqueRound.{collect_chosen, sorted_ext}

-- ---- heads: letter and before states
abbrev pub head_digits : Transition → List ℕ
head_digits t = t.letter ∷ t.before.s0 ∷ t.before.s1 ∷ t.before.s2 ∷ t.before.s3 ∷ []

abbrev pub after_digits : Transition → List ℕ
after_digits t = t.after.s0 ∷ t.after.s1 ∷ t.after.s2 ∷ t.after.s3 ∷ []

-- the transition's head is at most h
abbrev pub up_to : List ℕ → Candidate → Bool
up_to h c = not (lex_less h (head_digits c.key))

-- ---- the candidates of some rules
-- rules without a candidate for a key do not matter for it
pub first_chosen : (loc : ℕ → Processes) (log : List Record) (ok : Rule → Bool) (k : Transition) (rs : List Rule) (n : ℕ)
    → Each (λ (r : Rule). ok r ≡ false → (m : ℕ) → first_of k (map (candidate loc r m) (paths loc log r.written r.after)) ≡ none) rs
    → first_of k (candidates_of loc log ok rs n) ≡ first_of k (candidates loc log rs n)
first_chosen loc log ok k [] n e = refl
first_chosen loc log ok k (r ∷ rs) n e =
    first_both k (cond (ok r) (map (candidate loc r n) (paths loc log r.written r.after)) []) (candidates_of loc log ok rs (suc n))
    ∙ ap₂ or_else front (first_chosen loc log ok k rs (suc n) e.1)
    ∙ sym (first_both k (map (candidate loc r n) (paths loc log r.written r.after)) (candidates loc log rs (suc n)))
  where
    front : first_of k (cond (ok r) (map (candidate loc r n) (paths loc log r.written r.after)) []) ≡ first_of k (map (candidate loc r n) (paths loc log r.written r.after))
    front = by_test (ok r) (λ y. rw y) (λ f. rw f (sym (e.0 f n)))

-- ---- lexicographic order of heads and keys
pub head_less : (t u : Transition) → lex_less (head_digits t) (head_digits u) ≡ true → Less t u
unfolding key_less
head_less t u e = lex_front (head_digits t) (head_digits u) (after_digits t) (after_digits u) refl e

-- at most h, and h below g: below g
lex_le_lt : (xs h g : List ℕ) → lex_less h xs ≡ false → lex_less h g ≡ true → lex_less xs g ≡ true
lex_le_lt xs h g n l = by_test (lex_less xs h) (λ y. lex_trans xs h g y l)
    (λ m. by_same (same_digits xs h) (λ e. subst (λ (z : List ℕ). lex_less z g ≡ true) (sym e) l) (λ ne. absurd (true≢false (sym (lex_total xs h ne m) ∙ n))))
  where
    by_same : {C : Type 0} → (xs ≡ h) ⊎ (xs ≡ h → ⊥) → (xs ≡ h → C) → ((xs ≡ h → ⊥) → C) → C
    by_same (inl e) f g = f e
    by_same (inr e) f g = g e

-- ---- filters by key
filter_sorted : (f : Candidate → Bool) (cs : List Candidate) → Sorted cs → Sorted (filter f cs)
filter_sorted f [] s = tt
filter_sorted f (c ∷ cs) s = by_test (f c)
    (λ y. rw y (filter_each f (λ (d : Candidate). Less c.key d.key) cs s.0, filter_sorted f cs s.1))
    (λ n. rw n (filter_sorted f cs s.1))

-- the first with a key, behind a filter on keys
first_filter : (f : Transition → Bool) (k : Transition) (cs : List Candidate) → first_of k (filter (λ (c : Candidate). f c.key) cs) ≡ cond (f k) (first_of k cs) none
first_filter f k [] = by_test (f k) (λ y. rw y) (λ n. rw n)
first_filter f k (c ∷ cs) = by_test (same_key c.key k)
    (λ y. let same : c.key ≡ k = same_key_true c.key k y in by_test (f k)
    (λ t. rw (ap f same ∙ t, t, y))
    (λ n. rw (ap f same ∙ n, n) (first_filter f k cs ∙ rw n)))
    (λ m. by_test (f c.key)
    (λ t. rw (t, m) (first_filter f k cs))
    (λ n. rw (n, m) (first_filter f k cs)))

-- ---- a rule's candidates
pub is_head_true : (a : ℕ) (b : Group) (r : Rule) → is_head a b r ≡ true → rule_head r ≡ head_of a b
unfolding is_head
is_head_true a b r e =
    ap₂ head_of (eqb-true r.letter a (and_left (eqb r.letter a) (same_group r.before b) e)) (same_group_true r.before b (and_right (eqb r.letter a) (same_group r.before b) e))

pub is_head_of : (a : ℕ) (b : Group) (r : Rule) → rule_head r ≡ head_of a b → is_head a b r ≡ true
unfolding is_head
is_head_of a b r e =
    let l : r.letter ≡ a = cc in
    let g : r.before ≡ b = parts r.before b (cc) (cc) (cc) (cc) in
    and_both (eqb r.letter a) (same_group r.before b) (eq-eqb r.letter a l) (same_group_of r.before b g)
  where
    parts : (g h : Group) → g.s0 ≡ h.s0 → g.s1 ≡ h.s1 → g.s2 ≡ h.s2 → g.s3 ≡ h.s3 → g ≡ h
    parts g h p q s t = λ i. record { s0 = p i; s1 = q i; s2 = s i; s3 = t i }

module _ (loc : ℕ → Processes) (log : List Record) (k : Transition) where
  abbrev of_rule : Rule → ℕ → List Candidate
  of_rule r m = map (candidate loc r m) (paths loc log r.written r.after)

  -- every path of the rule adds another key
  rule_none : (r : Rule) (m : ℕ) → ((p : Path) → Memᴰ p (paths loc log r.written r.after) → same_key (added loc r p.end) k ≡ false) → first_of k (of_rule r m) ≡ none
  rule_none r m f = first_none k (of_rule r m) (each_of_map (λ (c : Candidate). same_key c.key k ≡ false) (candidate loc r m) (paths loc log r.written r.after)
      (mem_each (paths loc log r.written r.after) (λ (p : Path). same_key (added loc r p.end) k ≡ false) f))

  pub other_head_none : (r : Rule) (m : ℕ) → (rule_head r ≡ head_digits k → ⊥) → first_of k (of_rule r m) ≡ none
  other_head_none r m ne = rule_none r m (λ p i. by_test (same_key (added loc r p.end) k) (λ y. absurd (ne (ap head_digits (same_key_true (added loc r p.end) k y)))) (λ n. n))

  pub held_none : (r : Rule) (m : ℕ) → in_log k log ≡ false → ((p : Path) → Memᴰ p (paths loc log r.written r.after) → in_log (added loc r p.end) log ≡ true) → first_of k (of_rule r m) ≡ none
  held_none r m fresh f = rule_none r m (λ p i. by_test (same_key (added loc r p.end) k)
      (λ y. absurd (true≢false (sym (f p i) ∙ ap (λ (t : Transition). in_log t log) (same_key_true (added loc r p.end) k y) ∙ fresh))) (λ n. n))

  pub of_none : (ok : Rule → Bool) (rs : List Rule) (n : ℕ) → Each (λ (r : Rule). ok r ≡ true → (m : ℕ) → first_of k (of_rule r m) ≡ none) rs → first_of k (candidates_of loc log ok rs n) ≡ none
  of_none ok [] n e = refl
  of_none ok (r ∷ rs) n e =
      first_both k (cond (ok r) (of_rule r n) []) (candidates_of loc log ok rs (suc n))
      ∙ ap₂ or_else front (of_none ok rs (suc n) e.1)
    where
      front : first_of k (cond (ok r) (of_rule r n) []) ≡ none
      front = by_test (ok r) (λ y. rw y (e.0 y n)) (λ f. rw f)

-- ---- the round, one head after the other
module _ (sys : System) (log : List Record) (ok : Rule → Bool)
    (skip : Each (λ (r : Rule). ok r ≡ false → (p : Path) → Memᴰ p (paths sys.loc log r.written r.after) → in_log (added sys.loc r p.end) log ≡ true) sys.rules) where
  abbrev pub additions_of : ℕ → Group → List Candidate
  additions_of a b = collect log (candidates_of sys.loc log (λ r. ok r && is_head a b r) sys.rules 0) []

  -- the head has nothing for a key with another
  head_other_key : (a : ℕ) (b : Group) (k : Transition) → (head_digits k ≡ head_of a b → ⊥) → first_of k (additions_of a b) ≡ none
  head_other_key a b k ne = by_test (in_log k log)
      (λ y. (collect_chosen log (candidates_of sys.loc log (λ r. ok r && is_head a b r) sys.rules 0)).lacks k y)
      (λ n. (collect_chosen log (candidates_of sys.loc log (λ r. ok r && is_head a b r) sys.rules 0)).firsts k n
      ∙ of_none sys.loc log k (λ r. ok r && is_head a b r) sys.rules 0
      (mem_each sys.rules (λ (r : Rule). (ok r && is_head a b r) ≡ true → (m : ℕ) → first_of k (map (candidate sys.loc r m) (paths sys.loc log r.written r.after)) ≡ none)
      (λ r i e m. other_head_none sys.loc log k r m (λ q. ne (sym q ∙ is_head_true a b r (and_right (ok r) (is_head a b r) e))))))

  -- and for a key with its head what the whole round has
  head_same_key : (a : ℕ) (b : Group) (k : Transition) → head_digits k ≡ head_of a b → first_of k (additions_of a b) ≡ first_of k (additions sys log)
  unfolding additions
  head_same_key a b k same = by_test (in_log k log)
      (λ y. (collect_chosen log (candidates_of sys.loc log (λ r. ok r && is_head a b r) sys.rules 0)).lacks k y ∙ sym ((collect_chosen log (candidates sys.loc log sys.rules 0)).lacks k y))
      (λ n. (collect_chosen log (candidates_of sys.loc log (λ r. ok r && is_head a b r) sys.rules 0)).firsts k n
      ∙ first_chosen sys.loc log (λ r. ok r && is_head a b r) k sys.rules 0
      (each_map (λ (r : Rule). ok r ≡ false → (p : Path) → Memᴰ p (paths sys.loc log r.written r.after) → in_log (added sys.loc r p.end) log ≡ true)
      (λ (r : Rule). (ok r && is_head a b r) ≡ false → (m : ℕ) → first_of k (map (candidate sys.loc r m) (paths sys.loc log r.written r.after)) ≡ none)
      (λ r held e m. by_test (ok r)
      (λ y. other_head_none sys.loc log k r m (λ q. true≢false (sym (is_head_of a b r (q ∙ same)) ∙ rw y at e)))
      (λ f. held_none sys.loc log k r m n (held f)))
      sys.rules skip)
      ∙ sym ((collect_chosen log (candidates sys.loc log sys.rules 0)).firsts k n))

  -- no active rule has the head: the round has nothing for the key
  head_none : (k : Transition) → Each (λ (r : Rule). ok r ≡ true → rule_head r ≡ head_digits k → ⊥) sys.rules → first_of k (additions sys log) ≡ none
  unfolding additions
  head_none k absent = by_test (in_log k log)
      (λ y. (collect_chosen log (candidates sys.loc log sys.rules 0)).lacks k y)
      (λ n. (collect_chosen log (candidates sys.loc log sys.rules 0)).firsts k n ∙ all_none sys.rules 0 (both n sys.rules skip absent))
    where
      both : in_log k log ≡ false → (rs : List Rule)
          → Each (λ (r : Rule). ok r ≡ false → (p : Path) → Memᴰ p (paths sys.loc log r.written r.after) → in_log (added sys.loc r p.end) log ≡ true) rs
          → Each (λ (r : Rule). ok r ≡ true → rule_head r ≡ head_digits k → ⊥) rs
          → Each (λ (r : Rule). (m : ℕ) → first_of k (map (candidate sys.loc r m) (paths sys.loc log r.written r.after)) ≡ none) rs
      both n [] e f = tt
      both n (r ∷ rs) e f = ((λ m. by_test (ok r) (λ y. other_head_none sys.loc log k r m (f.0 y)) (λ z. held_none sys.loc log k r m n (e.0 z))), both n rs e.1 f.1)

      all_none : (rs : List Rule) (n : ℕ) → Each (λ (r : Rule). (m : ℕ) → first_of k (map (candidate sys.loc r m) (paths sys.loc log r.written r.after)) ≡ none) rs → first_of k (candidates sys.loc log rs n) ≡ none
      all_none [] n e = refl
      all_none (r ∷ rs) n e =
          first_both k (map (candidate sys.loc r n) (paths sys.loc log r.written r.after)) (candidates sys.loc log rs (suc n)) ∙ ap₂ or_else (e.0 n) (all_none rs (suc n) e.1)

  -- The next head: no active rule has one between it and the last.
  module _ (last : List ℕ) (a : ℕ) (b : Group) (later : lex_less last (head_of a b) ≡ true)
      (gap : Each (λ (r : Rule). ok r ≡ true → lex_less last (rule_head r) ≡ true → lex_less (rule_head r) (head_of a b) ≡ false) sys.rules) where
    -- the keys of heads up to h
    abbrev key_up_to : List ℕ → Transition → Bool
    key_up_to h k = not (lex_less h (head_digits k))

    next_first : (k : Transition) → cond (key_up_to (head_of a b) k) (first_of k (additions sys log)) none ≡ or_else (cond (key_up_to last k) (first_of k (additions sys log)) none) (first_of k (additions_of a b))
    next_first k = by_test (lex_less last (head_digits k)) above below
      where
        -- past the last head: none before, and this head's or none
        above : lex_less last (head_digits k) ≡ true → cond (key_up_to (head_of a b) k) (first_of k (additions sys log)) none ≡ or_else (cond (key_up_to last k) (first_of k (additions sys log)) none) (first_of k (additions_of a b))
        above y = rw y (⊎_elim
            (λ (e : head_digits k ≡ head_of a b). rw (head_same_key a b k e) (by_test (lex_less (head_of a b) (head_digits k)) (λ z. absurd (lex_irrefl (head_of a b) (subst (λ (h : List ℕ). lex_less (head_of a b) h ≡ true) e z))) (λ n. rw n)))
            (λ (ne : head_digits k ≡ head_of a b → ⊥). rw (head_other_key a b k ne) (by_test (lex_less (head_of a b) (head_digits k)) (λ z. rw z) (λ n. rw (n, between ne n))))
            (same_digits (head_digits k) (head_of a b)))
          where
            between : (head_digits k ≡ head_of a b → ⊥) → lex_less (head_of a b) (head_digits k) ≡ false → first_of k (additions sys log) ≡ none
            between ne n = head_none k (each_map (λ (r : Rule). ok r ≡ true → lex_less last (rule_head r) ≡ true → lex_less (rule_head r) (head_of a b) ≡ false) (λ (r : Rule). ok r ≡ true → rule_head r ≡ head_digits k → ⊥)
                (λ r g o q. true≢false (sym (lex_total (head_of a b) (head_digits k) (λ e. ne (sym e)) n) ∙ subst (λ (h : List ℕ). lex_less h (head_of a b) ≡ false) q (g o (subst (λ (h : List ℕ). lex_less last h ≡ true) (sym q) y)))) sys.rules gap)

        below : lex_less last (head_digits k) ≡ false → cond (key_up_to (head_of a b) k) (first_of k (additions sys log)) none ≡ or_else (cond (key_up_to last k) (first_of k (additions sys log)) none) (first_of k (additions_of a b))
        below n =
            let less : lex_less (head_digits k) (head_of a b) ≡ true = lex_le_lt (head_digits k) last (head_of a b) n later in
            rw (n, head_other_key a b k (λ e. lex_irrefl (head_of a b) (subst (λ (h : List ℕ). lex_less h (head_of a b) ≡ true) e less)))
            (by_test (lex_less (head_of a b) (head_digits k)) (λ z. absurd (lex_irrefl (head_digits k) (lex_trans (head_digits k) (head_of a b) (head_digits k) less z))) (λ m. rw m (or_none (first_of k (additions sys log)))))
          where
            or_none : (o : Option Candidate) → o ≡ or_else o none
            or_none none = refl
            or_none (some c) = refl

    of_head : (rs : List Rule) (n : ℕ) → Each (λ (c : Candidate). head_digits c.key ≡ head_of a b) (candidates_of sys.loc log (λ r. ok r && is_head a b r) rs n)
    of_head [] n = tt
    of_head (r ∷ rs) n = each_append (λ (c : Candidate). head_digits c.key ≡ head_of a b) (cond (ok r && is_head a b r) (map (candidate sys.loc r n) (paths sys.loc log r.written r.after)) [])
        (candidates_of sys.loc log (λ r. ok r && is_head a b r) rs (suc n)) front (of_head rs (suc n))
      where
        front : Each (λ (c : Candidate). head_digits c.key ≡ head_of a b) (cond (ok r && is_head a b r) (map (candidate sys.loc r n) (paths sys.loc log r.written r.after)) [])
        front = by_test (ok r && is_head a b r)
            (λ y. rw y (each_of_map (λ (c : Candidate). head_digits c.key ≡ head_of a b) (candidate sys.loc r n) (paths sys.loc log r.written r.after)
            (each_any (λ (p : Path). rule_head r ≡ head_of a b) (λ p. is_head_true a b r (and_right (ok r) (is_head a b r) y)) (paths sys.loc log r.written r.after))))
            (λ z. rw z tt)

    next_sorted : Sorted (filter (up_to last) (additions sys log) ++ additions_of a b)
    next_sorted = sorted_append (filter (up_to last) (additions sys log)) (additions_of a b) (filter_sorted (up_to last) (additions sys log) (additions_sorted sys log))
        (collect_sorted log (candidates_of sys.loc log (λ r. ok r && is_head a b r) sys.rules 0) [] tt)
        (each_map (λ (c : Candidate). up_to last c ≡ true) (λ (c : Candidate). Each (λ (d : Candidate). Less c.key d.key) (additions_of a b))
        (λ c u. each_map (λ (d : Candidate). head_digits d.key ≡ head_of a b) (λ (d : Candidate). Less c.key d.key)
        (λ d e. head_less c.key d.key (subst (λ (h : List ℕ). lex_less (head_digits c.key) h ≡ true) (sym e) (lex_le_lt (head_digits c.key) last (head_of a b) (not-true (lex_less last (head_digits c.key)) u) later)))
        (additions_of a b)
        (each_collect (λ (d : Candidate). head_digits d.key ≡ head_of a b) log (candidates_of sys.loc log (λ r. ok r && is_head a b r) sys.rules 0) [] (of_head sys.rules 0) tt))
        (filter (up_to last) (additions sys log)) (filter_holds (up_to last) (additions sys log)))

    -- what the round has up to this head is what it has up to the last, and this head's
    pub next_head : filter (up_to (head_of a b)) (additions sys log) ≡ filter (up_to last) (additions sys log) ++ additions_of a b
    next_head = sorted_ext (filter (up_to (head_of a b)) (additions sys log)) (filter (up_to last) (additions sys log) ++ additions_of a b)
        (filter_sorted (up_to (head_of a b)) (additions sys log) (additions_sorted sys log)) next_sorted
        (λ k. first_filter (key_up_to (head_of a b)) k (additions sys log) ∙ next_first k
        ∙ ap (λ (o : Option Candidate). or_else o (first_of k (additions_of a b))) (sym (first_filter (key_up_to last) k (additions sys log)))
        ∙ sym (first_both k (filter (up_to last) (additions sys log)) (additions_of a b)))

  -- before the first head there is nothing
  pub no_head : filter (up_to []) (additions sys log) ≡ []
  no_head = filter_none (up_to []) (additions sys log) (each_any (λ (c : Candidate). up_to [] c ≡ false) (λ c. refl) (additions sys log))

  -- after the last active head there is nothing more
  pub last_head : (last : List ℕ) → Each (λ (r : Rule). ok r ≡ true → lex_less last (rule_head r) ≡ false) sys.rules → filter (up_to last) (additions sys log) ≡ additions sys log
  last_head last e = sorted_ext (filter (up_to last) (additions sys log)) (additions sys log) (filter_sorted (up_to last) (additions sys log) (additions_sorted sys log)) (additions_sorted sys log)
      (λ k. first_filter (λ (t : Transition). not (lex_less last (head_digits t))) k (additions sys log) ∙ by_test (lex_less last (head_digits k))
      (λ y. rw y (sym (head_none k (each_map (λ (r : Rule). ok r ≡ true → lex_less last (rule_head r) ≡ false) (λ (r : Rule). ok r ≡ true → rule_head r ≡ head_digits k → ⊥)
      (λ r f o q. true≢false (sym y ∙ subst (λ (h : List ℕ). lex_less last h ≡ false) q (f o))) sys.rules e))))
      (λ n. rw n))
