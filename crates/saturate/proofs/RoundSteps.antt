-- A round, one head after the other.
use mathlib.Core.Path.{◌≡◌, refl, ap, subst, sym, ◌∙◌}
use mathlib.Core.Bool.{Bool, true, false, true≢false, ◌&&◌}
use mathlib.Core.Logic.{⊎_elim}
use mathlib.Core.List.{List, Memᴰ, [], ◌∷◌, ◌++◌, append_assoc, append-nil, map}
use Prim.Native.Nat.{ℕ, suc, ◌+◌, ◌-◌, ◌*◌, ◌<◌, ◌≤◌}
use native.Mathlib.Decide.{ℕ_discrete, dec_lt}
use native.Mathlib.Omega.{arith}
use lib.Dec.{eqb, leb, ltb}
use lib.ListN.{get_or, length, length-append, length-map, take}
use borrow.Author.Tests.{eq-eqb, eqb-true, le-leb, leb-true, lt-ltb, ltb-false, ltb-true}
use Rattle.model.specs.Lists.{Each, any_of, filter}
use Rattle.model.specs.Log.{Candidate, Path, Record, added_record, additions, in_log, lex_less, log_at, no_record, paths, record_at}
use Rattle.model.specs.Records.{letter_at, log_bytes, record_length}
use Rattle.model.specs.Saturation.{added}
use Rattle.model.specs.Systems.{Rule, System}
use Rattle.searches.specs.Searches.{rule_head}
use Rattle.model.proofs.Collecting.{log_at_suc}
use Rattle.searches.proofs.FreshPaths.{last_round}
use Rattle.model.proofs.Lists.{any_of_lem, any_true, each_any, each_map, map_append}
use Rattle.model.proofs.Order.{lex_irrefl, lex_total, same_digits}
use Rattle.model.proofs.RecordBytes.{log_append}
use Rattle.searches.proofs.RoundHeads.{last_head, next_head, no_head, up_to}
use Rattle.searches.proofs.Skipping.{fresh_in}
use Rattle.model.proofs.Tests.{and_both, and_left, and_right, by_test, or_right}
use Rattle.states.specs.StateSets.{first_from}
use Rattle.states.proofs.StateSets.{first_at}
use Rattle.scratch.specs.Regions.{active_at, keys_at, rings_at}
use Rattle.rings.specs.Rings.{Ringed}
use Rattle.keys.specs.Keys.{Indexed}
use Rattle.table.specs.declared.Table.{Table}
use Rattle.table.specs.Reading.{Holds, rule_in, saturated_in, system_in}
use Rattle.table.proofs.Layouts.{table_modest}
use Rattle.logs.proofs.Logs.{skip_stale}
use Rattle.logs.proofs.Rules.{each_by_elem, rule_number}
use Rattle.rules.specs.Regions.{has_position, position_ceiling}
use Rattle.rules.specs.Rules.{Ordered, has_letter, ordered_rule}
use Rattle.rules.proofs.RuleOrder.{heads_rise, same_between}
use Rattle.heads.specs.declared.Progress.{Progress}
use Rattle.heads.specs.declared.Round.{Round}
use Rattle.heads.specs.Heads.{HeadAdded, NextHead, before_of, letter_of}
use Rattle.heads.specs.Rounds.{InRound, Prepared, earlier_log, head_additions, head_at, is_active}
use Rattle.heads.proofs.InRounds.{Keeps, active_kept, order_kept, round_kept}
use Rattle.saturate.specs.Rounds.{Logged}
use Rattle.saturate.proofs.ScratchParts.{letter_is}

-- ---- lists
filter_short : {A : Type 0} (f : A → Bool) (xs : List A) → length (filter f xs) ≤ length xs
filter_short f [] = omega arith
filter_short f (x ∷ xs) = by_test (f x) (λ y. rw y (omega (arith, filter_short f xs))) (λ n. rw n (omega (arith, filter_short f xs)))

-- the place of an element that passes a test
any_place : {A : Type 0} (f : A → Bool) (xs : List A) (d : A) → any_of f xs ≡ true → (i : ℕ) × (i < length xs) × (f (get_or xs i d) ≡ true)
any_place f [] d e = absurd (true≢false (sym e))
any_place f (x ∷ xs) d e = by_test (f x) (λ y. (0, omega arith, y)) (λ n. let p = any_place f xs d (rw n at e) in (suc p.0, omega (arith, p.1), p.2))

-- ---- the rules that a round passes over add nothing
abbrev Passed : System → ℕ → (Rule → Bool) → Rule → Type 0
Passed sys k ok r = ok r ≡ false → (p : Path) → Memᴰ p (paths sys.loc (log_at sys k) r.written r.after) → in_log (added sys.loc r p.end) (log_at sys k) ≡ true

module _ {table : List ℕ} {t : Table} {round : Round} {log s : List ℕ} (stands : InRound table t round log s) where
  abbrev sys : System
  sys = saturated_in table

  first_all : round.number ≡ 1 → (r : Rule) → is_active round r ≡ true
  unfolding is_active
  first_all e r = rw (eq-eqb round.number 1 e)

  idle_word : (r : Rule) → is_active round r ≡ false → any_of (has_letter round.fresh) r.written ≡ false
  unfolding is_active
  idle_word r e = or_right (eqb round.number 1) (any_of (has_letter round.fresh) r.written) e

  module _ (m : ℕ) (is : round.number - 1 ≡ suc m) where
    -- a letter with a record of the last round is a fresh one
    letter_fresh : (a : ℕ) → fresh_in (log_at sys (suc m)) (suc m) a ≡ true → has_letter round.fresh a ≡ true
    letter_fresh a f =
        let x = any_place (λ (r : Record). eqb r.round (suc m) && eqb r.key.letter a) (log_at sys (suc m)) no_record f in
        let y = record_at (log_at sys (suc m)) x.0 in
        let same : log_at sys (suc m) ≡ earlier_log table round.number = ap (log_at sys) (sym is) in
        let young : length (log_at sys m) ≤ x.0 = leb-true (length (log_at sys m)) x.0 (last_round sys m x.0 x.1 ∙ and_left (eqb y.round (suc m)) (eqb y.key.letter a) x.2) in
        let two : round.number - 2 ≡ m = omega arith in
        let lo-is : round.lo ≡ length (log_at sys m) = stands.last (omega arith) ∙ ap (λ (k : ℕ). length (log_at sys k)) two in
        let inside : x.0 < round.base = omega (arith, x.1, stands.size, ap length same) in
        let logged : Logged (earlier_log table round.number) round.base log = record { size = stands.size; bytes = stands.bytes } in
        let letter : letter_at log x.0 ≡ a = letter_is table t stands.holds round.base round.number log logged x.0 inside
        ∙ ap (λ (l : List Record). (record_at l x.0).key.letter) (sym same) ∙ eqb-true y.key.letter a (and_right (eqb y.round (suc m)) (eqb y.key.letter a) x.2) in
        subst (λ (b : ℕ). has_letter round.fresh b ≡ true) letter (stands.fresh x.0 (omega arith) inside)

    idle_stale : (r : Rule) → is_active round r ≡ false → any_of (fresh_in (log_at sys (suc m)) (suc m)) r.written ≡ false
    idle_stale r e = by_test (any_of (fresh_in (log_at sys (suc m)) (suc m)) r.written)
        (λ y. let x = any_true (fresh_in (log_at sys (suc m)) (suc m)) r.written y in
        absurd (true≢false (sym (any_of_lem (has_letter round.fresh) r.written x.0 x.1 (letter_fresh x.0 x.2)) ∙ idle_word r e)))
        (λ n. n)

    passed_later : Each (Passed sys (suc m) (is_active round)) sys.rules
    passed_later = each_map (Passed sys (suc m) (λ r. any_of (fresh_in (log_at sys (suc m)) (suc m)) r.written)) (Passed sys (suc m) (is_active round))
        (λ r f a. f (idle_stale r a)) sys.rules (skip_stale sys m)

  passed_over : Each (Passed sys (round.number - 1) (is_active round)) sys.rules
  passed_over = elim (ℕ_discrete round.number 1) [
    | yes e ↦ each_any (Passed sys (round.number - 1) (is_active round)) (λ r a. absurd (true≢false (sym (first_all e r) ∙ a))) sys.rules
    | no e ↦
        let is : round.number - 1 ≡ suc (round.number - 2) = omega (arith, stands.begun) in
        subst (λ (k : ℕ). Each (Passed sys k (is_active round)) sys.rules) (sym is) (passed_later (round.number - 2) is)
  ]

-- ---- positions and heads
-- the heads up to `last` are those of the active positions before this one
pub record HeadsPassed (table : List ℕ) (t : Table) (last : List ℕ) (position : ℕ) (s : List ℕ) : Type 0 where
  pub active : position < t.rules → has_position s active_at position ≡ true
  pub before : (p : ℕ) → p < position → p < t.rules → has_position s active_at p ≡ true → lex_less last (head_at table s p) ≡ false
  pub behind : (p : ℕ) → position ≤ p → p < t.rules → has_position s active_at p ≡ true → lex_less last (head_at table s p) ≡ true

-- before the first active position
passed_none : (table : List ℕ) (t : Table) → Holds table t → (s : List ℕ) (position : ℕ) → position ≡ first_from (has_position s active_at) 0 (position_ceiling - 0)
    → HeadsPassed table t [] position s
passed_none table t holds s position e =
    let f = first_at (has_position s active_at) 0 (position_ceiling - 0) position e in
    record {
      active = λ l. f.passes (omega (arith, (table_modest table t holds).rules));
      before = λ p l b y. absurd (true≢false (sym y ∙ f.fails p (omega arith) l));
      behind = λ p l b y. refl;
    }

-- any scratch with the same order and active positions
passed_kept : (table : List ℕ) (t : Table) → Holds table t → (last : List ℕ) (position : ℕ) (s s' : List ℕ) → Keeps s s' → HeadsPassed table t last position s
    → HeadsPassed table t last position s'
passed_kept table t holds last position s s' keeps h = record {
  active = λ l. same position l ∙ h.active l;
  before = λ p a b y. ap (lex_less last) (head p b) ∙ h.before p a b (sym (same p b) ∙ y);
  behind = λ p a b y. ap (lex_less last) (head p b) ∙ h.behind p a b (sym (same p b) ∙ y);
}
  where
    same : (p : ℕ) → p < t.rules → has_position s' active_at p ≡ has_position s active_at p
    same p l = active_kept table t holds s s' keeps p (omega (arith, (table_modest table t holds).rules))

    head : (p : ℕ) → p < t.rules → head_at table s' p ≡ head_at table s p
    head p l = ap (λ (k : ℕ). rule_head (rule_in table k)) (order_kept table t holds s s' keeps p l)

-- on to the next head
passed_next : (table : List ℕ) (t : Table) (s : List ℕ) → Ordered table t.rules s → (p q : ℕ) → p < t.rules → NextHead table t s p q
    → HeadsPassed table t (head_at table s p) q s
passed_next table t s o p q l h = record {
  active = h.active;
  before = λ m a b y. elim (dec_lt m p) [
    | yes e ↦ heads_rise table t.rules s o m p (omega arith) l
    | no e ↦ by_test (lex_less (head p) (head m)) (λ z. absurd (lex_irrefl (head p) (subst (λ (d : List ℕ). lex_less (head p) d ≡ true) (h.same m (omega arith) a b y) z))) (λ f. f)
  ];
  behind = λ m a b y. ⊎_elim
      (λ (e : head m ≡ head p). absurd (h.other (omega arith) (same_between table t.rules s o p m q (omega (arith, h.later)) a b (sym e))))
      (λ (ne : head m ≡ head p → ⊥). lex_total (head m) (head p) ne (heads_rise table t.rules s o p m (omega (arith, h.later)) b))
      (same_digits (head m) (head p));
}
  where
    head : ℕ → List ℕ
    head m = head_at table s m

-- ---- the log of the round
module _ (table : List ℕ) (number : ℕ) where
  abbrev R : List Record
  R = earlier_log table number

  abbrev all : List Candidate
  all = additions (saturated_in table) R

  abbrev to_record : Candidate → Record
  to_record = added_record number R

  -- the log of the rounds before, and some of what the round adds
  abbrev log_with : List Candidate → List Record
  log_with cs = R ++ map to_record cs

  -- what it adds for the heads up to the last one
  abbrev pub log_up_to : List ℕ → List Record
  log_up_to last = log_with (filter (up_to last) all)

  with_length : (cs : List Candidate) → length (log_with cs) ≡ length R + length cs
  with_length cs = length-append R (map to_record cs) ∙ ap (λ (n : ℕ). length R + n) (length-map cs to_record)

  log_of_round : 1 ≤ number → log_at (saturated_in table) number ≡ log_with all
  log_of_round l = let e : number ≡ suc (number - 1) = omega arith in
      ap (log_at (saturated_in table)) e ∙ log_at_suc (saturated_in table) (number - 1) ∙ ap (λ (k : ℕ). R ++ map (added_record k R) all) (sym e)

  up_to_short : 1 ≤ number → (last : List ℕ) → length (log_up_to last) ≤ length (log_at (saturated_in table) number)
  up_to_short l last = omega (arith, with_length (filter (up_to last) all), filter_short (up_to last) all, with_length all, ap length (log_of_round l))

-- the round has come to a position, or the log has no room for it
pub record HeadsAdded (table : List ℕ) (t : Table) (round : Round) (log₀ s₀ : List ℕ) (position count : ℕ) (log s : List ℕ) : Type 0 where
  pub last : List ℕ
  pub standing : InRound table t round log s
  pub passed : HeadsPassed table t last position s
  pub logged : count ≤ round.n → Logged (log_up_to table round.number last) count log
  pub over : round.n < count → round.n < length (log_at (saturated_in table) round.number)
  pub large : round.base ≤ count
  pub small : count ≤ round.n + 1
  pub earlier : take (round.base * record_length) log ≡ take (round.base * record_length) log₀
  pub log_length : length log ≡ length log₀
  pub scratch_length : length s ≡ length s₀
  pub indexed : round.base < count → Indexed log round.base round.n (keys_at round.n) s

-- no head is left: the log of the round stands, or there is no room for it, and count is then more than n
pub record HeadsDone (table : List ℕ) (t : Table) (round : Round) (log₀ s₀ : List ℕ) (count : ℕ) (log s : List ℕ) : Type 0 where
  pub within : count ≤ round.n → Logged (log_at (saturated_in table) round.number) count log
  pub over : round.n < count → round.n < length (log_at (saturated_in table) round.number)
  pub earlier : take (round.base * record_length) log ≡ take (round.base * record_length) log₀
  pub ringed : Ringed log round.base round.n rings_at s
  pub prepared : Prepared table t s
  pub log_length : length log ≡ length log₀
  pub scratch_length : length s ≡ length s₀
  pub indexed : round.base < count → Indexed log round.base round.n (keys_at round.n) s

module _ {table : List ℕ} {t : Table} {round : Round} {log s : List ℕ} (stands : InRound table t round log s) where
  -- a rule that the round looks at stands at an active position
  rules_at : (P : Rule → Type 0) → ((p : ℕ) → p < t.rules → has_position s active_at p ≡ true → P (rule_in table (ordered_rule s p)))
      → Each (λ (r : Rule). is_active round r ≡ true → P r) (system_in table).rules
  rules_at P f = each_by_elem (λ (r : Rule). is_active round r ≡ true → P r) (system_in table).rules (λ k r e.
      let is = rule_number table t stands.holds k r e in
      let x = stands.prepared.ordered.position k is.0 in
      let rule : rule_in table (ordered_rule s x.0) ≡ r = ap (rule_in table) x.2 ∙ is.1 in
      λ y. subst P rule (f x.0 x.1 (stands.active x.0 (omega (arith, x.1, (table_modest table t stands.holds).rules))
      ∙ and_both (ltb x.0 t.rules) (is_active round (rule_in table (ordered_rule s x.0))) (lt-ltb x.0 t.rules x.1) (ap (is_active round) rule ∙ y))))

  pub heads_start : {position : ℕ} (s₁ : List ℕ) → Keeps s₁ s → position ≡ first_from (has_position s₁ active_at) 0 (position_ceiling - 0) → HeadsAdded table t round log s position round.base log s
  heads_start {position} s₁ keeps e =
      let log_is = R table round.number in
      let none = ap (log_with table round.number) (no_head (saturated_in table) log_is (is_active round) (passed_over stands)) ∙ append-nil log_is in
      record {
        last = [];
        standing = stands;
        passed = passed_kept table t stands.holds [] position s₁ s keeps (passed_none table t stands.holds s₁ position e);
        logged = λ l. subst (λ (rs : List Record). Logged rs round.base log) (sym none) (record { size = stands.size; bytes = stands.bytes });
        over = λ l. absurd (omega (arith, stands.room.fits));
        large = omega arith;
        small = omega (arith, stands.room.fits);
        earlier = refl;
        log_length = refl;
        scratch_length = refl;
        indexed = λ l. absurd (omega arith);
      }

module _ {table : List ℕ} {t : Table} {round : Round} {log₀ s₀ : List ℕ} {position count : ℕ} {log s : List ℕ} (h : HeadsAdded table t round log₀ s₀ position count log s)
    {going : Bool} (is : going ≡ (leb count round.n && ltb position t.rules)) where
  abbrev S : InRound table t round log s
  S = h.standing

  -- no position is left
  pub heads_end : going ≡ false → HeadsDone table t round log₀ s₀ count log s
  heads_end stops = record {
    within = λ l. subst (λ (rs : List Record). Logged rs count log) (whole l) (h.logged l);
    over = h.over;
    earlier = h.earlier;
    ringed = S.ringed;
    prepared = S.prepared;
    log_length = h.log_length;
    scratch_length = h.scratch_length;
    indexed = h.indexed;
  }
    where
      whole : count ≤ round.n → log_up_to table round.number h.last ≡ log_at (saturated_in table) round.number
      whole l =
          let e = sym is ∙ stops in
          let end : t.rules ≤ position = ltb-false position t.rules (rw (le-leb count round.n l) at e) in
          ap (log_with table round.number) (last_head (saturated_in table) (R table round.number) (is_active round) (passed_over S) h.last
          (rules_at S (λ (r : Rule). lex_less h.last (rule_head r) ≡ false) (λ p b y. h.passed.before p (omega arith) b y)))
          ∙ sym (log_of_round table round.number S.begun)

  -- the next head
  module _ (goes : going ≡ true) where
    pub fits : count ≤ round.n
    fits = leb-true count round.n (and_left (leb count round.n) (ltb position t.rules) (sym is ∙ goes))

    pub below : position < t.rules
    below = ltb-true position t.rules (and_right (leb count round.n) (ltb position t.rules) (sym is ∙ goes))

    pub head_active : has_position s active_at position ≡ true
    head_active = h.passed.active below

    abbrev news : List Candidate
    news = head_additions table round (letter_of table s position) (before_of table s position)

    abbrev olds : List Candidate
    olds = filter (up_to h.last) (all table round.number)

    head_news : filter (up_to (head_at table s position)) (all table round.number) ≡ olds ++ news
    unfolding head_additions
    head_news = next_head (saturated_in table) (R table round.number) (is_active round) (passed_over S) h.last (letter_of table s position) (before_of table s position)
        (h.passed.behind position (omega arith) below head_active)
        (rules_at S (λ (r : Rule). lex_less h.last (rule_head r) ≡ true → lex_less (rule_head r) (head_at table s position) ≡ false) (λ p b y z. elim (dec_lt p position) [
          | yes e ↦ absurd (true≢false (sym z ∙ h.passed.before p e b y))
          | no e ↦ heads_rise table t.rules s S.prepared.ordered position p (omega arith) b
        ]))

    grown : length (log_up_to table round.number (head_at table s position)) ≡ count + length news
    grown = ap (λ (ds : List Candidate). length (log_with table round.number ds)) head_news
        ∙ omega (arith, with_length table round.number (olds ++ news), length-append olds news, with_length table round.number olds, (h.logged fits).size)

    module _ {r : Progress} {log' s' : List ℕ} (d : HeadAdded table t round position count log s r log' s') where
      -- there is room for the head's records
      logged_next : r.count ≤ round.n → Logged (log_up_to table round.number (head_at table s position)) r.count log'
      logged_next l =
          let f = to_record table round.number in
          record {
            size = omega (arith, d.counted, grown);
            bytes = d.bytes l ∙ ap (λ (bs : List ℕ). bs ++ log_bytes (map f news)) (h.logged fits).bytes ∙ sym (log_append (log_with table round.number olds) (map f news))
                ∙ ap log_bytes (append_assoc (R table round.number) (map f olds) (map f news) ∙ ap (λ (rs : List Record). R table round.number ++ rs) (sym (map_append f olds news))
                ∙ ap (log_with table round.number) (sym head_news));
          }

      -- or there is none, and none for the round
      over_next : round.n < r.count → round.n < length (log_at (saturated_in table) round.number)
      over_next l = omega (arith, d.counted, grown, up_to_short table round.number S.begun (head_at table s position))

      standing_next : InRound table t round log' s'
      standing_next = round_kept table t S.holds s s' d.kept round log log' S d.front d.log_length d.scratch_length d.rings

      pub heads_turn : HeadsAdded table t round log₀ s₀ r.position r.count log' s'
      heads_turn = record {
        last = head_at table s position;
        standing = standing_next;
        passed = passed_kept table t S.holds (head_at table s position) r.position s s' d.kept
            (passed_next table t s S.prepared.ordered position r.position below d.next);
        logged = logged_next;
        over = over_next;
        large = omega (arith, d.counted, h.large, fits);
        small = omega (arith, d.counted);
        earlier = d.front ∙ h.earlier;
        log_length = d.log_length ∙ h.log_length;
        scratch_length = d.scratch_length ∙ h.scratch_length;
        indexed = λ l. standing_next.indexed position below (active_kept table t S.holds s s' d.kept position (omega (arith, below, (table_modest table t S.holds).rules)) ∙ head_active);
      }
