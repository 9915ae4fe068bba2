-- Demand 2 of a walk: its steps are those of the paper, where it ends and where it is refused; its watched figure is acceptance. Request 2.5: its counts.
use mathlib.Core.Path.{◌∙◌, ◌≡◌, ap, refl, subst, sym}
use mathlib.Core.Bool.{Bool, false, true, true≢false}
use mathlib.Core.Logic.{◌↔◌, ◌⊎◌, inl, inr, ⊎_elim}
use mathlib.Core.Option.{Option, none, some}
use mathlib.Core.List.{List, [], ◌++◌, ◌∷◌}
use Prim.Native.Nat.{◌+◌, ◌-◌, ◌<◌, ◌≤◌, suc, ℕ}
use native.Mathlib.Omega.{arith}
use lib.Dec.{ltb}
use lib.ListN.{drop, get_or, get_elem?, length, length-append, length-replicate, replicate, take}
use lib.Seq.{take-append_seam}
use borrow.Author.Tests.{ltb-false, ltb-true}
use Rattle.std.specs.Prelude.{Result, Ok, Err}
use Rattle.model.specs.declared.Ending.{Ending}
use Rattle.model.specs.declared.Refusal.{Refusal}
use Rattle.model.specs.Calls.{Halt, changes_nothing, filled, fired_rules, halt_at, halt_before, halt_end, step_by, step_to, walk_call, walk_counts, walk_figures, walk_from, walk_given, walk_scratch, watched_figure}
use Rattle.model.specs.Demands.{Demand2Walk, NoRoom, NoRule, NoStep, WalkedTo, StoppedAt, TookPart}
use Rattle.model.specs.Participation.{step_counts}
use Rattle.model.specs.Lists.{value_or}
use Rattle.model.specs.Systems.{Configuration, Rule, System, accepts, fire, walk}
use Rattle.model.specs.Tables.{Item, Reading, accepted, read, refused, system_of}
use Rattle.model.proofs.Acceptance.{watched_is_accepted}
use Rattle.model.proofs.Steps.{walk_cons}
use Rattle.model.proofs.RefusalNumbers.{Numbered9, read_numbered}
use Rattle.model.proofs.Tests.{by_test}
use Rattle.model.proofs.Theorems.{fire_is_step, step_is_fire, walk_is_steps}

-- ---- where a walk of the list comes to
-- why the rule n is refused in c, by the refusal's number, with a pile of so many bytes
record Unknown (sys : System) (n number : ℕ) : Type 0 where
  pub numbered : number ≡ 13
  pub none : get_elem? sys.rules n ≡ none

record Idle (sys : System) (n : ℕ) (c : Configuration) (number : ℕ) : Type 0 where
  pub numbered : number ≡ 12
  pub rule : Rule
  pub is : get_elem? sys.rules n ≡ some rule
  pub none : fire sys.loc rule c ≡ none

record Overfull (sys : System) (size n : ℕ) (c : Configuration) (number : ℕ) : Type 0 where
  pub numbered : number ≡ 14
  pub rule : Rule
  pub is : get_elem? sys.rules n ≡ some rule
  pub after : Configuration
  pub fires : fire sys.loc rule c ≡ some after
  pub long : size < length after.word

abbrev Why : System → ℕ → ℕ → Configuration → ℕ → Type 0
Why sys size n c number = Unknown sys n number ⊎ Idle sys n c number ⊎ Overfull sys size n c number

-- it ends where the definition of runs leads
record Ends (sys : System) (ns : List ℕ) (c : Configuration) (h : Halt) : Type 0 where
  pub end : Configuration
  pub walks : walk sys ns c ≡ some end
  pub halt : h ≡ halt_end sys end

-- or is refused where the rules before lead
record Stops (sys : System) (size step : ℕ) (ns : List ℕ) (c : Configuration) (h : Halt) : Type 0 where
  pub k : ℕ
  pub inside : k < length ns
  pub at : Configuration
  pub walks : walk sys (take k ns) c ≡ some at
  pub fits : length at.word ≤ size
  pub number : ℕ
  pub halt : h ≡ halt_at number (step + k) (drop k ns) at
  pub why : Why sys size (get_or ns k 0) at number

module _ (sys : System) (size : ℕ) where
  -- refused at the first rule
  stops_here : (step n : ℕ) (ns : List ℕ) (c : Configuration) (number : ℕ) (h : Halt) → length c.word ≤ size → h ≡ halt_at number step (n ∷ ns) c → Why sys size n c number → Stops sys size step (n ∷ ns) c h
  stops_here step n ns c number h short e w =
      let same : step ≡ step + 0 = omega arith in
      record { k = 0; inside = omega arith; at = c; walks = refl; fits = short; number = number; halt = e ∙ ap (λ (s : ℕ). halt_at number s (n ∷ ns) c) same; why = w }

  module _ (step n : ℕ) (ns : List ℕ) (c : Configuration) (short : length c.word ≤ size) where
    abbrev go : Configuration → Halt
    go = λ d. walk_from sys size (step + 1) ns d

    -- one rule fired, and then the rest
    comes_later : (r : Rule) → get_elem? sys.rules n ≡ some r → (d : Configuration) → fire sys.loc r c ≡ some d → (h : Halt) → Ends sys ns d h ⊎ Stops sys size (step + 1) ns d h → Ends sys (n ∷ ns) c h ⊎ Stops sys size step (n ∷ ns) c h
    comes_later r is d f h later = ⊎_elim
        (λ (x : Ends sys ns d h). inl (record { end = x.end; walks = walk_cons sys n ns c x.end (record { rule = r; is = is; mid = d; first = f; rest = x.walks }); halt = x.halt }))
        (λ (x : Stops sys size (step + 1) ns d h).
        let further : step + 1 + x.k ≡ step + suc x.k = omega arith in
        inr (record {
          k = suc x.k;
          inside = omega (arith, x.inside);
          at = x.at;
          walks = walk_cons sys n (take x.k ns) c x.at (record { rule = r; is = is; mid = d; first = f; rest = x.walks });
          fits = x.fits;
          number = x.number;
          halt = x.halt ∙ ap (λ (s : ℕ). halt_at x.number s (drop x.k ns) x.at) further;
          why = x.why;
        }))
        later

    by_step : (r : Rule) → get_elem? sys.rules n ≡ some r → (o : Option Configuration) → fire sys.loc r c ≡ o → ((d : Configuration) → length d.word ≤ size → Ends sys ns d (go d) ⊎ Stops sys size (step + 1) ns d (go d))
        → Ends sys (n ∷ ns) c (step_to go size step (n ∷ ns) c o) ⊎ Stops sys size step (n ∷ ns) c (step_to go size step (n ∷ ns) c o)
    by_step r is none f later = inr (stops_here step n ns c 12 _ short refl (inr (inl (record { numbered = refl; rule = r; is = is; none = f }))))
    by_step r is (some d) f later = by_test (ltb size (length d.word))
        (λ y. rw y (inr (stops_here step n ns c 14 _ short refl (inr (inr (record { numbered = refl; rule = r; is = is; after = d; fires = f; long = ltb-true size (length d.word) y }))))))
        (λ y. rw y (comes_later r is d f (go d) (later d (ltb-false size (length d.word) y))))

    by_rule : (o : Option Rule) → get_elem? sys.rules n ≡ o → ((d : Configuration) → length d.word ≤ size → Ends sys ns d (go d) ⊎ Stops sys size (step + 1) ns d (go d))
        → Ends sys (n ∷ ns) c (step_by go sys.loc size step (n ∷ ns) c o) ⊎ Stops sys size step (n ∷ ns) c (step_by go sys.loc size step (n ∷ ns) c o)
    by_rule none is later = inr (stops_here step n ns c 13 _ short refl (inl (record { numbered = refl; none = is })))
    by_rule (some r) is later = by_step r is (fire sys.loc r c) refl later

  walk_comes : (step : ℕ) (ns : List ℕ) (c : Configuration) → length c.word ≤ size → Ends sys ns c (walk_from sys size step ns c) ⊎ Stops sys size step ns c (walk_from sys size step ns c)
  walk_comes step [] c short = inl (record { end = c; walks = refl; halt = refl })
  walk_comes step (n ∷ ns) c short = by_rule step n ns c short (get_elem? sys.rules n) refl (walk_comes (step + 1) ns)

-- ---- the figures
figure_one : (b : Bool) → (watched_figure b ≡ 1) ↔ (b ≡ true)
figure_one true = ((λ e. refl), (λ e. refl))
figure_one false = ((λ e. absurd (omega arith)), (λ e. absurd (true≢false (sym e))))

figure_two : (b : Bool) → (watched_figure b ≡ 2) ↔ (b ≡ true → ⊥)
figure_two true = ((λ e. absurd (omega arith)), (λ n. absurd (n refl)))
figure_two false = ((λ e y. true≢false (sym y)), (λ n. refl))

-- a word that fits, then zeros, keeps the buffer's length
filled_size : (w pile : List ℕ) → length w ≤ length pile → length (filled w pile) ≡ length pile
filled_size w pile h = length-append w (replicate (length pile - length w) 0) ∙ omega (arith, length-replicate {A = ℕ} (length pile - length w) 0)

-- request 2.5, by the figures of an answer
abbrev pub Counted : List ℕ → List ℕ → Result Ending Refusal → List ℕ → Type 0
Counted table list x counts = TookPart table list (get_or (walk_figures x) 0 0) (get_or (walk_figures x) 1 0) counts

module _ (table list pile scratch : List ℕ) (items : List Item) (e : read table ≡ accepted items) where
  abbrev sys : System
  sys = system_of items

  -- the buffer where the walk came to h
  abbrev left : Halt → List ℕ
  left h = value_or pile (λ (w : List ℕ). filled w pile) h.pile

  abbrev Right : Halt → Type 0
  Right h = Demand2Walk table list scratch (walk_figures h.answer) (left h)

  ended : (d : Configuration) → walk sys list sys.start ≡ some d → WalkedTo list (walk_figures (halt_end sys d).answer) (filled d.word pile) sys
  ended d w =
      let test = accepts sys.loc sys.transitions sys.accepting d.word d.states in
      let b = figure_one test in
      let o = figure_two test in
      let a = watched_is_accepted sys d in
      record {
        end = d;
        steps = walk_is_steps table items e list sys.start d w;
        states = refl;
        word = take-append_seam d.word (replicate (length pile - length d.word) 0);
        watched = ((λ x. a.0 (b.0 x)), (λ x. b.1 (a.1 x)));
        unwatched = ((λ x y. o.0 x (a.1 y)), (λ n. o.1 (λ y. n (a.0 y))));
      }

  ends_right : (h : Halt) → Ends sys list sys.start h → Right h
  ends_right h x = subst Right (sym x.halt) (record {
    reached = λ z. (items, e, ended x.end x.walks);
    no_rule = λ z. absurd (omega (arith, z));
    idle = λ z. absurd (omega (arith, z));
    full = λ z. absurd (omega (arith, z));
    judged = λ others q s. inl refl;
  })

  module _ (h : Halt) (x : Stops sys (length pile) 0 list sys.start h) where
    abbrev after : List ℕ
    after = filled x.at.word pile

    stopped : (P : System → ℕ → Configuration → Type 0) → P sys (get_or list x.k 0) x.at → StoppedAt list after (0 + x.k) P sys
    stopped P why =
        let same : x.k ≡ 0 + x.k = omega arith in
        subst (λ (k : ℕ). StoppedAt list after k P sys) same (record {
          inside = x.inside;
          at = x.at;
          steps = walk_is_steps table items e (take x.k list) sys.start x.at x.walks;
          word = ap (λ (n : ℕ). x.at.word ++ replicate (n - length x.at.word) 0) (sym (filled_size x.at.word pile x.fits));
          why = why;
        })

    no_rule_why : Why sys (length pile) (get_or list x.k 0) x.at x.number → x.number ≡ 13 → NoRule sys (get_or list x.k 0) x.at
    no_rule_why (inl u) z = u.none
    no_rule_why (inr (inl u)) z = absurd (omega (arith, u.numbered))
    no_rule_why (inr (inr u)) z = absurd (omega (arith, u.numbered))

    idle_why : Why sys (length pile) (get_or list x.k 0) x.at x.number → x.number ≡ 12 → NoStep sys (get_or list x.k 0) x.at
    idle_why (inl u) z = absurd (omega (arith, u.numbered))
    idle_why (inr (inl u)) z = (
      u.rule,
      u.is,
      λ d s. let f = step_is_fire table items e u.rule x.at d s in let bad : none ≡ some f.0 = sym u.none ∙ f.1 in let clash : ◌≡◌ {A = ℕ} 0 1 = cc in omega arith,
    )
    idle_why (inr (inr u)) z = absurd (omega (arith, u.numbered))

    full_why : Why sys (length pile) (get_or list x.k 0) x.at x.number → x.number ≡ 14 → NoRoom (length after) sys (get_or list x.k 0) x.at
    full_why (inl u) z = absurd (omega (arith, u.numbered))
    full_why (inr (inl u)) z = absurd (omega (arith, u.numbered))
    full_why (inr (inr u)) z = (
      u.rule,
      u.is,
      u.after,
      u.fires,
      fire_is_step table items e u.rule x.at u.after u.fires,
      subst (λ (n : ℕ). n < length u.after.word) (sym (filled_size x.at.word pile x.fits)) u.long,
    )

    late : Why sys (length pile) (get_or list x.k 0) x.at x.number → x.number ≡ 0 → ⊥
    late (inl u) z = omega (arith, u.numbered)
    late (inr (inl u)) z = omega (arith, u.numbered)
    late (inr (inr u)) z = omega (arith, u.numbered)

    numbers : Why sys (length pile) (get_or list x.k 0) x.at x.number → (12 ≤ x.number) × (x.number ≤ 14)
    numbers (inl u) = (omega (arith, u.numbered), omega (arith, u.numbered))
    numbers (inr (inl u)) = (omega (arith, u.numbered), omega (arith, u.numbered))
    numbers (inr (inr u)) = (omega (arith, u.numbered), omega (arith, u.numbered))

    stops_right : Right h
    stops_right = subst Right (sym x.halt) (record {
      reached = λ z. absurd (late x.why z);
      no_rule = λ z. (items, e, stopped NoRule (no_rule_why x.why z));
      idle = λ z. (items, e, stopped NoStep (idle_why x.why z));
      full = λ z. (items, e, inr (stopped (NoRoom (length after)) (full_why x.why z)));
      judged = λ others q s. inr (numbers x.why);
    })

  -- ---- refused before the first step
  before_right : (number place : ℕ) → ((number ≡ 15) × (length scratch < walk_scratch)) ⊎ ((number ≡ 14) × (length pile < length sys.start.word)) → Right (halt_before number place)
  before_right number place (inl (f, short)) = record {
    reached = λ z. absurd (omega (arith, f, z));
    no_rule = λ z. absurd (omega (arith, f, z));
    idle = λ z. absurd (omega (arith, f, z));
    full = λ z. absurd (omega (arith, f, z));
    judged = λ others q s. absurd (omega (arith, short, s));
  }
  before_right number place (inr (f, long)) = record {
    reached = λ z. absurd (omega (arith, f, z));
    no_rule = λ z. absurd (omega (arith, f, z));
    idle = λ z. absurd (omega (arith, f, z));
    full = λ z. (items, e, inl long);
    judged = λ others q s. inr (omega (arith, f), omega (arith, f));
  }

  -- ---- by the way that it halts
  by_halt : (P : Halt → Type 0) → ((h : Halt) → Ends sys list sys.start h → P h) → ((h : Halt) → Stops sys (length pile) 0 list sys.start h → P h) → (length scratch < walk_scratch → P (halt_before 15 0))
      → (length pile < length sys.start.word → P (halt_before 14 0)) → P (walk_given (accepted items) list (length pile) (length scratch))
  unfolding walk_given
  by_halt P ends stops short unfit = by_test (ltb (length scratch) walk_scratch)
      (λ y. rw y (short (ltb-true (length scratch) walk_scratch y)))
      (λ n. rw n (by_test (ltb (length pile) (length sys.start.word))
      (λ y. rw y (unfit (ltb-true (length pile) (length sys.start.word) y)))
      (λ m. rw m (⊎_elim (ends (walk_from sys (length pile) 0 list sys.start)) (stops (walk_from sys (length pile) 0 list sys.start))
      (walk_comes sys (length pile) 0 list sys.start (ltb-false (length pile) (length sys.start.word) m))))))

  given_right : Right (walk_given (accepted items) list (length pile) (length scratch))
  given_right = by_halt Right ends_right stops_right (λ short. before_right 15 0 (inl (refl, short))) (λ long. before_right 14 0 (inr (refl, long)))

  -- ---- request 2.5
  abbrev CountsRight : Halt → Type 0
  CountsRight h = Counted table list h.answer (step_counts sys (fired_rules list h.answer))

  ends_counted : (h : Halt) → Ends sys list sys.start h → CountsRight h
  ends_counted h x = subst CountsRight (sym x.halt) (record {
    ended = λ z. (items, e, refl);
    stopped = λ a b. absurd (omega arith);
    no_step = λ z. absurd (true≢false (sym z));
  })

  refused_counted : (number place : ℕ) → 1 ≤ number → (changes_nothing number ≡ true → place ≡ 0) → CountsRight (halt_before number place)
  refused_counted number place l first = record {
    ended = λ z. absurd (omega (arith, z));
    stopped = λ a b. (items, e, refl);
    no_step = λ z. ap (λ (k : ℕ). step_counts sys (take k list)) (first z);
  }

  stops_counted : (h : Halt) → Stops sys (length pile) 0 list sys.start h → CountsRight h
  stops_counted h x = subst CountsRight (sym x.halt) (by_number x.why)
    where
      numbered : (k : ℕ) → 1 ≤ k → changes_nothing k ≡ false → x.number ≡ k → CountsRight (halt_before x.number (0 + x.k))
      numbered k l q f = refused_counted x.number (0 + x.k) (omega (arith, f)) (λ z. absurd (true≢false (sym z ∙ ap changes_nothing f ∙ q)))

      by_number : Why sys (length pile) (get_or list x.k 0) x.at x.number → CountsRight (halt_before x.number (0 + x.k))
      by_number (inl u) = numbered 13 (omega arith) refl u.numbered
      by_number (inr (inl u)) = numbered 12 (omega arith) refl u.numbered
      by_number (inr (inr u)) = numbered 14 (omega arith) refl u.numbered

  given_counted : CountsRight (walk_given (accepted items) list (length pile) (length scratch))
  given_counted = by_halt CountsRight ends_counted stops_counted (λ short. refused_counted 15 0 (omega arith) (λ z. refl)) (λ long. refused_counted 14 0 (omega arith) (λ z. refl))

pub walk_demand : (table list pile scratch : List ℕ) → Demand2Walk table list scratch (walk_figures (walk_call table list pile scratch).answer) (walk_call table list pile scratch).pile
unfolding walk_call walk_given
walk_demand table list pile scratch = by_reading (read table) refl
  where
    by_reading : (r : Reading) → read table ≡ r
        → Demand2Walk table list scratch (walk_figures (walk_given r list (length pile) (length scratch)).answer) (value_or pile (λ (w : List ℕ). filled w pile) (walk_given r list (length pile) (length scratch)).pile)
    by_reading (accepted items) e = given_right table list pile scratch items e
    by_reading (refused number place) e =
        let small : Numbered9 (refused number place) = subst Numbered9 e (read_numbered table) in
        record {
          reached = λ z. absurd (omega (arith, z, small.0));
          no_rule = λ z. absurd (omega (arith, z, small.1));
          idle = λ z. absurd (omega (arith, z, small.1));
          full = λ z. absurd (omega (arith, z, small.1));
          judged = λ items q s. absurd (let bad : refused number place ≡ accepted items = sym e ∙ q in let z : ◌≡◌ {A = ℕ} 0 1 = cc in omega arith);
        }

pub walk_counts_lem : (table list pile scratch : List ℕ) → Counted table list (walk_call table list pile scratch).answer (walk_call table list pile scratch).counts
unfolding walk_call walk_given walk_counts
walk_counts_lem table list pile scratch = by_reading (read table) refl
  where
    by_reading : (r : Reading) → read table ≡ r → Counted table list (walk_given r list (length pile) (length scratch)).answer (walk_counts r list (walk_given r list (length pile) (length scratch)).answer)
    by_reading (accepted items) e = given_counted table list pile scratch items e
    by_reading (refused number place) e =
        let small : Numbered9 (refused number place) = subst Numbered9 e (read_numbered table) in
        record { ended = λ z. absurd (omega (arith, z, small.0)); stopped = λ a b. absurd (omega (arith, a, small.1)); no_step = λ z. refl }

-- ---- further figures behind those of the answer
module _ {table list scratch : List ℕ} (more : List ℕ) where
  first_eight : {pile : List ℕ} {a b c d e f g h : ℕ} → Demand2Walk table list scratch (a ∷ b ∷ c ∷ d ∷ e ∷ f ∷ g ∷ h ∷ []) pile → Demand2Walk table list scratch (a ∷ b ∷ c ∷ d ∷ e ∷ f ∷ g ∷ h ∷ more) pile
  first_eight w = record {
    reached = λ z. let r = w.reached z in (
      r.0,
      r.1,
      record { end = r.2.end; steps = r.2.steps; states = r.2.states; word = r.2.word; watched = r.2.watched; unwatched = r.2.unwatched },
    );
    no_rule = w.no_rule;
    idle = w.idle;
    full = w.full;
    judged = w.judged;
  }

  pub demand_more : {pile : List ℕ} (x : Result Ending Refusal) → Demand2Walk table list scratch (walk_figures x) pile → Demand2Walk table list scratch (walk_figures x ++ more) pile
  demand_more (Ok end) d = first_eight d
  demand_more (Err r) d = first_eight d

module _ {table list : List ℕ} (more : List ℕ) where
  pub counted_more : (x : Result Ending Refusal) (counts : List ℕ) → Counted table list x counts → TookPart table list (get_or (walk_figures x ++ more) 0 0) (get_or (walk_figures x ++ more) 1 0) counts
  counted_more (Ok end) counts d = d
  counted_more (Err r) counts d = d

pub figures_behind : (x : Result Ending Refusal) (more : List ℕ) → drop 8 (walk_figures x ++ more) ≡ more
figures_behind (Ok end) more = refl
figures_behind (Err r) more = refl
