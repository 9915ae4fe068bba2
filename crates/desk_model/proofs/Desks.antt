-- Requests 2.1 and 2.5: each call keeps that a desk stands where its histories lead and counts the fires since, so any sequence of calls does.
use mathlib.Core.Path.{◌≡◌, refl, ap, sym, subst, ◌∙◌}
use mathlib.Core.Bool.{true, false, cond}
use mathlib.Core.Option.{Option, none, some}
use mathlib.Core.List.{List, [], ◌∷◌, ◌++◌, map}
use Prim.Native.Nat.{ℕ, zero, suc, ◌+◌, ◌<◌, ◌≤◌, min}
use native.Mathlib.Omega.{arith}
use lib.Dec.{eqb}
use lib.ListN.{length, get_or, get_elem?, set, length-map, length-set}
use lib.Seq.{get_or-set_same, get_or-set_other}
use borrow.Author.Tests.{eqb-true, eqb-false, le-ltb, ltb-false}
use Rattle.model.specs.Calls.{Halt, filled, halt_at, halt_end, scratch_after, step_by, step_to, walk_call, walk_counts, walk_from, walk_given, walk_scratch, zeros}
use Rattle.desk_model.specs.Desks.{Call, fires, saves, returns, forgets, Contents, Histories, Leads, Noted, HistoriesLead, after, findings, count_ceiling, counts_after, desk_call, desk_calls, desk_pile, stop_of, is_high, moved_to, name_count, named, note, note_call, note_calls, opened, outcome, renamed, tells, uncounted, unwritten}
use Rattle.model.specs.Lists.{is_missing, value_or}
use Rattle.model.specs.Participation.{rule_processes, step_counts, with_step}
use Rattle.model.specs.Systems.{System, Rule, Configuration, fire, walk}
use Rattle.model.specs.Tables.{Item, Reading, accepted, bodies, byte_of, read, system_of}
use Rattle.model.proofs.Lists.{all_alike}
use Rattle.model.proofs.CheckedItems.{read_complete, count_ceiling_lem}
use Rattle.model.proofs.Participation.{counts_snoc}
use Rattle.model.proofs.Steps.{WalkStep, walk_inv, walk_cons}
use Rattle.model.proofs.Tests.{by_test}
use Rattle.desk_model.proofs.DeskChecks.{not_beyond, not_empty}

-- ---- where a history leads, whatever is said of that
module _ (sys : System) {P Q : List ℕ → Configuration → Type 0} (f : (ns : List ℕ) (c : Configuration) → P ns c → Q ns c) where
  noted_map : (x : Option (List ℕ)) (y : Option Configuration) → Noted P x y → Noted Q x y
  noted_map none none p = p
  noted_map none (some c) p = p
  noted_map (some ns) none p = p
  noted_map (some ns) (some c) p = f ns c p

  stands_map : (h : Histories) (s : Contents) → HistoriesLead sys P h s → HistoriesLead sys Q h s
  stands_map h s g = record { here = f h.current s.here g.here; names = λ a. noted_map (get_or h.noted a none) (named s a) (g.names a); counts = g.counts }

module _ (sys : System) where
  -- ---- a walk that takes one rule more
  -- the rules ns lead from c to d, and so do the walk call's steps in a pile of 256 bytes
  record Ends (ns : List ℕ) (step : ℕ) (c d : Configuration) : Type 0 where
    pub run : walk sys ns c ≡ some d
    pub steps : walk_from sys desk_pile step ns c ≡ halt_end sys d

  record Takes (n : ℕ) (c d : Configuration) : Type 0 where
    pub rule : Rule
    pub is : get_elem? sys.rules n ≡ some rule
    pub first : fire sys.loc rule c ≡ some d
    pub fits : length d.word ≤ desk_pile

  -- a step of the walk call: the rule fires
  walk_on : (step n : ℕ) (ns : List ℕ) (r : Rule) (c d : Configuration) → get_elem? sys.rules n ≡ some r → fire sys.loc r c ≡ some d
      → walk_from sys desk_pile step (n ∷ ns) c ≡ cond (is_high d) (halt_at 14 step (n ∷ ns) c) (walk_from sys desk_pile (step + 1) ns d)
  walk_on step n ns r c d e f =
      ap (step_by (λ x. walk_from sys desk_pile (step + 1) ns x) sys.loc desk_pile step (n ∷ ns) c) e
      ∙ ap (step_to (λ x. walk_from sys desk_pile (step + 1) ns x) desk_pile step (n ∷ ns) c) f

  ends_one : (step n : ℕ) (c d : Configuration) → Takes n c d → Ends (n ∷ []) step c d
  ends_one step n c d t = record {
    run = walk_cons sys n [] c d (record { rule = t.rule; is = t.is; mid = d; first = t.first; rest = refl });
    steps = walk_on step n [] t.rule c d t.is t.first ∙ rw (le-ltb desk_pile (length d.word) t.fits) refl;
  }

  -- the walk after its first step
  ends_rest : (m : ℕ) (ns : List ℕ) (step : ℕ) (c e : Configuration) (w : WalkStep sys m ns c e) → walk_from sys desk_pile step (m ∷ ns) c ≡ halt_end sys e → (is_high w.mid ≡ false) × Ends ns (step + 1) w.mid e
  ends_rest m ns step c e w h =
      let on : cond (is_high w.mid) (halt_at 14 step (m ∷ ns) c) (walk_from sys desk_pile (step + 1) ns w.mid) ≡ halt_end sys e =
      sym (walk_on step m ns w.rule c w.mid w.is w.first) ∙ h in
      by_test (is_high w.mid)
      (λ y. let f : halt_at 14 step (m ∷ ns) c ≡ halt_end sys e = rw y at on in
      let a : (halt_at 14 step (m ∷ ns) c).answer ≡ (halt_end sys e).answer = ap (λ (x : Halt). x.answer) f in let z : ◌≡◌ {A = ℕ} 0 1 = cc in absurd (omega arith))
      (λ y. (y, record { run = w.rest; steps = rw y at on }))

  ends_more : (m n : ℕ) (ns : List ℕ) (step : ℕ) (c e d : Configuration) (w : WalkStep sys m ns c e) → is_high w.mid ≡ false → Ends (ns ++ (n ∷ [])) (step + 1) w.mid d → Ends (m ∷ ns ++ (n ∷ [])) step c d
  ends_more m n ns step c e d w y x = record {
    run = walk_cons sys m (ns ++ (n ∷ [])) c d (record { rule = w.rule; is = w.is; mid = w.mid; first = w.first; rest = x.run });
    steps = walk_on step m (ns ++ (n ∷ [])) w.rule c w.mid w.is w.first ∙ rw y x.steps;
  }

  ends_snoc : (ns : List ℕ) (step n : ℕ) (c e d : Configuration) → Takes n e d → Ends ns step c e → Ends (ns ++ (n ∷ [])) step c d
  ends_snoc [] step n c e d t x = let same : c ≡ e = cc x.run in subst (λ (k : Configuration). Ends (n ∷ []) step k d) (sym same) (ends_one step n e d t)
  ends_snoc (m ∷ ns) step n c e d t x =
      let w = walk_inv sys m ns c e x.run in
      let r = ends_rest m ns step c e w x.steps in
      ends_more m n ns step c e d w r.0 (ends_snoc ns (step + 1) n w.mid e d t r.1)

  -- from the start
  abbrev To : List ℕ → Configuration → Type 0
  To ns c = Ends ns 0 sys.start c

  -- ---- the calls
  -- what is kept: the claim, and that there is a place for each name
  record Kept (h : Histories) (s : Contents) : Type 0 where
    pub stands : HistoriesLead sys To h s
    pub noted : length h.noted ≡ name_count
    pub names : length s.names ≡ name_count

  module _ (h : Histories) (s : Contents) (k : Kept h s) where
    -- one name written anew on both sides
    kept_renamed : (a : ℕ) (x : Option (List ℕ)) (y : Option Configuration) → a < name_count → Noted To x y → Kept (record { current = h.current; noted = set h.noted a x; since = h.since }) (renamed s a y)
    kept_renamed a x y l p = record {
      stands = record { here = k.stands.here; names = set_names; counts = k.stands.counts };
      noted = length-set h.noted a x ∙ k.noted;
      names = length-set s.names a y ∙ k.names;
    }
      where
        set_names : (b : ℕ) → Noted To (get_or (set h.noted a x) b none) (get_or (set s.names a y) b none)
        set_names b = by_test (eqb b a)
            (λ e. let same : a ≡ b = sym (eqb-true b a e) in
            subst (λ (i : ℕ). Noted To (get_or (set h.noted a x) i none) (get_or (set s.names a y) i none)) same
            (rw (get_or-set_same h.noted a x none (omega (arith, k.noted)), get_or-set_same s.names a y none (omega (arith, k.names))) p))
            (λ e. rw (get_or-set_other h.noted a b x none (eqb-false b a e), get_or-set_other s.names a b y none (eqb-false b a e)) (k.stands.names b))

    -- another current history on both sides, and other fires to count
    kept_moved : (ns since : List ℕ) (counts : List ℕ) (c : Configuration) → To ns c → counts ≡ map (min count_ceiling) (step_counts sys since)
        → Kept (record { current = ns; noted = h.noted; since = since }) (moved_to s counts c)
    kept_moved ns since counts c p q = record { stands = record { here = p; names = k.stands.names; counts = q }; noted = k.noted; names = k.names }

    -- the step that firing takes
    takes : (n : ℕ) (d : Configuration) → walk sys (n ∷ []) s.here ≡ some d → is_high d ≡ false → Takes n s.here d
    takes n d e l =
        let w = walk_inv sys n [] s.here d e in
        let same : w.mid ≡ d = cc w.rest in
        record { rule = w.rule; is = w.is; first = w.first ∙ ap (λ (x : Configuration). some x) same; fits = ltb-false desk_pile (length d.word) l }

    fire_keeps : (n : ℕ) (x : Option Rule) (o : Option Configuration) → get_elem? sys.rules n ≡ x → walk sys (n ∷ []) s.here ≡ o
        → ◌≡◌ {A = ℕ} (cond (is_missing x) 13 (cond (is_missing o) 12 (cond (value_or false is_high o) 14 0))) 0 → Kept (note_call h (fires n)) (value_or s (moved_to s (counts_after sys s n)) o)
    fire_keeps n none o is e z = absurd (omega arith)
    fire_keeps n (some r) none is e z = absurd (omega arith)
    fire_keeps n (some r) (some d) is e z = by_test (is_high d)
        (λ y. absurd (let q : ◌≡◌ {A = ℕ} 14 0 = rw y at z in omega arith))
        (λ y. kept_moved (h.current ++ (n ∷ [])) (h.since ++ (n ∷ [])) (counts_after sys s n) d (ends_snoc h.current 0 n sys.start s.here d (takes n d e y) k.stands.here)
        (ap (with_step count_ceiling (rule_processes sys n)) k.stands.counts ∙ counts_snoc count_ceiling sys h.since n))

    return_keeps : (a : ℕ) (x : Option (List ℕ)) (y : Option Configuration) → get_or h.noted a none ≡ x → Noted To x y → (is_missing y ≡ true → ⊥) → Kept (note_call h (returns a)) (value_or s (moved_to s uncounted) y)
    return_keeps a x none e p z = absurd (z refl)
    return_keeps a none (some c) e p z = absurd p
    return_keeps a (some ns) (some c) e p z =
        subst (λ (x : Option (List ℕ)). Kept (record { current = value_or h.current (λ (ms : List ℕ). ms) x; noted = h.noted; since = [] }) (moved_to s uncounted c)) (sym e) (kept_moved ns [] uncounted c p refl)

    -- no check stops the call
    after_keeps : (c : Call) → stop_of sys s c ≡ 0 → Kept (note_call h c) (after sys s c)
    unfolding findings
    after_keeps (fires n) z = fire_keeps n (get_elem? sys.rules n) (walk sys (n ∷ []) s.here) refl refl z
    after_keeps (saves a) z = kept_renamed a (some h.current) (some s.here) (not_beyond a 0 z) k.stands.here
    after_keeps (returns a) z = return_keeps a (get_or h.noted a none) (named s a) refl (k.stands.names a) (not_empty a (is_missing (named s a)) z)
    after_keeps (forgets a) z = kept_renamed a none none (not_beyond a (cond (is_missing (named s a)) 17 0) z) tt

    -- what a call tells that no check stops is noted
    tells_noted : (c : Call) → note (tells sys c) h c ≡ note_call h c
    tells_noted (fires n) = refl
    tells_noted (saves a) = refl
    tells_noted (returns a) = refl
    tells_noted (forgets a) = refl

    outcome_keeps : (c : Call) (n : ℕ) → stop_of sys s c ≡ n
        → Kept (note (outcome n s (record { told = tells sys c; contents = after sys s c })).told h c) (outcome n s (record { told = tells sys c; contents = after sys s c })).contents
    outcome_keeps c zero e = subst (λ (x : Histories). Kept x (after sys s c)) (sym (tells_noted c)) (after_keeps c e)
    outcome_keeps c (suc n) e = k

    call_keeps : (c : Call) → Kept (note (desk_call sys s c).told h c) (desk_call sys s c).contents
    unfolding desk_call
    call_keeps c = outcome_keeps c (stop_of sys s c) refl

  calls_keep : (cs : List Call) (h : Histories) (s : Contents) → Kept h s → Kept (note_calls sys s h cs) (desk_calls sys s cs)
  calls_keep [] h s k = k
  calls_keep (c ∷ cs) h s k = calls_keep cs (note (desk_call sys s c).told h c) (desk_call sys s c).contents (call_keeps h s k c)

  -- ---- opened
  opened_kept : Kept unwritten (opened sys)
  opened_kept = record {
    stands = record { here = record { run = refl; steps = refl }; names = λ a. rw (all_alike {A = Option (List ℕ)} name_count a none, all_alike {A = Option Configuration} name_count a none) tt; counts = refl };
    noted = refl;
    names = refl;
  }

  calls_stand : (cs : List Call) → HistoriesLead sys To (note_calls sys (opened sys) unwritten cs) (desk_calls sys (opened sys) cs)
  calls_stand cs = (calls_keep cs unwritten (opened sys) opened_kept).stands

-- ---- the walk call
module _ (table : List ℕ) (items : List Item) (r : read table ≡ accepted items) where
  abbrev system : System
  system = system_of items

  -- the start's word fits the pile
  start_fits : length system.start.word ≤ desk_pile
  unfolding system_of
  start_fits = omega (arith, length-map (bodies 7 items) (λ (body : List ℕ). byte_of body 0), count_ceiling_lem 7 (read_complete table items r).checked)

  ends_called : (ns : List ℕ) (c : Configuration) → Ends system ns 0 system.start c → (pile scratch : List ℕ) → length pile ≡ desk_pile → walk_scratch ≤ length scratch
      → walk_call table ns pile scratch ≡ record { answer = (halt_end system c).answer; counts = step_counts system ns; rest = []; pile = filled c.word pile; scratch = zeros scratch }
  unfolding walk_call walk_given walk_counts scratch_after
  ends_called ns c x pile scratch n l =
      let on : walk_from system (length pile) 0 ns system.start ≡ halt_end system c = ap (λ (k : ℕ). walk_from system k 0 ns system.start) n ∙ x.steps in
      let halt : walk_given (read table) ns (length pile) (length scratch) ≡ halt_end system c =
      ap (λ (y : Reading). walk_given y ns (length pile) (length scratch)) r
      ∙ rw (le-ltb (length scratch) walk_scratch l, le-ltb (length pile) (length system.start.word) (omega (arith, start_fits))) on in
      rw (halt, r) refl

  ends_lead : (ns : List ℕ) (c : Configuration) → Ends system ns 0 system.start c → Leads table system ns c
  ends_lead ns c x = record { run = x.run; call = ends_called ns c x }

  pub desk_walks : (cs : List Call) → HistoriesLead system (Leads table system) (note_calls system (opened system) unwritten cs) (desk_calls system (opened system) cs)
  desk_walks cs = stands_map system ends_lead (note_calls system (opened system) unwritten cs) (desk_calls system (opened system) cs) (calls_stand system cs)
