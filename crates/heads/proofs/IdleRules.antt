-- A rule whose first letter no record reads from its states after adds nothing; nor does one without letters after the first round.
use mathlib.Core.Path.{◌∙◌, ◌≡◌, ap, ap₂, refl, sym}
use mathlib.Core.Bool.{Bool, ◌&&◌, ◌||◌, cond, false}
use mathlib.Core.List.{List, [], ◌∷◌, map}
use Prim.Native.Nat.{◌+◌, ◌-◌, ◌<◌, ◌≤◌, suc, zero, ℕ}
use native.Mathlib.Omega.{arith}
use lib.Dec.{eqb}
use lib.ListN.{drop, get_or, length, length-drop}
use lib.Seq.{drop-cons}
use borrow.Author.Tests.{eqb-true, ne_eqb}
use Rattle.model.specs.declared.Group.{Group}
use Rattle.model.specs.Groups.{Processes, restrict, same_group}
use Rattle.model.specs.Log.{Path, Record, candidate, paths, reads_at, record_at}
use Rattle.searches.specs.Searches.{any_from, extend_fresh, fresh_paths}
use Rattle.model.specs.Systems.{Rule}
use Rattle.model.proofs.Lists.{filter_map}
use Rattle.searches.proofs.FreshPaths.{fresh_paths_lem, path_fresh}
use Rattle.model.proofs.Tests.{by_test}
use Rattle.states.specs.StateSets.{first_from}
use Rattle.states.proofs.StateSets.{first_at, first_cong}
use Rattle.packs.specs.Packs.{Bytes, mask_of, packed_number, packed, packed_after, packed_before, packed_restrict, unpacked}
use Rattle.packs.proofs.Unpacked.{packed_below, restrict_below, restrict_unpacked, same_unpacked, unpacked_packed}
use Rattle.rings.specs.Rings.{record_reads}
use Rattle.keys.specs.Keys.{held_below}
use Rattle.table.specs.declared.Table.{Table}
use Rattle.table.specs.Reading.{rule_in, system_in}
use Rattle.logs.proofs.Logs.{over_byte}
use Rattle.logs.proofs.Rules.{rule_over}
use Rattle.paths.proofs.Extending.{extend_end, extend_first, extend_late}
use Rattle.heads.specs.declared.Round.{Round}
use Rattle.heads.specs.Rounds.{InRound, earlier_log, is_offered, rule_offers}
use Rattle.heads.proofs.InRounds.{round_bytes, round_fits}
use Rattle.heads.proofs.Matching.{before_is, groups_small, reads_at_lem}

-- ---- a head that no record has
unread_held : (log : List ℕ) (a g n : ℕ) → ((i : ℕ) → i < n → record_reads log a g i ≡ false) → (x : ℕ) → held_below log a g n x ≡ false
unread_held log a g zero f x = refl
unread_held log a g (suc n) f x =
    ap₂ (λ (b r : Bool). b || (r && eqb x (packed_number (packed_after log n)))) (unread_held log a g n (λ i l. f i (omega arith)) x) (f n (omega arith))

pub none_held : (log : List ℕ) (a g base : ℕ) {r : ℕ} → r ≡ first_from (record_reads log a g) 0 base → base ≤ r → (x : ℕ) → held_below log a g base x ≡ false
none_held log a g base {r} e h = unread_held log a g base (λ i l. (first_at (record_reads log a g) 0 base r e).fails i (omega arith) (omega arith))

-- ---- a rule after the first round
module _ {table : List ℕ} {t : Table} {round : Round} {log s : List ℕ} (here : InRound table t round log s) {k : ℕ} (below : k < t.rules) (later : round.number ≡ 1 → ⊥) where
  abbrev R : List Record
  R = earlier_log table round.number

  abbrev rule : Rule
  rule = rule_in table k

  abbrev loc : ℕ → Processes
  loc = (system_in table).loc

  abbrev fresh : List ℕ → List Path
  fresh w = fresh_paths loc R round.lo false w rule.after

  offers_fresh : rule_offers table round k ≡ map (candidate loc rule k) (fresh rule.written)
  offers_fresh =
      filter_map (is_offered round) (path_fresh round.lo false) (candidate loc rule k) (λ p. ap (λ (b : Bool). b || any_from round.lo p.numbers) (ne_eqb round.number 1 later))
      (paths loc R rule.written rule.after)
      ∙ ap (map (candidate loc rule k)) (sym (fresh_paths_lem loc round.lo R false rule.written rule.after))

  none : fresh rule.written ≡ [] → rule_offers table round k ≡ []
  none e = offers_fresh ∙ ap (map (candidate loc rule k)) e

  no_letters : (w : List ℕ) → length w ≡ 0 → w ≡ []
  no_letters [] e = refl
  no_letters (a ∷ w) e = absurd (omega arith)

  -- ---- no record reads its first letter
  module _ {a mask state g : ℕ} (some : 0 < length rule.written) (a-is : a ≡ get_or rule.written 0 0) (mask_is : mask ≡ mask_of (loc a)) (state_is : state ≡ packed rule.after)
      (g-is : g ≡ packed_restrict mask state) where
    after_bytes : Bytes rule.after
    after_bytes = over_byte (loc rule.letter) rule.after (rule_over table t here.holds k below).1

    key_is : g ≡ packed_restrict (mask_of (loc a)) (packed rule.after)
    key_is = g-is ∙ ap₂ packed_restrict mask_is state_is

    unpacked_is : unpacked g ≡ restrict (loc a) rule.after
    unpacked_is = ap unpacked key_is ∙ restrict_unpacked (loc a) (packed rule.after) (packed_below rule.after after_bytes) ∙ ap (restrict (loc a)) (unpacked_packed rule.after after_bytes)

    small : g < 4294967296
    small = rw key_is (restrict_below (loc a) (packed rule.after) (packed_below rule.after after_bytes))

    read_is : (i : ℕ) → i < length R → reads_at loc a rule.after (record_at R i) ≡ record_reads log a g i
    unfolding reads_at record_reads
    read_is i h =
        let fits = round_fits table t round log s here in
        let bytes = round_bytes table t round log s here in
        ap₂ (λ (x : ℕ) (b : Bool). eqb x a && b) (sym (reads_at_lem log R bytes fits i h).letter)
        (sym (same_unpacked g (packed_before log i) small (groups_small log R bytes fits i h).0 ∙ ap₂ same_group unpacked_is (before_is log R bytes fits i h)))

    abbrev rest : Bool → Group → List Path
    rest b h = fresh_paths loc R round.lo b (drop 1 rule.written) h

    word_is : rule.written ≡ a ∷ drop 1 rule.written
    word_is = drop-cons rule.written 0 0 some ∙ ap (λ (x : ℕ). x ∷ drop 1 rule.written) (sym a-is)

    module _ {alone : Bool} {r : ℕ} (alone-is : alone ≡ eqb (length rule.written) 1) (r-is : r ≡ first_from (record_reads log a g) (cond alone round.lo 0) (round.base - cond alone round.lo 0))
        (out : round.base ≤ r) where
      -- from record m on none reads it
      unread : (m : ℕ) → m ≤ length R → r ≡ first_from (record_reads log a g) m (round.base - m) → extend_fresh loc round.lo false a rule.after rest (drop m R) m ≡ []
      unread m l e =
          let whole : m + (length R - m) ≡ length R = omega arith in
          let first : first_from (λ i. reads_at loc a rule.after (record_at R i)) m (length R - m) ≡ r =
          first_cong (λ i. reads_at loc a rule.after (record_at R i)) (record_reads log a g) m (length R - m) (λ i p q. read_is i (omega arith))
          ∙ ap (λ (n : ℕ). first_from (record_reads log a g) m (n - m)) (sym here.size) ∙ sym e in
          extend_first loc round.lo false a rule.after rest R (length R - m) m whole
          ∙ extend_end loc round.lo false a rule.after rest R (first_from (λ i. reads_at loc a rule.after (record_at R i)) m (length R - m)) (omega (arith, first, here.size, out))

      pub idle_unread : rule_offers table round k ≡ []
      idle_unread = none (ap fresh word_is ∙ by_test alone
          (λ y. let one : length rule.written ≡ 1 = eqb-true (length rule.written) 1 (sym alone-is ∙ y) in
          let last : drop 1 rule.written ≡ [] = no_letters (drop 1 rule.written) (omega (arith, length-drop 1 rule.written)) in
          extend_late loc round.lo a rule.after rest (λ h. ap (λ (w : List ℕ). fresh_paths loc R round.lo false w h) last) round.lo R 0 (omega arith)
          ∙ unread round.lo (omega (arith, here.low, here.size)) (rw y at r-is))
          (λ n. unread 0 (omega arith) (rw n at r-is)))
