-- A rule is idle where it writes no letter, or no record reads its first one (IdleRules).
use mathlib.Core.Path.{ap, ◌∙◌}
use Prim.Native.Nat.{ℕ, ◌<◌}
use native.Mathlib.Omega.{arith}
use lib.Dec.{eqb}
use lib.ListN.{length}
use borrow.Author.Tests.{leb-true}
use Rattle.packs.specs.Packs.{mask_of, packed}
use Rattle.table.specs.Reading.{rule_in, system_in}
use Rattle.table.proofs.Layouts.{written_letter_in}
use Rattle.heads.proofs.IdleRules.{idle_unread}
use Rattle.heads.proofs.idle.is_idle.Goals as goal

pub letter_bits-requires : goal.letter_bits-requires
letter_bits-requires c =
    let some : 0 < length (rule_in c.args.table.now.bytes.now c.args.k).written = omega (arith, c.written_count-width.ensures, c.if-width-eq0.false) in
    let small : c.written_letter-a.result < c.args.table.now.counts.letters = let a = c.args in omega (arith, c.written_letter-a.ensures, written_letter_in a.table.now.bytes.now a.table.now.counts c.requires.0.holds a.k 0 c.requires.1 some) in
    omega (arith, c.from.ensures, small)

pub returns : goal.returns
returns c =
    let some : 0 < length (rule_in c.args.table.now.bytes.now c.args.k).written = omega (arith, c.written_count-width.ensures, c.if-width-eq0.false) in
    let letter = c.written_letter-a.ensures in
    let mask = c.mask_of-mask.ensures ∙ ap mask_of (c.letter_bits.ensures.same ∙ ap (system_in c.args.table.now.bytes.now).loc c.from.ensures) in
    let alone = ap (λ (n : ℕ). eqb n 1) c.written_count-width.ensures in (
      λ e. idle_unread c.requires.0 c.requires.1 c.if-round-eq1.false some letter mask
          (c.pack.ensures.0 ∙ ap packed c.rule_after.ensures) c.restricted-g.ensures alone c.first_reader-r.ensures (leb-true _ _ e),
      λ e z. absurd (omega (arith, some, z)),
    )
