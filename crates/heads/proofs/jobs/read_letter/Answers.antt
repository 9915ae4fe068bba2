-- One letter more stands in the word (Words).
use mathlib.Core.Path.{◌≡◌, ap, refl, ◌∙◌}
use mathlib.Core.Bool.{cond}
use Prim.Native.Nat.{ℕ, ◌<◌}
use native.Mathlib.Omega.{arith}
use lib.ListN.{get_or}
use Rattle.model.specs.Groups.{Processes, processes_of}
use Rattle.model.specs.Tables.{written_places}
use Rattle.packs.specs.Packs.{mask_of}
use Rattle.table.specs.Reading.{rule_in, system_in}
use Rattle.table.proofs.Layouts.{table_modest, written_few, written_letter_in}
use Rattle.rules.specs.Rules.{has_letter}
use Rattle.heads.proofs.Words.{word_more}
use Rattle.heads.proofs.jobs.read_letter.Goals as goal

pub letter_bits-requires : goal.letter_bits-requires
letter_bits-requires c =
    let small : c.written_letter-a.result < c.args.table.now.counts.letters = let a = c.args in omega (arith, c.written_letter-a.ensures, written_letter_in a.table.now.bytes.now a.table.now.counts c.args.table.now.holds a.k a.j c.requires.0 c.requires.1) in
    omega (arith, c.from.ensures, small)

pub last_fresh-requires : goal.last_fresh-requires
last_fresh-requires c =
    let a = c.args in
    omega (arith, c.from-2.ensures, c.written_letter-a.ensures, written_letter_in a.table.now.bytes.now a.table.now.counts a.table.now.holds a.k a.j c.requires.0 c.requires.1, (table_modest a.table.now.bytes.now a.table.now.counts a.table.now.holds).letters)

pub bounds-word-j : goal.bounds-word-j
bounds-word-j c =
    let a = c.args in
    omega (arith, c.requires.1, written_few a.table.now.bytes.now a.table.now.counts a.table.now.holds a.k c.requires.0)

pub offset_bounds-word-j : goal.offset_bounds-word-j
offset_bounds-word-j c =
    let a = c.args in
    omega (arith, c.requires.1, written_few a.table.now.bytes.now a.table.now.counts a.table.now.holds a.k c.requires.0)

pub bounds-word-j-2 : goal.bounds-word-j-2
bounds-word-j-2 c =
    let a = c.args in
    omega (arith, c.requires.1, written_few a.table.now.bytes.now a.table.now.counts a.table.now.holds a.k c.requires.0)

pub returns : goal.returns
returns c =
    let a = c.args in
    let few : a.j < written_places = omega (arith, c.requires.1, written_few a.table.now.bytes.now a.table.now.counts a.table.now.holds a.k c.requires.0) in
    let table = a.table.now.bytes.now in
    let b = get_or (rule_in table a.k).written a.j 0 in
    let letter : c.written_letter-a.result ≡ b = c.written_letter-a.ensures in
    let processes : processes_of c.letter_bits.result ≡ (system_in table).loc b = c.letter_bits.ensures.same ∙ ap (system_in table).loc (c.from.ensures ∙ letter) in
    let chosen : c.last_fresh.result ≡ cond (has_letter a.fresh b) a.j a.word.last =
    c.last_fresh.ensures ∙ ap (λ (x : ℕ). cond (has_letter a.fresh x) a.j a.word.last) (c.from-2.ensures ∙ letter) in
    word_more table a.fresh a.k a.j a.word.letters a.word.masks a.word.last _ _ _ few letter
    (c.mask_of.ensures ∙ ap (λ (L : Processes). mask_of L) processes) chosen c.requires.2 _ _ refl refl
