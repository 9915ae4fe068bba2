-- The letter of a transition that passed check 5 is a letter of the table (Values); then its states after are tested, and the numbers of states.
use Rattle.std.proofs.Common.{◌≡◌, sym, ℕ, Bool, not, ◌||◌, leb, List, [], ◌∷◌, get_or, rules}
use Rattle.model.specs.declared.Group.{Group}
use Rattle.model.specs.Copies.{leaves_control}
use Rattle.model.specs.Groups.{at, every, has, processes_of}
use Rattle.model.specs.Tables.{byte_of, group_of, is_reentry, loc_of, transition_of}
use Rattle.table.specs.declared.Table.{Table}
use Rattle.table.specs.Kinds.{kind_number}
use Rattle.table.specs.Places.{bound_in, letters_in}
use Rattle.reading.proofs.Values.{whole_transition}
use Rattle.reading.proofs.checks.is_reentry.Goals as goal

-- what the test of the states after says of the body
leaves : (bytes : List ℕ) (t : Table) (body : List ℕ) (a bits : ℕ) (g : Group) (r : Bool) → a ≡ byte_of body 0 → bits ≡ byte_of (get_or (letters_in bytes t) a (15 ∷ [])) 0 → g ≡ group_of body 5
    → r ≡ every (λ i. not (has (processes_of bits) i) || leb (bound_in bytes t 0 i) (at g i)) → leaves_control (loc_of (letters_in bytes t)) (bound_in bytes t 0) (transition_of body) ≡ r
unfolding leaves_control
leaves bytes t body a bits g r letter is group e = sym (rw (is, letter, group) at e)

pub bits_of-bits-requires : goal.bits_of-bits-requires
bits_of-bits-requires c =
    let transition : kind_number c.args.kind ≡ 4 = search rules in
    (c.requires.0.heads, rw c.from.ensures (whole_transition c.requires.0 transition c.requires.1))

pub returns-then-not-leaves_control : goal.returns-then-not-leaves_control
unfolding is_reentry
returns-then-not-leaves_control c =
    let x = c.args in
    let transition : kind_number c.args.kind ≡ 4 = search rules in
    simp (
      transition,
      leaves x.bytes.now x.t x.body.now _ _ _ _ c.from.ensures c.bits_of-bits.ensures c.group_at.ensures c.leaves_control.ensures,
      c.if-not-leaves_control.true,
      c.is_narrow.ensures,
    )

pub returns-else-not-leaves_control : goal.returns-else-not-leaves_control
unfolding is_reentry
returns-else-not-leaves_control c =
    let x = c.args in
    let transition : kind_number c.args.kind ≡ 4 = search rules in
    simp (
      transition,
      leaves x.bytes.now x.t x.body.now _ _ _ _ c.from.ensures c.bits_of-bits.ensures c.group_at.ensures c.leaves_control.ensures,
      c.if-not-leaves_control.false,
    )
