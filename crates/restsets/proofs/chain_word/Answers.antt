-- The leaders of the word's letters are chained.
use native.Mathlib.Omega.{arith}
use Rattle.restsets.proofs.chain_word.Goals as goal

pub chain_leaders-requires : goal.chain_leaders-requires
chain_leaders-requires c = (c.requires.0, omega (arith, c.requires.1))

pub shape_of-scratch : goal.shape_of-scratch
shape_of-scratch c = c.chain_leaders.ensures.outside.size

pub returns : goal.returns
returns c =
    let chained = c.chain_leaders.ensures in
    record {
      outside = chained.outside;
      led = record {
        letters = c.word_letters-letters.result;
        inside = c.word_letters-letters.ensures;
        chained = chained.chained;
        room = omega (arith, c.requires.1, chained.outside.size);
      };
    }
