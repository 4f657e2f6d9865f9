use Rattle.std.proofs.Common.{rules, tests}
use Rattle.std.specs.Prelude.{bytes_eq, []}
use Rattle.std.proofs.lemmas.Iterator.Search.{any_from_yields_List}
use Rattle.std.proofs.lemmas.Iterator.Splits.{YieldsList-from_slice_split}
use Rattle.crib_text.specs.Words.{words_of}
use Rattle.crib_text.proofs.WordLemmas.{is_space, empty_test}
use Rattle.crib_text.proofs.text.line.Line.has_empty_word.Goals as goal

pub returns : goal.returns
unfolding words_of
returns c =
    any_from_yields_List (bytes_eq []) _ _ _ c.any.ensures.ran
    (YieldsList-from_slice_split _ is_space c.args.self.now.bytes.now c.split-words.ensures.rest c.split-words.ensures.done c.split-words.ensures.closure
    (λ x b q k. search (rules, tests)))
    (λ x b q k. let same = empty_test x.now in search (rules, tests))
