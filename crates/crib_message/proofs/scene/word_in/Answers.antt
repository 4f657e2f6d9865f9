use Rattle.std.proofs.Common.{rules, tests, ◌≡◌, List, ℕ, Bor}
use Rattle.std.specs.Prelude.{option_map, slice_get}
use Rattle.std.specs.List.{slice_split}
use Rattle.std.proofs.lemmas.Iterator.Consumers.{nth_from_yields_List}
use Rattle.std.proofs.lemmas.Iterator.Splits.{YieldsList-from_slice_split}
use Rattle.crib_text.specs.Words.{words_of}
use Rattle.crib_text.proofs.WordLemmas.{is_space}
use Rattle.crib_message.proofs.scene.word_in.Goals as goal

pub returns : goal.returns
unfolding words_of
returns c =
    let found : option_map (λ (b : Bor (List ℕ)). b.now) c.nth.result ≡ slice_get (slice_split is_space c.args.line.now) c.args.index =
    nth_from_yields_List _ _ _ c.nth.ensures.ran (YieldsList-from_slice_split _ is_space c.args.line.now c.split.ensures.rest
    c.split.ensures.done c.split.ensures.closure (λ x r q k. search (rules, tests))) in
    search (rules, found)
