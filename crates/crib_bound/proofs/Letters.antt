-- Which deals agree after a further turn.
use Rattle.std.proofs.Common.{◌≡◌, ℕ, ◌<◌, true, eqb, ltb, List, ◌∷◌, map, sym, ◌∙◌, arith}
use Rattle.std.proofs.lemmas.Bool.{eqb-true, ltb-true}
use Rattle.std.proofs.lemmas.Bool.Decides.{nat_tests}
use Rattle.crib_cards.specs.Cards.{IsRank, rank_of}
use Rattle.crib_cards.specs.Sets.{count_at, count_rank, rank_counts}
use Rattle.crib_cards.specs.declared.letters.Letter.{Letter}
use Rattle.crib_cards.specs.declared.letters.Letter.TheVariants.{Seen, Go}
use Rattle.crib_cards.specs.declared.moves.Move.{Move}
use Rattle.crib_cards.specs.declared.sides.Dealt.{Dealt}
use Rattle.crib_cards.proofs.CountLemmas.{count_at-rank_counts}
use Rattle.crib_cards.proofs.SetCounts.{count_cons}
use Rattle.crib_play.specs.declared.turns.Turn.TheVariants as turns
use Rattle.crib_play.specs.History.{Event, Own, Theirs}
use Rattle.crib_problem.specs.Setup.{Setup}
use Rattle.crib_know.specs.Knowledge.{Knowledge, their_ranks}
use Rattle.crib_know.specs.Hidden.{AgreesWith, KnowsAfter}
use Rattle.crib_know.proofs.CardLists.{count_map}
use Rattle.crib_know.proofs.CallLemmas.{led_of, passing_same}
use Rattle.crib_know.proofs.ChosenRanks.{ranks_of}
use Rattle.crib_know.proofs.Deals.{least_after_card, least_after_own}
use Rattle.crib_know.proofs.PassingIsAgreeing.{agrees_passes, passing_agrees, theirs_letter}
use Rattle.crib_beaten.specs.Beaten.{may_show}

module _ {know : Knowledge} {problem : Setup} {history : List Event} (knows : KnowsAfter know problem history) (dealt : Dealt)
    (agrees : AgreesWith problem history dealt) where
  -- a move that the owner can make
  pub own_agrees : {next : Knowledge} (what : Move) → KnowsAfter next problem (Own what ∷ history) → know.round.asked ≡ turns.Owner →
      AgreesWith problem (Own what ∷ history) dealt
  own_agrees {next} what after asked =
      passing_agrees problem knows.setup dealt agrees.0 (Own what ∷ history) (led_of next problem (Own what ∷ history) after)
      (rw (least_after_own problem history what (rw knows.knowledge at asked)) (agrees_passes problem knows.setup dealt agrees.0 history agrees))

  left_is : (rank : ℕ) → IsRank rank →
      ltb (count_at know.ranks_seen rank) (count_at (rank_counts (map rank_of dealt.hold)) rank)
      ≡ ltb (ranks_of (their_ranks history) rank) (count_rank rank dealt.hold)
  left_is rank is =
      (λ i. ltb (count_at ((knows.knowledge i).ranks_seen) rank) (count_at (rank_counts (map rank_of dealt.hold)) rank))
      ∙ (λ i. ltb (count_at-rank_counts (their_ranks history) rank is i)
      ((count_at-rank_counts (map rank_of dealt.hold) rank is ∙ count_map rank_of rank dealt.hold) i))

  -- a letter that its hold may show
  pub theirs_agrees : {next : Knowledge} (letter : Letter) → KnowsAfter next problem (Theirs letter ∷ history) →
      may_show know next letter (rank_counts (map rank_of dealt.hold)) ≡ true → AgreesWith problem (Theirs letter ∷ history) dealt
  theirs_agrees {next} Go after may = (passing_same next problem (Theirs Go ∷ history) after dealt).1 (agrees.0, may)
  theirs_agrees {next} (Seen rank) after may =
      passing_agrees problem knows.setup dealt agrees.0 (Theirs (Seen rank) ∷ history) (led_of next problem (Theirs (Seen rank) ∷ history) after)
      (λ other is_rank.
      let left = sym (left_is rank (theirs_letter problem knows.setup history (Seen rank) after.possible)) ∙ may in
      let before = agrees_passes problem knows.setup dealt agrees.0 history agrees other is_rank in
      let seen = count_cons (λ r. eqb r other) rank (their_ranks history) in
      let room : eqb rank other ≡ true → ranks_of (their_ranks history) other < count_rank other dealt.hold =
      λ same_rank. rw (← eqb-true rank other same_rank) (ltb-true _ _ left) in
      let least = least_after_card problem history rank in
      record { enough = grind (arith, nat_tests, before.enough, seen, room); high = grind (arith, nat_tests, before.high, seen, room, least) })
