-- The first deal that misses the goal at the end of the play.
use Rattle.std.proofs.Common.{◌≡◌, ℕ, ◌<◌, ◌≤◌, Bool, true, cond, eqb, List, [], ◌∷◌, map, length, count_by}
use Rattle.std.proofs.Common.{refl, sym, ap, ◌∙◌, inl, inr, arith}
use Rattle.std.proofs.lemmas.Bool.{cases_lt}
use Rattle.std.proofs.lemmas.Bool.Decides.{nat_tests}
use Rattle.crib_cards.specs.Cards.{IsRank, rank_of, ranks}
use Rattle.std.specs.List.{list_all}
use Rattle.crib_cards.specs.Sets.{has, set_of, rank_counts, count_at, count_rank}
use Rattle.crib_cards.specs.Sides.{game_hole}
use Rattle.crib_cards.specs.Start.{Start, pone_of}
use Rattle.crib_cards.specs.declared.sides.Dealt.{Dealt}
use Rattle.crib_cards.specs.declared.sides.Scores.{Scores}
use Rattle.crib_cards.specs.declared.sides.Side.{Side}
use Rattle.crib_cards.specs.declared.sides.Side.TheVariants.{Owner, Opponent}
use Rattle.crib_cards.proofs.CountLemmas.{count_at-rank_counts}
use Rattle.crib_cards.proofs.SetFacts.{in_set_where}
use Rattle.crib_play.specs.declared.turns.Turn.TheVariants as turns
use Rattle.crib_play.specs.Record.{Record, mover, cards_in}
use Rattle.crib_play.specs.Score.{is_done, side_asked}
use Rattle.crib_play.specs.Filled.{filled_record}
use Rattle.crib_play.specs.Legal.{letters_of, cards_left}
use Rattle.crib_play.specs.History.{Event, history_letters, filled_moves}
use Rattle.crib_play.proofs.RecordBounds.{played_both}
use Rattle.crib_play.proofs.LegalRecords.{legal_filled}
use Rattle.crib_play.proofs.TurnFacts.{play_of}
use Rattle.crib_show.specs.declared.deals.WorstShow.{WorstShow}
use Rattle.crib_show.specs.Worst as worst
use Rattle.crib_show.specs.declared.worst.extremes.ExtremesByRanks.{ExtremesByRanks}
use Rattle.crib_show.specs.Extremes.{AreExtremesFor}
use Rattle.crib_problem.specs.Setup.{Setup, start_of, hands_of, target_of, fixed_cards, IsDealOf}
use Rattle.crib_problem.proofs.StartLemmas.{started}
use Rattle.crib_know.specs.Knowledge.{Knowledge, their_ranks, least_value}
use Rattle.crib_know.specs.Hidden.{AgreesWith, KnowsAfter}
use Rattle.crib_know.proofs.ChosenRanks.{ranks_of}
use Rattle.crib_know.proofs.RankTotals.{more_all}
use Rattle.crib_know.proofs.Events.{plays_of, plays_filled}
use Rattle.crib_know.proofs.FixedCards.{fixed_are_cards}
use Rattle.crib_know.proofs.CardLists.{has_set_from, has_range_parts, count_map, count_all_of}
use Rattle.crib_know.proofs.Deals.{dealt_is}
use Rattle.crib_know.proofs.AgreeingIsPassing.{PassesRanks, left_played}
use Rattle.crib_know.proofs.PassingIsAgreeing.{passing_agrees, agrees_passes}
use Rattle.crib_know.proofs.RecordTurns.{possible_led}
use Rattle.crib_know.proofs.KnowledgeFacts.{needs_history}
use Rattle.crib_sure.specs.Shows.{worst_of, AreExtremesOf}
use Rattle.crib_cards.proofs.Members.{all_has, all_from, has_here, has_there}

-- ---- the scores do not decide, so all cards are played
over_done : (d : Bool) (side : Side) → cond d turns.Over (side_asked side) ≡ turns.Over → d ≡ true
over_done d side e = grind (arith, nat_tests, e)

module _ {problem : Setup} {know : Knowledge} {history : List Event} (knows : KnowsAfter know problem history) where
  abbrev start : Start
  start = start_of problem

  abbrev shown : Record
  shown = filled_record start (history_letters history)

  -- some deal has all its cards played
  played_by : (dealt : Dealt) → AgreesWith problem history dealt → length (cards_in shown) ≡ 8 → length (their_ranks history) ≡ 4
  played_by dealt agrees eight =
      let hands = hands_of problem dealt in
      let dealt_ok = dealt_is problem knows.setup dealt agrees.0 in
      let plays = plays_of start hands history (started problem knows.setup) dealt_ok agrees.1 in
      let past = filled_moves start plays.seen in
      let all = ap (λ (letters : Record). length (cards_in letters)) (plays_filled start hands history plays) in
      let play = play_of start hands dealt_ok past (legal_filled start hands plays.seen dealt_ok plays.legal) in
      let whole = left_played problem knows.setup dealt agrees.0 history plays (λ _. true) in
      let theirs = count_all_of (cards_left hands Opponent past) in
      let seen = count_all_of (their_ranks history) in
      let both = played_both (pone_of start) (letters_of past) in
      omega (arith, all, eight, both, play.left Owner, play.left Opponent, whole, theirs, seen, count_all_of dealt.hold, agrees.0.deal.held)

  eight_played : know.round.asked ≡ turns.Over → know.round.scores.owner < target_of problem → know.round.scores.opponent < game_hole →
      length (cards_in shown) ≡ 8
  eight_played over low few =
      let done = over_done (is_done start shown) (mover (pone_of start) shown) (sym (ap (λ (k : Knowledge). k.round.asked) knows.knowledge) ∙ over) in
      let scores = ap (λ (k : Knowledge). k.round.scores) knows.knowledge in
      grind (arith, nat_tests, done, ap (λ (s : Scores). s.owner) scores, ap (λ (s : Scores). s.opponent) scores, low, few)

  pub four_played : know.round.asked ≡ turns.Over → know.round.scores.owner < target_of problem → know.round.scores.opponent < game_hole →
      length (their_ranks history) ≡ 4
  four_played over low few = played_by knows.possible.0 knows.possible.1 (eight_played over low few)

  -- ---- the deals with the four ranks are those that agree
  abbrev behind : WorstShow
  behind = worst_of problem know

  -- the known cards, as a set and in the order of play
  pub fixed_known : know.fixed ≡ set_of (fixed_cards problem)
  fixed_known = ap (λ (k : Knowledge). k.fixed) knows.knowledge

  fixed_to : (dealt : Dealt) → list_all (has dealt.hold) (fixed_cards problem) ≡ true → list_all (has dealt.hold) know.fixed ≡ true
  fixed_to dealt all = rw fixed_known (all_from (has dealt.hold) _
      (λ card there. all_has (has dealt.hold) (fixed_cards problem) card all (in_set_where (has (fixed_cards problem)) card there).1))

  fixed_from : (dealt : Dealt) → list_all (has dealt.hold) know.fixed ≡ true → list_all (has dealt.hold) (fixed_cards problem) ≡ true
  fixed_from dealt all = all_from (has dealt.hold) (fixed_cards problem) (λ card there.
      all_has (has dealt.hold) _ card (rw fixed_known at all) (has_set_from _ card (fixed_are_cards problem knows.setup card there) there))

  module _ (four : length (their_ranks history) ≡ 4) where
    ranks_known : know.ranks_seen ≡ rank_counts (their_ranks history)
    ranks_known = ap (λ (k : Knowledge). k.ranks_seen) knows.knowledge

    -- a hold with all cards that were seen has no other card
    no_more : (dealt : Dealt) → IsDealOf problem dealt → PassesRanks (least_value problem history) (their_ranks history) dealt.hold → (rank : ℕ) →
        IsRank rank → count_rank rank dealt.hold ≡ ranks_of (their_ranks history) rank
    no_more dealt deal passes rank is =
        let are = (needs_history problem knows.setup history (possible_led problem knows.setup history knows.possible)).are in
        elim (cases_lt (ranks_of (their_ranks history) rank) (count_rank rank dealt.hold)) [
          | inl strict ↦
              let more = more_all (their_ranks history) [] dealt.hold rank are is (λ r r_is. omega (arith, (passes r r_is).enough)) (omega (arith, strict)) in
              absurd (omega (arith, more, four, deal.deal.held))
          | inr most ↦ omega (arith, (passes rank is).enough, most)
        ]

    map_same : (f g : ℕ → ℕ) (xs : List ℕ) → ((x : ℕ) → has xs x ≡ true → f x ≡ g x) → map f xs ≡ map g xs
    map_same f g [] same = refl
    map_same f g (x ∷ xs) same = λ i. same x (has_here x xs) i ∷ map_same f g xs (λ y h. same y (has_there x y xs h)) i

    pub behind_to : (dealt : Dealt) → AgreesWith problem history dealt → worst.AgreesInShow behind dealt
    behind_to dealt agrees =
        let passes = agrees_passes problem knows.setup dealt agrees.0 history agrees in
        let same = map_same (λ rank. count_by (λ other. eqb other rank) (map rank_of dealt.hold))
        (λ rank. count_by (λ other. eqb other rank) (their_ranks history))
        ranks (λ rank h.
        let within = has_range_parts 1 13 rank h in
        count_map rank_of rank dealt.hold ∙ no_more dealt agrees.0 passes rank (within.0, omega (arith, within.1))) in
        record { deal = agrees.0.deal; ranks_held = same ∙ sym ranks_known; fixed_held = fixed_to dealt agrees.0.fixed }

    pub behind_from : (dealt : Dealt) → worst.AgreesInShow behind dealt → AgreesWith problem history dealt
    behind_from dealt agrees =
        passing_agrees problem knows.setup dealt (record { deal = agrees.deal; fixed = fixed_from dealt agrees.fixed_held }) history
        (possible_led problem knows.setup history knows.possible) (λ rank is.
        let same : count_rank rank dealt.hold ≡ ranks_of (their_ranks history) rank =
        sym (count_map rank_of rank dealt.hold) ∙ sym (count_at-rank_counts (map rank_of dealt.hold) rank is)
        ∙ ap (λ (counts : List ℕ). count_at counts rank) (agrees.ranks_held ∙ ranks_known) ∙ count_at-rank_counts (their_ranks history) rank is in
        record { enough = omega (arith, same); high = inr (omega (arith, same)) })

    pub has_deal : {show : WorstShow} → show ≡ behind → worst.HasDeal show
    has_deal e = rw e (knows.possible.0, behind_to knows.possible.0 knows.possible.1)

-- ---- the shows of a problem, once they have gone to a knowledge: the table of counted shows is right for the show
module _ {problem : Setup} {know : Knowledge} {show : WorstShow} {shows : ExtremesByRanks} (known : (history : List Event) × KnowsAfter know problem history)
    (gone : show ≡ worst_of problem know) where
  pub gone_for : {before : ExtremesByRanks} → shows ≡ before → AreExtremesOf problem before → AreExtremesFor show shows
  gone_for same are = rw (gone, fixed_known known.1, same) are

  pub gone_from : AreExtremesFor show shows → AreExtremesOf problem shows × ((other : Knowledge) × (show ≡ worst_of problem other))
  gone_from are = (rw (gone, fixed_known known.1) at are, (know, gone))
