-- The player who follows a sure plan is sure.
use Rattle.std.proofs.Common.{◌≡◌, ℕ, not, ◌&&◌, List, [], ◌∷◌, length, map, refl, sym, ap, ◌∙◌, arith}
use Rattle.std.specs.Prelude.{Some}
use Rattle.std.specs.List.{list_any}
use Rattle.std.proofs.lemmas.List.{length-map}
use Rattle.std.proofs.lemmas.Bool.{leb-true}
use Rattle.crib_cards.specs.Sides.{same_side}
use Rattle.crib_cards.specs.Start.{pone_of}
use Rattle.crib_cards.specs.declared.sides.Side.{Side}
use Rattle.crib_cards.specs.declared.sides.Side.TheVariants.{Owner, Opponent}
use Rattle.crib_cards.specs.declared.sides.Dealt.{Dealt}
use Rattle.crib_cards.specs.declared.moves.Move.{Move}
use Rattle.crib_cards.specs.declared.moves.Move.TheVariants as move
use Rattle.crib_cards.specs.declared.moves.Act.{Act}
use Rattle.crib_play.specs.Record.{mover}
use Rattle.crib_play.specs.Score.{is_done}
use Rattle.crib_play.specs.Legal.{letters_of, cards_left, fits}
use Rattle.crib_play.specs.History.{event_of, event_by, acts_of}
use Rattle.crib_problem.specs.Setup.{Setup, start_of, hands_of}
use Rattle.crib_plan.specs.declared.plan.Next.{Next}
use Rattle.crib_plan.specs.declared.plan.Node.{Node}
use Rattle.crib_plan.specs.Places.{stated_card}
use Rattle.crib_game.specs.Following.{is_playable}
use Rattle.crib_sure.specs.Sure.{IsFollowed}
use Rattle.crib_sure.specs.HistoryPlaces.{place_by, IsStatedEvent, FollowsBy}
use Rattle.crib_sure.proofs.PlaceByHistory.{follows_from, place_history}
use Rattle.crib_players.specs.Players.{own_card, AreBy, IsPlayedBy, follower_of}
use Rattle.crib_players.specs.Laws.{FollowerLaw, NoPlanLaw}
use Rattle.crib_players.proofs.Refuted.{refuted}

stated_act : (plan : List Node) (side : Side) (what : Move) (place : Next) →
    ((card : ℕ) → record { side = side; what = what } ≡ own_card card → stated_card plan place ≡ Some card) → IsStatedEvent plan place (event_by side what)
stated_act plan Owner (move.Card card) place states = states card refl
stated_act plan Owner move.Go place states = tt
stated_act plan Opponent what place states = tt

module _ (problem : Setup) (plan : List Node) where
  by_follows : (acts : List Act) → AreBy (length problem.played) (follower_of problem plan) acts → FollowsBy plan problem.played (map event_of acts)
  by_follows [] by = tt
  by_follows (act ∷ before) by = (
    by_follows before by.0,
    λ late. (
        let enough = leb-true (length problem.played) (length (map event_of before)) late in
        let sizes = length-map before event_of in
        stated_act plan act.side act.what (place_by plan problem.played (map event_of before)) (by.1 (omega (arith, enough, sizes)))
        ),
  )

  followed : (dealt : Dealt) (played : List Move) → IsPlayedBy problem (follower_of problem plan) dealt played → IsFollowed problem plan dealt played
  followed dealt played is = record {
    deal = is.deal;
    legal = is.legal;
    begins = is.begins;
    follows = follows_from plan problem.played (pone_of (start_of problem)) played (by_follows (acts_of (pone_of (start_of problem)) played) is.by);
  }

pub follower : FollowerLaw
follower problem plan sure = record {
  never_at_loss = λ dealt played is.
      ap (λ (place : Next). not (is_done (start_of problem) (letters_of played)) && same_side (mover (pone_of (start_of problem)) (letters_of played)) Owner
      && list_any (fits played) (cards_left (hands_of problem dealt) Owner played)
      && not (is_playable (hands_of problem dealt) played (stated_card plan place)))
      (sym (place_history plan problem.played (pone_of (start_of problem)) played))
      ∙ sure.never_stuck dealt played (followed problem plan dealt played is);
  reached = λ dealt played is done. sure.reached dealt played (followed problem plan dealt played is) done;
}

pub no_plan : NoPlanLaw
no_plan problem games plan setup refutes sure = refuted problem games (follower_of problem plan) setup refutes (follower problem plan sure)
