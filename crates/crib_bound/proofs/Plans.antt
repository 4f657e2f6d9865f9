-- A deal beats a plan exactly if it beats the player who follows the plan.
use Rattle.std.proofs.Common.{◌≡◌, ◌⊎◌, ◌↔◌, ◌≤◌, ℕ, Bool, leb, true, false, cond, not, ◌&&◌, List, [], ◌∷◌, length, map, reverse, Option, Some, None}
use Rattle.std.proofs.Common.{refl, sym, ap, subst, ◌∙◌, inl, inr, arith}
use Rattle.std.proofs.lemmas.List.{length-map, reverse-reverse}
use Rattle.std.proofs.lemmas.Bool.{both_ways, leb-true, le-leb}
use Rattle.crib_cards.specs.Start.{pone_of}
use Rattle.crib_cards.specs.declared.sides.Side.{Side}
use Rattle.crib_cards.specs.declared.sides.Side.TheVariants.{Owner, Opponent}
use Rattle.crib_cards.specs.declared.sides.Dealt.{Dealt}
use Rattle.crib_cards.specs.declared.moves.Move.{Move}
use Rattle.crib_cards.specs.declared.moves.Move.TheVariants as move
use Rattle.crib_cards.specs.declared.moves.Act.{Act}
use Rattle.crib_play.specs.History.{Event, event_of, event_by, acts_of}
use Rattle.crib_show.specs.declared.show.outcomes.Outcome.{Outcome}
use Rattle.crib_show.specs.declared.show.outcomes.Outcome.TheVariants as outcome
use Rattle.crib_problem.specs.Setup.{Setup, start_of, hands_of}
use Rattle.crib_plan.specs.declared.plan.Next.{Next}
use Rattle.crib_plan.specs.declared.plan.Node.{Node}
use Rattle.crib_plan.specs.Places.{stated_card}
use Rattle.crib_game.specs.Replay.{is_done_for, outcome_for, play_scores}
use Rattle.crib_game.specs.Following.{is_stuck}
use Rattle.crib_game.specs.Followed.{IsRecordUnder, ending_without, ending_of}
use Rattle.crib_sure.specs.HistoryPlaces.{place_by, IsStatedEvent, FollowsBy}
use Rattle.crib_sure.proofs.PlaceByHistory.{follows_from, follows_to, place_history}
use Rattle.crib_check.specs.Failing.{IsFailingEnding}
use Rattle.crib_check.proofs.FailureEndings.{open_is_none, reached_is_none}
use Rattle.crib_check.proofs.NamedGames.{failed_outcome}
use Rattle.crib_beaten.specs.Beaten.{Beats}
use Rattle.crib_players.specs.Players.{AreBy, Player, own_card, follower_of, is_at_loss}
use Rattle.crib_players.proofs.Followers.{follower}
use Rattle.crib_bound.specs.BeatenPlayers.{BeatsPlayer}
use Rattle.crib_bound.specs.Laws.{PlanLaw, NoPlanLaw, SameDealsLaw, whole}
use Rattle.crib_bound.proofs.Bounds.{bound_if, each_obeys, some_beats, sure_unbeaten, event_card, whole_card, whole_player}

done_missed : (done stuck : Bool) (result : Outcome) → done ≡ true → (result ≡ outcome.Reached → ⊥) →
    IsFailingEnding (ending_without (cond done (Some result) None) stuck)
done_missed true stuck result is missed = failed_outcome result missed
done_missed false stuck result is missed = absurd cc

stuck_fails : (done who any playable : Bool) (result : Outcome) → (not done && who && any && not playable) ≡ true →
    IsFailingEnding (ending_without (cond done (Some result) None) (not done && who && any && not playable))
stuck_fails true who any playable result is = absurd (both_ways false refl is)
stuck_fails false who any playable result is = subst (λ (stuck : Bool). IsFailingEnding (ending_without None stuck)) (sym is) (inl refl)

fails_how : (done stuck : Bool) (result : Outcome) → IsFailingEnding (ending_without (cond done (Some result) None) stuck) →
    ((done ≡ true) × (result ≡ outcome.Reached → ⊥)) ⊎ (stuck ≡ true)
fails_how true stuck outcome.Reached fails = absurd (reached_is_none fails)
fails_how true stuck outcome.Lost fails = inl (refl, λ is. absurd cc)
fails_how true stuck outcome.Short fails = inl (refl, λ is. absurd cc)
fails_how false true result fails = inr refl
fails_how false false result fails = absurd (open_is_none fails)

-- a card of the owner is the player's exactly if it is stated, and another act is no such card
stated_act : (plan : List Node) (side : Side) (what : Move) (place : Next) →
    ((card : ℕ) → record { side = side; what = what } ≡ own_card card → stated_card plan place ≡ Some card)
    ↔ IsStatedEvent plan place (event_by side what)
stated_act plan Owner (move.Card card) place = (λ states. states card refl, λ is other same. is ∙ ap Some (whole_card card other same))
stated_act plan Owner move.Go place = (λ states. tt, λ is card same. absurd (let go : move.Go ≡ move.Card card = ap (λ (act : Act). act.what) same in cc))
stated_act plan Opponent what place = (λ states. tt, λ is card same. absurd (let other : Opponent ≡ Owner = ap (λ (act : Act). act.side) same in cc))

module _ (problem : Setup) (plan : List Node) where
  -- the player who follows the plan plays the acts that follow it
  by_follows : (acts : List Act) → AreBy (length problem.played) (follower_of problem plan) acts ↔ FollowsBy plan problem.played (map event_of acts)
  by_follows [] = (λ by. tt, λ follows. tt)
  by_follows (act ∷ before) =
      let rest = by_follows before in
      let sizes = length-map before event_of in
      let enough : leb (length problem.played) (length (map event_of before)) ≡ true → length problem.played ≤ length before =
      λ late. (let most = leb-true (length problem.played) (length (map event_of before)) late in omega (arith, most, sizes)) in
      let here = stated_act plan act.side act.what (place_by plan problem.played (map event_of before)) in (
        λ by. (rest.0 by.0, λ late. here.0 (by.1 (enough late))),
        λ follows. (rest.1 follows.0, λ late. here.1 (follows.1 (le-leb (length problem.played) (length (map event_of before)) (omega (arith, late, sizes))))),
      )

  module _ (dealt : Dealt) where
    abbrev pone : Side
    pone = pone_of (start_of problem)

    same_loss : (played : List Move) → is_stuck plan problem.played (start_of problem) (hands_of problem dealt) played
        ≡ is_at_loss (follower_of problem plan) (start_of problem) (hands_of problem dealt) played
    same_loss played =
        ap (λ (place : Next). is_at_loss (λ acts. stated_card plan place) (start_of problem) (hands_of problem dealt) played)
        (place_history plan problem.played pone played)

    module _ (beats : BeatsPlayer problem (follower_of problem plan) dealt) where
      abbrev acts : List Act
      acts = acts_of pone beats.played

      abbrev stuck : Bool
      stuck = is_stuck plan problem.played (start_of problem) (hands_of problem dealt) beats.played

      fails : IsFailingEnding (ending_of problem plan dealt beats.played)
      fails = elim beats.failure [
        | inl missed ↦ done_missed (is_done_for problem beats.played) stuck _ missed.done missed.missed
        | inr loss ↦ stuck_fails (is_done_for problem beats.played) _ _ _ _ (same_loss beats.played ∙ loss)
      ]

      beats_plan : Beats problem plan dealt
      beats_plan = record {
        game = record { opp = dealt; acts = record { items = reverse acts } };
        result = ending_of problem plan dealt beats.played;
        failing = record {
          played = beats.played;
          of_game = record {
            of_game = record {
              deal = beats.by.deal;
              legal = beats.by.legal;
              acts = sym (reverse-reverse acts);
              begins = rw (reverse-reverse acts) beats.by.begins;
            };
            follows = follows_from plan problem.played pone beats.played ((by_follows acts).0 beats.by.by);
          };
          ending_is = refl;
          failure = fails;
        };
        of_deal = refl;
      }

  module _ {dealt : Dealt} (beats : Beats problem plan dealt) where
    abbrev under : IsRecordUnder problem plan beats.game beats.failing.played
    under = beats.failing.of_game

    beats_follower : BeatsPlayer problem (follower_of problem plan) beats.game.opp
    beats_follower = record {
      played = beats.failing.played;
      by = record {
        deal = under.of_game.deal;
        legal = under.of_game.legal;
        begins = rw under.of_game.acts under.of_game.begins;
        by = (by_follows (acts_of (pone_of (start_of problem)) beats.failing.played)).1
            (follows_to plan problem.played (pone_of (start_of problem)) beats.failing.played under.follows);
      };
      failure = elim (fails_how (is_done_for problem beats.failing.played)
          (is_stuck plan problem.played (start_of problem) (hands_of problem beats.game.opp) beats.failing.played)
          (outcome_for problem beats.game.opp (play_scores problem beats.failing.played)) (rw beats.failing.ending_is beats.failing.failure)) [
            | inl missed ↦ inl (record { done = missed.0; missed = missed.1 })
            | inr stuck ↦ inr (sym (same_loss beats.game.opp beats.failing.played) ∙ stuck)
          ];
    }

pub same : SameDealsLaw
same problem plan dealt = (
  λ beats. subst (BeatsPlayer problem (follower_of problem plan)) beats.of_deal (beats_follower problem plan beats),
  λ beats. beats_plan problem plan dealt beats,
)

-- the player who follows a plan sees events
abbrev pub follows : Setup → List Node → List Event → Option ℕ
follows problem plan history = stated_card plan (place_by plan problem.played history)

pub plan : PlanLaw event_of
plan problem parts value count nodes strategy exact =
    bound_if event_of event_card problem (follows problem nodes) (each_obeys event_of event_card problem (follows problem nodes)) parts value strategy
    (λ dealt beats. (same problem nodes dealt).1 beats) exact

pub plan_by_cards : PlanLaw whole
plan_by_cards problem parts value count nodes strategy exact =
    let choice : Player = λ acts. follows problem nodes (map event_of acts) in
    bound_if whole whole_card problem choice (each_obeys whole whole_card problem choice) parts value strategy
    (λ dealt beats. (same problem nodes dealt).1
    (subst (λ (one : Player). BeatsPlayer problem one dealt) (whole_player (follower_of problem nodes)) beats)) exact

pub no_plan : NoPlanLaw
no_plan problem parts value nodes strategy some sure =
    sure_unbeaten (follower problem nodes sure) (some_beats event_of event_card problem (follows problem nodes) parts value strategy some).1
