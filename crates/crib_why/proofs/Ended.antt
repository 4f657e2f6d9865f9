-- A game that misses the goal with one turn more refutes every player.
use Rattle.std.proofs.Common.{◌≡◌, ℕ, zero, suc, ◌+◌, ◌≤◌, List, [], ◌∷◌, ◌++◌, length, reverse, refl, sym, ap, subst, ◌∙◌, arith}
use Rattle.std.proofs.Common.{take_all}
use Rattle.std.specs.Prelude.{Some, slice_get}
use Rattle.std.specs.List.{list_all}
use Rattle.std.proofs.lemmas.List.{length-append, reverse-append, reverse-reverse}
use Rattle.std.proofs.lemmas.Option.{none-some, same_Some, slice_get_within}
use Rattle.crib_cards.specs.Sets.{has}
use Rattle.crib_cards.specs.declared.sides.Side.{Side}
use Rattle.crib_cards.specs.declared.sides.Side.TheVariants.{Owner, Opponent}
use Rattle.crib_cards.specs.declared.moves.Move.{Move}
use Rattle.crib_cards.specs.declared.moves.Move.TheVariants as move
use Rattle.crib_cards.specs.declared.moves.Act.{Act}
use Rattle.crib_play.specs.History.{Own, event_by, event_of}
use Rattle.crib_problem.specs.Setup.{Setup, played_back}
use Rattle.crib_problem.specs.Played.{cards_by}
use Rattle.crib_know.proofs.AgreeingIsPassing.{own_is}
use Rattle.crib_game.specs.declared.section.game.Game.{Game}
use Rattle.crib_game.specs.Replay.{acts_back}
use Rattle.crib_check.specs.Missed.{IsMissedWith}
use Rattle.crib_players.specs.Players.{own_card}
use Rattle.crib_players.specs.Refutations.{acts_before, IsMissed, Refutes}
use Rattle.crib_players.specs.Laws.{longer}
use Rattle.crib_players.proofs.Turns.{one_more}
use Rattle.crib_players.proofs.Longer.{back, long_next, turn}
use Rattle.crib_players.proofs.LastTurns.{heads}
use Rattle.crib_why.specs.Private.Search.{RefutesWith}

-- the only game of a list
only : (game other : Game) (index : ℕ) → slice_get (game ∷ []) index ≡ Some other → game ≡ other
only game other zero among = same_Some game other among
only game other (suc index) among = absurd (none-some other among)

-- an act in which the owner sees a card of their own
own_act : (side : Side) (what : Move) (card : ℕ) → event_by side what ≡ Own (move.Card card) → record { side = side; what = what } ≡ own_card card
own_act side what card e = let is = own_is side what (move.Card card) e in λ i. record { side = is.0 i; what = is.1 i }

module _ (problem : Setup) (act : Act) (game : Game) (is : IsMissedWith problem act game) where
  abbrev opening : List Act
  opening = played_back problem

  items : game.acts.items ≡ problem.played ++ is.turn ∷ []
  items =
      sym (reverse-reverse game.acts.items) ∙ ap reverse is.acts ∙ reverse-append (is.turn ∷ []) opening
      ∙ ap (λ (front : List Act). front ++ is.turn ∷ []) (reverse-reverse problem.played)

  long : length game.acts.items ≡ length problem.played + 1
  long = ap length items ∙ length-append problem.played (is.turn ∷ [])

  missed_here : IsMissed problem game
  missed_here = record { played = is.played; of_game = is.of_game; done = is.done; missed = is.missed }

  -- the game has one act after the opening
  last_act : (turn : ℕ) (other : Act) → slice_get game.acts.items turn ≡ Some other → length problem.played ≤ turn → other ≡ is.turn
  last_act turn other at late =
      let inside = slice_get_within game.acts.items turn other at in
      let end : turn + 1 ≡ length game.acts.items = omega (arith, inside, long, late) in
      let whole : acts_before game (turn + 1) ≡ acts_back game =
      ap reverse (take_all (turn + 1) game.acts.items (omega (arith, end))) in
      heads other is.turn (acts_before game turn) opening (sym (one_more game turn other at) ∙ whole ∙ is.acts)

  -- it is no card of the owner
  refutes_here : ((card : ℕ) → is.turn ≡ own_card card → ⊥) → Refutes problem (game ∷ [])
  refutes_here other = record {
    some = (game, refl);
    missed = λ index one among. subst (IsMissed problem) (only game one index among) missed_here;
    complete = λ index turn one among late card next at may. (
        let same = only game one index among in
        let here = subst (λ (g : Game). slice_get g.acts.items turn ≡ Some (own_card card)) (sym same) at in
        absurd (other card (sym (last_act turn (own_card card) here late)))
        );
  }

  -- it is a card of the owner
  module _ (card : ℕ) (own : is.turn ≡ own_card card) where
    abbrev next : Setup
    next = longer problem (own_card card)

    missed_next : IsMissed next game
    missed_next =
        let of = is.of_game in
        let same = back problem (own_card card) in
        record {
          played = is.played;
          of_game = record {
            deal = record {
              deal = of.deal.deal;
              fixed = ap (λ (acts : List Act). list_all (has game.opp.hold) (cards_by Opponent acts)) same ∙ of.deal.fixed;
            };
            legal = of.legal;
            acts = of.acts;
            begins = record { later = []; parts = is.acts ∙ ap (λ (a : Act). a ∷ opening) own ∙ sym same };
          };
          done = is.done;
          missed = is.missed;
        }

    refutes_next : Refutes next (game ∷ [])
    refutes_next = record {
      some = (game, refl);
      missed = λ index one among. subst (IsMissed next) (only game one index among) missed_next;
      complete = λ index turn one among late other another at may. (
          let same = only game one index among in
          let here = subst (λ (g : Game). slice_get g.acts.items turn ≡ Some (own_card other)) (sym same) at in
          let inside = slice_get_within game.acts.items turn (own_card other) here in
          let more = long_next problem (own_card card) in
          absurd (omega (arith, inside, long, late, more))
          );
    }

not_own : (side : Side) (what : Move) (shown : Act) → event_of shown ≡ event_by side what →
    ((card : ℕ) → record { side = side; what = what } ≡ own_card card → ⊥) → (card : ℕ) → shown ≡ own_card card → ⊥
not_own side what shown alike other card own = other card (own_act side what card (sym alike ∙ ap event_of own))

no_go : (card : ℕ) → record { side = Owner; what = move.Go } ≡ own_card card → ⊥
no_go card is = let go : move.Go ≡ move.Card card = ap (λ (act : Act). act.what) is in cc

no_opponent : (what : Move) (card : ℕ) → record { side = Opponent; what = what } ≡ own_card card → ⊥
no_opponent what card is = let who : Opponent ≡ Owner = ap (λ (act : Act). act.side) is in cc

pub refutes_ended : (problem : Setup) (side : Side) (what : Move) (game : Game) → IsMissedWith problem (record { side = side; what = what }) game →
    RefutesWith problem side what (game ∷ [])
refutes_ended problem Owner (move.Card card) game is =
    refutes_next problem (own_card card) game is card (own_act is.turn.side is.turn.what card is.alike)
refutes_ended problem Owner move.Go game is =
    refutes_here problem (record { side = Owner; what = move.Go }) game is (not_own Owner move.Go is.turn is.alike no_go)
refutes_ended problem Opponent what game is =
    refutes_here problem (record { side = Opponent; what = what }) game is (not_own Opponent what is.turn is.alike (no_opponent what))

-- games that refute after a turn
pub refutes_longer : (problem : Setup) (side : Side) (what : Move) (games : List Game) → Refutes (longer problem (record { side = side; what = what })) games →
    RefutesWith problem side what games
refutes_longer problem Owner (move.Card card) games refutes = refutes
refutes_longer problem Owner move.Go games refutes = turn problem (record { side = Owner; what = move.Go }) games no_go refutes
refutes_longer problem Opponent what games refutes = turn problem (record { side = Opponent; what = what }) games (no_opponent what) refutes
