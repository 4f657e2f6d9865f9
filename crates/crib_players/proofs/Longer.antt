-- Games that refute after one more turn, and before it.
use Rattle.std.proofs.Common.{◌≡◌, ℕ, ◌+◌, Bool, true, List, [], ◌∷◌, ◌++◌, length, sym, ap, ◌∙◌, subst, append_assoc, inl, inr, arith}
use Rattle.std.specs.List.{list_all}
use Rattle.std.proofs.lemmas.Bool.{and_parts, cases_eq}
use Rattle.std.proofs.lemmas.List.{length-append, length-reverse, reverse-append}
use Rattle.crib_cards.specs.Sets.{has}
use Rattle.crib_cards.specs.declared.sides.Side.{Side}
use Rattle.crib_cards.specs.declared.sides.Side.TheVariants.{Owner, Opponent}
use Rattle.crib_cards.specs.declared.moves.Move.{Move}
use Rattle.crib_cards.specs.declared.moves.Move.TheVariants as move
use Rattle.crib_cards.specs.declared.moves.Act.{Act}
use Rattle.crib_problem.specs.Played.{cards_by}
use Rattle.crib_problem.specs.Setup.{Setup, played_back, BeginsAsPlayed}
use Rattle.crib_game.specs.declared.section.game.Game.{Game}
use Rattle.crib_game.specs.Replay.{acts_back}
use Rattle.crib_players.specs.Players.{own_card}
use Rattle.crib_players.specs.Refutations.{acts_before, may_play, IsMissed, IsBegun}
use Rattle.crib_players.specs.Laws.{longer, HasAfter, TurnLaw, CardsLaw}
use Rattle.crib_players.proofs.LastTurns.{heads}
use Rattle.crib_players.proofs.Turns.{one_more, opening_before}

pub rest_all : (p : ℕ → Bool) (side : Side) (what : Move) (before : List Act) →
    list_all p (cards_by Opponent (record { side = side; what = what } ∷ before)) ≡ true → list_all p (cards_by Opponent before) ≡ true
rest_all p Owner what before e = e
rest_all p Opponent (move.Card card) before e = (and_parts (p card) (list_all p (cards_by Opponent before)) e).1
rest_all p Opponent move.Go before e = e

module _ (problem : Setup) (act : Act) where
  abbrev next : Setup
  next = longer problem act

  pub back : played_back next ≡ act ∷ played_back problem
  back = reverse-append problem.played (act ∷ [])

  pub long_next : length next.played ≡ length problem.played + 1
  long_next = length-append problem.played (act ∷ [])

  -- the turn that was added comes after the opening
  pub added : (game : Game) → BeginsAsPlayed next (acts_back game) → acts_before game (length problem.played + 1) ≡ act ∷ played_back problem
  added game begins = ap (acts_before game) (sym long_next) ∙ opening_before game next begins ∙ back

  pub begins_shorter : (acts : List Act) → BeginsAsPlayed next acts → BeginsAsPlayed problem acts
  begins_shorter acts begins = record {
    later = begins.later ++ act ∷ [];
    parts = begins.parts ∙ ap (λ (rest : List Act). begins.later ++ rest) back ∙ sym (append_assoc begins.later (act ∷ []) (played_back problem));
  }

  pub missed_shorter : (game : Game) → IsMissed next game → IsMissed problem game
  missed_shorter game is =
      let of = is.of_game in
      record {
        played = is.played;
        of_game = record {
          deal = record {
            deal = of.deal.deal;
            fixed = rest_all (has game.opp.hold) act.side act.what (played_back problem)
                (ap (λ (acts : List Act). list_all (has game.opp.hold) (cards_by Opponent acts)) (sym back) ∙ of.deal.fixed);
          };
          legal = of.legal;
          acts = of.acts;
          begins = begins_shorter (acts_back game) of.begins;
        };
        done = is.done;
        missed = is.missed;
      }

pub turn : TurnLaw
turn problem act games is_other refutes = record {
  some = refutes.some;
  missed = λ index game among. missed_shorter problem act game (refutes.missed index game among);
  complete = λ index turn game among late card other is may. elim (cases_eq turn (length problem.played)) [
    | inl here ↦
        let begins = (refutes.missed index game among).of_game.begins in
        let both : act ∷ played_back problem ≡ own_card card ∷ acts_before game turn =
        sym (added problem act game begins) ∙ ap (λ (n : ℕ). acts_before game (n + 1)) (sym here) ∙ one_more game turn (own_card card) is in
        absurd (is_other card (heads _ _ _ _ both))
    | inr far ↦ (let long = long_next problem act in refutes.complete index turn game among (omega (arith, late, far, long)) card other is may)
  ];
}

-- one of the games begins with the card
begun_with : (problem : Setup) (games : List Game) (card : ℕ) → HasAfter problem games card → IsBegun games (own_card card ∷ played_back problem)
begun_with problem games card after =
    let first = after.refutes.some in
    let begins = (after.refutes.missed 0 first.0 first.1).of_game.begins in
    let found = after.among 0 first.0 first.1 in
    let back = length-reverse problem.played in
    let size : length (own_card card ∷ played_back problem) ≡ length problem.played + 1 = omega (arith, back) in
    record {
      index = found.0;
      game = first.0;
      among = found.1;
      begins = ap (acts_before first.0) size ∙ added problem (own_card card) first.0 begins;
    }

pub cards : CardsLaw
cards problem games some from each = record {
  some = some;
  missed = λ index game among. (
      let found = from index game among in missed_shorter problem (own_card found.0) game (found.1.refutes.missed found.2 game found.3)
      );
  complete = λ index turn game among late card other is may. (
      let found = from index game among in
      let after = found.1 in
      elim (cases_eq turn (length problem.played)) [
        | inl here ↦
            let begins = begins_shorter problem (own_card found.0) (acts_back game) (after.refutes.missed found.2 game found.3).of_game.begins in
            let opening : acts_before game turn ≡ played_back problem = ap (acts_before game) here ∙ opening_before game problem begins in
            let M : List Act → Type 0 = λ before. may_play problem before other ≡ true in
            let G : List Act → Type 0 = λ before. IsBegun games (own_card other ∷ before) in
            subst G (sym opening) (begun_with problem games other (each other (subst M opening may)))
        | inr far ↦
            let long = long_next problem (own_card found.0) in
            let begun = after.refutes.complete found.2 turn game found.3 (omega (arith, late, far, long)) card other is may in
            let index = after.among begun.index begun.game begun.among in
            record { index = index.0; game = begun.game; among = index.1; begins = begun.begins }
      ]
      );
}
