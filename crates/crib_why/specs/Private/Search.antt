-- What the search finds for a problem, and after one turn more.
use Rattle.std.specs.Prelude.{◌≤◌, ℕ, zero, suc, ◌*◌, List, length, Option, IfSome, MatchOption}
use Rattle.std.specs.declared.vec.Vec.{Vec}
use Rattle.crib_cards.specs.Letters.{letter_of}
use Rattle.crib_cards.specs.declared.sides.Side.{Side}
use Rattle.crib_cards.specs.declared.sides.Side.TheVariants.{Owner, Opponent}
use Rattle.crib_cards.specs.declared.moves.Move.{Move}
use Rattle.crib_cards.specs.declared.moves.Move.TheVariants as move
use Rattle.crib_cards.specs.declared.moves.Act.{Act}
use Rattle.crib_problem.specs.Setup.{Setup}
use Rattle.crib_know.specs.Knowledge.{Knowledge, own_left, played_events}
use Rattle.crib_know.specs.Hidden.{CanDoAt, CanShowAt}
use Rattle.crib_game.specs.declared.section.game.Game.{Game}
use Rattle.crib_players.specs.Players.{own_card}
use Rattle.crib_players.specs.Refutations.{Refutes}
use Rattle.crib_players.specs.Laws.{longer}
use Rattle.crib_why.specs.Answer.{SomeIsSure}

-- a move of a side can come next
abbrev pub CanComeAs : Knowledge → Side → Move → Type 0
CanComeAs know Owner what = CanDoAt know what
CanComeAs know Opponent what = CanShowAt know (letter_of what)

-- games refute every player, with one turn more. If the turn is a card of the owner, that is a statement on the problem
-- after it. If it is not, the games refute the problem before it too
abbrev pub RefutesWith : Setup → Side → Move → List Game → Type 0
RefutesWith problem Owner (move.Card card) games = Refutes (longer problem (own_card card)) games
RefutesWith problem Owner move.Go games = Refutes problem games
RefutesWith problem Opponent what games = Refutes problem games

-- games that refute a problem, or none if some player is sure
abbrev pub IsFound : {A : Type 0} → Setup → Option (Vec Game A) → Type 0
IsFound problem found = MatchOption found (SomeIsSure problem) (λ games. Refutes problem games.items)

-- games that refute with one turn more, or none if some player is sure after it
abbrev pub IsFoundWith : {A : Type 0} → Setup → Act → Option (Vec Game A) → Type 0
IsFoundWith problem act found =
    MatchOption found (SomeIsSure (longer problem act)) (λ games. RefutesWith problem act.side act.what games.items)

-- in how many orders so many cards can be played
abbrev pub orders : ℕ → ℕ
orders zero = 1
orders (suc others) = suc others * orders others

-- how many cards the owner has left after the opening
abbrev pub own_count : Setup → ℕ
own_count problem = length (own_left problem (played_events problem))

-- the games that are found are at most as many as the orders in which so many cards can be played
abbrev pub AreFew : {A : Type 0} → ℕ → Option (Vec Game A) → Type 0
AreFew count found = IfSome found (λ games. length games.items ≤ orders count)
