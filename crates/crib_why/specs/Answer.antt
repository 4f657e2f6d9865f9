-- What the answers mean.
use Rattle.std.specs.Prelude.{◌≡◌, ◌≤◌, ◌⊎◌, ℕ, ⊤, List, [], ◌∷◌, length}
use Rattle.crib_cards.specs.Cards.{rank_of, ranks}
use Rattle.crib_problem.specs.Setup.{IsSetup, Setup}
use Rattle.crib_search.specs.Winnable.{IsWinnable, IsWinnableAfter, after_card}
use Rattle.crib_players.specs.Players.{Player, IsSurePlayer}
use Rattle.crib_players.specs.Refutations.{Refutes}
use Rattle.crib_why.specs.declared.why.Why.{Why}
use Rattle.crib_why.specs.declared.why.Why.TheVariants as why

-- some player is sure
abbrev pub SomeIsSure : Setup → Type 0
SomeIsSure problem = (player : Player) × IsSurePlayer problem player

-- some plan is sure after a card that the opponent shows next, if it may come next
abbrev pub IsSureAfter : Setup → ℕ → Type 0
IsSureAfter problem card = IsSetup (after_card problem card) → IsWinnable (after_card problem card)

-- suits decide after a rank that the opponent shows next: some plan is sure after each card of it, but no plan is sure
-- after all of them
pub record IsBySuit (problem : Setup) (rank : ℕ) : Type 0 where
  pub each : (card : ℕ) → rank_of card ≡ rank → IsSureAfter problem card
  pub none : ¬ IsWinnableAfter problem rank

-- those of some numbers for which a statement is true, in the same order
unfoldable pub AreThose : (ℕ → Type 0) → List ℕ → List ℕ → Type 0
AreThose is [] found = found ≡ []
AreThose is (number ∷ numbers) found =
    ((others : List ℕ) × is number × AreThose is numbers others × (found ≡ number ∷ others))
    ⊎ ((¬ is number) × AreThose is numbers found)

-- the ranks after which suits decide, from the ace
abbrev pub AreBySuit : Setup → List ℕ → Type 0
AreBySuit problem found = AreThose (IsBySuit problem) ranks found

-- an answer is right: `Sure` where some plan is sure, games that refute every player, or `BySuits` where no plan is
-- sure and some player is, with the ranks after which suits decide
abbrev pub IsRightWhy : {A : Type 0} → Setup → Why A → Type 0
IsRightWhy problem why.Sure = IsWinnable problem
IsRightWhy problem (why.Refuted games) = Refutes problem games.items
IsRightWhy problem (why.BySuits found) = ¬ IsWinnable problem × SomeIsSure problem × AreBySuit problem found.items

-- an answer has at most 24 games: the owner has at most four cards, which can be played in 4 · 3 · 2 · 1 orders
abbrev pub HasFewGames : {A : Type 0} → Why A → Type 0
HasFewGames (why.Refuted games) = length games.items ≤ 24
HasFewGames other = ⊤
