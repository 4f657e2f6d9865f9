-- The order of games by the opponent's letters.
use Rattle.std.proofs.Common.{◌≡◌, ℕ, ◌<◌, true, false, List, [], ◌∷◌, ◌++◌, map, reverse, refl, sym, ap, ◌∙◌, append_assoc}
use Rattle.std.proofs.Common.{arith}
use Rattle.std.specs.Prelude.{bytes_eq, filter}
use Rattle.std.proofs.lemmas.Bool.{both_ways, or_from, and_left, and_right, false_from_ne_true}
use Rattle.std.proofs.lemmas.Bool.Decides.{nat_tests}
use Rattle.std.proofs.lemmas.Slice.Eq.{bytes_eq-Decides}
use Rattle.std.proofs.lemmas.List.{map-append, reverse-append}
use Rattle.crib_cards.specs.Order.{is_before}
use Rattle.crib_cards.specs.Deals.{deal_numbers}
use Rattle.crib_cards.specs.Letters.{letter_of, letter_index}
use Rattle.crib_cards.specs.Sides.{same_side}
use Rattle.crib_cards.specs.declared.sides.Side.{Side}
use Rattle.crib_cards.specs.declared.sides.Side.TheVariants.{Owner, Opponent}
use Rattle.crib_cards.specs.declared.letters.Letter.{Letter}
use Rattle.crib_cards.specs.declared.moves.Move.{Move}
use Rattle.crib_cards.specs.declared.moves.Act.{Act}
use Rattle.crib_play.specs.History.{Event, Own, Theirs, event_by, event_of}
use Rattle.crib_game.specs.declared.section.game.Game.{Game}
use Rattle.crib_check.specs.Failing.{opponent_letters, comes_before}
use Rattle.crib_sure.specs.Private.Histories.{Extends, history_of_game}
use Rattle.crib_cards.proofs.DictionaryOrder.{before_first, before_rest, not_before_rest, not_before_self}

-- the indices of the opponent's letters in a history, the last one first
abbrev pub letter_in : Event → List ℕ → List ℕ
letter_in (Own turn) letters = letters
letter_in (Theirs letter) letters = letter_index letter ∷ letters

abbrev pub letters_in : List Event → List ℕ
letters_in [] = []
letters_in (event ∷ history) = letter_in event (letters_in history)

letter_appended : (event : Event) (letters others : List ℕ) → letter_in event (letters ++ others) ≡ letter_in event letters ++ others
letter_appended (Own turn) letters others = refl
letter_appended (Theirs letter) letters others = refl

letters_appended : (later history : List Event) → letters_in (later ++ history) ≡ letters_in later ++ letters_in history
letters_appended [] history = refl
letters_appended (event ∷ later) history = ap (letter_in event) (letters_appended later history) ∙ letter_appended event (letters_in later) (letters_in history)

-- the indices in the order of play are those of the history, reversed
abbrev letters_shown : List Act → List ℕ
letters_shown acts = map (λ (act : Act). letter_index (letter_of act.what)) (filter (λ (act : Act). same_side act.side Opponent) acts)

letter_first : (side : Side) (what : Move) (acts : List Act) →
    letters_shown (record { side = side; what = what } ∷ acts) ≡ reverse (letter_in (event_by side what) []) ++ letters_shown acts
letter_first Owner what acts = refl
letter_first Opponent what acts = refl

letters_turned : (acts : List Act) → letters_shown acts ≡ reverse (letters_in (map event_of (reverse acts)))
letters_turned [] = refl
letters_turned (act ∷ acts) =
    rw (
      reverse-append (act ∷ []) acts,
      map-append event_of (reverse acts) (act ∷ []),
      letters_appended (map event_of (reverse acts)) (event_of act ∷ []),
      reverse-append (letters_in (map event_of (reverse acts))) (letter_in (event_of act) []),
    )
    (letter_first act.side act.what acts ∙ ap (λ (letters : List ℕ). reverse (letter_in (event_of act) []) ++ letters) (letters_turned acts))

pub letters_of_game : (game : Game) → opponent_letters game ≡ reverse (letters_in (history_of_game game))
letters_of_game game = letters_turned game.acts.items

-- the letters of a game that goes on with a letter: the earlier ones, that one, and some others
pub letters_go_on : (game : Game) (history : List Event) (letter : Letter) (ext : Extends (Theirs letter ∷ history) (history_of_game game)) →
    opponent_letters game ≡ reverse (letters_in history) ++ letter_index letter ∷ reverse (letters_in ext.0)
letters_go_on game history letter ext =
    letters_of_game game
    ∙ ap (λ (h : List Event). reverse (letters_in h)) ext.1
    ∙ ap reverse (letters_appended ext.0 (Theirs letter ∷ history))
    ∙ reverse-append (letters_in ext.0) (letter_index letter ∷ letters_in history)
    ∙ ap (λ (front : List ℕ). front ++ reverse (letters_in ext.0)) (reverse-append (letter_index letter ∷ []) (letters_in history))
    ∙ append_assoc (reverse (letters_in history)) (letter_index letter ∷ []) (reverse (letters_in ext.0))

-- ---- dictionary order
pub larger_is_later : (before : List ℕ) (x y : ℕ) (xs ys : List ℕ) → y < x → is_before (before ++ x ∷ xs) (before ++ y ∷ ys) ≡ false
larger_is_later [] x y xs ys less = grind (arith, nat_tests, less)
larger_is_later (b ∷ before) x y xs ys less = not_before_rest b (before ++ x ∷ xs) (before ++ y ∷ ys) (larger_is_later before x y xs ys less)

pub smaller_is_before : (before : List ℕ) (x y : ℕ) (xs ys : List ℕ) → y < x → is_before (before ++ y ∷ ys) (before ++ x ∷ xs) ≡ true
smaller_is_before [] x y xs ys less = before_first y x ys xs less
smaller_is_before (b ∷ before) x y xs ys less = before_rest b (before ++ y ∷ ys) (before ++ x ∷ xs) (smaller_is_before before x y xs ys less)

-- ---- games
-- a game that goes on with a later letter does not come before
pub later_letter : (game other : Game) (history : List Event) (letter others : Letter) (ext : Extends (Theirs letter ∷ history) (history_of_game game))
    (ext_other : Extends (Theirs others ∷ history) (history_of_game other)) →
    letter_index letter < letter_index others → comes_before other game ≡ false
later_letter game other history letter others ext ext_other less =
    let before = reverse (letters_in history) in
    let mine = letters_go_on game history letter ext in
    let theirs = letters_go_on other history others ext_other in
    let later : is_before (opponent_letters other) (opponent_letters game) ≡ false =
    (λ i. is_before (theirs i) (mine i)) ∙ larger_is_later before (letter_index others) (letter_index letter) _ _ less in
    let earlier : is_before (opponent_letters game) (opponent_letters other) ≡ true =
    (λ i. is_before (mine i) (theirs i)) ∙ smaller_is_before before (letter_index others) (letter_index letter) _ _ less in
    or_from _ _ later (and_left _ _ (false_from_ne_true _ (λ same.
    let letters = (bytes_eq-Decides (opponent_letters other) (opponent_letters game)).0 same in
    both_ways _ (ap (is_before (opponent_letters game)) letters ∙ not_before_self (opponent_letters game)) earlier)))

-- the deals decide between two games with the same history
pub same_history : (game other : Game) → history_of_game other ≡ history_of_game game → is_before (deal_numbers other.opp) (deal_numbers game.opp) ≡ false →
    comes_before other game ≡ false
same_history game other same later =
    let letters : opponent_letters other ≡ opponent_letters game = letters_of_game other ∙ ap (λ (h : List Event). reverse (letters_in h)) same
    ∙ sym (letters_of_game game) in
    or_from (is_before (opponent_letters other) (opponent_letters game)) _
    (ap (λ (numbers : List ℕ). is_before numbers (opponent_letters game)) letters ∙ not_before_self (opponent_letters game))
    (and_right (bytes_eq (opponent_letters other) (opponent_letters game)) (is_before (deal_numbers other.opp) (deal_numbers game.opp)) later)
