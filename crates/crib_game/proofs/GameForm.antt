-- The form of a game: what is read is spelled so, and what is spelled so is read. The laws of its spelling follow.
use Rattle.std.proofs.Common.{◌≡◌, ℕ, ◌+◌, ◌*◌, true, List, ◌∷◌, length, map, codes, refl, sym, ap, ◌∙◌, arith}
use Rattle.std.specs.List.{AllByRecursion}
use Rattle.std.proofs.lemmas.List.{append-nil, length-map}
use Rattle.crib_cards.specs.Cards.{IsCard}
use Rattle.crib_cards.specs.CardText.{card_text}
use Rattle.crib_text.proofs.SpellingLemmas.{is_word}
use Rattle.crib_text.proofs.Forms.{AreWordsForm, IsForm, keyword_form, each_form, header_form, line_form, each_line_form, none_form, then_form, form_as}
use Rattle.crib_problem.specs.Spelling.{act_line}
use Rattle.crib_problem.proofs.CardLemmas.{all_parts, all-append}
use Rattle.crib_problem.proofs.ActForms.{card_form, act_form, count_form}
use Rattle.crib_game.specs.declared.section.game.Game.{Game}
use Rattle.crib_game.specs.Spelling.{IsGame, game_lines}
use Rattle.crib_game.specs.Reading.{cards_in_line, game_at}

cards_form : (keyword : List ℕ) (count : ℕ) → is_word keyword ≡ true → AreWordsForm (cards_in_line keyword count) (λ cards. keyword ∷ map card_text cards)
    (λ cards. (length (map card_text cards) ≡ count) × AllByRecursion IsCard cards) (λ cards. length keyword + 1 + 3 * length cards)
unfolding cards_in_line
cards_form keyword count is_keyword = keyword_form keyword count is_keyword (each_form card_form)

-- 44 bytes for four lines, and 7 for each of at most 32 acts
pub game_form : IsForm game_at game_lines IsGame (λ game. 268)
unfolding game_at game_lines
game_form =
    form_as (
    then_form _ (λ _. tt) (line_form (header_form (codes "game") refl) (λ _. refl)) (λ header.
    then_form _ (λ (game : Game). game.opp.hold) (line_form (cards_form (codes "hold") 4 refl) (λ _. refl)) (λ hold.
    then_form _ (λ (game : Game). game.opp.throw) (line_form (cards_form (codes "throw") 2 refl) (λ _. refl)) (λ thrown.
    then_form _ (λ (game : Game). length game.acts.items) (line_form (count_form (codes "acts") refl) (λ _. refl)) (λ count.
    then_form _ (λ (game : Game). game.acts.items) (each_line_form act_form (λ _. refl) count) (λ acts.
    none_form (record { opp = record { hold = hold; throw = thrown }; acts = record { items = acts } }))
    (λ acts game is are. ap (λ (g : Game). g.acts.items) are))
    (λ count game is are. are.0.0))
    (λ thrown game is are. ap (λ (g : Game). g.opp.throw) are.1.1))
    (λ hold game is are. ap (λ (g : Game). g.opp.hold) are.1.1.1))
    (λ header game is are. refl))
    (λ game is. record {
      six = record {
        held = sym (length-map game.opp.hold card_text) ∙ is.1.0.0;
        thrown = sym (length-map game.opp.throw card_text) ∙ is.1.1.0.0;
        cards = all-append game.opp.hold game.opp.throw is.1.0.1 is.1.1.0.1;
      };
      few = is.1.1.1.0;
      moves = is.1.1.1.1.0.1;
    })
    (λ game is.
    let cards = all_parts game.opp.hold game.opp.throw is.six.cards in
    let held = length-map game.opp.hold card_text ∙ is.six.held in
    let thrown = length-map game.opp.throw card_text ∙ is.six.thrown in
    assumption (cards, held, thrown))
    (λ game is. rw (append-nil (map act_line game.acts.items)) refl) (λ game is. omega (arith, is.six.held, is.six.thrown, is.few))
