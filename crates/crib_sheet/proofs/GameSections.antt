-- The section of a game, as it is put on a page.
use Rattle.std.proofs.Common.{◌≡◌, ℕ, List, [], ◌∷◌, ◌++◌, map, flat_map, codes, decimal, length, refl, sym, ap, ◌∙◌, append_assoc}
use Rattle.std.specs.List.{join_with_byte}
use Rattle.std.proofs.lemmas.List.{append-nil}
use Rattle.std.proofs.lemmas.List.Folds.{flat_map-map}
use Rattle.crib_cards.specs.CardText.{card_text}
use Rattle.crib_cards.specs.declared.moves.Act.{Act}
use Rattle.crib_text.specs.Spelling.{line_feed, line_text, space}
use Rattle.crib_problem.specs.Spelling.{act_line}
use Rattle.crib_game.specs.declared.section.game.Game.{Game}
use Rattle.crib_game.specs.Spelling.{game_lines, game_text}
use Rattle.crib_run.specs.Pieces.{spaced_cards}

-- a word and cards, with one space between two
pub spaced_is : (word : List ℕ) (cards : List ℕ) → join_with_byte space (word ∷ map card_text cards) ≡ word ++ spaced_cards cards
spaced_is word [] = sym (append-nil word)
spaced_is word (card ∷ cards) = ap (λ (rest : List ℕ). word ++ space ∷ rest) (spaced_is (card_text card) cards)

-- the lines of a game, of which two and the rest are given
abbrev lines_with : List ℕ → List ℕ → List ℕ → List ℕ → List ℕ
lines_with hold throw count acts =
    codes "game 1\n" ++ ((hold ++ line_feed ∷ []) ++ ((throw ++ line_feed ∷ []) ++ (((codes "acts" ++ space ∷ count) ++ line_feed ∷ []) ++ acts)))

apart : (game hold end name throw acts count others : List ℕ) →
    game ++ hold ++ (end ++ name) ++ throw ++ (end ++ acts) ++ count ++ end ++ others
    ≡ game ++ ((hold ++ end) ++ (((name ++ throw) ++ end) ++ (((acts ++ count) ++ end) ++ others)))
apart game hold end name throw acts count others = simp append_assoc

regroup : (hold throw count acts : List ℕ) →
    codes "game 1\nhold" ++ hold ++ codes "\nthrow" ++ throw ++ codes "\nacts " ++ count ++ codes "\n" ++ acts
    ≡ lines_with (codes "hold" ++ hold) (codes "throw" ++ throw) count acts
regroup hold throw count acts = apart (codes "game 1\nhold") hold (codes "\n") (codes "throw") throw (codes "acts ") count acts

game_is : (game : Game) →
    game_text game
    ≡ lines_with (join_with_byte space (codes "hold" ∷ map card_text game.opp.hold)) (join_with_byte space (codes "throw" ∷ map card_text game.opp.throw))
    (decimal (length game.acts.items)) (flat_map line_text (map act_line game.acts.items))
unfolding game_text game_lines
game_is game = refl

pub section_is : (game : Game) (hold throw : List ℕ) (count : ℕ) (acts : List Act) →
    hold ≡ game.opp.hold → throw ≡ game.opp.throw → count ≡ length game.acts.items → acts ≡ game.acts.items →
    codes "game 1\nhold" ++ spaced_cards hold ++ codes "\nthrow" ++ spaced_cards throw ++ codes "\nacts " ++ decimal count ++ codes "\n"
    ++ flat_map (λ (act : Act). line_text (act_line act)) acts ≡ game_text game
section_is game hold throw count acts held thrown counted listed =
    rw (held, thrown, counted, listed)
    (regroup (spaced_cards game.opp.hold) (spaced_cards game.opp.throw) (decimal (length game.acts.items)) _
    ∙ ap (λ (line : List ℕ). lines_with line (codes "throw" ++ spaced_cards game.opp.throw) (decimal (length game.acts.items))
    (flat_map (λ (act : Act). line_text (act_line act)) game.acts.items)) (sym (spaced_is (codes "hold") game.opp.hold))
    ∙ ap (λ (line : List ℕ). lines_with (join_with_byte space (codes "hold" ∷ map card_text game.opp.hold)) line (decimal (length game.acts.items))
    (flat_map (λ (act : Act). line_text (act_line act)) game.acts.items)) (sym (spaced_is (codes "throw") game.opp.throw))
    ∙ ap (lines_with (join_with_byte space (codes "hold" ∷ map card_text game.opp.hold)) (join_with_byte space (codes "throw" ∷ map card_text game.opp.throw))
    (decimal (length game.acts.items))) (sym (flat_map-map line_text act_line game.acts.items))
    ∙ sym (game_is game))
