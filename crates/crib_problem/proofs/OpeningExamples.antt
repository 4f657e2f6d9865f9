-- Worked examples of openings, held against the rules: tens and small clubs lead. Both scores are 0 unless an example says otherwise. A card is a number below
-- 52: 36 is TC, 37 is TD, 32 is 9C.
use Rattle.std.specs.Prelude.{◌≡◌, refl, true, false, [], ◌∷◌, ℕ, List, Option, Some, None, map, reverse}
use Rattle.crib_cards.specs.Sets.{set_where}
use Rattle.crib_cards.specs.declared.sides.Side.TheVariants.{Owner, Opponent}
use Rattle.crib_cards.specs.declared.moves.Act.{Act}
use Rattle.crib_cards.specs.declared.moves.Move.TheVariants.{Card, Go}
use Rattle.crib_play.specs.declared.turns.Turn.TheVariants as turns
use Rattle.crib_problem.specs.Played.{AreAllowed, OpeningBasis, act_refusal, asked_by, cards_by, cards_played, count_by_acts, least_by, move_refusal}
use Rattle.crib_problem.specs.Played.{cards_with, own_left_by, seen_by, shows_seen, turn_refusal}
use Rattle.crib_problem.proofs.ExampleProblems.{plays, says_go}

-- the owner holds TC 9C 2C 8C and threw 4S 6S; the starter is 3H, the opponent deals and is at the given score, and the goal is to win
abbrev basis_at : ℕ → OpeningBasis
basis_at score = record {
  start = record { dealer = Opponent; scores = record { owner = 0; opponent = score }; target = 121 };
  hold = 36 ∷ 32 ∷ 4 ∷ 28 ∷ [];
  known = 10 ∷ 36 ∷ 32 ∷ 4 ∷ 28 ∷ 15 ∷ 23 ∷ [];
}

abbrev own : ℕ → Act
own = plays Owner

abbrev theirs : ℕ → Act
theirs = plays Opponent

-- the refusal of each of some acts after others, if there is one; here the acts have the first one first
abbrev refusals : OpeningBasis → List Act → List Act → List (Option ℕ)
refusals basis acts tried = map (act_refusal basis (reverse acts)) tried

-- TC TD 9C make the count 29, and AD makes it 30
abbrev at_29 : List Act
at_29 = own 36 ∷ theirs 37 ∷ own 32 ∷ []

abbrev at_30 : List Act
at_30 = own 36 ∷ theirs 37 ∷ own 32 ∷ theirs 1 ∷ []

-- after TC TD 9C, a go, 2C and KD
abbrev to_the_king : List Act
to_the_king = reverse (own 36 ∷ theirs 37 ∷ own 32 ∷ says_go Opponent ∷ own 4 ∷ theirs 49 ∷ [])

-- the cards of each side, the last one first. Only 8C is left to the owner, who has seen the starter, the throw, and all that was played, so also the first
-- card. After a go at 29, each card left to the opponent counts 3 or more
pub after_the_king :
    (cards_by Opponent to_the_king ≡ 49 ∷ 37 ∷ []) × (cards_by Owner to_the_king ≡ 4 ∷ 32 ∷ 36 ∷ [])
    × (cards_played to_the_king ≡ 49 ∷ 4 ∷ 32 ∷ 37 ∷ 36 ∷ [])
    × (map (own_left_by (basis_at 0)) (to_the_king ∷ (own 32 ∷ theirs 37 ∷ own 36 ∷ []) ∷ []) ≡ (28 ∷ []) ∷ (4 ∷ 28 ∷ []) ∷ [])
    × (map (seen_by (basis_at 0)) (to_the_king ∷ (says_go Owner ∷ theirs 37 ∷ own 36 ∷ []) ∷ (theirs 0 ∷ []) ∷ [])
    ≡ (4 ∷ 10 ∷ 15 ∷ 23 ∷ 28 ∷ 32 ∷ 36 ∷ 37 ∷ 49 ∷ []) ∷ (4 ∷ 10 ∷ 15 ∷ 23 ∷ 28 ∷ 32 ∷ 36 ∷ 37 ∷ []) ∷ (0 ∷ 4 ∷ 10 ∷ 15 ∷ 23 ∷ 28 ∷ 32 ∷ 36 ∷ []) ∷ [])
    × (count_by_acts (basis_at 0) to_the_king ≡ 10) × (asked_by (basis_at 0) to_the_king ≡ turns.Owner)
    × (least_by (basis_at 0) (reverse (own 36 ∷ theirs 37 ∷ own 32 ∷ says_go Opponent ∷ [])) ≡ 3)
unfolding set_where
after_the_king = (refl, refl, refl, refl, refl, refl, refl, refl)

-- The other side's turn (44) comes before a card that is not held (41): the opponent's TD at the first lead, and the owner's KD after TC. A card that was seen
-- (20) comes before the other side's turn. The cards thrown are not held, and neither they nor the starter can be the opponent's. A card that was played is
-- not held any more, and it cannot be the opponent's
pub refusals_of_cards :
    (refusals (basis_at 0) [] (theirs 37 ∷ theirs 36 ∷ own 15 ∷ []) ≡ Some 44 ∷ Some 20 ∷ Some 41 ∷ [])
    × (refusals (basis_at 0) (own 36 ∷ []) (own 49 ∷ theirs 15 ∷ theirs 10 ∷ []) ≡ Some 44 ∷ Some 20 ∷ Some 20 ∷ [])
    × (refusals (basis_at 0) (own 36 ∷ theirs 37 ∷ []) (own 36 ∷ []) ≡ Some 41 ∷ [])
    × (refusals (basis_at 0) (own 36 ∷ theirs 37 ∷ own 4 ∷ []) (theirs 37 ∷ []) ≡ Some 20 ∷ [])
unfolding set_where
refusals_of_cards = (refl, refl, refl, refl)

-- At 29 it is not the owner's turn, and a king does not fit. After the opponent's go the owner may not say go while his 2C fits; it makes 31. Then the opponent
-- leads: no hidden deal lets him show 2D after his go at 29, and 3C may be his. At 30 neither 2C nor 8C fits, so the owner may say go. At 21, after 9C 2D TC,
-- each card fits, so no hidden deal lets the opponent say go; at 22, after TC JD 2C, no ten fits, so he may. In the last row KD 8C KH make 28 after the 31: the
-- owner holds no card, so his go is silent, and the opponent says his
pub refusals_by_the_count :
    (refusals (basis_at 0) at_29 (says_go Owner ∷ theirs 49 ∷ []) ≡ Some 44 ∷ Some 42 ∷ [])
    × (refusals (basis_at 0) (own 36 ∷ theirs 37 ∷ own 32 ∷ says_go Opponent ∷ []) (says_go Owner ∷ own 4 ∷ []) ≡ Some 43 ∷ None ∷ [])
    × (refusals (basis_at 0) (own 36 ∷ theirs 37 ∷ own 32 ∷ says_go Opponent ∷ own 4 ∷ []) (theirs 5 ∷ theirs 8 ∷ []) ≡ Some 23 ∷ None ∷ [])
    × (refusals (basis_at 0) at_30 (says_go Owner ∷ own 28 ∷ []) ≡ None ∷ Some 42 ∷ [])
    × (refusals (basis_at 0) (own 32 ∷ theirs 5 ∷ own 36 ∷ []) (says_go Opponent ∷ []) ≡ Some 23 ∷ [])
    × (refusals (basis_at 0) (own 36 ∷ theirs 41 ∷ own 4 ∷ []) (says_go Opponent ∷ []) ≡ None ∷ [])
    × (refusals (basis_at 0) (own 36 ∷ theirs 37 ∷ own 32 ∷ says_go Opponent ∷ own 4 ∷ theirs 49 ∷ own 28 ∷ theirs 50 ∷ []) (says_go Opponent ∷ []) ≡ None ∷ [])
unfolding set_where
refusals_by_the_count = (refl, refl, refl, refl, refl, refl, refl)

-- The opponent is at 118: he pegs 2 for the pair of tens, and the close after two gos at 30 takes him to hole 121. Once the deal is done it is nobody's turn.
-- 3C 9D 3D make 15 for the owner; the opponent is at 119, and this is no pair for him. In the last row the owner deals, and the first card that the opponent
-- showed can't be shown again
pub refusals_by_the_end :
    (refusals (basis_at 118) (own 36 ∷ theirs 37 ∷ own 32 ∷ theirs 1 ∷ says_go Owner ∷ []) (says_go Opponent ∷ []) ≡ Some 24 ∷ [])
    × (refusals (basis_at 117) (own 36 ∷ theirs 37 ∷ own 32 ∷ theirs 1 ∷ says_go Owner ∷ []) (says_go Opponent ∷ []) ≡ None ∷ [])
    × (refusals (basis_at 118) (own 36 ∷ theirs 37 ∷ own 32 ∷ theirs 1 ∷ says_go Owner ∷ says_go Opponent ∷ []) (own 28 ∷ []) ≡ Some 44 ∷ [])
    × (refusals (record (basis_at 119) { hold = 8 ∷ 9 ∷ 4 ∷ 28 ∷ []; known = 49 ∷ 8 ∷ 9 ∷ 4 ∷ 28 ∷ 15 ∷ 23 ∷ [] }) (own 8 ∷ theirs 33 ∷ [])
    (own 9 ∷ []) ≡ None ∷ [])
    × (refusals (record (basis_at 0) { start = record ((basis_at 0).start) { dealer = Owner } }) (theirs 37 ∷ own 4 ∷ []) (theirs 37 ∷ []) ≡ Some 20 ∷ [])
unfolding set_where
refusals_by_the_end = (refl, refl, refl, refl, refl)

-- the dealer may not lead
pub dealer_leads_not : AreAllowed (basis_at 0) (theirs 37 ∷ []) → ⊥
unfolding set_where
dealer_leads_not are = (let refused = are.1 in cc)

-- nor is it allowed afterwards: the first act that is refused makes an opening not allowed, also if the next one is fine
pub dealer_has_led : AreAllowed (basis_at 0) (own 36 ∷ theirs 37 ∷ []) → ⊥
dealer_has_led are = dealer_leads_not are.0

-- what the opponent has shown is kept as it was played, also what is alike
pub before_cards : map (λ what. cards_with what (7 ∷ 4 ∷ 7 ∷ [])) (Card 5 ∷ Go ∷ []) ≡ (5 ∷ 7 ∷ 4 ∷ 7 ∷ []) ∷ (7 ∷ 4 ∷ 7 ∷ []) ∷ []
before_cards = refl

-- A king counts ten: it is no card that counts eleven or more. A card of the opponent is held against the count (42) before it is held against the opponent's
-- gos (23). The opponent's go is refused up to 21
pub moves_of_the_opponent :
    move_refusal 0 [] 11 Opponent (Card 49) ∷ move_refusal 30 [] 5 Opponent (Card 4) ∷ move_refusal 29 [] 5 Opponent (Card 4) ∷
    move_refusal 26 [] 5 Opponent (Card 16) ∷ move_refusal 21 [] 1 Opponent Go ∷ move_refusal 22 [] 1 Opponent Go ∷ []
    ≡ Some 23 ∷ Some 42 ∷ Some 23 ∷ None ∷ Some 23 ∷ None ∷ []
moves_of_the_opponent = refl

-- a card of the owner is held (41) before it fits (42), and the greatest count is 31. One card that fits is enough to refuse the owner's go
pub moves_of_the_owner :
    (map (λ count. move_refusal count (28 ∷ 4 ∷ []) 1 Owner (Card 4) ∷ move_refusal count (28 ∷ 4 ∷ []) 1 Owner Go ∷ []) (29 ∷ 30 ∷ [])
    ≡ (None ∷ Some 43 ∷ []) ∷ (Some 42 ∷ None ∷ []) ∷ [])
    × (move_refusal 30 (28 ∷ 4 ∷ []) 1 Owner (Card 5) ∷ move_refusal 0 [] 1 Owner Go ∷ [] ≡ Some 41 ∷ None ∷ [])
moves_of_the_owner = (refl, refl)

-- only a card of the opponent can be one that was seen
pub seen_cards_shown : map (shows_seen (4 ∷ 10 ∷ 36 ∷ []) Opponent) (Card 4 ∷ Card 10 ∷ Card 36 ∷ Card 5 ∷ Go ∷ []) ∷
    map (shows_seen (4 ∷ 10 ∷ 36 ∷ []) Owner) (Card 4 ∷ Go ∷ []) ∷ []
    ≡ (true ∷ true ∷ true ∷ false ∷ false ∷ []) ∷ (false ∷ false ∷ []) ∷ []
seen_cards_shown = refl

-- the refusal of an act: a card that was seen, the other side's turn, and then the move; and none where the deal is done and nobody is asked
pub refusals_in_order :
    (map (turn_refusal (36 ∷ []) turns.Owner 29 (4 ∷ []) 1) (theirs 36 ∷ theirs 37 ∷ own 36 ∷ own 4 ∷ []) ≡ Some 20 ∷ Some 44 ∷ Some 41 ∷ None ∷ [])
    × (turn_refusal (36 ∷ []) turns.Over 29 (4 ∷ []) 1 (own 4) ≡ Some 44)
refusals_in_order = (refl, refl)
