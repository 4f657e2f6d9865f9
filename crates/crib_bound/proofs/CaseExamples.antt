-- Trails, and what is fixed where one leads.
use Rattle.std.proofs.Common.{◌≡◌, [], ◌∷◌, map, refl, ap, ◌∙◌, inl, inr}
use Rattle.crib_cards.specs.declared.letters.Letter.TheVariants.{Seen, Go}
use Rattle.crib_cards.specs.declared.moves.Move.TheVariants as move
use Rattle.crib_play.specs.History.{Own, Theirs}
use Rattle.crib_problem.specs.Setup.{Setup}
use Rattle.crib_players.specs.Players.{own_card}
use Rattle.crib_bound.specs.Private.Cases.{IsAllowedAt, IsAllowedBy, IsTrailOf, digit_of}
use Rattle.crib_bound.specs.declared.path.Fixed.{Fixed}
use Rattle.crib_bound.proofs.Examples.{problem}

-- the ace of clubs, a go, their king, and their go
digits : map digit_of (Own (move.Card 0) ∷ Own move.Go ∷ Theirs (Seen 13) ∷ Theirs Go ∷ []) ≡ 5 ∷ 1 ∷ 28 ∷ 0 ∷ []
digits = refl

-- the owner has led the ace of clubs
abbrev ace_led : Setup
ace_led = record problem { played = own_card 0 ∷ [] }

since_the_opening : IsTrailOf ace_led (28 ∷ []) (Theirs (Seen 13) ∷ Own (move.Card 0) ∷ [])
since_the_opening = refl

the_opening_is_no_part : IsTrailOf ace_led (28 ∷ 5 ∷ []) (Theirs (Seen 13) ∷ Own (move.Card 0) ∷ []) → ⊥
the_opening_is_no_part is = cc

-- after their king a five is fixed
abbrev five : Fixed
five = record { trail = record { items = 28 ∷ [] }; rank = 5 }

only_a_five : IsAllowedAt (five ∷ []) (28 ∷ []) 5 × (IsAllowedAt (five ∷ []) (28 ∷ []) 6 → ⊥)
only_a_five = (
  λ one h there. elim h [ inl same ↦ ap (λ (it : Fixed). it.rank) same | inr none ↦ absurd none ],
  λ allowed. let six : 6 ≡ 5 = allowed five (inl refl) refl in cc,
)

each_elsewhere : IsAllowedAt (five ∷ []) (26 ∷ []) 6
each_elsewhere one h there = elim h [
  | inl same ↦ absurd (let other : 28 ∷ [] ≡ 26 ∷ [] = ap (λ (it : Fixed). it.trail.items) same ∙ there in cc)
  | inr none ↦ absurd none
]

-- 16 is the five of clubs, and 20 the six
five_of_clubs : IsAllowedBy problem (five ∷ []) (Theirs (Seen 13) ∷ []) 16 × (IsAllowedBy problem (five ∷ []) (Theirs (Seen 13) ∷ []) 20 → ⊥)
five_of_clubs = (
  λ one h there. elim h [ inl same ↦ ap (λ (it : Fixed). it.rank) same | inr none ↦ absurd none ],
  λ allowed. let six : 6 ≡ 5 = allowed five (inl refl) refl in cc,
)
