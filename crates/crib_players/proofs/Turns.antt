-- The first acts of a game.
use Rattle.std.proofs.Common.{◌≡◌, ℕ, zero, suc, ◌+◌, ◌≤◌, List, [], ◌∷◌, ◌++◌, length, reverse, take, refl, sym, ap, ◌∙◌, arith}
use Rattle.std.specs.Prelude.{Some, slice_get}
use Rattle.std.proofs.lemmas.List.{reverse-append, reverse-reverse, take_at}
use Rattle.std.proofs.lemmas.Option.{slice_get_within, get_or_from_slice_get}
use Rattle.crib_cards.specs.declared.moves.Act.{Act}
use Rattle.crib_problem.specs.Setup.{Setup, played_back, BeginsAsPlayed}
use Rattle.crib_problem.proofs.HonestTurns.{reverse_more}
use Rattle.crib_game.specs.declared.section.game.Game.{Game}
use Rattle.crib_game.specs.Replay.{acts_back}
use Rattle.crib_players.specs.Refutations.{acts_before}

record IsFront (front whole : List Act) : Type 0 where
  rest : List Act
  parts : whole ≡ front ++ rest

front_kept : (front rest : List Act) (n : ℕ) → length front ≤ n → IsFront front (take n (front ++ rest))
front_kept [] rest n enough = record { rest = take n rest; parts = refl }
front_kept (act ∷ front) rest zero enough = absurd (omega (arith, enough))
front_kept (act ∷ front) rest (suc n) enough =
    let kept = front_kept front rest n (omega (arith, enough)) in record { rest = kept.rest; parts = ap (λ (acts : List Act). act ∷ acts) kept.parts }

module _ (game : Game) where
  pub one_more : (turn : ℕ) (act : Act) → slice_get game.acts.items turn ≡ Some act → acts_before game (turn + 1) ≡ act ∷ acts_before game turn
  one_more turn act is =
      reverse_more game.acts.items turn act (slice_get_within game.acts.items turn act is) (sym (get_or_from_slice_get game.acts.items turn act act is))

  module _ (problem : Setup) (begins : BeginsAsPlayed problem (acts_back game)) where
    opening_first : IsFront problem.played game.acts.items
    opening_first = record {
      rest = reverse begins.later;
      parts = sym (reverse-reverse game.acts.items) ∙ ap reverse begins.parts ∙ reverse-append begins.later (played_back problem)
          ∙ ap (λ (front : List Act). front ++ reverse begins.later) (reverse-reverse problem.played);
    }

    pub opening_before : acts_before game (length problem.played) ≡ played_back problem
    opening_before =
        ap (λ (acts : List Act). reverse (take (length problem.played) acts)) opening_first.parts
        ∙ ap reverse (take_at problem.played opening_first.rest (length problem.played) refl)

    pub begins_before : (turn : ℕ) → length problem.played ≤ turn → BeginsAsPlayed problem (acts_before game turn)
    begins_before turn late =
        let kept = front_kept problem.played opening_first.rest turn late in
        record {
          later = reverse kept.rest;
          parts = ap (λ (acts : List Act). reverse (take turn acts)) opening_first.parts ∙ ap reverse kept.parts ∙ reverse-append problem.played kept.rest;
        }
