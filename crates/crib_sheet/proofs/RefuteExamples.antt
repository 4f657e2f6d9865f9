-- Worked examples of games that refute every player, as text, and of what the answers guarantee.
use Rattle.std.proofs.Common.{◌≡◌, ◌≤◌, ◌⊎◌, ◌∙◌, inl, inr, ℕ, List, [], ◌∷◌, ◌++◌, length, Ok, Err, codes, refl, sym, ap, subst, arith}
use Rattle.std.specs.Prelude.{slice_index}
use Rattle.std.specs.Fmt.{digits}
use Rattle.crib_cards.specs.declared.moves.Move.TheVariants.{Card, Go}
use Rattle.crib_cards.specs.declared.sides.Side.TheVariants.{Owner, Opponent}
use Rattle.crib_problem.specs.Setup.{Setup}
use Rattle.crib_problem.proofs.ExampleProblems.{close_to_lost, level, level_deal}
use Rattle.crib_game.proofs.ExampleGames.{game_with}
use Rattle.crib_game.specs.declared.section.game.Game.{Game}
use Rattle.crib_game.specs.Spelling.{game_lines, game_text}
use Rattle.crib_input.specs.Spelled.{SpellsProblem}
use Rattle.crib_input.proofs.EmptyExamples.{no_problem_in_nothing}
use Rattle.crib_sure.specs.Sure.{IsSure}
use Rattle.crib_sure.proofs.ExampleOpening.{ace_or_two, at_29}
use Rattle.crib_players.specs.Players.{IsSurePlayer, Player}
use Rattle.crib_players.specs.Refutations.{Refutes}
use Rattle.crib_run.specs.Reply.{Reply}
use Rattle.crib_run.specs.declared.status.Status.TheVariants.{Yes, No, Refused, Fault}
use Rattle.crib_answer.specs.Meaning.{HasSomePlan}
use Rattle.crib_search.specs.Winnable.{IsWinnable}
use Rattle.crib_why.proofs.Examples.{ace_twice}
use Rattle.crib_why.specs.Answer.{AreBySuit, SomeIsSure}
use Rattle.crib_why.specs.declared.why.Why.TheVariants as why
use Rattle.crib_why_sheet.specs.WhyPlay.{held_with}
use Rattle.crib_why_sheet.specs.WhyRows.{lines_from}
use Rattle.crib_sheet.specs.Meaning.{IsDecidedBySuits, IsRefutedBy, SheetMeans}
use Rattle.crib_sheet.specs.Refute.{WhyTexts, refute_reply, refute_texts, refuted_text, rows_text, suits_line, why_texts}
use Rattle.crib_sheet.specs.Sheet.{AnswersWhy}
use Rattle.crib_sheet.specs.declared.answer.job.SheetJob.TheVariants.{Refute, Why}

-- two games with two acts and with none
abbrev one_go : Game
one_go = record {
  opp = record { hold = 0 ∷ 1 ∷ 2 ∷ 3 ∷ []; throw = 8 ∷ 9 ∷ [] };
  acts = record { items = record { side = Owner; what = Card 4 } ∷ record { side = Opponent; what = Go } ∷ [] };
}

abbrev no_act : Game
no_act = record { opp = record { hold = 4 ∷ 5 ∷ 6 ∷ 7 ∷ []; throw = 8 ∷ 9 ∷ [] }; acts = record { items = [] } }

games_in_text :
    (refuted_text [] ≡ codes "refuted 0\n")
    × (refuted_text (one_go ∷ no_act ∷ [])
    ≡ codes "refuted 2\ngame 1\nhold AC AD AH AS\nthrow 3C 3D\nacts 2\nown 2C\nopp go\n" ++ codes "game 1\nhold 2C 2D 2H 2S\nthrow 3C 3D\nacts 0\n")
unfolding refuted_text game_text game_lines digits
games_in_text = (refl, refl)

texts_of_refute :
    (refute_texts.sure ≡ codes "sure\n") × (refute_texts.suits [] ≡ codes "suits\n") × (refute_texts.suits (11 ∷ []) ≡ codes "suits J\n")
    × (refute_texts.suits (2 ∷ 4 ∷ []) ≡ codes "suits 24\n")
    × (refute_texts.refuted (no_act ∷ one_go ∷ [])
    ≡ codes "refuted 2\ngame 1\nhold 2C 2D 2H 2S\nthrow 3C 3D\nacts 0\n" ++ codes "game 1\nhold AC AD AH AS\nthrow 3C 3D\nacts 2\nown 2C\nopp go\n")
unfolding refuted_text game_text game_lines digits
texts_of_refute = (refl, refl, refl, refl, refl)

texts_of_why : (problem : Setup) →
    ((why_texts problem).sure ≡ codes "Some plan is sure: cribplan solve prints one.\n")
    × ((why_texts problem).suits [] ≡ codes "No plan is sure, since a plan sees no suits. But a player who does is sure.\n")
    × ((why_texts problem).suits (2 ∷ 4 ∷ [])
    ≡ codes "No plan is sure, since a plan sees no suits. But a player who does is sure.\n"
    ++ codes "Look at the suit if they show one of these next: 24\n")
texts_of_why problem = (refl, refl, refl)

-- a game that reads like an earlier one has no row of its own, also if another is between them
abbrev four_aces : Game
four_aces = game_with (record { hold = 0 ∷ 1 ∷ 2 ∷ 3 ∷ []; throw = 18 ∷ 25 ∷ [] }) []

rows_once : rows_text level (game_with level_deal [] ∷ four_aces ∷ game_with level_deal [] ∷ []) ≡ rows_text level (game_with level_deal [] ∷ four_aces ∷ [])
unfolding lines_from held_with
rows_once = refl

replies_of_refute : (A : Type 0) →
    (refute_reply {A = A} why.Sure ≡ record { output = codes "sure\n"; status = Yes })
    × (refute_reply {A = A} (why.BySuits (record { items = 11 ∷ [] })) ≡ record { output = codes "suits J\n"; status = No })
replies_of_refute A = (refl, refl)

three_answers : (texts : WhyTexts) (problem : Setup) (reply : Reply) →
    (IsWinnable problem → reply.output ≡ texts.sure → reply.status ≡ Yes → ⊥) →
    ((games : List Game) → Refutes problem games → length games ≤ 24 → reply.output ≡ texts.refuted games → reply.status ≡ No → ⊥) →
    ((ranks : List ℕ) → ¬ IsWinnable problem → SomeIsSure problem → AreBySuit problem ranks → reply.output ≡ texts.suits ranks → reply.status ≡ No → ⊥) →
    AnswersWhy (λ problem. texts) (Ok problem) reply → ⊥
three_answers texts problem reply sure refuted suits (inl is) = sure is.0 (ap (λ (r : Reply). r.output) is.1) (ap (λ (r : Reply). r.status) is.1)
three_answers texts problem reply sure refuted suits (inr (inl is)) =
    refuted is.0 is.1 is.2 (ap (λ (r : Reply). r.output) is.3) (ap (λ (r : Reply). r.status) is.3)
three_answers texts problem reply sure refuted suits (inr (inr is)) =
    suits is.0 is.1 is.2 is.3 (ap (λ (r : Reply). r.output) is.4) (ap (λ (r : Reply). r.status) is.4)

refused_problem_has_no_games : (reply : Reply) → AnswersWhy why_texts (Err (record { line = 3; number = 21 })) reply →
    reply ≡ record { output = codes "refused line 3: 21\n"; status = Refused }
unfolding digits
refused_problem_has_no_games reply is = is

-- the texts of a sure plan and of a fault, and no other ones. A spelled problem isn't refused
what_refute_means : (input text : List ℕ) (problem : Setup) (some : HasSomePlan input) →
    SheetMeans Refute input (record { output = codes "sure\n"; status = Yes })
    × (SheetMeans Refute input (record { output = codes "sure"; status = Yes }) → ⊥)
    × (SheetMeans Refute input (record { output = codes "ssure\n"; status = Yes }) → ⊥)
    × (SpellsProblem input problem → SheetMeans Refute input (record { output = text; status = Refused }) → ⊥)
    × SheetMeans Why input (record { output = codes "fault 11\n"; status = Fault })
    × (SheetMeans Why input (record { output = codes "fault 50\n"; status = Fault }) → ⊥)
unfolding digits
what_refute_means input text problem some = (
  (some, refl),
  λ is. (let bytes = is.1 in cc),
  λ is. (let byte : 115 ≡ 117 = ap (λ bytes. slice_index bytes 1) is.1 in absurd (omega (arith, byte))),
  λ spelled is. is problem spelled,
  refl,
  λ is. (let digit : 53 ≡ 49 = ap (λ bytes. slice_index bytes 6) is in absurd (omega (arith, digit))),
)

-- neither games nor suits have an empty text
no_line_of_suits : (ranks : List ℕ) → [] ≡ suits_line ranks → ⊥
no_line_of_suits [] is = (let bytes = is in cc)
no_line_of_suits (rank ∷ ranks) is = (let bytes = is in cc)

no_text_of_games : (input : List ℕ) → SheetMeans Refute input (record { output = []; status = No }) → ⊥
unfolding refuted_text
no_text_of_games input (inl is) = (let bytes = is.printed in cc)
no_text_of_games input (inr is) = no_line_of_suits is.ranks is.printed

-- no games, 25 of them, or another text refute nothing; nor do any where a player is sure
wrong_games : (input text : List ℕ) (is : IsRefutedBy (λ problem. refute_texts) input text) →
    ((is.problem ≡ close_to_lost) × (is.games ≡ [])) ⊎ (length is.games ≡ 25) ⊎ ((player : Player) × IsSurePlayer is.problem player)
    ⊎ ((is.games ≡ no_act ∷ []) × (text ≡ codes "refuted 2\n")) → ⊥
unfolding refuted_text digits
wrong_games input text is (inl are) =
    let refutes : Refutes close_to_lost [] = subst (λ games. Refutes close_to_lost games) are.1 (subst (λ setup. Refutes setup is.games) are.0 is.refutes) in
    let first = refutes.some.1 in absurd cc
wrong_games input text is (inr (inl many)) = absurd (omega (arith, is.few, many))
wrong_games input text is (inr (inr (inl somebody))) = is.nobody somebody.0 somebody.1
wrong_games input text is (inr (inr (inr (one, two)))) =
    let digit : 50 ≡ 49 = ap (λ bytes. slice_index bytes 8) (sym two ∙ is.printed ∙ ap refuted_text one) in absurd (omega (arith, digit))

twenty_four_games : (input : List ℕ) (games : List Game) → SpellsProblem input close_to_lost → Refutes close_to_lost games → length games ≡ 24 →
    ((player : Player) → ¬ IsSurePlayer close_to_lost player) → SheetMeans Refute input (record { output = refuted_text games; status = No })
twenty_four_games input games spelled refutes long nobody = inl (record {
  problem = close_to_lost;
  spelled = spelled;
  games = games;
  refutes = refutes;
  few = omega (arith, long);
  nobody = nobody;
  printed = refl;
})

suits_of_jacks : (input : List ℕ) → IsDecidedBySuits (λ problem. refute_texts) input (codes "suits J\n") →
    SheetMeans Refute input (record { output = codes "suits J\n"; status = No })
suits_of_jacks input is = inr is

-- suits decide neither where a plan is sure, nor where every player is refuted, nor after aces twice; and what is said of jacks isn't said of queens
wrong_suits : (input text : List ℕ) (is : IsDecidedBySuits (λ problem. refute_texts) input text) →
    ((is.none.problem ≡ at_29) × IsSure at_29 ace_or_two) ⊎ ((player : Player) → ¬ IsSurePlayer is.none.problem player) ⊎ (is.ranks ≡ 1 ∷ 1 ∷ [])
    ⊎ ((is.ranks ≡ 11 ∷ []) × (text ≡ codes "suits Q\n")) → ⊥
wrong_suits input text is (inl (same, sure)) = subst (λ setup. ¬ IsWinnable setup) same is.none.none (record { plan = ace_or_two; sure = sure })
wrong_suits input text is (inr (inl nobody)) = nobody is.somebody.0 is.somebody.1
wrong_suits input text is (inr (inr (inl twice))) = ace_twice is.none.problem (subst (λ ranks. AreBySuit is.none.problem ranks) twice is.right)
wrong_suits input text is (inr (inr (inr (jacks, queens)))) =
    let letter : 81 ≡ 74 = ap (λ bytes. slice_index bytes 6) (sym queens ∙ is.printed ∙ ap refute_texts.suits jacks) in absurd (omega (arith, letter))

nothing_is_no_problem : (text : List ℕ) → SheetMeans Refute [] (record { output = text; status = No }) → ⊥
nothing_is_no_problem text (inl is) = no_problem_in_nothing is.problem is.spelled
nothing_is_no_problem text (inr is) = no_problem_in_nothing is.none.problem is.none.spelled
