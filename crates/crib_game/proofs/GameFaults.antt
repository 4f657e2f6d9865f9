-- A game is refused unless its cards are a deal and its acts are the visible turns of a legal record.
use Rattle.std.proofs.Common.{◌≡◌, ℕ, ◌+◌, ◌≤◌, true, false, not, List, [], ◌∷◌, ◌++◌, length, Option, Some, None, Ok}
use Rattle.std.proofs.Common.{refl, sym, ap, subst, ◌∙◌, arith}
use Rattle.std.specs.List.{list_all}
use Rattle.std.specs.Option.{option_or}
use Rattle.std.proofs.lemmas.Bool.{not-true}
use Rattle.std.proofs.lemmas.Bool.Decides.{nat_tests}
use Rattle.crib_cards.specs.Cards.{IsCard}
use Rattle.crib_cards.specs.Deals.{six_cards}
use Rattle.crib_cards.specs.Sets.{has, are_distinct}
use Rattle.crib_cards.specs.Start.{Start, pone_of, Hands}
use Rattle.crib_cards.specs.declared.sides.Dealt.{Dealt}
use Rattle.crib_cards.proofs.SetLemmas.{has-set_where}
use Rattle.crib_cards.specs.declared.moves.Move.{Move}
use Rattle.crib_cards.specs.declared.moves.Act.{Act}
use Rattle.crib_cards.proofs.SetFacts.{in_set_where}
use Rattle.crib_play.specs.History.{moves_of, filled_moves}
use Rattle.crib_play.proofs.LegalRecords.{legal_filled}
use Rattle.crib_play.proofs.CardLemmas.{has-filter}
use Rattle.crib_problem.specs.Setup.{Setup, IsSetup, known_cards, start_of, hands_of, unseen_of, played_back, fixed_cards, BeginsAsPlayed}
use Rattle.crib_problem.specs.Played.{cards_by}
use Rattle.crib_cards.specs.Deals.{IsDeal}
use Rattle.crib_cards.specs.declared.sides.Side.{Side}
use Rattle.crib_cards.specs.declared.sides.Side.TheVariants.{Owner, Opponent}
use Rattle.crib_cards.specs.declared.moves.Move.TheVariants as move
use Rattle.std.proofs.lemmas.List.{length-reverse}
use Rattle.crib_play.specs.Record.{mover}
use Rattle.crib_play.specs.Legal.{letters_of, cards_of, MayTake}
use Rattle.crib_game.specs.declared.fault.GameFault.{GameFault}
use Rattle.crib_game.specs.declared.section.game.Game.{Game}
use Rattle.crib_game.specs.Replay.{Judge, by_rules, first_seen, deal_fault, act_fault, acts_fault, few_fault, acts_back, game_fault_by, game_fault}
use Rattle.crib_game.specs.Replay.{record_of, unless_fault, IsRecordOf}
use Rattle.crib_game.specs.Laws.{NoneStrays}
use Rattle.crib_game.specs.Spelling.{AreSixCards}
use Rattle.crib_game.proofs.ActFaults.{cond_none, option_or_none, act_right, legal_acts, acts_filled, acts_stay, no_fault}
use Rattle.crib_game.proofs.OpeningActs.{AreAsPlayed, enough_begin, begin_played, none_from, none_to}
use Rattle.crib_problem.proofs.CardLemmas.{all_parts}
use Rattle.crib_game.proofs.JudgeLemmas.{AreCards}
use Rattle.crib_cards.proofs.Members.{has_here, has_there, all_has, all_from, distinct_parts}
use Rattle.crib_problem.proofs.StartLemmas.{each_has, started, hands_dealt}

-- ---- cards that are all different and not known
-- no card of a list is known or the same as an earlier one
abbrev AreNew : List ℕ → List ℕ → Type 0
AreNew known cards = (card : ℕ) → has cards card ≡ true → has known card ≡ false

not_here : (known cards : List ℕ) (card : ℕ) → AreNew (card ∷ known) cards → has cards card ≡ false
not_here known cards card new = grind (arith, nat_tests, new card)

pub new_distinct : (known cards : List ℕ) (number : ℕ) → first_seen known number cards ≡ None → AreNew known cards × (are_distinct cards ≡ true)
new_distinct known [] number e = ((λ card is. cc), refl)
new_distinct known (card ∷ cards) number e =
    let parts = cond_none (has known card) number (first_seen (card ∷ known) (number + 1) cards) e in
    let later = new_distinct (card ∷ known) cards (number + 1) parts.1 in
    let once = not_here known cards card later.0 in
    (λ other is. grind (arith, nat_tests, is, parts.0, later.0 other), grind (arith, once, later.1))

pub none_seen : (known cards : List ℕ) (number : ℕ) → AreNew known cards → are_distinct cards ≡ true → first_seen known number cards ≡ None
none_seen known [] number new distinct = refl
none_seen known (card ∷ cards) number new distinct =
    let parts = distinct_parts card cards distinct in
    rw (new card (has_here card cards))
    (none_seen (card ∷ known) cards (number + 1) (λ other is. grind (arith, nat_tests, is, parts.0, new other (has_there card other cards is))) parts.1)

-- ---- deals
pub deal_is : (problem : Setup) (dealt : Dealt) → AreSixCards dealt → first_seen (known_cards problem) 1 (six_cards dealt) ≡ None →
    IsDeal (unseen_of problem) dealt
deal_is problem dealt six none =
    let known = known_cards problem in
    let parts = new_distinct known (six_cards dealt) 1 none in
    record {
      held = six.held;
      thrown = six.thrown;
      distinct = parts.1;
      hidden_before = all_from (has (unseen_of problem)) (six_cards dealt)
          (λ card is. has-set_where (λ other. not (has known other)) card (each_has IsCard (six_cards dealt) card six.cards is) ∙ ap not (parts.0 card is));
    }

pub deal_unseen : (problem : Setup) (dealt : Dealt) → IsDeal (unseen_of problem) dealt → first_seen (known_cards problem) 1 (six_cards dealt) ≡ None
deal_unseen problem dealt is =
    let known = known_cards problem in
    none_seen known (six_cards dealt) 1
    (λ card held. not-true (has known card)
    (in_set_where (λ other. not (has known other)) card (all_has (has (unseen_of problem)) (six_cards dealt) card is.hidden_before held)).1)
    is.distinct

pub hands_are : (problem : Setup) (dealt : Dealt) → IsSetup problem → AreSixCards dealt → AreCards (hands_of problem dealt)
hands_are problem dealt is six = record {
  owner = (all_parts problem.hold problem.thrown is.cards.1).0;
  opponent = (all_parts dealt.hold dealt.throw six.cards).0;
}

-- ---- a game
pub first_seen_none : (number : Option ℕ) → deal_fault number ≡ None → number ≡ None
first_seen_none number e = grind arith

pub no_fault_in_acts : (judge : Judge) (problem : Setup) (game : Game) → first_seen (known_cards problem) 1 (six_cards game.opp) ≡ None →
    acts_fault judge (start_of problem) (hands_of problem game.opp) (acts_back game) ≡ None →
    game_fault_by judge problem game ≡ few_fault problem.played game.acts.items
no_fault_in_acts judge problem game none clear = rw (none, clear) refl

-- there are enough acts, or too few
pub enough_acts : (played acts : List Act) → length played ≤ length acts → few_fault played acts ≡ None
enough_acts played acts enough = grind (arith, nat_tests)

pub acts_enough : (played acts : List Act) → few_fault played acts ≡ None → length played ≤ length acts
acts_enough played acts e = grind (arith, nat_tests, e)

-- the answer without a refusal
pub accepted_is : {A : Type 0} (found : Option GameFault) (given value : A) → found ≡ None → given ≡ value → Ok given ≡ unless_fault found value
accepted_is found given value e is = ap Ok is ∙ ap (λ (f : Option GameFault). unless_fault f value) (sym e)

-- what holds for a game that is not refused
pub record IsClear (judge : Judge) (problem : Setup) (game : Game) : Type 0 where
  pub unseen : first_seen (known_cards problem) 1 (six_cards game.opp) ≡ None
  pub acts : acts_fault judge (start_of problem) (hands_of problem game.opp) (acts_back game) ≡ None
  pub enough : length problem.played ≤ length (acts_back game)

pub clear_parts : (judge : Judge) (problem : Setup) (game : Game) → game_fault_by judge problem game ≡ None → IsClear judge problem game
clear_parts judge problem game e =
    let first = first_seen (known_cards problem) 1 (six_cards game.opp) in
    let acts = acts_fault judge (start_of problem) (hands_of problem game.opp) (acts_back game) in
    let parts = option_or_none (deal_fault first) (option_or acts (few_fault problem.played game.acts.items)) e in
    let rest = option_or_none acts (few_fault problem.played game.acts.items) parts.1 in
    let enough = acts_enough problem.played game.acts.items rest.1 in
    let long = length-reverse game.acts.items in
    record { unseen = first_seen_none first parts.0; acts = rest.0; enough = omega (arith, enough, long) }

-- if no act is refused, the opponent's cards among the acts are of his hold
theirs_held : (judge : Judge) (start : Start) (hands : Hands) (acts : List Act) → acts_fault judge start hands acts ≡ None → (card : ℕ) →
    has (cards_by Opponent acts) card ≡ true → has hands.opponent card ≡ true
theirs_held judge start hands [] e card h = absurd (let no : false ≡ true = h in cc)
theirs_held judge start hands (act ∷ before) e card h =
    let past = filled_moves start (moves_of before) in
    let parts = option_or_none (acts_fault judge start hands before) (act_fault judge start hands act past (length before + 1)) e in
    let right = act_right judge start hands act past (length before + 1) parts.1 in
    by_act (mover (pone_of start) (letters_of past)) act.side act.what right.side right.may.may_take (theirs_held judge start hands before parts.0 card) h
  where
    by_act : (who side : Side) (what : Move) → side ≡ who → MayTake hands who what (filled_moves start (moves_of before)) →
        (has (cards_by Opponent before) card ≡ true → has hands.opponent card ≡ true) → has (cards_by Opponent (record { side = side; what = what } ∷ before))
        card ≡ true → has hands.opponent card ≡ true
    by_act who Owner what is may rest k = rest k
    by_act who Opponent move.Go is may rest k = rest k
    by_act who Opponent (move.Card first) is may rest k =
        let T : Side → Type 0 = λ side. MayTake hands side (move.Card first) (filled_moves start (moves_of before)) in
        let held = has-filter (λ c. not (has (cards_of (filled_moves start (moves_of before))) c)) hands.opponent first (subst T (sym is) may).0 in
        grind (arith, nat_tests, k, rest, held)

cards_more : (later before : List Act) (card : ℕ) → has (cards_by Opponent before) card ≡ true → has (cards_by Opponent (later ++ before)) card ≡ true
cards_more [] before card h = h
cards_more (act ∷ later) before card h = grind (arith, nat_tests, cards_more later before card h)

fixed_held : (judge : Judge) (problem : Setup) (game : Game) → acts_fault judge (start_of problem) (hands_of problem game.opp) (acts_back game) ≡ None →
    BeginsAsPlayed problem (acts_back game) →
    list_all (has game.opp.hold) (fixed_cards problem) ≡ true
fixed_held judge problem game e begins =
    all_from (has game.opp.hold) (fixed_cards problem)
    (λ card h. theirs_held judge (start_of problem) (hands_of problem game.opp) (acts_back game) e card
    (ap (λ (acts : List Act). has (cards_by Opponent acts) card) begins.parts ∙ cards_more begins.later (played_back problem) card h))

-- if a game is not refused, its filled record is a record of it
pub record_is : (judge : Judge) (problem : Setup) (game : Game) → IsSetup problem → AreSixCards game.opp →
    ((played : List Move) → NoneStrays judge (pone_of (start_of problem)) played → NoneStrays (by_rules problem) (pone_of (start_of problem)) played) →
    game_fault_by judge problem game ≡ None → IsRecordOf problem game (record_of problem game)
record_is judge problem game is six plays e =
    let start = start_of problem in
    let hands = hands_of problem game.opp in
    let clear = clear_parts judge problem game e in
    let deal = deal_is problem game.opp six clear.unseen in
    let dealt = hands_dealt problem is game.opp deal in
    let filled = acts_filled judge start hands (acts_back game) (started problem is) dealt clear.acts in
    let A : List Act → Type 0 = λ acts. AreAsPlayed problem.played acts in
    let as_played = subst A filled (none_to problem (record_of problem game)
    (plays (record_of problem game) (acts_stay judge start hands (acts_back game) clear.acts))) in
    let begins = enough_begin problem (acts_back game) as_played clear.enough in
    record {
      deal = record { deal = deal; fixed = fixed_held judge problem game clear.acts begins };
      legal = legal_filled start hands (moves_of (acts_back game)) dealt (legal_acts judge start hands (acts_back game) clear.acts);
      acts = filled;
      begins = begins;
    }

-- if a game has a legal record without remarks, it is not refused
pub no_fault_by : (judge : Judge) (problem : Setup) (game : Game) (played : List Move) → IsSetup problem → IsRecordOf problem game played →
    NoneStrays judge (pone_of (start_of problem)) played → game_fault_by judge problem game ≡ None
no_fault_by judge problem game played is of stays =
    let start = start_of problem in
    let hands = hands_of problem game.opp in
    let none = deal_unseen problem game.opp of.deal.deal in
    let dealt = hands_dealt problem is game.opp of.deal.deal in
    let enough = (begin_played problem (acts_back game) of.begins).1 in
    let long = length-reverse game.acts.items in
    no_fault_in_acts judge problem game none
    (ap (acts_fault judge start hands) (sym of.acts) ∙ no_fault judge start hands played (started problem is) dealt of.legal stays)
    ∙ enough_acts problem.played game.acts.items (omega (arith, enough, long))

-- there is no remark on a record of the game by the opening alone
pub none_remarked : (problem : Setup) (game : Game) (played : List Move) → IsRecordOf problem game played →
    NoneStrays (by_rules problem) (pone_of (start_of problem)) played
none_remarked problem game played of =
    let A : List Act → Type 0 = λ acts. AreAsPlayed problem.played acts in
    none_from problem played (subst A (sym of.acts) (begin_played problem (acts_back game) of.begins).0)

pub no_fault_is : (problem : Setup) (game : Game) (played : List Move) → IsSetup problem → IsRecordOf problem game played → game_fault problem game ≡ None
no_fault_is problem game played is of = no_fault_by (by_rules problem) problem game played is of (none_remarked problem game played of)

pub not_recorded : (problem : Setup) (game : Game) (fault : GameFault) → IsSetup problem → game_fault problem game ≡ Some fault → (played : List Move) →
    IsRecordOf problem game played → ⊥
not_recorded problem game fault is e played of = let both : Some fault ≡ None = sym e ∙ no_fault_is problem game played is of in cc
