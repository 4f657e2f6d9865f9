-- Worked examples of deals that beat a player, and of what a strategy of the opponent is made of. The opponent needs two holes, and pairs the ace that the
-- owner leads.
use Rattle.std.proofs.Common.{◌≡◌, ℕ, ◌≤◌, true, false, Bool, ◌&&◌, if◌then◌else◌, List, [], ◌∷◌, ◌++◌, map, refl, sym, ap, subst, inl, inr, arith}
use Rattle.std.specs.Prelude.{Some, None}
use Rattle.std.proofs.lemmas.Bool.{both_ways}
use Rattle.crib_cards.specs.Sets.{AreDifferent, has, set_where}
use Rattle.crib_cards.specs.declared.letters.Letter.TheVariants as letter
use Rattle.crib_cards.specs.declared.letters.Letter.TheVariants.{Seen}
use Rattle.crib_cards.specs.declared.sides.Dealt.{Dealt}
use Rattle.crib_cards.specs.declared.sides.Side.{Side}
use Rattle.crib_cards.specs.declared.sides.Side.TheVariants.{Owner, Opponent}
use Rattle.crib_cards.specs.declared.moves.Act.{Act}
use Rattle.crib_cards.specs.declared.moves.Move.{Move}
use Rattle.crib_cards.specs.declared.moves.Move.TheVariants.{Card, Go}
use Rattle.crib_play.specs.Record.{mover}
use Rattle.crib_play.specs.Filled.{is_visible}
use Rattle.crib_play.specs.Legal.{IsLegal, MayCome, cards_left, fits, letters_of}
use Rattle.crib_play.specs.History.{Own, Theirs, event_of, act_by, acts_of}
use Rattle.crib_show.specs.declared.show.outcomes.Outcome.TheVariants.{Reached, Lost}
use Rattle.crib_show.specs.Show.{hand_points, crib_points}
use Rattle.crib_problem.specs.declared.problem.Version.TheVariants.{Two}
use Rattle.crib_problem.specs.Setup.{Setup, IsDealOf, start_of, hands_of}
use Rattle.crib_problem.proofs.ExampleProblems.{plays, four_twos, close_to_lost, pairing}
use Rattle.crib_game.specs.Replay.{is_done_for}
use Rattle.crib_deals.specs.Exact.{IsIn}
use Rattle.crib_players.specs.Players.{Player, IsPlayedBy, is_at_loss, own_card}
use Rattle.crib_bound.specs.BeatenPlayers.{IsMissedBy, BeatsPlayer}
use Rattle.crib_bound.specs.Laws.{whole}
use Rattle.crib_bound.specs.Worth.{IsNoCard, LooksLike, MissesAfter, MayPlayAfter, EachCard, EachLeft, IsWorthIf, IsStrategy}
use Rattle.crib_bound.proofs.Bounds.{no_more}
use Rattle.crib_show.specs.Outcome.{outcome_from}

-- ---- deals that beat a player
pairing_is : IsDealOf close_to_lost pairing
unfolding set_where
pairing_is = record { deal = record { held = refl; thrown = refl; distinct = refl; hidden_before = refl }; fixed = refl }

abbrev aces : List Move
aces = Card 1 ∷ Card 0 ∷ []

missed_by_a_pair : IsMissedBy close_to_lost pairing aces
unfolding outcome_from hand_points crib_points
missed_by_a_pair = record { done = refl; missed = λ reached. (let same : Lost ≡ Reached = reached in cc) }

-- not before the deal is done, and not if the owner's third card takes them to hole 121
abbrev both_close : Setup
both_close = record close_to_lost { scores = record { owner = 119; opponent = 118 } }

not_missed_yet : IsMissedBy close_to_lost pairing [] → ⊥
not_missed_yet is = both_ways false refl is.done

not_missed_at_the_end : IsMissedBy both_close pairing (Card 0 ∷ Card 1 ∷ Card 4 ∷ []) → ⊥
unfolding outcome_from hand_points crib_points
not_missed_at_the_end is = is.missed refl

-- whoever leads the ace
abbrev leads_the_ace : Player
leads_the_ace acts = Some 0

pair_is_legal : IsLegal (start_of close_to_lost) (hands_of close_to_lost pairing) aces
pair_is_legal = ((tt, record { not_done = refl; may_take = (refl, refl) }), record { not_done = refl; may_take = (refl, refl) })

pair_beats : BeatsPlayer close_to_lost leads_the_ace pairing
pair_beats = record {
  played = aces;
  by = record {
    deal = pairing_is;
    legal = pair_is_legal;
    begins = record { later = plays Opponent 1 ∷ plays Owner 0 ∷ []; parts = refl };
    by = (
      (tt, λ late card is. (let what : Card 0 ≡ Card card = ap (λ (act : Act). act.what) is in cc)),
      λ late card is. absurd (let side : Opponent ≡ Owner = ap (λ (act : Act). act.side) is in cc),
    );
  };
  failure = inl missed_by_a_pair;
}

-- whoever plays no card is at a loss at once
loss_beats : BeatsPlayer close_to_lost (λ acts. None) pairing
loss_beats = record {
  played = [];
  by = record { deal = pairing_is; legal = tt; begins = record { later = []; parts = refl }; by = tt };
  failure = inr refl;
}

-- too few cards are no deal; nor does a deal beat a player who is never at a loss and always reaches the goal
no_deal_beats : BeatsPlayer close_to_lost leads_the_ace (record pairing { throw = 8 ∷ [] }) → ⊥
no_deal_beats beats = let two = beats.by.deal.deal.thrown in absurd (omega (arith, two))

neither_beats : ((played : List Move) → IsPlayedBy four_twos leads_the_ace pairing played →
    is_at_loss leads_the_ace (start_of four_twos) (hands_of four_twos pairing) played ≡ false) →
    ((played : List Move) → IsPlayedBy four_twos leads_the_ace pairing played → IsMissedBy four_twos pairing played → ⊥) →
    BeatsPlayer four_twos leads_the_ace pairing → ⊥
neither_beats never reached beats = elim beats.failure [
  | inl missed ↦ reached beats.played beats.by missed
  | inr loss ↦ both_ways _ (never beats.played beats.by) loss
]

-- ---- turns, and records that look like some
theirs_is_no_card : IsNoCard event_of (Theirs (Seen 1)) × IsNoCard whole (plays Opponent 1)
theirs_is_no_card = (λ card is. cc, λ card is. absurd (let side : Opponent ≡ Owner = ap (λ (act : Act). act.side) is in cc))

own_is_a_card : (IsNoCard event_of (Own (Card 4)) → ⊥) × (IsNoCard whole (own_card 4) → ⊥)
own_is_a_card = (λ is. is 4 refl, λ is. is 4 refl)

looks_like_a_pair : LooksLike event_of close_to_lost (Theirs (Seen 1) ∷ Own (Card 0) ∷ []) pairing aces
looks_like_a_pair = record {
  deal = pairing_is;
  legal = pair_is_legal;
  begins = record { later = plays Opponent 1 ∷ plays Owner 0 ∷ []; parts = refl };
  seen = refl;
}

too_few_cards : LooksLike event_of close_to_lost [] (record pairing { throw = 8 ∷ [] }) [] → ⊥
too_few_cards looks = let two = looks.deal.deal.thrown in absurd (omega (arith, two))

king_is_not_held : LooksLike event_of close_to_lost (Own (Card 48) ∷ []) pairing (Card 48 ∷ []) → ⊥
king_is_not_held looks = both_ways false refl looks.legal.1.may_take.0

abbrev ace_led : Setup
ace_led = record close_to_lost { version = Two; played = plays Owner 0 ∷ [] }

opening_is_not_there : LooksLike event_of ace_led [] pairing [] → ⊥
opening_is_not_there looks = some_act (plays Owner 0) looks.begins.later looks.begins.parts
  where
    some_act : (last : Act) (later : List Act) → [] ≡ later ++ last ∷ [] → ⊥
    some_act last [] e = cc
    some_act last (act ∷ later) e = cc

ace_is_no_two : LooksLike event_of close_to_lost (Own (Card 4) ∷ []) pairing (Card 0 ∷ []) → ⊥
ace_is_no_two looks =
    let events : Own (Card 0) ∷ [] ≡ Own (Card 4) ∷ [] = looks.seen in let cards : ◌≡◌ {A = ℕ} 0 4 = cc in absurd (omega (arith, cards))

-- ---- after no turn
-- if nothing is seen, nothing was played: the first move is a card
nothing_played : (problem : Setup) → (MayCome (start_of problem) (hands_of problem pairing) Go [] → ⊥) → (pone : Side) (played : List Move) →
    IsLegal (start_of problem) (hands_of problem pairing) played → map event_of (acts_of pone played) ≡ [] → played ≡ []
nothing_played problem led pone [] legal e = refl
nothing_played problem led pone (Card card ∷ past) legal e = absurd cc
nothing_played problem led pone (Go ∷ past) legal e =
    absurd (led (subst (MayCome (start_of problem) (hands_of problem pairing) Go)
    (nothing_played problem led pone past legal.0 (later (act_by pone Go past) (acts_of pone past) (is_visible pone letter.Go (letters_of past)) e)) legal.1))
  where
    later : (act : Act) (acts : List Act) (seen : Bool) → map event_of (if seen then act ∷ acts else acts) ≡ [] → map event_of acts ≡ []
    later act acts true e = absurd cc
    later act acts false e = e

card_is_led : MayCome (start_of close_to_lost) (hands_of close_to_lost pairing) Go [] → ⊥
card_is_led may = both_ways _ may.may_take refl

misses_with_a_pair : MissesAfter event_of close_to_lost (Theirs (Seen 1) ∷ Own (Card 0) ∷ []) pairing
misses_with_a_pair = record { played = aces; looks = looks_like_a_pair; missed = missed_by_a_pair }

-- no deal misses the goal before the lead, and none with a card too few misses it
not_missed_before_the_lead : (MissesAfter event_of close_to_lost [] pairing → ⊥)
    × (MissesAfter event_of close_to_lost [] (record pairing { throw = 8 ∷ [] }) → ⊥)
not_missed_before_the_lead = (
  λ is. (
      let none = nothing_played close_to_lost card_is_led Owner is.played is.looks.legal is.looks.seen in
      both_ways false refl (subst (λ played. is_done_for close_to_lost played ≡ true) none is.missed.done)
      ),
  λ is. (let two = is.looks.deal.deal.thrown in absurd (omega (arith, two))),
)

-- the owner may lead the cards of their hold
leads_are_the_hold : MayPlayAfter event_of close_to_lost [] (λ card. has (0 ∷ 4 ∷ 5 ∷ 6 ∷ []) card && fits [] card) pairing
leads_are_the_hold = record {
  played = [];
  looks = record { deal = pairing_is; legal = tt; begins = record { later = []; parts = refl }; seen = refl };
  not_done = refl;
  asked = refl;
  cards = λ card. refl;
}

-- not any card, none of a deal with a card too few, none if the opponent leads, and none if the owner is at hole 121
not_any_card : MayPlayAfter event_of close_to_lost [] (λ card. true) pairing → ⊥
not_any_card is =
    let none = nothing_played close_to_lost card_is_led Owner is.played is.looks.legal is.looks.seen in
    both_ways false refl
    (subst (λ played. (has (cards_left (hands_of close_to_lost pairing) Owner played) 48 && fits played 48) ≡ true) none (is.cards 48))

none_of_few_cards : (may : ℕ → Bool) → MayPlayAfter event_of close_to_lost [] may (record pairing { throw = 8 ∷ [] }) → ⊥
none_of_few_cards may is = let two = is.looks.deal.deal.thrown in absurd (omega (arith, two))

abbrev they_lead : Setup
they_lead = record close_to_lost { dealer = Owner }

none_if_they_lead : (may : ℕ → Bool) → MayPlayAfter event_of they_lead [] may pairing → ⊥
none_if_they_lead may is =
    let none = nothing_played they_lead (λ go. both_ways _ go.may_take refl) Opponent is.played is.looks.legal is.looks.seen in
    let asked : Opponent ≡ Owner = subst (λ played. mover Opponent (letters_of played) ≡ Owner) none is.asked in cc

abbrev at_the_end : Setup
at_the_end = record close_to_lost { scores = record { owner = 121; opponent = 119 } }

none_at_the_end : (may : ℕ → Bool) → MayPlayAfter event_of at_the_end [] may pairing → ⊥
none_at_the_end may is =
    let none = nothing_played at_the_end (λ go. both_ways _ go.not_done refl) Owner is.played is.looks.legal is.looks.seen in
    both_ways _ (subst (λ played. is_done_for at_the_end played ≡ false) none is.not_done) refl

-- ---- deals of which there is some
abbrev other_throw : Dealt
other_throw = record pairing { throw = 8 ∷ 10 ∷ [] }

abbrev has_a_nine : Dealt → Type 0
has_a_nine dealt = has dealt.throw 9 ≡ true

abbrev none_of_the_other : Dealt → ℕ
none_of_the_other dealt = if has dealt.throw 9 then 1 else 0

each_that_is_left : EachLeft (pairing ∷ other_throw ∷ []) none_of_the_other has_a_nine
each_that_is_left dealt (inl e) some = subst has_a_nine e refl
each_that_is_left dealt (inr (inl e)) some = absurd (omega (arith, subst (λ dealt. 1 ≤ none_of_the_other dealt) (sym e) some))
each_that_is_left dealt (inr (inr none)) some = absurd none

first_is_left : (EachLeft (other_throw ∷ pairing ∷ []) (λ dealt. 1) has_a_nine → ⊥) × (EachLeft (pairing ∷ other_throw ∷ []) (λ dealt. 1) has_a_nine → ⊥)
first_is_left = (
  λ each. both_ways false refl (each other_throw (inl refl) (omega arith)),
  λ each. both_ways false refl (each other_throw (inr (inl refl)) (omega arith)),
)

-- ---- strategies
-- without a deal nothing is worth anything
none_without_deals : (is : IsStrategy event_of close_to_lost 1 1) → is.deals ≡ [] → ⊥
none_without_deals is none =
    let worth = subst (λ deals. IsWorthIf event_of close_to_lost EachCard deals [] is.amounts 1) none is.worth in
    let nothing = no_more event_of close_to_lost [] [] is.amounts 1 worth in absurd (omega (arith, nothing))

-- one deal is not there twice, it is in pack order, and no more of it than its parts
not_twice : (value : ℕ) (is : IsStrategy event_of close_to_lost 1 value) → is.deals ≡ pairing ∷ pairing ∷ [] → ⊥
not_twice value is twice = (subst AreDifferent twice is.different).0.0 refl

abbrev nine_first : Dealt
nine_first = record pairing { throw = 9 ∷ 8 ∷ [] }

not_out_of_order : (value : ℕ) (is : IsStrategy event_of close_to_lost 1 value) → is.deals ≡ nine_first ∷ [] → ⊥
not_out_of_order value is alone = both_ways false refl (is.in_order nine_first (subst (IsIn nine_first) (sym alone) (inl refl)))

no_more_than_its_parts : (value : ℕ) (is : IsStrategy event_of close_to_lost 1 value) → is.deals ≡ pairing ∷ [] → is.amounts pairing ≡ 2 → ⊥
no_more_than_its_parts value is alone two =
    let few = is.few pairing (subst (IsIn pairing) (sym alone) (inl refl)) in absurd (omega (arith, few, two))
