-- What the owner's turns, the first lead and the first deal require and give.
use Rattle.std.proofs.Common.{rules}
use Rattle.std.proofs.Common.{◌≡◌, ◌≢◌, ℕ, ◌+◌, ◌<◌, ◌≤◌, List, [], ◌∷◌, map, length, take}
use Rattle.std.proofs.Common.{reverse, get_or, replicate, refl, sym, ap, subst, ◌∙◌, arith}
use Rattle.std.proofs.lemmas.List.{take_all}
use Rattle.crib_cards.specs.Sets.{set_of, set_without_all}
use Rattle.crib_cards.specs.declared.sides.Side.{Side}
use Rattle.crib_cards.specs.declared.sides.Scores.{Scores}
use Rattle.crib_cards.specs.declared.letters.Letter.{Letter}
use Rattle.crib_cards.specs.declared.letters.Letter.TheVariants.{Seen}
use Rattle.crib_play.specs.declared.turns.Turn.{Turn}
use Rattle.crib_play.specs.declared.turns.Turn.TheVariants as turns
use Rattle.crib_cards.specs.Sets.{count_at}
use Rattle.crib_know.specs.Private.Knowledge.{Shows}
use Rattle.crib_cards.specs.declared.moves.Move.{Move}
use Rattle.crib_cards.specs.declared.moves.Act.{Act}
use Rattle.crib_play.specs.Standing.{StandsFor}
use Rattle.crib_play.specs.History.{Event, Own, event_of}
use Rattle.crib_problem.specs.Setup.{Setup, IsSetup, unseen_of, target_of}
use Rattle.crib_know.specs.Knowledge.{Knowledge, played_events, their_ranks, least_value, knowledge_after}
use Rattle.crib_cards.specs.declared.sides.Side.TheVariants.{Opponent}
use Rattle.crib_problem.specs.Played.{cards_by}
use Rattle.crib_know.specs.Private.Knowledge.{at_first_lead}
use Rattle.crib_know.specs.Hidden.{CanShow, CanShowAt, CanDoAt, CanComeAt, IsKnown, KnowsAfter, IsFirstDeal}
use Rattle.crib_know.proofs.LedHistories.{MayCome, IsLed}
use Rattle.crib_play.proofs.TurnFacts.{filter_all}
use Rattle.crib_know.specs.Private.Choice.{chosen_cards}
use Rattle.crib_know.proofs.OpeningLawProofs.{begun_at_first_lead, played_dealt, played_agrees, may_at}
use Rattle.crib_know.proofs.FirstDeals.{Needs, Fixes, first_hold, hold_four, hold_set, hold_within}
use Rattle.crib_know.proofs.FirstDeals.{two_others}
use Rattle.crib_know.proofs.RecordTurns.{possible_led}
use Rattle.crib_know.proofs.KnowledgeFacts.{led_possible, needs_history, begun_fixes}
use Rattle.crib_know.proofs.KnowledgeFacts.{first_deal_is}
use Rattle.crib_know.proofs.CallLemmas.{led_of, own_may}
use Rattle.crib_know.proofs.CallLemmas.{can_show_if, shows_then, play_left}
use Rattle.crib_problem.proofs.HonestTurns.{reverse_more}
use Rattle.crib_problem.proofs.Setups.{without_opening}

-- ---- two names of one knowledge
pub moved : (know now : Knowledge) (problem : Setup) (history : List Event) → know ≡ now → KnowsAfter now problem history → KnowsAfter know problem history
moved know now problem history same knows = let K : Knowledge → Type 0 = λ k. KnowsAfter k problem history in subst K (sym same) knows

-- what holds of the next knowledge after each history makes it a known one
pub known_next : (know now next : Knowledge) (event : Event) → know ≡ now → IsKnown know →
    ((problem : Setup) (history : List Event) → KnowsAfter now problem history → KnowsAfter next problem (event ∷ history)) → IsKnown next
known_next know now next event same known after =
    record { problem = _; history = _; knows = after known.problem known.history (moved now know known.problem known.history (sym same) known.knows) }

-- what a letter that can be shown says of the knowledge
pub moved_shows : (know now : Knowledge) → know ≡ now → (letter : Letter) → CanShowAt now letter → Shows know letter
moved_shows know now same letter can = shows_then know can.0 can.1 (moved know now can.0 can.1 same can.2) letter can.3

pub moved_left : (know now : Knowledge) → know ≡ now → (rank : ℕ) → CanShowAt now (Seen rank) → (count_at know.ranks_seen rank < 255) × (1 ≤ know.opponent_left)
moved_left know now same rank can = play_left know can.0 can.1 (moved know now can.0 can.1 same can.2) rank can.3

-- what can be shown after one history that a knowledge represents can be shown after each
pub moved_show : (know now : Knowledge) → know ≡ now → (letter : Letter) → CanShowAt now letter → (problem : Setup) (history : List Event) →
    KnowsAfter know problem history → CanShow problem history letter
moved_show know now same letter can problem history knows = can_show_if know problem history knows letter (moved_shows know now same letter can)

pub opponent_asked : (turn : Turn) → turn ≡ turns.Opponent → turn ≢ turns.Over
opponent_asked turn e f = let no : turns.Opponent ≡ turns.Over = sym e ∙ f in absurd cc

-- what the owner can do
pub moved_can : (know now : Knowledge) → know ≡ now → (what : Move) → CanDoAt now what → CanDoAt know what
moved_can know now same what can = let C : Knowledge → Type 0 = λ k. CanDoAt k what in subst C (sym same) can

-- ---- at the first lead
pub start_knows : (problem : Setup) → IsSetup problem → (dealer : Side) (scores : Scores) (target : ℕ) (next : Knowledge) → dealer ≡ problem.dealer →
    scores ≡ problem.scores → target ≡ target_of problem →
    StandsFor next.round (record { dealer = dealer; scores = scores; target = target }) [] → next.own_left ≡ set_of problem.hold →
    next.ranks_seen ≡ replicate 13 0 → next.opponent_left ≡ 4 → next.least ≡ 1 → next.unseen ≡ unseen_of problem → next.fixed ≡ set_of [] →
    KnowsAfter next (at_first_lead problem) []
start_knows problem setup dealer scores target next same_dealer same_scores same_target stands own ranks left least unseen fixed =
    search (rules, led_possible (at_first_lead problem) (without_opening problem setup) [] tt (begun_at_first_lead problem []), filter_all problem.hold)

-- what the owner knows after the opening
pub played_knows : (problem : Setup) → IsSetup problem → (acts : List Act) → acts ≡ problem.played → (n : ℕ) → length acts ≤ n → (know now next : Knowledge) →
    know ≡ now → KnowsAfter now (at_first_lead problem) (map event_of (reverse (take n acts))) → next.fixed ≡ set_of (cards_by Opponent (reverse acts)) →
    next ≡ record know { fixed = next.fixed } → KnowsAfter next problem (played_events problem)
played_knows problem setup acts value n past know now next same knows fixed others =
    let all = same ∙ knows.knowledge ∙ ap (λ (played : List Act). knowledge_after (at_first_lead problem) (map event_of (reverse played)))
    (take_all n acts past ∙ value) in
    record {
      setup = setup;
      possible = (played_dealt problem setup, played_agrees problem setup);
      begun = record { later = []; parts = refl };
      knowledge = others ∙ (λ i. record (all i) { fixed = (fixed ∙ ap (λ (played : List Act). set_of (cards_by Opponent (reverse played))) value) i });
    }

-- ---- the first deal
module _ (know : Knowledge) (problem : Setup) (history : List Event) (knows : KnowsAfter know problem history) where
  abbrev seen_ranks : List ℕ
  seen_ranks = their_ranks history

  abbrev seen_least : ℕ
  seen_least = least_value problem history

  abbrev seen_needs : Needs problem knows.setup seen_ranks seen_least
  seen_needs = needs_history problem knows.setup history (led_of know problem history knows)

  abbrev seen_fixes : Fixes problem knows.setup seen_ranks
  seen_fixes = begun_fixes problem knows.setup history knows.begun

  -- the cards of the first hold
  abbrev pub know_hold : List ℕ
  know_hold = chosen_cards know.ranks_seen know.least know.fixed know.opponent_left know.unseen

  pub know_four : length know_hold ≡ 4
  know_four = rw knows.knowledge (hold_four problem knows.setup seen_ranks seen_least seen_needs seen_fixes)

  -- the cards left for the throw
  module _ (hold : List ℕ) (is : hold ≡ know_hold) (rest : List ℕ) (without : rest ≡ set_without_all know.unseen hold) where
    hold_is : hold ≡ first_hold problem knows.setup seen_ranks seen_least
    hold_is = is ∙ ap (λ (k : Knowledge). chosen_cards k.ranks_seen k.least k.fixed k.opponent_left k.unseen) knows.knowledge

    rest_is : rest ≡ set_without_all (unseen_of problem) (first_hold problem knows.setup seen_ranks seen_least)
    rest_is = without ∙ (λ i. set_without_all (knows.knowledge i).unseen (hold_is i))

    pub rest_two : 2 ≤ length rest
    rest_two =
        let two = two_others problem knows.setup (first_hold problem knows.setup seen_ranks seen_least)
        (hold_four problem knows.setup seen_ranks seen_least seen_needs seen_fixes)
        (hold_set problem knows.setup seen_ranks seen_least seen_needs seen_fixes)
        (hold_within problem knows.setup seen_ranks seen_least seen_needs seen_fixes) in
        omega (arith, two, ap length rest_is)

    pub first_is : (throw : List ℕ) → throw ≡ take 2 rest → IsFirstDeal problem history (record { hold = hold; throw = throw })
    first_is throw two = rw (hold_is, two ∙ ap (take 2) rest_is) (first_deal_is problem knows.setup history (led_of know problem history knows) knows.begun)

-- ---- a turn that is seen
pub come_as : (know : Knowledge) (event other : Event) → event ≡ other → CanComeAt know event → CanComeAt know other
come_as know event other same can = let M : Event → Type 0 = λ e. CanComeAt know e in subst M same can

pub knows_as : (know : Knowledge) (problem : Setup) (history : List Event) (event other : Event) → other ≡ event → KnowsAfter know problem (event ∷ history) →
    KnowsAfter know problem (other ∷ history)
knows_as know problem history event other same knows = let K : Event → Type 0 = λ e. KnowsAfter know problem (e ∷ history) in subst K (sym same) knows

pub come_own : (know : Knowledge) (what : Move) → CanComeAt know (Own what) → CanDoAt know what
come_own know what can = own_may know can.0 can.1 can.2 what (possible_led can.0 can.2.setup (Own what ∷ can.1) can.3).1

-- one more turn of the opening
pub see_next : (problem : Setup) (setup : IsSetup problem) (acts : List Act) → acts ≡ problem.played → (know : Knowledge) (i : ℕ) (act : Act) →
    i < length acts → act ≡ get_or acts i act → KnowsAfter know (at_first_lead problem) (map event_of (reverse (take i acts))) →
    CanComeAt know (event_of act)
see_next problem setup acts value know i act lt at knows =
    let bare = at_first_lead problem in
    let history = map event_of (reverse (take i acts)) in
    let M : List Act → Type 0 = λ played.
    i < length played → act ≡ get_or played i act → MayCome bare (map event_of (reverse (take i played))) (event_of act) in
    let led : IsLed bare (event_of act ∷ history) = (led_of know bare history knows, subst M (sym value) (may_at problem setup i act) lt at) in
    (bare, history, knows, led_possible bare knows.setup (event_of act ∷ history) led (begun_at_first_lead problem (event_of act ∷ history)))

pub seen_next : (know : Knowledge) (problem : Setup) (acts : List Act) (i : ℕ) (act : Act) → i < length acts → act ≡ get_or acts i act →
    KnowsAfter know problem (event_of act ∷ map event_of (reverse (take i acts))) → KnowsAfter know problem (map event_of (reverse (take (i + 1) acts)))
seen_next know problem acts i act lt at knows = rw (reverse_more acts i act lt at) knows
