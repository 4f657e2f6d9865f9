-- A player who sees suits, as one who sees none takes the opponent's cards for the first of their ranks.
use Rattle.std.proofs.Common.{◌≡◌, ◌⊎◌, ℕ, ◌+◌, ◌-◌, ◌≤◌, Bool, leb, true, false, not, cond, eqb, ◌&&◌, ◌||◌, List, [], ◌∷◌, ◌++◌, length, map, take}
use Rattle.std.proofs.Common.{Option, refl, sym, ap, subst, ◌∙◌, inl, inr, arith, length-append}
use Rattle.std.specs.List.{list_any}
use Rattle.std.proofs.lemmas.Bool.{both_ways, false_from_ne_true, eq-eqb, eqb-true, not-true, or_cases, or_right}
use Rattle.std.proofs.lemmas.Bool.Decides.{nat_tests}
use Rattle.std.proofs.lemmas.List.{length-map, length-reverse, map-append, take_at}
use Rattle.crib_cards.specs.Cards.{card_value, rank_of}
use Rattle.crib_cards.specs.Sets.{has}
use Rattle.crib_cards.specs.Sides.{same_side}
use Rattle.crib_cards.specs.Start.{Start, Hands, pone_of}
use Rattle.crib_cards.specs.declared.sides.Side.{Side}
use Rattle.crib_cards.specs.declared.sides.Side.TheVariants.{Owner, Opponent}
use Rattle.crib_cards.specs.declared.sides.Dealt.{Dealt}
use Rattle.crib_cards.specs.declared.sides.Scores.{Scores}
use Rattle.crib_cards.specs.declared.letters.Letter.TheVariants.{Seen, Go}
use Rattle.crib_cards.specs.declared.moves.Act.{Act}
use Rattle.crib_cards.specs.declared.moves.Move.{Move}
use Rattle.crib_cards.specs.declared.moves.Move.TheVariants as move
use Rattle.crib_cards.proofs.Members.{has_here, has_there}
use Rattle.crib_cards.proofs.SetLemmas.{has_push}
use Rattle.crib_play.specs.Filled.{is_visible}
use Rattle.crib_play.specs.Record.{count_of, mover, pile_of}
use Rattle.crib_play.specs.Score.{is_done, scores_after}
use Rattle.crib_play.specs.Legal.{IsLegal, MayTake, cards_left, cards_of, letters_of}
use Rattle.crib_play.specs.History.{Event, Own, Theirs, act_by, acts_of, event_by, event_of, moves_of}
use Rattle.crib_show.specs.declared.show.outcomes.Outcome.TheVariants.{Reached}
use Rattle.crib_problem.specs.Played.{cards_by}
use Rattle.crib_problem.specs.Setup.{Setup, BeginsAsPlayed, hands_of, played_back, start_of}
use Rattle.crib_know.proofs.CardsLeft.{has-filter_parts}
use Rattle.crib_know.proofs.Deals.{hold_unseen}
use Rattle.crib_game.specs.Following.{is_playable_at}
use Rattle.crib_game.specs.Replay.{outcome_for, play_scores}
use Rattle.crib_players.specs.Players.{AreBy, Player, is_at_loss, own_card, player_by}
use Rattle.crib_bound.specs.BeatenPlayers.{BeatsPlayer}
use Rattle.crib_bound.proofs.RenamedDeals.{free_cards, free_from_parts, free_parts}
use Rattle.crib_bound.proofs.Recast.{HasFirst, card_for, casts, next_card, own_kept, own_left, recast, recast_letters}

-- ---- the acts that a player takes events for
abbrev pub act_for : Setup → (ℕ → ℕ) → Event → List Act → Act
act_for problem name (Own what) acts = record { side = Owner; what = what }
act_for problem name (Theirs (Seen rank)) acts =
    record { side = Opponent; what = move.Card (next_card problem name rank (cards_of (moves_of acts))) }
act_for problem name (Theirs Go) acts = record { side = Opponent; what = move.Go }

-- after the opening
abbrev pub seen_as : Setup → (ℕ → ℕ) → List Event → List Act
seen_as problem name [] = played_back problem
seen_as problem name (event ∷ later) = act_for problem name event (seen_as problem name later) ∷ seen_as problem name later

-- what the player plays
abbrev pub choice_as : Setup → (ℕ → ℕ) → Player → List Event → Option ℕ
choice_as problem name player history = player (seen_as problem name (take (length history - length problem.played) history))

-- ---- the cards of visible turns
cards_visible : (pone : Side) (past : List Move) → cards_of (moves_of (acts_of pone past)) ≡ cards_of past
cards_visible pone [] = refl
cards_visible pone (move.Card card ∷ past) = ap (λ (cards : List ℕ). cards ++ card ∷ []) (cards_visible pone past)
cards_visible pone (move.Go ∷ past) =
    elim (is_visible pone Go (letters_of past)) as (λ b. cards_of (moves_of (cond b (act_by pone move.Go past ∷ acts_of pone past) (acts_of pone past))) ≡
    cards_of past) [
      | true ↦ cards_visible pone past
      | false ↦ cards_visible pone past
    ]

theirs_shown : (later before : List Act) (card : ℕ) → has (cards_by Opponent before) card ≡ true → has (cards_of (moves_of (later ++ before))) card ≡ true
theirs_shown [] [] card h = h
theirs_shown [] (act ∷ before) card h = one act.side act.what (λ there. theirs_shown [] before card there) h
  where
    one : (side : Side) (what : Move) → (has (cards_by Opponent before) card ≡ true → has (cards_of (moves_of before)) card ≡ true) →
        has (cards_by Opponent (record { side = side; what = what } ∷ before)) card ≡ true → has (cards_of (what ∷ moves_of before)) card ≡ true
    one Owner (move.Card other) rest h = has_push (cards_of (moves_of before)) other card ∙ (λ i. rest h i || eqb other card)
    one Owner move.Go rest h = rest h
    one Opponent (move.Card other) rest h = grind (arith, nat_tests, has_push (cards_of (moves_of before)) other card, rest, h)
    one Opponent move.Go rest h = rest h
theirs_shown (act ∷ later) before card h = one act.what (theirs_shown later before card h)
  where
    one : (what : Move) → has (cards_of (moves_of (later ++ before))) card ≡ true → has (cards_of (what ∷ moves_of (later ++ before))) card ≡ true
    one (move.Card other) there = has_push (cards_of (moves_of (later ++ before))) other card ∙ (λ i. there i || eqb other card)
    one move.Go there = there

module _ {problem : Setup} {name : ℕ → ℕ} {dealt other : Dealt} (of : HasFirst problem name dealt other) where
  abbrev start : Start
  start = start_of problem

  abbrev pone : Side
  pone = pone_of start

  abbrev hands : Hands
  hands = hands_of problem dealt

  abbrev cast : List Move → List Move
  cast past = recast problem name past

  abbrev free : List ℕ
  free = free_cards problem

  -- each card that is shown is the owner's or is shown by the opponent
  shown_by : (past : List Move) → IsLegal start hands past → (card : ℕ) → has (cards_of past) card ≡ true →
      (has problem.hold card ≡ true) ⊎ (has (cards_by Opponent (acts_of pone past)) card ≡ true)
  shown_by [] legal card h = absurd (both_ways false refl h)
  shown_by (move.Card first ∷ past) legal card h =
      one (mover pone (letters_of past)) legal.1.may_take (λ there. shown_by past legal.0 card there)
    where
      one : (side : Side) → MayTake hands side (move.Card first) past →
          (has (cards_of past) card ≡ true → (has problem.hold card ≡ true) ⊎ (has (cards_by Opponent (acts_of pone past)) card ≡ true)) →
          (has problem.hold card ≡ true) ⊎ (has (cards_by Opponent (record { side = side; what = move.Card first } ∷ acts_of pone past)) card ≡ true)
      one Owner take rest = elim (or_cases _ _ (sym (has_push (cards_of past) first card) ∙ h)) [
        | inl there ↦ rest there
        | inr here ↦ inl (subst (λ (k : ℕ). has problem.hold k ≡ true) (eqb-true first card here)
            (has-filter_parts (λ c. not (has (cards_of past) c)) problem.hold first take.0).0)
      ]
      one Opponent take rest = elim (or_cases _ _ (sym (has_push (cards_of past) first card) ∙ h)) [
        | inl there ↦ elim (rest there) [
          | inl mine ↦ inl mine
          | inr shown ↦ inr (has_there first card (cards_by Opponent (acts_of pone past)) shown)
        ]
        | inr here ↦ inr (subst (λ (k : ℕ). has (first ∷ cards_by Opponent (acts_of pone past)) k ≡ true) (eqb-true first card here)
            (has_here first (cards_by Opponent (acts_of pone past))))
      ]
  shown_by (move.Go ∷ past) legal card h = one (is_visible pone Go (letters_of past)) (mover pone (letters_of past)) (shown_by past legal.0 card h)
    where
      one : (visible : Bool) (side : Side) → (has problem.hold card ≡ true) ⊎ (has (cards_by Opponent (acts_of pone past)) card ≡ true) →
          (has problem.hold card ≡ true)
          ⊎ (has (cards_by Opponent (cond visible (record { side = side; what = move.Go } ∷ acts_of pone past) (acts_of pone past))) card ≡ true)
      one true Owner rest = rest
      one true Opponent rest = rest
      one false side rest = rest

  -- a record without free cards stays
  recast_same : (past : List Move) → ((card : ℕ) → has (cards_of past) card ≡ true → has free card ≡ false) → cast past ≡ past
  unfolding recast
  recast_same [] none = refl
  recast_same (move.Card card ∷ past) none =
      let rest = recast_same past (λ k h. none k (has_push (cards_of past) card k ∙ (λ i. h i || eqb card k))) in
      let here : has free card ≡ false = none card (has_push (cards_of past) card card ∙ or_right _ _ (eq-eqb card card refl)) in
      λ i. move.Card (kept here i) ∷ rest i
    where
      kept : has free card ≡ false → card_for problem name (cards_of (cast past)) card ≡ card
      kept out = rw out refl
  recast_same (move.Go ∷ past) none = ap (λ (moves : List Move). move.Go ∷ moves) (recast_same past none)

  -- the opening stays
  opening_same : (past : List Move) → IsLegal start hands past → acts_of pone past ≡ played_back problem → acts_of pone (cast past) ≡ played_back problem
  opening_same past legal is = ap (acts_of pone) (recast_same past (λ card h. elim (shown_by past legal card h) [
    | inl mine ↦ own_kept of card mine
    | inr shown ↦ false_from_ne_true _ (λ loose. both_ways _ (free_parts problem card loose).2
        (subst (λ (acts : List Act). has (cards_by Opponent acts) card ≡ true) is shown))
  ])) ∙ is

  -- a card of the opponent after the opening is free
  free_later : (past : List Move) (later : List Act) (card : ℕ) → acts_of pone past ≡ later ++ played_back problem →
      has (cards_left hands Opponent past) card ≡ true → has free card ≡ true
  free_later past later card is h =
      let parts = has-filter_parts (λ c. not (has (cards_of past) c)) dealt.hold card h in
      free_from_parts problem card (hold_unseen problem of.setup dealt of.deal card parts.0) (false_from_ne_true _ (λ fixed.
      both_ways _ (not-true _ parts.1) (subst (λ (cards : List ℕ). has cards card ≡ true) (cards_visible pone past)
      (subst (λ (acts : List Act). has (cards_of (moves_of acts)) card ≡ true) (sym is) (theirs_shown later (played_back problem) card fixed)))))

  card_act : (side : Side) (past : List Move) (later : List Act) (card : ℕ) → acts_of pone past ≡ later ++ played_back problem →
      MayTake hands side (move.Card card) past → acts_of pone (cast past) ≡ seen_as problem name (map event_of later) →
      ◌≡◌ {A = Act} (record { side = side; what = move.Card (card_for problem name (cards_of (cast past)) card) })
      (act_for problem name (event_by side (move.Card card)) (seen_as problem name (map event_of later)))
  card_act Owner past later card is take same =
      let mine = own_kept of card (has-filter_parts (λ c. not (has (cards_of past) c)) problem.hold card take.0).0 in
      rw mine refl
  card_act Opponent past later card is take same =
      let loose = free_later past later card is take.0 in
      rw loose (ap (λ (cards : List ℕ). record { side = Opponent; what = move.Card (next_card problem name (rank_of card) cards) })
      (sym (cards_visible pone (cast past)) ∙ ap (λ (acts : List Act). cards_of (moves_of acts)) same))

  go_act : (side : Side) (acts : List Act) → ◌≡◌ {A = Act} (record { side = side; what = move.Go }) (act_for problem name (event_by side move.Go) acts)
  go_act Owner acts = refl
  go_act Opponent acts = refl

  -- the acts of the other deal
  pub cast_acts : (past : List Move) → IsLegal start hands past → (later : List Act) → acts_of pone past ≡ later ++ played_back problem →
      acts_of pone (cast past) ≡ seen_as problem name (map event_of later)
  unfolding recast
  cast_acts past legal [] is = opening_same past legal is
  cast_acts [] legal (act ∷ later) is = absurd cc
  cast_acts (move.Card card ∷ past) legal (act ∷ later) is =
      let first : act_by pone (move.Card card) past ≡ act = cc in
      let rest : acts_of pone past ≡ later ++ played_back problem = cc in
      let same = cast_acts past legal.0 later rest in
      let one = card_act (mover pone (letters_of past)) past later card rest legal.1.may_take same in
      let who = ap (mover pone) (recast_letters problem name past) in
      (λ i. record { side = who i; what = move.Card (card_for problem name (cards_of (cast past)) card) } ∷ acts_of pone (cast past))
      ∙ (λ i. one i ∷ same i)
      ∙ ap (λ (a : Act). act_for problem name (event_of a) (seen_as problem name (map event_of later)) ∷ seen_as problem name (map event_of later)) first
  cast_acts (move.Go ∷ past) legal (act ∷ later) is =
      go (is_visible pone Go (letters_of past)) (ap (is_visible pone Go) (recast_letters problem name past)) is (λ its rest. cast_acts past legal.0 its rest)
    where
      go : (visible : Bool) → is_visible pone Go (letters_of (cast past)) ≡ visible →
          cond visible (act_by pone move.Go past ∷ acts_of pone past) (acts_of pone past) ≡ act ∷ later ++ played_back problem →
          ((its : List Act) → acts_of pone past ≡ its ++ played_back problem → acts_of pone (cast past) ≡ seen_as problem name (map event_of its)) →
          acts_of pone (move.Go ∷ cast past) ≡ seen_as problem name (map event_of (act ∷ later))
      go true seen is again =
          let first : act_by pone move.Go past ≡ act = cc in
          let rest : acts_of pone past ≡ later ++ played_back problem = cc in
          let same = again later rest in
          let who = ap (mover pone) (recast_letters problem name past) in
          rw seen ((λ i. record { side = who i; what = move.Go } ∷ acts_of pone (cast past))
          ∙ (λ i. go_act (mover pone (letters_of past)) (seen_as problem name (map event_of later)) i ∷ same i)
          ∙ ap (λ (a : Act). act_for problem name (event_of a) (seen_as problem name (map event_of later)) ∷ seen_as problem name (map event_of later)) first)
      go false seen is again = rw seen (again (act ∷ later) is)

-- ---- the player
module _ (problem : Setup) (name : ℕ → ℕ) (player : Player) where
  abbrev blind : Player
  blind = player_by event_of (choice_as problem name player)

  abbrev few : ℕ
  few = length problem.played

  opening_by : (acts : List Act) → length acts ≤ few → AreBy few player acts
  opening_by [] short = tt
  opening_by (act ∷ before) short = (opening_by before (omega (arith, short)), λ late. absurd (omega (arith, short, late)))

  opening_long : length (played_back problem) ≡ few
  opening_long = length-reverse problem.played

  -- after the opening the player sees the later events
  blind_is : (later : List Act) → blind (later ++ played_back problem) ≡ player (seen_as problem name (map event_of later))
  blind_is later = ap (λ (events : List Event). player (seen_as problem name events))
      (ap (λ (events : List Event). take (length events - few) events) (map-append event_of later (played_back problem))
      ∙ take_at (map event_of later) (map event_of (played_back problem)) _ (
      let sizes = length-append (map event_of later) (map event_of (played_back problem)) in
      let back = length-map (played_back problem) event_of in
      let long = opening_long in
      omega (arith, sizes, back, long)))

  own_act : (act : Act) (acts : List Act) (card : ℕ) → act_for problem name (event_of act) acts ≡ own_card card → act ≡ own_card card
  own_act act acts card is = one act.side act.what is
    where
      one : (side : Side) (what : Move) → act_for problem name (event_by side what) acts ≡ own_card card →
          ◌≡◌ {A = Act} (record { side = side; what = what }) (own_card card)
      one Owner what is = is
      one Opponent (move.Card other) is = absurd (let side : Opponent ≡ Owner = ap (λ (a : Act). a.side) is in cc)
      one Opponent move.Go is = absurd (let side : Opponent ≡ Owner = ap (λ (a : Act). a.side) is in cc)

  by_seen : (later : List Act) → AreBy few blind (later ++ played_back problem) → AreBy few player (seen_as problem name (map event_of later))
  by_seen [] by = opening_by (played_back problem) (let long = opening_long in omega (arith, long))
  by_seen (act ∷ later) by = (
    by_seen later by.0,
    λ late card is.
        let sizes = length-append later (played_back problem) in
        let long = opening_long in
        sym (blind_is later) ∙ by.1 (omega (arith, sizes, long)) card (own_act act (seen_as problem name (map event_of later)) card is),
  )

  seen_begins : (later : List Event) → BeginsAsPlayed problem (seen_as problem name later)
  seen_begins [] = record { later = []; parts = refl }
  seen_begins (event ∷ later) =
      let before = seen_begins later in
      record {
        later = act_for problem name event (seen_as problem name later) ∷ before.later;
        parts = λ i. act_for problem name event (seen_as problem name later) ∷ before.parts i;
      }

  module _ {dealt other : Dealt} (of : HasFirst problem name dealt other) (beats : BeatsPlayer problem blind dealt)
      (same_end : (scores : Scores) → outcome_for problem other scores ≡ Reached → outcome_for problem dealt scores ≡ Reached) where
    abbrev lead : Start
    lead = start_of problem

    abbrev played : List Move
    played = beats.played

    abbrev moves : List Move
    moves = recast problem name played

    letters : letters_of moves ≡ letters_of played
    letters = recast_letters problem name played

    acts_are : acts_of (pone_of lead) moves ≡ seen_as problem name (map event_of beats.by.begins.later)
    acts_are = cast_acts of played beats.by.legal beats.by.begins.later beats.by.begins.parts

    stated_same : player (acts_of (pone_of lead) moves) ≡ blind (acts_of (pone_of lead) played)
    stated_same = ap player acts_are ∙ sym (blind_is beats.by.begins.later) ∙ ap blind (sym beats.by.begins.parts)

    left_same : cards_left (hands_of problem other) Owner moves ≡ cards_left (hands_of problem dealt) Owner played
    left_same = own_left of played (casts of played beats.by.legal)

    loss_same : is_at_loss player lead (hands_of problem other) moves ≡ is_at_loss blind lead (hands_of problem dealt) played
    loss_same = λ i.
        not (is_done lead (letters i)) && same_side (mover (pone_of lead) (letters i)) Owner
        && list_any (λ card. leb (count_of (pile_of (letters i)) + card_value card) 31) (left_same i)
        && not (is_playable_at (count_of (pile_of (letters i))) (left_same i) (stated_same i))

    -- the other deal beats the player who sees suits
    pub beats_too : BeatsPlayer problem player other
    beats_too = record {
      played = moves;
      by = record {
        deal = of.also;
        legal = (casts of played beats.by.legal).legal;
        begins = subst (BeginsAsPlayed problem) (sym acts_are) (seen_begins (map event_of beats.by.begins.later));
        by = subst (AreBy few player) (sym acts_are)
            (by_seen beats.by.begins.later (subst (AreBy few blind) beats.by.begins.parts beats.by.by));
      };
      failure = elim beats.failure [
        | inl missed ↦ inl (record {
          done = ap (is_done lead) letters ∙ missed.done;
          missed = λ reached. missed.missed (same_end (play_scores problem played)
              (subst (λ (scores : Scores). outcome_for problem other scores ≡ Reached) (ap (scores_after lead) letters) reached));
        })
        | inr loss ↦ inr (loss_same ∙ loss)
      ];
    }
